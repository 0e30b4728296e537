-- A fault of typing stands at the place of the part that it is a fault of.
use Rattle.std.proofs.Common.{◌≡◌, ℕ, List, [], ◌∷◌, Bool, true, inl, inr, Option, Some, None, refl}
use Rattle.std.proofs.Common.{sym}
use Rattle.std.proofs.Common.{subst}
use Rattle.std.proofs.lemmas.Bool.{eq-eqb, or_right, or_left}
use Rattle.idx_core.specs.declared.span.Span.{Span}
use Rattle.text_core.specs.Refusals.{nothing, refuse, check, part, if_known}
use Rattle.t_types.specs.Tree.{Ty, IntTy, VarTy, CodeTy, ExistsTy, TupleTy, TFile, NoRegs, MoreRegs, TFields}
use Rattle.t_types.specs.Fields.{TField, AField}
use Rattle.t_types.specs.Fits.{RegTypes}
use Rattle.t_terms.specs.Tree.{TBase, Reg, Int, Label, Data, TValue, Plain, Pack, TInstr, Arith, Bnz, Ld, Malloc, Mov}
use Rattle.t_terms.specs.Tree.{St, Unpack, TEnd, Jmp, Halt, TProg}
use Rattle.t_terms.specs.Spanned.{SDatum, SData}
use Rattle.t_terms.specs.Registers.{no_types}
use Rattle.t_rules.specs.Faults.{Note, FaultWith, if_code, if_exists, if_tuple, if_field, BaseFaultWith, ValueFaultWith}
use Rattle.t_rules.specs.Faults.{FileFaultWith, EnterFaultWith, InstrFaultWith, EndFaultWith, DatumFaultWith}
use Rattle.t_rules.specs.Faults.{DataFaultWith, HeapFaultWith}
use Rattle.listing.specs.Before.{is_at, in_fields, in_heap}

-- the fault stands at this place, where it stands
abbrev pub StandsAt : Span → FaultWith → Type 0
StandsAt s fault = (c : Note) (p : Span) → fault c p → p ≡ s

none : (s : Span) → StandsAt s nothing
none s c p h = absurd h

here : (s : Span) (code : Note) → StandsAt s (refuse code s)
here s code c p h = h.1

by_check : (s : Span) (A : Type 0) (f r : FaultWith) → StandsAt s f → StandsAt s r → StandsAt s (check A f r)
by_check s A f r x y c p (inl h) = x c p h.1
by_check s A f r x y c p (inr h) = y c p h.1

by_part : (s : Span) (A : Type 0) (f : FaultWith) (Gives : A → Type 0) (r : A → FaultWith) → StandsAt s f →
    ((x : A) → StandsAt s (r x)) → StandsAt s (part f Gives r)
by_part s A f Gives r x y c p (inl h) = x c p h
by_part s A f Gives r x y c p (inr h) = y h.0 c p h.2

by_known : (s : Span) (A : Type 0) (o : Option A) (f : FaultWith) (r : A → FaultWith) → StandsAt s f →
    ((x : A) → StandsAt s (r x)) → StandsAt s (if_known o f r)
by_known s A None f r x y = x
by_known s A (Some a) f r x y = y a

by_code : (s : Span) (t : Ty) (f : FaultWith) (r : ℕ → TFile → FaultWith) → StandsAt s f →
    ((n : ℕ) (file : TFile) → StandsAt s (r n file)) → StandsAt s (if_code t f r)
by_code s IntTy f r x y = x
by_code s (VarTy i) f r x y = x
by_code s (CodeTy n file) f r x y = y n file
by_code s (ExistsTy t) f r x y = x
by_code s (TupleTy fs) f r x y = x

by_exists : (s : Span) (t : Ty) (f : FaultWith) (r : Ty → FaultWith) → StandsAt s f → ((u : Ty) → StandsAt s (r u)) →
    StandsAt s (if_exists t f r)
by_exists s IntTy f r x y = x
by_exists s (VarTy i) f r x y = x
by_exists s (CodeTy n file) f r x y = x
by_exists s (ExistsTy t) f r x y = y t
by_exists s (TupleTy fs) f r x y = x

by_tuple : (s : Span) (t : Ty) (f : FaultWith) (r : TFields → FaultWith) → StandsAt s f →
    ((fs : TFields) → StandsAt s (r fs)) → StandsAt s (if_tuple t f r)
by_tuple s IntTy f r x y = x
by_tuple s (VarTy i) f r x y = x
by_tuple s (CodeTy n file) f r x y = x
by_tuple s (ExistsTy t) f r x y = x
by_tuple s (TupleTy fs) f r x y = y fs

by_field : (s : Span) (o : Option TField) (f : FaultWith) (r : Ty → Bool → FaultWith) → StandsAt s f →
    ((t : Ty) (flag : Bool) → StandsAt s (r t flag)) → StandsAt s (if_field o f r)
by_field s None f r x y = x
by_field s (Some (AField t flag)) f r x y = y t flag

at_file : (n : ℕ) (g : RegTypes) (s : Span) (file : TFile) → StandsAt s (FileFaultWith n g s file)
at_file n g s NoRegs = none s
at_file n g s (MoreRegs r t file) = by_check s _ _ _ (here s _) (at_file n g s file)

module _ (P : TProg) where
  at_base : (g : RegTypes) (s : Span) (b : TBase) → StandsAt s (BaseFaultWith g s b)
  at_base g s (Reg r) = by_known s Ty (g r) _ _ (here s _) (λ t. none s)
  at_base g s (Int i) = none s
  at_base g s (Label l) = none s
  at_base g s (Data d) = none s

  at_value : (n : ℕ) (g : RegTypes) (s : Span) (v : TValue) → StandsAt s (ValueFaultWith P n g s v)
  at_value n g s (Plain b []) = at_base g s b
  at_value n g s (Plain b (u ∷ us)) =
      by_part s Ty _ _ _ (at_base g s b)
      (λ t. by_code s t _ _ (here s _) (λ owes file. by_check s _ _ _ (here s _) (none s)))
  at_value n g s (Pack hidden v shape) =
      by_part s Ty _ _ _ (at_value n g s v)
      (λ t. by_exists s shape _ _ (here s _) (λ body. by_check s _ _ _ (here s _) (none s)))

  at_target : (n : ℕ) (g : RegTypes) (s : Span) (v : TValue) → StandsAt s (EnterFaultWith P n g s v)
  at_target n g s v =
      by_part s Ty _ _ _ (at_value n g s v)
      (λ t. by_code s t _ _ (here s _)
      (λ owes file. by_check s _ _ _ (here s _) (at_file n g s file)))

  pub at_instr : (n : ℕ) (g : RegTypes) (s : Span) (i : TInstr) → StandsAt s (InstrFaultWith P n g s i)
  at_instr n g s (Arith op rd rs v) =
      by_known s Ty (g rs) _ _ (here s _)
      (λ t. by_check s _ _ _ (here s _)
      (by_part s Ty _ _ _ (at_value n g s v) (λ u. by_check s _ _ _ (here s _) (none s))))
  at_instr n g s (Bnz r v) =
      by_known s Ty (g r) _ _ (here s _) (λ t. by_check s _ _ _ (here s _) (at_target n g s v))
  at_instr n g s (Ld rd rs i) =
      by_known s Ty (g rs) _ _ (here s _)
      (λ t. by_tuple s t _ _ (here s _)
      (λ fs. by_field s _ _ _ (here s _) (λ u flag. by_check s _ _ _ (here s _) (none s))))
  at_instr n g s (Malloc rd ts) = none s
  at_instr n g s (Mov rd v) = at_value n g s v
  at_instr n g s (St rd i rs) =
      by_known s Ty (g rd) _ _ (here s _)
      (λ t. by_tuple s t _ _ (here s _)
      (λ fs. by_field s _ _ _ (here s _)
      (λ u flag. by_known s Ty (g rs) _ _ (here s _) (λ w. by_check s _ _ _ (here s _) (none s)))))
  at_instr n g s (Unpack rd v) =
      by_part s Ty _ _ _ (at_value n g s v) (λ t. by_exists s t _ _ (here s _) (λ u. none s))

  pub at_end : (n : ℕ) (g : RegTypes) (s : Span) (e : TEnd) → StandsAt s (EndFaultWith P n g s e)
  at_end n g s (Jmp v) = at_target n g s v
  at_end n g s Halt = by_check s _ _ _ (here s _) (none s)

  at_datum : (x : SDatum) → StandsAt x.span (DatumFaultWith P x)
  at_datum x = by_part x.span Ty _ _ _ (at_value 0 no_types x.span x.value)
      (λ t. by_check x.span _ _ _ (here x.span _) (none x.span))

-- what has a span stands there
pub at_itself : (p s : Span) → p ≡ s → is_at p s ≡ true
at_itself p s e = subst (λ q. is_at q s ≡ true) (sym e) (rw (eq-eqb s.start s.start refl, eq-eqb s.end s.end refl) refl)

-- a fault of data stands at a field of theirs
module _ (P : TProg) where
  in_data : (xs : List SDatum) (c : Note) (p : Span) → DataFaultWith P xs c p → in_fields p xs ≡ true
  in_data [] c p h = absurd h
  in_data (x ∷ xs) c p (inl h) = or_left _ _ (at_itself p x.span (at_datum P x c p h))
  in_data (x ∷ xs) c p (inr h) = or_right (is_at p x.span) _ (in_data xs c p h.2)

  pub in_tuples : (xs : List SData) (c : Note) (p : Span) → HeapFaultWith P xs c p → in_heap p xs ≡ true
  in_tuples [] c p h = absurd h
  in_tuples (x ∷ xs) c p (inl h) = or_left _ _ (in_data x.fields c p h)
  in_tuples (x ∷ xs) c p (inr h) = or_right (in_fields p x.fields) _ (in_tuples xs c p h.2)
