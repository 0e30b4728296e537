-- What the checker answers on a value, from what it answers on its parts.
use Rattle.std.proofs.Common.{◌≡◌, ◌≢◌, ℕ, ◌+◌, ◌-◌, ◌<◌, ◌≤◌, List, [], ◌∷◌, length, Some, None, Result, Ok, Err, inl}
use Rattle.std.proofs.Common.{inr, OnOk, refl, sym, ap, ap₂, ◌∙◌, arith, subst}
use Rattle.idx_core.specs.declared.arith.Op.{Op}
use Rattle.idx_core.specs.declared.span.Span.{Span}
use Rattle.text_core.specs.Refusals.{check}
use Rattle.t_types.proofs.Scope.{well_formed_below}
use Rattle.t_types.specs.Tree.{Ty, IntTy, VarTy, CodeTy, ExistsTy, TupleTy, TFile, BelowTypes, put}
use Rattle.t_types.specs.Fits.{Fits, FitsFile, RegTypes}
use Rattle.t_types.specs.WellFormed.{WellFormed}
use Rattle.t_terms.specs.Tree.{TBase, TValue, Plain, Pack, Reg, Arith, Bnz, Mov, Unpack, TProg}
use Rattle.t_terms.specs.Spanned.{SDatum, plain_datum}
use Rattle.t_terms.specs.declared.fault.TCode.{TCode}
use Rattle.t_terms.specs.declared.fault.TCode.TheVariants.{T09, T13, T14, T15, T16}
use Rattle.t_known.specs.declared.refusal.Refusal.{Refusal}
use Rattle.t_known.specs.declared.refusal.Refusal.TheVariants.{Memory, Refused, AtOdds}
use Rattle.t_known.specs.declared.odds.Odds.TheVariants as odds
use Rattle.t_terms.specs.Registers.{no_types, inst_file, with_reg}
use Rattle.t_rules.specs.Rules.{BaseHas, Has, Enters, DatumAccepted}
use Rattle.t_rules.specs.Mismatch.{told, Types, NoPackage}
use Rattle.t_rules.specs.Faults.{Note, FaultWith, bare, at_odds, fitting, if_code, if_exists, PackFaultWith}
use Rattle.t_rules.specs.Faults.{ValueFaultWith, FileFaultWith, EnterFaultWith, InstrFaultWith, DatumFaultWith}
use Rattle.t_types.specs.Bounds.{Bounded, OwedFile}
use Rattle.t_intern.specs.Grown.{IsNumber}
use Rattle.t_intern.specs.Nodes.{at}
use Rattle.t_known.specs.Known.{own, seen, known, IsEntry, IsSound}
use Rattle.t_known.specs.Refusals.{SaysWith, odds_at}
use Rattle.t_check.specs.Verdict.{IsTypeOf, IsPacked, IsFileFit, IsEntered, IsStep}
use Rattle.t_known.specs.declared.registers.Entry.{Entry}
use Rattle.t_known.specs.declared.registers.Registers.{Registers}
use Rattle.t_rules.proofs.Depth.{shallow, bounded, bounded_shift}

-- a fault of a part is one of the whole
pub says_map : (us : List Ty) (f : Refusal) (F G : FaultWith) → ((c : Note) (p : Span) → F c p → G c p) →
    SaysWith us f F → SaysWith us f G
says_map us Memory F G go h = tt
says_map us (Refused c s) F G go h = go (c, None) s h
says_map us (AtOdds c s odds) F G go h = (h.0, go (c, told (odds_at us odds)) s h.1)

-- types that are at odds, and those of their numbers
pub says_types : (us : List Ty) (code : TCode) (n : ℕ) (s : Span) (F : FaultWith) (w u : ℕ) (t v : Ty) →
    w < length us → u < length us → at us w ≡ t → at us u ≡ v → F (code, told (Types t v n)) s →
    SaysWith us (AtOdds code s (odds.Types w u n)) F
says_types us code n s F w u t v lw lu e1 e2 h =
    ((lw, lu), subst (λ m. F (code, told m) s) (sym (ap₂ (λ a b. Types a b n) e1 e2)) h)

-- the same of a type that is no package type
pub says_package : (us : List Ty) (n : ℕ) (s : Span) (F : FaultWith) (u : ℕ) (t : Ty) → u < length us → at us u ≡ t →
    F (T15, told (NoPackage t n)) s → SaysWith us (AtOdds T15 s (odds.NoPackage u n)) F
says_package us n s F u t lt e h = (lt, subst (λ m. F (T15, told m) s) (sym (ap (λ a. NoPackage a n) e)) h)

-- what holds in any case
pub on_any : {G : Type 0} (r : Result (Unit {0}) Refusal) → G → OnOk r G
on_any (Ok u) h = h
on_any (Err f) h = tt

-- a type of another form
pub other_than_exists : (t : Ty) (other : FaultWith) (go : Ty → FaultWith) (c : Note) (p : Span) →
    ((body : Ty) → t ≢ ExistsTy body) → other c p → if_exists t other go c p
other_than_exists IntTy other go c p none h = h
other_than_exists (VarTy i) other go c p none h = h
other_than_exists (CodeTy owes file) other go c p none h = h
other_than_exists (ExistsTy t) other go c p none h = absurd (none t refl)
other_than_exists (TupleTy fs) other go c p none h = h

-- the type of an entry
pub entry_bounded : (ts : List Ty) (n : ℕ) (e : Entry) (t : Ty) → IsEntry ts n e → t ≡ seen ts n e → Bounded n t
entry_bounded ts n e t h is =
    let le = h.1 in
    let sum : e.names + (n - e.names) ≡ n = omega arith in
    subst (Bounded n) (sym is)
    (subst (λ m. Bounded m (seen ts n e)) sum (bounded_shift e.names (n - e.names) (own ts e) h.2))

-- the shape of a package
module _ (n : ℕ) (s : Span) (hidden t shape : Ty) where
  pub pack_unfit : (body : Ty) → shape ≡ ExistsTy body → (Fits t (put 0 hidden body) → ⊥) →
      PackFaultWith n s hidden t shape (T15, told (Types (put 0 hidden body) t n)) s
  pack_unfit body e unfit =
      subst (λ u. PackFaultWith n s hidden t u (T15, told (Types (put 0 hidden body) t n)) s) (sym e)
      (inl (unfit, (refl, refl)))

  pub pack_none : ((body : Ty) → shape ≢ ExistsTy body) →
      PackFaultWith n s hidden t shape (T15, told (NoPackage shape n)) s
  pack_none none =
      other_than_exists shape (at_odds T15 (NoPackage shape n) s) (λ body. fitting T15 n s (put 0 hidden body) t)
      (T15, told (NoPackage shape n)) s none (refl, refl)

module _ (P : TProg) (n : ℕ) (g : RegTypes) (s : Span) where
  -- a base that is applied to types
  module _ (b : TBase) where
    pub plain_ok : (us ts : List Ty) (t : Ty) (owes rest m : ℕ) (file made : TFile) → 0 < length ts → BaseHas P g b t →
        Bounded n t → t ≡ CodeTy owes file → length ts ≤ owes → rest ≡ owes - length ts →
        made ≡ inst_file ts owes file → BelowTypes n ts → OwedFile n (owes - length ts) (inst_file ts owes file) →
        IsNumber us (CodeTy rest made) m → IsTypeOf P us n g s (Plain b ts) (Ok m)
    plain_ok us [] t owes rest m file made some h small is le left done below owed e = absurd (omega arith)
    plain_ok us (u ∷ ts) t owes rest m file made some h small is le left done below owed e =
        let few = subst (Bounded n) is small in
        let less = few.0 in
        let here : CodeTy rest made ≡ CodeTy (owes - length (u ∷ ts)) (inst_file (u ∷ ts) owes file) =
        ap₂ CodeTy left done in (
          e.0,
          (owes, file, subst (BaseHas P g b) is h, le, e.1 ∙ here, below),
          subst (Bounded n) (sym (e.1 ∙ here)) (omega arith, owed),
        )

  -- a package
  pub pack_is : (us : List Ty) (hidden shape t : Ty) (v : TValue) → Has P n g v t → WellFormed n hidden →
      WellFormed n shape → (r : Result ℕ Refusal) → IsPacked us n hidden t shape s r →
      IsTypeOf P us n g s (Pack hidden v shape) r
  pack_is us hidden shape t v h small formed (Ok m) d =
      let is = d.3.1 in (
        d.3.0,
        (d.0, t, h, d.1, d.2, is, well_formed_below n hidden small, well_formed_below n shape formed),
        subst (Bounded n) (sym is) (bounded n shape (shallow n shape formed)),
      )
  pack_is us hidden shape t v h small formed (Err f) d =
      says_map us f _ (ValueFaultWith P n g s (Pack hidden v shape)) (λ c p x. inr (t, h, x)) d

  -- the target of a jump
  no_target : (t : Ty) → ((file : TFile) → t ≢ CodeTy 0 file) →
      if_code t (bare T16 s) (λ owes file. check (owes ≡ 0) (bare T16 s) (FileFaultWith n g s file)) (T16, None) s
  no_target IntTy none = (refl, refl)
  no_target (VarTy i) none = (refl, refl)
  no_target (CodeTy owes file) none = inl ((λ e. none file (ap (λ n. CodeTy n file) e)), (refl, refl))
  no_target (ExistsTy t) none = (refl, refl)
  no_target (TupleTy fs) none = (refl, refl)

  module _ (v : TValue) (t : Ty) (h : Has P n g v t) where
    pub enter_none : ((file : TFile) → t ≢ CodeTy 0 file) → EnterFaultWith P n g s v (T16, None) s
    enter_none none = inr (t, h, no_target t none)

    module _ (file : TFile) (is : t ≡ CodeTy 0 file) where
      code : Has P n g v (CodeTy 0 file)
      code = subst (Has P n g v) is h

      pub enter_ok : FitsFile g file → Enters P n g v
      enter_ok fits = (file, code, fits)

      pub enter_is : (us : List Ty) (r : Result (Unit {0}) Refusal) → IsFileFit us n g s file r →
          IsEntered P us n g s v r
      enter_is us (Ok u) fits = enter_ok fits
      enter_is us (Err f) d =
          says_map us f (FileFaultWith n g s file) (EnterFaultWith P n g s v)
          (λ c p x. inr (CodeTy 0 file, code, inr (refl, x))) d

  -- a branch
  pub bnz_is : (us : List Ty) (k : Registers) (r : ℕ) (v : TValue) → g r ≡ Some IntTy → known us k ≡ g → k.names ≡ n →
      (a : Result (Unit {0}) Refusal) → OnOk a (IsSound us k) → IsEntered P us n g s v a →
      IsStep P us n g k s (Bnz r v) a
  bnz_is us k r v int same names (Ok u) sound h = ((int, h, same), sound, names)
  bnz_is us k r v int same names (Err f) sound h =
      says_map us f (EnterFaultWith P n g s v) (InstrFaultWith P n g s (Bnz r v)) (λ c p x. rw int (inr (refl, x))) h

  -- a register that is moved
  pub copy_is : (us : List Ty) (h : Registers) (rd r : ℕ) (t : Ty) → g r ≡ Some t → known us h ≡ with_reg g rd t →
      IsSound us h → h.names ≡ n → IsStep P us n g h s (Mov rd (Plain (Reg r) [])) (Ok tt)
  copy_is us h rd r t found same sound names = ((t, found, same), sound, names)

  -- an operand that is no integer
  pub operand : (op : Op) (rd rs : ℕ) (v : TValue) (u : Ty) → g rs ≡ Some IntTy → Has P n g v u → u ≢ IntTy →
      InstrFaultWith P n g s (Arith op rd rs v) (T09, None) s
  operand op rd rs v u e h other = rw e (inr (refl, inr (u, h, inl (other, (refl, refl)))))

  -- what is unpacked
  pub unpack_other : (rd : ℕ) (v : TValue) (t : Ty) → Has P n g v t → ((body : Ty) → t ≢ ExistsTy body) →
      InstrFaultWith P n g s (Unpack rd v) (T14, None) s
  unpack_other rd v t h none = inr (t, h, other_than_exists t (bare T14 s) _ (T14, None) s none (refl, refl))

-- a word of data, where nothing is known of the registers
module _ (P : TProg) (n : ℕ) (g : RegTypes) (names : n ≡ 0) (empty : g ≡ no_types) (x : SDatum) where
  closed : (t : Ty) → Has P n g x.value t → Has P 0 no_types x.value t
  closed t h = subst (λ m. Has P m no_types x.value t) names (subst (λ k. Has P n k x.value t) empty h)

  pub datum_ok : (t : Ty) → Has P n g x.value t → Fits t x.ty → WellFormed 0 x.ty → DatumAccepted P (plain_datum x)
  datum_ok t h f w = (t, closed t h, f, well_formed_below 0 x.ty w)

  pub datum_unfit : (t : Ty) → Has P n g x.value t → (Fits t x.ty → ⊥) →
      DatumFaultWith P x (T13, told (Types x.ty t 0)) x.span
  datum_unfit t h f = inr (t, closed t h, inl (f, (refl, refl)))

  pub datum_fault : (us : List Ty) (f : Refusal) → SaysWith us f (ValueFaultWith P n g x.span x.value) →
      SaysWith us f (DatumFaultWith P x)
  datum_fault us f h =
      says_map us f (ValueFaultWith P n g x.span x.value) (DatumFaultWith P x)
      (λ c p v. inl
      (subst (λ m. ValueFaultWith P m no_types x.span x.value c p) names
      (subst (λ k. ValueFaultWith P n k x.span x.value c p) empty v))) h
