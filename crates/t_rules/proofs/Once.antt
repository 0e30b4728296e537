-- That a program is accepted is a proposition: there is one typing of it at most.
use Rattle.std.proofs.Common.{◌≡◌, ℕ, ◌+◌, ◌-◌, ◌≤◌, Bool, true, List, [], ◌∷◌, length, Option, Some, None, refl, sym}
use Rattle.std.proofs.Common.{ap, ◌∙◌, subst, slice_get}
use Rattle.std.specs.Coded.{le_prop, Unit-prop}
use Rattle.std.proofs.Props.{props}
use mathlib.Core.HLevel.{Π_set, is_prop→PathP}
use mathlib.Core.Path.{Cosingl, contract'}
use Rattle.std.proofs.lemmas.Option.{same_Some}
use Rattle.t_types.specs.Tree.{Ty, IntTy, VarTy, CodeTy, ExistsTy, TupleTy, TFile, NoRegs, MoreRegs, TFields, NoFields}
use Rattle.t_types.specs.Tree.{MoreFields, put, Below, BelowFile, BelowFields, BelowTypes}
use Rattle.t_types.specs.Fields.{TField, AField, field, filled}
use Rattle.t_types.specs.Fits.{Fits, FitsFile, RegTypes, lookup}
use Rattle.t_types.specs.Props.{ty_set, file_set, field_set, maybe_set, fits_prop, fits_file_prop}
use Rattle.t_terms.specs.Tree.{TBase, Reg, Int, Label, Data, TValue, Plain, Pack, TInstr, Arith, Bnz, Ld, Malloc, Mov}
use Rattle.t_terms.specs.Tree.{St, Unpack, Jmp, Halt, TSeq, Then, Ends, TBlock, TDatum, TData, TProg, names_after}
use Rattle.t_terms.specs.Registers.{with_reg, raised, no_types, inst_file}
use Rattle.t_terms.specs.Labels.{label_type, data_type}
use Rattle.t_rules.specs.Rules.{BaseHas, Has, Enters, Typed, SeqAccepted, BlocksAccepted}
use Rattle.t_rules.specs.Rules.{DatumAccepted, DataAccepted, HeapAccepted, FirstTakesNothing, Accepted}
use Rattle.t_rules.proofs.OneType.{base_one, has_one, typed_one}

-- what an option has, it has once
abbrev There : {A : Type 0} → Option A → Type 0
There None = ⊥
There (Some a) = Unit {0}

abbrev back : {A : Type 0} (o : Option A) → There o → (a : A) × (o ≡ Some a)
back None h = absurd h
back (Some a) h = (a, refl)

abbrev forth : {A : Type 0} (o : Option A) → (a : A) × (o ≡ Some a) → There o
forth o h = subst There (sym h.1) tt

there_prop : {A : Type 0} (o : Option A) → IsProp (There o)
there_prop None h k = absurd h
there_prop (Some a) h k = refl

there_again : {A : Type 0} (o : Option A) (h : (a : A) × (o ≡ Some a)) → back o (forth o h) ≡ h
there_again o h = subst (λ (z : Cosingl (Some h.0)). back z.0 (forth z.0 (h.0, z.1)) ≡ (h.0, z.1)) (contract' h.1) refl

some_prop : {A : Type 0} (o : Option A) → IsProp ((a : A) × (o ≡ Some a))
some_prop o h k = sym (there_again o h) ∙ ap (back o) (there_prop o (forth o h) (forth o k)) ∙ there_again o k

-- the same with a type that the part has
labelled : {A : Type 0} (o : Option A) (f : A → Ty) (t : Ty) → IsProp ((a : A) × (o ≡ Some a) × (t ≡ f a))
labelled o f t h k =
    let e = some_prop o (h.0, h.1) (k.0, k.1) in
    λ i. ((e i).0, (e i).1, is_prop→PathP (λ j. t ≡ f (e j).0) (λ j. ty_set t (f (e j).0)) h.2 k.2 i)

-- types in scope
mutual
  below_prop : (n : ℕ) (t : Ty) → IsProp (Below n t)
  below_prop n IntTy = Unit-prop
  below_prop n (VarTy i) = le_prop
  below_prop n (CodeTy owes file) = let rest = below_file_prop (n + owes) file in hlevel (Unit-prop, rest)
  below_prop n (ExistsTy t) = let rest = below_prop (n + 1) t in hlevel (Unit-prop, rest)
  below_prop n (TupleTy fs) = below_fields n fs

  below_file_prop : (n : ℕ) (file : TFile) → IsProp (BelowFile n file)
  below_file_prop n NoRegs = Unit-prop
  below_file_prop n (MoreRegs r t file) =
      let here = below_prop n t in let rest = below_file_prop n file in hlevel (here, rest)

  below_fields : (n : ℕ) (fs : TFields) → IsProp (BelowFields n fs)
  below_fields n NoFields = Unit-prop
  below_fields n (MoreFields t flag fs) =
      let here = below_prop n t in let rest = below_fields n fs in hlevel (here, rest)

below_types : (n : ℕ) (ts : List Ty) → IsProp (BelowTypes n ts)
below_types n [] = Unit-prop
below_types n (t ∷ ts) = let here = below_prop n t in let rest = below_types n ts in hlevel (here, rest)

regs_set : IsSet RegTypes
regs_set = Π_set (λ r. maybe_set)

code_is : {m n : ℕ} {f g : TFile} → CodeTy m f ≡ CodeTy n g → (m ≡ n) × (f ≡ g)
code_is e = (cc, cc)

exists_is : {t u : Ty} → ExistsTy t ≡ ExistsTy u → t ≡ u
exists_is e = cc

tuple_is : {o : Option Ty} {fs gs : TFields} → o ≡ Some (TupleTy fs) → o ≡ Some (TupleTy gs) → fs ≡ gs
tuple_is e k = cc

field_is : {o : Option TField} {t u : Ty} {x y : Bool} → o ≡ Some (AField t x) → o ≡ Some (AField u y) →
    (t ≡ u) × (x ≡ y)
field_is e k = (cc, cc)

module _ (P : TProg) where
  base_prop : (g : RegTypes) (b : TBase) (t : Ty) → IsProp (BaseHas P g b t)
  base_prop g (Reg r) t = maybe_set (g r) (Some t)
  base_prop g (Int i) t = ty_set t IntTy
  base_prop g (Label l) t = labelled (slice_get P.blocks l) label_type t
  base_prop g (Data d) t = labelled (slice_get P.heap d) data_type t

  has_prop : (n : ℕ) (g : RegTypes) (v : TValue) (t : Ty) → IsProp (Has P n g v t)
  has_prop n g (Plain b []) t = base_prop g b t
  has_prop n g (Plain b (u ∷ us)) t = λ h k.
      let e = code_is (base_one P g b (CodeTy h.0 h.1) (CodeTy k.0 k.1) h.2 k.2) in
      let o = e.0 in let f = e.1 in
      λ i. (
        o i,
        f i,
        is_prop→PathP (λ j. BaseHas P g b (CodeTy (o j) (f j))) (λ j. base_prop g b (CodeTy (o j) (f j))) h.2 k.2 i,
        is_prop→PathP (λ j. length (u ∷ us) ≤ o j) (λ j. le_prop) h.3 k.3 i,
        is_prop→PathP (λ j. t ≡ CodeTy (o j - length (u ∷ us)) (inst_file (u ∷ us) (o j) (f j)))
            (λ j. ty_set t (CodeTy (o j - length (u ∷ us)) (inst_file (u ∷ us) (o j) (f j)))) h.4 k.4 i,
        below_types n (u ∷ us) h.5 k.5 i,
      )
  has_prop n g (Pack hidden v shape) t = λ h k.
      let b = exists_is (sym h.3 ∙ k.3) in
      let e = has_one P n g v h.1 k.1 h.2 k.2 in
      λ i. (
        b i,
        e i,
        is_prop→PathP (λ j. Has P n g v (e j)) (λ j. has_prop n g v (e j)) h.2 k.2 i,
        is_prop→PathP (λ j. shape ≡ ExistsTy (b j)) (λ j. ty_set shape (ExistsTy (b j))) h.3 k.3 i,
        is_prop→PathP (λ j. Fits (e j) (put 0 hidden (b j))) (λ j. fits_prop (e j) (put 0 hidden (b j))) h.4 k.4 i,
        ty_set t shape h.5 k.5 i,
        below_prop n hidden h.6 k.6 i,
        below_prop n shape h.7 k.7 i,
      )

  enters_prop : (n : ℕ) (g : RegTypes) (v : TValue) → IsProp (Enters P n g v)
  enters_prop n g v h k =
      let e = (code_is (has_one P n g v (CodeTy 0 h.0) (CodeTy 0 k.0) h.1 k.1)).1 in
      λ i. (
        e i,
        is_prop→PathP (λ j. Has P n g v (CodeTy 0 (e j))) (λ j. has_prop n g v (CodeTy 0 (e j))) h.1 k.1 i,
        is_prop→PathP (λ j. FitsFile g (e j)) (λ j. fits_file_prop g (e j)) h.2 k.2 i,
      )

  typed_prop : (n : ℕ) (g : RegTypes) (i : TInstr) (h : RegTypes) → IsProp (Typed P n g i h)
  typed_prop n g (Arith op rd rs v) h =
      let x = has_prop n g v IntTy in hlevel (maybe_set, regs_set, x)
  typed_prop n g (Bnz r v) h = let x = enters_prop n g v in hlevel (maybe_set, regs_set, x)
  typed_prop n g (Ld rd rs c) h = λ x y.
      let f = tuple_is x.2 y.2 in
      let t = (field_is (ap (λ fs. field fs c) (sym f) ∙ x.3) y.3).0 in
      λ i. (
        f i,
        t i,
        is_prop→PathP (λ j. g rs ≡ Some (TupleTy (f j))) (λ j. maybe_set (g rs) (Some (TupleTy (f j)))) x.2 y.2 i,
        is_prop→PathP (λ j. field (f j) c ≡ Some (AField (t j) true))
            (λ j. field_set (field (f j) c) (Some (AField (t j) true))) x.3 y.3 i,
        is_prop→PathP (λ j. h ≡ with_reg g rd (t j)) (λ j. regs_set h (with_reg g rd (t j))) x.4 y.4 i,
      )
  typed_prop n g (Malloc rd ts) h = let x = below_types n ts in hlevel (regs_set, x)
  typed_prop n g (Mov rd v) h = λ x y.
      let t = has_one P n g v x.0 y.0 x.1 y.1 in
      λ i. (
        t i,
        is_prop→PathP (λ j. Has P n g v (t j)) (λ j. has_prop n g v (t j)) x.1 y.1 i,
        is_prop→PathP (λ j. h ≡ with_reg g rd (t j)) (λ j. regs_set h (with_reg g rd (t j))) x.2 y.2 i,
      )
  typed_prop n g (St rd c rs) h = λ x y.
      let f = tuple_is x.4 y.4 in
      let a = field_is (ap (λ fs. field fs c) (sym f) ∙ x.5) y.5 in
      let t = a.0 in let b = a.1 in
      let u = same_Some x.3 y.3 (sym x.6 ∙ y.6) in
      λ i. (
        f i,
        t i,
        b i,
        u i,
        is_prop→PathP (λ j. g rd ≡ Some (TupleTy (f j))) (λ j. maybe_set (g rd) (Some (TupleTy (f j)))) x.4 y.4 i,
        is_prop→PathP (λ j. field (f j) c ≡ Some (AField (t j) (b j)))
            (λ j. field_set (field (f j) c) (Some (AField (t j) (b j)))) x.5 y.5 i,
        is_prop→PathP (λ j. g rs ≡ Some (u j)) (λ j. maybe_set (g rs) (Some (u j))) x.6 y.6 i,
        is_prop→PathP (λ j. Fits (u j) (t j)) (λ j. fits_prop (u j) (t j)) x.7 y.7 i,
        is_prop→PathP (λ j. h ≡ with_reg g rd (TupleTy (filled (f j) c)))
            (λ j. regs_set h (with_reg g rd (TupleTy (filled (f j) c)))) x.8 y.8 i,
      )
  typed_prop n g (Unpack rd v) h = λ x y.
      let t = exists_is (has_one P n g v (ExistsTy x.0) (ExistsTy y.0) x.1 y.1) in
      λ i. (
        t i,
        is_prop→PathP (λ j. Has P n g v (ExistsTy (t j))) (λ j. has_prop n g v (ExistsTy (t j))) x.1 y.1 i,
        is_prop→PathP (λ j. h ≡ with_reg (raised g) rd (t j))
            (λ j. regs_set h (with_reg (raised g) rd (t j))) x.2 y.2 i,
      )

  seq_prop : (n : ℕ) (g : RegTypes) (c : TSeq) → IsProp (SeqAccepted P n g c)
  seq_prop n g (Then x rest) = λ h k.
      let e = typed_one P n g x h.0 k.0 h.1 k.1 in
      λ i. (
        e i,
        is_prop→PathP (λ j. Typed P n g x (e j)) (λ j. typed_prop n g x (e j)) h.1 k.1 i,
        is_prop→PathP (λ j. SeqAccepted P (names_after x n) (e j) rest) (λ j. seq_prop (names_after x n) (e j) rest)
            h.2 k.2 i,
      )
  seq_prop n g (Ends (Jmp v)) = enters_prop n g v
  seq_prop n g (Ends Halt) = maybe_set (g 1) (Some IntTy)

  blocks_prop : (bs : List TBlock) → IsProp (BlocksAccepted P bs)
  blocks_prop [] = Unit-prop
  blocks_prop (b ∷ bs) =
      let x = below_file_prop b.owes b.file in
      let y = seq_prop b.owes (lookup b.file) b.code in
      let z = blocks_prop bs in
      hlevel (x, y, z)

  datum_prop : (x : TDatum) → IsProp (DatumAccepted P x)
  datum_prop x h k =
      let e = has_one P 0 no_types x.value h.0 k.0 h.1 k.1 in
      λ i. (
        e i,
        is_prop→PathP (λ j. Has P 0 no_types x.value (e j)) (λ j. has_prop 0 no_types x.value (e j)) h.1 k.1 i,
        is_prop→PathP (λ j. Fits (e j) x.ty) (λ j. fits_prop (e j) x.ty) h.2 k.2 i,
        below_prop 0 x.ty h.3 k.3 i,
      )

  data_prop : (xs : TData) → IsProp (DataAccepted P xs)
  data_prop [] = Unit-prop
  data_prop (x ∷ xs) = let y = datum_prop x in let z = data_prop xs in hlevel (y, z)

  heap_prop : (xs : List TData) → IsProp (HeapAccepted P xs)
  heap_prop [] = Unit-prop
  heap_prop (x ∷ xs) = let y = data_prop x in let z = heap_prop xs in hlevel (y, z)

first_prop : (bs : List TBlock) → IsProp (FirstTakesNothing bs)
first_prop [] = hlevel props
first_prop (b ∷ bs) = hlevel (props, file_set)

pub accepted_prop : (P : TProg) → IsProp (Accepted P)
accepted_prop P =
    let x = first_prop P.blocks in
    let y = heap_prop P P.heap in
    let z = blocks_prop P P.blocks in
    hlevel (x, y, z)
