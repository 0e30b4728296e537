-- The type that is read off a value or a declaration is the one that typing gives.
use Rattle.std.proofs.Common.{◌≡◌, ◌∙◌, ◌-◌, ℕ, zero, suc, List, [], ◌∷◌, sym, ap, ap₂, arith}
use Rattle.calc_core.specs.Ends.{lift}
use Rattle.calc_core.specs.Types.{Ty, Tys, VarTy, TupleTy, CodeTy, ExistsTy, RefTy, NoTys, MoreTys, count}
use Rattle.calc_core.specs.Substitution.{with_types, under_binders, all_substituted}
use Rattle.calc_core.specs.Scope.{IsTypeOf, IsField}
use Rattle.calc_core.specs.Calculus.{Kind, Val, Var, Int, Tuple, Code, Label, Apply, Pack, Vals, NoVals, MoreVals}
use Rattle.calc_core.specs.Calculus.{Decl, Name, Proj, Arith, Packs, Unpack, Cell, Get, Set}
use Rattle.calc_core.specs.Typing.{LabelTypes, Has, Have, Gives}
use Rattle.calc_core.specs.TypeOf.{type_at, field_type, proj_type, open_type, held_type, applied_type, type_of}
use Rattle.calc_core.specs.TypeOf.{types_of, decl_type}
use Rattle.calc_core.proofs.Lifts.{lift_is}

pub at_type : (g : List Ty) (i : ℕ) (t : Ty) → IsTypeOf g i t → type_at g i ≡ t
at_type [] i t a = absurd a
at_type (u ∷ g) zero t a = sym a
at_type (u ∷ g) (suc i) t a = at_type g i t a

pub at_field : (i : ℕ) (ts : Tys) (t : Ty) → IsField i ts t → field_type i ts ≡ t
at_field i NoTys t a = absurd a
at_field zero (MoreTys u us) t a = absurd a
at_field (suc zero) (MoreTys u us) t a = sym a
at_field (suc (suc i)) (MoreTys u us) t a = at_field (suc i) us t a

pub applied_is : (owes : ℕ) (args ts : Tys) (u t : Ty) → u ≡ CodeTy (lift owes (count ts)) args →
    t ≡ CodeTy owes (all_substituted (under_binders owes (with_types ts VarTy)) args) → applied_type u ts ≡ t
applied_is owes args ts u t e f =
    let left : lift owes (count ts) - count ts ≡ owes = let l = lift_is owes (count ts) in omega (arith, l) in
    ap (λ (x : Ty). applied_type x ts) e
    ∙ ap (λ (k : ℕ). CodeTy k (all_substituted (under_binders k (with_types ts VarTy)) args)) left ∙ sym f

-- l gives the types that labels have
module _ (L : LabelTypes) (l : ℕ → Ty) (told : (i : ℕ) (t : Ty) → L i t → l i ≡ t) where
  mutual
    pub v_type : {k : Kind} (v : Val k) (n : ℕ) (g : List Ty) (t : Ty) → Has L n g v t → type_of l g v ≡ t
    v_type (Var i) n g t h = at_type g i t h
    v_type (Int m) n g t h = sym h
    v_type (Tuple vs) n g t h = ap TupleTy (vs_type vs n g h.0 h.2) ∙ sym h.1
    v_type (Code owes args body) n g t h = sym h.0
    v_type (Label i) n g t h = told i t h
    v_type (Apply v ts) n g t h = applied_is h.0 h.1 ts (type_of l g v) t (v_type v n g _ h.3) h.2
    v_type (Pack hid v s) n g t h = sym h.2

    pub vs_type : {k : Kind} (vs : Vals k) (n : ℕ) (g : List Ty) (ts : Tys) → Have L n g vs ts → types_of l g vs ≡ ts
    vs_type NoVals n g ts h = sym h
    vs_type (MoreVals v vs) n g ts h = ap₂ MoreTys (v_type v n g h.0 h.3) (vs_type vs n g h.1 h.4) ∙ sym h.2

  pub d_type : {k : Kind} (d : Decl k) (n : ℕ) (g : List Ty) (t : Ty) → Gives L n g d t → decl_type l g d ≡ t
  d_type (Name v) n g t h = v_type v n g t h
  d_type (Proj i v) n g t h = ap (proj_type i) (v_type v n g (TupleTy h.0) h.1) ∙ at_field i h.0 t h.2
  d_type (Arith op v w) n g t h = sym h.0
  d_type (Packs hid v shape) n g t h = sym h.2
  d_type (Unpack v) n g t h = ap open_type (v_type v n g (ExistsTy t) h)
  d_type (Cell v) n g t h = ap RefTy (v_type v n g h.0 h.2) ∙ sym h.1
  d_type (Get v) n g t h = ap held_type (v_type v n g (RefTy t) h)
  d_type (Set v w) n g t h = sym h.1
