-- What a typed declaration names has its type.
use Rattle.std.proofs.Common.{ℕ, List, sym, subst, refl, ◌∙◌}
use Rattle.calc_core.specs.Types.{Ty, IntTy, VarTy, TupleTy, ExistsTy, RefTy}
use Rattle.calc_core.specs.Substitution.{with_type, substituted}
use Rattle.calc_core.specs.Calculus.{Kind, Val, Decl, Name, Proj, Arith, Packs, Unpack, Cell, Get, Set, opens}
use Rattle.calc_core.specs.Calculus.{scope_more}
use Rattle.calc_core.specs.Typing.{LabelTypes, Gives}
use Rattle.calc_core.specs.Typing as T
use Rattle.calc_core.specs.Words.{Word, WCell, Words, size, operate, one_more, Made, Makes, set}
use Rattle.calc_core.specs.Meaning.{declared}
use Rattle.calc_core.proofs.Words as W
use Rattle.calc_core.proofs.Words.{Has, EnvHas, Stored, MadeHas, OptionHas}

-- what is made has the type t, under the types that stand for the type variables, one that it opens among them
abbrev pub DeclHas : {C : Type 0} {k : Kind} → W.CodeIs C → List Ty → Decl k → Words C → Made C → List Ty → Ty → Type 0
DeclHas Is S d env m g t =
    (s : ℕ → Ty) × EnvHas Is S env s (scope_more (opens d) g) × MadeHas Is S m (substituted s t)

module _ {C : Type 0} (Is : W.CodeIs C) (L : LabelTypes) (n : ℕ) (S : List Ty) (s : ℕ → Ty) (g : List Ty) where
  pub sound_d : {k : Kind} (x : Val k → Word C) (y : Val k → Val k → Word C)
      (first : (v : Val k) (t : Ty) → T.Has L n g v t → Has Is S (x v) (substituted s t))
      (second : (v w : Val k) (t : Ty) → T.Has L n g w t → Has Is S (y v w) (substituted s t)) (d : Decl k)
      (env st : Words C) (t : Ty) → Gives L n g d t → EnvHas Is S env s g → Stored Is S st S →
      DeclHas Is S d env (declared x y d st) g t
  sound_d x y first second (Name v) env st t h e k = (s, e, (S, (λ i u a. a), first v t h, k))
  sound_d x y first second (Proj i v) env st t h e k =
      (s, e, W.given_has Is _ st S _ (W.project_sound Is i _ S s h.0 t (first v (TupleTy h.0) h.1) h.2) k)
  sound_d x y first second (Arith op v w) env st t h e k = (
    s,
    e,
    W.given_has Is _ st S _
        (subst (λ u. OptionHas Is S (operate op (x v) (y v w)) (substituted s u)) (sym h.0)
        (W.compute_sound Is op _ _ S (first v IntTy h.1) (second v w IntTy h.2))) k,
  )
  sound_d x y first second (Packs hid v shape) env st t h e k = (
    s,
    e,
    (
      S,
      (λ i q a. a),
      subst (λ u. Has Is S (x v) (substituted s u)) (sym (h.2 ∙ h.1))
          (W.pack_sound Is (x v) S s h.0 hid (first v (substituted (with_type hid VarTy) h.0) h.5)),
      k,
    ),
  )
  sound_d x y first second (Unpack v) env st t h e k =
      let o = W.unpack_sound Is (x v) S s t (first v (ExistsTy t) h) in
      (with_type o.0 s, W.outer_has Is env S (with_type o.0 s) s 1 g (λ i. refl) e, (S, (λ i u a. a), o.1, k))
  sound_d x y first second (Cell v) env st t h e k = (
    s,
    e,
    subst (λ u. MadeHas Is S (Makes (WCell (size st)) (one_more st (x v))) (substituted s u)) (sym h.1)
        (W.cell_sound Is (x v) st S (substituted s h.0) (first v h.0 h.2) k),
  )
  sound_d x y first second (Get v) env st t h e k =
      (s, e, W.get_sound Is (x v) st S (substituted s t) (first v (RefTy t) h) k)
  sound_d x y first second (Set v w) env st t h e k = (
    s,
    e,
    subst (λ u. MadeHas Is S (set (x v) (y v w) st) (substituted s u)) (sym h.1)
        (W.set_sound Is (x v) (y v w) st S (substituted s h.0) (first v (RefTy h.0) h.2) (second v w h.0 h.3) k),
  )
