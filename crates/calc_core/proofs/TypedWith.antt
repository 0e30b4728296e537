-- Typing with a property of types is typing, and typing with any weaker property.
use Rattle.std.proofs.Common.{ℕ, suc, List, ◌∷◌}
use Rattle.calc_core.specs.Ends.{after_one}
use Rattle.calc_core.specs.Types.{Ty, Tys, IntTy, VarTy, TupleTy, ExistsTy, RefTy, NoTys, MoreTys}
use Rattle.calc_core.specs.Substitution.{with_type, substituted}
use Rattle.calc_core.specs.Calculus.{Body, Open, Shut, Kind, Val, Var, Int, Tuple, Code, Label, Apply, Pack}
use Rattle.calc_core.specs.Calculus.{Vals, NoVals, MoreVals}
use Rattle.calc_core.specs.Calculus.{Decl, Name, Proj, Arith, Packs, Unpack, Cell, Get, Set, Tm, Let, Call, If, Halt}
use Rattle.calc_core.specs.Calculus.{opens, scope_more, names_in, body_scope}
use Rattle.calc_core.specs.Typing.{LabelTypes, Has, Have, Gives, Typed}
use Rattle.calc_core.specs.TypedWith.{Property, All, ArgsWith, HasWith, HaveWith, GivesWith, TypedWith}

module _ (P : Property) (L : LabelTypes) where
  mutual
    pub plain_v : {k : Kind} (v : Val k) (n : ℕ) (g : List Ty) (t : Ty) → HasWith P L n g v t → Has L n g v t
    plain_v (Var i) n g t h = h.1
    plain_v (Int m) n g t h = h.1
    plain_v (Tuple vs) n g t h = (h.1, h.2, plain_vs vs n g h.1 h.3)
    plain_v (Code {b = b} owes args body) n g t h =
        (h.1, h.2, plain_t body (names_in b owes n) (body_scope b owes args g) h.4)
    plain_v (Label l) n g t h = h.1
    plain_v (Apply v ts) n g t h = (h.1, h.2, h.3, plain_v v n g _ h.4, h.5)
    plain_v (Pack hid v s) n g t h = (h.1, h.2, h.3, h.4, h.5, plain_v v n g _ h.7)

    pub plain_vs : {k : Kind} (vs : Vals k) (n : ℕ) (g : List Ty) (ts : Tys) → HaveWith P L n g vs ts →
        Have L n g vs ts
    plain_vs NoVals n g ts h = h
    plain_vs (MoreVals v vs) n g ts h = (h.0, h.1, h.2, plain_v v n g h.0 h.3, plain_vs vs n g h.1 h.4)

    pub plain_d : {k : Kind} (d : Decl k) (n : ℕ) (g : List Ty) (t : Ty) → GivesWith P L n g d t →
        Gives L n g d t
    plain_d (Name v) n g t h = plain_v v n g t h
    plain_d (Proj i v) n g t h = (h.1, plain_v v n g (TupleTy h.1) h.2, h.3)
    plain_d (Arith op v w) n g t h = (h.1, plain_v v n g IntTy h.2, plain_v w n g IntTy h.3)
    plain_d (Packs h v s) n g t q = (q.2, q.3, q.4, q.5, q.6, plain_v v n g (substituted (with_type h VarTy) q.2) q.7)
    plain_d (Unpack v) n g t h = plain_v v n g (ExistsTy t) h.1
    plain_d (Cell v) n g t h = (h.1, h.2, plain_v v n g h.1 h.3)
    plain_d (Get v) n g t h = plain_v v n g (RefTy t) h.1
    plain_d (Set v w) n g t h = (h.1, h.2, plain_v v n g (RefTy h.1) h.3, plain_v w n g h.1 h.4)

    pub plain_t : {k : Kind} (t : Tm k) (n : ℕ) (g : List Ty) → TypedWith P L n g t → Typed L n g t
    plain_t (Let d t) n g h =
        (h.0, plain_d d n g h.0 h.1, plain_t t (after_one (opens d) n) (h.0 ∷ scope_more (opens d) g) h.2)
    plain_t (Call f ts vs) n g h = (h.0, plain_v f n g _ h.1, h.2, plain_vs vs n g _ h.4)
    plain_t (If v t u) n g h = (plain_v v n g IntTy h.0, plain_t t n g h.1, plain_t u n g h.2)
    plain_t (Halt v) n g h = plain_v v n g IntTy h

-- and typing is typing with the property that every type has
abbrev pub Any : Property
Any n t = Unit {0}

pub any_all : (n : ℕ) (ts : Tys) → All Any n ts
any_all n NoTys = tt
any_all n (MoreTys t ts) = (tt, any_all n ts)

any_args : (b : Body) (n : ℕ) (ts : Tys) → ArgsWith b Any n ts
any_args Open n ts = tt
any_args Shut n ts = any_all n ts

module _ (L : LabelTypes) where
  mutual
    pub any_v : {k : Kind} (v : Val k) (n : ℕ) (g : List Ty) (t : Ty) → Has L n g v t → HasWith Any L n g v t
    any_v (Var i) n g t h = (tt, h)
    any_v (Int m) n g t h = (tt, h)
    any_v (Tuple vs) n g t h = (tt, h.0, h.1, any_vs vs n g h.0 h.2)
    any_v (Code {b = b} owes args body) n g t h = (
      tt,
      h.0,
      h.1,
      any_args b (names_in b owes n) args,
      any_t body (names_in b owes n) (body_scope b owes args g) h.2,
    )
    any_v (Label l) n g t h = (tt, h)
    any_v (Apply v ts) n g t h = (tt, h.0, h.1, h.2, any_v v n g _ h.3, h.4, any_all n ts)
    any_v (Pack hid v s) n g t h = (tt, h.0, h.1, h.2, h.3, h.4, tt, any_v v n g _ h.5)

    any_vs : {k : Kind} (vs : Vals k) (n : ℕ) (g : List Ty) (ts : Tys) → Have L n g vs ts → HaveWith Any L n g vs ts
    any_vs NoVals n g ts h = h
    any_vs (MoreVals v vs) n g ts h = (h.0, h.1, h.2, any_v v n g h.0 h.3, any_vs vs n g h.1 h.4)

    any_d : {k : Kind} (d : Decl k) (n : ℕ) (g : List Ty) (t : Ty) → Gives L n g d t → GivesWith Any L n g d t
    any_d (Name v) n g t h = any_v v n g t h
    any_d (Proj i v) n g t h = (tt, h.0, any_v v n g (TupleTy h.0) h.1, h.2)
    any_d (Arith op v w) n g t h = (tt, h.0, any_v v n g IntTy h.1, any_v w n g IntTy h.2)
    any_d (Packs hid v s) n g t q =
        (tt, tt, q.0, q.1, q.2, q.3, q.4, any_v v n g (substituted (with_type hid VarTy) q.0) q.5)
    any_d (Unpack v) n g t h = (tt, any_v v n g (ExistsTy t) h)
    any_d (Cell v) n g t h = (tt, h.0, h.1, any_v v n g h.0 h.2)
    any_d (Get v) n g t h = (tt, any_v v n g (RefTy t) h)
    any_d (Set v w) n g t h = (tt, h.0, h.1, any_v v n g (RefTy h.0) h.2, any_v w n g h.0 h.3)

    pub any_t : {k : Kind} (t : Tm k) (n : ℕ) (g : List Ty) → Typed L n g t → TypedWith Any L n g t
    any_t (Let d t) n g h =
        (h.0, any_d d n g h.0 h.1, any_t t (after_one (opens d) n) (h.0 ∷ scope_more (opens d) g) h.2)
    any_t (Call f ts vs) n g h = (h.0, any_v f n g _ h.1, h.2, any_all n ts, any_vs vs n g _ h.3)
    any_t (If v t u) n g h = (any_v v n g IntTy h.0, any_t t n g h.1, any_t u n g h.2)
    any_t (Halt v) n g h = any_v v n g IntTy h

-- a weaker property
module _ (P Q : Property) (f : (n : ℕ) (t : Ty) → P n t → Q n t) where
  pub all_weaker : (n : ℕ) (ts : Tys) → All P n ts → All Q n ts
  all_weaker n NoTys h = h
  all_weaker n (MoreTys t ts) h = (f n t h.0, all_weaker n ts h.1)

  args_weaker : (b : Body) (n : ℕ) (ts : Tys) → ArgsWith b P n ts → ArgsWith b Q n ts
  args_weaker Open n ts h = h
  args_weaker Shut n ts h = all_weaker n ts h

  module _ (L : LabelTypes) where
    mutual
      weaker_v : {k : Kind} (v : Val k) (n : ℕ) (g : List Ty) (t : Ty) → HasWith P L n g v t → HasWith Q L n g v t
      weaker_v (Var i) n g t h = (f n t h.0, h.1)
      weaker_v (Int m) n g t h = (f n t h.0, h.1)
      weaker_v (Tuple vs) n g t h = (f n t h.0, h.1, h.2, weaker_vs vs n g h.1 h.3)
      weaker_v (Code {b = b} owes args body) n g t h = (
        f n t h.0,
        h.1,
        h.2,
        args_weaker b (names_in b owes n) args h.3,
        weaker_t body (names_in b owes n) (body_scope b owes args g) h.4,
      )
      weaker_v (Label l) n g t h = (f n t h.0, h.1)
      weaker_v (Apply v ts) n g t h = (f n t h.0, h.1, h.2, h.3, weaker_v v n g _ h.4, h.5, all_weaker n ts h.6)
      weaker_v (Pack hid v s) n g t h = (f n t h.0, h.1, h.2, h.3, h.4, h.5, f n hid h.6, weaker_v v n g _ h.7)

      weaker_vs : {k : Kind} (vs : Vals k) (n : ℕ) (g : List Ty) (ts : Tys) → HaveWith P L n g vs ts →
          HaveWith Q L n g vs ts
      weaker_vs NoVals n g ts h = h
      weaker_vs (MoreVals v vs) n g ts h = (h.0, h.1, h.2, weaker_v v n g h.0 h.3, weaker_vs vs n g h.1 h.4)

      weaker_d : {k : Kind} (d : Decl k) (n : ℕ) (g : List Ty) (t : Ty) → GivesWith P L n g d t → GivesWith Q L n g d t
      weaker_d (Name v) n g t h = weaker_v v n g t h
      weaker_d (Proj i v) n g t h = (f n t h.0, h.1, weaker_v v n g (TupleTy h.1) h.2, h.3)
      weaker_d (Arith op v w) n g t h = (f n t h.0, h.1, weaker_v v n g IntTy h.2, weaker_v w n g IntTy h.3)
      weaker_d (Packs hid v s) n g t h = (
        f n t h.0,
        f n hid h.1,
        h.2,
        h.3,
        h.4,
        h.5,
        h.6,
        weaker_v v n g (substituted (with_type hid VarTy) h.2) h.7,
      )
      weaker_d (Unpack v) n g t h = (f (suc n) t h.0, weaker_v v n g (ExistsTy t) h.1)
      weaker_d (Cell v) n g t h = (f n t h.0, h.1, h.2, weaker_v v n g h.1 h.3)
      weaker_d (Get v) n g t h = (f n t h.0, weaker_v v n g (RefTy t) h.1)
      weaker_d (Set v w) n g t h = (f n t h.0, h.1, h.2, weaker_v v n g (RefTy h.1) h.3, weaker_v w n g h.1 h.4)

      pub weaker_t : {k : Kind} (t : Tm k) (n : ℕ) (g : List Ty) → TypedWith P L n g t → TypedWith Q L n g t
      weaker_t (Let d t) n g h =
          (h.0, weaker_d d n g h.0 h.1, weaker_t t (after_one (opens d) n) (h.0 ∷ scope_more (opens d) g) h.2)
      weaker_t (Call c ts vs) n g h = (h.0, weaker_v c n g _ h.1, h.2, all_weaker n ts h.3, weaker_vs vs n g _ h.4)
      weaker_t (If v t u) n g h = (weaker_v v n g IntTy h.0, weaker_t t n g h.1, weaker_t u n g h.2)
      weaker_t (Halt v) n g h = weaker_v v n g IntTy h
