-- The names of a typed term are in scope.
use Rattle.std.proofs.Common.{◌≡◌, ℕ, suc, Bool, true, false, refl, ap, ◌∙◌, List, [], ◌∷◌, length, subst}
use Rattle.calc_core.specs.Ends.{lift, after_one}
use Rattle.calc_core.specs.Types.{Ty, Tys, NoTys, MoreTys, CodeTy, count}
use Rattle.calc_core.specs.Substitution.{renamed, scope_renamed}
use Rattle.calc_core.specs.Scope.{args_onto}
use Rattle.calc_core.specs.Calculus.{Body, Open, Shut, Kind, Val, Var, Int, Tuple, Code, Label, Apply, Pack}
use Rattle.calc_core.specs.Calculus.{Vals, NoVals, MoreVals, Decl, Name, Proj, Arith, Packs, Unpack, Cell, Get, Set}
use Rattle.calc_core.specs.Calculus.{Tm, Let, Call, If, Halt, opens, scope_more, names_in, body_scope}
use Rattle.calc_core.specs.NamesIn.{names_seen, NamesIn_v, NamesIn_vs, NamesIn_d, NamesIn}
use Rattle.calc_core.specs.Typing.{LabelTypes, Has, Have, Gives, Typed}
use Rattle.calc_core.proofs.Lifts.{lift_suc}
use Rattle.calc_core.proofs.Scopes.{scope_length, named_below}

pub more_length : (o : Bool) (g : List Ty) → length (scope_more o g) ≡ length g
more_length true g = scope_length suc g
more_length false g = refl

pub args_length : (ts : Tys) (g : List Ty) → length (args_onto ts g) ≡ lift (count ts) (length g)
args_length NoTys g = refl
args_length (MoreTys t ts) g = args_length ts (t ∷ g) ∙ lift_suc (count ts) (length g)

pub body_length : (b : Body) (owes : ℕ) (args : Tys) (g : List Ty) →
    length (body_scope b owes args g) ≡ names_seen b (count args) (length g)
body_length Open owes args g =
    args_length args (renamed (lift owes) (CodeTy owes args) ∷ scope_renamed (lift owes) g)
    ∙ ap (λ k. lift (count args) (suc k)) (scope_length (lift owes) g)
body_length Shut owes args g = args_length args (CodeTy owes args ∷ [])

module _ (L : LabelTypes) where
  mutual
    names_v : {k : Kind} (v : Val k) (n : ℕ) (g : List Ty) (t : Ty) → Has L n g v t → NamesIn_v (length g) v
    names_v (Var i) n g t h = named_below g i t h
    names_v (Int m) n g t h = tt
    names_v (Tuple vs) n g t h = names_vs vs n g h.0 h.2
    names_v (Code {b = b} owes args body) n g t h =
        subst (λ d. NamesIn d body) (body_length b owes args g)
        (names_t body (names_in b owes n) (body_scope b owes args g) h.2)
    names_v (Label l) n g t h = tt
    names_v (Apply v ts) n g t h = names_v v n g _ h.3
    names_v (Pack x v s) n g t h = names_v v n g _ h.5

    names_vs : {k : Kind} (vs : Vals k) (n : ℕ) (g : List Ty) (ts : Tys) → Have L n g vs ts → NamesIn_vs (length g) vs
    names_vs NoVals n g ts h = tt
    names_vs (MoreVals v vs) n g ts h = (names_v v n g h.0 h.3, names_vs vs n g h.1 h.4)

    names_d : {k : Kind} (d : Decl k) (n : ℕ) (g : List Ty) (t : Ty) → Gives L n g d t → NamesIn_d (length g) d
    names_d (Name v) n g t h = names_v v n g t h
    names_d (Proj i v) n g t h = names_v v n g _ h.1
    names_d (Arith op v w) n g t h = (names_v v n g _ h.1, names_v w n g _ h.2)
    names_d (Packs x v s) n g t h = names_v v n g _ h.5
    names_d (Unpack v) n g t h = names_v v n g _ h
    names_d (Cell v) n g t h = names_v v n g _ h.2
    names_d (Get v) n g t h = names_v v n g _ h
    names_d (Set v w) n g t h = (names_v v n g _ h.2, names_v w n g _ h.3)

    pub names_t : {k : Kind} (t : Tm k) (n : ℕ) (g : List Ty) → Typed L n g t → NamesIn (length g) t
    names_t (Let x t) n g h = (
      names_d x n g h.0 h.1,
      subst (λ d. NamesIn (suc d) t) (more_length (opens x) g)
          (names_t t (after_one (opens x) n) (h.0 ∷ scope_more (opens x) g) h.2),
    )
    names_t (Call f ts vs) n g h = (names_v f n g _ h.1, names_vs vs n g _ h.3)
    names_t (If v t u) n g h = (names_v v n g _ h.0, names_t t n g h.1, names_t u n g h.2)
    names_t (Halt v) n g h = names_v v n g _ h
