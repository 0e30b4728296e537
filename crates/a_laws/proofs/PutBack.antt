-- Putting the tuples and the data back gives the hoisted program, its tuples of constants written out.
use Rattle.std.proofs.Common.{◌≡◌, ◌≤◌, ◌+◌, inl, inr, ℕ, zero, suc, List, [], ◌∷◌, ◌++◌, Option, Some, None, refl}
use Rattle.std.proofs.Common.{sym, ap, ap₂, ◌∙◌, subst, arith}
use Rattle.std.specs.Prelude.{Bool, true, false, ◌&&◌, not, option_map, slice_get}
use Rattle.a_terms.specs.Typing.{aset}
use Rattle.a_laws.specs.Allocate.{all_closed, atype, atypes, closed, is_label}
use Rattle.a_laws.specs.Back.{NoCell_t, NoCell_v, NoCell_vs, NoCells, NoRef, NoRefs, PutsBack, add_field, add_last}
use Rattle.a_laws.specs.Back.{arg_count, arg_names, back_all, back_data, back_fields, back_t, back_v, back_vs, drop}
use Rattle.a_laws.specs.Back.{drop_fields, drops, held_by, shown_at}
use Rattle.a_laws.specs.Constants.{Constants, constant, constant_at, constants, is_package, of_args, one_if, or_else}
use Rattle.a_laws.specs.Constants.{packed, settle_all, settle_t, settle_v, settle_vs, tuples_all, tuples_in, tuples_t}
use Rattle.a_laws.specs.Constants.{tuples_v, tuples_vs, two}
use Rattle.a_laws.specs.Stands.{scope, Any, Content, Filling, Gone, Is, Made, Means, Shown, Carries, Carries_fields}
use Rattle.a_laws.specs.Stands.{Carries_v}
use Rattle.a_laws.specs.Stands.{Stands_all, Stands_t, Stands_v, Stands_vs, Thing, arg_things, listed, made_at, named}
use Rattle.a_laws.specs.Stands.{takes, thing_at}
use Rattle.a_terms.specs.Meaning.{pick}
use Rattle.a_terms.specs.Tree.{ABlk, AConsts, ATm, ATys, AVal, Apply, Arith, Call, Data, Halt, If0, Init, Lab, Let}
use Rattle.a_terms.specs.Tree.{Malloc, MoreATys, NoATys, Num, Pack, Proj, Unpack, Value, Var, arity}
use Rattle.c_terms.specs.C.{CTy, CTys, MoreCTys, NoCTys, TCCode, TCInt, TCRef, TCExists, TCTuple, TCVar}
use Rattle.h_terms.specs.H.{HApply, HArith, HBlks, HCall, HCell, HGet, HHalt, HIf, HInt, HLabel, HLet, HName, HPack}
use Rattle.h_terms.specs.H.{HProj, HSet, HTm, HTuple, HUnpack, HVal, HVals, HVar, MoreHVals, NoHVals}

mutual
  drop_is : (t : CTy) → NoRef t → drop (atype t) ≡ t
  drop_is TCInt c = refl
  drop_is (TCVar i) c = refl
  drop_is (TCTuple ts) c = ap TCTuple (fields_are ts c)
  drop_is (TCCode n ts) c = ap (TCCode n) (drops_are ts c)
  drop_is (TCExists t) c = ap TCExists (drop_is t c)
  drop_is (TCRef t) c = absurd c

  drops_are : (ts : CTys) → NoRefs ts → drops (atypes ts) ≡ ts
  drops_are NoCTys c = refl
  drops_are (MoreCTys t ts) c = ap₂ MoreCTys (drop_is t c.0) (drops_are ts c.1)

  fields_are : (ts : CTys) → NoRefs ts → drop_fields (aset (atypes ts)) ≡ ts
  fields_are NoCTys c = refl
  fields_are (MoreCTys t ts) c = ap₂ MoreCTys (drop_is t c.0) (fields_are ts c.1)

-- the constants of a program with no cell
abbrev NoOpt : Option HVal → Type 0
NoOpt None = Unit {0}
NoOpt (Some c) = NoCell_v c

abbrev NoOpts : Option HVals → Type 0
NoOpts None = Unit {0}
NoOpts (Some cs) = NoCell_vs cs

abbrev NoOs : Constants → Type 0
NoOs [] = Unit {0}
NoOs (o ∷ os) = NoOpt o × NoOs os

abbrev AllNo : List HVal → Type 0
AllNo [] = Unit {0}
AllNo (w ∷ ws) = NoCell_v w × AllNo ws

all_no : (us ws : List HVal) → AllNo us → AllNo ws → AllNo (us ++ ws)
all_no [] ws a b = b
all_no (u ∷ us) ws a b = (a.0, all_no us ws a.1 b)

at_no : (os : Constants) (i : ℕ) → NoOs os → NoOpt (constant_at os i)
at_no [] i a = tt
at_no (o ∷ os) zero a = a.0
at_no (o ∷ os) (suc i) a = at_no os i a.1

tuple_no : (o : Option HVals) → NoOpts o → NoOpt (option_map HTuple o)
tuple_no None a = tt
tuple_no (Some vs) a = a

pick_no : (q : Bool) (c : HVal) → NoCell_v c → NoOpt (pick q (Some c) None)
pick_no true c a = a
pick_no false c a = tt

packed_no : (h s : CTy) (o : Option HVal) → NoRef h → NoRef s → NoOpt o → NoOpt (packed h s o)
packed_no h s None a b c = tt
packed_no h s (Some w) a b c =
    pick_no (not (is_package w) && (closed 0 (atype h) && closed 0 (atype s))) (HPack h w s) (a, c, b)

two_no : (o : Option HVal) (os : Option HVals) → NoOpt o → NoOpts os → NoOpts (two o os)
two_no None os a b = tt
two_no (Some c) None a b = tt
two_no (Some c) (Some cs) a b = (a, b)

mutual
  const_no : (v : HVal) (os : Constants) → NoOs os → NoCell_v v → NoOpt (constant os v)
  const_no (HVar i) os a c = at_no os i a
  const_no (HInt n) os a c = tt
  const_no (HLabel l) os a c = tt
  const_no (HTuple vs) os a c = tuple_no (constants os vs) (consts_no vs os a c)
  const_no (HApply v ts) os a c = pick_no (is_label v && all_closed 0 (atypes ts)) (HApply v ts) c
  const_no (HPack h v s) os a c = packed_no h s (constant os v) c.0 c.2 (const_no v os a c.1)

  consts_no : (vs : HVals) (os : Constants) → NoOs os → NoCell_vs vs → NoOpts (constants os vs)
  consts_no NoHVals os a c = tt
  consts_no (MoreHVals v vs) os a c =
      two_no (constant os v) (constants os vs) (const_no v os a c.0) (consts_no vs os a c.1)

one_no : (o : Option HVal) → NoOpt o → AllNo (one_if o)
one_no None a = tt
one_no (Some c) a = (a, tt)

mutual
  tuples_v_no : (v : HVal) (os : Constants) → NoOs os → NoCell_v v → AllNo (tuples_v os v)
  tuples_v_no (HVar i) os a c = tt
  tuples_v_no (HInt n) os a c = tt
  tuples_v_no (HLabel l) os a c = tt
  tuples_v_no (HTuple vs) os a c =
      let o = constant os (HTuple vs) in
      all_no (tuples_vs os vs) (one_if o) (tuples_vs_no vs os a c) (one_no o (const_no (HTuple vs) os a c))
  tuples_v_no (HApply v ts) os a c = tuples_v_no v os a c.0
  tuples_v_no (HPack h v s) os a c = tuples_v_no v os a c.1

  tuples_vs_no : (vs : HVals) (os : Constants) → NoOs os → NoCell_vs vs → AllNo (tuples_vs os vs)
  tuples_vs_no NoHVals os a c = tt
  tuples_vs_no (MoreHVals v vs) os a c =
      all_no (tuples_v os v) (tuples_vs os vs) (tuples_v_no v os a c.0) (tuples_vs_no vs os a c.1)

tuples_t_no : (t : HTm) (os : Constants) → NoOs os → NoCell_t t → AllNo (tuples_t os t)
tuples_t_no (HLet (HName v) t) os a c =
    all_no (tuples_v os v) (tuples_t (constant os v ∷ os) t) (tuples_v_no v os a c.0)
    (tuples_t_no t (constant os v ∷ os) (const_no v os a c.0, a) c.1)
tuples_t_no (HLet (HProj i v) t) os a c =
    all_no (tuples_v os v) (tuples_t (None ∷ os) t) (tuples_v_no v os a c.0) (tuples_t_no t (None ∷ os) (tt, a) c.1)
tuples_t_no (HLet (HArith op v w) t) os a c =
    all_no (tuples_v os v ++ tuples_v os w) (tuples_t (None ∷ os) t)
    (all_no (tuples_v os v) (tuples_v os w) (tuples_v_no v os a c.0.0) (tuples_v_no w os a c.0.1))
    (tuples_t_no t (None ∷ os) (tt, a) c.1)
tuples_t_no (HLet (HUnpack v) t) os a c =
    all_no (tuples_v os v) (tuples_t (None ∷ os) t) (tuples_v_no v os a c.0) (tuples_t_no t (None ∷ os) (tt, a) c.1)
tuples_t_no (HLet (HCell v) t) os a c = absurd c.0
tuples_t_no (HLet (HGet v) t) os a c = absurd c.0
tuples_t_no (HLet (HSet v w) t) os a c = absurd c.0
tuples_t_no (HCall f ts vs) os a c =
    all_no (tuples_v os f) (tuples_vs os vs) (tuples_v_no f os a c.0) (tuples_vs_no vs os a c.2)
tuples_t_no (HIf v t u) os a c =
    all_no (tuples_v os v) (tuples_t os t ++ tuples_t os u) (tuples_v_no v os a c.0)
    (all_no (tuples_t os t) (tuples_t os u) (tuples_t_no t os a c.1) (tuples_t_no u os a c.2))
tuples_t_no (HHalt v) os a c = tuples_v_no v os a c

args_no : (args : CTys) (os : Constants) → NoOs os → NoOs (of_args args os)
args_no NoCTys os a = a
args_no (MoreCTys t ts) os a = args_no ts (None ∷ os) (tt, a)

tuples_all_no : (ks : HBlks) → NoCells ks → AllNo (tuples_all ks)
tuples_all_no [] c = tt
tuples_all_no (k ∷ ks) c =
    all_no (tuples_t (of_args k.args []) k.body) (tuples_all ks)
    (tuples_t_no k.body (of_args k.args []) (args_no k.args [] tt) c.0.1) (tuples_all_no ks c.1)

module _ (ds : List HVal) where
  held_is : (ws : List HVal) (n : ℕ) (w : HVal) → slice_get ws n ≡ Some w → held_by ws n ≡ w
  held_is [] n w e = absurd (impossible e)
    where
      impossible : None ≡ Some w → ⊥
      impossible q = cc
  held_is (x ∷ ws) zero w e = cc
  held_is (x ∷ ws) (suc n) w e = held_is ws n w e

  -- data
  shown_back : (v : AVal) (w : HVal) → Carries_v ds v w → NoCell_v w → back_v ds [] 0 v ≡ w
  shown_back (Var i) w s c = absurd s
  shown_back (Num n) w s c = sym s
  shown_back (Lab l) w s c = sym s
  shown_back (Data n) w s c = held_is ds n w s
  shown_back (Apply v ts) w s c =
      let n = subst NoCell_v s.2 c in
      ap₂ HApply (shown_back v s.0 s.4 n.0) (ap drops (sym s.3) ∙ drops_are s.1 n.1) ∙ sym s.2
  shown_back (Pack h v u) w s c =
      let n = subst NoCell_v s.3 c in
      ap (λ x. HPack x (back_v ds [] 0 v) (drop u)) (ap drop (sym s.4) ∙ drop_is s.0 n.0)
      ∙ ap₂ (HPack s.0) (shown_back v s.1 s.6 n.1) (ap drop (sym s.5) ∙ drop_is s.2 n.2) ∙ sym s.3

  fields_back : (cs : AConsts) (vs : HVals) → Carries_fields ds cs vs → NoCell_vs vs → back_fields ds cs ≡ vs
  fields_back [] vs s c = sym s
  fields_back (x ∷ cs) vs s c =
      let n = subst NoCell_vs s.2 c in
      ap₂ MoreHVals (shown_back x.value s.0 s.3 n.0) (fields_back cs s.1 s.4 n.1) ∙ sym s.2

  data_back : (xs : List AConsts) (us : List HVal) → Carries ds xs us → AllNo us → back_data ds xs ≡ us
  data_back [] us s c = sym s
  data_back (x ∷ xs) us s c =
      let n = subst AllNo s.2 c in
      ap₂ (λ p q. HTuple p ∷ q) (fields_back x s.0 s.3 n.0) (data_back xs s.1 s.4 n.1) ∙ sym s.2

  -- what is put back of a variable
  abbrev Puts : Constants → ℕ → Thing → Shown → Type 0
  Puts os k (Is l) s = (m : ℕ) → s m ≡ named l m
  Puts os k (Made l j fs) s = (j ≤ k) × (NoCell_vs (listed fs) → j ≡ k → s k ≡ HTuple (settle_vs os (listed fs)))
  Puts os k Gone s = Unit {0}

  abbrev EnvOk : Constants → ℕ → List Thing → List Shown → Type 0
  EnvOk os k env benv = (i : ℕ) → Puts os k (thing_at env i) (shown_at benv i)

  puts_on : (os : Constants) (o : Option HVal) (k : ℕ) (x : Thing) (s : Shown) → Puts os k x s →
      Puts (o ∷ os) (suc k) x s
  puts_on os o k (Is l) s p = p
  puts_on os o k (Made l j fs) s p = (omega (arith, p.0), λ c e. absurd (omega (arith, p.0, e)))
  puts_on os o k Gone s p = tt

  env_on : (os : Constants) (o : Option HVal) (k : ℕ) (env : List Thing) (benv : List Shown) → EnvOk os k env benv →
      EnvOk (o ∷ os) (suc k) (Is k ∷ env) (named k ∷ benv)
  env_on os o k env benv ok zero = λ m. refl
  env_on os o k env benv ok (suc i) = puts_on os o k (thing_at env i) (shown_at benv i) (ok i)

  env_more : (os : Constants) (k : ℕ) (env : List Thing) (benv : List Shown) (x : Thing) (s : Shown) → Puts os k x s →
      EnvOk os k env benv → EnvOk os k (x ∷ env) (s ∷ benv)
  env_more os k env benv x s p ok zero = p
  env_more os k env benv x s p ok (suc i) = ok i

  var_back : (os : Constants) (k : ℕ) (x : Thing) (s : Shown) (w : HVal) → Means os x k w → NoCell_v w →
      Puts os k x s → s k ≡ settle_v os w
  var_back os k (Is l) s w m c p = p k ∙ sym (ap (settle_v os) m)
  var_back os k (Made l j fs) s w m c p =
      let n = subst NoCell_v m.1 c in
      p.1 n m.0
      ∙ sym (ap (settle_v os) m.1
      ∙ ap (λ o. or_else o (HTuple (settle_vs os (listed fs)))) (ap (constant os) (sym m.1) ∙ m.2))
  var_back os k Gone s w m c p = absurd m

  value_back : (v : AVal) (w : HVal) (os : Constants) (k : ℕ) (env : List Thing) (benv : List Shown) →
      Stands_v (scope ds os env k) v w → NoCell_v w → EnvOk os k env benv → back_v ds benv k v ≡ settle_v os w
  value_back (Var i) w os k env benv s c ok = var_back os k (thing_at env i) (shown_at benv i) w s c (ok i)
  value_back (Num n) w os k env benv s c ok = sym (ap (settle_v os) s)
  value_back (Lab l) w os k env benv s c ok = sym (ap (settle_v os) s)
  value_back (Data n) w os k env benv s c ok =
      held_is ds n s.1 s.4
      ∙ sym (ap (settle_v os) s.2 ∙ ap (λ o. or_else o (HTuple (settle_vs os s.0))) (ap (constant os) (sym s.2) ∙ s.3))
  value_back (Apply v ts) w os k env benv s c ok =
      let n = subst NoCell_v s.2 c in
      ap₂ HApply (value_back v s.0 os k env benv s.4 n.0 ok) (ap drops (sym s.3) ∙ drops_are s.1 n.1)
      ∙ sym (ap (settle_v os) s.2)
  value_back (Pack h v u) w os k env benv s c ok =
      let n = subst NoCell_v s.3 c in
      ap (λ x. HPack x (back_v ds benv k v) (drop u)) (ap drop (sym s.4) ∙ drop_is s.0 n.0)
      ∙ ap₂ (HPack s.0) (value_back v s.1 os k env benv s.6 n.1 ok) (ap drop (sym s.5) ∙ drop_is s.2 n.2)
      ∙ sym (ap (settle_v os) s.3)

  values_back : (vs : List AVal) (ws : HVals) (os : Constants) (k : ℕ) (env : List Thing) (benv : List Shown) →
      Stands_vs (scope ds os env k) vs ws → NoCell_vs ws → EnvOk os k env benv → back_vs ds benv k vs ≡ settle_vs os ws
  values_back [] ws os k env benv s c ok = sym (ap (settle_vs os) s)
  values_back (v ∷ vs) ws os k env benv s c ok =
      let n = subst NoCell_vs s.2 c in
      ap₂ MoreHVals (value_back v s.0 os k env benv s.3 n.0 ok) (values_back vs s.1 os k env benv s.4 n.1 ok)
      ∙ sym (ap (settle_vs os) s.2)

  content_no : (a : ATm) (h : HTm) (os : Constants) (made : List Thing) (env : List Thing) (k : ℕ) →
      Stands_t (scope ds os env k) made a Content h → NoCell_t h → ⊥
  content_no (Let (Init v i w) e) h os made env k s c = (subst NoCell_t s.4 c).0
  content_no (Let (Value v) e) h os made env k s c = s
  content_no (Let (Proj i v) e) h os made env k s c = s
  content_no (Let (Arith op v w) e) h os made env k s c = s
  content_no (Let (Unpack v) e) h os made env k s c = s
  content_no (Let (Malloc ts) e) h os made env k s c = s
  content_no (Call v ts vs) h os made env k s c = s
  content_no (If0 v a b) h os made env k s c = s
  content_no (Halt v) h os made env k s c = s

  more_fields : (fs : List HVal) (y : HVal) (os : Constants) → add_last (settle_vs os (listed fs)) (settle_v os y)
      ≡ settle_vs os (listed (fs ++ y ∷ []))
  more_fields [] y os = refl
  more_fields (x ∷ fs) y os = ap (MoreHVals (settle_v os x)) (more_fields fs y os)

  fields_no : (fs : List HVal) (y : HVal) → NoCell_vs (listed (fs ++ y ∷ [])) → NoCell_vs (listed fs) × NoCell_v y
  fields_no [] y c = (tt, c.0)
  fields_no (x ∷ fs) y c = let r = fields_no fs y c.1 in ((c.0, r.0), r.1)

  -- one field more of a tuple that is filled in part
  abbrev Partly : Constants → ℕ → List HVal → Shown → Type 0
  Partly os k fs s = NoCell_vs (listed fs) → s k ≡ HTuple (settle_vs os (listed fs))

  init_back : (v w : AVal) (os : Constants) (k : ℕ) (env : List Thing) (benv : List Shown) (fs : List HVal) (y : HVal) →
      v ≡ Var 0 → Stands_v (scope ds os env k) w y → EnvOk os k env benv → Partly os k fs (shown_at benv 0) →
      Partly os k (fs ++ y ∷ []) (λ m. add_field (back_v ds benv m v) (back_v ds benv m w))
  init_back v w os k env benv fs y ev sw ok old c =
      let no = fields_no fs y c in
      ap₂ add_field (ap (back_v ds benv k) ev ∙ old no.0) (value_back w y os k env benv sw no.1 ok)
      ∙ ap HTuple (more_fields fs y os)

  mutual
    term_back : (a : ATm) (h : HTm) (os : Constants) (made : List Thing) (k : ℕ) (env : List Thing)
        (benv : List Shown) → Stands_t (scope ds os env k) made a Any h → NoCell_t h → EnvOk os k env benv →
        back_t ds benv k a ≡ settle_t os h
    term_back (Let (Value v) e) h os made k env benv (w, t, is, sv, at, st) c ok =
        let n = subst NoCell_t is c in
        ap₂ (λ x y. HLet (HName x) y) (value_back v w os k env benv sv n.0 ok)
        (term_back e t (constant os w ∷ os) [] (suc k) (Is k ∷ env) (named k ∷ benv) st n.1
        (env_on os (constant os w) k env benv ok))
        ∙ sym (ap (settle_t os) is)
    term_back (Let (Proj i v) e) h os made k env benv (w, t, inl is, sv, at, st) c ok =
        let n = subst NoCell_t is c in
        ap₂ (λ x y. HLet (HProj i x) y) (value_back v w os k env benv sv n.0 ok)
        (term_back e t (None ∷ os) [] (suc k) (Is k ∷ env) (named k ∷ benv) st n.1 (env_on os None k env benv ok))
        ∙ sym (ap (settle_t os) is)
    term_back (Let (Proj i v) e) h os made k env benv (w, t, inr get, sv, at, st) c ok =
        absurd (subst NoCell_t get.1 c).0
    term_back (Let (Arith op v w) e) h os made k env benv (x, y, t, is, sv, sw, at, st) c ok =
        let n = subst NoCell_t is c in
        ap₂ (λ p q. HLet (HArith op p q) (back_t ds (named k ∷ benv) (suc k) e))
        (value_back v x os k env benv sv n.0.0 ok) (value_back w y os k env benv sw n.0.1 ok)
        ∙ ap (HLet (HArith op (settle_v os x) (settle_v os y)))
        (term_back e t (None ∷ os) [] (suc k) (Is k ∷ env) (named k ∷ benv) st n.1 (env_on os None k env benv ok))
        ∙ sym (ap (settle_t os) is)
    term_back (Let (Unpack v) e) h os made k env benv (w, t, is, sv, at, st) c ok =
        let n = subst NoCell_t is c in
        ap₂ (λ x y. HLet (HUnpack x) y) (value_back v w os k env benv sv n.0 ok)
        (term_back e t (None ∷ os) [] (suc k) (Is k ∷ env) (named k ∷ benv) st n.1 (env_on os None k env benv ok))
        ∙ sym (ap (settle_t os) is)
    term_back (Let (Malloc ts) e) h os made k env benv (inl (n, many, st)) c ok =
        let s : Shown = λ m. HTuple NoHVals in
        fill_back e h os [] n [] made k (Gone ∷ env) (s ∷ benv) st c (env_more os k env benv Gone s tt ok) (λ q. refl)
    term_back (Let (Malloc ts) e) h os made k env benv (inr (one, st)) c ok =
        absurd (content_no e h os made (Gone ∷ env) k st c)
    term_back (Let (Init v i w) e) h os made k env benv (x, y, t, one, is, sv, sw, at, st) c ok =
        absurd (subst NoCell_t is c).0
    term_back (Call v ts vs) h os made k env benv (x, us, xs, is, types, sv, svs, at) c ok =
        let n = subst NoCell_t is c in
        ap₂ (λ p q. HCall p q (back_vs ds benv k vs)) (value_back v x os k env benv sv n.0 ok)
        (ap drops (sym types) ∙ drops_are us n.1)
        ∙ ap (HCall (settle_v os x) us) (values_back vs xs os k env benv svs n.2 ok)
        ∙ sym (ap (settle_t os) is)
    term_back (If0 v a b) h os made k env benv (x, t, u, is, sv, at, st, su) c ok =
        let n = subst NoCell_t is c in
        ap₂ (λ p q. HIf p q (back_t ds benv k b)) (value_back v x os k env benv sv n.0 ok)
        (term_back a t os [] k env benv st n.1 ok)
        ∙ ap (HIf (settle_v os x) (settle_t os t)) (term_back b u os [] k env benv su n.2 ok)
        ∙ sym (ap (settle_t os) is)
    term_back (Halt v) h os made k env benv (x, is, sv, at) c ok =
        let n = subst NoCell_t is c in
        ap HHalt (value_back v x os k env benv sv n ok) ∙ sym (ap (settle_t os) is)

    fill_back : (a : ATm) (h : HTm) (os : Constants) (fs : List HVal) (n : ℕ) (taken made : List Thing) (k : ℕ)
        (env : List Thing) (benv : List Shown) → Stands_t (scope ds os env k) made a (Filling fs n taken) h → NoCell_t h
        →
        EnvOk os k env benv →
        Partly os k fs (shown_at benv 0) → back_t ds benv k a ≡ settle_t os h
    fill_back (Let (Init v i w) e) h os fs zero taken made k env benv (y, left, ev, ei, sw, at, st) c ok old =
        let s : Shown = λ m. add_field (back_v ds benv m v) (back_v ds benv m w) in
        let new = made_at env k (fs ++ y ∷ []) in
        let part = init_back v w os k env benv fs y ev sw ok old in
        term_back e h os (left ++ new ∷ []) k (new ∷ env) (s ∷ benv) st c
        (env_more os k env benv new s (omega arith, λ q z. part q) ok)
    fill_back (Let (Init v i w) e) h os fs (suc n) taken made k env benv (y, ev, ei, sw, st) c ok old =
        let s : Shown = λ m. add_field (back_v ds benv m v) (back_v ds benv m w) in
        let part = init_back v w os k env benv fs y ev sw ok old in
        fill_back e h os (fs ++ y ∷ []) n (taken ++ takes env w) made k (Gone ∷ env) (s ∷ benv) st c
        (env_more os k env benv Gone s tt ok) part
    fill_back (Let (Value v) e) h os fs n taken made k env benv s c ok old = absurd s
    fill_back (Let (Proj i v) e) h os fs n taken made k env benv s c ok old = absurd s
    fill_back (Let (Arith op v w) e) h os fs n taken made k env benv s c ok old = absurd s
    fill_back (Let (Unpack v) e) h os fs n taken made k env benv s c ok old = absurd s
    fill_back (Let (Malloc ts) e) h os fs n taken made k env benv s c ok old = absurd s
    fill_back (Call v ts vs) h os fs n taken made k env benv s c ok old = absurd s
    fill_back (If0 v a b) h os fs n taken made k env benv s c ok old = absurd s
    fill_back (Halt v) h os fs n taken made k env benv s c ok old = absurd s

  args_ok : (ts : ATys) (k : ℕ) (env : List Thing) (benv : List Shown) →
      ((os : Constants) (m : ℕ) → EnvOk os m env benv) → (os : Constants) (m : ℕ) →
      EnvOk os m (arg_things k env ts) (arg_names k benv ts)
  args_ok NoATys k env benv ok os m = ok os m
  args_ok (MoreATys t ts) k env benv ok os m =
      args_ok ts (suc k) (Is k ∷ env) (named k ∷ benv)
      (λ os m. env_more os m env benv (Is k) (named k) (λ z. refl) (ok os m)) os m

  count_is : (ts : ATys) (k : ℕ) → arg_count k ts ≡ k + arity ts
  count_is NoATys k = omega arith
  count_is (MoreATys t ts) k = count_is ts (suc k) ∙ omega arith

  blocks_back : (bs : List ABlk) (xs : HBlks) → Stands_all ds bs xs → NoCells xs → back_all ds bs ≡ settle_all xs
  blocks_back [] [] s c = refl
  blocks_back [] (x ∷ xs) s c = absurd s
  blocks_back (b ∷ bs) [] s c = absurd s
  blocks_back (b ∷ bs) (x ∷ xs) s c =
      let os = of_args x.args [] in
      let k = arg_count 0 b.args in
      let z : arity b.args ≡ k = sym (count_is b.args 0 ∙ omega arith) in
      let st = subst (λ m. Stands_t (scope ds os (arg_things 0 [] b.args) m) [] b.body Any x.body) z s.0.2 in
      let body = term_back b.body x.body os [] k (arg_things 0 [] b.args) (arg_names 0 [] b.args) st c.0.1
      (args_ok b.args 0 [] [] (λ os m i. tt) os k) in
      let args = ap drops (sym s.0.1) ∙ drops_are x.args c.0.0 in
      ap₂ (λ p q. p ∷ q)
      (ap (λ o. record { owes = o; args = drops b.args; body = back_t ds (arg_names 0 [] b.args) k b.body }) s.0.0
      ∙ ap₂ (λ p q. record { owes = x.owes; args = p; body = q }) args body)
      (blocks_back bs xs s.1 c.1)

pub put_back : PutsBack
put_back p main ks t s c d =
    let ds = tuples_in ks t in
    let no = all_no (tuples_all ks) (tuples_t [] t) (tuples_all_no ks c) (tuples_t_no t [] tt d) in (
      data_back ds p.tuples ds s.0 no,
      blocks_back ds p.blocks ks s.2 c,
      term_back ds main t [] [] 0 [] [] s.3 d (λ i. tt),
    )
