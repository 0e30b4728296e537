-- What stands for a program has no malloc that it does not ask for.
use Rattle.std.proofs.Common.{◌≡◌, ℕ, zero, suc, ◌+◌, List, [], ◌∷◌, ◌++◌, Some, None, inl, inr, refl, sym, ap, ◌∙◌}
use Rattle.std.proofs.Common.{arith}
use Rattle.h_terms.specs.H.{HVal, HTuple, HVals, HTm, HBlks}
use Rattle.a_terms.specs.Tree.{AVal, Var, Num, Lab, Data, Apply, Pack, ATm, Let, Call, If0, Halt, Value, Proj, Arith}
use Rattle.a_terms.specs.Tree.{Unpack, Malloc, Init, ABlk, arity}
use Rattle.a_laws.specs.Constants.{Constants, constant, of_args, tuples_in}
use Rattle.a_laws.specs.Mallocs.{mallocs, all_mallocs, unless_constant, tuples_made, all_made, made_in, made_in_all}
use Rattle.a_laws.specs.Mallocs.{MallocsAreAsked}
use Rattle.a_laws.specs.Stands.{scope, Thing, Is, Made, Gone, thing_at, listed, Means, takes, all_take, made_at}
use Rattle.a_laws.specs.Stands.{Stands_v}
use Rattle.a_laws.specs.Stands.{tuple_of, Stands_vs, Any, Filling, Content, Unit_named, Stands_t, Stands_all}
use Rattle.a_laws.specs.Stands.{arg_things}

-- how many tuples these are, with those inside them
abbrev thing_made : Constants → Thing → ℕ
thing_made os (Is l) = 0
thing_made os (Made l k fs) = suc (all_made os (listed fs))
thing_made os Gone = 0

abbrev things_made : Constants → List Thing → ℕ
things_made os [] = 0
things_made os (x ∷ xs) = thing_made os x + things_made os xs

module _ (ds : List HVal) where
  more_things : (os : Constants) (xs ys : List Thing) →
      things_made os (xs ++ ys) ≡ things_made os xs + things_made os ys
  more_things os [] ys = omega arith
  more_things os (x ∷ xs) ys = let r = more_things os xs ys in omega (arith, r)

  one_more : (os : Constants) (fs : List HVal) (y : HVal) →
      all_made os (listed (fs ++ y ∷ [])) ≡ all_made os (listed fs) + tuples_made os y
  one_more os [] y = omega arith
  one_more os (x ∷ fs) y = let r = one_more os fs y in omega (arith, r)

  of_tuple : (os : Constants) (vs : HVals) → constant os (HTuple vs) ≡ None →
      tuples_made os (HTuple vs) ≡ suc (all_made os vs)
  of_tuple os vs e = ap (λ o. unless_constant o (all_made os vs)) e

  of_constant : (os : Constants) (vs : HVals) (c : HVal) → constant os (HTuple vs) ≡ Some c →
      tuples_made os (HTuple vs) ≡ 0
  of_constant os vs c e = ap (λ o. unless_constant o (all_made os vs)) e

  of_thing : (os : Constants) (x : Thing) (m : ℕ) (w : HVal) → Means os x m w →
      tuples_made os w ≡ things_made os (tuple_of x)
  of_thing os (Is l) m w e = ap (tuples_made os) e
  of_thing os (Made l k fs) m w e =
      let none = ap (constant os) (sym e.1) ∙ e.2 in
      let x = ap (tuples_made os) e.1 in
      let y = of_tuple os (listed fs) none in
      omega (arith, x, y)
  of_thing os Gone m w e = absurd e

  of_value : (v : AVal) (w : HVal) (os : Constants) (env : List Thing) (m : ℕ) → Stands_v (scope ds os env m) v w →
      tuples_made os w ≡ things_made os (takes env v)
  of_value (Var i) w os env m s = of_thing os (thing_at env i) m w s
  of_value (Num n) w os env m s = ap (tuples_made os) s
  of_value (Lab l) w os env m s = ap (tuples_made os) s
  of_value (Data n) w os env m s =
      ap (tuples_made os) s.2 ∙ of_constant os s.0 s.1 (ap (constant os) (sym s.2) ∙ s.3)
  of_value (Apply v ts) w os env m s = ap (tuples_made os) s.2 ∙ of_value v s.0 os env m s.4
  of_value (Pack h v u) w os env m s = ap (tuples_made os) s.3 ∙ of_value v s.1 os env m s.6

  of_values : (vs : List AVal) (ws : HVals) (os : Constants) (env : List Thing) (m : ℕ) →
      Stands_vs (scope ds os env m) vs ws → all_made os ws ≡ things_made os (all_take env vs)
  of_values [] ws os env m s = ap (all_made os) s
  of_values (v ∷ vs) ws os env m s =
      let a = ap (all_made os) s.2 in
      let x = of_value v s.0 os env m s.3 in
      let y = of_values vs s.1 os env m s.4 in
      let z = more_things os (takes env v) (all_take env vs) in
      omega (arith, a, x, y, z)

  mutual
    of_term : (a : ATm) (h : HTm) (os : Constants) (made env : List Thing) (k : ℕ) →
        Stands_t (scope ds os env k) made a Any h → mallocs a + things_made os made ≡ made_in os h
    of_term (Let (Value v) e) h os made env k (w, t, is, sv, at, st) =
        let a = ap (made_in os) is in
        let b = of_value v w os env k sv in
        let c = ap (things_made os) at in
        let r = of_term e t (constant os w ∷ os) [] (Is k ∷ env) (suc k) st in
        omega (arith, a, b, c, r)
    of_term (Let (Proj i v) e) h os made env k (w, t, inl is, sv, at, st) =
        let a = ap (made_in os) is in
        let b = of_value v w os env k sv in
        let c = ap (things_made os) at in
        let r = of_term e t (None ∷ os) [] (Is k ∷ env) (suc k) st in
        omega (arith, a, b, c, r)
    of_term (Let (Proj i v) e) h os made env k (w, t, inr get, sv, at, st) =
        let a = ap (made_in os) get.1 in
        let b = of_value v w os env k sv in
        let c = ap (things_made os) at in
        let r = of_term e t (None ∷ os) [] (Is k ∷ env) (suc k) st in
        omega (arith, a, b, c, r)
    of_term (Let (Arith op v w) e) h os made env k (x, y, t, is, sv, sw, at, st) =
        let a = ap (made_in os) is in
        let b = of_value v x os env k sv in
        let c = of_value w y os env k sw in
        let d = ap (things_made os) at in
        let m = more_things os (takes env v) (takes env w) in
        let r = of_term e t (None ∷ os) [] (Is k ∷ env) (suc k) st in
        omega (arith, a, b, c, d, m, r)
    of_term (Let (Unpack v) e) h os made env k (w, t, is, sv, at, st) =
        let a = ap (made_in os) is in
        let b = of_value v w os env k sv in
        let c = ap (things_made os) at in
        let r = of_term e t (None ∷ os) [] (Is k ∷ env) (suc k) st in
        omega (arith, a, b, c, r)
    of_term (Let (Malloc ts) e) h os made env k (inl (n, many, st)) =
        let r = of_filling e h os [] n [] made (Gone ∷ env) k st refl in omega (arith, r)
    of_term (Let (Malloc ts) e) h os made env k (inr (one, st)) =
        let r = of_content e h os made (Gone ∷ env) k st in omega (arith, r)
    of_term (Let (Init v i w) e) h os made env k (x, y, t, one, is, sv, sw, at, st) =
        let a = ap (made_in os) is in
        let b = of_value v x os env k sv in
        let c = of_value w y os env k sw in
        let d = ap (things_made os) at in
        let m = more_things os (takes env v) (takes env w) in
        let r = of_unit e t (None ∷ os) (Gone ∷ env) k st in
        omega (arith, a, b, c, d, m, r)
    of_term (Call v ts vs) h os made env k (x, us, xs, is, types, sv, svs, at) =
        let a = ap (made_in os) is in
        let b = of_value v x os env k sv in
        let c = of_values vs xs os env k svs in
        let d = ap (things_made os) at in
        let m = more_things os (takes env v) (all_take env vs) in
        omega (arith, a, b, c, d, m)
    of_term (If0 v a b) h os made env k (x, t, u, is, sv, at, st, su) =
        let c = ap (made_in os) is in
        let d = of_value v x os env k sv in
        let m = ap (things_made os) at in
        let p = of_term a t os [] env k st in
        let q = of_term b u os [] env k su in
        omega (arith, c, d, m, p, q)
    of_term (Halt v) h os made env k (x, is, sv, at) =
        let a = ap (made_in os) is in
        let b = of_value v x os env k sv in
        let c = ap (things_made os) at in
        omega (arith, a, b, c)

    -- the fields that are filled ask for as many tuples as they took
    of_filling : (a : ATm) (h : HTm) (os : Constants) (fs : List HVal) (n : ℕ) (taken made env : List Thing) (k : ℕ) →
        Stands_t (scope ds os env k) made a (Filling fs n taken) h → all_made os (listed fs) ≡ things_made os taken →
        suc (mallocs a) + things_made os made ≡ made_in os h
    of_filling (Let (Init v i w) e) h os fs zero taken made env k (y, left, ev, ei, sw, at, st) same =
        let new = made_at env k (fs ++ y ∷ []) in
        let a = ap (things_made os) at in
        let b = more_things os left (taken ++ takes env w) in
        let c = more_things os taken (takes env w) in
        let d = of_value w y os env k sw in
        let m = more_things os left (new ∷ []) in
        let o = one_more os fs y in
        let r = of_term e h os (left ++ new ∷ []) (new ∷ env) k st in
        omega (arith, a, b, c, d, m, o, r, same)
    of_filling (Let (Init v i w) e) h os fs (suc n) taken made env k (y, ev, ei, sw, st) same =
        let c = more_things os taken (takes env w) in
        let d = of_value w y os env k sw in
        let o = one_more os fs y in
        of_filling e h os (fs ++ y ∷ []) n (taken ++ takes env w) made (Gone ∷ env) k st (omega (arith, c, d, o, same))
    of_filling (Let (Value v) e) h os fs n taken made env k s same = absurd s
    of_filling (Let (Proj i v) e) h os fs n taken made env k s same = absurd s
    of_filling (Let (Arith op v w) e) h os fs n taken made env k s same = absurd s
    of_filling (Let (Unpack v) e) h os fs n taken made env k s same = absurd s
    of_filling (Let (Malloc ts) e) h os fs n taken made env k s same = absurd s
    of_filling (Call v ts vs) h os fs n taken made env k s same = absurd s
    of_filling (If0 v a b) h os fs n taken made env k s same = absurd s
    of_filling (Halt v) h os fs n taken made env k s same = absurd s

    of_content : (a : ATm) (h : HTm) (os : Constants) (made env : List Thing) (k : ℕ) →
        Stands_t (scope ds os env k) made a Content h → suc (mallocs a) + things_made os made ≡ made_in os h
    of_content (Let (Init v i w) e) h os made env k (x, t, ev, ei, is, sw, at, st) =
        let a = ap (made_in os) is in
        let b = of_value w x os env k sw in
        let c = ap (things_made os) at in
        let r = of_term e t (None ∷ os) [] (Is k ∷ env) (suc k) st in
        omega (arith, a, b, c, r)
    of_content (Let (Value v) e) h os made env k s = absurd s
    of_content (Let (Proj i v) e) h os made env k s = absurd s
    of_content (Let (Arith op v w) e) h os made env k s = absurd s
    of_content (Let (Unpack v) e) h os made env k s = absurd s
    of_content (Let (Malloc ts) e) h os made env k s = absurd s
    of_content (Call v ts vs) h os made env k s = absurd s
    of_content (If0 v a b) h os made env k s = absurd s
    of_content (Halt v) h os made env k s = absurd s

    of_unit : (a : ATm) (h : HTm) (os : Constants) (env : List Thing) (k : ℕ) →
        Stands_t (scope ds os env k) [] a Unit_named h → mallocs a ≡ suc (made_in os h)
    of_unit (Let (Malloc ts) e) h os env k (none, st) =
        let r = of_term e h os [] (Is k ∷ env) (suc k) st in omega (arith, r)
    of_unit (Let (Init v i w) e) h os env k s = absurd s
    of_unit (Let (Value v) e) h os env k s = absurd s
    of_unit (Let (Proj i v) e) h os env k s = absurd s
    of_unit (Let (Arith op v w) e) h os env k s = absurd s
    of_unit (Let (Unpack v) e) h os env k s = absurd s
    of_unit (Call v ts vs) h os env k s = absurd s
    of_unit (If0 v a b) h os env k s = absurd s
    of_unit (Halt v) h os env k s = absurd s

  of_blocks : (bs : List ABlk) (xs : HBlks) → Stands_all ds bs xs → all_mallocs bs ≡ made_in_all xs
  of_blocks [] [] s = refl
  of_blocks [] (x ∷ xs) s = absurd s
  of_blocks (b ∷ bs) [] s = absurd s
  of_blocks (b ∷ bs) (x ∷ xs) s =
      let k = arity b.args in
      let a = of_term b.body x.body (of_args x.args []) [] (arg_things 0 [] b.args) k s.0.2 in
      let r = of_blocks bs xs s.1 in
      omega (arith, a, r)

pub mallocs_are_asked : MallocsAreAsked
mallocs_are_asked p main ks t s =
    let ds = tuples_in ks t in
    let a = of_term ds main t [] [] [] 0 s.3 in
    (of_blocks ds p.blocks ks s.2, omega (arith, a))
