-- The tuples of a value that are no constants, each after those inside it; and which are still to be made.
use Rattle.std.proofs.Common.{◌≡◌, ℕ, zero, suc, List, [], ◌∷◌, ◌++◌, Option, Some, None, inl, inr, refl, sym, ap, ap₂}
use Rattle.std.proofs.Common.{◌∙◌, append_assoc, append-nil}
use Rattle.h_terms.specs.H.{HVal, HVar, HInt, HLabel, HTuple, HApply, HPack, HVals, NoHVals, MoreHVals, HName, HProj}
use Rattle.h_terms.specs.H.{HArith, HUnpack, HCell, HGet, HSet, HTm, HLet, HCall, HIf, HHalt}
use Rattle.a_terms.specs.Tree.{AVal, Var, Num, Lab, Data, Apply, Pack, ATm, Let, Call, If0, Halt, Value, Proj, Arith}
use Rattle.a_terms.specs.Tree.{Unpack, Malloc, Init}
use Rattle.a_laws.specs.Constants.{Constants, constant}
use Rattle.a_laws.specs.Stands.{scope, Thing, Is, Made, Gone, thing_at, listed, Means, tuple_of, takes, all_take}
use Rattle.a_laws.specs.Stands.{made_at}
use Rattle.a_laws.specs.Stands.{Stands_v, Stands_vs, Any, Filling, Content, Stands_t}

abbrev with_tuple : Option HVal → List HVal → HVal → List HVal
with_tuple None ps w = ps ++ w ∷ []
with_tuple (Some c) ps w = []

abbrev mutual
  pub posts : Constants → HVal → List HVal
  posts os (HVar i) = []
  posts os (HInt n) = []
  posts os (HLabel l) = []
  posts os (HTuple vs) = with_tuple (constant os (HTuple vs)) (all_posts os vs) (HTuple vs)
  posts os (HApply v ts) = posts os v
  posts os (HPack h v s) = posts os v

  pub all_posts : Constants → HVals → List HVal
  all_posts os NoHVals = []
  all_posts os (MoreHVals v vs) = posts os v ++ all_posts os vs

-- of the first declaration, or of the end
abbrev pub first_posts : Constants → HTm → List HVal
first_posts os (HLet (HName v) t) = posts os v
first_posts os (HLet (HProj i v) t) = posts os v
first_posts os (HLet (HArith op v w) t) = posts os v ++ posts os w
first_posts os (HLet (HUnpack v) t) = posts os v
first_posts os (HLet (HCell v) t) = posts os v
first_posts os (HLet (HGet v) t) = posts os v
first_posts os (HLet (HSet v w) t) = posts os v ++ posts os w
first_posts os (HCall f ts vs) = posts os f ++ all_posts os vs
first_posts os (HIf v t u) = posts os v
first_posts os (HHalt v) = posts os v

abbrev pub thing_posts : Constants → Thing → List HVal
thing_posts os (Is l) = []
thing_posts os (Made l k fs) = all_posts os (listed fs) ++ HTuple (listed fs) ∷ []
thing_posts os Gone = []

abbrev pub things_posts : Constants → List Thing → List HVal
things_posts os [] = []
things_posts os (x ∷ xs) = thing_posts os x ++ things_posts os xs

pub more_things : (os : Constants) (xs ys : List Thing) →
    things_posts os (xs ++ ys) ≡ things_posts os xs ++ things_posts os ys
more_things os [] ys = refl
more_things os (x ∷ xs) ys =
    ap (λ z. thing_posts os x ++ z) (more_things os xs ys)
    ∙ sym (append_assoc (thing_posts os x) (things_posts os xs) (things_posts os ys))

pub one_more : (os : Constants) (fs : List HVal) (y : HVal) →
    all_posts os (listed (fs ++ y ∷ [])) ≡ all_posts os (listed fs) ++ posts os y
one_more os [] y = append-nil (posts os y)
one_more os (x ∷ fs) y =
    ap (λ z. posts os x ++ z) (one_more os fs y)
    ∙ sym (append_assoc (posts os x) (all_posts os (listed fs)) (posts os y))

module _ (ds : List HVal) where
  of_thing : (os : Constants) (x : Thing) (m : ℕ) (w : HVal) → Means os x m w →
      posts os w ≡ things_posts os (tuple_of x)
  of_thing os (Is l) m w e = ap (posts os) e
  of_thing os (Made l k fs) m w e =
      let none = ap (constant os) (sym e.1) ∙ e.2 in
      let t = HTuple (listed fs) in
      ap (posts os) e.1 ∙ ap (λ o. with_tuple o (all_posts os (listed fs)) t) none
      ∙ sym (append-nil (all_posts os (listed fs) ++ t ∷ []))
  of_thing os Gone m w e = absurd e

  pub of_value : (v : AVal) (w : HVal) (os : Constants) (env : List Thing) (m : ℕ) → Stands_v (scope ds os env m) v w →
      posts os w ≡ things_posts os (takes env v)
  of_value (Var i) w os env m s = of_thing os (thing_at env i) m w s
  of_value (Num n) w os env m s = ap (posts os) s
  of_value (Lab l) w os env m s = ap (posts os) s
  of_value (Data n) w os env m s =
      let some = ap (constant os) (sym s.2) ∙ s.3 in
      ap (posts os) s.2 ∙ ap (λ o. with_tuple o (all_posts os s.0) (HTuple s.0)) some
  of_value (Apply v ts) w os env m s = ap (posts os) s.2 ∙ of_value v s.0 os env m s.4
  of_value (Pack h v u) w os env m s = ap (posts os) s.3 ∙ of_value v s.1 os env m s.6

  pub of_values : (vs : List AVal) (ws : HVals) (os : Constants) (env : List Thing) (m : ℕ) →
      Stands_vs (scope ds os env m) vs ws → all_posts os ws ≡ things_posts os (all_take env vs)
  of_values [] ws os env m s = ap (all_posts os) s
  of_values (v ∷ vs) ws os env m s =
      ap (all_posts os) s.2 ∙ ap₂ ◌++◌ (of_value v s.0 os env m s.3) (of_values vs s.1 os env m s.4)
      ∙ sym (more_things os (takes env v) (all_take env vs))

  -- one value that takes all that is made, and two
  pub of_one : (v : AVal) (w : HVal) (os : Constants) (made env : List Thing) (m : ℕ) → Stands_v (scope ds os env m) v w
      →
      takes env v ≡ made → things_posts os made ≡ posts os w
  of_one v w os made env m s at = sym (of_value v w os env m s ∙ ap (things_posts os) at)

  pub of_two : (v u : AVal) (x y : HVal) (os : Constants) (made env : List Thing) (m : ℕ) → Stands_v (scope ds os env m)
      v x →
      Stands_v (scope ds os env m) u y → takes env v ++ takes env u ≡ made → things_posts os made ≡ posts os x ++ posts
      os y
  of_two v u x y os made env m s r at =
      let both = ap₂ ◌++◌ (of_value v x os env m s) (of_value u y os env m r) in
      sym (both ∙ sym (more_things os (takes env v) (takes env u)) ∙ ap (things_posts os) at)

  -- the fields that are to come
  abbrev pub fields_of : (a : ATm) (h : HTm) (os : Constants) (fs : List HVal) (n : ℕ)
      (taken made env : List Thing) (k : ℕ) → Stands_t (scope ds os env k) made a (Filling fs n taken) h → List HVal
  fields_of (Let (Init v i w) e) h os fs zero taken made env k (y, left, ev, ei, sw, at, st) = y ∷ []
  fields_of (Let (Init v i w) e) h os fs (suc n) taken made env k (y, ev, ei, sw, st) =
      y ∷ fields_of e h os (fs ++ y ∷ []) n (taken ++ takes env w) made (Gone ∷ env) k st
  fields_of (Let (Value v) e) h os fs n taken made env k s = []
  fields_of (Let (Proj i v) e) h os fs n taken made env k s = []
  fields_of (Let (Arith op v w) e) h os fs n taken made env k s = []
  fields_of (Let (Unpack v) e) h os fs n taken made env k s = []
  fields_of (Let (Malloc ts) e) h os fs n taken made env k s = []
  fields_of (Call v ts vs) h os fs n taken made env k s = []
  fields_of (If0 v a b) h os fs n taken made env k s = []
  fields_of (Halt v) h os fs n taken made env k s = []

shuffle : (ps qs : List HVal) (t : HVal) (rs : List HVal) →
    (ps ++ qs) ++ t ∷ rs ≡ (ps ++ (qs ++ t ∷ [])) ++ rs
shuffle [] [] t rs = refl
shuffle [] (q ∷ qs) t rs = ap (λ z. q ∷ z) (shuffle [] qs t rs)
shuffle (p ∷ ps) qs t rs = ap (λ z. p ∷ z) (shuffle ps qs t rs)

-- the tuples that are made, once the last field is filled
pub posts_after : (os : Constants) (fs : List HVal) (y : HVal) (left taken more : List Thing) (new : Thing) →
    all_posts os (listed fs) ≡ things_posts os taken → posts os y ≡ things_posts os more →
    thing_posts os new ≡ all_posts os (listed (fs ++ y ∷ [])) ++ HTuple (listed (fs ++ y ∷ [])) ∷ [] →
    (rs : List HVal) →
    things_posts os (left ++ (taken ++ more)) ++ HTuple (listed (fs ++ y ∷ [])) ∷ rs ≡
    things_posts os (left ++ new ∷ []) ++ rs
posts_after os fs y left taken more new same last is rs =
    let t = HTuple (listed (fs ++ y ∷ [])) in
    let ps = things_posts os left in
    let qs = things_posts os taken ++ things_posts os more in
    let inner : all_posts os (listed (fs ++ y ∷ [])) ≡ qs = one_more os fs y ∙ ap₂ ◌++◌ same last in
    let front : things_posts os (left ++ (taken ++ more)) ≡ ps ++ qs =
    more_things os left (taken ++ more) ∙ ap (λ z. ps ++ z) (more_things os taken more) in
    let after : things_posts os (left ++ new ∷ []) ≡ ps ++ (qs ++ t ∷ []) =
    more_things os left (new ∷ [])
    ∙ ap (λ z. ps ++ z) (append-nil (thing_posts os new) ∙ is ∙ ap (λ z. z ++ t ∷ []) inner) in
    ap (λ z. z ++ t ∷ rs) front ∙ shuffle ps qs t rs ∙ sym (ap (λ z. z ++ rs) after)

module _ (ds : List HVal) where
  mutual
    -- the tuples that are made, and those to come
    pub to_come : (a : ATm) (h : HTm) (os : Constants) (made env : List Thing) (k : ℕ) →
        Stands_t (scope ds os env k) made a Any h → (rs : List HVal) × (things_posts os made ++ rs ≡ first_posts os h)
    to_come (Let (Value v) e) h os made env k (w, t, is, sv, at, st) =
        ([], append-nil (things_posts os made) ∙ of_one ds v w os made env k sv at ∙ sym (ap (first_posts os) is))
    to_come (Let (Proj i v) e) h os made env k (w, t, inl is, sv, at, st) =
        ([], append-nil (things_posts os made) ∙ of_one ds v w os made env k sv at ∙ sym (ap (first_posts os) is))
    to_come (Let (Proj i v) e) h os made env k (w, t, inr get, sv, at, st) =
        ([], append-nil (things_posts os made) ∙ of_one ds v w os made env k sv at ∙ sym (ap (first_posts os) get.1))
    to_come (Let (Arith op v u) e) h os made env k (x, y, t, is, sv, su, at, st) =
        let all = of_two ds v u x y os made env k sv su at in
        ([], append-nil (things_posts os made) ∙ all ∙ sym (ap (first_posts os) is))
    to_come (Let (Unpack v) e) h os made env k (w, t, is, sv, at, st) =
        ([], append-nil (things_posts os made) ∙ of_one ds v w os made env k sv at ∙ sym (ap (first_posts os) is))
    to_come (Let (Malloc ts) e) h os made env k (inl (n, many, st)) =
        let r = to_come_filled e h os [] n [] made (Gone ∷ env) k st refl in
        (HTuple (listed (fields_of ds e h os [] n [] made (Gone ∷ env) k st)) ∷ r.0, r.1)
    to_come (Let (Malloc ts) e) h os made env k (inr (one, st)) = ([], in_cell e h os made (Gone ∷ env) k st)
    to_come (Let (Init v i u) e) h os made env k (x, y, t, one, is, sv, su, at, st) =
        let all = of_two ds v u x y os made env k sv su at in
        ([], append-nil (things_posts os made) ∙ all ∙ sym (ap (first_posts os) is))
    to_come (Call v ts vs) h os made env k (x, us, xs, is, types, sv, svs, at) =
        let all = ap₂ ◌++◌ (of_value ds v x os env k sv) (of_values ds vs xs os env k svs) in
        let taken = sym (more_things os (takes env v) (all_take env vs)) ∙ ap (things_posts os) at in
        ([], append-nil (things_posts os made) ∙ sym (all ∙ taken) ∙ sym (ap (first_posts os) is))
    to_come (If0 v a b) h os made env k (x, t, u, is, sv, at, st, su) =
        ([], append-nil (things_posts os made) ∙ of_one ds v x os made env k sv at ∙ sym (ap (first_posts os) is))
    to_come (Halt v) h os made env k (x, is, sv, at) =
        ([], append-nil (things_posts os made) ∙ of_one ds v x os made env k sv at ∙ sym (ap (first_posts os) is))

    pub to_come_filled : (a : ATm) (h : HTm) (os : Constants) (fs : List HVal) (n : ℕ) (taken made env : List Thing)
        (k : ℕ) (s : Stands_t (scope ds os env k) made a (Filling fs n taken) h) →
        all_posts os (listed fs) ≡ things_posts os taken →
        (rs : List HVal)
        × (things_posts os made ++ HTuple (listed (fs ++ fields_of ds a h os fs n taken made env k s)) ∷ rs
        ≡ first_posts os h)
    to_come_filled (Let (Init v i w) e) h os fs zero taken made env k (y, left, ev, ei, sw, at, st) same =
        let new = made_at env k (fs ++ y ∷ []) in
        let r = to_come e h os (left ++ new ∷ []) (new ∷ env) k st in
        let t = HTuple (listed (fs ++ y ∷ [])) in
        let x = posts_after os fs y left taken (takes env w) new same (of_value ds w y os env k sw) refl r.0 in
        (r.0, ap (λ z. things_posts os z ++ t ∷ r.0) at ∙ x ∙ r.1)
    to_come_filled (Let (Init v i w) e) h os fs (suc n) taken made env k (y, ev, ei, sw, st) same =
        let taken1 = taken ++ takes env w in
        let fs1 = fs ++ y ∷ [] in
        let same1 = one_more os fs y ∙ ap₂ ◌++◌ same (of_value ds w y os env k sw)
        ∙ sym (more_things os taken (takes env w)) in
        let r = to_come_filled e h os fs1 n taken1 made (Gone ∷ env) k st same1 in
        let rest = fields_of ds e h os fs1 n taken1 made (Gone ∷ env) k st in
        (r.0, ap (λ z. things_posts os made ++ HTuple (listed z) ∷ r.0) (sym (append_assoc fs (y ∷ []) rest)) ∙ r.1)
    to_come_filled (Let (Value v) e) h os fs n taken made env k s same = absurd s
    to_come_filled (Let (Proj i v) e) h os fs n taken made env k s same = absurd s
    to_come_filled (Let (Arith op v w) e) h os fs n taken made env k s same = absurd s
    to_come_filled (Let (Unpack v) e) h os fs n taken made env k s same = absurd s
    to_come_filled (Let (Malloc ts) e) h os fs n taken made env k s same = absurd s
    to_come_filled (Call v ts vs) h os fs n taken made env k s same = absurd s
    to_come_filled (If0 v a b) h os fs n taken made env k s same = absurd s
    to_come_filled (Halt v) h os fs n taken made env k s same = absurd s

    in_cell : (a : ATm) (h : HTm) (os : Constants) (made env : List Thing) (k : ℕ) →
        Stands_t (scope ds os env k) made a Content h → things_posts os made ++ [] ≡ first_posts os h
    in_cell (Let (Init v i w) e) h os made env k (x, t, ev, ei, is, sw, at, st) =
        append-nil (things_posts os made) ∙ of_one ds w x os made env k sw at ∙ sym (ap (first_posts os) is)
    in_cell (Let (Value v) e) h os made env k s = absurd s
    in_cell (Let (Proj i v) e) h os made env k s = absurd s
    in_cell (Let (Arith op v w) e) h os made env k s = absurd s
    in_cell (Let (Unpack v) e) h os made env k s = absurd s
    in_cell (Let (Malloc ts) e) h os made env k s = absurd s
    in_cell (Call v ts vs) h os made env k s = absurd s
    in_cell (If0 v a b) h os made env k s = absurd s
    in_cell (Halt v) h os made env k s = absurd s
