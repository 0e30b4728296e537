-- What stands for a hoisted program is one program, but for the types of its mallocs and the numbers of equal data.
use Rattle.std.proofs.Common.{◌≡◌, ⊎_elim, ℕ, suc, ◌+◌, List, [], ◌∷◌, ◌++◌, length, None, refl, sym, ap, ap₂, ◌∙◌}
use Rattle.std.proofs.Common.{subst, append-nil, arith}
use Rattle.std.proofs.lemmas.List.{append_cancel_left}
use Rattle.h_terms.specs.H.{HVal, HTuple, HVals, HName, HProj, HArith, HUnpack, HCell, HGet, HSet, HTm, HLet, HCall}
use Rattle.h_terms.specs.H.{HIf, HHalt, HBlks}
use Rattle.a_terms.specs.Tree.{ATys, NoATys, MoreATys, AVal, Var, ATm, Let, Call, If0, Halt, Value, Proj, Arith}
use Rattle.a_terms.specs.Tree.{Unpack, Malloc, Init, ABlk, arity}
use Rattle.a_laws.specs.Allocate.{atypes}
use Rattle.a_laws.specs.Constants.{Constants, constant, of_args, tuples_in}
use Rattle.a_laws.specs.OneAllocation.{unnumbered, all_unnumbered, untyped, plain_term, plain_blocks, OneAllocation}
use Rattle.a_laws.specs.Stands.{scope, Thing, Is, Gone, listed, takes, all_take, Stands_v, Stands_vs, Any, Stands_t}
use Rattle.a_laws.specs.Stands.{Stands_all, arg_things}
use Rattle.a_laws.proofs.Endings.{Ends, Makes, begins, all_there}
use Rattle.a_laws.proofs.FilledAlike.{head_is, alike, apart, count_fields}
use Rattle.a_laws.proofs.OneValue.{Good, good_none, good_gone, good_is, one_value, as_many}
use Rattle.a_laws.proofs.Posts.{things_posts, first_posts, fields_of, to_come_filled}
use Rattle.a_laws.proofs.OneData.{one_data}
use Rattle.a_laws.proofs.Inside.{inside, first_value, more_values, no_values}

none_more : {A : Type 0} (x : A) (xs : List A) → [] ≡ x ∷ xs → ⊥
none_more x xs e = cc

one_list : (xs ys : List HVal) → listed xs ≡ listed ys → xs ≡ ys
one_list [] [] e = refl
one_list [] (y ∷ ys) e = absurd (no_values e)
one_list (x ∷ xs) [] e = absurd (no_values (sym e))
one_list (x ∷ xs) (y ∷ ys) e = ap₂ (λ p q. p ∷ q) (first_value e) (one_list xs ys (more_values e))

module _ (ds : List HVal) where
  values_same : (os : Constants) (env : List Thing) (k : ℕ) → Good env k → (vs us : List AVal) (ws : HVals) →
      Stands_vs (scope ds os env k) vs ws → Stands_vs (scope ds os env k) us ws → all_take env vs ≡ all_take env us →
      all_unnumbered vs ≡ all_unnumbered us
  values_same os env k good [] [] ws s r t = refl
  values_same os env k good [] (u ∷ us) ws s r t = absurd (no_values (sym s ∙ r.2))
  values_same os env k good (v ∷ vs) [] ws s r t = absurd (no_values (sym r ∙ s.2))
  values_same os env k good (v ∷ vs) (u ∷ us) ws s r t =
      let e = sym s.2 ∙ r.2 in
      let ru = subst (λ z. Stands_v (scope ds os env k) u z) (sym (first_value e)) r.3 in
      let rest = subst (λ z. Stands_vs (scope ds os env k) us z) (sym (more_values e)) r.4 in
      let tops = as_many ds os env k good v u s.0 s.3 ru in
      let parts = apart (takes env v) (all_take env vs) (takes env u) (all_take env us) tops t in
      ap₂ (λ p q. p ∷ q) (one_value ds os env k good v u s.0 s.3 ru parts.0)
      (values_same os env k good vs us s.1 s.4 rest parts.1)

  -- two values that take the tuples together
  two_values : (os : Constants) (env made : List Thing) (k : ℕ) → Good env k → (v u p q : AVal) (x y : HVal) →
      Stands_v (scope ds os env k) v x → Stands_v (scope ds os env k) u y → takes env v ++ takes env u ≡ made →
      Stands_v (scope ds os env k) p x → Stands_v (scope ds os env k) q y → takes env p ++ takes env q ≡ made →
      (unnumbered v ≡ unnumbered p) × (unnumbered u ≡ unnumbered q)
  two_values os env made k good v u p q x y sv su at sp sq bt =
      let tops = as_many ds os env k good v p x sv sp in
      let parts = apart (takes env v) (takes env u) (takes env p) (takes env q) tops (at ∙ sym bt) in
      (one_value ds os env k good v p x sv sp parts.0, one_value ds os env k good u q y su sq parts.1)

  module _ (h : HTm) (os : Constants) (k : ℕ) where
    -- what is to be shown where both have all tuples
    abbrev AtEnd : Type 0
    AtEnd =
        (made env : List Thing) (a b : ATm) → Good env k → Ends ds os made env k h a → Ends ds os made env k h b →
        plain_term a ≡ plain_term b

    too_many : (rs : List HVal) (made env : List Thing) (a : ATm) → things_posts os made ++ [] ≡ first_posts os h →
        Makes ds os made env k h a → ⊥
    too_many rs made env a eq (ts, n, e, is, many, st) =
        let r = to_come_filled ds e h os [] n [] made (Gone ∷ env) k st refl in
        let t = HTuple (listed (fields_of ds e h os [] n [] made (Gone ∷ env) k st)) in
        none_more t r.0 (append_cancel_left (things_posts os made) [] (t ∷ r.0) (eq ∙ sym r.1))

    too_few : (t : HVal) (rs : List HVal) (made env : List Thing) (a : ATm) →
        things_posts os made ++ t ∷ rs ≡ first_posts os h → Ends ds os made env k h a → ⊥
    too_few t rs made env a eq x =
        let all = append-nil (things_posts os made) ∙ all_there ds h a os made env k x in
        none_more t rs (append_cancel_left (things_posts os made) [] (t ∷ rs) (all ∙ sym eq))

    -- two terms at one place, where these tuples are to come
    run : (rs : List HVal) (made env : List Thing) (a b : ATm) → Good env k → Stands_t (scope ds os env k) made a Any h
        →
        Stands_t (scope ds os env k) made b Any h → things_posts os made ++ rs ≡ first_posts os h → AtEnd →
        plain_term a ≡ plain_term b
    run [] made env a b good s r eq end = ⊎_elim
        (λ (x : Ends ds os made env k h a). ⊎_elim
        (λ (y : Ends ds os made env k h b). end made env a b good x y)
        (λ (m : Makes ds os made env k h b). absurd (too_many [] made env b eq m))
        (begins ds b h os made env k r))
        (λ (m : Makes ds os made env k h a). absurd (too_many [] made env a eq m))
        (begins ds a h os made env k s)
    run (t ∷ rs) made env a b good s r eq end = ⊎_elim
        (λ (x : Ends ds os made env k h a). absurd (too_few t rs made env a eq x))
        (λ (m : Makes ds os made env k h a). ⊎_elim
        (λ (y : Ends ds os made env k h b). absurd (too_few t rs made env b eq y))
        (λ (n : Makes ds os made env k h b).
        let old = Gone ∷ env in
        let fs = fields_of ds m.2 h os [] m.1 [] made old k m.5 in
        let gs = fields_of ds n.2 h os [] n.1 [] made old k n.5 in
        let p = to_come_filled ds m.2 h os [] m.1 [] made old k m.5 refl in
        let q = to_come_filled ds n.2 h os [] n.1 [] made old k n.5 refl in
        let pt = head_is (append_cancel_left (things_posts os made) (HTuple (listed fs) ∷ p.0) (t ∷ rs) (p.1 ∙ sym eq))
        in
        let qt = head_is (append_cancel_left (things_posts os made) (HTuple (listed gs) ∷ q.0) (t ∷ rs) (q.1 ∙ sym eq))
        in
        let same = one_list fs gs (inside (pt ∙ sym qt)) in
        let c = count_fields ds os k h m.2 [] m.1 [] made old m.5 in
        let d = count_fields ds os k h n.2 [] n.1 [] made old n.5 in
        let long = ap length same in
        let mn : m.1 ≡ n.1 = omega (arith, c, d, long) in
        let g = good_gone env k good in
        let z = alike ds os k h m.1 n.1 m.2 n.2 [] [] [] [] made old g m.5 n.5 mn refl refl same refl in
        let moved = sym (z.moved rs) ∙ ap (λ w. things_posts os made ++ w ∷ rs) pt ∙ eq in
        let rest = z.back (run rs z.next z.env z.one z.other z.good z.one_stands z.other_stands moved end) in
        ap plain_term m.3
        ∙ ap₂ (λ j e. Let (Malloc (untyped j)) e) (m.4 ∙ ap suc mn ∙ sym n.4) rest
        ∙ sym (ap plain_term n.3))
        (begins ds b h os made env k r))
        (begins ds a h os made env k s)

  pub one_term : (h : HTm) (os : Constants) (env : List Thing) (k : ℕ) (a b : ATm) → Good env k →
      Stands_t (scope ds os env k) [] a Any h → Stands_t (scope ds os env k) [] b Any h → plain_term a ≡ plain_term b
  one_term (HLet (HName w) t) os env k a b good s r =
      run (HLet (HName w) t) os k (first_posts os (HLet (HName w) t)) [] env a b good s r refl
      (λ made env2 c d g x y.
      let value = one_value ds os env2 k g x.0 y.0 w x.3 y.3 (x.4 ∙ sym y.4) in
      let rest = one_term t (constant os w ∷ os) (Is k ∷ env2) (suc k) x.1 y.1 (good_is env2 k g) x.5 y.5 in
      ap plain_term x.2 ∙ ap₂ (λ v e. Let (Value v) e) value rest ∙ sym (ap plain_term y.2))
  one_term (HLet (HProj i w) t) os env k a b good s r =
      run (HLet (HProj i w) t) os k (first_posts os (HLet (HProj i w) t)) [] env a b good s r refl
      (λ made env2 c d g x y.
      let value = one_value ds os env2 k g x.0 y.0 w x.3 y.3 (x.4 ∙ sym y.4) in
      let rest = one_term t (None ∷ os) (Is k ∷ env2) (suc k) x.1 y.1 (good_is env2 k g) x.5 y.5 in
      ap plain_term x.2 ∙ ap₂ (λ v e. Let (Proj i v) e) value rest ∙ sym (ap plain_term y.2))
  one_term (HLet (HArith op v w) t) os env k a b good s r =
      run (HLet (HArith op v w) t) os k (first_posts os (HLet (HArith op v w) t)) [] env a b good s r refl
      (λ made env2 c d g x y.
      let both = two_values os env2 made k g x.0 x.1 y.0 y.1 v w x.4 x.5 x.6 y.4 y.5 y.6 in
      let rest = one_term t (None ∷ os) (Is k ∷ env2) (suc k) x.2 y.2 (good_is env2 k g) x.7 y.7 in
      ap plain_term x.3
      ∙ ap₂ (λ p q. Let (Arith op p q) (plain_term x.2)) both.0 both.1
      ∙ ap (λ e. Let (Arith op (unnumbered y.0) (unnumbered y.1)) e) rest
      ∙ sym (ap plain_term y.3))
  one_term (HLet (HUnpack w) t) os env k a b good s r =
      run (HLet (HUnpack w) t) os k (first_posts os (HLet (HUnpack w) t)) [] env a b good s r refl
      (λ made env2 c d g x y.
      let value = one_value ds os env2 k g x.0 y.0 w x.3 y.3 (x.4 ∙ sym y.4) in
      let rest = one_term t (None ∷ os) (Is k ∷ env2) (suc k) x.1 y.1 (good_is env2 k g) x.5 y.5 in
      ap plain_term x.2 ∙ ap₂ (λ v e. Let (Unpack v) e) value rest ∙ sym (ap plain_term y.2))
  one_term (HLet (HCell w) t) os env k a b good s r =
      run (HLet (HCell w) t) os k (first_posts os (HLet (HCell w) t)) [] env a b good s r refl
      (λ made env2 c d g x y.
      let g1 = good_gone env2 k g in
      let value = one_value ds os (Gone ∷ env2) k g1 x.1 y.1 w x.5 y.5 (x.6 ∙ sym y.6) in
      let rest = one_term t (None ∷ os) (Is k ∷ Gone ∷ env2) (suc k) x.2 y.2 (good_is (Gone ∷ env2) k g1) x.7 y.7 in
      ap plain_term x.3
      ∙ ap (λ j. Let (Malloc (untyped j)) (Let (Init (Var 0) 1 (unnumbered x.1)) (plain_term x.2))) (x.4 ∙ sym y.4)
      ∙ ap₂ (λ v e. Let (Malloc (untyped (arity y.0))) (Let (Init (Var 0) 1 v) e)) value rest
      ∙ sym (ap plain_term y.3))
  one_term (HLet (HGet w) t) os env k a b good s r =
      run (HLet (HGet w) t) os k (first_posts os (HLet (HGet w) t)) [] env a b good s r refl
      (λ made env2 c d g x y.
      let value = one_value ds os env2 k g x.0 y.0 w x.3 y.3 (x.4 ∙ sym y.4) in
      let rest = one_term t (None ∷ os) (Is k ∷ env2) (suc k) x.1 y.1 (good_is env2 k g) x.5 y.5 in
      ap plain_term x.2 ∙ ap₂ (λ v e. Let (Proj 1 v) e) value rest ∙ sym (ap plain_term y.2))
  one_term (HLet (HSet v w) t) os env k a b good s r =
      run (HLet (HSet v w) t) os k (first_posts os (HLet (HSet v w) t)) [] env a b good s r refl
      (λ made env2 c d g x y.
      let both = two_values os env2 made k g x.0 x.1 y.0 y.1 v w x.4 x.5 x.6 y.4 y.5 y.6 in
      let g1 = good_is (Gone ∷ env2) k (good_gone env2 k g) in
      let rest = one_term t (None ∷ os) (Is k ∷ Gone ∷ env2) (suc k) x.2 y.2 g1 x.7 y.7 in
      ap plain_term x.3
      ∙ ap₂ (λ p q. Let (Init p 1 q) (Let (Malloc NoATys) (plain_term x.2))) both.0 both.1
      ∙ ap (λ e. Let (Init (unnumbered y.0) 1 (unnumbered y.1)) (Let (Malloc NoATys) e)) rest
      ∙ sym (ap plain_term y.3))
  one_term (HCall f us ws) os env k a b good s r =
      run (HCall f us ws) os k (first_posts os (HCall f us ws)) [] env a b good s r refl
      (λ made env2 c d g x y.
      let tops = as_many ds os env2 k g x.0 y.0 f x.3 y.3 in
      let all = x.5 ∙ sym y.5 in
      let parts = apart (takes env2 x.0) (all_take env2 x.1) (takes env2 y.0) (all_take env2 y.1) tops all in
      let code = one_value ds os env2 k g x.0 y.0 f x.3 y.3 parts.0 in
      let args = values_same os env2 k g x.1 y.1 ws x.4 y.4 parts.1 in
      ap plain_term x.2 ∙ ap₂ (λ v vs. Call v (atypes us) vs) code args ∙ sym (ap plain_term y.2))
  one_term (HIf v t u) os env k a b good s r =
      run (HIf v t u) os k (first_posts os (HIf v t u)) [] env a b good s r refl
      (λ made env2 c d g x y.
      let value = one_value ds os env2 k g x.0 y.0 v x.4 y.4 (x.5 ∙ sym y.5) in
      let zero_part = one_term t os env2 k x.1 y.1 g x.6 y.6 in
      let other = one_term u os env2 k x.2 y.2 g x.7 y.7 in
      ap plain_term x.3
      ∙ ap₂ (λ p q. If0 p q (plain_term x.2)) value zero_part
      ∙ ap (λ q. If0 (unnumbered y.0) (plain_term y.1) q) other
      ∙ sym (ap plain_term y.3))
  one_term (HHalt v) os env k a b good s r =
      run (HHalt v) os k (first_posts os (HHalt v)) [] env a b good s r refl
      (λ made env2 c d g x y.
      let value = one_value ds os env2 k g x.0 y.0 v x.2 y.2 (x.3 ∙ sym y.3) in
      ap plain_term x.1 ∙ ap (λ v. Halt v) value ∙ sym (ap plain_term y.1))

  good_args : (ts : ATys) (k : ℕ) (env : List Thing) → Good env k → (n : ℕ) → n ≡ k + arity ts →
      Good (arg_things k env ts) n
  good_args NoATys k env g n e = subst (λ m. Good env m) (omega (arith, e)) g
  good_args (MoreATys t ts) k env g n e = good_args ts (suc k) (Is k ∷ env) (good_is env k g) n (omega (arith, e))

  all_one : (bs cs : List ABlk) (xs : HBlks) → Stands_all ds bs xs → Stands_all ds cs xs →
      plain_blocks bs ≡ plain_blocks cs
  all_one [] [] [] s r = refl
  all_one [] (c ∷ cs) [] s r = absurd r
  all_one (b ∷ bs) cs [] s r = absurd s
  all_one [] cs (x ∷ xs) s r = absurd s
  all_one (b ∷ bs) [] (x ∷ xs) s r = absurd r
  all_one (b ∷ bs) (c ∷ cs) (x ∷ xs) s r =
      let os = of_args x.args [] in
      let args = sym s.0.1 ∙ r.0.1 in
      let rc = subst (λ z. Stands_t (scope ds os (arg_things 0 [] z) (arity z)) [] c.body Any x.body) (sym args) r.0.2
      in
      let good = good_args b.args 0 [] (good_none 0) (arity b.args) (omega arith) in
      let body = one_term x.body os (arg_things 0 [] b.args) (arity b.args) b.body c.body good s.0.2 rc in
      ap₂ (λ p q. p ∷ q)
      (ap₂ (λ o z. record { owes = o; args = z; body = plain_term b.body }) (s.0.0 ∙ sym r.0.0) args
      ∙ ap (λ z. record { owes = c.owes; args = c.args; body = z }) body)
      (all_one bs cs xs s.1 r.1)

pub one_allocation : OneAllocation
one_allocation p q m n ks t s r =
    let ds = tuples_in ks t in
    let blocks = all_one ds p.blocks q.blocks ks s.2 r.2 in
    (blocks, one_term ds t [] [] 0 m n (good_none 0) s.3 r.3, one_data p q ds blocks s.0 r.0 s.1 r.1)
