-- Two tuples that are filled beside each other with the same fields are filled alike.
use Rattle.std.proofs.Common.{◌≡◌, ℕ, zero, suc, List, [], ◌∷◌, ◌++◌, length, refl, sym, ap, ap₂, ◌∙◌, subst}
use Rattle.std.proofs.Common.{append_assoc, length-append, arith}
use Rattle.h_terms.specs.H.{HVal, HTuple, HTm}
use Rattle.a_terms.specs.Tree.{ATm, Let, Call, If0, Halt, Value, Proj, Arith, Unpack, Malloc, Init}
use Rattle.a_laws.specs.Constants.{Constants}
use Rattle.a_laws.specs.OneAllocation.{unnumbered, plain_term}
use Rattle.a_laws.specs.Stands.{scope, Thing, Gone, listed, takes, made_at, Stands_v, Any, Filling, Stands_t}
use Rattle.a_laws.proofs.Posts.{all_posts, things_posts, one_more, more_things, of_value, fields_of, posts_after}
use Rattle.a_laws.proofs.OneValue.{Good, good_gone, good_made, one_value, as_many}

tail_is : {A : Type 0} {x y : A} {xs ys : List A} → x ∷ xs ≡ y ∷ ys → xs ≡ ys
tail_is e = cc

pub head_is : {A : Type 0} {x y : A} {xs ys : List A} → x ∷ xs ≡ y ∷ ys → x ≡ y
head_is e = cc

-- two lists in two parts each, of which the first are as long, or the last
pub apart : {A : Type 0} (xs ys us vs : List A) → length xs ≡ length us → xs ++ ys ≡ us ++ vs → (xs ≡ us) × (ys ≡ vs)
apart [] ys [] vs n e = (refl, e)
apart [] ys (u ∷ us) vs n e = absurd (omega (arith, n))
apart (x ∷ xs) ys [] vs n e = absurd (omega (arith, n))
apart (x ∷ xs) ys (u ∷ us) vs n e =
    let r = apart xs ys us vs (omega (arith, n)) (tail_is e) in
    (ap₂ (λ p q. p ∷ q) (head_is e) r.0, r.1)

pub apart_last : {A : Type 0} (xs ys us vs : List A) → length ys ≡ length vs → xs ++ ys ≡ us ++ vs →
    (xs ≡ us) × (ys ≡ vs)
apart_last xs ys us vs n e =
    let a = length-append xs ys in
    let b = length-append us vs in
    let c = ap length e in
    apart xs ys us vs (omega (arith, a, b, c, n)) e

module _ (ds : List HVal) (os : Constants) (k : ℕ) (h : HTm) where
  -- so many fields are to come
  pub count_fields : (a : ATm) (fs : List HVal) (n : ℕ) (taken made env : List Thing)
      (s : Stands_t (scope ds os env k) made a (Filling fs n taken) h) →
      length (fields_of ds a h os fs n taken made env k s) ≡ suc n
  count_fields (Let (Init v i w) e) fs zero taken made env (y, left, ev, ei, sw, at, st) = refl
  count_fields (Let (Init v i w) e) fs (suc n) taken made env (y, ev, ei, sw, st) =
      ap suc (count_fields e (fs ++ y ∷ []) n (taken ++ takes env w) made (Gone ∷ env) st)
  count_fields (Let (Value x) e) fs n taken made env s = absurd s
  count_fields (Let (Proj xi x) e) fs n taken made env s = absurd s
  count_fields (Let (Arith xo x xu) e) fs n taken made env s = absurd s
  count_fields (Let (Unpack x) e) fs n taken made env s = absurd s
  count_fields (Let (Malloc x) e) fs n taken made env s = absurd s
  count_fields (Call x xt xs) fs n taken made env s = absurd s
  count_fields (If0 x xa xb) fs n taken made env s = absurd s
  count_fields (Halt x) fs n taken made env s = absurd s

  -- what comes after both: one place, from which both go on
  pub record Alike (made taken other_taken : List Thing) (a b : ATm) (tuple : HVal) : Type 0 where
    pub env : List Thing
    pub next : List Thing
    pub one : ATm
    pub other : ATm
    pub good : Good env k
    pub one_stands : Stands_t (scope ds os env k) next one Any h
    pub other_stands : Stands_t (scope ds os env k) next other Any h
    pub moved : (rs : List HVal) → things_posts os made ++ tuple ∷ rs ≡ things_posts os next ++ rs
    pub taken_same : taken ≡ other_taken
    pub back : plain_term one ≡ plain_term other → plain_term a ≡ plain_term b

  pub alike : (m n : ℕ) (a b : ATm) (fs gs : List HVal) (taken other made env : List Thing) → Good env k →
      (s : Stands_t (scope ds os env k) made a (Filling fs m taken) h) →
      (r : Stands_t (scope ds os env k) made b (Filling gs n other) h) →
      m ≡ n → fs ≡ gs → length taken ≡ length other →
      fields_of ds a h os fs m taken made env k s ≡ fields_of ds b h os gs n other made env k r →
      all_posts os (listed fs) ≡ things_posts os taken →
      Alike made taken other a b (HTuple (listed (fs ++ fields_of ds a h os fs m taken made env k s)))
  alike zero zero (Let (Init v i w) e) (Let (Init u j x) f) fs gs taken other made env good
      (y, left, ev, ei, sw, at, st) (z, right, fv, fi, sx, bt, su) mn same long fields posted =
      let yz = head_is fields in
      let sx2 = subst (λ q. Stands_v (scope ds os env k) x q) (sym yz) sx in
      let tops = as_many ds os env k good w x y sw sx2 in
      let p = length-append taken (takes env w) in
      let q = length-append other (takes env x) in
      let parts = apart_last left (taken ++ takes env w) right (other ++ takes env x) (omega (arith, p, q, tops, long))
      (sym at ∙ bt) in
      let two = apart taken (takes env w) other (takes env x) long parts.1 in
      let value = one_value ds os env k good w x y sw sx2 two.1 in
      let all = ap₂ (λ p q. p ++ q ∷ []) same yz in
      let fields_at = ei ∙ ap (λ z. suc (length z)) same ∙ sym fi in
      let new = made_at env k (fs ++ y ∷ []) in
      let su1 =
      subst (λ q. Stands_t (scope ds os (made_at env k q ∷ env) k) (right ++ made_at env k q ∷ []) f Any h) (sym all) su
      in
      let su2 = subst (λ q. Stands_t (scope ds os (new ∷ env) k) (q ++ new ∷ []) f Any h) (sym parts.0) su1 in
      let t = HTuple (listed (fs ++ y ∷ [])) in
      let more = takes env w in
      record {
        env = new ∷ env;
        next = left ++ new ∷ [];
        one = e;
        other = f;
        good = good_made env k good (fs ++ y ∷ []);
        one_stands = st;
        other_stands = su2;
        moved = λ rs.
            ap (λ q. things_posts os q ++ t ∷ rs) at
            ∙ posts_after os fs y left taken more new posted (of_value ds w y os env k sw) refl rs;
        taken_same = two.0;
        back = λ q.
            ap (λ z. Let (Init (unnumbered z) i (unnumbered w)) (plain_term e)) (ev ∙ sym fv)
            ∙ ap₂ (λ p z. Let (Init (unnumbered u) p z) (plain_term e)) fields_at value
            ∙ ap (λ z. Let (Init (unnumbered u) j (unnumbered x)) z) q;
      }
  alike (suc m) (suc n) (Let (Init v i w) e) (Let (Init u j x) f) fs gs taken other made env good
      (y, ev, ei, sw, st) (z, fv, fi, sx, su) mn same long fields posted =
      let yz = head_is fields in
      let sx2 = subst (λ q. Stands_v (scope ds os env k) x q) (sym yz) sx in
      let tops = as_many ds os env k good w x y sw sx2 in
      let p = length-append taken (takes env w) in
      let q = length-append other (takes env x) in
      let fs1 = fs ++ y ∷ [] in
      let gs1 = gs ++ z ∷ [] in
      let t1 = taken ++ takes env w in
      let o1 = other ++ takes env x in
      let all = ap₂ (λ p q. p ++ q ∷ []) same yz in
      let fields_at = ei ∙ ap (λ z. suc (length z)) same ∙ sym fi in
      let posted1 = one_more os fs y ∙ ap₂ ◌++◌ posted (of_value ds w y os env k sw)
      ∙ sym (more_things os taken (takes env w)) in
      let r = alike m n e f fs1 gs1 t1 o1 made (Gone ∷ env) (good_gone env k good) st su (omega (arith, mn)) all
      (omega (arith, p, q, tops, long)) (tail_is fields) posted1 in
      let two = apart taken (takes env w) other (takes env x) long r.taken_same in
      let value = one_value ds os env k good w x y sw sx2 two.1 in
      let rest = fields_of ds e h os fs1 m t1 made (Gone ∷ env) k st in
      record {
        env = r.env;
        next = r.next;
        one = r.one;
        other = r.other;
        good = r.good;
        one_stands = r.one_stands;
        other_stands = r.other_stands;
        moved = λ rs.
            ap (λ q. things_posts os made ++ HTuple (listed q) ∷ rs) (sym (append_assoc fs (y ∷ []) rest)) ∙ r.moved rs;
        taken_same = two.0;
        back = λ q.
            ap (λ z. Let (Init (unnumbered z) i (unnumbered w)) (plain_term e)) (ev ∙ sym fv)
            ∙ ap₂ (λ p z. Let (Init (unnumbered u) p z) (plain_term e)) fields_at value
            ∙ ap (λ z. Let (Init (unnumbered u) j (unnumbered x)) z) (r.back q);
      }
  alike zero (suc n) (Let (Init v i w) e) (Let (Init u j x) f) fs gs taken other made env good s r mn same long fields
      posted =
      absurd (omega (arith, mn))
  alike (suc m) zero (Let (Init v i w) e) (Let (Init u j x) f) fs gs taken other made env good s r mn same long fields
      posted =
      absurd (omega (arith, mn))
  alike m n (Let (Init v i w) e) (Let (Value x) f) fs gs taken other made env good s r mn same long fields at =
      absurd r
  alike m n (Let (Init v i w) e) (Let (Proj xi x) f) fs gs taken other made env good s r mn same long fields at =
      absurd r
  alike m n (Let (Init v i w) e) (Let (Arith o x z) f) fs gs taken other made env good s r mn same long fields at =
      absurd r
  alike m n (Let (Init v i w) e) (Let (Unpack x) f) fs gs taken other made env good s r mn same long fields at =
      absurd r
  alike m n (Let (Init v i w) e) (Let (Malloc x) f) fs gs taken other made env good s r mn same long fields at =
      absurd r
  alike m n (Let (Init v i w) e) (Call x xt xs) fs gs taken other made env good s r mn same long fields at =
      absurd r
  alike m n (Let (Init v i w) e) (If0 x xa xb) fs gs taken other made env good s r mn same long fields at =
      absurd r
  alike m n (Let (Init v i w) e) (Halt x) fs gs taken other made env good s r mn same long fields at =
      absurd r
  alike m n (Let (Value x) e) b fs gs taken other made env good s r mn same long fields posted = absurd s
  alike m n (Let (Proj xi x) e) b fs gs taken other made env good s r mn same long fields posted = absurd s
  alike m n (Let (Arith xo x xu) e) b fs gs taken other made env good s r mn same long fields posted = absurd s
  alike m n (Let (Unpack x) e) b fs gs taken other made env good s r mn same long fields posted = absurd s
  alike m n (Let (Malloc x) e) b fs gs taken other made env good s r mn same long fields posted = absurd s
  alike m n (Call x xt xs) b fs gs taken other made env good s r mn same long fields posted = absurd s
  alike m n (If0 x xa xb) b fs gs taken other made env good s r mn same long fields posted = absurd s
  alike m n (Halt x) b fs gs taken other made env good s r mn same long fields posted = absurd s
