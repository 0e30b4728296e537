-- A run that ends like the evaluation; a rest that goes on well with a value; k as a value.
use Rattle.std.proofs.Common.{ℤ, ◌≡◌, ℕ, zero, suc, ◌+◌, ◌<◌, ◌≤◌, ◌⊎◌, inl, inr, refl, sym, ap, ◌∙◌, subst, arith}
use Rattle.std.proofs.Common.{⊎_elim}
use Rattle.std.specs.Prelude.{◌==◌}
use Rattle.std.proofs.lemmas.Bool.{cases_lt, cases_eq, eq-eqb, ne_eqb}
use Rattle.calc_core.specs.Ends.{enters}
use Rattle.calc_core.specs.Ends as B
use Rattle.k_terms.specs.K.{KTy, NoKTys, MoreKTys, KVal, KCode, NoKVals, MoreKVals}
use Rattle.k_terms.specs.K.{KName, KTm, KLet, KCall}
use Rattle.k_terms.specs.K.{kv_next, kt_next}
use Rattle.calc_core.specs.Words.{WCode, NoWords, MoreWords, size}
use Rattle.k_terms.specs.Meaning.{KCodeAt, KWord, KWords, kv_value, kopen, kenter}
use Rattle.k_terms.proofs.Numbers.{next_v, next_t}
use Rattle.f_terms.specs.Eval.{Val, Vals, Result, Gives, Spent, Stuck, then_eval}
use Rattle.k_laws.specs.Cps.{kat}
use Rattle.k_laws.specs.Translates.{Thing, stands, named, Form, AnyRest, Bind, Pass, to_rest, deliver, as_value}
use Rattle.k_laws.specs.Count.{one, count}
use Rattle.k_laws.proofs.Runs.{run, IsOut, less_more, out_before}
use Rattle.k_laws.proofs.Related.{Has, Rel, Ext, ext_same, ext_more, ext_trans, has_below, has_at, RelAll, Den, gives}
use Rattle.k_laws.proofs.Related.{den_top}

-- how the whole evaluation ends. Programs are typed, and so never stuck: nothing is said of such an end
pub data End : Type 0 where
  AtInt : (i : ℤ) → End
  AtSpent : End
  AtStuck : End

pub same_or : (c e : ℕ) → ((c ≡ e) × (one (c == e) ≡ 1)) ⊎ (one (c == e) ≡ 0)
same_or c e = ⊎_elim (λ q. inl (q, ap one (eq-eqb c e q))) (λ q. inr (ap one (ne_eqb c e q))) (cases_eq c e)

-- the numbers of codes only grow
pub le_v : (v : KVal) (b : ℕ) → b ≤ kv_next b v
le_v v b = omega (arith, next_v v b)

pub le_t : (t : KTm) (b : ℕ) → b ≤ kt_next b t
le_t t b = omega (arith, next_t t b)

has_unique : (k : KWords) (l : ℕ) (v w : KWord) → Has k l v → Has k l w → v ≡ w
has_unique NoWords l v w h i = elim h [ ]
has_unique (MoreWords x k) l v w (inl h) (inl i) = sym h.1 ∙ i.1
has_unique (MoreWords x k) l v w (inl h) (inr i) = absurd (omega (arith, h.0, has_below k l w i))
has_unique (MoreWords x k) l v w (inr h) (inl i) = absurd (omega (arith, i.0, has_below k l v h))
has_unique (MoreWords x k) l v w (inr h) (inr i) = has_unique k l v w h i

-- the name of k is there
abbrev pub There : AnyRest → KWords → Type 0
There (Bind tl ty form) kenv = Unit {0}
There (Pass l) kenv = (w : KWord) × Has kenv l w

pub there_more : (k : AnyRest) (big small : KWords) → Ext big small → There k small → There k big
there_more (Bind tl ty form) big small e t = tt
there_more (Pass l) big small e t = (t.0, e.keeps l t.0 t.1)

-- the code with the number c is counted, in an evaluation that ends in this way
module _ (c : ℕ) (O : End) where
  -- the runs within j calls, for each j, end like the evaluation with n turns left, and enter c at most n + a times
  abbrev pub Ends_as : End → ℕ → ℕ → (ℕ → B.Result) → Type 0
  Ends_as (AtInt i) n a r = (j : ℕ) × ((r j).end ≡ B.Halted i) × (count c (r j).entered ≤ n + a)
  Ends_as AtSpent n a r = IsOut (r n)
  Ends_as AtStuck n a r = Unit {0}

  pub ends_same : (o : End) (n a : ℕ) (r r' : ℕ → B.Result) → ((j : ℕ) → r j ≡ r' j) → Ends_as o n a r' →
      Ends_as o n a r
  ends_same (AtInt i) n a r r' e h =
      (h.0, ap (λ x. x.end) (e h.0) ∙ h.1, subst (λ x. count c x.entered ≤ n + a) (sym (e h.0)) h.2)
  ends_same AtSpent n a r r' e h = subst IsOut (sym (e n)) h
  ends_same AtStuck n a r r' e h = tt

  pub ends_more : (o : End) (n a a' : ℕ) (r : ℕ → B.Result) → a ≤ a' → Ends_as o n a r → Ends_as o n a' r
  ends_more (AtInt i) n a a' r le h = (h.0, h.1, omega (arith, h.2))
  ends_more AtSpent n a a' r le h = h
  ends_more AtStuck n a a' r le h = tt

  -- a call that is a turn
  pub ends_turn : (o : End) (n a a' f : ℕ) (r : ℕ → B.Result) → one (c == f) + a' ≤ suc a → Ends_as o n a' r →
      (r' : ℕ → B.Result) → ((j : ℕ) → r' (suc j) ≡ enters f (r j)) → Ends_as o (suc n) a r'
  ends_turn (AtInt i) n a a' f r le h r' e = (
    suc h.0,
    ap (λ x. x.end) (e h.0) ∙ h.1,
    subst (λ x. count c x.entered ≤ suc n + a) (sym (e h.0)) (omega (arith, h.2, le)),
  )
  ends_turn AtSpent n a a' f r le h r' e = ap (λ x. x.end) (e n) ∙ h
  ends_turn AtStuck n a a' f r le h r' e = tt

  -- a call that is none
  ends_return : (o : End) (n a a' f b : ℕ) (env : KWords) (t : KTm) (kst : KWords) → one (c == f) + a' ≤ a →
      Ends_as o n a' (λ j. run j b env t kst) → (r' : ℕ → B.Result) → IsOut (r' 0) →
      ((j : ℕ) → r' (suc j) ≡ enters f (run j b env t kst)) → Ends_as o n a r'
  ends_return (AtInt i) n a a' f b env t kst le h r' z e = (
    suc h.0,
    ap (λ x. x.end) (e h.0) ∙ h.1,
    subst (λ x. count c x.entered ≤ n + a) (sym (e h.0)) (omega (arith, h.2, le)),
  )
  ends_return AtSpent zero a a' f b env t kst le h r' z e = z
  ends_return AtSpent (suc n) a a' f b env t kst le h r' z e =
      ap (λ x. x.end) (e n) ∙ out_before _ _ (less_more n b env t kst) h
  ends_return AtStuck n a a' f b env t kst le h r' z e = tt

  -- from this term on, where c is counted once more if it stands in the term
  pub record Does (a n b : ℕ) (kenv : KWords) (st : Vals) (m : KTm) : Type 0 where
    pub does : (kst : KWords) → RelAll st kst → (u : ℕ) → (b ≤ c → c < kt_next b m → 1 ≤ u) →
        Ends_as O n (a + u) (λ j. run j b kenv m kst)

  -- a word that may be called with the value
  pub record Takes (a n : ℕ) (w : KWord) (v : Val) (st : Vals) : Type 0 where
    pub takes : (x : KWord) → Rel v x → (kst : KWords) → RelAll st kst →
        Ends_as O n a (λ j. kopen (kenter j) 0 w (MoreWords x NoWords) kst)

  pub record GoodPass (a : ℕ) (l : ℕ) (kenv : KWords) (v : Val) (n : ℕ) (st : Vals) : Type 1 where
    pub word : KWord
    pub has : Has kenv l word
    pub ready : Takes a n word v st

  pub record GoodBind (a : ℕ) (form : Form) (kenv : KWords) (v : Val) (n : ℕ) (st : Vals) : Type 1 where
    pub ready : (b td : ℕ) (big : KWords) (x : Thing) (m : KTm) → Ext big kenv → Den x big v → form td (size big) x m →
        Does a n b big st m

  -- k goes on well with the value
  abbrev pub Good : ℕ → AnyRest → KWords → Val → ℕ → Vals → Type 1
  Good a (Bind tl ty form) kenv v n st = GoodBind a form kenv v n st
  Good a (Pass l) kenv v n st = GoodPass a l kenv v n st

  pub record Is (o : End) : Type 1 where
    pub is : O ≡ o

  -- what is asked of k: that it goes on well with what the evaluation gives
  abbrev pub Ready : ℕ → AnyRest → KWords → ℕ → Result → Type 1
  Ready a k kenv n (Gives v m st) = m ≤ n → Good a k kenv v m st
  Ready a k kenv n Spent = Is AtSpent
  Ready a k kenv n Stuck = Is AtStuck

  pub good_more : (a : ℕ) (k : AnyRest) (big small : KWords) (v : Val) (n : ℕ) (st : Vals) → Ext big small →
      Good a k small v n st → Good a k big v n st
  good_more a (Bind tl ty form) big small v n st e g =
      record { ready = λ b td more x m e' d f. g.ready b td more x m (ext_trans more big small e' e) d f }
  good_more a (Pass l) big small v n st e g = record { word = g.word; has = e.keeps l g.word g.has; ready = g.ready }

  pub ready_more : (a : ℕ) (k : AnyRest) (big small : KWords) (n n' : ℕ) (r : Result) → Ext big small → n' ≤ n →
      Ready a k small n r → Ready a k big n' r
  ready_more a k big small n n' (Gives v m st) e le h =
      λ le'. good_more a k big small v m st e (h (omega (arith, le, le')))
  ready_more a k big small n n' Spent e le h = h
  ready_more a k big small n n' Stuck e le h = h

  -- a first part, and what follows it
  pub ready_then : (a a' : ℕ) (k k' : AnyRest) (kenv kenv' : KWords) (n : ℕ) (r : Result)
      (go : Val → ℕ → Vals → Result) →
      Ready a k kenv n (then_eval r go) →
      ((v : Val) (m : ℕ) (st : Vals) → m ≤ n → Ready a k kenv n (go v m st) → Good a' k' kenv' v m st) →
      Ready a' k' kenv' n r
  ready_then a a' k k' kenv kenv' n (Gives v m st) go h f = λ le. f v m st le h
  ready_then a a' k k' kenv kenv' n Spent go h f = h
  ready_then a a' k k' kenv kenv' n Stuck go h f = h

  pub ready_map : (a a' : ℕ) (k k' : AnyRest) (kenv kenv' : KWords) (n : ℕ) (r : Result) →
      ((v : Val) (m : ℕ) (st : Vals) → Good a k kenv v m st → Good a' k' kenv' v m st) → Ready a k kenv n r →
      Ready a' k' kenv' n r
  ready_map a a' k k' kenv kenv' n (Gives v m st) f h = λ le. f v m st (h le)
  ready_map a a' k k' kenv kenv' n Spent f h = h
  ready_map a a' k k' kenv kenv' n Stuck f h = h

  pub is_spent : (n a : ℕ) (r : ℕ → B.Result) → Is AtSpent → IsOut (r n) → Ends_as O n a r
  is_spent n a r o h = subst (λ o. Ends_as o n a r) (sym o.is) h

  pub is_stuck : (n a : ℕ) (r : ℕ → B.Result) → Is AtStuck → Ends_as O n a r
  is_stuck n a r o = let p : Ends_as AtStuck n a r = tt in subst (λ o. Ends_as o n a r) (sym o.is) p

  -- one that stands in the second part of a term
  pub does_name : (a n b : ℕ) (kenv : KWords) (st : Vals) (v : KVal) (rest : KTm) →
      Does a n (kv_next b v) (MoreWords (kv_value b v kenv) kenv) st rest → Does a n b kenv st (KLet (KName v) rest)
  does_name a n b kenv st v rest d =
      record { does = λ kst rs u h. d.does kst rs u (λ p q. h (omega (arith, p, le_v v b)) q) }

  -- a good rest, at a term that delivers to it
  good_to_rest : (a : ℕ) (k : AnyRest) (kenv : KWords) (v : Val) (n : ℕ) (st : Vals) (b td : ℕ) (x : Thing) (m : KTm) →
      Good a k kenv v n st → Den x kenv v → to_rest k td (size kenv) x m → Does a n b kenv st m
  good_to_rest a (Bind tl ty form) kenv v n st b td x m g d h = g.ready b td kenv x m (ext_same kenv) d h
  good_to_rest a (Pass l) kenv v n st b td x m g d h =
      let rx = gives x kenv v d td kenv (ext_same kenv) (kv_next b h.0) h.1 h.3 in
      let ef : kv_value b h.0 kenv ≡ g.word =
      subst (λ k. kv_value b k kenv ≡ g.word) (sym h.2.1) (has_at kenv l h.2.0 g.word g.has h.2.2) in
      let p : Does a n b kenv st (KCall h.0 NoKTys (MoreKVals h.1 NoKVals)) =
      record {
        does = λ kst rs u q. ends_more O n a (a + u) _ (omega arith)
            (ends_same O n a _ _
            (λ j. ap (λ w. kopen (kenter j) 0 w (MoreWords (kv_value (kv_next b h.0) h.1 kenv) NoWords) kst) ef)
            (g.ready.takes (kv_value (kv_next b h.0) h.1 kenv) rx kst rs));
      } in
      subst (λ m. Does a n b kenv st m) (sym h.4) p

  pub good_deliver : (a : ℕ) (k : AnyRest) (kenv : KWords) (v : Val) (n : ℕ) (st : Vals) (b td : ℕ) (x : Thing)
      (m : KTm) →
      Good a k kenv v n st → Den x kenv v → deliver k td (size kenv) x m → Does a n b kenv st m
  good_deliver a k kenv v n st b td x m g d (inl h) = good_to_rest a k kenv v n st b td x m g d h
  good_deliver a k kenv v n st b td x m g d (inr h) =
      let w = kv_value b h.0 kenv in
      let r = gives x kenv v d td kenv (ext_same kenv) b h.0 h.2 in
      let more = ext_more w kenv kenv (ext_same kenv) in
      let p = good_to_rest a k (MoreWords w kenv) v n st (kv_next b h.0) td (named (size kenv)) h.1
      (good_more a k (MoreWords w kenv) kenv v n st more g) (den_top kenv v w r) h.4 in
      subst (λ m. Does a n b kenv st m) (sym h.3) (does_name a n b kenv st h.0 h.1 p)

  takes_more : (a a' n : ℕ) (w : KWord) (v : Val) (st : Vals) → a ≤ a' → Takes a n w v st → Takes a' n w v st
  takes_more a a' n w v st le t = record { takes = λ x r kst rs. ends_more O n a a' _ le (t.takes x r kst rs) }

  -- the word of k as a value, which takes what the evaluation gives
  pub record KWord_ok (k : AnyRest) (kenv : KWords) (b : ℕ) (kv : KVal) : Type 1 where
    pub good : (a u n : ℕ) (v : Val) (st : Vals) → (b ≤ c → c < kv_next b kv → 1 ≤ u) → Good a k kenv v n st →
        Takes (a + u) n (kv_value b kv kenv) v st

  return_to : (form : Form) (kenv : KWords) (b td : ℕ) (t : KTy) (body : KTm) →
      form td (suc (suc (size kenv))) (named (suc (size kenv))) body → (a u n : ℕ) (v : Val) (st : Vals) →
      (b ≤ c → c < kt_next (suc b) body → 1 ≤ u) → GoodBind a form kenv v n st →
      Takes (a + u) n (WCode (KCodeAt b 0 (MoreKTys t NoKTys) body) kenv) v st
  return_to form kenv b td t body f a u n v st h g = record { takes = λ x r kst rs. back x r kst rs (same_or c b) }
    where
      self : KWord
      self = WCode (KCodeAt b 0 (MoreKTys t NoKTys) body) kenv

      inside : (x : KWord) → Rel v x → Does a n (suc b) (MoreWords x (MoreWords self kenv)) st body
      inside x r =
          g.ready (suc b) td (MoreWords x (MoreWords self kenv)) (named (suc (size kenv))) body
          (ext_more _ _ _ (ext_more _ _ _ (ext_same kenv))) (den_top (MoreWords self kenv) v x r) f

      back : (x : KWord) → Rel v x → (kst : KWords) → RelAll st kst → ((c ≡ b) × (one (c == b) ≡ 1))
          ⊎ (one (c == b) ≡ 0) → Ends_as O n (a + u) (λ j. kopen (kenter j) 0 self (MoreWords x NoWords) kst)
      back x r kst rs (inl s) =
          let lt = le_t body (suc b) in
          let le : 1 ≤ u = h (omega (arith, s.0)) (omega (arith, s.0, lt)) in
          let le' : one (c == b) + (a + 0) ≤ a + u = omega (arith, s.1, le) in
          ends_return O n (a + u) (a + 0) b (suc b) _ body kst le'
          ((inside x r).does kst rs 0 (λ p q. absurd (omega (arith, s.0, p)))) _ refl (λ j. refl)
      back x r kst rs (inr s) =
          let le' : one (c == b) + (a + u) ≤ a + u = omega (arith, s) in
          ends_return O n (a + u) (a + u) b (suc b) _ body kst le'
          ((inside x r).does kst rs u (λ p q. h (omega (arith, p)) q)) _ refl (λ j. refl)

  pub k_word : (k : AnyRest) (kenv : KWords) (b td : ℕ) (kv : KVal) → There k kenv →
      stands (as_value k) td (size kenv) kv → KWord_ok k kenv b kv
  k_word (Bind tl ty form) kenv b td kv t h =
      let p : KWord_ok (Bind tl ty form) kenv b (KCode 0 (MoreKTys (kat td tl ty) NoKTys) h.0) =
      record { good = λ a u n v st q g. return_to form kenv b td (kat td tl ty) h.0 h.2 a u n v st q g } in
      subst (λ kv. KWord_ok (Bind tl ty form) kenv b kv) (sym h.1) p
  k_word (Pass l) kenv b td kv t h =
      let e : kv_value b kv kenv ≡ t.0 =
      subst (λ k. kv_value b k kenv ≡ t.0) (sym h.1) (has_at kenv l h.0 t.0 t.1 h.2) in
      record {
        good = λ a u n v st q g. subst (λ w. Takes (a + u) n w v st) (sym e)
            (takes_more a (a + u) n t.0 v st (omega arith)
            (subst (λ w. Takes a n w v st) (has_unique kenv l g.word t.0 g.has t.1) g.ready));
      }

  -- a bound on two parts, shared out
  pub split : (b x y u : ℕ) → b ≤ x → x ≤ y → (b ≤ c → c < y → 1 ≤ u) → (u1 u2 : ℕ) × (u1 + u2 ≡ u)
      × (b ≤ c → c < x → 1 ≤ u1) × (x ≤ c → c < y → 1 ≤ u2)
  split b x y u le le2 h = go (cases_lt c x)
    where
      go : (c < x) ⊎ (x ≤ c) → (u1 u2 : ℕ) × (u1 + u2 ≡ u) × (b ≤ c → c < x → 1 ≤ u1) × (x ≤ c → c < y → 1 ≤ u2)
      go (inl l) = (u, 0, omega arith, (λ p s. h p (omega (arith, s, le2))), (λ p s. absurd (omega (arith, l, p))))
      go (inr l) = (0, u, omega arith, (λ p s. absurd (omega (arith, l, s))), (λ p s. h (omega (arith, l, le)) s))
