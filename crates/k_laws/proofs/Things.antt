-- What stands for a value has its type; a rest takes a value of its type; k as a value.
use Rattle.std.proofs.Common.{◌≡◌, ℕ, suc, ◌+◌, ◌≤◌, inl, inr, List, ◌∷◌, refl, sym, ap, ◌∙◌, subst, arith}
use Rattle.calc_core.specs.Ends.{lift}
use Rattle.k_terms.specs.K.{KTy, TKVar, TKTuple, TKCode, NoKTys, MoreKTys, KVal, KCode, KVals, NoKVals, MoreKVals, KTm}
use Rattle.k_terms.specs.K.{KCall, kren}
use Rattle.k_terms.specs.Typing.{KIn}
use Rattle.k_terms.specs.Each.{KProp, KHasWith, KHaveWith, KTypedWith}
use Rattle.calc_core.proofs.Substituting.{subs_same}
use Rattle.f_terms.specs.Ty.{Ty, TTuple, Tys, NoTys, MoreTys}
use Rattle.k_laws.specs.Cps.{all_kty, taking, spot, kat, Atom, Level, Literal}
use Rattle.k_laws.specs.Translates.{Thing, Plain, Made, Things, NoThings, MoreThings, stands, named, stand, tuple_of}
use Rattle.k_laws.specs.Translates.{Form, Forms, AnyRest, Bind, Pass, in_place_or_named, to_rest, deliver, as_value}
use Rattle.k_laws.specs.Translates.{call_form, call_now, let_form}
use Rattle.k_laws.proofs.KTypes.{scope_none}
use Rattle.k_laws.proofs.Contexts.{glength, HasT, hast_at, ExtT, ext_same, ext_more, ext_trans, ext_le, typ, cont}
use Rattle.k_laws.proofs.Contexts.{TypedAtom, atom_same}

-- the property, of the types of terms and of their rests, under at most L names. Each `open` around a place costs a
-- name, and is a node of its own: so a place has at most N names where it has d names and what is still to come there
-- has N - d nodes
module _ (L : ℕ) (P : KProp) where
  -- a type at each place: it goes under more type names, is in scope, and has the property
  pub record Ok (td : ℕ) (t : ℕ → KTy) : Type 0 where
    pub steady : (d k : ℕ) → td ≤ d → kren (lift k) (t d) ≡ t (lift k d)
    pub scoped : (d : ℕ) → td ≤ d → KIn d (t d)
    pub own : (d : ℕ) → d ≤ L → P d (t d)

  -- the type of a term, and that of its rest
  pub record Oks (td : ℕ) (t : ℕ → KTy) : Type 0 where
    pub type : Ok td t
    pub rest : Ok td (cont t)

  pub ok_later : (td d : ℕ) (t : ℕ → KTy) → td ≤ d → Ok td t → Ok d t
  ok_later td d t le o =
      record {
        steady = λ e k l. o.steady e k (omega (arith, le, l));
        scoped = λ e l. o.scoped e (omega (arith, le, l));
        own = o.own;
      }

  pub oks_later : (td d : ℕ) (t : ℕ → KTy) → td ≤ d → Oks td t → Oks d t
  oks_later td d t le o = record { type = ok_later td d t le o.type; rest = ok_later td d (cont t) le o.rest }

  moved : (d : ℕ) (big : List KTy) (td : ℕ) (small : List KTy) (t : ℕ → KTy) (l : ℕ) → Ok td t → ExtT d big td small →
      HasT small l (t td) → HasT big l (t d)
  moved d big td small t l o e h =
      subst (HasT big l) (o.steady td e.k (omega arith) ∙ ap t (sym e.is)) (e.keeps l (t td) h)

  -- a thing of this type, at places with at most N type names
  pub record TypedMade (N td : ℕ) (x : ℕ → ℕ → KVal → Type 0) (g : List KTy) (t : ℕ → KTy) : Type 0 where
    pub typed : (d : ℕ) (big : List KTy) → ExtT d big td g → d ≤ N → (v : KVal) → x d (glength big) v →
        KHasWith P d big v (t d)

  abbrev pub Typed : ℕ → ℕ → Thing → List KTy → (ℕ → KTy) → Type 0
  Typed N td (Plain a) g t = TypedAtom td a g t
  Typed N td (Made x) g t = TypedMade N td x g t

  atom_more : (a : Atom) (d : ℕ) (big : List KTy) (td : ℕ) (small : List KTy) (t : ℕ → KTy) → Ok td t →
      ExtT d big td small → TypedAtom td a small t → TypedAtom d a big t
  atom_more (Level l) d big td small t o e h = moved d big td small t l o e h
  atom_more (Literal n) d big td small t o e h =
      ap t e.is ∙ sym (o.steady td e.k (omega arith)) ∙ ap (kren (lift e.k)) h

  pub typed_more : (x : Thing) (M N : ℕ) (d : ℕ) (big : List KTy) (td : ℕ) (small : List KTy) (t : ℕ → KTy) → M ≤ N →
      Ok td t → ExtT d big td small → Typed N td x small t → Typed M d x big t
  typed_more (Plain a) M N d big td small t le o e h = atom_more a d big td small t o e h
  typed_more (Made x) M N d big td small t le o e h =
      record {
        typed = λ d2 g2 e2 l v q. h.typed d2 g2 (ext_trans d2 g2 d big td small e2 e) (omega (arith, l, le)) v q;
      }

  pub has : (x : Thing) (N td : ℕ) (g : List KTy) (t : ℕ → KTy) (v : KVal) → td ≤ N → N ≤ L → Ok td t →
      Typed N td x g t →
      stands x td (glength g) v → KHasWith P td g v (t td)
  has (Plain (Level l)) N td g t v le lim o h q =
      subst (λ v. KHasWith P td g v (t td)) (sym q.1) (o.own td (omega (arith, le, lim)), hast_at g l q.0 (t td) h q.2)
  has (Plain (Literal n)) N td g t v le lim o h q =
      subst (λ v. KHasWith P td g v (t td)) (sym q) (o.own td (omega (arith, le, lim)), h)
  has (Made x) N td g t v le lim o h q = h.typed td g (ext_same td g) le v q

  typed_top : (N td : ℕ) (g : List KTy) (t : ℕ → KTy) (u : KTy) → u ≡ t td → Typed N td (named (glength g)) (u ∷ g) t
  typed_top N td g t u e = inl (refl, e)

  -- a rest that takes a value of this type, and has r nodes
  pub record GoodBind (N r td : ℕ) (tl : List ℕ) (s : Ty) (form : Form) (g : List KTy) (t : ℕ → KTy) : Type 1 where
    pub is : (d : ℕ) → kat d tl s ≡ t d
    pub ready : (M d : ℕ) (big : List KTy) (x : Thing) (m : KTm) → ExtT d big td g → d + r ≤ M → M ≤ N →
        Typed M d x big t → form d (glength big) x m → KTypedWith P d big m

  pub record GoodPass (td l : ℕ) (g : List KTy) (t : ℕ → KTy) : Type 1 where
    pub there : HasT g l (cont t td)

  abbrev pub Good : ℕ → ℕ → ℕ → AnyRest → List KTy → (ℕ → KTy) → Type 1
  Good N r td (Bind tl s form) g t = GoodBind N r td tl s form g t
  Good N r td (Pass l) g t = GoodPass td l g t

  pub good_more : (k : AnyRest) (M N r : ℕ) (d : ℕ) (big : List KTy) (td : ℕ) (small : List KTy) (t : ℕ → KTy) → M ≤ N →
      Oks td t → ExtT d big td small → Good N r td k small t → Good M r d k big t
  good_more (Bind tl s form) M N r d big td small t le o e g =
      record {
        is = g.is;
        ready = λ K d2 more x m e2 l l2 h f. g.ready K d2 more x m (ext_trans d2 more d big td small e2 e) l
            (omega (arith, l2, le)) h f;
      }
  good_more (Pass l) M N r d big td small t le o e g =
      record { there = moved d big td small (cont t) l o.rest e g.there }

  -- the same types, otherwise said
  typed_same : (x : Thing) (N td : ℕ) (g : List KTy) (t u : ℕ → KTy) → ((d : ℕ) → t d ≡ u d) → Typed N td x g t →
      Typed N td x g u
  typed_same (Plain a) N td g t u e h = atom_same a td g t u (e td) h
  typed_same (Made x) N td g t u e h =
      record { typed = λ d big f l v q. subst (KHasWith P d big v) (e d) (h.typed d big f l v q) }

  pub good_same : (k : AnyRest) (N r td : ℕ) (g : List KTy) (t u : ℕ → KTy) → ((d : ℕ) → t d ≡ u d) →
      Good N r td k g t →
      Good N r td k g u
  good_same (Bind tl s form) N r td g t u e h =
      record {
        is = λ d. h.is d ∙ e d;
        ready = λ M d big x m f l l2 q c. h.ready M d big x m f l l2 (typed_same x M d big u t (λ i. sym (e i)) q) c;
      }
  good_same (Pass l) N r td g t u e h = record { there = subst (λ x. HasT g l (taking x)) (e td) h.there }

  good_to_rest : (k : AnyRest) (N r td : ℕ) (g : List KTy) (t : ℕ → KTy) (x : Thing) (m : KTm) → td + r ≤ N → N ≤ L →
      Oks td t → Good N r td k g t → Typed N td x g t → to_rest k td (glength g) x m → KTypedWith P td g m
  good_to_rest (Bind tl s form) N r td g t x m le lim o good h q =
      good.ready N td g x m (ext_same td g) le (omega arith) h q
  good_to_rest (Pass l) N r td g t x m le lim o good h q =
      let us = MoreKTys (t td) NoKTys in
      let low : td ≤ N = omega (arith, le) in
      let p : KTypedWith P td g (KCall q.0 NoKTys (MoreKVals q.1 NoKVals)) = (
        us,
        has (Plain (Level l)) N td g (cont t) q.0 low lim o.rest good.there q.2,
        tt,
        tt,
        subst (KHaveWith P td g (MoreKVals q.1 NoKVals)) (sym (subs_same us TKVar (λ i. refl)))
            (t td, NoKTys, refl, has x N td g t q.1 low lim o.type h q.3, refl),
      ) in
      subst (λ m. KTypedWith P td g m) (sym q.4) p

  -- a form at a thing that stands in place or has a name
  pub placed : (form : Form) (N td : ℕ) (g : List KTy) (t : ℕ → KTy) (x : Thing) (m : KTm) → td ≤ N → N ≤ L → Ok td t →
      Typed N td x g t →
      ((big : List KTy) (x : Thing) (m : KTm) → ExtT td big td g → Typed N td x big t → form td (glength big) x m →
      KTypedWith P td big m) → in_place_or_named form td (glength g) x m → KTypedWith P td g m
  placed form N td g t x m le lim o h f (inl q) = f g x m (ext_same td g) h q
  placed form N td g t x m le lim o h f (inr (v, rest, hv, e, q)) =
      subst (λ m. KTypedWith P td g m) (sym e) (
        t td,
        has x N td g t v le lim o h hv,
        f (t td ∷ g) (named (glength g)) rest (ext_more (t td) td g td g (ext_same td g))
            (typed_top N td g t (t td) refl) q,
      )

  pub good_deliver : (k : AnyRest) (N r td : ℕ) (g : List KTy) (t : ℕ → KTy) (x : Thing) (m : KTm) → td + r ≤ N →
      N ≤ L →
      Oks td t → Good N r td k g t → Typed N td x g t → deliver k td (glength g) x m → KTypedWith P td g m
  good_deliver k N r td g t x m le lim o good h q =
      placed (to_rest k) N td g t x m (omega (arith, le)) lim o.type h
      (λ big x m e h q. good_to_rest k N r td big t x m le lim o
      (good_more k N N r td big td g t (omega arith) o e good) h q) q

  -- what was declared is delivered
  pub after : (k : AnyRest) (N r td : ℕ) (g : List KTy) (t : ℕ → KTy) (u : KTy) (rest : KTm) → td + r ≤ N → N ≤ L →
      Oks td t → Good N r td k g t → u ≡ t td → deliver k td (suc (glength g)) (named (glength g)) rest →
      KTypedWith P td (u ∷ g) rest
  after k N r td g t u rest le lim o good e q =
      good_deliver k N r td (u ∷ g) t (named (glength g)) rest le lim o
      (good_more k N N r td (u ∷ g) td g t (omega arith) o (ext_more u td g td g (ext_same td g)) good)
      (typed_top N td g t u e) q

  -- k as a value, at places with so many type names that its nodes still fit
  pub typed_k : (k : AnyRest) (M N r td : ℕ) (g : List KTy) (t : ℕ → KTy) → M + r ≤ N → N ≤ L → Oks td t →
      Good N r td k g t → Typed M td (as_value k) g (cont t)
  typed_k (Pass l) M N r td g t le lim o good = good.there
  typed_k (Bind tl s form) M N r td g t le lim o good =
      record {
        typed = λ d big e low v h. subst (λ v. KHasWith P d big v (cont t d)) (sym h.1)
            (subst (λ y. KHasWith P d big (KCode 0 (MoreKTys y NoKTys) h.0) (cont t d)) (sym (good.is d)) (
              o.rest.own d (omega (arith, low, le, lim)),
              refl,
              (o.type.scoped d (ext_le d big td g e), tt),
              tt,
              subst (λ g. KTypedWith P d (t d ∷ g) h.0) (sym (scope_none (cont t d ∷ big)))
                  (good.ready N d (t d ∷ cont t d ∷ big) (named (suc (glength big))) h.0
                  (ext_more _ d _ td g (ext_more _ d big td g e)) (omega (arith, low, le)) (omega arith)
                  (typed_top N d (cont t d ∷ big) t (t d) refl) h.2),
            ));
      }

  abbrev pub Typeds : ℕ → ℕ → Things → List KTy → List ℕ → Tys → Type 0
  Typeds N td NoThings g tl NoTys = Unit {0}
  Typeds N td NoThings g tl (MoreTys t ts) = ⊥
  Typeds N td (MoreThings x xs) g tl NoTys = ⊥
  Typeds N td (MoreThings x xs) g tl (MoreTys t ts) =
      Oks td (typ tl t) × Typed N td x g (typ tl t) × Typeds N td xs g tl ts

  typeds_more : (xs : Things) (tl : List ℕ) (ts : Tys) (M N d : ℕ) (big : List KTy) (td : ℕ) (small : List KTy) →
      M ≤ N → ExtT d big td small → Typeds N td xs small tl ts → Typeds M d xs big tl ts
  typeds_more NoThings tl NoTys M N d big td small le e h = tt
  typeds_more NoThings tl (MoreTys t ts) M N d big td small le e h = h
  typeds_more (MoreThings x xs) tl NoTys M N d big td small le e h = h
  typeds_more (MoreThings x xs) tl (MoreTys t ts) M N d big td small le e h = (
    oks_later td d (typ tl t) (ext_le d big td small e) h.0,
    typed_more x M N d big td small (typ tl t) le h.0.type e h.1,
    typeds_more xs tl ts M N d big td small le e h.2,
  )

  typeds_stand : (xs : Things) (N td : ℕ) (g : List KTy) (tl : List ℕ) (ts : Tys) → td ≤ N → N ≤ L →
      Typeds N td xs g tl ts → (vs : KVals) → stand xs td (glength g) vs → KHaveWith P td g vs (all_kty (spot td tl) ts)
  typeds_stand NoThings N td g tl NoTys le lim h vs st = subst (λ vs. KHaveWith P td g vs NoKTys) (sym st) refl
  typeds_stand NoThings N td g tl (MoreTys t ts) le lim h vs st = elim h [ ]
  typeds_stand (MoreThings x xs) N td g tl NoTys le lim h vs st = elim h [ ]
  typeds_stand (MoreThings x xs) N td g tl (MoreTys t ts) le lim h vs (v, vs', eq, hx, st) =
      subst (λ vs. KHaveWith P td g vs (all_kty (spot td tl) (MoreTys t ts))) (sym eq) (
        kat td tl t,
        all_kty (spot td tl) ts,
        refl,
        has x N td g (typ tl t) v le lim h.0.type h.1 hx,
        typeds_stand xs N td g tl ts le lim h.2 vs' st,
      )

  pub typed_tuple : (xs : Things) (N td : ℕ) (g : List KTy) (tl : List ℕ) (ts : Tys) → N ≤ L →
      Ok td (typ tl (TTuple ts)) →
      Typeds N td xs g tl ts → Typed N td (tuple_of xs) g (typ tl (TTuple ts))
  typed_tuple xs N td g tl ts lim o h = record {
    typed = λ d big e low v q. subst (λ v. KHasWith P d big v (TKTuple (all_kty (spot d tl) ts))) (sym q.1) (
      o.own d (omega (arith, low, lim)),
      all_kty (spot d tl) ts,
      refl,
      typeds_stand xs N d big tl ts low lim (typeds_more xs tl ts N N d big td g (omega arith) e h) q.0 q.2,
    );
  }

  pub record GoodForms (N r td : ℕ) (form : Forms) (g : List KTy) (tl : List ℕ) (ts : Tys) : Type 1 where
    pub ready : (M d : ℕ) (big : List KTy) (xs : Things) (m : KTm) → ExtT d big td g → d + r ≤ M → M ≤ N →
        Typeds M d xs big tl ts → form d (glength big) xs m → KTypedWith P d big m

  abbrev pub function : (ℕ → KTy) → (ℕ → KTy) → ℕ → KTy
  function s t d = TKCode 0 (MoreKTys (s d) (MoreKTys (taking (t d)) NoKTys))

  pub does_app : (s t : ℕ → KTy) (k : AnyRest) (M N r td : ℕ) (g : List KTy) (fv xv : Thing) (m : KTm) → td ≤ M →
      M ≤ L →
      td + r ≤ N → N ≤ L → Oks td t → Ok td s → Ok td (function s t) → Typed M td fv g (function s t) →
      Typed M td xv g s → Good N r td k g t → call_form k fv td (glength g) xv m → KTypedWith P td g m
  does_app s t k M N r td g fv xv m le lim le2 lim2 ot os of hf hx good q =
      let us = MoreKTys (s td) (MoreKTys (taking (t td)) NoKTys) in
      let fun : ℕ → KTy = function s t in
      let low : td ≤ td = omega arith in
      let top : td ≤ L = omega (arith, le, lim) in
      placed (call_now fv xv) td td g (cont t) (as_value k) m low top ot.rest
      (typed_k k td N r td g t le2 lim2 ot good) (λ big kv m e hk h.
      subst (λ m. KTypedWith P td big m) (sym h.6) (
        us,
        has fv M td big fun h.0 le lim of (typed_more fv M M td big td g fun (omega arith) of e hf) h.3,
        tt,
        tt,
        subst (KHaveWith P td big (MoreKVals h.1 (MoreKVals h.2 NoKVals))) (sym (subs_same us TKVar (λ i. refl))) (
          s td,
          MoreKTys (cont t td) NoKTys,
          refl,
          has xv M td big s h.1 le lim os (typed_more xv M M td big td g s (omega arith) os e hx) h.4,
          (cont t td, NoKTys, refl, has kv td td big (cont t) h.2 low top ot.rest hk h.5, refl),
        ),
      )) q

  -- a let's form
  pub does_let : (N td : ℕ) (g : List KTy) (s : ℕ → KTy) (body : ℕ → ℕ → Atom → KTm → Type 0) (x : Thing) (m : KTm) →
      td ≤ N → N ≤ L → Ok td s → Typed N td x g s →
      ((big : List KTy) (a : Atom) (m : KTm) → ExtT td big td g → TypedAtom td a big s → body td (glength big) a m →
      KTypedWith P td big m) → let_form body td (glength g) x m → KTypedWith P td g m
  does_let N td g s body (Plain a) m le lim o h f c = f g a m (ext_same td g) h c
  does_let N td g s body (Made x) m le lim o h f (v, rest, hv, e, c) =
      subst (λ m. KTypedWith P td g m) (sym e) (
        s td,
        has (Made x) N td g s v le lim o h hv,
        f (s td ∷ g) (Level (glength g)) rest (ext_more (s td) td g td g (ext_same td g)) (inl (refl, refl)) c,
      )
