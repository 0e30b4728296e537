-- The translation of a typed term is typed, and each type in it has a property that the translations of the source's
-- types have.
use Rattle.f_terms.specs.Typing.{raised, in_fix, in_open, HasType}
use Rattle.std.proofs.Common.{◌≡◌, ℕ, suc, ◌+◌, ◌-◌, ◌≤◌, inl, inr, List, [], ◌∷◌, refl, sym, ap, ◌∙◌, subst, arith}
use Rattle.calc_core.specs.Ends.{lift, under}
use Rattle.k_terms.specs.K.{KTy, TKInt, TKVar, TKTuple, TKCode, TKRef, NoKTys, MoreKTys, KVal, NoKVals, MoreKVals, KTm}
use Rattle.k_terms.specs.K.{KIf, kren, krens_scope}
use Rattle.k_terms.specs.Typing.{ksubs, knames}
use Rattle.k_terms.specs.Each.{KProp, KHasWith, KHaveWith, KTypedWith}
use Rattle.f_terms.specs.Ty.{Ty, TInt, TArrow, TAll, TTuple, TSome, TRef, Tys, NoTys, MoreTys, shift, put, Below}
use Rattle.f_terms.specs.Tm.{Term, MVar, MNum, MFix, MApp, MGen, MInst, MTuple, MProj, MArith, MIf0, MLet, MPack}
use Rattle.f_terms.specs.Tm.{MOpen, MRef, MDeref, MAssign, Terms, NoTerms, MoreTerms}
use Rattle.k_laws.proofs.Below.{Belows, typing_below, belows_raised}
use Rattle.f_terms.specs.Keeps.{Keeps, AllKeep}
use Rattle.f_terms.specs.Limits.{nodes, nodes_all}
use Rattle.k_laws.specs.Cps.{kty, all_kty, taking, spot, kat, kcat, Atom, Level}
use Rattle.k_laws.specs.Translates.{Plain, Made, NoThings, MoreThings, stands, number, tuple_of, Form, Forms, AnyRest}
use Rattle.k_laws.specs.Translates.{Bind, Pass, as_value, inst_now, cps, scope, cps_all, halting, cps_program}
use Rattle.k_laws.proofs.KTypes.{put_in, put_code, scope_none, field_ktys, LevelsIn, levels_later, levels_more, deeper}
use Rattle.k_laws.proofs.KTypes.{kat_in, opened, raised_at}
use Rattle.k_terms.proofs.Each.{plain_t}
use Rattle.k_laws.specs.Correct.{KeepsTypes}
use Rattle.k_laws.proofs.Contexts.{glength, length_ren, ExtT, ext_same, ext_more, ext_type, ext_trans, ext_le, typ}
use Rattle.k_laws.proofs.Contexts.{cont, TEnv, tenv_raised, typed_var, head_keeps, head_typed, tenv_more}
use Rattle.k_laws.proofs.Things.{Ok, Oks, ok_later, oks_later, Typed, typed_more, has, Good, good_more, good_same}
use Rattle.k_laws.proofs.Things.{placed, good_deliver, after, typed_k, Typeds, typed_tuple, GoodForms, does_app}
use Rattle.k_laws.proofs.Things.{does_let}

module _ (S : Ty → Type 0) (L : ℕ) (P : KProp) (pt : (d : ℕ) (r : ℕ → ℕ) (t : Ty) → d ≤ L → S t → P d (kty r t))
    (pc : (d : ℕ) (r : ℕ → ℕ) (t : Ty) → d ≤ L → S t → P d (taking (kty r t))) (ps : (t : Ty) → S (TSome t) → S t)
  where
    ok_typ : (n : ℕ) (tl : List ℕ) (td : ℕ) (t : Ty) → LevelsIn n tl td → Below n t → S t → Ok L P td (typ tl t)
    ok_typ n tl td t f b s = record {
      steady = λ d k le. deeper t n tl d k (levels_later n tl td d le f) b;
      scoped = λ d le. kat_in t n tl d (levels_later n tl td d le f) b;
      own = λ d le. pt d (spot d tl) t le s;
    }

    ok_cont : (n : ℕ) (tl : List ℕ) (td : ℕ) (t : Ty) → LevelsIn n tl td → Below n t → S t → Ok L P td (cont (typ tl t))
    ok_cont n tl td t f b s = record {
      steady = λ d k le. ap taking (deeper t n tl d k (levels_later n tl td d le f) b);
      scoped = λ d le. (kat_in t n tl d (levels_later n tl td d le f) b, tt);
      own = λ d le. pc d (spot d tl) t le s;
    }

    oks : (n : ℕ) (tl : List ℕ) (td : ℕ) (t : Ty) → LevelsIn n tl td → Below n t → S t → Oks L P td (typ tl t)
    oks n tl td t f b s = record { type = ok_typ n tl td t f b s; rest = ok_cont n tl td t f b s }

    -- what is shown of a term
    abbrev TypedAt : Term → Type 1
    TypedAt e = (n : ℕ) (tl : List ℕ) (ts : Tys) (t : Ty) (N r td : ℕ) (g : List KTy) (names : List Atom) (k : AnyRest)
        (m : KTm) → cps e (scope n tl ts names) t td (glength g) k m → td + nodes e + r ≤ N → N ≤ L → Keeps S e n ts →
        Belows n ts → LevelsIn n tl td → TEnv ts tl td names g → Good L P N r td k g (typ tl t) → KTypedWith P td g m

    abbrev IfForm : Term → Term → ℕ → List ℕ → Tys → Ty → List Atom → ℕ → Form
    IfForm y z n tl g ty names l ta d2 cv m2 = (c' : KVal) × (ma mb : KTm) × stands cv ta d2 c' × (m2 ≡ KIf c' ma mb)
        × cps y (scope n tl g names) ty ta d2 (Pass l) ma × cps z (scope n tl g names) ty ta d2 (Pass l) mb

    ok_int : (n : ℕ) (tl : List ℕ) (td : ℕ) → LevelsIn n tl td → S TInt → Ok L P td (typ tl TInt)
    ok_int n tl td f s = ok_typ n tl td TInt f tt s

    if_pass : (x y z : Term) → TypedAt x → TypedAt y → TypedAt z →
        (n : ℕ) (tl : List ℕ) (ts : Tys) (t : Ty) (N td : ℕ) (g : List KTy) (names : List Atom) (l : ℕ) (m : KTm) →
        cps x (scope n tl ts names) TInt td (glength g) (Bind tl TInt (IfForm y z n tl ts t names l)) m →
        td + nodes (MIf0 x y z) ≤ N → N ≤ L → Keeps S (MIf0 x y z) n ts → Belows n ts → Oks L P td (typ tl t) →
        LevelsIn n tl td → TEnv ts tl td names g → Good L P N 0 td (Pass l) g (typ tl t) → KTypedWith P td g m
    if_pass x y z sx sy sz n tl ts t N td g names l m c le lim kp b ot f r good =
        let si : S TInt = head_keeps S x n ts kp.1 TInt (head_typed x n tl ts TInt td (glength g) names _ m c) in
        sx n tl ts TInt N (nodes y + nodes z) td g names (Bind tl TInt (IfForm y z n tl ts t names l)) m c
        (omega (arith, le)) lim kp.1 b f r (record {
          is = λ d. refl;
          ready = λ M d big xv m1 e le1 le2 hx c1.
              (let f' = levels_later n tl td d (ext_le d big td g e) f in
              let r' = tenv_more ts n tl names d big td g f b e r in
              let good' = good_more L P (Pass l) N N 0 d big td g (typ tl t) (omega arith) ot e good in
              subst (λ m. KTypedWith P d big m) (sym c1.4) (
                has L P xv M d big (typ tl TInt) c1.0 (omega (arith, le1)) (omega (arith, le2, lim))
                    (ok_int n tl d f' si) hx
                    c1.3,
                sy n tl ts t N 0 d big names (Pass l) c1.1 c1.5 (omega (arith, le1, le2)) lim kp.2 b f' r' good',
                sz n tl ts t N 0 d big names (Pass l) c1.2 c1.6 (omega (arith, le1, le2)) lim kp.3 b f' r' good',
              ));
        })

    oks_of : (e : Term) (n : ℕ) (tl : List ℕ) (ts : Tys) (t : Ty) (td : ℕ) → HasType e n ts t → Keeps S e n ts →
        Belows n ts → LevelsIn n tl td → Oks L P td (typ tl t)
    oks_of e n tl ts t td h kp b f = oks n tl td t f (typing_below e n ts t b h) (head_keeps S e n ts kp t h)

    if_case : (x y z : Term) → TypedAt x → TypedAt y → TypedAt z → TypedAt (MIf0 x y z)
    if_case x y z sx sy sz n tl ts t N r td g names (Pass l) m c le lim kp b f rv good =
        if_pass x y z sx sy sz n tl ts t N td g names l m c.1 (omega (arith, le)) lim kp b
        (oks_of (MIf0 x y z) n tl ts t td c.0 kp b f) f rv good
    if_case x y z sx sy sz n tl ts t N r td g names (Bind tk s form) m (ht, (kv, rest, hv, e, c)) le lim kp b f rv
        good =
        let o = oks_of (MIf0 x y z) n tl ts t td ht kp b f in
        let ct = cont (typ tl t) in
        let more = ext_more (ct td) td g td g (ext_same td g) in
        subst (λ m. KTypedWith P td g m) (sym e) (
          ct td,
          has L P (as_value (Bind tk s form)) td td g ct kv (omega arith) (omega (arith, le, lim)) o.rest
              (typed_k L P (Bind tk s form) td N r td g (typ tl t) (omega (arith, le)) lim o good) hv,
          if_pass x y z sx sy sz n tl ts t N td (ct td ∷ g) names (glength g) rest c (omega (arith, le)) lim kp b o f
              (tenv_more ts n tl names td (ct td ∷ g) td g f b more rv) (record { there = inl (refl, refl) }),
        )

    mutual
      typed_cps : (e : Term) (n : ℕ) (tl : List ℕ) (ts : Tys) (t : Ty) (N r td : ℕ) (g : List KTy) (names : List Atom)
          (k : AnyRest) (m : KTm) → cps e (scope n tl ts names) t td (glength g) k m → td + nodes e + r ≤ N → N ≤ L →
          Keeps S e n ts → Belows n ts → LevelsIn n tl td → TEnv ts tl td names g → Good L P N r td k g (typ tl t) →
          KTypedWith P td g m
      typed_cps (MVar i) n tl ts t N r td g names k m (ht, a, lev, del) le lim kp b f rv good =
          good_deliver L P k N r td g (typ tl t) (Plain a) m (omega (arith, le)) lim
          (oks_of (MVar i) n tl ts t td ht kp b f)
          good (typed_var ts tl td names g i a t rv lev ht) del
      typed_cps (MNum i) n tl ts t N r td g names k m (ht, del) le lim kp b f rv good =
          good_deliver L P k N r td g (typ tl t) (number i) m (omega (arith, le)) lim
          (oks_of (MNum i) n tl ts t td ht kp b f) good (ap (kat td tl) ht) del
      typed_cps (MFix arg res body) n tl ts t N r td g names k m (ht, del) le lim kp b f rv good =
          let o = oks_of (MFix arg res body) n tl ts t td ht kp b f in
          let M = N - nodes body in
          good_deliver L P k M r td g (typ tl t) (Made _) m (omega (arith, le)) (omega (arith, lim)) o
          (good_more L P k M N r td g td g (typ tl t) (omega arith) o (ext_same td g) good) (record {
            typed = λ d big e low v h.
                (let f' = levels_later n tl td d (ext_le d big td g e) f in
                let fun = TKCode 0 (MoreKTys (kat d tl arg) (MoreKTys (kcat d tl res) NoKTys)) in
                let inner = kcat d tl res ∷ kat d tl arg ∷ fun ∷ big in
                let on : ExtT d inner d big =
                ext_more _ d _ d big (ext_more _ d _ d big (ext_more _ d big d big (ext_same d big))) in
                let r' = tenv_more ts n tl names d big td g f b e rv in
                let r2 = tenv_more ts n tl names d inner d big f' b on r' in
                subst (λ v. KHasWith P d big v (kat d tl t)) (sym h.1) (
                  o.type.own d (omega (arith, low, lim)),
                  ap (kat d tl) ht.0,
                  (kat_in arg n tl d f' ht.1, ((kat_in res n tl d f' ht.2, tt), tt)),
                  tt,
                  subst (λ g. KTypedWith P d (kcat d tl res ∷ kat d tl arg ∷ g) h.0) (sym (scope_none (fun ∷ big)))
                      (typed_cps body n tl (in_fix arg res ts) res N 0 d inner
                      (Level (suc (glength big)) ∷ Level (glength big) ∷ names) (Pass (suc (suc (glength big)))) h.0
                      h.2 (omega (arith, low, le)) lim kp.1 (ht.1, ((ht.1, ht.2), b)) f'
                      (inr (inl (refl, refl)), (inr (inr (inl (refl, refl))), r2))
                      (record { there = inl (refl, refl) })),
                ));
          }) del
      typed_cps (MGen body) n tl ts t N r td g names k m (ht, s, et, del) le lim kp b f rv good =
          let bt : Below n t = typing_below (MGen body) n ts t b ht in
          let bs : Below (n + 1) s = (subst (Below n) et bt).1 in
          let o = oks_of (MGen body) n tl ts t td ht kp b f in
          let M = N - suc (nodes body) in
          good_deliver L P k M r td g (typ tl t) (Made _) m (omega (arith, le)) (omega (arith, lim)) o
          (good_more L P k M N r td g td g (typ tl t) (omega arith) o (ext_same td g) good) (record {
            typed = λ d big e low v h.
                (let f' = levels_later n tl td d (ext_le d big td g e) f in
                let f2 = levels_more n tl d f' in
                let ks = kcat (suc d) (d ∷ tl) s in
                let fun = TKCode 1 (MoreKTys ks NoKTys) in
                let inner = ks ∷ kren (lift 1) fun ∷ krens_scope (lift 1) big in
                let on : ExtT (suc d) inner d big =
                ext_more _ (suc d) _ d big (ext_more _ (suc d) _ d big (ext_type d big d big (ext_same d big))) in
                let len : glength (krens_scope (lift 1) big) ≡ glength big = length_ren big (lift 1) in
                let r' = tenv_more ts n tl names d big td g f b e rv in
                let r2 =
                tenv_raised ts tl d (suc d) names inner (tenv_more ts n tl names (suc d) inner d big f' b on r') in
                subst (λ v. KHasWith P d big v (kat d tl t)) (sym h.1) (
                  o.type.own d (omega (arith, low, lim)),
                  ap (kat d tl) et ∙ ap (λ x. TKCode 1 (MoreKTys (taking x) NoKTys)) (opened s n tl d f' bs),
                  ((kat_in s (n + 1) (d ∷ tl) (suc d) f2 bs, tt), tt),
                  tt,
                  typed_cps body (n + 1) (d ∷ tl) (raised ts) s N 0 (suc d) inner names (Pass (suc (glength big))) h.0
                      (subst (λ x. cps body (scope (n + 1) (d ∷ tl) (raised ts) names) s (suc d) (suc (suc x))
                      (Pass (suc (glength big))) h.0) (sym len) h.2)
                      (omega (arith, low, le)) lim kp.1 (belows_raised ts n b) f2 r2
                      (record { there = inl (ap suc (sym len), refl) }),
                ));
          }) del
      typed_cps (MApp h x) n tl ts t N r td g names k m (ht, s, c) le lim kp b f rv good =
          let o = oks_of (MApp h x) n tl ts t td ht kp b f in
          let hf : HasType h n ts (TArrow s t) = head_typed h n tl ts (TArrow s t) td (glength g) names _ m c in
          let of = oks_of h n tl ts (TArrow s t) td hf kp.1 b f in
          typed_cps h n tl ts (TArrow s t) N (nodes x + r) td g names (Bind tl (TArrow s t) _) m c
          (omega (arith, le)) lim kp.1 b f rv (record {
            is = λ d. refl;
            ready = λ M1 d1 g1 fv m1 e1 l1 l1' tf c1.
                (let f1 = levels_later n tl td d1 (ext_le d1 g1 td g e1) f in
                let os = oks_of x n tl ts s d1 (head_typed x n tl ts s d1 (glength g1) names _ m1 c1) kp.2 b f1 in
                typed_cps x n tl ts s M1 r d1 g1 names (Bind tl s _) m1 c1 (omega (arith, l1)) (omega (arith, l1', lim))
                kp.2 b f1 (tenv_more ts n tl names d1 g1 td g f b e1 rv) (record {
                  is = λ d. refl;
                  ready = λ M2 d2 g2 xv m2 e2 l2 l2' tx c2.
                      (let e3 = ext_trans d2 g2 d1 g1 td g e2 e1 in
                      let later = ext_le d2 g2 td g e3 in
                      does_app L P (typ tl s) (typ tl t) k M2 N r d2 g2 fv xv m2 (omega (arith, l2))
                      (omega (arith, l2', l1', lim)) (omega (arith, l2, l2', l1')) lim
                      (oks_later L P td d2 (typ tl t) later o)
                      (ok_later L P d1 d2 (typ tl s) (ext_le d2 g2 d1 g1 e2) os.type)
                      (ok_later L P td d2 (typ tl (TArrow s t)) later of.type)
                      (typed_more L P fv M2 M1 d2 g2 d1 g1 (typ tl (TArrow s t)) l2'
                      (ok_later L P td d1 (typ tl (TArrow s t)) (ext_le d1 g1 td g e1) of.type) e2 tf) tx
                      (good_more L P k N N r d2 g2 td g (typ tl t) (omega arith) o e3 good) c2);
                }));
          })
      typed_cps (MInst e s) n tl ts t N r td g names k m (ht, u, et, c) le lim kp b f rv good =
          let o = oks_of (MInst e s) n tl ts t td ht kp b f in
          let he : HasType e n ts (TAll u) = head_typed e n tl ts (TAll u) td (glength g) names _ m c in
          let oe = oks_of e n tl ts (TAll u) td he kp.1 b f in
          typed_cps e n tl ts (TAll u) N r td g names (Bind tl (TAll u) _) m c (omega (arith, le)) lim kp.1 b f rv
          (record {
            is = λ d. refl;
            ready = λ M1 d1 g1 ev m1 e1 l1 l1' te c1.
                (let f1 = levels_later n tl td d1 (ext_le d1 g1 td g e1) f in
                let o1 = oks_later L P td d1 (typ tl t) (ext_le d1 g1 td g e1) o in
                let all = typ tl (TAll u) in
                let oa = ok_later L P td d1 all (ext_le d1 g1 td g e1) oe.type in
                let ct = cont (typ tl t) in
                let low : d1 ≤ d1 = omega arith in
                let top : d1 ≤ L = omega (arith, l1, l1', lim) in
                placed L P (inst_now tl s ev) d1 d1 g1 ct (as_value k) m1 low top o1.rest
                (typed_k L P k d1 N r d1 g1 (typ tl t) (omega (arith, l1, l1')) lim o1
                (good_more L P k N N r d1 g1 td g (typ tl t) (omega arith) o e1 good)) (λ g2 kv m2 e2 hk h.
                (let us = MoreKTys (taking (kty (under 1 (spot d1 tl)) u)) NoKTys in
                let args : KHaveWith P d1 g2 (MoreKVals h.1 NoKVals)
                (ksubs (knames (MoreKTys (kat d1 tl s) NoKTys) TKVar) us) =
                subst (KHaveWith P d1 g2 (MoreKVals h.1 NoKVals))
                (ap (λ x. MoreKTys (kcat d1 tl x) NoKTys) et ∙ sym (put_code s u (spot d1 tl)))
                (ct d1, NoKTys, refl, has L P kv d1 d1 g2 ct h.1 low top o1.rest hk h.3, refl) in
                subst (λ m. KTypedWith P d1 g2 m) (sym h.4) (
                  us,
                  has L P ev M1 d1 g2 all h.0 (omega (arith, l1)) (omega (arith, l1', lim)) oa
                      (typed_more L P ev M1 M1 d1 g2 d1 g1 all (omega arith) oa e2 te) h.2,
                  (kat_in s n tl d1 f1 ht.2, tt),
                  (pt d1 (spot d1 tl) s top kp.2, tt),
                  args,
                ))) c1);
          })
      typed_cps (MTuple es) n tl ts t N r td g names k m (ht, us, et, c) le lim kp b f rv good =
          let o = oks_of (MTuple es) n tl ts t td ht kp b f in
          typed_all es n tl ts us N r td g names _ m c (omega (arith, le)) lim kp.1 b f rv (record {
            ready = λ M d big xs m1 e l l' hs c1.
                (let o1 = oks_later L P td d (typ tl t) (ext_le d big td g e) o in
                good_deliver L P k M r d big (typ tl t) (tuple_of xs) m1 l (omega (arith, l', lim)) o1
                (good_more L P k M N r d big td g (typ tl t) l' o e good)
                (subst (λ x. Ok L P d (typ tl x) → Typed L P M d (tuple_of xs) big (typ tl x)) (sym et)
                (λ oo. typed_tuple L P xs M d big tl us (omega (arith, l', lim)) oo hs) o1.type) c1);
          })
      typed_cps (MProj i e) n tl ts t N r td g names k m (ht, us, fi, c) le lim kp b f rv good =
          let o = oks_of (MProj i e) n tl ts t td ht kp b f in
          let oe =
          oks_of e n tl ts (TTuple us) td (head_typed e n tl ts (TTuple us) td (glength g) names _ m c) kp.1 b f in
          typed_cps e n tl ts (TTuple us) N r td g names (Bind tl (TTuple us) _) m c (omega (arith, le)) lim kp.1 b f rv
          (record {
            is = λ d. refl;
            ready = λ M d1 g1 ev m1 e1 l l' te c1.
                (let later = ext_le d1 g1 td g e1 in
                let o1 = oks_later L P td d1 (typ tl t) later o in
                let top : M ≤ L = omega (arith, l', lim) in
                subst (λ m. KTypedWith P d1 g1 m) (sym c1.3) (
                  kat d1 tl t,
                  (
                    o1.type.own d1 (omega (arith, l, top)),
                    all_kty (spot d1 tl) us,
                    has L P ev M d1 g1 (typ tl (TTuple us)) c1.0 (omega (arith, l)) top
                        (ok_later L P td d1 (typ tl (TTuple us)) later oe.type) te c1.2,
                    field_ktys us (spot d1 tl) i t fi,
                  ),
                  after L P k M r d1 g1 (typ tl t) (kat d1 tl t) c1.1 l top o1
                      (good_more L P k M N r d1 g1 td g (typ tl t) l' o e1 good) refl c1.4,
                ));
          })
      typed_cps (MArith op x y) n tl ts t N r td g names k m (ht, c) le lim kp b f rv good =
          let o = oks_of (MArith op x y) n tl ts t td ht kp b f in
          let si : S TInt = head_keeps S x n ts kp.1 TInt ht.1 in
          typed_cps x n tl ts TInt N (nodes y + r) td g names (Bind tl TInt _) m c (omega (arith, le)) lim kp.1 b f rv
          (record {
            is = λ d. refl;
            ready = λ M1 d1 g1 xv m1 e1 l1 l1' tx c1.
                (let f1 = levels_later n tl td d1 (ext_le d1 g1 td g e1) f in
                typed_cps y n tl ts TInt M1 r d1 g1 names (Bind tl TInt _) m1 c1 (omega (arith, l1))
                (omega (arith, l1', lim)) kp.2 b f1 (tenv_more ts n tl names d1 g1 td g f b e1 rv) (record {
                  is = λ d. refl;
                  ready = λ M2 d2 g2 yv m2 e2 l2 l2' ty c2.
                      (let f2 = levels_later n tl d1 d2 (ext_le d2 g2 d1 g1 e2) f1 in
                      let e3 = ext_trans d2 g2 d1 g1 td g e2 e1 in
                      let oi = ok_int n tl d2 f2 si in
                      let top : M2 ≤ L = omega (arith, l2', l1', lim) in
                      let low : d2 ≤ M2 = omega (arith, l2) in
                      let tx2 = typed_more L P xv M2 M1 d2 g2 d1 g1 (typ tl TInt) l2' (ok_int n tl d1 f1 si) e2 tx in
                      subst (λ m. KTypedWith P d2 g2 m) (sym c2.5) (
                        TKInt,
                        (
                          oi.own d2 (omega (arith, low, top)),
                          refl,
                          has L P xv M2 d2 g2 (typ tl TInt) c2.0 low top oi tx2 c2.3,
                          has L P yv M2 d2 g2 (typ tl TInt) c2.1 low top oi ty c2.4,
                        ),
                        after L P k M2 r d2 g2 (typ tl t) TKInt c2.2 l2 top
                            (oks_later L P td d2 (typ tl t) (ext_le d2 g2 td g e3) o)
                            (good_more L P k M2 N r d2 g2 td g (typ tl t) (omega (arith, l2', l1')) o e3 good)
                            (sym (ap (kat d2 tl) ht.0)) c2.6,
                      ));
                }));
          })
      typed_cps (MIf0 x y z) n tl ts t N r td g names k m c le lim kp b f rv good =
          if_case x y z
          (λ n tl ts t N r td g names k m c le lim kp b f rv good. typed_cps x n tl ts t N r td g names k m c le lim
          kp b f rv good)
          (λ n tl ts t N r td g names k m c le lim kp b f rv good. typed_cps y n tl ts t N r td g names k m c le lim
          kp b f rv good)
          (λ n tl ts t N r td g names k m c le lim kp b f rv good. typed_cps z n tl ts t N r td g names k m c le lim
          kp b f rv good) n tl ts t N r td g names k m c le lim kp b f rv good
      typed_cps (MLet x y) n tl ts t N r td g names k m (ht, s, c) le lim kp b f rv good =
          let o = oks_of (MLet x y) n tl ts t td ht kp b f in
          let hx : HasType x n ts s = head_typed x n tl ts s td (glength g) names _ m c in
          let ox = oks_of x n tl ts s td hx kp.1 b f in
          let bs : Below n s = typing_below x n ts s b hx in
          typed_cps x n tl ts s N (nodes y + r) td g names (Bind tl s _) m c (omega (arith, le)) lim kp.1 b f rv
          (record {
            is = λ d. refl;
            ready = λ M d1 g1 xv m1 e1 l l' tx c1.
                does_let L P M d1 g1 (typ tl s) (λ ta d2 a m2. cps y (scope n tl (MoreTys s ts) (a ∷ names)) t ta d2 k
                m2) xv m1
                (omega (arith, l)) (omega (arith, l', lim))
                (ok_later L P td d1 (typ tl s) (ext_le d1 g1 td g e1) ox.type) tx (λ g2 a m2 e2 ha c2.
                (let e3 = ext_trans d1 g2 d1 g1 td g e2 e1 in
                let f1 = levels_later n tl td d1 (ext_le d1 g1 td g e1) f in
                typed_cps y n tl (MoreTys s ts) t M r d1 g2 (a ∷ names) k m2 c2 (omega (arith, l))
                (omega (arith, l', lim)) (kp.2 s hx) (bs, b) f1 (ha, tenv_more ts n tl names d1 g2 td g f b e3 rv)
                (good_more L P k M N r d1 g2 td g (typ tl t) l' o e3 good))) c1;
          })
      typed_cps (MPack hid e s) n tl ts t N r td g names k m (ht, u, es, et, c) le lim kp b f rv good =
          let o = oks_of (MPack hid e s) n tl ts t td ht kp b f in
          let oe =
          oks_of e n tl ts (put 0 hid u) td (head_typed e n tl ts (put 0 hid u) td (glength g) names _ m c) kp.1
          b f in
          typed_cps e n tl ts (put 0 hid u) N r td g names (Bind tl (put 0 hid u) _) m c (omega (arith, le)) lim kp.1 b
          f
          rv (record {
            is = λ d. refl;
            ready = λ M d1 g1 ev m1 e1 l l' te c1.
                (let later = ext_le d1 g1 td g e1 in
                let f1 = levels_later n tl td d1 later f in
                let top : M ≤ L = omega (arith, l', lim) in
                let low : d1 ≤ L = omega (arith, l, top) in
                subst (λ m. KTypedWith P d1 g1 m) (sym c1.3) (
                  kat d1 tl s,
                  (
                    pt d1 (spot d1 tl) s low (subst S et (head_keeps S (MPack hid e s) n ts kp t ht)),
                    pt d1 (spot d1 tl) hid low kp.2,
                    kty (under 1 (spot d1 tl)) u,
                    ap (kat d1 tl) es,
                    refl,
                    kat_in hid n tl d1 f1 ht.3,
                    kat_in s n tl d1 f1 ht.4,
                    subst (KHasWith P d1 g1 c1.0) (sym (put_in hid u (spot d1 tl)))
                        (has L P ev M d1 g1 (typ tl (put 0 hid u)) c1.0 (omega (arith, l)) top
                        (ok_later L P td d1 (typ tl (put 0 hid u)) later oe.type) te c1.2),
                  ),
                  after L P k M r d1 g1 (typ tl t) (kat d1 tl s) c1.1 l top (oks_later L P td d1 (typ tl t) later o)
                      (good_more L P k M N r d1 g1 td g (typ tl t) l' o e1 good) (sym (ap (kat d1 tl) et)) c1.4,
                ));
          })
      typed_cps (MOpen x y) n tl ts t N r td g names k m (ht, u, c) le lim kp b f rv good =
          let o = oks_of (MOpen x y) n tl ts t td ht kp b f in
          let hx : HasType x n ts (TSome u) = head_typed x n tl ts (TSome u) td (glength g) names _ m c in
          let ox = oks_of x n tl ts (TSome u) td hx kp.1 b f in
          let bu : Below (n + 1) u = (typing_below x n ts (TSome u) b hx).1 in
          let su : S u = ps u (head_keeps S x n ts kp.1 (TSome u) hx) in
          typed_cps x n tl ts (TSome u) N (suc (nodes y) + r) td g names (Bind tl (TSome u) _) m c
          (omega (arith, le)) lim kp.1 b f rv (record {
            is = λ d. refl;
            ready = λ M d1 g1 xv m1 e1 l l' tx c1.
                (let f1 = levels_later n tl td d1 (ext_le d1 g1 td g e1) f in
                let ku = kty (under 1 (spot d1 tl)) u in
                let g2 = ku ∷ krens_scope suc g1 in
                let e2 : ExtT (suc d1) g2 td g = ext_more ku (suc d1) _ td g (ext_type d1 g1 td g e1) in
                let len : glength (krens_scope suc g1) ≡ glength g1 = length_ren g1 suc in
                let r2 = tenv_raised ts tl d1 (suc d1) names g2 (tenv_more ts n tl names (suc d1) g2 td g f b e2 rv) in
                let good2 = good_same L P k M r (suc d1) g2 (typ tl t) (typ (d1 ∷ tl) (shift 1 0 t))
                (λ d. sym (raised_at t d1 d tl)) (good_more L P k M N r (suc d1) g2 td g (typ tl t) l' o e2 good) in
                let top : M ≤ L = omega (arith, l', lim) in
                subst (λ m. KTypedWith P d1 g1 m) (sym c1.3) (
                  ku,
                  (
                    pt (suc d1) (under 1 (spot d1 tl)) u (omega (arith, l, top)) su,
                    has L P xv M d1 g1 (typ tl (TSome u)) c1.0 (omega (arith, l)) top
                        (ok_later L P td d1 (typ tl (TSome u)) (ext_le d1 g1 td g e1) ox.type) tx c1.2,
                  ),
                  typed_cps y (n + 1) (d1 ∷ tl) (in_open u ts) (shift 1 0 t) M r (suc d1) g2
                      (Level (glength g1) ∷ names)
                      k c1.1
                      (subst (λ z. cps y (scope (n + 1) (d1 ∷ tl) (in_open u ts) (Level (glength g1) ∷ names))
                      (shift 1 0 t) (suc d1) (suc z) k c1.1) (sym len) c1.4)
                      (omega (arith, l)) top (kp.2 u hx) (bu, belows_raised ts n b) (levels_more n tl d1 f1)
                      (inl (sym len, opened u n tl d1 f1 bu), r2) good2,
                ));
          })
      typed_cps (MRef e) n tl ts t N r td g names k m (ht, s, et, c) le lim kp b f rv good =
          let o = oks_of (MRef e) n tl ts t td ht kp b f in
          let oe = oks_of e n tl ts s td (head_typed e n tl ts s td (glength g) names _ m c) kp.1 b f in
          typed_cps e n tl ts s N r td g names (Bind tl s _) m c (omega (arith, le)) lim kp.1 b f rv (record {
            is = λ d. refl;
            ready = λ M d1 g1 ev m1 e1 l l' te c1.
                (let later = ext_le d1 g1 td g e1 in
                let o1 = oks_later L P td d1 (typ tl t) later o in
                let top : M ≤ L = omega (arith, l', lim) in
                let own : P d1 (TKRef (kat d1 tl s)) =
                subst (λ x. P d1 (kat d1 tl x)) et (o1.type.own d1 (omega (arith, l, top))) in
                subst (λ m. KTypedWith P d1 g1 m) (sym c1.3) (
                  TKRef (kat d1 tl s),
                  (
                    own,
                    kat d1 tl s,
                    refl,
                    has L P ev M d1 g1 (typ tl s) c1.0 (omega (arith, l)) top
                        (ok_later L P td d1 (typ tl s) later oe.type) te
                        c1.2,
                  ),
                  after L P k M r d1 g1 (typ tl t) (TKRef (kat d1 tl s)) c1.1 l top o1
                      (good_more L P k M N r d1 g1 td g (typ tl t) l' o e1 good) (sym (ap (kat d1 tl) et)) c1.4,
                ));
          })
      typed_cps (MDeref e) n tl ts t N r td g names k m (ht, c) le lim kp b f rv good =
          let o = oks_of (MDeref e) n tl ts t td ht kp b f in
          let oe = oks_of e n tl ts (TRef t) td ht kp.1 b f in
          typed_cps e n tl ts (TRef t) N r td g names (Bind tl (TRef t) _) m c (omega (arith, le)) lim kp.1 b f rv
          (record {
            is = λ d. refl;
            ready = λ M d1 g1 ev m1 e1 l l' te c1.
                (let later = ext_le d1 g1 td g e1 in
                let o1 = oks_later L P td d1 (typ tl t) later o in
                let top : M ≤ L = omega (arith, l', lim) in
                subst (λ m. KTypedWith P d1 g1 m) (sym c1.3) (
                  kat d1 tl t,
                  (
                    o1.type.own d1 (omega (arith, l, top)),
                    has L P ev M d1 g1 (typ tl (TRef t)) c1.0 (omega (arith, l)) top
                        (ok_later L P td d1 (typ tl (TRef t)) later oe.type) te c1.2,
                  ),
                  after L P k M r d1 g1 (typ tl t) (kat d1 tl t) c1.1 l top o1
                      (good_more L P k M N r d1 g1 td g (typ tl t) l' o e1 good) refl c1.4,
                ));
          })
      typed_cps (MAssign x y) n tl ts t N r td g names k m (ht, s, et, c) le lim kp b f rv good =
          let o = oks_of (MAssign x y) n tl ts t td ht kp b f in
          let ox = oks_of x n tl ts (TRef s) td (head_typed x n tl ts (TRef s) td (glength g) names _ m c) kp.1 b f in
          typed_cps x n tl ts (TRef s) N (nodes y + r) td g names (Bind tl (TRef s) _) m c (omega (arith, le)) lim kp.1
          b
          f rv (record {
            is = λ d. refl;
            ready = λ M1 d1 g1 xv m1 e1 l1 l1' tx c1.
                (let later = ext_le d1 g1 td g e1 in
                let f1 = levels_later n tl td d1 later f in
                let oy = oks_of y n tl ts s d1 (head_typed y n tl ts s d1 (glength g1) names _ m1 c1) kp.2 b f1 in
                let ox1 = ok_later L P td d1 (typ tl (TRef s)) later ox.type in
                typed_cps y n tl ts s M1 r d1 g1 names (Bind tl s _) m1 c1 (omega (arith, l1)) (omega (arith, l1', lim))
                kp.2 b f1 (tenv_more ts n tl names d1 g1 td g f b e1 rv) (record {
                  is = λ d. refl;
                  ready = λ M2 d2 g2 yv m2 e2 l2 l2' ty c2.
                      (let e3 = ext_trans d2 g2 d1 g1 td g e2 e1 in
                      let on = ext_le d2 g2 d1 g1 e2 in
                      let o2 = oks_later L P td d2 (typ tl t) (ext_le d2 g2 td g e3) o in
                      let top : M2 ≤ L = omega (arith, l2', l1', lim) in
                      let low : d2 ≤ M2 = omega (arith, l2) in
                      let own : P d2 (TKTuple NoKTys) =
                      subst (λ z. P d2 (kat d2 tl z)) et (o2.type.own d2 (omega (arith, low, top))) in
                      let tx2 = typed_more L P xv M2 M1 d2 g2 d1 g1 (typ tl (TRef s)) l2' ox1 e2 tx in
                      subst (λ m. KTypedWith P d2 g2 m) (sym c2.5) (
                        TKTuple NoKTys,
                        (
                          own,
                          kat d2 tl s,
                          refl,
                          has L P xv M2 d2 g2 (typ tl (TRef s)) c2.0 low top
                              (ok_later L P d1 d2 (typ tl (TRef s)) on ox1) tx2
                              c2.3,
                          has L P yv M2 d2 g2 (typ tl s) c2.1 low top (ok_later L P d1 d2 (typ tl s) on oy.type) ty
                              c2.4,
                        ),
                        after L P k M2 r d2 g2 (typ tl t) (TKTuple NoKTys) c2.2 l2 top o2
                            (good_more L P k M2 N r d2 g2 td g (typ tl t) (omega (arith, l2', l1')) o e3 good)
                            (sym (ap (kat d2 tl) et)) c2.6,
                      ));
                }));
          })

      typed_all : (es : Terms) (n : ℕ) (tl : List ℕ) (ts us : Tys) (N r td : ℕ) (g : List KTy) (names : List Atom)
          (form : Forms) (m : KTm) → cps_all es (scope n tl ts names) us td (glength g) form m → td + nodes_all es + r ≤
          N →
          N ≤ L → AllKeep S es n ts → Belows n ts → LevelsIn n tl td → TEnv ts tl td names g →
          GoodForms L P N r td form g tl us → KTypedWith P td g m
      typed_all NoTerms n tl ts us N r td g names form m (te, c) le lim kp b f rv good =
          good.ready N td g NoThings m (ext_same td g) (omega (arith, le)) (omega arith)
          (subst (λ us. Typeds L P N td NoThings g tl us) (sym te) tt) c
      typed_all (MoreTerms e es) n tl ts us N r td g names form m (t, us', te, c) le lim kp b f rv good =
          let o = oks_of e n tl ts t td (head_typed e n tl ts t td (glength g) names _ m c) kp.0 b f in
          typed_cps e n tl ts t N (nodes_all es + r) td g names (Bind tl t _) m c (omega (arith, le)) lim kp.0 b f rv
          (record {
            is = λ d. refl;
            ready = λ M1 d1 g1 x m1 e1 l1 l1' tx c1.
                (let f1 = levels_later n tl td d1 (ext_le d1 g1 td g e1) f in
                let o1 = oks_later L P td d1 (typ tl t) (ext_le d1 g1 td g e1) o in
                typed_all es n tl ts us' M1 r d1 g1 names _ m1 c1 (omega (arith, l1)) (omega (arith, l1', lim)) kp.1 b
                f1
                (tenv_more ts n tl names d1 g1 td g f b e1 rv) (record {
                  ready = λ M2 d2 g2 xs m2 e2 l2 l2' hs c2.
                      good.ready M2 d2 g2 (MoreThings x xs) m2 (ext_trans d2 g2 d1 g1 td g e2 e1) l2
                      (omega (arith, l2', l1'))
                      (subst (λ us. Typeds L P M2 d2 (MoreThings x xs) g2 tl us) (sym te) (
                        oks_later L P d1 d2 (typ tl t) (ext_le d2 g2 d1 g1 e2) o1,
                        typed_more L P x M2 M1 d2 g2 d1 g1 (typ tl t) l2' o1.type e2 tx,
                        hs,
                      )) c2;
                }));
          })

    pub each_type : (e : Term) (m : KTm) → cps_program e m → nodes e ≤ L → Keeps S e 0 NoTys → S TInt → KTypedWith P 0
        [] m
    each_type e m h le kp si =
        typed_cps e 0 [] NoTys TInt L 0 0 [] [] (Bind [] TInt halting) m h (omega (arith, le)) (omega arith) kp tt
        (λ i l. absurd (omega (arith, l))) tt (record {
          is = λ d. refl;
          ready = λ M d big x m e l l' hx c. subst (λ m. KTypedWith P d big m) (sym c.2)
              (has L P x M d big (typ [] TInt) c.0 (omega (arith, l)) l'
              (ok_int 0 [] d (λ i q. absurd (omega (arith, q))) si) hx c.1);
        })

mutual
  keeps_all : (e : Term) (n : ℕ) (g : Tys) → Keeps (λ t. Unit {0}) e n g
  keeps_all (MVar i) n g = λ t h. tt
  keeps_all (MNum i) n g = λ t h. tt
  keeps_all (MFix arg res e) n g = ((λ t h. tt), keeps_all e n (in_fix arg res g))
  keeps_all (MApp f x) n g = ((λ t h. tt), keeps_all f n g, keeps_all x n g)
  keeps_all (MGen e) n g = ((λ t h. tt), keeps_all e (n + 1) (raised g))
  keeps_all (MInst e t) n g = ((λ t h. tt), keeps_all e n g, tt)
  keeps_all (MTuple es) n g = ((λ t h. tt), all_keep es n g)
  keeps_all (MProj i e) n g = ((λ t h. tt), keeps_all e n g)
  keeps_all (MArith op x y) n g = ((λ t h. tt), keeps_all x n g, keeps_all y n g)
  keeps_all (MIf0 x y z) n g = ((λ t h. tt), keeps_all x n g, keeps_all y n g, keeps_all z n g)
  keeps_all (MLet x y) n g = ((λ t h. tt), keeps_all x n g, (λ s h. keeps_all y n (MoreTys s g)))
  keeps_all (MPack hid e s) n g = ((λ t h. tt), keeps_all e n g, tt)
  keeps_all (MOpen x y) n g = ((λ t h. tt), keeps_all x n g, (λ u h. keeps_all y (n + 1) (in_open u g)))
  keeps_all (MRef e) n g = ((λ t h. tt), keeps_all e n g)
  keeps_all (MDeref e) n g = ((λ t h. tt), keeps_all e n g)
  keeps_all (MAssign x y) n g = ((λ t h. tt), keeps_all x n g, keeps_all y n g)

  all_keep : (es : Terms) (n : ℕ) (g : Tys) → AllKeep (λ t. Unit {0}) es n g
  all_keep NoTerms n g = tt
  all_keep (MoreTerms e es) n g = (keeps_all e n g, all_keep es n g)

pub types_kept : KeepsTypes
types_kept e m h =
    plain_t (λ n t. Unit {0}) m 0 []
    (each_type (λ t. Unit {0}) (nodes e) (λ n t. Unit {0}) (λ d r t le s. tt) (λ d r t le s. tt) (λ t s. tt) e m h
    (omega arith) (keeps_all e 0 NoTys) tt)
