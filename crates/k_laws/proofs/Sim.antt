-- A run of the translation follows the evaluation: calls, and each form of a term.
use Rattle.std.proofs.Common.{◌≡◌, ℕ, zero, suc, ◌+◌, ◌<◌, ◌≤◌, ◌⊎◌, inl, inr, List, ◌∷◌, refl, sym, ap, subst, arith}
use Rattle.std.specs.Prelude.{◌==◌}
use Rattle.k_terms.specs.K.{NoKTys, MoreKTys, KVal, KName, KTm, KLet, KIf, kv_next, kt_next}
use Rattle.calc_core.specs.Words.{WCode, NoWords, MoreWords, size}
use Rattle.k_terms.specs.Meaning.{KCodeAt, KWord, KWords, kv_value, kopen, kenter}
use Rattle.f_terms.specs.Ty.{Ty, TInt, TArrow, TAll, TTuple, TSome, TRef, Tys, MoreTys, shift, put}
use Rattle.f_terms.specs.Tm.{Term, MVar, MNum, MFix, MApp, MGen, MInst, MTuple, MProj, MArith, MIf0, MLet, MPack}
use Rattle.f_terms.specs.Tm.{MOpen, MRef, MDeref, MAssign, Terms, NoTerms, MoreTerms}
use Rattle.f_terms.specs.Typing.{in_open}
use Rattle.f_terms.specs.Eval.{Val, VInt, VTup, VFun, VSus, VCell, Vals, And, Gives, cells, given, Enter, apply, inst}
use Rattle.f_terms.specs.Eval.{choose, eval_by, eval_all, enter_by}
use Rattle.f_terms.specs.Eval as E
use Rattle.k_laws.specs.Cps.{kat, kcat, Atom, Level}
use Rattle.k_laws.specs.Translates.{Thing, Plain, Made, NoThings, stands, number, Form, Forms, AnyRest, Bind, Pass}
use Rattle.k_laws.specs.Translates.{call_form, inst_form, cps, scope, cps_all}
use Rattle.k_laws.specs.Count.{one}
use Rattle.k_laws.proofs.Runs.{run}
use Rattle.k_laws.proofs.Related.{Rel, RelEnv, Ext, ext_same, ext_more, ext_trans, rel_env_more, has_at, RelAll}
use Rattle.k_laws.proofs.Related.{rel_cons, Den, den_more, gives, den_var}
use Rattle.k_laws.proofs.Endings.{End, same_or, le_v, le_t, There, there_more, Ends_as, ends_same, ends_more}
use Rattle.k_laws.proofs.Endings.{ends_turn, Does, Takes, Good, Ready, good_more, ready_more, ready_then, ready_map}
use Rattle.k_laws.proofs.Endings.{is_spent, is_stuck, good_deliver, KWord_ok, k_word, split}
use Rattle.k_laws.proofs.Steps.{does_arith, does_set, does_proj, does_get, does_cell, does_pack, does_open, does_let}
use Rattle.k_laws.proofs.Steps.{ReadyAll, ready_then_all, ready_rest, ready_tuple, if_words}

-- the code with the number c is counted, in an evaluation that ends in this way
module _ (c : ℕ) (O : End) where
  -- bodies entered with at most d turns left
  abbrev pub EntersAt : Enter → ℕ → Type 1
  EntersAt enter d = (env : Vals) (body : Term) (n : ℕ) (st : Vals) → n ≤ d →
      (a f l : ℕ) (kenv : KWords) (names : List Atom) (m : KTm) (tn : ℕ) (tl : List ℕ) (td : ℕ) (g : Tys) (ty : Ty) →
      cps body (scope tn tl g names) ty td (size kenv) (Pass l) m → RelEnv env names kenv → There (Pass l) kenv →
      Ready c O a (Pass l) kenv n (enter env body n st) → (kst : KWords) → RelAll st kst →
      Ends_as c O O n a (λ j. kenter j f m kenv kst)

  pub record EnterOk (enter : Enter) (d : ℕ) : Type 1 where
    pub enters : EntersAt enter d

  module _ (enter : Enter) (d : ℕ) (ok : EnterOk enter d) where
    -- a call of what stands for a function
    call_fun : (v w : Val) (wf wx wk : KWord) (n a a' : ℕ) (k : AnyRest) (kenv : KWords) (st : Vals) → n ≤ d →
        Rel v wf → Rel w wx → Ready c O a k kenv n (apply enter v w n st) →
        ((v : Val) (m : ℕ) (st : Vals) → Good c O a k kenv v m st → Takes c O a' m wk v st) → (kst : KWords) →
        RelAll st kst →
        Ends_as c O O n a' (λ j. kopen (kenter j) 0 wf (MoreWords wx (MoreWords wk NoWords)) kst)
    call_fun (VInt i) w wf wx wk n a a' k kenv st le rf rx h t kst rs = is_stuck c O n a' _ h
    call_fun (VTup vs) w wf wx wk n a a' k kenv st le rf rx h t kst rs = is_stuck c O n a' _ h
    call_fun (VCell i) w wf wx wk n a a' k kenv st le rf rx h t kst rs = is_stuck c O n a' _ h
    call_fun (VSus env body) w wf wx wk n a a' k kenv st le rf rx h t kst rs = is_stuck c O n a' _ h
    call_fun (VFun env body) w wf wx wk n a a' k kenv st le rf rx h t kst rs =
        subst (λ f. Ends_as c O O n a' (λ j. kopen (kenter j) 0 f (MoreWords wx (MoreWords wk NoWords)) kst))
        (sym rf.11)
        (ok.enters (And w (And (VFun env body) env)) body n st le a' rf.0 (suc (suc (size rf.1))) inner
        (Level (suc (size rf.1)) ∷ Level (size rf.1) ∷ rf.2) rf.3 rf.4 rf.5 rf.6 rf.7 rf.8 rf.13 (
          (wx, inr (inl (refl, refl)), rx),
          (
            (
              self,
              inr (inr (inl (refl, refl))),
              (rf.0, rf.1, rf.2, rf.3, rf.4, rf.5, rf.6, rf.7, rf.8, rf.9, rf.10, refl, rf.12, rf.13),
            ),
            rel_env_more env rf.2 inner rf.1 (ext_more _ _ _ (ext_more _ _ _ (ext_more _ _ _ (ext_same rf.1))))
                rf.12,
          ),
        )
        (wk, inl (refl, refl))
        (ready_map c O a a' k (Pass (suc (suc (size rf.1)))) kenv inner n
        (enter (And w (And (VFun env body) env)) body n st)
        (λ v m st g. record { word = wk; has = inl (refl, refl); ready = t v m st g }) h) kst rs)
      where
        self : KWord
        self = WCode (KCodeAt rf.0 0 (MoreKTys rf.9 (MoreKTys rf.10 NoKTys)) rf.3) rf.1

        inner : KWords
        inner = MoreWords wk (MoreWords wx (MoreWords self rf.1))

    -- a call of what stands for a suspended body
    call_sus : (v : Val) (wf wk : KWord) (n a a' : ℕ) (k : AnyRest) (kenv : KWords) (st : Vals) → n ≤ d → Rel v wf →
        Ready c O a k kenv n (inst enter v n st) →
        ((v : Val) (m : ℕ) (st : Vals) → Good c O a k kenv v m st → Takes c O a' m wk v st) → (kst : KWords) →
        RelAll st kst →
        Ends_as c O O n a' (λ j. kopen (kenter j) 1 wf (MoreWords wk NoWords) kst)
    call_sus (VInt i) wf wk n a a' k kenv st le rf h t kst rs = is_stuck c O n a' _ h
    call_sus (VTup vs) wf wk n a a' k kenv st le rf h t kst rs = is_stuck c O n a' _ h
    call_sus (VCell i) wf wk n a a' k kenv st le rf h t kst rs = is_stuck c O n a' _ h
    call_sus (VFun env body) wf wk n a a' k kenv st le rf h t kst rs = is_stuck c O n a' _ h
    call_sus (VSus env body) wf wk n a a' k kenv st le rf h t kst rs =
        subst (λ f. Ends_as c O O n a' (λ j. kopen (kenter j) 1 f (MoreWords wk NoWords) kst)) (sym rf.10)
        (ok.enters env body n st le a' rf.0 (suc (size rf.1)) inner rf.2 rf.3 rf.4 rf.5 rf.6 rf.7 rf.8 rf.12
        (rel_env_more env rf.2 inner rf.1 (ext_more _ _ _ (ext_more _ _ _ (ext_same rf.1))) rf.11)
        (wk, inl (refl, refl))
        (ready_map c O a a' k (Pass (suc (size rf.1))) kenv inner n (enter env body n st)
        (λ v m st g. record { word = wk; has = inl (refl, refl); ready = t v m st g }) h) kst rs)
      where
        inner : KWords
        inner = MoreWords wk (MoreWords (WCode (KCodeAt rf.0 1 (MoreKTys rf.9 NoKTys) rf.3) rf.1) rf.1)

    does_app : (v w : Val) (n b a td : ℕ) (k : AnyRest) (kenv : KWords) (st : Vals) (fv xv : Thing) (m : KTm) →
        Den fv kenv v → Den xv kenv w → There k kenv → n ≤ d → Ready c O a k kenv n (apply enter v w n st) →
        call_form k fv td (size kenv) xv m → Does c O a n b kenv st m
    does_app v w n b a td k kenv st fv xv m df dx th le h (inl (f', x', k', hf, hx, hk, e)) =
        subst (λ m. Does c O a n b kenv st m) (sym e) (record {
          does = λ kst rs u q.
              call_fun v w _ _ _ n a (a + u) k kenv st le (gives fv kenv v df td kenv (ext_same kenv) b f' hf)
              (gives xv kenv w dx td kenv (ext_same kenv) b1 x' hx) h
              (λ v m st g. kw.good a u m v st (λ p s. q (omega (arith, p, le_v f' b, le_v x' b1)) s) g) kst rs;
        })
      where
        b1 : ℕ
        b1 = kv_next b f'

        kw : KWord_ok c O k kenv (kv_next b1 x') k'
        kw = k_word c O k kenv (kv_next b1 x') td k' th hk
    does_app v w n b a td k kenv st fv xv m df dx th le h (inr (kv, rest, hv, e, (f', x', k', hf, hx, hk, e'))) =
        subst (λ m. Does c O a n b kenv st m) (sym e)
        (subst (λ r. Does c O a n b kenv st (KLet (KName kv) r)) (sym e') (record {
          does = λ kst rs u q.
              ends_same c O O n (a + u) _ _
              (λ j. ap (λ z. kopen (kenter j) 0 (kv_value b' f' kenv')
              (MoreWords (kv_value b1 x' kenv') (MoreWords z NoWords)) kst) ek)
              (call_fun v w _ _ _ n a (a + u) k kenv st le (gives fv kenv v df td kenv' more b' f' hf)
              (gives xv kenv w dx td kenv' more b1 x' hx) h
              (λ v m st g.
              kw.good a u m v st (λ p s. q p (omega (arith, s, le_v f' b', le_v x' b1, le_v k' (kv_next b1 x'))))
              g) kst rs);
        }))
      where
        b' : ℕ
        b' = kv_next b kv

        b1 : ℕ
        b1 = kv_next b' f'

        kw : KWord_ok c O k kenv b kv
        kw = k_word c O k kenv b td kv th hv

        kenv' : KWords
        kenv' = MoreWords (kv_value b kv kenv) kenv

        more : Ext kenv' kenv
        more = ext_more _ _ _ (ext_same kenv)

        ek : kv_value (kv_next b1 x') k' kenv' ≡ kv_value b kv kenv
        ek = subst (λ k. kv_value (kv_next b1 x') k kenv' ≡ kv_value b kv kenv) (sym hk.1)
            (has_at kenv' (size kenv) hk.0 (kv_value b kv kenv) (inl (refl, refl)) hk.2)

    does_inst : (v : Val) (n b a td : ℕ) (k : AnyRest) (kenv : KWords) (st : Vals) (tl : List ℕ) (ty : Ty) (ev : Thing)
        (m : KTm) → Den ev kenv v → There k kenv → n ≤ d → Ready c O a k kenv n (inst enter v n st) →
        inst_form k tl ty td (size kenv) ev m → Does c O a n b kenv st m
    does_inst v n b a td k kenv st tl ty ev m de th le h (inl (e', k', he, hk, e)) =
        subst (λ m. Does c O a n b kenv st m) (sym e) (record {
          does = λ kst rs u q.
              call_sus v _ _ n a (a + u) k kenv st le (gives ev kenv v de td kenv (ext_same kenv) b e' he) h
              (λ v m st g. kw.good a u m v st (λ p s. q (omega (arith, p, le_v e' b)) s) g) kst rs;
        })
      where
        kw : KWord_ok c O k kenv (kv_next b e') k'
        kw = k_word c O k kenv (kv_next b e') td k' th hk
    does_inst v n b a td k kenv st tl ty ev m de th le h (inr (kv, rest, hv, e, (e', k', he, hk, e2))) =
        subst (λ m. Does c O a n b kenv st m) (sym e)
        (subst (λ r. Does c O a n b kenv st (KLet (KName kv) r)) (sym e2) (record {
          does = λ kst rs u q.
              ends_same c O O n (a + u) _ _
              (λ j. ap (λ z. kopen (kenter j) 1 (kv_value b' e' kenv') (MoreWords z NoWords) kst) ek)
              (call_sus v _ _ n a (a + u) k kenv st le
              (gives ev kenv v de td kenv' (ext_more _ _ _ (ext_same kenv)) b' e' he) h
              (λ v m st g. kw.good a u m v st (λ p s. q p (omega (arith, s, le_v e' b', le_v k' (kv_next b' e'))))
              g) kst rs);
        }))
      where
        b' : ℕ
        b' = kv_next b kv

        kw : KWord_ok c O k kenv b kv
        kw = k_word c O k kenv b td kv th hv

        kenv' : KWords
        kenv' = MoreWords (kv_value b kv kenv) kenv

        ek : kv_value (kv_next b' e') k' kenv' ≡ kv_value b kv kenv
        ek = subst (λ k. kv_value (kv_next b' e') k kenv' ≡ kv_value b kv kenv) (sym hk.1)
            (has_at kenv' (size kenv) hk.0 (kv_value b kv kenv) (inl (refl, refl)) hk.2)

    -- what is shown of a term
    abbrev SimAt : Term → Type 1
    SimAt e = (n b a : ℕ) (env : Vals) (kenv : KWords) (st : Vals) (names : List Atom) (k : AnyRest) (m : KTm) (tn : ℕ)
        (tl : List ℕ) (g : Tys) (ty : Ty) (td : ℕ) → cps e (scope tn tl g names) ty td (size kenv) k m →
        RelEnv env names kenv → There k kenv → n ≤ d → Ready c O a k kenv n (eval_by enter env e n st) →
        Does c O a n b kenv st m

    abbrev IfForm : Term → Term → ℕ → List ℕ → Tys → Ty → List Atom → ℕ → Form
    IfForm y z tn tl g ty names l ta d2 cv m2 = (c' : KVal) × (ma mb : KTm) × stands cv ta d2 c' × (m2 ≡ KIf c' ma mb)
        × cps y (scope tn tl g names) ty ta d2 (Pass l) ma × cps z (scope tn tl g names) ty ta d2 (Pass l) mb

    if_pass : (x y z : Term) → SimAt x → SimAt y → SimAt z →
        (n b a : ℕ) (env : Vals) (kenv : KWords) (st : Vals) (names : List Atom) (l : ℕ) (m : KTm) (tn : ℕ)
        (tl : List ℕ) (g : Tys) (ty : Ty) (td : ℕ) →
        cps x (scope tn tl g names) TInt td (size kenv) (Bind tl TInt (IfForm y z tn tl g ty names l)) m →
        RelEnv env names kenv → There (Pass l) kenv → n ≤ d →
        Ready c O a (Pass l) kenv n (eval_by enter env (MIf0 x y z) n st) → Does c O a n b kenv st m
    if_pass x y z sx sy sz n b a env kenv st names l m tn tl g ty td t r th le h =
        sx n b a env kenv st names (Bind tl TInt (IfForm y z tn tl g ty names l)) m tn tl g TInt td t r tt le
        (ready_then c O a a (Pass l) (Bind tl TInt (IfForm y z tn tl g ty names l)) kenv kenv n
        (eval_by enter env x n st)
        _ h (λ v n1 s1 le1 h1.
        record { ready = λ b1 ta big xv m1 e dx t1. branch v n1 s1 b1 ta big xv m1 e dx le1 h1 t1 }))
      where
        branch : (v : Val) (n1 : ℕ) (s1 : Vals) (b1 ta : ℕ) (big : KWords) (xv : Thing) (m1 : KTm) → Ext big kenv →
            Den xv big v → n1 ≤ n →
            Ready c O a (Pass l) kenv n (choose v (eval_by enter env y n1 s1) (eval_by enter env z n1 s1)) →
            IfForm y z tn tl g ty names l ta (size big) xv m1 → Does c O a n1 b1 big s1 m1
        branch v n1 s1 b1 ta big xv m1 e dx le1 h1 (x', ma, mb, hx, em, cy, cz) =
            let r' = rel_env_more env names big kenv e r in
            let th' = there_more (Pass l) big kenv e th in
            let h2 = ready_more c O a (Pass l) big kenv n n1
            (choose v (eval_by enter env y n1 s1) (eval_by enter env z n1 s1)) e le1 h1 in
            let le2 : n1 ≤ d = omega (arith, le, le1) in
            let b2 = kv_next b1 x' in
            let b3 = kt_next b2 ma in
            subst (λ m. Does c O a n1 b1 big s1 m) (sym em) (record {
              does = λ kst rs u q.
                  if_words c O v _ n1 a (a + u) b2 b3 (Pass l) big _ _ ma mb kst
                  (gives xv big v dx ta big (ext_same big) b1 x' hx) h2
                  (λ h3. (sy n1 b2 a env big s1 names (Pass l) ma tn tl g ty ta cy r' th' le2 h3).does kst rs u
                  (λ p s. q (omega (arith, p, le_v x' b1)) (omega (arith, s, le_t mb b3))))
                  (λ h3. (sz n1 b3 a env big s1 names (Pass l) mb tn tl g ty ta cz r' th' le2 h3).does kst rs u
                  (λ p s. q (omega (arith, p, le_v x' b1, le_t ma b2)) s));
            })

    if_case : (x y z : Term) → SimAt x → SimAt y → SimAt z → SimAt (MIf0 x y z)
    if_case x y z sx sy sz n b a env kenv st names (Pass l) m tn tl g ty td (ht, t) r th le h =
        if_pass x y z sx sy sz n b a env kenv st names l m tn tl g ty td t r th le h
    if_case x y z sx sy sz n b a env kenv st names (Bind tk ty' form) m tn tl g ty td (ht, (kv, rest, hv, e, t)) r th
        le h =
        subst (λ m. Does c O a n b kenv st m) (sym e)
        (record {
          does = λ kst rs u q.
              in_parts kst rs u (split c O b b1 (kt_next b1 rest) u (le_v kv b) (le_t rest b1) q);
        })
      where
        b1 : ℕ
        b1 = kv_next b kv

        word : KWord
        word = kv_value b kv kenv

        kw : KWord_ok c O (Bind tk ty' form) kenv b kv
        kw = k_word c O (Bind tk ty' form) kenv b td kv tt hv

        in_parts : (kst : KWords) → RelAll st kst → (u : ℕ) → (u1 u2 : ℕ) × (u1 + u2 ≡ u) × (b ≤ c → c < b1 → 1 ≤ u1)
            × (b1 ≤ c → c < kt_next b1 rest → 1 ≤ u2) →
            Ends_as c O O n (a + u) (λ j. run j b kenv (KLet (KName kv) rest) kst)
        in_parts kst rs u (u1, u2, eu, q1, q2) =
            ends_more c O O n (a + u1 + u2) (a + u) _ (omega (arith, eu))
            ((if_pass x y z sx sy sz n b1 (a + u1) env (MoreWords word kenv) st names (size kenv) rest tn tl g ty td t
            (rel_env_more env names _ kenv (ext_more _ _ _ (ext_same kenv)) r) (word, inl (refl, refl)) le
            (ready_map c O a (a + u1) (Bind tk ty' form) (Pass (size kenv)) kenv (MoreWords word kenv) n
            (eval_by enter env (MIf0 x y z) n st)
            (λ v m s g. record { word = word; has = inl (refl, refl); ready = kw.good a u1 m v s q1 g }) h)).does
            kst rs u2 q2)

    mutual
      pub sim : (e : Term) (n b a : ℕ) (env : Vals) (kenv : KWords) (st : Vals) (names : List Atom) (k : AnyRest)
          (m : KTm)
          (tn : ℕ) (tl : List ℕ) (g : Tys) (ty : Ty) (td : ℕ) → cps e (scope tn tl g names) ty td (size kenv) k m →
          RelEnv env names kenv → There k kenv → n ≤ d → Ready c O a k kenv n (eval_by enter env e n st) →
          Does c O a n b kenv st m
      sim (MVar i) n b a env kenv st names k m tn tl g ty td (te, at, lev, del) r th le h =
          let v = den_var env names kenv i at r lev in
          let h' = subst (λ o. Ready c O a k kenv n (given o n st)) v.1 h in
          good_deliver c O a k kenv v.0 n st b td (Plain at) m (h' (omega arith)) v.2 del
      sim (MNum i) n b a env kenv st names k m tn tl g ty td (te, del) r th le h =
          good_deliver c O a k kenv (VInt i) n st b td (number i) m (h (omega arith)) refl del
      sim (MFix arg res body) n b a env kenv st names k m tn tl g ty td (te, del) r th le h =
          good_deliver c O a k kenv (VFun env body) n st b td (Made _) m (h (omega arith))
          (record {
            gives = λ ta big e b k is. subst (λ k. Rel (VFun env body) (kv_value b k big)) (sym is.1) (
              b,
              big,
              names,
              is.0,
              tn,
              tl,
              ta,
              _,
              _,
              kat ta tl arg,
              kcat ta tl res,
              refl,
              rel_env_more env names big kenv e r,
              is.2,
            );
          }) del
      sim (MGen body) n b a env kenv st names k m tn tl g ty td (ht, s, te, del) r th le h =
          good_deliver c O a k kenv (VSus env body) n st b td (Made _) m (h (omega arith))
          (record {
            gives = λ ta big e b k is. subst (λ k. Rel (VSus env body) (kv_value b k big)) (sym is.1) (
              b,
              big,
              names,
              is.0,
              tn + 1,
              ta ∷ tl,
              suc ta,
              _,
              _,
              kcat (suc ta) (ta ∷ tl) s,
              refl,
              rel_env_more env names big kenv e r,
              is.2,
            );
          }) del
      sim (MApp f x) n b a env kenv st names k m tn tl g ty td (ht, s, t) r th le h =
          sim f n b a env kenv st names (Bind _ _ _) m tn tl g _ td t r tt le
          (ready_then c O a a k (Bind tl (TArrow s ty) _) kenv kenv n (eval_by enter env f n st) _ h
          (λ v n1 s1 le1 h1. record {
            ready = λ b1 t1 big1 fv m1 e1 df c1.
                sim x n1 b1 a env big1 s1 names (Bind _ _ _) m1 tn tl g _ t1 c1 (rel_env_more env names big1 kenv e1 r)
                tt (omega (arith, le, le1))
                (ready_then c O a a k (Bind tl s _) big1 big1 n1 (eval_by enter env x n1 s1) _
                (ready_more c O a k big1 kenv n n1 _ e1 le1 h1) (λ w n2 s2 le2 h2. record {
                  ready = λ b2 t2 big2 xv m2 e2 dx c2.
                      does_app v w n2 b2 a t2 k big2 s2 fv xv m2 (den_more fv big2 big1 v e2 df) dx
                      (there_more k big2 kenv (ext_trans big2 big1 kenv e2 e1) th) (omega (arith, le, le1, le2))
                      (ready_more c O a k big2 big1 n1 n2 _ e2 le2 h2) c2;
                }));
          }))
      sim (MInst e t) n b a env kenv st names k m tn tl g ty td (ht, tb, te, tr) r th le h =
          sim e n b a env kenv st names (Bind _ _ _) m tn tl g _ td tr r tt le
          (ready_then c O a a k (Bind tl (TAll tb) _) kenv kenv n (eval_by enter env e n st) _ h
          (λ v n1 s1 le1 h1. record {
            ready = λ b1 t1 big1 ev m1 e1 de c1.
                does_inst v n1 b1 a t1 k big1 s1 tl t ev m1 de (there_more k big1 kenv e1 th) (omega (arith, le, le1))
                (ready_more c O a k big1 kenv n n1 _ e1 le1 h1) c1;
          }))
      sim (MTuple es) n b a env kenv st names k m tn tl g ty td (ht, ts, te, t) r th le h =
          sim_all es n b a env kenv st names _ m tn tl g ts td t r le
          (ready_tuple c O a k kenv n (eval_all enter env es n st) h)
      sim (MProj i e) n b a env kenv st names k m tn tl g ty td (ht, ts, te, t) r th le h =
          sim e n b a env kenv st names (Bind _ _ _) m tn tl g _ td t r tt le
          (ready_then c O a a k (Bind tl (TTuple ts) _) kenv kenv n (eval_by enter env e n st) _ h
          (λ v n1 s1 le1 h1. record {
            ready = λ b1 t1 big1 ev m1 e1 de c1.
                does_proj c O i v n1 b1 a t1 k big1 s1 ev m1 de (ready_more c O a k big1 kenv n n1 _ e1 le1 h1) c1;
          }))
      sim (MArith op x y) n b a env kenv st names k m tn tl g ty td (ht, t) r th le h =
          sim x n b a env kenv st names (Bind _ _ _) m tn tl g _ td t r tt le
          (ready_then c O a a k (Bind tl TInt _) kenv kenv n (eval_by enter env x n st) _ h (λ v n1 s1 le1 h1. record {
            ready = λ b1 t1 big1 xv m1 e1 dx c1.
                sim y n1 b1 a env big1 s1 names (Bind _ _ _) m1 tn tl g _ t1 c1 (rel_env_more env names big1 kenv e1 r)
                tt (omega (arith, le, le1))
                (ready_then c O a a k (Bind tl TInt _) big1 big1 n1 (eval_by enter env y n1 s1) _
                (ready_more c O a k big1 kenv n n1 _ e1 le1 h1) (λ w n2 s2 le2 h2. record {
                  ready = λ b2 t2 big2 yv m2 e2 dy c2.
                      does_arith c O op v w n2 b2 a t2 k big2 s2 xv yv m2 (den_more xv big2 big1 v e2 dx) dy
                      (ready_more c O a k big2 big1 n1 n2 _ e2 le2 h2) c2;
                }));
          }))
      sim (MIf0 x y z) n b a env kenv st names k m tn tl g ty td t r th le h =
          if_case x y z
          (λ n b a env kenv st names k m tn tl g ty td t r th le h. sim x n b a env kenv st names k m tn tl g ty td
          t r th le h)
          (λ n b a env kenv st names k m tn tl g ty td t r th le h. sim y n b a env kenv st names k m tn tl g ty td
          t r th le h)
          (λ n b a env kenv st names k m tn tl g ty td t r th le h. sim z n b a env kenv st names k m tn tl g ty td
          t r th le h) n b a env kenv st names k m tn tl g ty td t r th le h
      sim (MLet x y) n b a env kenv st names k m tn tl g ty td (ht, s, t) r th le h =
          sim x n b a env kenv st names (Bind _ _ _) m tn tl g _ td t r tt le
          (ready_then c O a a k (Bind tl s _) kenv kenv n (eval_by enter env x n st) _ h (λ v n1 s1 le1 h1. record {
            ready = λ b1 t1 big1 xv m1 e1 dx c1.
                does_let c O v n1 b1 a t1 big1 s1 (λ ta d1 z m2. cps y (scope tn tl (MoreTys s g) (z ∷ names)) ty ta d1
                k m2)
                xv m1
                dx (λ b2 big2 at m2 e2 dy c2.
                sim y n1 b2 a (And v env) big2 s1 (at ∷ names) k m2 tn tl (MoreTys s g) ty t1 c2
                (rel_cons at v env names big2 dy
                (rel_env_more env names big2 kenv (ext_trans big2 big1 kenv e2 e1) r))
                (there_more k big2 kenv (ext_trans big2 big1 kenv e2 e1) th) (omega (arith, le, le1))
                (ready_more c O a k big2 kenv n n1 _ (ext_trans big2 big1 kenv e2 e1) le1 h1)) c1;
          }))
      sim (MPack hid e shape) n b a env kenv st names k m tn tl g ty td (ht, u, es, et, t) r th le h =
          sim e n b a env kenv st names (Bind _ _ _) m tn tl g _ td t r tt le
          (ready_map c O a a k (Bind tl (put 0 hid u) _) kenv kenv n (eval_by enter env e n st) (λ v n1 s1 gd. record {
            ready = λ b1 t1 big1 ev m1 e1 de c1. does_pack c O v n1 b1 a t1 k big1 s1 tl hid shape ev m1 de
                (good_more c O a k big1 kenv v n1 s1 e1 gd) c1;
          }) h)
      sim (MOpen x y) n b a env kenv st names k m tn tl g ty td (ht, u, t) r th le h =
          sim x n b a env kenv st names (Bind _ _ _) m tn tl g _ td t r tt le
          (ready_then c O a a k (Bind tl (TSome u) _) kenv kenv n (eval_by enter env x n st) _ h
          (λ v n1 s1 le1 h1. record {
            ready = λ b1 t1 big1 xv m1 e1 dx c1.
                does_open c O v n1 b1 a t1 big1 s1
                (λ ta d1 m2. cps y (scope (tn + 1) (ta ∷ tl) (in_open u g) (Level d1 ∷ names)) (shift 1 0 ty) (suc ta)
                (suc d1) k m2) xv m1 dx (λ b2 w m2 rv c2.
                (let e2 = ext_more w big1 kenv e1 in
                sim y n1 b2 a (And v env) (MoreWords w big1) s1 (Level (size big1) ∷ names) k m2 (tn + 1) (t1 ∷ tl)
                (in_open u g) (shift 1 0 ty) (suc t1) c2
                ((w, inl (refl, refl), rv), rel_env_more env names (MoreWords w big1) kenv e2 r)
                (there_more k (MoreWords w big1) kenv e2 th) (omega (arith, le, le1))
                (ready_more c O a k (MoreWords w big1) kenv n n1 _ e2 le1 h1))) c1;
          }))
      sim (MRef e) n b a env kenv st names k m tn tl g ty td (ht, s, te, t) r th le h =
          sim e n b a env kenv st names (Bind _ _ _) m tn tl g _ td t r tt le
          (ready_then c O a a k (Bind tl s _) kenv kenv n (eval_by enter env e n st) _ h (λ v n1 s1 le1 h1. record {
            ready = λ b1 t1 big1 ev m1 e1 de c1.
                does_cell c O v n1 b1 a t1 k big1 s1 ev m1 de
                (ready_more c O a k big1 kenv n n1 (Gives (VCell (cells s1)) n1 (E.one_more s1 v)) e1 le1 h1) c1;
          }))
      sim (MDeref e) n b a env kenv st names k m tn tl g ty td (ht, t) r th le h =
          sim e n b a env kenv st names (Bind _ _ _) m tn tl g _ td t r tt le
          (ready_then c O a a k (Bind tl (TRef ty) _) kenv kenv n (eval_by enter env e n st) _ h
          (λ v n1 s1 le1 h1. record {
            ready = λ b1 t1 big1 ev m1 e1 de c1.
                does_get c O v n1 b1 a t1 k big1 s1 ev m1 de (ready_more c O a k big1 kenv n n1 _ e1 le1 h1) c1;
          }))
      sim (MAssign x y) n b a env kenv st names k m tn tl g ty td (ht, s, te, t) r th le h =
          sim x n b a env kenv st names (Bind _ _ _) m tn tl g _ td t r tt le
          (ready_then c O a a k (Bind tl (TRef s) _) kenv kenv n (eval_by enter env x n st) _ h
          (λ v n1 s1 le1 h1. record {
            ready = λ b1 t1 big1 xv m1 e1 dx c1.
                sim y n1 b1 a env big1 s1 names (Bind _ _ _) m1 tn tl g _ t1 c1 (rel_env_more env names big1 kenv e1 r)
                tt (omega (arith, le, le1))
                (ready_then c O a a k (Bind tl s _) big1 big1 n1 (eval_by enter env y n1 s1) _
                (ready_more c O a k big1 kenv n n1 _ e1 le1 h1) (λ w n2 s2 le2 h2. record {
                  ready = λ b2 t2 big2 yv m2 e2 dy c2.
                      does_set c O v w n2 b2 a t2 k big2 s2 xv yv m2 (den_more xv big2 big1 v e2 dx) dy
                      (ready_more c O a k big2 big1 n1 n2 _ e2 le2 h2) c2;
                }));
          }))

      sim_all : (es : Terms) (n b a : ℕ) (env : Vals) (kenv : KWords) (st : Vals) (names : List Atom) (form : Forms)
          (m : KTm) (tn : ℕ) (tl : List ℕ) (g : Tys) (ts : Tys) (td : ℕ) →
          cps_all es (scope tn tl g names) ts td (size kenv) form m → RelEnv env names kenv → n ≤ d →
          ReadyAll c O a form kenv n (eval_all enter env es n st) → Does c O a n b kenv st m
      sim_all NoTerms n b a env kenv st names form m tn tl g ts td (te, t) r le h =
          (h (omega arith)).ready b td kenv NoThings m (ext_same kenv) tt t
      sim_all (MoreTerms e es) n b a env kenv st names form m tn tl g ts td (t0, ts', te, t) r le h =
          sim e n b a env kenv st names (Bind _ _ _) m tn tl g _ td t r tt le
          (ready_then_all c O a form (Bind tl t0 _) kenv kenv n (eval_by enter env e n st) _ h
          (λ v n1 s1 le1 h1. record {
            ready = λ b1 t1 big1 x m1 e1 dx c1.
                sim_all es n1 b1 a env big1 s1 names _ m1 tn tl g ts' t1 c1 (rel_env_more env names big1 kenv e1 r)
                (omega (arith, le, le1))
                (ready_rest c O a form kenv big1 n n1 v x (eval_all enter env es n1 s1) le1 e1 dx h1);
          }))

  pub enter_ok : (d : ℕ) → EnterOk (enter_by d) d
  enter_ok d =
      record {
        enters = λ env body n st le a f l kenv names m tn tl td g ty t r th h kst rs.
            enters d env body n st le a f l kenv names m tn tl td g ty t r th h kst rs;
      }
    where
      one_turn : (d : ℕ) → EnterOk (enter_by d) d → (env : Vals) (body : Term) (n : ℕ) (st : Vals) → n ≤ d →
          (a f l : ℕ) (kenv : KWords) (names : List Atom) (m : KTm) (tn : ℕ) (tl : List ℕ) (td : ℕ) (g : Tys)
          (ty : Ty) → cps body (scope tn tl g names) ty td (size kenv) (Pass l) m → RelEnv env names kenv →
          There (Pass l) kenv → Ready c O a (Pass l) kenv (suc n) (eval_by (enter_by d) env body n st) →
          (kst : KWords) →
          RelAll st kst → ((c ≡ f) × (one (c == f) ≡ 1)) ⊎ (one (c == f) ≡ 0) →
          Ends_as c O O (suc n) a (λ j. kenter j f m kenv kst)
      one_turn d ok env body n st le a f l kenv names m tn tl td g ty t r th h kst rs (inl s) =
          let le' : one (c == f) + (a + 0) ≤ suc a = omega (arith, s.1) in
          let h' = ready_more c O a (Pass l) kenv kenv (suc n) n (eval_by (enter_by d) env body n st) (ext_same kenv)
          (omega arith) h in
          ends_turn c O O n a (a + 0) f _ le'
          ((sim (enter_by d) d ok body n (suc f) a env kenv st names (Pass l) m tn tl g ty td t r th le h').does
          kst rs 0 (λ p q. absurd (omega (arith, s.0, p)))) _ (λ j. refl)
      one_turn d ok env body n st le a f l kenv names m tn tl td g ty t r th h kst rs (inr s) =
          let le' : one (c == f) + (a + 1) ≤ suc a = omega (arith, s) in
          let h' = ready_more c O a (Pass l) kenv kenv (suc n) n (eval_by (enter_by d) env body n st) (ext_same kenv)
          (omega arith) h in
          ends_turn c O O n a (a + 1) f _ le'
          ((sim (enter_by d) d ok body n (suc f) a env kenv st names (Pass l) m tn tl g ty td t r th le h').does
          kst rs 1 (λ p q. omega arith)) _ (λ j. refl)

      enters : (d : ℕ) → EntersAt (enter_by d) d
      enters d env body zero st le a f l kenv names m tn tl td g ty t r th h kst rs = is_spent c O 0 a _ h refl
      enters zero env body (suc n) st le a f l kenv names m tn tl td g ty t r th h kst rs = absurd (omega (arith, le))
      enters (suc d) env body (suc n) st le a f l kenv names m tn tl td g ty t r th h kst rs =
          one_turn d (record {
            enters = λ env body n st le a f l kenv names m tn tl td g ty t r th h kst rs.
                enters d env body n st le a f l kenv names m tn tl td g ty t r th h kst rs;
          }) env body n st
          (omega (arith, le)) a f l kenv names m tn tl td g ty t r th h kst rs (same_or c f)
