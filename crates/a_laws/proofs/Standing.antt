-- The allocation of a typed program stands for it.
use Rattle.std.proofs.Common.{◌≡◌, ◌<◌, inl, inr, ℕ, zero, suc, ◌+◌, ◌-◌, List, [], ◌∷◌, ◌++◌, length, Some, None}
use Rattle.std.proofs.Common.{refl, sym, ap, ◌∙◌, subst, arith, slice_get, length-append, append-nil, append_assoc}
use Rattle.std.proofs.Common.{ap₂, true≢false}
use Rattle.std.specs.Prelude.{Bool}
use Rattle.a_laws.proofs.Consts.{Within, back, front, whole}
use Rattle.a_laws.proofs.Known.{AgreeK, Told, all_carry, agree_args, fact, fact_all, fact_block, fact_d, fact_t}
use Rattle.a_laws.proofs.Rel.{At, Later, at_more, at_new}
use Rattle.a_laws.proofs.Scopes.{InT, InV, InVs, args_length, in_t}
use Rattle.a_laws.specs.Allocate.{Known, alloc_all, alloc_data, alloc_prog, alloc_t, are_const, arg_depth, arg_levels}
use Rattle.a_laws.specs.Allocate.{atypes, d_types}
use Rattle.a_laws.specs.Allocate.{data_all, data_t, dcl, fill, final, known_of, level_of, n_all, n_block, n_d, n_t, n_v}
use Rattle.a_laws.specs.Allocate.{n_vs, plain, pre_v, pre_vs, v_next, v_type, v_types, val, vals, var_of, vs_next}
use Rattle.a_laws.specs.Back.{arg_count}
use Rattle.a_laws.specs.Constants.{Constants, constant, named_by, of_args, one_if, tuples_all, tuples_d, tuples_in}
use Rattle.a_laws.specs.Constants.{tuples_t, tuples_v, tuples_vs}
use Rattle.a_laws.specs.Statements.{AllocTypesKept}
use Rattle.a_laws.specs.Stands.{scope, AllHaveKinds, AllocStands, Any, HasKinds, Filling, Gone, Is, Made, Means}
use Rattle.a_laws.specs.Stands.{Stands_all}
use Rattle.a_laws.specs.Stands.{Stands_t, Stands_v}
use Rattle.a_laws.specs.Stands.{Stands_vs, Thing, all_take, arg_things, listed, takes, thing_at, tuple_of}
use Rattle.a_terms.specs.Meaning.{pick}
use Rattle.a_terms.specs.Tree.{AConsts, AProg, AVal, ATm, ATy, ATys, Call, Data, Halt, If0, Init, Let, Malloc, MoreATys}
use Rattle.a_terms.specs.Tree.{NoATys, Var}
use Rattle.a_terms.specs.Tree.{arity}
use Rattle.a_terms.specs.Typing.{TypedData, TypedTuples, types_of}
use Rattle.c_terms.specs.C.{CTys, MoreCTys, NoCTys}
use Rattle.c_terms.specs.Typing.{cargs_onto}
use Rattle.h_terms.specs.H.{HApply, HArith, HBlks, HCall, HCell, HDecl, HGet, HHalt, HIf, HInt, HLabel, HLet, HName}
use Rattle.h_terms.specs.H.{HPack, HProj, HSet, HTm, HTuple, HUnpack, HVal, HVals, HVar, MoreHVals, NoHVals}
use Rattle.h_terms.specs.Typing.{AllGood}

thing_nth : (env : List Thing) (i : ℕ) (x : Thing) → slice_get env i ≡ Some x → thing_at env i ≡ x
thing_nth [] i x e = absurd (impossible e)
  where
    impossible : None ≡ Some x → ⊥
    impossible q = cc
thing_nth (y ∷ env) zero x e = cc
thing_nth (y ∷ env) (suc i) x e = thing_nth env i x e

-- how many fields
abbrev many : HVals → ℕ
many NoHVals = 0
many (MoreHVals v vs) = suc (many vs)

many_types : (ks : HBlks) (g : List ATy) (vs : HVals) → arity (v_types ks g vs) ≡ many vs
many_types ks g NoHVals = refl
many_types ks g (MoreHVals v vs) = ap suc (many_types ks g vs)

-- the variables of the hoisted program, k of them, stand at the levels ls
abbrev Agree : ℕ → List Known → ℕ → List Thing → Type 0
Agree d [] zero env = Unit {0}
Agree d [] (suc k) env = ⊥
Agree d (l ∷ ls) zero env = ⊥
Agree d (l ∷ ls) (suc k) env = At d env l.level (Is k) × Agree d ls k env

agree_later : (ls : List Known) (k d d2 : ℕ) (env env2 : List Thing) → Later d env d2 env2 → Agree d ls k env →
    Agree d2 ls k env2
agree_later [] zero d d2 env env2 q a = tt
agree_later [] (suc k) d d2 env env2 q a = absurd a
agree_later (l ∷ ls) zero d d2 env env2 q a = absurd a
agree_later (l ∷ ls) (suc k) d d2 env env2 q a = (q l.level (Is k) a.0, agree_later ls k d d2 env env2 q a.1)

module _ (ds : List HVal) where
  module _ (k0 : ℕ) (ks : HBlks) (g : List ATy) (ls : List Known) (os : Constants) (known : AgreeK ds ls os) where
    -- what is left of a value stands for it, and takes these tuples, from depth d on
    abbrev Read : ℕ → ℕ → HVal → ℕ → List Thing → List Thing → Type 0
    Read b e v d taken env =
        (d3 : ℕ) (env3 : List Thing) → Later d env d3 env3 →
        Stands_v (scope ds os env3 k0) (val ls b e d3 v) v × (takes env3 (val ls b e d3 v) ≡ taken)

    abbrev Reads : ℕ → ℕ → HVals → ℕ → List Thing → List Thing → Type 0
    Reads b e NoHVals d taken env = taken ≡ []
    Reads b e (MoreHVals v vs) d taken env =
        (xs : List Thing) × (ys : List Thing) × (taken ≡ xs ++ ys) × Read b e v d xs env
        × Reads (n_v ls b v) (v_next ls e v) vs d ys env

    reads_later : (vs : HVals) (b e d d2 : ℕ) (taken : List Thing) (env env2 : List Thing) → Later d env d2 env2 →
        Reads b e vs d taken env → Reads b e vs d2 taken env2
    reads_later NoHVals b e d d2 taken env env2 q r = r
    reads_later (MoreHVals v vs) b e d d2 taken env env2 q r =
        let rest = reads_later vs (n_v ls b v) (v_next ls e v) d d2 r.1 env env2 q r.4 in
        (r.0, r.1, r.2, λ d3 env3 p. r.3 d3 env3 (λ l x a. p l x (q l x a)), rest)

    all_read : (vs : HVals) (b e d : ℕ) (taken : List Thing) (env : List Thing) → Reads b e vs d taken env →
        Stands_vs (scope ds os env k0) (vals ls b e d vs) vs × (all_take env (vals ls b e d vs) ≡ taken)
    all_read NoHVals b e d taken env r = (refl, sym r)
    all_read (MoreHVals v vs) b e d taken env r =
        let first = r.3 d env (λ l x a. a) in
        let rest = all_read vs (n_v ls b v) (v_next ls e v) d r.1 env r.4 in
        ((v, vs, refl, first.0, rest.0), ap₂ ◌++◌ first.1 rest.1 ∙ sym r.2)

    -- a variable stands for a hoisted one, and takes no tuple
    abbrev Stays : List Thing → AVal → ℕ → Type 0
    Stays env v i = Stands_v (scope ds os env k0) v (HVar i) × (takes env v ≡ [])

    var_read : (ms : List Known) (k j i d : ℕ) (env : List Thing) → k0 ≡ k + j → i < k → Agree d ms k env →
        (d3 : ℕ) (env3 : List Thing) → Later d env d3 env3 →
        Stays env3 (var_of d3 (level_of (slice_get ms i))) (j + i)
    var_read [] zero j i d env e s a d3 env3 q = absurd (omega arith)
    var_read [] (suc k) j i d env e s a d3 env3 q = absurd a
    var_read (l ∷ ms) zero j i d env e s a d3 env3 q = absurd a
    var_read (l ∷ ms) (suc k) j zero d env e s a d3 env3 q =
        let z : j + 0 ≡ k0 - suc k = omega (arith, e) in
        let there = thing_nth env3 (d3 - suc l.level) (Is k) (q l.level (Is k) a.0).1 in
        subst (λ x. Means os x k0 (HVar (j + 0)) × (tuple_of x ≡ [])) (sym there) (ap HVar z, refl)
    var_read (l ∷ ms) (suc k) j (suc i) d env e s a d3 env3 q =
        let z : suc j + i ≡ j + suc i = omega arith in
        subst (λ n. Stays env3 (var_of d3 (level_of (slice_get ms i))) n) z
        (var_read ms k (suc j) i d env (omega (arith, e)) (omega arith) a.1 d3 env3 q)

    record Comes (d : ℕ) (env : List Thing) (pre : ATm → ATm) (d2 : ℕ) (Q : List Thing → List Thing → Type 0) :
        Type 0 where
      vars : List Thing
      taken : List Thing
      shows : (made next : List Thing) → next ≡ made ++ taken → (rest : ATm) (h : HTm) →
          Stands_t (scope ds os vars k0) next rest Any h → Stands_t (scope ds os env k0) made (pre rest) Any h
      later : Later d env d2 vars
      good : Q taken vars

    -- nothing is made
    as_is : (made next : List Thing) → next ≡ made ++ [] → (env : List Thing) (rest : ATm) (h : HTm) →
        Stands_t (scope ds os env k0) next rest Any h → Stands_t (scope ds os env k0) made rest Any h
    as_is made next e env rest h x = subst (λ m. Stands_t (scope ds os env k0) m rest Any h) (e ∙ append-nil made) x

    -- the fields after those of vs
    abbrev then_all : List HVal → HVals → List HVal
    then_all fs NoHVals = fs
    then_all fs (MoreHVals v vs) = then_all (fs ++ v ∷ []) vs

    abbrev onto_all : HVals → HVals → HVals
    onto_all NoHVals ws = ws
    onto_all (MoreHVals v vs) ws = MoreHVals v (onto_all vs ws)

    onto_none : (vs : HVals) → onto_all vs NoHVals ≡ vs
    onto_none NoHVals = refl
    onto_none (MoreHVals v vs) = ap (MoreHVals v) (onto_none vs)

    at_last : (fs : List HVal) (f : HVal) (ws : HVals) →
        onto_all (listed (fs ++ f ∷ [])) ws ≡ onto_all (listed fs) (MoreHVals f ws)
    at_last [] f ws = refl
    at_last (x ∷ fs) f ws = ap (MoreHVals x) (at_last fs f ws)

    then_is : (vs : HVals) (fs : List HVal) → listed (then_all fs vs) ≡ onto_all (listed fs) vs
    then_is NoHVals fs = sym (onto_none (listed fs))
    then_is (MoreHVals v vs) fs = then_is vs (fs ++ v ∷ []) ∙ at_last fs v vs

    record Filled (l : ℕ) (fs : List HVal) (env : List Thing) (v : HVal) (vs : HVals) (done taken : List Thing)
        (pre : ATm → ATm) : Type 0 where
      vars : List Thing
      number : ℕ
      shows : (made left next : List Thing) → made ≡ left ++ (done ++ taken) →
          next ≡ left ++ Made number k0 (then_all fs (MoreHVals v vs)) ∷ [] →
          (rest : ATm) (h : HTm) →
          Stands_t (scope ds os (Made number k0 (then_all fs (MoreHVals v vs)) ∷ vars) k0) next rest Any h →
          Stands_t (scope ds os (Gone ∷ env) k0) made (pre rest) (Filling fs (many vs) done) h
      later : Later (suc l) (Gone ∷ env) (suc (final l (MoreHVals v vs)))
          (Made number k0 (then_all fs (MoreHVals v vs)) ∷ vars)

    filled : (vs : HVals) (v : HVal) (b e l i : ℕ) (fs : List HVal) (env : List Thing) (done taken : List Thing) →
        i ≡ suc (length fs) → Reads b e (MoreHVals v vs) (suc l) taken (Gone ∷ env) →
        Filled l fs env v vs done taken (fill ls b e l i (MoreHVals v vs))
    filled NoHVals v b e l i fs env done taken q r =
        let old = Gone ∷ env in
        let new = Made (length old) k0 (fs ++ v ∷ []) in
        let first = r.3 (suc l) old (λ p y a. a) in
        let same : takes old (val ls b e (suc l) v) ≡ taken =
        first.1 ∙ sym (append-nil r.0) ∙ sym (ap (λ ys. r.0 ++ ys) r.4) ∙ sym r.2 in
        record {
          vars = old;
          number = length old;
          shows = λ made left next m n rest h x. (
            v,
            left,
            refl,
            q,
            first.0,
            m ∙ ap (λ xs. left ++ (done ++ xs)) (sym same),
            subst (λ z. Stands_t (scope ds os (new ∷ old) k0) z rest Any h) n x,
          );
          later = λ p x a. at_more (suc l) old p x new a;
        }
    filled (MoreHVals u us) v b e l i fs env done taken q r =
        let old = Gone ∷ env in
        let b1 = n_v ls b v in
        let e1 = v_next ls e v in
        let on : Later (suc l) old (suc (suc l)) (Gone ∷ old) = λ p x a. at_more (suc l) old p x Gone a in
        let n : suc i ≡ suc (length (fs ++ v ∷ [])) = omega (arith, q, length-append fs (v ∷ [])) in
        let first = r.3 (suc l) old (λ p y a. a) in
        let w = val ls b e (suc l) v in
        let done1 = done ++ takes old w in
        let more = reads_later (MoreHVals u us) b1 e1 (suc l) (suc (suc l)) r.1 old (Gone ∷ old) on r.4 in
        let z = filled us u b1 e1 (suc l) (suc i) (fs ++ v ∷ []) old done1 r.1 n more in
        let same : done ++ taken ≡ done1 ++ r.1 =
        ap (λ xs. done ++ xs) (r.2 ∙ ap (λ xs. xs ++ r.1) (sym first.1)) ∙ sym (append_assoc done (takes old w) r.1) in
        record {
          vars = z.vars;
          number = z.number;
          shows = λ made left next m p rest h x.
              (v, refl, q, first.0, z.shows made left next (m ∙ ap (λ xs. left ++ xs) same) p rest h x);
          later = λ p x a. z.later p x (on p x a);
        }

    -- a tuple, where it is a tuple of constants or not
    abbrev TupleComes : HVals → ℕ → ℕ → List Thing → Bool → Type 0
    TupleComes vs b d env c =
        Comes d env (λ rest.
        pick c rest (pre_vs ks g ls b d vs
        (Let (Malloc (v_types ks g vs)) (fill ls b d (vs_next ls d vs) 1 vs rest))))
        (pick c d (suc (final (vs_next ls d vs) vs)))
        (λ taken env2. (d3 : ℕ) (env3 : List Thing) → Later (pick c d (suc (final (vs_next ls d vs) vs))) env2 d3 env3 →
        Stands_v (scope ds os env3 k0) (pick c (Data (n_vs ls b vs)) (Var (d3 - suc (final (vs_next ls d vs) vs))))
        (HTuple vs)
        × (takes env3 (pick c (Data (n_vs ls b vs)) (Var (d3 - suc (final (vs_next ls d vs) vs)))) ≡ taken))

    tuple_comes : (vs : HVals) (b d : ℕ) (env : List Thing) →
        Comes d env (pre_vs ks g ls b d vs) (vs_next ls d vs) (Reads b d vs (vs_next ls d vs)) →
        Told ds ks g ls os known b (HTuple vs) → TupleComes vs b d env (are_const ls vs)
    tuple_comes vs b d env f (inl c) = subst (TupleComes vs b d env) (sym c.yes) (record {
      vars = env;
      taken = [];
      shows = λ made next e rest h x. as_is made next e env rest h x;
      later = λ p x q. q;
      good = λ d3 env3 q. ((vs, c.value, refl, c.is, c.carries), refl);
    })
    tuple_comes NoHVals b d env f (inr n) = absurd (true≢false n.0)
    tuple_comes (MoreHVals v us) b d env f (inr n) =
        let vs = MoreHVals v us in
        let l = vs_next ls d vs in
        let on : Later l f.vars (suc l) (Gone ∷ f.vars) = λ p x q. at_more l f.vars p x Gone q in
        let more = reads_later vs b d l (suc l) f.taken f.vars (Gone ∷ f.vars) on f.good in
        let z = filled us v b d l 1 [] f.vars [] f.taken refl more in
        let full = Made z.number k0 (then_all [] vs) in
        subst (TupleComes vs b d env) (sym n.0) (record {
          vars = full ∷ z.vars;
          taken = full ∷ [];
          shows = λ made next e rest h x.
              f.shows made (made ++ f.taken) refl (Let (Malloc (v_types ks g vs)) (fill ls b d l 1 vs rest)) h
              (inl (many us, many_types ks g vs, z.shows (made ++ f.taken) made next refl e rest h x));
          later = λ p x q. z.later p x (on p x (f.later p x q));
          good = λ d3 env3 q.
              let there = thing_nth env3 (d3 - suc (final l vs)) full
              (q (final l vs) full (at_new (final l vs) z.vars full)).1 in
              subst (λ x. Means os x k0 (HTuple vs) × (tuple_of x ≡ full ∷ [])) (sym there)
              ((refl, ap HTuple (sym (then_is vs [])), n.1), refl);
        })

    mutual
      comes_v : (v : HVal) (b d : ℕ) (env : List Thing) → Within ds b (tuples_v os v) → InV k0 v → Agree d ls k0 env →
          Comes d env (pre_v ks g ls b d v) (v_next ls d v) (Read b d v (v_next ls d v))
      comes_v (HVar i) b d env wi s a = record {
        vars = env;
        taken = [];
        shows = λ made next e rest h x. as_is made next e env rest h x;
        later = λ p x q. q;
        good = λ d3 env3 q. (let z : k0 ≡ k0 + 0 = omega arith in let y : 0 + i ≡ i = omega arith in
            subst (λ n. Stays env3 (var_of d3 (level_of (slice_get ls i))) n) y
            (var_read ls k0 0 i d env z s a d3 env3 q));
      }
      comes_v (HInt n) b d env wi s a = record {
        vars = env;
        taken = [];
        shows = λ made next e rest h x. as_is made next e env rest h x;
        later = λ p x q. q;
        good = λ d3 env3 q. (refl, refl);
      }
      comes_v (HLabel l) b d env wi s a = record {
        vars = env;
        taken = [];
        shows = λ made next e rest h x. as_is made next e env rest h x;
        later = λ p x q. q;
        good = λ d3 env3 q. (refl, refl);
      }
      comes_v (HTuple vs) b d env wi s a =
          tuple_comes vs b d env
          (comes_vs vs b d env (front ds b (tuples_vs os vs) (one_if (constant os (HTuple vs))) wi) s a)
          (fact ds ks g ls os known (HTuple vs) b wi).told
      comes_v (HApply v ts) b d env wi s a =
          let r = comes_v v b d env wi s a in
          record {
            vars = r.vars;
            taken = r.taken;
            shows = r.shows;
            later = r.later;
            good = λ d3 env3 q. (let x = r.good d3 env3 q in ((v, ts, refl, refl, x.0), x.1));
          }
      comes_v (HPack h v u) b d env wi s a =
          let r = comes_v v b d env wi s a in
          record {
            vars = r.vars;
            taken = r.taken;
            shows = r.shows;
            later = r.later;
            good = λ d3 env3 q. (let x = r.good d3 env3 q in ((h, v, u, refl, refl, refl, x.0), x.1));
          }

      comes_vs : (vs : HVals) (b d : ℕ) (env : List Thing) → Within ds b (tuples_vs os vs) → InVs k0 vs →
          Agree d ls k0 env → Comes d env (pre_vs ks g ls b d vs) (vs_next ls d vs) (Reads b d vs (vs_next ls d vs))
      comes_vs NoHVals b d env wi s a = record {
        vars = env;
        taken = [];
        shows = λ made next e rest h x. as_is made next e env rest h x;
        later = λ p x q. q;
        good = refl;
      }
      comes_vs (MoreHVals v vs) b d env wi s a =
          let b1 = n_v ls b v in
          let us = tuples_v os v in
          let ws = tuples_vs os vs in
          let w0 = front ds b us ws wi in
          let x = comes_v v b d env w0 s.0 a in
          let d1 = v_next ls d v in
          let y = comes_vs vs b1 d1 x.vars (back ds b b1 us ws (fact ds ks g ls os known v b w0).long wi) s.1
          (agree_later ls k0 d d1 env x.vars x.later a) in
          record {
            vars = y.vars;
            taken = x.taken ++ y.taken;
            shows = λ made next e rest h q.
                x.shows made (made ++ x.taken) refl (pre_vs ks g ls b1 d1 vs rest) h
                (y.shows (made ++ x.taken) next (e ∙ sym (append_assoc made x.taken y.taken)) rest h q);
            later = λ p u q. y.later p u (x.later p u q);
            good = (x.taken, y.taken, refl, λ d3 env3 q. x.good d3 env3 (λ p u a2. q p u (y.later p u a2)), y.good);
          }

    -- two values, one after the other
    record Pair (v w : HVal) (b d : ℕ) (env : List Thing) : Type 0 where
      one : Comes d env (pre_v ks g ls b d v) (v_next ls d v) (Read b d v (v_next ls d v))
      two : Comes (v_next ls d v) one.vars (pre_v ks g ls (n_v ls b v) (v_next ls d v) w) (v_next ls (v_next ls d v) w)
          (Read (n_v ls b v) (v_next ls d v) w (v_next ls (v_next ls d v) w))

    comes_two : (v w : HVal) (b d : ℕ) (env : List Thing) → Within ds b (tuples_v os v ++ tuples_v os w) →
        InV k0 v × InV k0 w → Agree d ls k0 env → Pair v w b d env
    comes_two v w b d env wi s a =
        let us = tuples_v os v in
        let ws = tuples_v os w in
        let w0 = front ds b us ws wi in
        let x = comes_v v b d env w0 s.0 a in
        let b1 = n_v ls b v in
        let d1 = v_next ls d v in
        record {
          one = x;
          two = comes_v w b1 d1 x.vars (back ds b b1 us ws (fact ds ks g ls os known v b w0).long wi) s.1
              (agree_later ls k0 d d1 env x.vars x.later a);
        }

  further : (ls : List Known) (l : Known) (k d d2 : ℕ) (env vars : List Thing) → l.level ≡ d2 → Later d env d2 vars →
      Agree d ls k env → Agree (suc d2) (l ∷ ls) (suc k) (Is k ∷ vars)
  further ls l k d d2 env vars e q a = (
    subst (λ m. At (suc d2) (Is k ∷ vars) m (Is k)) (sym e) (at_new d2 vars (Is k)),
    agree_later ls k d (suc d2) env (Is k ∷ vars) (λ p u b. at_more d2 vars p u (Is k) (q p u b)) a,
  )

  module _ (ks : HBlks) where
    abbrev Standing : HTm → List ATy → List Known → Constants → ℕ → ℕ → ℕ → List Thing → Type 0
    Standing t g ls os k b d env = Stands_t (scope ds os env k) [] (alloc_t ks g ls b d t) Any t

    stands_is : (t : HTm) (g : List ATy) (ls : List Known) (os : Constants) (k b d : ℕ) (env : List Thing) →
        Within ds b (tuples_t os t) → AgreeK ds ls os → InT k t → Agree d ls k env → Standing t g ls os k b d env
    stands_is (HLet (HName v) t) g ls os k b d env wi kn s a =
        let e : HDecl = HName v in
        let w0 = front ds b (tuples_d os e) (tuples_t (named_by os e ∷ os) t) wi in
        let f = fact_d ds ks g ls os kn e b w0 in
        let w1 = back ds b (n_d ls b e) (tuples_d os e) (tuples_t (named_by os e ∷ os) t) f.long wi in
        let l = known_of ls b d e in
        let x = comes_v k ks g ls os kn v b d env w0 s.0 a in
        let d2 = v_next ls d v in
        let r = x.good d2 x.vars (λ p u q. q) in
        x.shows [] x.taken refl _ _ (
          v,
          t,
          refl,
          r.0,
          r.1,
          stands_is t (d_types ks g e) (l ∷ ls) (constant os v ∷ os) (suc k) (n_d ls b e)
              (suc d2) (Is k ∷ x.vars) w1 (f.same, kn) s.1 (further ls l k d d2 env x.vars refl x.later a),
        )
    stands_is (HLet (HProj i v) t) g ls os k b d env wi kn s a =
        let e : HDecl = HProj i v in
        let w0 = front ds b (tuples_d os e) (tuples_t (named_by os e ∷ os) t) wi in
        let f = fact_d ds ks g ls os kn e b w0 in
        let w1 = back ds b (n_d ls b e) (tuples_d os e) (tuples_t (named_by os e ∷ os) t) f.long wi in
        let l = known_of ls b d e in
        let x = comes_v k ks g ls os kn v b d env w0 s.0 a in
        let d2 = v_next ls d v in
        let r = x.good d2 x.vars (λ p u q. q) in
        x.shows [] x.taken refl _ _ (
          v,
          t,
          inl refl,
          r.0,
          r.1,
          stands_is t (d_types ks g e) (l ∷ ls) (None ∷ os) (suc k) (n_d ls b e) (suc d2)
              (Is k ∷ x.vars) w1 (tt, kn) s.1 (further ls l k d d2 env x.vars refl x.later a),
        )
    stands_is (HLet (HArith op v w) t) g ls os k b d env wi kn s a =
        let e : HDecl = HArith op v w in
        let w0 = front ds b (tuples_d os e) (tuples_t (named_by os e ∷ os) t) wi in
        let f = fact_d ds ks g ls os kn e b w0 in
        let w1 = back ds b (n_d ls b e) (tuples_d os e) (tuples_t (named_by os e ∷ os) t) f.long wi in
        let l = known_of ls b d e in
        let both = comes_two k ks g ls os kn v w b d env w0 s.0 a in
        let x = both.one in
        let y = both.two in
        let d1 = v_next ls d v in
        let d2 = v_next ls d1 w in
        let rest = alloc_t ks (d_types ks g e) (l ∷ ls) (n_d ls b e) (suc d2) t in
        let end = Let (dcl ls b d e) rest in
        let r = x.good d2 y.vars y.later in
        let s2 = y.good d2 y.vars (λ p u q. q) in
        x.shows [] x.taken refl (pre_v ks g ls (n_v ls b v) d1 w end) _
        (y.shows x.taken (x.taken ++ y.taken) refl end _ (
          v,
          w,
          t,
          refl,
          r.0,
          s2.0,
          ap₂ ◌++◌ r.1 s2.1,
          stands_is t (d_types ks g e) (l ∷ ls) (None ∷ os) (suc k) (n_d ls b e) (suc d2) (Is k ∷ y.vars) w1
              (tt, kn) s.1 (further ls l k d d2 env y.vars refl (λ p u q. y.later p u (x.later p u q)) a),
        ))
    stands_is (HLet (HUnpack v) t) g ls os k b d env wi kn s a =
        let e : HDecl = HUnpack v in
        let w0 = front ds b (tuples_d os e) (tuples_t (named_by os e ∷ os) t) wi in
        let f = fact_d ds ks g ls os kn e b w0 in
        let w1 = back ds b (n_d ls b e) (tuples_d os e) (tuples_t (named_by os e ∷ os) t) f.long wi in
        let l = known_of ls b d e in
        let x = comes_v k ks g ls os kn v b d env w0 s.0 a in
        let d2 = v_next ls d v in
        let r = x.good d2 x.vars (λ p u q. q) in
        x.shows [] x.taken refl _ _ (
          v,
          t,
          refl,
          r.0,
          r.1,
          stands_is t (d_types ks g e) (l ∷ ls) (None ∷ os) (suc k) (n_d ls b e) (suc d2)
              (Is k ∷ x.vars) w1 (tt, kn) s.1 (further ls l k d d2 env x.vars refl x.later a),
        )
    stands_is (HLet (HCell v) t) g ls os k b d env wi kn s a =
        let e : HDecl = HCell v in
        let w0 = front ds b (tuples_d os e) (tuples_t (named_by os e ∷ os) t) wi in
        let f = fact_d ds ks g ls os kn e b w0 in
        let w1 = back ds b (n_d ls b e) (tuples_d os e) (tuples_t (named_by os e ∷ os) t) f.long wi in
        let l = known_of ls b d e in
        let x = comes_v k ks g ls os kn v b d env w0 s.0 a in
        let d1 = v_next ls d v in
        let on : Later d1 x.vars (suc d1) (Gone ∷ x.vars) = λ p u q. at_more d1 x.vars p u Gone q in
        let rest = alloc_t ks (d_types ks g e) (l ∷ ls) (n_d ls b e) (suc (suc d1)) t in
        let r = x.good (suc d1) (Gone ∷ x.vars) on in
        x.shows [] x.taken refl (Let (Malloc (MoreATys (v_type ks g v) NoATys)) (Let (dcl ls b d e) rest)) _ (inr (
          refl,
          (
            v,
            t,
            refl,
            refl,
            refl,
            r.0,
            r.1,
            stands_is t (d_types ks g e) (l ∷ ls) (None ∷ os) (suc k) (n_d ls b e) (suc (suc d1))
                (Is k ∷ Gone ∷ x.vars) w1 (tt, kn) s.1
                (further ls l k d (suc d1) env (Gone ∷ x.vars) refl (λ p u q. on p u (x.later p u q)) a),
          ),
        ))
    stands_is (HLet (HGet v) t) g ls os k b d env wi kn s a =
        let e : HDecl = HGet v in
        let w0 = front ds b (tuples_d os e) (tuples_t (named_by os e ∷ os) t) wi in
        let f = fact_d ds ks g ls os kn e b w0 in
        let w1 = back ds b (n_d ls b e) (tuples_d os e) (tuples_t (named_by os e ∷ os) t) f.long wi in
        let l = known_of ls b d e in
        let x = comes_v k ks g ls os kn v b d env w0 s.0 a in
        let d2 = v_next ls d v in
        let r = x.good d2 x.vars (λ p u q. q) in
        x.shows [] x.taken refl _ _ (
          v,
          t,
          inr (refl, refl),
          r.0,
          r.1,
          stands_is t (d_types ks g e) (l ∷ ls) (None ∷ os) (suc k) (n_d ls b e)
              (suc d2) (Is k ∷ x.vars) w1 (tt, kn) s.1 (further ls l k d d2 env x.vars refl x.later a),
        )
    stands_is (HLet (HSet v w) t) g ls os k b d env wi kn s a =
        let e : HDecl = HSet v w in
        let w0 = front ds b (tuples_d os e) (tuples_t (named_by os e ∷ os) t) wi in
        let f = fact_d ds ks g ls os kn e b w0 in
        let w1 = back ds b (n_d ls b e) (tuples_d os e) (tuples_t (named_by os e ∷ os) t) f.long wi in
        let l = known_of ls b d e in
        let both = comes_two k ks g ls os kn v w b d env w0 s.0 a in
        let x = both.one in
        let y = both.two in
        let d1 = v_next ls d v in
        let d2 = v_next ls d1 w in
        let on : Later d2 y.vars (suc d2) (Gone ∷ y.vars) = λ p u q. at_more d2 y.vars p u Gone q in
        let rest = alloc_t ks (d_types ks g e) (l ∷ ls) (n_d ls b e) (suc (suc d2)) t in
        let end = Let (Init (val ls b d d2 v) 1 (val ls (n_v ls b v) d1 d2 w)) (Let (Malloc NoATys) rest) in
        let r = x.good d2 y.vars y.later in
        let s2 = y.good d2 y.vars (λ p u q. q) in
        x.shows [] x.taken refl (pre_v ks g ls (n_v ls b v) d1 w end) _
        (y.shows x.taken (x.taken ++ y.taken) refl end _ (
          v,
          w,
          t,
          refl,
          refl,
          r.0,
          s2.0,
          ap₂ ◌++◌ r.1 s2.1,
          (
            refl,
            stands_is t (d_types ks g e) (l ∷ ls) (None ∷ os) (suc k) (n_d ls b e) (suc (suc d2))
                (Is k ∷ Gone ∷ y.vars) w1 (tt, kn) s.1
                (further ls l k d (suc d2) env (Gone ∷ y.vars) refl (λ p u q. on p u (y.later p u (x.later p u q))) a),
          ),
        ))
    stands_is (HCall f ts vs) g ls os k b d env wi kn s a =
        let us = tuples_v os f in
        let ws = tuples_vs os vs in
        let w0 = front ds b us ws wi in
        let x = comes_v k ks g ls os kn f b d env w0 s.0 a in
        let b1 = n_v ls b f in
        let d1 = v_next ls d f in
        let y = comes_vs k ks g ls os kn vs b1 d1 x.vars (back ds b b1 us ws (fact ds ks g ls os kn f b w0).long wi)
        s.1 (agree_later ls k d d1 env x.vars x.later a) in
        let d2 = vs_next ls d1 vs in
        let end = Call (val ls b d d2 f) (atypes ts) (vals ls b1 d1 d2 vs) in
        let r = x.good d2 y.vars y.later in
        let s2 = all_read k ks g ls os kn vs b1 d1 d2 y.taken y.vars y.good in
        x.shows [] x.taken refl (pre_vs ks g ls b1 d1 vs end) _
        (y.shows x.taken (x.taken ++ y.taken) refl end _ (f, ts, vs, refl, refl, r.0, s2.0, ap₂ ◌++◌ r.1 s2.1))
    stands_is (HIf v t u) g ls os k b d env wi kn s a =
        let us = tuples_v os v in
        let ws = tuples_t os t in
        let zs = tuples_t os u in
        let w0 = front ds b us (ws ++ zs) wi in
        let b1 = n_v ls b v in
        let d1 = v_next ls d v in
        let b2 = n_t ls b1 d1 t in
        let w1 = back ds b b1 us (ws ++ zs) (fact ds ks g ls os kn v b w0).long wi in
        let w2 = front ds b1 ws zs w1 in
        let w3 = back ds b1 b2 ws zs (fact_t ds ks t g ls os b1 d1 kn w2).0 w1 in
        let x = comes_v k ks g ls os kn v b d env w0 s.0 a in
        let a2 = agree_later ls k d d1 env x.vars x.later a in
        let r = x.good d1 x.vars (λ p z q. q) in
        x.shows [] x.taken refl (If0 (val ls b d d1 v) (alloc_t ks g ls b1 d1 t) (alloc_t ks g ls b2 d1 u)) _ (
          v,
          t,
          u,
          refl,
          r.0,
          r.1,
          stands_is t g ls os k b1 d1 x.vars w2 kn s.1 a2,
          stands_is u g ls os k b2 d1 x.vars w3 kn s.2 a2,
        )
    stands_is (HHalt v) g ls os k b d env wi kn s a =
        let x = comes_v k ks g ls os kn v b d env wi s a in
        let d1 = v_next ls d v in
        let r = x.good d1 x.vars (λ p z q. q) in
        x.shows [] x.taken refl (Halt (val ls b d d1 v)) _ (v, refl, r.0, r.1)

    args_agree : (args : CTys) (ls : List Known) (k d : ℕ) (env : List Thing) → Agree d ls k env →
        Agree (arg_depth d args) (arg_levels d ls args) (arg_count k (atypes args)) (arg_things k env (atypes args))
    args_agree NoCTys ls k d env a = a
    args_agree (MoreCTys t ts) ls k d env a =
        args_agree ts (plain d ∷ ls) (suc k) (suc d) (Is k ∷ env)
        (further ls (plain d) k d d env env refl (λ p u q. q) a)

    count_is : (ts : ATys) (k : ℕ) → arg_count k ts ≡ k + arity ts
    count_is NoATys k = omega arith
    count_is (MoreATys t ts) k = count_is ts (suc k) ∙ omega arith

    all_stand : (xs : HBlks) (b : ℕ) → Within ds b (tuples_all xs) → AllGood ks xs →
        Stands_all ds (alloc_all ks b xs) xs
    all_stand [] b wi h = tt
    all_stand (x ∷ xs) b wi h =
        let os = of_args x.args [] in
        let us = tuples_t os x.body in
        let ws = tuples_all xs in
        let w0 = front ds b us ws wi in
        let b1 = n_block b x in
        let w1 = back ds b b1 us ws (fact_block ds ks x b w0).0 wi in
        let s = in_t ks x.owes (cargs_onto x.args []) (arg_count 0 (atypes x.args)) (args_length x.args [] 0 refl)
        x.body h.0.1 in
        let z = stands_is x.body (types_of (atypes x.args) []) (arg_levels 0 [] x.args) os
        (arg_count 0 (atypes x.args)) b (arg_depth 0 x.args) (arg_things 0 [] (atypes x.args)) w0
        (agree_args ds x.args 0 [] [] tt) s (args_agree x.args [] 0 0 [] tt) in
        let n : arg_count 0 (atypes x.args) ≡ arity (atypes x.args) = count_is (atypes x.args) 0 ∙ omega arith in (
          (
            refl,
            refl,
            subst (λ k. Stands_t (scope ds os (arg_things 0 [] (atypes x.args)) k) []
                (alloc_t ks (types_of (atypes x.args) []) (arg_levels 0 [] x.args) b (arg_depth 0 x.args) x.body)
                Any
                x.body) n z,
          ),
          all_stand xs b1 w1 h.1,
        )

-- typed data have the types that are written
has_kinds : (p : AProg) (x : AConsts) → TypedData p x → HasKinds p x
has_kinds p [] h = tt
has_kinds p (c ∷ cs) h = (h.0.0.is, has_kinds p cs h.1)

all_have_kinds : (p : AProg) (xs : List AConsts) → TypedTuples p xs → AllHaveKinds p xs
all_have_kinds p [] h = tt
all_have_kinds p (x ∷ xs) h = (has_kinds p x h.0, all_have_kinds p xs h.1)

pub alloc_stands : AllocTypesKept → AllocStands
alloc_stands typed ks t h =
    let ds = tuples_in ks t in
    let us = tuples_all ks in
    let ws = tuples_t [] t in
    let b = n_all 0 ks in
    let w0 = front ds 0 us ws (whole ds) in
    let f = fact_all ds ks ks 0 w0 in
    let w1 = back ds 0 b us ws f.0 (whole ds) in
    let m = fact_t ds ks t [] [] [] b 0 tt w1 in (
      all_carry ds (data_all ks 0 ks) (data_t ks [] [] b 0 t) us ws f.1 m.1,
      all_have_kinds (alloc_prog ks t) (alloc_data ks t) (typed ks t h).tuples,
      all_stand ds ks ks 0 w0 h.0,
      stands_is ds ks t [] [] [] 0 b 0 [] w1 tt (in_t ks 0 [] 0 refl t h.1) tt,
    )
