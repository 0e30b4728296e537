-- What stands for a hoisted program means the same, wherever that is not stuck.
use Rattle.std.proofs.Common.{◌≡◌, ◌+◌, ℕ, zero, suc, ◌==◌, nat_eq, List, [], ◌∷◌, length, ◌++◌, Option, Some, None}
use Rattle.std.proofs.Common.{refl, sym, ap, ap₂, ◌∙◌, subst, arith, ⊎_elim, append-nil, inl, inr, ◌<◌}
use Rattle.std.proofs.lemmas.Bool.{eqb-true, eq-eqb, ne_eqb, cases_eq}
use Rattle.std.specs.Prelude.{Bool, true, false, map, slice_get, slice_set}
use Rattle.idx_core.specs.Arith.{is_zero}
use Rattle.idx_core.specs.declared.arith.Op.{Op}
use Rattle.calc_core.specs.Ends.{Result, Spent, enters, if_fits, pick, stops}
use Rattle.c_terms.specs.C.{CTys, MoreCTys, NoCTys, ccount}
use Rattle.h_terms.specs.Laws.{HNeverStuck}
use Rattle.h_terms.specs.H.{HVal, HVals, HGet, HSet, HTm, HLet, HBlk}
use Rattle.h_terms.specs.H.{HBlks, block_at}
use Rattle.calc_core.proofs.Ends.{Fine, fine}
use Rattle.calc_core.specs.Words.{WInt, WTuple, WCode, WCell, NoWords, MoreWords, size, onto, field, project, operate}
use Rattle.calc_core.specs.Words.{held, hold, one_more, given, get, set, with_value, at_zero, halt_with}
use Rattle.h_terms.specs.Meaning.{HWord, HWords, hv_value, hvs_value, HEnter, with_block, hopen, hterm, henter, hrun}
use Rattle.a_terms.specs.Meaning as A
use Rattle.a_terms.specs.Tree.{ATys, NoATys, MoreATys, AVal, Var, ADecl, Value, Proj, Arith, Unpack, Malloc, Init, ATm}
use Rattle.a_terms.specs.Tree.{Let, Call, If0, Halt, ABlk, AConsts, arity}
use Rattle.a_laws.specs.Allocate.{alloc_main, alloc_prog, atypes}
use Rattle.a_laws.specs.Constants.{Constants, constant, constant_at, of_args, tuples_in}
use Rattle.a_laws.specs.Stands.{scope, AllocStands, Thing, Is, Gone, listed, made_at, takes, Stands_v, Stands_vs}
use Rattle.a_laws.specs.Stands.{Carries, Any}
use Rattle.a_laws.specs.Stands.{Filling}
use Rattle.a_laws.specs.Stands.{Content}
use Rattle.a_laws.specs.Stands.{Unit_named, Stands_t, Stands_all, arg_things}
use Rattle.a_laws.specs.Statements.{AllocKept, StandingMeansTheSame, ends}
use Rattle.a_laws.proofs.Cells.{cell_holds, held_at, moves_cell, moves_set, stores_cell, stores_grow, stores_set}
use Rattle.a_laws.proofs.Cells.{valid_of}
use Rattle.a_laws.proofs.Rel.{Grows, Moves, Rel, Rels, Stores, fresh, moves_grow, nth_seam, put_seam, rels_grow}
use Rattle.a_laws.proofs.Shown.{Agree, Known, Reads, agree_moves, agree_more, constant_is, known_more, value_reads}
use Rattle.a_laws.proofs.Shown.{values_read}
use Rattle.idx_core.proofs.Lists.{get_front as nth_more}

-- a declared value, where the store and the heap stay as they are
abbrev OptRel : List ℕ → A.AHeap → Option HWord → A.Made → Type 0
OptRel m h None r = Unit {0}
OptRel m h (Some y) r = (w : A.AWord) × (r ≡ A.Gives w h) × Rel m h y w

field_rel : (m : List ℕ) (h : A.AHeap) (i : ℕ) (ys : HWords) (ws : List A.AWord) → Rels m h ys ws →
    OptRel m h (field i ys)
    (A.at_field i (λ j. A.given (slice_get (map Some ws) j) (λ f. A.given f (λ w. A.Gives w h))))
field_rel m h zero NoWords ws r = tt
field_rel m h (suc i) NoWords ws r = tt
field_rel m h zero (MoreWords y ys) ws r = tt
field_rel m h (suc zero) (MoreWords y ys) ws r = rw r.2 (r.0, refl, r.3)
field_rel m h (suc (suc i)) (MoreWords y ys) ws r = rw r.2 (field_rel m h (suc i) ys r.1 r.4)

project_rel : (m : List ℕ) (h : A.AHeap) (i : ℕ) (y : HWord) (w : A.AWord) → Rel m h y w →
    OptRel m h (project i y)
    (A.address (Some w)
    (λ a. A.at_field i
    (λ j. A.given (slice_get h a) (λ t. A.given (slice_get t j) (λ f. A.given f (λ x. A.Gives x h))))))
project_rel m h i (WInt n) w r = tt
project_rel m h zero (WTuple ys) w r = rw r.2 (field_rel m h 0 ys r.1 r.5)
project_rel m h (suc i) (WTuple ys) w r = rw (r.2, r.3) (field_rel m h (suc i) ys r.1 r.5)
project_rel m h i (WCode l env) w r = tt
project_rel m h i (WCell p) w r = tt

compute_rel : (m : List ℕ) (h : A.AHeap) (op : Op) (y z : HWord) (v w : A.AWord) → Rel m h y v → Rel m h z w →
    OptRel m h (operate op y z)
    (A.decl (Arith op (Rattle.a_terms.specs.Tree.Var 0) (Rattle.a_terms.specs.Tree.Var 1)) (v ∷ w ∷ []) h)
compute_rel m h op (WInt x) (WInt u) v w r q = rw (r, q) (_, refl, refl)
compute_rel m h op (WInt x) (WTuple ws) v w r q = tt
compute_rel m h op (WInt x) (WCode l env) v w r q = tt
compute_rel m h op (WInt x) (WCell p) v w r q = tt
compute_rel m h op (WTuple vs) z v w r q = tt
compute_rel m h op (WCode l env) z v w r q = tt
compute_rel m h op (WCell p) z v w r q = tt

abbrev hgot : HWord → HWords → Option HWord
hgot (WInt n) st = None
hgot (WTuple ys) st = None
hgot (WCode l env) st = None
hgot (WCell p) st = held p st

got_is : (y : HWord) (st : HWords) → get y st ≡ given (hgot y st) st
got_is (WInt n) st = refl
got_is (WTuple ys) st = refl
got_is (WCode l env) st = refl
got_is (WCell p) st = refl

get_rel : (D : List AConsts) (m : List ℕ) (h : A.AHeap) (st : HWords) (y : HWord) (w : A.AWord) → Stores D m h st →
    Rel m h y w →
    OptRel m h (hgot y st)
    (A.address (Some w)
    (λ a. A.given (slice_get h a) (λ t. A.given (slice_get t 0) (λ f. A.given f (λ x. A.Gives x h)))))
get_rel D m h st (WInt n) w s r = tt
get_rel D m h st (WTuple ys) w s r = tt
get_rel D m h st (WCode l env) w s r = tt
get_rel D m h st (WCell p) w s r = go (held p st) refl
  where
    go : (o : Option HWord) → held p st ≡ o →
        OptRel m h o
        (A.address (Some w)
        (λ a. A.given (slice_get h a) (λ t. A.given (slice_get t 0) (λ f. A.given f (λ x. A.Gives x h)))))
    go None e = tt
    go (Some z) e = let q = held_at D m h st p r.0 z s r.2 e in rw (r.1, q.1) (q.0, refl, q.2)

init_step : (h : A.AHeap) (a i : ℕ) (env : List A.AWord) (start es : List (Option A.AWord)) (v : AVal) (w : A.AWord) →
    a ≡ length h → i ≡ length start → A.value (A.ZTuple a ∷ env) v ≡ Some w →
    A.decl (Init (Var 0) (suc i) v) (A.ZTuple a ∷ env) (h ++ (start ++ None ∷ es) ∷ []) ≡ A.Gives (A.ZTuple a)
    (h ++ (start ++ Some w ∷ es) ∷ [])
init_step h a i env start es v w e f r =
    rw (r, nth_seam h [] (start ++ None ∷ es) a e, nth_seam start es None i f)
    (ap (λ t. A.Gives (A.ZTuple a) (slice_set (h ++ (start ++ None ∷ es) ∷ []) a t))
    (put_seam start es None (Some w) i f)
    ∙ ap (A.Gives (A.ZTuple a)) (put_seam h [] (start ++ None ∷ es) (start ++ Some w ∷ es) a e))

-- n fields that are not filled
abbrev nones : ℕ → List (Option A.AWord)
nones zero = []
nones (suc n) = None ∷ nones n

empties_are : (ts : ATys) → A.empties ts ≡ nones (arity ts)
empties_are NoATys = refl
empties_are (MoreATys t ts) = ap (λ q. None ∷ q) (empties_are ts)

seam_moves : (ws : List A.AWord) (w : A.AWord) (es : List (Option A.AWord)) →
    map Some ws ++ Some w ∷ es ≡ map Some (ws ++ w ∷ []) ++ es
seam_moves [] w es = refl
seam_moves (x ∷ ws) w es = ap (λ q. Some x ∷ q) (seam_moves ws w es)

-- the fields that are filled, and one more
module _ (m : List ℕ) (h : A.AHeap) (ys : HWords) where
  filled_long : (fs : List HVal) (ws : List A.AWord) → Rels m h (hvs_value (listed fs) ys) ws →
      length fs ≡ length (map Some ws)
  filled_long [] ws r = sym (ap (λ z. length (map Some z)) r)
  filled_long (f ∷ fs) ws r =
      ap suc (filled_long fs r.1 r.4) ∙ sym (ap (λ z. length (map Some z)) r.2)

  filled_more : (fs : List HVal) (ws : List A.AWord) (f : HVal) (w : A.AWord) →
      Rels m h (hvs_value (listed fs) ys) ws → Rel m h (hv_value f ys) w →
      Rels m h (hvs_value (listed (fs ++ f ∷ [])) ys) (ws ++ w ∷ [])
  filled_more [] ws f w r q =
      subst (λ z. Rels m h (MoreWords (hv_value f ys) NoWords) (z ++ w ∷ [])) (sym r) (w, [], refl, q, refl)
  filled_more (g ∷ fs) ws f w r q =
      let more = filled_more fs r.1 f w r.4 q in
      subst (λ z. Rels m h (hvs_value (listed (g ∷ (fs ++ f ∷ []))) ys) (z ++ w ∷ [])) (sym r.2)
      (r.0, r.1 ++ w ∷ [], refl, r.3, more)

-- where the heap and the store of two runs agree, and their variables
record At (D : List AConsts) (m : List ℕ) (h : A.AHeap) (st : HWords) (os : Constants) (env : List Thing) (k : ℕ)
    (ys : HWords) (vars : List A.AWord) : Type 0 where
  stores : Stores D m h st
  agree : Agree m h k ys env vars
  known : Known os ys

module _ (D : List AConsts) (ds : List HVal) (carried : Carries ds D ds) (ks : HBlks) where
  -- one more variable on both sides
  next_at : (m : List ℕ) (h : A.AHeap) (st : HWords) (os : Constants) (env : List Thing) (k : ℕ) (ys : HWords)
      (vars : List A.AWord) → At D m h st os env k ys vars → (o : Option HVal) (y : HWord) (w : A.AWord) →
      ((c : HVal) → o ≡ Some c → y ≡ hv_value c NoWords) → Rel m h y w →
      At D m h st (o ∷ os) (Is k ∷ env) (suc k) (MoreWords y ys) (w ∷ vars)
  next_at m h st os env k ys vars a o y w f r = record {
    stores = a.stores;
    agree = agree_more m h k ys y w env vars r a.agree;
    known = known_more os ys o y a.known f;
  }

  -- a variable that stands for nothing
  gone_at : (m : List ℕ) (h : A.AHeap) (st : HWords) (os : Constants) (env : List Thing) (k : ℕ) (ys : HWords)
      (vars : List A.AWord) → At D m h st os env k ys vars → (w : A.AWord) →
      At D m h st os (Gone ∷ env) k ys (w ∷ vars)
  gone_at m h st os env k ys vars a w = record { stores = a.stores; agree = (tt, a.agree); known = a.known }

  moved_at : (m m2 : List ℕ) (h h2 : A.AHeap) (st st2 : HWords) (os : Constants) (env : List Thing) (k : ℕ)
      (ys : HWords) (vars : List A.AWord) → At D m h st os env k ys vars → Moves m h m2 h2 → Stores D m2 h2 st2 →
      At D m2 h2 st2 os env k ys vars
  moved_at m m2 h h2 st st2 os env k ys vars a g s =
      record { stores = s; agree = agree_moves m m2 h h2 k ys env vars g a.agree; known = a.known }

  read_v : (m : List ℕ) (h : A.AHeap) (st : HWords) (os : Constants) (env : List Thing) (k : ℕ) (ys : HWords)
      (vars : List A.AWord) → At D m h st os env k ys vars → (v : AVal) (w : HVal) → Stands_v (scope ds os env k) v w →
      Reads m h vars v (hv_value w ys)
  read_v m h st os env k ys vars a v w s =
      value_reads m h D ds carried a.stores.kept os k ys a.known env vars a.agree v w s

  read_vs : (m : List ℕ) (h : A.AHeap) (st : HWords) (os : Constants) (env : List Thing) (k : ℕ) (ys : HWords)
      (vars : List A.AWord) → At D m h st os env k ys vars → (vs : List AVal) (ws : HVals) →
      Stands_vs (scope ds os env k) vs ws → (xs : List A.AWord) × (A.values vars vs ≡ Some xs) × Rels m h
      (hvs_value ws ys) xs
  read_vs m h st os env k ys vars a vs ws s =
      values_read m h D ds carried a.stores.kept os k ys a.known env vars a.agree vs ws s

  none_is : (y : HWord) (c : HVal) → None ≡ Some c → y ≡ hv_value c NoWords
  none_is y c e = absurd (clash e)
    where
      clash : None ≡ Some c → ⊥
      clash x = cc

  branch_step : (m : List ℕ) (h : A.AHeap) (log : List ℕ) (y : HWord) (w : A.AWord) (a b : A.Result) (r s : Result) →
      Rel m h y w → (Fine r.end → a ≡ ends log r) → (Fine s.end → b ≡ ends log s) →
      Fine (at_zero y r s).end → A.branch (Some w) log a b ≡ ends log (at_zero y r s)
  branch_step m h log (WInt n) w a b r s q e f ok = rw q (picked (is_zero n) ok)
    where
      picked : (z : Bool) → Fine (pick z r s).end → A.pick z a b ≡ ends log (pick z r s)
      picked true k = e k
      picked false k = f k
  branch_step m h log (WTuple ys) w a b r s q e f ok = absurd ok
  branch_step m h log (WCode l env) w a b r s q e f ok = absurd ok
  branch_step m h log (WCell p) w a b r s q e f ok = absurd ok

  halt_step : (m : List ℕ) (h : A.AHeap) (log : List ℕ) (y : HWord) (w : A.AWord) → Rel m h y w →
      A.halt_with (Some w) log ≡ ends log (halt_with y)
  halt_step m h log (WInt n) w q = rw q refl
  halt_step m h log (WTuple ys) w q = rw q.2 refl
  halt_step m h log (WCode l env) w q = rw q refl
  halt_step m h log (WCell p) w q = rw q.1 refl

  -- a call of the allocated program ends as one of the hoisted program
  abbrev Follows : HEnter → A.Next → Type 0
  Follows he next = (l : ℕ) (ys : HWords) (ws : List A.AWord) (m : List ℕ) (h : A.AHeap) (st : HWords) (log : List ℕ) →
      Rels m h ys ws → Stores D m h st → Fine (hopen ks he (WCode l NoWords) ys st).end →
      next l ws h log ≡ ends log (hopen ks he (WCode l NoWords) ys st)

  call_step : (he : HEnter) (next : A.Next) → Follows he next →
      (m : List ℕ) (h : A.AHeap) (st : HWords) (log : List ℕ) (y : HWord) (w : A.AWord) (ys : HWords)
      (ws : List A.AWord) → Rel m h y w → Rels m h ys ws → Stores D m h st → Fine (hopen ks he y ys st).end →
      A.call_of (Some w) log (λ l. next l ws h log) ≡ ends log (hopen ks he y ys st)
  call_step he next f m h st log (WInt n) w ys ws r q s ok = absurd ok
  call_step he next f m h st log (WTuple zs) w ys ws r q s ok = absurd ok
  call_step he next f m h st log (WCell p) w ys ws r q s ok = absurd ok
  call_step he next f m h st log (WCode l env) w ys ws r q s ok = rw r (f l ys ws m h st log q s ok)

  module _ (he : HEnter) (next : A.Next) (follows : Follows he next) where
    -- the two go on alike
    abbrev Same : ATm → List A.AWord → A.AHeap → List ℕ → HTm → HWords → HWords → Type 0
    Same a vars h log t ys st =
        Fine (hterm ks he t ys st).end → A.term next a vars h log ≡ ends log (hterm ks he t ys st)

    -- a declaration that leaves heap and store as they are
    step : (m : List ℕ) (h : A.AHeap) (vars : List A.AWord) (log : List ℕ) (ys st : HWords) (t : HTm) (d : ADecl)
        (e : ATm) (o : Option HWord) → OptRel m h o (A.decl d vars h) →
        ((y : HWord) (w : A.AWord) → Rel m h y w → Same e (w ∷ vars) h log t (MoreWords y ys) st) →
        Fine (with_value (given o st) (λ y st2. hterm ks he t (MoreWords y ys) st2)).end →
        A.term next (Let d e) vars h log
        ≡ ends log (with_value (given o st) (λ y st2. hterm ks he t (MoreWords y ys) st2))
    step m h vars log ys st t d e None r f ok = absurd ok
    step m h vars log ys st t d e (Some y) r f ok =
        ap (λ q. A.made q log (λ w h2. A.term next e (w ∷ vars) h2 log)) r.1 ∙ f y r.0 r.2 ok

    -- an assignment
    assigns : (m : List ℕ) (h : A.AHeap) (vars : List A.AWord) (log : List ℕ) (ys st : HWords) (t : HTm) (v w : AVal)
        (e : ATm) (y z : HWord) (p q : A.AWord) → Stores D m h st → A.value vars v ≡ Some p →
        A.value vars w ≡ Some q → Rel m h y p → Rel m h z q →
        ((h2 : A.AHeap) (st2 : HWords) → Moves m h m h2 → Stores D m h2 st2 →
        Fine (hterm ks he t (MoreWords (WTuple NoWords) ys) st2).end →
        A.term next e (p ∷ vars) h2 log ≡ ends log (hterm ks he t (MoreWords (WTuple NoWords) ys) st2)) →
        Fine (with_value (set y z st) (λ x st2. hterm ks he t (MoreWords x ys) st2)).end →
        A.term next (Let (Init v 1 w) e) vars h log
        ≡ ends log (with_value (set y z st) (λ x st2. hterm ks he t (MoreWords x ys) st2))
    assigns m h vars log ys st t v w e (WInt n) z p q s ev ew r u f ok = absurd ok
    assigns m h vars log ys st t v w e (WTuple us) z p q s ev ew r u f ok = absurd ok
    assigns m h vars log ys st t v w e (WCode l env) z p q s ev ew r u f ok = absurd ok
    assigns m h vars log ys st t v w e (WCell c) z p q s ev ew r u f ok =
        let a = r.0 in
        let old = cell_holds D m h st c a s r.2 in
        let h2 = slice_set h a (Some q ∷ []) in
        let init : A.decl (Init v 1 w) vars h ≡ A.Gives p h2 = rw (ev, r.1, ew, old.3) refl in
        ap (λ x. A.made x log (λ y2 h3. A.term next e (y2 ∷ vars) h3 log)) init
        ∙ f h2 (hold c z st) (moves_set m h c a (Some q ∷ []) r.2) (stores_set D m h st c a z q s r.2 u) ok

    mutual
      term_rel : (a : ATm) (t : HTm) (os : Constants) (made env : List Thing) (k : ℕ) (ys : HWords) (m : List ℕ)
          (h : A.AHeap) (st : HWords) (vars : List A.AWord) (log : List ℕ) → Stands_t (scope ds os env k) made a Any t →
          At D m h st os env k ys vars → Same a vars h log t ys st
      term_rel (Let (Value v) e) t os made env k ys m h st vars log (w, u, is, sv, tk, se) g =
          let r = read_v m h st os env k ys vars g v w sv in
          let y = hv_value w ys in
          let new = next_at m h st os env k ys vars g (constant os w) y r.0 (λ c f. constant_is os ys g.known w c f)
          r.2 in
          subst (λ z. Same (Let (Value v) e) vars h log z ys st) (sym is) (λ ok.
          ap (λ o. A.made (A.given o (λ x. A.Gives x h)) log (λ x h2. A.term next e (x ∷ vars) h2 log)) r.1
          ∙ term_rel e u (constant os w ∷ os) [] (Is k ∷ env) (suc k) (MoreWords y ys) m h st (r.0 ∷ vars) log se new
          ok)
      term_rel (Let (Proj i v) e) t os made env k ys m h st vars log (w, u, inl is, sv, tk, se) g =
          let r = read_v m h st os env k ys vars g v w sv in
          subst (λ z. Same (Let (Proj i v) e) vars h log z ys st) (sym is)
          (step m h vars log ys st u (Proj i v) e (project i (hv_value w ys))
          (rw r.1 (project_rel m h i (hv_value w ys) r.0 r.2))
          (λ y x q. term_rel e u (None ∷ os) [] (Is k ∷ env) (suc k) (MoreWords y ys) m h st (x ∷ vars) log se
          (next_at m h st os env k ys vars g None y x (none_is y) q)))
      term_rel (Let (Proj i v) e) t os made env k ys m h st vars log (w, u, inr get, sv, tk, se) g =
          let r = read_v m h st os env k ys vars g v w sv in
          let y = hv_value w ys in
          let on : HWord → HWords → Result = λ x st2. hterm ks he u (MoreWords x ys) st2 in
          let got : OptRel m h (hgot y st) (A.decl (Proj 1 v) vars h) =
          rw r.1 (get_rel D m h st y r.0 g.stores r.2) in
          subst (λ z. Same (Let (Proj i v) e) vars h log z ys st) (sym get.1)
          (subst (λ j. Same (Let (Proj j v) e) vars h log (HLet (HGet w) u) ys st) (sym get.0)
          (subst (λ z. Fine (with_value z on).end →
          A.term next (Let (Proj 1 v) e) vars h log ≡ ends log (with_value z on)) (sym (got_is y st))
          (step m h vars log ys st u (Proj 1 v) e (hgot y st) got
          (λ z x q. term_rel e u (None ∷ os) [] (Is k ∷ env) (suc k) (MoreWords z ys) m h st (x ∷ vars) log se
          (next_at m h st os env k ys vars g None z x (none_is z) q)))))
      term_rel (Let (Arith op v w) e) t os made env k ys m h st vars log (x, y, u, is, sv, sw, tk, se) g =
          let r = read_v m h st os env k ys vars g v x sv in
          let q = read_v m h st os env k ys vars g w y sw in
          subst (λ z. Same (Let (Arith op v w) e) vars h log z ys st) (sym is)
          (step m h vars log ys st u (Arith op v w) e (operate op (hv_value x ys) (hv_value y ys))
          (rw (r.1, q.1) (compute_rel m h op (hv_value x ys) (hv_value y ys) r.0 q.0 r.2 q.2))
          (λ z p rel. term_rel e u (None ∷ os) [] (Is k ∷ env) (suc k) (MoreWords z ys) m h st (p ∷ vars) log se
          (next_at m h st os env k ys vars g None z p (none_is z) rel)))
      term_rel (Let (Unpack v) e) t os made env k ys m h st vars log (w, u, is, sv, tk, se) g =
          let r = read_v m h st os env k ys vars g v w sv in
          let y = hv_value w ys in
          let new = next_at m h st os env k ys vars g None y r.0 (none_is y) r.2 in
          subst (λ z. Same (Let (Unpack v) e) vars h log z ys st) (sym is) (λ ok.
          ap (λ o. A.made (A.given o (λ x. A.Gives x h)) log (λ x h2. A.term next e (x ∷ vars) h2 log)) r.1
          ∙ term_rel e u (None ∷ os) [] (Is k ∷ env) (suc k) (MoreWords y ys) m h st (r.0 ∷ vars) log se new ok)
      term_rel (Let (Malloc ts) e) t os made env k ys m h st vars log (inl (n, many, se)) g = λ ok.
          ap (λ q. A.term next e (A.ZTuple (length h) ∷ vars) (h ++ q ∷ []) log) (empties_are ts ∙ ap nones many)
          ∙ fill_rel e t os [] n [] made env k ys m h st vars log [] se g refl ok
      term_rel (Let (Malloc ts) e) t os made env k ys m h st vars log (inr (one, se)) g = λ ok.
          ap (λ q. A.term next e (A.ZTuple (length h) ∷ vars) (h ++ q ∷ []) log) (empties_are ts ∙ ap nones one)
          ∙ cell_rel e t os made env k ys m h st vars log se g ok
      term_rel (Let (Init v i w) e) t os made env k ys m h st vars log (x, y, u, one, is, sv, sw, tk, se) g =
          let r = read_v m h st os env k ys vars g v x sv in
          let q = read_v m h st os env k ys vars g w y sw in
          subst (λ z. Same (Let (Init v i w) e) vars h log z ys st) (sym is)
          (subst (λ j. Same (Let (Init v j w) e) vars h log (HLet (HSet x y) u) ys st) (sym one)
          (assigns m h vars log ys st u v w e (hv_value x ys) (hv_value y ys) r.0 q.0 g.stores r.1 q.1 r.2 q.2
          (λ h2 st2 mv s2. unit_rel e u os [] (Gone ∷ env) k ys m h2 st2 (r.0 ∷ vars) log se
          (gone_at m h2 st2 os env k ys vars (moved_at m m h h2 st st2 os env k ys vars g mv s2) r.0))))
      term_rel (Call v ts vs) t os made env k ys m h st vars log (x, us, xs, is, types, sv, svs, tk) g =
          let r = read_v m h st os env k ys vars g v x sv in
          let q = read_vs m h st os env k ys vars g vs xs svs in
          subst (λ z. Same (Call v ts vs) vars h log z ys st) (sym is) (λ ok.
          ap (λ o. A.call_of o log (λ l. A.call_with (A.values vars vs) log (λ ws. next l ws h log))) r.1
          ∙ ap (λ o. A.call_of (Some r.0) log (λ l. A.call_with o log (λ ws. next l ws h log))) q.1
          ∙ call_step he next follows m h st log (hv_value x ys) r.0 (hvs_value xs ys) q.0 r.2 q.2 g.stores ok)
      term_rel (If0 v a b) t os made env k ys m h st vars log (x, u, w, is, sv, tk, sa, sb) g =
          let r = read_v m h st os env k ys vars g v x sv in
          subst (λ z. Same (If0 v a b) vars h log z ys st) (sym is) (λ ok.
          ap (λ o. A.branch o log (A.term next a vars h log) (A.term next b vars h log)) r.1
          ∙ branch_step m h log (hv_value x ys) r.0 _ _ _ _ r.2
          (λ q. term_rel a u os [] env k ys m h st vars log sa g q)
          (λ q. term_rel b w os [] env k ys m h st vars log sb g q) ok)
      term_rel (Halt v) t os made env k ys m h st vars log (x, is, sv, tk) g =
          let r = read_v m h st os env k ys vars g v x sv in
          subst (λ z. Same (Halt v) vars h log z ys st) (sym is) (λ ok.
          ap (λ o. A.halt_with o log) r.1 ∙ halt_step m h log (hv_value x ys) r.0 r.2)

      -- a tuple, the last one of the heap, some of whose fields are filled
      fill_rel : (a : ATm) (t : HTm) (os : Constants) (fs : List HVal) (n : ℕ) (taken made env : List Thing) (k : ℕ)
          (ys : HWords) (m : List ℕ) (h : A.AHeap) (st : HWords) (vars : List A.AWord) (log : List ℕ)
          (ws : List A.AWord) → Stands_t (scope ds os (Gone ∷ env) k) made a (Filling fs n taken) t →
          At D m h st os env k ys vars → Rels m h (hvs_value (listed fs) ys) ws →
          Fine (hterm ks he t ys st).end →
          A.term next a (A.ZTuple (length h) ∷ vars) (h ++ (map Some ws ++ nones (suc n)) ∷ []) log
          ≡ ends log (hterm ks he t ys st)
      fill_rel (Let (Init v i w) e) t os fs zero taken made env k ys m h st vars log ws
          (y, left, ev, ei, sw, tk, se) g fields =
          let here = A.ZTuple (length h) in
          let old = here ∷ vars in
          let g1 = gone_at m h st os env k ys vars g here in
          let r = read_v m h st os (Gone ∷ env) k ys old g1 w y sw in
          let full = map Some (ws ++ r.0 ∷ []) in
          let h2 = h ++ full ∷ [] in
          let more : Grows h h2 = λ b q f. nth_more h (full ∷ []) b q f in
          let set = init_step h (length h) (length fs) vars (map Some ws) [] w r.0 refl
          (filled_long m h ys fs ws fields) r.1 in
          let all = seam_moves ws r.0 [] ∙ append-nil full in
          let mv = moves_grow m h h2 more in
          let g2 = moved_at m m h h2 st st os (Gone ∷ env) k ys old g1 mv (stores_grow D m h h2 st more g.stores) in
          let rels = rels_grow (hvs_value (listed (fs ++ y ∷ [])) ys) (ws ++ r.0 ∷ []) m h h2 more
          (filled_more m h ys fs ws y r.0 fields r.2) in
          let apart = fresh D m h (valid_of D m h st g.stores) in
          let at_it = nth_seam h [] full (length h) refl in
          let made_rel : Rel m h2 (WTuple (hvs_value (listed (fs ++ y ∷ [])) ys)) here =
          (length h, ws ++ r.0 ∷ [], refl, at_it, apart, rels) in
          let small : k < suc k = omega arith in
          let g3 : At D m h2 st os (made_at (Gone ∷ env) k (fs ++ y ∷ []) ∷ Gone ∷ env) k ys (here ∷ old) =
          record { stores = g2.stores; agree = ((small, λ f. made_rel), g2.agree); known = g2.known } in
          λ ok. ap₂ (λ p j. A.term next (Let (Init p j w) e) old (h ++ (map Some ws ++ None ∷ []) ∷ []) log) ev ei
          ∙ ap (λ q. A.made q log (λ x h3. A.term next e (x ∷ old) h3 log)) set
          ∙ ap (λ q. A.term next e (here ∷ old) (h ++ q ∷ []) log) all
          ∙ term_rel e t os (left ++ made_at (Gone ∷ env) k (fs ++ y ∷ []) ∷ [])
          (made_at (Gone ∷ env) k (fs ++ y ∷ []) ∷ Gone ∷ env) k ys m h2 st (here ∷ old) log se g3 ok
      fill_rel (Let (Init v i w) e) t os fs (suc n) taken made env k ys m h st vars log ws
          (y, ev, ei, sw, se) g fields =
          let here = A.ZTuple (length h) in
          let old = here ∷ vars in
          let g1 = gone_at m h st os env k ys vars g here in
          let r = read_v m h st os (Gone ∷ env) k ys old g1 w y sw in
          let set = init_step h (length h) (length fs) vars (map Some ws) (nones (suc n)) w r.0 refl
          (filled_long m h ys fs ws fields) r.1 in
          λ ok.
          ap₂ (λ p j. A.term next (Let (Init p j w) e) old (h ++ (map Some ws ++ nones (suc (suc n))) ∷ []) log) ev ei
          ∙ ap (λ q. A.made q log (λ x h3. A.term next e (x ∷ old) h3 log)) set
          ∙ ap (λ q. A.term next e (here ∷ old) (h ++ q ∷ []) log) (seam_moves ws r.0 (nones (suc n)))
          ∙ fill_rel e t os (fs ++ y ∷ []) n (taken ++ takes (Gone ∷ env) w) made (Gone ∷ env) k ys m h st old log
          (ws ++ r.0 ∷ []) se g1 (filled_more m h ys fs ws y r.0 fields r.2) ok
      fill_rel (Let (Value v) e) t os fs n taken made env k ys m h st vars log ws s g fields = absurd s
      fill_rel (Let (Proj i v) e) t os fs n taken made env k ys m h st vars log ws s g fields = absurd s
      fill_rel (Let (Arith op v w) e) t os fs n taken made env k ys m h st vars log ws s g fields = absurd s
      fill_rel (Let (Unpack v) e) t os fs n taken made env k ys m h st vars log ws s g fields = absurd s
      fill_rel (Let (Malloc ts) e) t os fs n taken made env k ys m h st vars log ws s g fields = absurd s
      fill_rel (Call v ts vs) t os fs n taken made env k ys m h st vars log ws s g fields = absurd s
      fill_rel (If0 v b c) t os fs n taken made env k ys m h st vars log ws s g fields = absurd s
      fill_rel (Halt v) t os fs n taken made env k ys m h st vars log ws s g fields = absurd s

      -- a cell, the last one of the heap, which is not set
      cell_rel : (a : ATm) (t : HTm) (os : Constants) (made env : List Thing) (k : ℕ) (ys : HWords) (m : List ℕ)
          (h : A.AHeap) (st : HWords) (vars : List A.AWord) (log : List ℕ) →
          Stands_t (scope ds os (Gone ∷ env) k) made a Content t → At D m h st os env k ys vars →
          Fine (hterm ks he t ys st).end →
          A.term next a (A.ZTuple (length h) ∷ vars) (h ++ (None ∷ []) ∷ []) log ≡ ends log (hterm ks he t ys st)
      cell_rel (Let (Init v i w) e) t os made env k ys m h st vars log (x, u, ev, ei, is, sw, tk, se) g =
          let here = A.ZTuple (length h) in
          let old = here ∷ vars in
          let g1 = gone_at m h st os env k ys vars g here in
          let r = read_v m h st os (Gone ∷ env) k ys old g1 w x sw in
          let y = hv_value x ys in
          let h2 = h ++ (Some r.0 ∷ []) ∷ [] in
          let m2 = m ++ length h ∷ [] in
          let st2 = one_more st y in
          let set = init_step h (length h) 0 vars [] [] w r.0 refl refl r.1 in
          let g2 = moved_at m m2 h h2 st st2 os (Gone ∷ env) k ys old g1 (moves_cell m h (Some r.0 ∷ []))
          (stores_cell D m h st y r.0 g.stores r.2) in
          let new : Rel m2 h2 (WCell (size st)) here =
          (length h, refl, nth_seam m [] (length h) (size st) (sym g.stores.long)) in
          let g3 = next_at m2 h2 st2 os (Gone ∷ env) k ys old g2 None (WCell (size st)) here
          (none_is (WCell (size st))) new in
          subst (λ z. Fine (hterm ks he z ys st).end →
          A.term next (Let (Init v i w) e) old (h ++ (None ∷ []) ∷ []) log ≡ ends log (hterm ks he z ys st)) (sym is)
          (λ ok.
          ap₂ (λ p j. A.term next (Let (Init p j w) e) old (h ++ (None ∷ []) ∷ []) log) ev ei
          ∙ ap (λ q. A.made q log (λ z h3. A.term next e (z ∷ old) h3 log)) set
          ∙ term_rel e u (None ∷ os) [] (Is k ∷ Gone ∷ env) (suc k) (MoreWords (WCell (size st)) ys) m2 h2 st2
          (here ∷ old) log se g3 ok)
      cell_rel (Let (Value v) e) t os made env k ys m h st vars log s g = absurd s
      cell_rel (Let (Proj i v) e) t os made env k ys m h st vars log s g = absurd s
      cell_rel (Let (Arith op v w) e) t os made env k ys m h st vars log s g = absurd s
      cell_rel (Let (Unpack v) e) t os made env k ys m h st vars log s g = absurd s
      cell_rel (Let (Malloc ts) e) t os made env k ys m h st vars log s g = absurd s
      cell_rel (Call v ts vs) t os made env k ys m h st vars log s g = absurd s
      cell_rel (If0 v b c) t os made env k ys m h st vars log s g = absurd s
      cell_rel (Halt v) t os made env k ys m h st vars log s g = absurd s

      -- the empty tuple that names an assignment
      unit_rel : (a : ATm) (t : HTm) (os : Constants) (made env : List Thing) (k : ℕ) (ys : HWords) (m : List ℕ)
          (h : A.AHeap) (st : HWords) (vars : List A.AWord) (log : List ℕ) →
          Stands_t (scope ds (None ∷ os) env k) made a Unit_named t → At D m h st os env k ys vars →
          Same a vars h log t (MoreWords (WTuple NoWords) ys) st
      unit_rel (Let (Malloc ts) e) t os made env k ys m h st vars log (none, se) g =
          let here = A.ZTuple (length h) in
          let h2 = h ++ [] ∷ [] in
          let more : Grows h h2 = λ b q f. nth_more h ([] ∷ []) b q f in
          let g1 = moved_at m m h h2 st st os env k ys vars g (moves_grow m h h2 more)
          (stores_grow D m h h2 st more g.stores) in
          let new : Rel m h2 (WTuple NoWords) here =
          (length h, [], refl, nth_seam h [] [] (length h) refl, fresh D m h (valid_of D m h st g.stores), refl) in
          let g2 = next_at m h2 st os env k ys vars g1 None (WTuple NoWords) here (none_is (WTuple NoWords)) new in
          λ ok. ap (λ q. A.term next e (here ∷ vars) (h ++ A.empties q ∷ []) log) none
          ∙ term_rel e t (None ∷ os) made (Is k ∷ env) (suc k) (MoreWords (WTuple NoWords) ys) m h2 st (here ∷ vars)
          log se g2 ok
      unit_rel (Let (Value v) e) t os made env k ys m h st vars log s g = absurd s
      unit_rel (Let (Proj i v) e) t os made env k ys m h st vars log s g = absurd s
      unit_rel (Let (Arith op v w) e) t os made env k ys m h st vars log s g = absurd s
      unit_rel (Let (Unpack v) e) t os made env k ys m h st vars log s g = absurd s
      unit_rel (Call v ts vs) t os made env k ys m h st vars log s g = absurd s
      unit_rel (If0 v b c) t os made env k ys m h st vars log s g = absurd s
      unit_rel (Halt v) t os made env k ys m h st vars log s g = absurd s
      unit_rel (Let (Init v i w) e) t os made env k ys m h st vars log s g = absurd s

  sizes : (ys : HWords) (ws : List A.AWord) (m : List ℕ) (h : A.AHeap) → Rels m h ys ws → length ws ≡ size ys
  sizes NoWords ws m h r = ap length r
  sizes (MoreWords y ys) ws m h r = ap length r.2 ∙ ap suc (sizes ys r.1 m h r.4)

  arity_is : (ts : CTys) → arity (atypes ts) ≡ ccount ts
  arity_is NoCTys = refl
  arity_is (MoreCTys t ts) = ap suc (arity_is ts)

  -- the block that stands for another
  record Block (o : Option ABlk) (x : HBlk) : Type 0 where
    block : ABlk
    is : o ≡ Some block
    args : atypes x.args ≡ block.args
    stands : Stands_t (scope ds (of_args x.args []) (arg_things 0 [] block.args) (arity block.args)) [] block.body Any
        x.body

  abbrev BlockOf : Option ABlk → Option HBlk → Type 0
  BlockOf o None = o ≡ None
  BlockOf o (Some x) = Block o x

  block_is : (bs : List ABlk) (xs : HBlks) (l : ℕ) → Stands_all ds bs xs → BlockOf (slice_get bs l) (block_at xs l)
  block_is [] [] l s = refl
  block_is [] (x ∷ xs) l s = absurd s
  block_is (b ∷ bs) [] l s = absurd s
  block_is (b ∷ bs) (x ∷ xs) zero s = record { block = b; is = refl; args = s.0.1; stands = s.0.2 }
  block_is (b ∷ bs) (x ∷ xs) (suc l) s = block_is bs xs l s.1

  agree_args : (ts : ATys) (vs ys : HWords) (ws : List A.AWord) (env : List Thing) (vars : List A.AWord) (m : List ℕ)
      (h : A.AHeap) (k n : ℕ) → n ≡ k + arity ts → size vs ≡ arity ts → Rels m h vs ws → Agree m h k ys env vars →
      Agree m h n (onto vs ys) (arg_things k env ts) (A.push_all ws vars)
  agree_args NoATys NoWords ys ws env vars m h k n e f r a =
      let same : n ≡ k = omega (arith, e) in
      subst (λ z. Agree m h n ys env (A.push_all z vars)) (sym r) (subst (λ z. Agree m h z ys env vars) (sym same) a)
  agree_args NoATys (MoreWords v vs) ys ws env vars m h k n e f r a = absurd (omega (arith, f))
  agree_args (MoreATys t ts) NoWords ys ws env vars m h k n e f r a = absurd (omega (arith, f))
  agree_args (MoreATys t ts) (MoreWords v vs) ys ws env vars m h k n e f r a =
      let more = agree_more m h k ys v r.0 env vars r.3 a in
      subst (λ z. Agree m h n (onto vs (MoreWords v ys)) (arg_things (suc k) (Is k ∷ env) ts) (A.push_all z vars))
      (sym r.2)
      (agree_args ts vs (MoreWords v ys) r.1 (Is k ∷ env) (r.0 ∷ vars) m h (suc k) n (omega (arith, e))
      (omega (arith, f)) r.4 more)

  -- no argument names a constant
  abbrev Empty : Constants → Type 0
  Empty os = (i : ℕ) (c : HVal) → constant_at os i ≡ Some c → ⊥

  empty_args : (ts : CTys) (os : Constants) → Empty os → Empty (of_args ts os)
  empty_args NoCTys os e = e
  empty_args (MoreCTys t ts) os e = empty_args ts (None ∷ os) more
    where
      none_some : (c : HVal) → None ≡ Some c → ⊥
      none_some c x = cc

      more : Empty (None ∷ os)
      more zero c x = none_some c x
      more (suc i) c x = e i c x

  empty : Empty []
  empty i c x = absurd (clash c x)
    where
      clash : (c : HVal) → None ≡ Some c → ⊥
      clash c x = cc

  eq_swap : (m n : ℕ) → nat_eq m n ≡ nat_eq n m
  eq_swap m n =
      ⊎_elim (λ e. eq-eqb m n e ∙ sym (eq-eqb n m (sym e))) (λ ne. ne_eqb m n ne ∙ sym (ne_eqb n m (λ e. ne (sym e))))
      (cases_eq m n)

  pick_step : (b : Bool) (log : List ℕ) (x : A.Result) (r : Result) → (b ≡ true → Fine r.end → x ≡ ends log r) →
      Fine (if_fits b r).end → A.pick b x (A.Wrong log) ≡ ends log (if_fits b r)
  pick_step true log x r f ok = f refl ok
  pick_step false log x r f ok = refl

  enter_step : (log : List ℕ) (p : Option ABlk) (o : Option HBlk) (ys : HWords) (n : ℕ) (go : ABlk → A.Result)
      (on : HBlk → Result) → BlockOf p o → n ≡ size ys →
      ((x : HBlk) (b : Block p x) → size ys ≡ ccount x.args → Fine (on x).end → go b.block ≡ ends log (on x)) →
      Fine (with_block o (λ x. if_fits (nat_eq (size ys) (ccount x.args)) (on x))).end →
      A.enter p n log go ≡ ends log (with_block o (λ x. if_fits (nat_eq (size ys) (ccount x.args)) (on x)))
  enter_step log p None ys n go on b e f ok = ap (λ q. A.enter q n log go) b
  enter_step log p (Some x) ys n go on b e f ok =
      let z = go b.block in
      ap (λ q. A.enter q n log go) b.is
      ∙ ap (λ q. A.pick (q == n) z (A.Wrong log)) (ap arity (sym b.args) ∙ arity_is x.args)
      ∙ ap (λ q. A.pick (ccount x.args == q) z (A.Wrong log)) e
      ∙ ap (λ c. A.pick c z (A.Wrong log)) (eq_swap (ccount x.args) (size ys))
      ∙ pick_step (nat_eq (size ys) (ccount x.args)) log z (on x)
      (λ c. f x b (eqb-true (size ys) (ccount x.args) c)) ok

  module _ (bs : List ABlk) (all : Stands_all ds bs ks) where
    follows_n : (n : ℕ) → Follows (henter ks n) (A.calls bs n)
    follows_n zero l ys ws m h st log r s ok =
        enter_step log (slice_get bs l) (block_at ks l) ys (length ws) (λ b. A.Spent log) (λ k. stops Spent)
        (block_is bs ks l all) (sizes ys ws m h r) (λ x b e q. refl) ok
    follows_n (suc n) l ys ws m h st log r s ok =
        let go : ABlk → A.Result = λ b. A.term (A.calls bs n) b.body (A.push_all ws []) h (l ∷ log) in
        let on : HBlk → Result = λ x. enters l (hterm ks (henter ks n) x.body (onto ys NoWords) st) in
        enter_step log (slice_get bs l) (block_at ks l) ys (length ws) go on (block_is bs ks l all) (sizes ys ws m h r)
        (λ x b e q. term_rel (henter ks n) (A.calls bs n) (follows_n n) b.block.body x.body (of_args x.args []) []
        (arg_things 0 [] b.block.args) (arity b.block.args) (onto ys NoWords) m h st (A.push_all ws []) (l ∷ log)
        b.stands (at_block x b.block ys ws m h st b.args e r s) q) ok
      where
        at_block : (x : HBlk) (b : ABlk) (ys : HWords) (ws : List A.AWord) (m : List ℕ) (h : A.AHeap) (st : HWords) →
            atypes x.args ≡ b.args → size ys ≡ ccount x.args → Rels m h ys ws → Stores D m h st →
            At D m h st (of_args x.args []) (arg_things 0 [] b.args) (arity b.args) (onto ys NoWords)
            (A.push_all ws [])
        at_block x b ys ws m h st args e r s = record {
          stores = s;
          agree = agree_args b.args ys NoWords ws [] [] m h 0 (arity b.args) (omega arith)
              (e ∙ sym (arity_is x.args) ∙ ap arity args) r tt;
          known = λ i c f. absurd (empty_args x.args [] empty i c f);
        }

  -- at the start
  datum_first : (xs : List AConsts) (n : ℕ) (x : AConsts) → slice_get xs n ≡ Some x →
      slice_get (A.start_heap xs) n ≡ Some (A.datum x)
  datum_first [] n x e = absurd (impossible e)
    where
      impossible : None ≡ Some x → ⊥
      impossible q = cc
  datum_first (y ∷ xs) zero x e = let z : y ≡ x = cc in ap (λ q. Some (A.datum q)) z
  datum_first (y ∷ xs) (suc n) x e = datum_first xs n x e

  no_cells : Stores D [] (A.start_heap D) NoWords
  no_cells = record {
    long = refl;
    holds = λ p y e. absurd (none p y e);
    kept = λ n x e. (datum_first D n x e, λ p q. gone p n q);
    once = λ p q a e f. absurd (gone p a e);
  }
    where
      none : (p : ℕ) (y : HWord) → None ≡ Some y → ⊥
      none p y e = cc

      gone : (p a : ℕ) → None ≡ Some a → ⊥
      gone p a e = cc

pub standing_means : HNeverStuck → StandingMeansTheSame
standing_means never p main ks t good s n =
    let ds = tuples_in ks t in
    let follows = follows_n p.tuples ds s.0 ks p.blocks s.2 n in
    term_rel p.tuples ds s.0 ks (henter ks n) (A.calls p.blocks n) follows main t [] [] [] 0 NoWords []
    (A.start_heap p.tuples) NoWords [] [] s.3 (record {
      stores = no_cells p.tuples ds s.0 ks;
      agree = tt;
      known = λ i c f. absurd (empty p.tuples ds s.0 ks i c f);
    }) (fine (hrun n ks t).end (never ks t good n))

-- so does the allocation
pub alloc_kept : HNeverStuck → AllocStands → AllocKept
alloc_kept never stands ks t good n =
    standing_means never (alloc_prog ks t) (alloc_main ks t) ks t good (stands ks t good) n
