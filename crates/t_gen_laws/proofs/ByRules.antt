-- What is generated for a typed program is so by the rules.
use Rattle.std.proofs.Common.{◌≡◌, ◌<◌, ℕ, zero, suc, ◌+◌, ◌-◌, List, [], ◌∷◌, ◌++◌, length, Option, Some, None}
use Rattle.std.proofs.Common.{refl, sym, ap, ◌∙◌, subst, arith, ⊎_elim, inr, slice_get, length-append, inl}
use Rattle.std.specs.Prelude.{◌==◌, Bool, true, ◌&&◌, ◌||◌}
use Rattle.std.proofs.lemmas.Bool.{eq-eqb, eqb-true, cond_both, cond-true, or_cases, or_left, or_right, and_from}
use Rattle.std.proofs.lemmas.Bool.{and_parts}
use Rattle.std.proofs.lemmas.Option.{slice_get_within}
use Rattle.a_terms.specs.Tree.{ATy, AInt, ATuple, AExists, ATys, NoATys, MoreATys, AVal, Var, Num, Lab, Data, Apply}
use Rattle.a_terms.specs.Tree.{Pack, ADecl, Value, Proj, Arith, Unpack, Malloc, Init, ATm, Let, Call, If0, Halt, ABlk}
use Rattle.a_terms.specs.Tree.{AConsts, AProg, arity, aput}
use Rattle.a_terms.specs.Typing.{type_of, applied, Has, TypedDecl, All-have, TypedTerm, TypedBlocks, declared}
use Rattle.a_terms.specs.Typing.{more_vars}
use Rattle.a_terms.specs.Typing.{types_of}
use Rattle.a_terms.specs.Typing.{Unpacked, Flat, TypedData, TypedTuples}
use Rattle.a_terms.specs.TypeLaws.{length_declared}
use Rattle.a_terms.specs.Bound.{thirds}
use Rattle.t_types.specs.Tree.{Ty, NoRegs}
use Rattle.t_terms.specs.Tree as T
use Rattle.t_terms.specs.Tree.{TValue, TSeq, Then, Ends, TBlock}
use Rattle.t_gen_rules.specs.Gen.{tys, reg, place, applied_to, small, unnest, settle, home, uses, uses_any}
use Rattle.t_gen_rules.specs.Gen.{uses_decl, used, over, above, free, owner, target, other_than, decl_code, tvars, code}
use Rattle.t_gen_rules.specs.Gen.{header}
use Rattle.t_gen_rules.specs.Gen.{block, extras, rows, constant, data_of, generated_blocks}
use Rattle.t_gen_rules.specs.Gen.{generated_heap}
use Rattle.t_gen_laws.specs.GenLaws.{length_extras}
use Rattle.t_gen_laws.specs.Counting.{first_of}
use Rattle.t_gen_laws.specs.Rules.{Held, holding, nothing, IsPlain, Reads, before, IsPartOf, Comes, Spare, Distinct}
use Rattle.t_gen_laws.specs.Rules.{Covers, Declares, Writes, Code, Fields, Tuples, GeneratedIsByRules}
use Rattle.t_gen_laws.proofs.Free.{top_place, top_least, top_fewer, free_apart, spare_apart}
use Rattle.t_gen_laws.proofs.Covers.{Apart, apart_fewer, apart_args, look_header, header_only, in_scope}
use Rattle.t_gen_laws.proofs.Laying.{laid_out}
use Rattle.t_gen_laws.proofs.Loads.{Known, known_kept, known_fewer, known_above, brings_on, before_on, base_reg}
use Rattle.t_gen_laws.proofs.Loads.{reads_same, whole_part}
use Rattle.t_gen_laws.proofs.Loads.{unnest_is, move_is, settled_is, named_is, home_low, call_comes}
use Rattle.t_gen_laws.proofs.Places.{HasAt, has_all, has_front, has_back, length_firsts, main_block, extras_at}
use Rattle.t_gen_laws.proofs.OneMore.{apart_next}
use Rattle.t_gen_laws.proofs.Words.{scope}

-- the variables of typed values, declarations and terms are in scope
module _ (p : AProg) (k : ℕ) (g : List ATy) (n : ℕ) where
  of_applied : (o : Option ATy) (ts : ATys) (t : ATy) → applied o ts ≡ Some t → (s : ATy) × (o ≡ Some s)
  of_applied None ts t e = cc
  of_applied (Some s) ts t e = (s, refl)

  value_in : (v : AVal) (t : ATy) → Has p k g v t → uses v n ≡ true → n < length g
  value_in (Var i) t h u = slice_get_within g n t (ap (slice_get g) (sym (eqb-true i n u)) ∙ h.is)
  value_in (Num i) t h u = cc
  value_in (Lab l) t h u = cc
  value_in (Data d) t h u = cc
  value_in (Apply v ts) t h u =
      let s = of_applied (type_of p g v) ts t h.is in
      value_in v s.0 (record { fine = h.fine.0; is = s.1 }) u
  value_in (Pack a v s) t h u = value_in v (aput 0 a h.fine.0) (record { fine = h.fine.1; is = h.fine.5 }) u

  values_in : (vs : List AVal) (ts : ATys) → All-have p k g vs ts → uses_any vs n ≡ true → n < length g
  values_in [] ts h u = cc
  values_in (v ∷ vs) NoATys h u = absurd h
  values_in (v ∷ vs) (MoreATys t ts) h u =
      ⊎_elim (λ z. value_in v t h.0 z) (λ z. values_in vs ts h.1 z) (or_cases (uses v n) (uses_any vs n) u)

  decl_in : (x : ADecl) → TypedDecl p k g x → uses_decl x n ≡ true → n < length g
  decl_in (Value v) h u = value_in v h.0 h.1 u
  decl_in (Proj i v) h u = value_in v (ATuple h.0) h.3 u
  decl_in (Arith o v w) h u =
      ⊎_elim (λ z. value_in v AInt h.0 z) (λ z. value_in w AInt h.1 z) (or_cases (uses v n) (uses w n) u)
  decl_in (Unpack v) h u = value_in v (AExists h.0) h.1 u
  decl_in (Malloc ts) h u = cc
  decl_in (Init v i w) h u =
      ⊎_elim (λ z. value_in v (ATuple h.0) h.3 z) (λ z. value_in w h.2 h.4 z) (or_cases (uses v n) (uses w n) u)

term_in : (p : AProg) (k : ℕ) (g : List ATy) (n : ℕ) (e : ATm) → TypedTerm p k g e → used e n ≡ true → n < length g
term_in p k g n (Let x e) h u = ⊎_elim
    (λ z. decl_in p k g n x h.0 z)
    (λ z.
    let r = term_in p (more_vars x k) (declared p g x) (suc n) e h.1 z in
    let l = length_declared p g x in
    omega (arith, r, l))
    (or_cases (uses_decl x n) (used e (suc n)) u)
term_in p k g n (Call v ts vs) h u = ⊎_elim
    (λ z. value_in p k g n v h.0 h.2 z)
    (λ z. values_in p k g n vs h.1 h.5 z)
    (or_cases (uses v n) (uses_any vs n) u)
term_in p k g n (If0 v a b) h u = ⊎_elim
    (λ z. value_in p k g n v AInt h.0 z)
    (λ y. ⊎_elim (λ z. term_in p k g n a h.1 z) (λ z. term_in p k g n b h.2 z) (or_cases (used a n) (used b n) y))
    (or_cases (uses v n) (used a n || used b n) u)
term_in p k g n (Halt v) h u = value_in p k g n v AInt h u

-- each variable that is used is held by its register
holds_it : (m : List ℕ) (i j : ℕ) (u : ℕ → Bool) (n : ℕ) → j ≡ i + n → u n ≡ true → n < length m →
    ((l : ℕ) → u l ≡ true → l < length m → place m l ≡ place m n → l ≡ n) → holding i m u (place m n) ≡ Some (Var j)
holds_it [] i j u n e y lt own = absurd (omega arith)
holds_it (q ∷ m) i j u zero e y lt own =
    let z : i ≡ j = omega (arith, e) in
    let found = and_from (u 0) (q == q) y (eq-eqb q q refl) in
    cond-true (u 0 && q == q) (Some (Var i)) (holding (suc i) m (λ n. u (suc n)) q) found ∙ ap (λ x. Some (Var x)) z
holds_it (q ∷ m) i j u (suc n) e y lt own =
    cond_both (u 0 && q == place m n) (Some (Var i)) (holding (suc i) m (λ l. u (suc l)) (place m n))
    (λ o. o ≡ Some (Var j))
    (λ c.
    let z = and_parts (u 0) (q == place m n) c in
    let same = own 0 z.0 (omega arith) (eqb-true q (place m n) z.1) in
    absurd (omega (arith, same)))
    (λ c. holds_it m (suc i) j (λ l. u (suc l)) n (omega (arith, e)) y (omega (arith, lt))
    (λ l x s z. let w = own (suc l) x (omega (arith, s)) z in omega (arith, w)))

-- so it is at the start of a term
starts : (m : List ℕ) (g : List ATy) (u : ℕ → Bool) → Apart m g u → ((n : ℕ) → u n ≡ true → n < length g) →
    Known (holding 0 m u) m (over m u) u
starts m g u a scope n y =
    let lt : n < length m = (let s = scope n y in omega (arith, s, a.same)) in
    let z : n ≡ 0 + n = omega arith in
    let t = top_place 0 m u n y in
    (holds_it m 0 n u n z y lt (λ l x s e. a.own l n x y s lt e), omega (arith, t))

distinct : (m : List ℕ) (g : List ATy) (u : ℕ → Bool) → Apart m g u → Distinct m u
distinct m g u a = a.own

covers : (m : List ℕ) (g : List ATy) (u : ℕ → Bool) → Apart m g u → Covers u m g (header u m g)
covers m g u a = record {
  each = λ n t y e. look_header m g u n t a.own y (in_scope m g u n t a e) e;
  only = header_only m g u;
}

-- a declaration
module _ (m : List ℕ) (e : ATm) (rest : TSeq) where
  abbrev after : ℕ → Bool
  after n = used e (suc n)

  -- what the registers hold before it
  abbrev at_first : ADecl → Held
  at_first x = holding 0 m (used (Let x e))

  -- its moves, its instruction, and what stays
  record Made (x : ADecl) (r : ℕ) (is : TSeq) : Type 0 where
    next : TSeq
    comes : Comes m (Let x e) is next
    does : Declares comes.held r x next rest
    spare : Writes x → Spare m after r
    stay : (n : ℕ) → after n ≡ true → comes.held (place m n) ≡ at_first x (place m n)

  free_spare : Spare m after (free m after e)
  free_spare n y lt z = free_apart m after e n y z

  free_stays : (c d : Held) → ((q : ℕ) → (q ≡ free m after e → ⊥) → d q ≡ c q) → (n : ℕ) → after n ≡ true →
      d (place m n) ≡ c (place m n)
  free_stays c d o n y = o (place m n) (λ z. free_apart m after e n y z)

  made_decl : (x : ADecl) → Known (at_first x) m (over m (used (Let x e))) (used (Let x e)) →
      Made x (target m x e) (decl_code (over m (used (Let x e))) m (target m x e) x rest)
  made_decl (Value v) a =
      let c = at_first (Value v) in
      let u = used (Let (Value v) e) in
      let d = over m u in
      let far : (n : ℕ) → after n ≡ true → place m n < d = λ n y. (a n (or_right (uses v n) (after n) y)).1 in
      let few = known_fewer c m d u (uses v) (λ n y. or_left (uses v n) (after n) y) a in
      let g = named_is (v ∷ []) v c m d d after e rest (λ x i. inl i) (omega arith) far few in
      record {
        next = rest;
        comes = record {
          moves = g.moves;
          first = g.same;
          few = omega (arith, g.few);
          held = g.held;
          brings = g.brings;
        };
        does = (refl, g.here);
        spare = absurd;
        stay = g.stays;
      }
  made_decl (Proj i v) a =
      let c = at_first (Proj i v) in
      let u = used (Let (Proj i v) e) in
      let d = over m u in
      let r = free m after e in
      let few = known_fewer c m d u (uses v) (λ n y. or_left (uses v n) (after n) y) a in
      let q = home r (small r m v) in
      let g = settled_is (v ∷ []) v c m d r (Then (T.Ld r q (i - 1)) rest) (λ x i. inl i) few in
      record {
        next = Then (T.Ld r q (i - 1)) rest;
        comes = record {
          moves = g.moves;
          first = g.same;
          few = omega (arith, g.few);
          held = g.held;
          brings = g.brings;
        };
        does = (q, refl, g.here);
        spare = λ z. free_spare;
        stay = free_stays c g.held (λ q ne. g.others q (λ z. absurd (ne z)));
      }
  made_decl (Arith o v w) a =
      let c = at_first (Arith o v w) in
      let u = used (Let (Arith o v w) e) in
      let d = over m u in
      let r = free m after e in
      let q = home d (small d m v) in
      let y = small (suc d) m w in
      let last = Then (T.Arith o r q y) rest in
      let few = known_fewer c m d u (uses v) (λ n z. or_left (uses v n || uses w n) (after n)
      (or_left (uses v n) (uses w n) z)) a in
      let few2 = known_fewer c m d u (uses w) (λ n z. or_left (uses v n || uses w n) (after n)
      (or_right (uses v n) (uses w n) z)) a in
      let ws = v ∷ w ∷ [] in
      let g = settled_is ws v c m d d (unnest (suc d) m w last) (λ x i. inl i) few in
      let low = home_low v c m d d few (omega arith) in
      let kept = known_kept c g.held m d (uses w) (λ j lt. g.others j (λ z. absurd (omega (arith, z, lt)))) few2 in
      let k = unnest_is ws w g.held m d (suc d) last (λ x i. inr (inl i)) kept in
      let first = reads_same g.held k.held v (reg q) (λ j z.
      (let s = base_reg z in k.others j (λ t. absurd (omega (arith, s, t, low))))) g.here in
      record {
        next = last;
        comes = record {
          moves = g.moves ++ k.moves;
          first = g.same ∙ ap (before g.moves) k.same ∙ sym (before_on g.moves k.moves last);
          few = (let z = length-append g.moves k.moves in omega (arith, z, g.few, k.few));
          held = k.held;
          brings = brings_on ws g.moves k.moves c g.held k.held g.brings k.brings;
        };
        does = (q, y, refl, first, k.here);
        spare = λ z. free_spare;
        stay = λ n z.
            (let lt = (a n (or_right (uses v n || uses w n) (after n) z)).1 in
            k.others (place m n) (λ t. absurd (omega (arith, t, lt)))
            ∙ g.others (place m n) (λ t. absurd (omega (arith, t, lt))));
      }
  made_decl (Unpack v) a =
      let c = at_first (Unpack v) in
      let u = used (Let (Unpack v) e) in
      let d = over m u in
      let r = free m after e in
      let few = known_fewer c m d u (uses v) (λ n y. or_left (uses v n) (after n) y) a in
      let g = unnest_is (v ∷ []) v c m d r (Then (T.Unpack r (small r m v)) rest) (λ x i. inl i) few in
      record {
        next = Then (T.Unpack r (small r m v)) rest;
        comes = record {
          moves = g.moves;
          first = g.same;
          few = omega (arith, g.few);
          held = g.held;
          brings = g.brings;
        };
        does = (small r m v, refl, g.here);
        spare = λ z. free_spare;
        stay = free_stays c g.held (λ q ne. g.others q (λ z. absurd (ne z)));
      }
  made_decl (Malloc ts) a =
      let c = at_first (Malloc ts) in
      let r = free m after e in
      record {
        next = Then (T.Malloc r (tys ts)) rest;
        comes = record { moves = []; first = refl; few = omega arith; held = c; brings = refl };
        does = refl;
        spare = λ z. free_spare;
        stay = λ n y. refl;
      }
  made_decl (Init v i w) a =
      let c = at_first (Init v i w) in
      let all = used (Let (Init v i w) e) in
      let d = over m all in
      let u : ℕ → Bool = λ n. uses w n || after n in
      let more : (n : ℕ) → u n ≡ true → all n ≡ true = λ n y. ⊎_elim
      (λ z. or_left (uses v n || uses w n) (after n) (or_right (uses v n) (uses w n) z))
      (λ z. or_right (uses v n || uses w n) (after n) z) (or_cases (uses w n) (after n) y) in
      let far : (n : ℕ) → u n ≡ true → place m n < d = λ n y. (a n (more n y)).1 in
      let r = owner m v u e in
      let s = other_than r d in
      let own = spare_apart r d in
      let q = home s (small s m w) in
      let last = Then (T.St r (i - 1) q) rest in
      let few = known_fewer c m d all (uses v) (λ n z. or_left (uses v n || uses w n) (after n)
      (or_left (uses v n) (uses w n) z)) a in
      let few2 = known_fewer c m d all (uses w) (λ n z. or_left (uses v n || uses w n) (after n)
      (or_right (uses v n) (uses w n) z)) a in
      let ws = v ∷ w ∷ [] in
      let g = named_is ws v c m d s u e (unnest s m w (settle s (small s m w) last)) (λ x i. inl i) own.0 far few in
      let kept : Known g.held m d (uses w) = λ n y.
      (let x = few2 n y in (g.stays n (or_left (uses w n) (after n) y) ∙ x.0, x.1)) in
      let k = settled_is ws w g.held m d s last (λ x i. inr (inl i)) kept in
      let tuple = reads_same g.held k.held v (reg r) (λ j z.
      (let t = base_reg z in k.others j (λ y. absurd (own.2 (t ∙ y))))) g.here in
      record {
        next = last;
        comes = record {
          moves = g.moves ++ k.moves;
          first = g.same ∙ ap (before g.moves) k.same ∙ sym (before_on g.moves k.moves last);
          few = (let z = length-append g.moves k.moves in omega (arith, z, g.few, k.few));
          held = k.held;
          brings = brings_on ws g.moves k.moves c g.held k.held g.brings k.brings;
        };
        does = (q, refl, tuple, k.here);
        spare = absurd;
        stay = λ n z.
            (let t = far n (or_right (uses w n) (after n) z) in
            k.others (place m n) (λ y. absurd (omega (arith, t, y, own.0)))
            ∙ g.stays n (or_right (uses w n) (after n) z));
      }

-- terms, where the third parts stand in P
module _ (p : AProg) (P : List TBlock) where
  code_is : (e : ATm) (k : ℕ) (m : List ℕ) (g : List ATy) (at : ℕ) → Apart m g (used e) → TypedTerm p k g e →
      HasAt P at (extras p k m g at e) → Code (scope P p k m g) at e (code k m at e)
  code_is (Let x e) k m g at a h has =
      let u = used (Let x e) in
      let r = target m x e in
      let rest = code (more_vars x k) (r ∷ m) at e in
      let known = starts m g u a (λ n y. term_in p k g n (Let x e) h y) in
      let d = made_decl m e rest x known in
      let next = apart_next p k g m x e a h.0 in (
        record {
          register = r;
          next = d.next;
          comes = d.comes;
          rest = rest;
          declares = d.does;
          kept = λ n y lt. d.stay n y ∙ (known n (or_right (uses_decl x n) (used e (suc n)) y)).0;
          spare = d.spare;
          apart = next.own;
        },
        code_is e (more_vars x k) (r ∷ m) (declared p g x) at next h.1 has,
      )
  code_is (Call v ts vs) k m g at a h has =
      let u = used (Call v ts vs) in
      let c = holding 0 m u in
      let known = starts m g u a (λ n y. term_in p k g n (Call v ts vs) h y) in
      let b = above m v vs in
      let least = top_least (length vs) m u in
      let more = top_fewer 0 (length vs) m u u (λ n y. y) (omega arith) in
      let d = call_comes (Apply v ts ∷ vs) v ts vs 1 b m c (λ x i. of_call x i) (omega arith) (omega (arith, least))
      (known_above c m (over m u) b u (omega (arith, more)) known) in
      record {
        target = d.code;
        comes = record { moves = d.moves; first = d.same; few = d.few; held = d.held; brings = d.brings };
        called = d.goes;
        arguments = d.order;
      }
    where
      -- a part of the code is one of it with its types
      of_call : (x : AVal) → IsPartOf x (v ∷ vs) → IsPartOf x (Apply v ts ∷ vs)
      of_call x (inl i) = inl (inr i)
      of_call x (inr i) = inr i
  code_is (If0 v a b) k m g at ap h has =
      let u = used (If0 v a b) in
      let d = over m u in
      let c = holding 0 m u in
      let known = starts m g u ap (λ n y. term_in p k g n (If0 v a b) h y) in
      let few = known_fewer c m d u (uses v) (λ n y. or_left (uses v n) (used a n || used b n) y) known in
      let q = home d (small d m v) in
      let second = code k m (suc at) a in
      let tests = Then (T.Bnz q (T.Plain (T.Label at) (tvars k))) second in
      let s = settled_is (v ∷ []) v c m d d tests (λ x i. inl i) few in
      let in_a : (n : ℕ) → used a n ≡ true → u n ≡ true = λ n y.
      or_right (uses v n) (used a n || used b n) (or_left (used a n) (used b n) y) in
      let in_b : (n : ℕ) → used b n ≡ true → u n ≡ true = λ n y.
      or_right (uses v n) (used a n || used b n) (or_right (used a n) (used b n) y) in
      let ap_a = apart_fewer m g u (used a) in_a ap in
      let ap_b = apart_fewer m g u (used b) in_b ap in
      let third = block k (header (used b) m g) m (suc at + thirds a) b in
      let len = length_extras p k m g (suc at) a in
      let ea = extras p k m g (suc at) a in
      let eb = extras p k m g (suc at + thirds a) b in
      let z : suc at + thirds a ≡ suc at + length ea = omega (arith, len) in (
        record {
          tested = q;
          second = second;
          comes = record {
            moves = s.moves;
            first = s.same;
            few = omega (arith, s.few);
            held = s.held;
            brings = s.brings;
          };
          tests = s.here;
          kept = λ n y lt.
              (let w = known n (or_right (uses v n) (used a n || used b n) y) in
              s.others (place m n) (λ t. absurd (omega (arith, t, w.1))) ∙ w.0);
          third = third;
          found = has.0;
          owes = refl;
          covers = covers m g (used b) ap_b;
        },
        code_is a k m g (suc at) ap_a h.1 (has_front P (suc at) ea eb has.1),
        code_is b k m g (suc at + thirds a) ap_b h.2 (has_back P (suc at) (suc at + thirds a) ea eb z has.1),
      )
  code_is (Halt v) k m g at a h has =
      let u = uses v in
      let d = over m u in
      let c = holding 0 m u in
      let known = starts m g u a (λ n y. term_in p k g n (Halt v) h y) in
      let x = small d m v in
      let r = unnest_is (v ∷ []) v c m d d (Rattle.t_gen_rules.specs.Gen.move 1 x (Ends T.Halt)) (λ y i. inl i) known in
      let q = (move_is (v ∷ []) 1 x v r.held (Ends T.Halt) (inl (whole_part v)) r.here).0 in
      record {
        comes = record {
          moves = r.moves ++ q.moves;
          first = r.same ∙ ap (before r.moves) q.same ∙ sym (before_on r.moves q.moves (Ends T.Halt));
          few = (let z = length-append r.moves q.moves in omega (arith, z, r.few, q.few));
          held = q.held;
          brings = brings_on (v ∷ []) r.moves q.moves c r.held q.held r.brings q.brings;
        };
        answer = q.here;
      }

-- data fields have no variables
none_in : (p : AProg) (v : AVal) (t : ATy) → Has p 0 [] v t → (n : ℕ) → uses v n ≡ true → ⊥
none_in p v t h n u = let l = value_in p 0 [] n v t h u in absurd (omega (arith, l))

plain_applied : (x : TValue) (ts : List Ty) → IsPlain x → IsPlain (applied_to x ts)
plain_applied (T.Plain b us) ts i = tt
plain_applied (T.Pack h v s) ts i = absurd i

unpacked_plain : (v : AVal) → Unpacked v → IsPlain (constant v)
unpacked_plain (Var n) u = tt
unpacked_plain (Num i) u = tt
unpacked_plain (Lab l) u = tt
unpacked_plain (Data n) u = tt
unpacked_plain (Apply v ts) u = plain_applied (constant v) (tys ts) (unpacked_plain v u)
unpacked_plain (Pack h v s) u = absurd u

unpacked_flat : (v : AVal) → Unpacked v → Flat v
unpacked_flat (Var n) u = tt
unpacked_flat (Num i) u = tt
unpacked_flat (Lab l) u = tt
unpacked_flat (Data n) u = tt
unpacked_flat (Apply v ts) u = unpacked_flat v u
unpacked_flat (Pack h v s) u = absurd u

constant_reads : (v : AVal) → ((n : ℕ) → uses v n ≡ true → ⊥) → Flat v → Reads nothing v (constant v)
constant_reads (Var n) u f = absurd (u n (eq-eqb n n refl))
constant_reads (Num i) u f = inr refl
constant_reads (Lab l) u f = inr refl
constant_reads (Data n) u f = inr refl
constant_reads (Apply v ts) u f = inr (constant v, constant_reads v u f, refl)
constant_reads (Pack h v s) u f =
    inr (constant v, constant_reads v u (unpacked_flat v f), unpacked_plain v f, refl)

fields_are : (p : AProg) (x : AConsts) → TypedData p x → Fields x (data_of x)
fields_are p [] h = tt
fields_are p (c ∷ cs) h =
    ((constant_reads c.value (none_in p c.value c.kind h.0.0) h.0.2, refl), fields_are p cs h.1)

tuples_are : (p : AProg) (xs : List AConsts) → TypedTuples p xs → Tuples xs (generated_heap xs)
tuples_are p [] h = tt
tuples_are p (x ∷ xs) h = (fields_are p x h.0, tuples_are p xs h.1)

block_ok : (p : AProg) (bs : List ABlk) (l : ℕ) (b : ABlk) → TypedBlocks p bs → slice_get bs l ≡ Some b →
    TypedTerm p b.owes (types_of b.args []) b.body
block_ok p [] l b h e = cc
block_ok p (x ∷ bs) zero b h e =
    let same : x ≡ b = cc in
    subst (λ z. TypedTerm p z.owes (types_of z.args []) z.body) same h.0.1
block_ok p (x ∷ bs) (suc l) b h e = block_ok p bs l b h.1 e

pub generated_is : GeneratedIsByRules
generated_is p main h =
    let P = generated_blocks p main in
    let at = suc (length p.blocks) in
    let at0 = at + thirds main in
    let fs = Rattle.t_gen_rules.specs.Gen.firsts p.blocks at0 in
    let es = extras p 0 [] [] at main in
    let ss = Rattle.t_gen_rules.specs.Gen.seconds p p.blocks at0 in
    let l1 = length_firsts p.blocks at0 in
    let l2 = length_extras p 0 [] [] at main in
    let all = has_back P 1 at fs (es ++ ss) (omega (arith, l1)) (has_all P).1 in
    let thirds_there = has_back P at at0 es ss (omega (arith, l2)) all in
    let layout = laid_out p main in
    record {
      main_block = record {
        block = block 0 NoRegs [] at main;
        found = refl;
        owes = refl;
        file = refl;
        code = code_is p P main 0 [] [] at (record { same = refl; own = λ i j x y li lj e. absurd (omega arith) })
            h.main_ok (has_front P at es ss all);
      };
      blocks = λ l b e. record {
        block = main_block b (first_of p.blocks at0 l);
        found = layout.blocks l b e;
        owes = refl;
        file = refl;
        code = code_is p P b.body b.owes (rows (arity b.args)) (types_of b.args []) (first_of p.blocks at0 l)
            (apart_args b.args (used b.body)) (block_ok p p.blocks l b h.blocks e)
            (extras_at P p p.blocks at0 l b thirds_there e);
      };
      count = layout.count;
      tuples = tuples_are p p.tuples h.tuples;
    }
