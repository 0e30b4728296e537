-- The generated code has the types of the program, and any property of them that is carried over.
use Rattle.std.proofs.Common.{◌≡◌, ℕ, zero, suc, ◌+◌, ◌-◌, ◌<◌, ◌≤◌, List, [], ◌∷◌, ◌++◌, length, map, Some, refl, sym}
use Rattle.std.proofs.Common.{ap, ◌∙◌, subst, arith, ⊎_elim, slice_get}
use Rattle.std.specs.Prelude.{◌≢◌, ◌==◌, Bool, true, false, not, ◌&&◌, ◌||◌}
use Rattle.std.proofs.lemmas.Bool.{eq-eqb, eqb-true, cond_both, cases_eq, or_cases, or_left, or_right, and_parts}
use Rattle.std.proofs.lemmas.Bool.{and_cases, not-false as true_from_not}
use Rattle.a_terms.specs.Tree.{ATy, AInt, ATuple, ACode, AExists, ATys, NoATys, MoreATys, AVal, Var, Num, Lab, Data}
use Rattle.a_terms.specs.Tree.{Apply, Pack, ADecl, Value, Proj, Arith, Unpack, Malloc, Init, ATm, Let, Call, If0, Halt}
use Rattle.a_terms.specs.Tree.{AProg, ashift, aput, ABelow-types}
use Rattle.a_terms.specs.Typing.{aapply, afield_flag, afilled, aunset, type_of, Fine, or_int, field_of, body_of}
use Rattle.a_terms.specs.Typing.{filled_of, declared, more_vars, TypedDecl, All-have, TypedTerm, types_of}
use Rattle.a_terms.specs.TypeLaws.{All-below, split_code, split_data, split_applied, Args-below, declared_below}
use Rattle.a_terms.specs.TypeLaws.{field_is, filled_is}
use Rattle.a_terms.specs.Each.{AProp, AAll, VEach, VsEach, DEach, TEach}
use Rattle.a_terms.specs.Bound.{thirds}
use Rattle.t_types.specs.Tree.{Ty, IntTy, CodeTy, ExistsTy, TupleTy, TFile}
use Rattle.t_types.specs.Fields.{AField, field, filled, empty_fields}
use Rattle.t_types.specs.Fits.{Fits, FitsFile, RegTypes}
use Rattle.t_types.proofs.FitsLaws.{fields_fit_next, filled_fits, both_filled, field_fits, fits_same, fits_equal}
use Rattle.t_terms.specs.Tree as T
use Rattle.t_terms.specs.Tree.{TValue, TSeq, Then, Ends, TProg}
use Rattle.t_terms.specs.Registers.{with_reg, raised}
use Rattle.t_rules.specs.Rules as R
use Rattle.t_gen_rules.specs.Gen.{ty, ty_args, ty_fields, tys, reg, applied_to, place, inside, small, boxed, unnest}
use Rattle.t_gen_rules.specs.Gen.{stands, move, home, settle, uses, used, over, free, owner, target, other_than}
use Rattle.t_gen_rules.specs.Gen.{decl_code}
use Rattle.t_gen_rules.specs.Gen.{tvars, reads, later, owns, saved, above_saved, instead, places_saved, call_code}
use Rattle.t_gen_rules.specs.Gen.{above}
use Rattle.t_gen_rules.specs.Gen.{code, header, block, extras}
use Rattle.t_gen_laws.specs.TypesEach.{TProp, AllTypes, HasEach, SeqEach}
use Rattle.t_gen_laws.proofs.TypeLaws.{ty_put, ty_field, ty_filled, ty_unset}
use Rattle.t_gen_laws.proofs.Covers.{look_same, look_other, Live, live_kept, live_fewer, live_above, live_next}
use Rattle.t_gen_laws.proofs.Covers.{live_shift, fits_header, Apart, apart_fewer, in_scope, Keeps, live_stays}
use Rattle.t_gen_laws.proofs.Covers.{live_over}
use Rattle.t_gen_laws.proofs.Places.{HasAt, has_front}
use Rattle.t_gen_laws.proofs.Loads.{home_applied, wants, of_code, of_first, of_rest, later_none, owns_stands}
use Rattle.t_gen_laws.proofs.Loads.{place_instead, instead_not}
use Rattle.t_gen_laws.proofs.Free.{top_least, top_place, top_fewer, free_apart, spare_apart}
use Rattle.t_gen_laws.proofs.Values.{below_ty, below_tys, below_header, same_fits, tuple_fits, int_no_tuple}
use Rattle.t_gen_laws.proofs.Values.{code_no_tuple, exists_no_tuple, Labels, has_vars, applied_none, takes_types}
use Rattle.t_gen_laws.proofs.Values.{applied_has, All-of, Carried, some_same}
use Rattle.t_gen_laws.proofs.OneMore.{owner_shared, apart_next, below, next_live}
use Rattle.t_gen_laws.proofs.Moves.{each_has, reg_each, mov_each, box_each, stands_type, move_each, settle_each}

module _ (A : AProp) (N : ℕ → Type 0) (S : ATy → Type 0) (Q : TProp) (C : Carried A N S Q) where
  to_q : (k : ℕ) (t : ATy) (u : Ty) → A k t → Fits u (ty t) → Q k u
  to_q k t u a fit = C.of_type k t u (C.names k t a) (C.part k t a) fit

  pub own_q : (k : ℕ) (t : ATy) → A k t → Q k (ty t)
  own_q k t a = to_q k t (ty t) a (fits_same (ty t))

  pub all_q : (k : ℕ) (ts : ATys) → AAll A k ts → AllTypes Q k (tys ts)
  all_q k NoATys h = tt
  all_q k (MoreATys t ts) h = (own_q k t h.0, all_q k ts h.1)

  parts_shift : (g : List ATy) → All-of S g → All-of S (map (ashift 1 0) g)
  parts_shift [] s = tt
  parts_shift (t ∷ g) s = (C.shifted t s.0, parts_shift g s.1)

  pub parts_args : (k : ℕ) (ts : ATys) (g : List ATy) → AAll A k ts → All-of S g → All-of S (types_of ts g)
  parts_args k NoATys g h s = s
  parts_args k (MoreATys t ts) g h s = parts_args k ts (t ∷ g) h.1 (C.part k t h.0, s)

  tvars_q : (k i : ℕ) → N k → AllTypes Q k (tvars i)
  tvars_q k zero n = tt
  tvars_q k (suc i) n = (C.of_var k i n, tvars_q k i n)

  both_types : (k : ℕ) (us ts : List Ty) → AllTypes Q k us → AllTypes Q k ts → AllTypes Q k (us ++ ts)
  both_types k [] ts a b = b
  both_types k (u ∷ us) ts a b = (a.0, both_types k us ts a.1 b)

  module _ (p : AProg) where
    pub each_type : (k : ℕ) (g : List ATy) (v : AVal) (t : ATy) → VEach A p k g v → type_of p g v ≡ Some t → A k t
    each_type k g (Var n) t h e = subst (λ o. A k (or_int o)) e h
    each_type k g (Num i) t h e = subst (A k) (some_same AInt t e) h
    each_type k g (Lab l) t h e = subst (λ o. A k (or_int o)) e h
    each_type k g (Data n) t h e = subst (λ o. A k (or_int o)) e h
    each_type k g (Apply v ts) t h e = subst (λ o. A k (or_int o)) e h.0
    each_type k g (Pack hid v s) t h e = subst (A k) (some_same s t e) h.0

    each_types : (k : ℕ) (g : List ATy) (vs : List AVal) (us : ATys) → VsEach A p k g vs → All-have p k g vs us →
        AAll A k us
    each_types k g [] NoATys h a = tt
    each_types k g [] (MoreATys t ts) h a = absurd a
    each_types k g (v ∷ vs) NoATys h a = absurd a
    each_types k g (v ∷ vs) (MoreATys t ts) h a = (each_type k g v t h.0 a.0.is, each_types k g vs ts h.1 a.1)

    pub names_in : (k : ℕ) (g : List ATy) (v : AVal) → VEach A p k g v → N k
    names_in k g (Var n) h = C.names k _ h
    names_in k g (Num i) h = C.names k _ h
    names_in k g (Lab l) h = C.names k _ h
    names_in k g (Data n) h = C.names k _ h
    names_in k g (Apply v ts) h = C.names k _ h.0
    names_in k g (Pack hid v s) h = C.names k _ h.0

    pub parts_declared : (k : ℕ) (g : List ATy) (x : ADecl) → DEach A p k g x → TypedDecl p k g x → All-of S g →
        All-of S (declared p g x)
    parts_declared k g (Value v) h d s =
        (C.part k _ (subst (A k) (sym (ap or_int d.1.is)) (each_type k g v d.0 h d.1.is)), s)
    parts_declared k g (Proj i v) h d s = (C.part k _ h.1, s)
    parts_declared k g (Arith o v w) h d s = (C.ints k (names_in k g v h.0), s)
    parts_declared k g (Unpack v) h d s = (C.part (suc k) _ h.1, parts_shift g s)
    parts_declared k g (Malloc ts) h d s = (C.part k _ h.1, s)
    parts_declared k g (Init v i w) h d s = (C.part k _ h.2, s)

    module _ (P : TProg) (labels : Labels p P) where
      pub applied_each : (k : ℕ) (f : RegTypes) (x : TValue) (ts : ATys) (s t : ATy) → aapply s ts ≡ Some t →
          ABelow-types k ts → Q k (ty t) → AllTypes Q k (tys ts) → HasEach Q P k f x (ty s) →
          HasEach Q P k f (applied_to x (tys ts)) (ty t)
      applied_each k f (T.Plain b us) ts s t e z q qs h = (
        applied_has p P labels k f (T.Plain b us) ts s t e z h.0,
        (h.1.0, h.1.1, h.1.2, q, both_types k us (tys ts) h.1.4 qs),
      )
      applied_each k f (T.Pack y v w) NoATys s t e z q qs h =
          let y2 : s ≡ t = cc in subst (λ u. HasEach Q P k f (T.Pack y v w) (ty u)) y2 h
      applied_each k f (T.Pack y v w) (MoreATys u ts) s t e z q qs h =
          let c = takes_types p P labels ts u s t e in
          absurd (clash (sym (ap ty c.2) ∙ h.0.5 ∙ h.0.3))
        where
          clash : {n : ℕ} {f : TFile} {r : Ty} → CodeTy n f ≡ ExistsTy r → ⊥
          clash y = cc

      -- the same of a type that fits: code fits itself alone
      applied_fits : (k : ℕ) (f : RegTypes) (x : TValue) (ts : ATys) (s t : ATy) (u : Ty) → aapply s ts ≡ Some t →
          ABelow-types k ts → Q k (ty t) → AllTypes Q k (tys ts) → HasEach Q P k f x u → Fits u (ty s) →
          (z : Ty) × HasEach Q P k f (applied_to x (tys ts)) z × Fits z (ty t)
      applied_fits k f x NoATys s t u e z q qs h fit =
          let y : s ≡ t = cc in
          (u, subst (λ w. HasEach Q P k f w u) (sym (applied_none p P labels x)) h, subst (λ w. Fits u (ty w)) y fit)
      applied_fits k f x (MoreATys v ts) s t u e z q qs h fit =
          let c = takes_types p P labels ts v s t e in
          let same : u ≡ ty s =
          same_fits u (ty s) fit (λ fs y. code_no_tuple c.0 (ty_args c.1 1) fs (sym (ap ty c.2) ∙ y)) in
          (ty t, applied_each k f x (MoreATys v ts) s t e z q qs (subst (HasEach Q P k f x) same h), fits_same (ty t))

      module _ (k : ℕ) (g : List ATy) where
        unnest_each : (v : AVal) (t : ATy) (f : RegTypes) (m : List ℕ) (b s : ℕ) (rest : TSeq) →
            Live f m g b (uses v) → Fine p k g v → type_of p g v ≡ Some t → VEach A p k g v →
            ((h : RegTypes) (u : Ty) → HasEach Q P k h (small s m v) u → Fits u (ty t) →
            ((q : ℕ) → q ≢ s → h q ≡ f q) → SeqEach Q P k h rest) → SeqEach Q P k f (unnest s m v rest)
        unnest_each (Var n) t f m b s rest c a e h go =
            let l = c n t (eq-eqb n n refl) e in
            go f l.0 (reg_each Q P k f (place m n) l.0 l.1 (to_q k t l.0 (each_type k g (Var n) t h e) l.2)) l.2
            (λ q ne. refl)
        unnest_each (Num i) t f m b s rest c a e h go =
            let q = own_q k t (each_type k g (Num i) t h e) in
            let x = ap ty (sym (some_same AInt t e)) in
            go f (ty t) (x, (ty t, x, q, q, tt)) (fits_same (ty t)) (λ q ne. refl)
        unnest_each (Lab l) t f m b s rest c a e h go =
            let q = own_q k t (each_type k g (Lab l) t h e) in
            let z = split_code (slice_get p.blocks l) t e in
            let lab = labels.blocks l z.0 z.1 in
            let same = sym (ap ty z.2) ∙ lab.2 in
            go f (ty t) ((lab.0, lab.1, same), (ty t, (lab.0, lab.1, same), q, q, tt)) (fits_same (ty t)) (λ q ne. refl)
        unnest_each (Data n) t f m b s rest c a e h go =
            let q = own_q k t (each_type k g (Data n) t h e) in
            let z = split_data (slice_get p.tuples n) t e in
            let lab = labels.tuples n z.0 z.1 in
            let same = sym (ap ty z.2) ∙ lab.2 in
            go f (ty t) ((lab.0, lab.1, same), (ty t, (lab.0, lab.1, same), q, q, tt)) (fits_same (ty t)) (λ q ne. refl)
        unnest_each (Apply v ts) t f m b s rest c a e h go =
            let q = own_q k t (each_type k g (Apply v ts) t h e) in
            let z = split_applied (type_of p g v) ts t e in
            unnest_each v z.0 f m b s rest c a.0 z.1 h.1 (λ f2 u x fit o.
            let r = applied_fits k f2 (small s m v) ts z.0 t u z.2 a.1 q (all_q k ts h.2) x fit in
            go f2 r.0 r.1 r.2 o)
        unnest_each (Pack hid v w) t f m b s rest c a e he go =
            let q = own_q k t (each_type k g (Pack hid v w) t he e) in
            let u0 = a.0 in
            let y : w ≡ t = cc in
            let inner = each_type k g v (aput 0 hid u0) he.2 a.5 in
            unnest_each v (aput 0 hid u0) f m b s (boxed s (small s m v) rest) c a.1 a.5 he.2 (λ f2 u x fit o.
            let qu = to_q k (aput 0 hid u0) u inner fit in
            box_each Q P k f2 s (small s m v) u rest x qu (λ f3 z o2.
            let has : R.Has P k f3 (T.Pack (ty hid) (inside s (small s m v)) (ty w)) (ty t) = (
              ty u0,
              u,
              each_has Q P k f3 (inside s (small s m v)) u z,
              ap ty a.4,
              subst (Fits u) (ty_put u0 0 hid) fit,
              ap ty (sym y),
              below_ty hid k a.2,
              below_ty w k a.3,
            ) in
            go f3 (ty t) (has, (u, z, own_q k hid he.1, q)) (fits_same (ty t)) (λ q ne. o2 q ne ∙ o q ne)))

        settled_each : (v : AVal) (t : ATy) (f : RegTypes) (m : List ℕ) (b s : ℕ) (rest : TSeq) →
            Live f m g b (uses v) → Fine p k g v → type_of p g v ≡ Some t → VEach A p k g v →
            ((h : RegTypes) (u : Ty) → h (home s (small s m v)) ≡ Some u → Fits u (ty t) →
            ((q : ℕ) → q ≢ s → h q ≡ f q) → SeqEach Q P k h rest) →
            SeqEach Q P k f (unnest s m v (settle s (small s m v) rest))
        settled_each v t f m b s rest c a e h go =
            unnest_each v t f m b s (settle s (small s m v) rest) c a e h (λ f2 u x fit o.
            settle_each Q P k f2 s (small s m v) u rest x (λ f3 y o2. go f3 u y fit (λ q ne. o2 q ne ∙ o q ne)))

        home_low : (v : AVal) (t : ATy) (f : RegTypes) (m : List ℕ) (b s : ℕ) → Live f m g b (uses v) → Fine p k g v →
            type_of p g v ≡ Some t → b ≤ s → home s (small s m v) ≤ s
        home_low (Var n) t f m b s c a e le = let l = c n t (eq-eqb n n refl) e in omega (arith, l.3)
        home_low (Num i) t f m b s c a e le = omega arith
        home_low (Lab l) t f m b s c a e le = omega arith
        home_low (Data n) t f m b s c a e le = omega arith
        home_low (Apply v ts) t f m b s c a e le =
            let z = split_applied (type_of p g v) ts t e in
            let r = home_low v z.0 f m b s c a.0 z.1 le in
            ⊎_elim (λ x. omega (arith, x, r)) (λ x. omega (arith, x)) (home_applied s (small s m v) (tys ts))
        home_low (Pack hid v w) t f m b s c a e le = omega arith

        -- to put a variable into its own register changes none
        owner_kept : (v : AVal) (t : ATy) (u : Ty) (s : ℕ) (f h : RegTypes) (m : List ℕ) (b : ℕ) (w : ℕ → Bool)
            (e : ATm) → Live f m g b (uses v) → type_of p g v ≡ Some t → HasEach Q P k f (small s m v) u →
            h (owner m v w e) ≡ Some u → ((q : ℕ) → q ≢ owner m v w e → h q ≡ f q) → Keeps f h m w
        owner_kept (Var n) t u s f h m b w e c x has here o =
            cond_both (used e (suc n) && used e 0) (free m w e) (place m n)
            (λ r. h r ≡ Some u → ((q : ℕ) → q ≢ r → h q ≡ f q) → Keeps f h m w)
            (λ z at_r o2 i y. o2 (place m i) (λ z. absurd (free_apart m w e i y z)))
            (λ z at_r o2 i y.
            let own = c n t (eq-eqb n n refl) x in
            ⊎_elim (λ z. ap h z ∙ at_r ∙ sym has.0 ∙ ap f (sym z)) (λ ne. o2 (place m i) ne)
            (cases_eq (place m i) (place m n))) here o
        owner_kept (Num i) t u s f h m b w e c x has here o =
            λ i y. o (place m i) (λ z. absurd (free_apart m w e i y z))
        owner_kept (Lab l) t u s f h m b w e c x has here o =
            λ i y. o (place m i) (λ z. absurd (free_apart m w e i y z))
        owner_kept (Data l) t u s f h m b w e c x has here o =
            λ i y. o (place m i) (λ z. absurd (free_apart m w e i y z))
        owner_kept (Apply v ts) t u s f h m b w e c x has here o =
            λ i y. o (place m i) (λ z. absurd (free_apart m w e i y z))
        owner_kept (Pack y v z) t u s f h m b w e c x has here o =
            λ i y. o (place m i) (λ z. absurd (free_apart m w e i y z))

        named_each : (v : AVal) (t : ATy) (f : RegTypes) (m : List ℕ) (b s : ℕ) (w : ℕ → Bool) (e : ATm)
            (rest : TSeq) → b ≤ s → ((n : ℕ) → w n ≡ true → place m n < b) → Live f m g b (uses v) → Fine p k g v →
            type_of p g v ≡ Some t → VEach A p k g v →
            ((h : RegTypes) (u : Ty) → h (owner m v w e) ≡ Some u → Fits u (ty t) → Keeps f h m w →
            SeqEach Q P k h rest) → SeqEach Q P k f (unnest s m v (move (owner m v w e) (small s m v) rest))
        named_each v t f m b s w e rest le far c a x h go =
            let r = owner m v w e in
            unnest_each v t f m b s (move r (small s m v) rest) c a x h (λ f2 u y fit o.
            let same : (q : ℕ) → q < b → f2 q ≡ f q = λ q l. o q (λ z. absurd (omega arith)) in
            move_each Q P k f2 r (small s m v) u rest y (λ f3 here o2.
            let own = owner_kept v t u s f2 f3 m b w e (live_kept f f2 m g b (uses v) same c) x y here o2 in
            go f3 u here fit (λ n z. own n z ∙ same (place m n) (far n z))))

        decl_each : (x : ADecl) (e : ATm) (f : RegTypes) (m : List ℕ) (rest : TSeq) → Apart m g (used (Let x e)) →
            Live f m g (over m (used (Let x e))) (used (Let x e)) → TypedDecl p k g x → DEach A p k g x →
            ((h : RegTypes) → Live h (target m x e ∷ m) (declared p g x) (over (target m x e ∷ m) (used e)) (used e) →
            SeqEach Q P (more_vars x k) h rest) →
            SeqEach Q P k f (decl_code (over m (used (Let x e))) m (target m x e) x rest)
        decl_each (Value v) e f m rest ap_ c a h go =
            let d = over m (used (Let (Value v) e)) in
            let few = live_fewer f m g d (used (Let (Value v) e)) (uses v)
            (λ n y. or_left (uses v n) (used e (suc n)) y) c in
            named_each v a.0 f m d d (λ n. used e (suc n)) e rest (omega arith) (below m (Value v) e) few a.1.fine
            a.1.is h (λ f2 u here fit same.
            let fit2 : Fits u (ty (or_int (type_of p g v))) = subst (λ t. Fits u (ty t)) (sym (ap or_int a.1.is)) fit in
            go f2 (live_next f2 m g d (used e) (owner m v (λ n. used e (suc n)) e) (or_int (type_of p g v)) u
            (live_stays f f2 m g d (λ n. used e (suc n)) same
            (live_fewer f m g d (used (Let (Value v) e)) (λ n. used e (suc n))
            (λ n y. or_right (uses v n) (used e (suc n)) y) c)) here fit2))
        decl_each (Proj i v) e f m rest ap_ c a h go =
            let d = over m (used (Let (Proj i v) e)) in
            let r = free m (λ n. used e (suc n)) e in
            let fs = a.0 in
            let n : a.1 ≡ i - 1 = omega (arith, a.4) in
            let ft = subst (λ m. field (ty_fields fs) m ≡ Some (AField (ty a.2) true)) n
            (ty_field fs a.1 a.2 a.5 ∙ ap (λ z. Some (AField (ty a.2) z)) a.6) in
            let few = live_fewer f m g d (used (Let (Proj i v) e)) (uses v)
            (λ n y. or_left (uses v n) (used e (suc n)) y) c in
            settled_each v (ATuple fs) f m d r (Then (T.Ld r (home r (small r m v)) (i - 1)) rest) few a.3.fine a.3.is
            h.0 (λ f2 u x fit o.
            let tup = tuple_fits u (ty_fields fs) fit in
            let at_i = field_fits tup.0 (ty_fields fs) (i - 1) (ty a.2) true tup.2 ft in
            let there = x ∙ ap Some tup.1 in
            let read = at_i.1 ∙ ap (λ z. Some (AField (ty a.2) z)) (at_i.2 refl) in
            let same = field_is i a.1 fs a.2 (type_of p g v) a.3.is a.4 a.5 in
            let q : Q k (ty a.2) = own_q k a.2 (subst (A k) same h.1) in
            let fit2 = fits_equal (ty a.2) (ty (field_of i (type_of p g v))) (ap ty (sym same)) in (
              with_reg f2 r (ty a.2),
              (tup.0, ty a.2, there, read, refl),
              (ty a.2, (tup.0, ty a.2, there, read, refl), q),
              go (with_reg f2 r (ty a.2))
                  (next_live g f f2 m (Proj i v) e (field_of i (type_of p g v)) (ty a.2) c
                  (λ n y. o (place m n) (λ z. absurd (free_apart m (λ n. used e (suc n)) e n y z))) fit2),
            ))
        decl_each (Arith op v w) e f m rest ap_ c a h go =
            let d = over m (used (Let (Arith op v w) e)) in
            let to = free m (λ n. used e (suc n)) e in
            let r = home d (small d m v) in
            let last = T.Arith op to r (small (suc d) m w) in
            let few = live_fewer f m g d (used (Let (Arith op v w) e)) (uses v)
            (λ n y. or_left (uses v n || uses w n) (used e (suc n)) (or_left (uses v n) (uses w n) y)) c in
            let few2 = live_fewer f m g d (used (Let (Arith op v w) e)) (uses w)
            (λ n y. or_left (uses v n || uses w n) (used e (suc n)) (or_right (uses v n) (uses w n) y)) c in
            let low = home_low v AInt f m d d few a.0.fine a.0.is (omega arith) in
            settled_each v AInt f m d d (unnest (suc d) m w (Then last rest)) few a.0.fine a.0.is h.0 (λ f2 u x fit o.
            unnest_each w AInt f2 m d (suc d) (Then last rest)
            (live_kept f f2 m g d (uses w) (λ q lt. o q (λ z. absurd (omega arith))) few2) a.1.fine a.1.is h.1
            (λ f3 u2 y fit2 o2.
            let left : f3 r ≡ Some IntTy =
            o2 r (λ z. absurd (omega (arith, low))) ∙ x ∙ ap Some (same_fits u IntTy fit int_no_tuple) in
            let right = subst (HasEach Q P k f3 (small (suc d) m w)) (same_fits u2 IntTy fit2 int_no_tuple) y in (
              with_reg f3 to IntTy,
              (left, each_has Q P k f3 (small (suc d) m w) IntTy right, refl),
              right,
              go (with_reg f3 to IntTy)
                  (next_live g f f3 m (Arith op v w) e AInt IntTy c
                  (λ n y. (let lt = below m (Arith op v w) e n y in o2 (place m n) (λ z. absurd (omega (arith, lt)))
                  ∙ o (place m n) (λ z. absurd (omega (arith, lt))))) refl),
            )))
        decl_each (Unpack v) e f m rest ap_ c a h go =
            let d = over m (used (Let (Unpack v) e)) in
            let r = free m (λ n. used e (suc n)) e in
            let few = live_fewer f m g d (used (Let (Unpack v) e)) (uses v)
            (λ n y. or_left (uses v n) (used e (suc n)) y) c in
            unnest_each v (AExists a.0) f m d r (Then (T.Unpack r (small r m v)) rest) few a.1.fine a.1.is h.0
            (λ f2 u x fit o.
            let y = subst (HasEach Q P k f2 (small r m v))
            (same_fits u (ExistsTy (ty a.0)) fit (exists_no_tuple (ty a.0))) x in
            let f3 = raised f2 in
            let f4 = with_reg f3 r (ty a.0) in
            let g2 = map (ashift 1 0) g in
            let t = body_of (type_of p g v) in
            let qt : Q (suc k) (ty a.0) = own_q (suc k) a.0 (subst (λ o. A (suc k) (body_of o)) a.1.is h.1) in
            let c2 = live_stays f f2 m g d (λ n. used e (suc n))
            (λ n y. o (place m n) (λ z. absurd (free_apart m (λ n. used e (suc n)) e n y z)))
            (live_fewer f m g d (used (Let (Unpack v) e)) (λ n. used e (suc n))
            (λ n y. or_right (uses v n) (used e (suc n)) y) c) in
            let c3 = live_stays f3 f4 m g2 d (λ n. used e (suc n))
            (λ n y. look_other f3 r (place m n) (ty a.0)
            (λ z. absurd (free_apart m (λ n. used e (suc n)) e n y z)))
            (live_shift f2 m g d (λ n. used e (suc n)) c2) in
            let fit2 = fits_equal (ty a.0) (ty t) (ap (λ s. ty (body_of s)) (sym a.1.is)) in
            let more : suc k ≡ k + 1 = omega arith in (
              f4,
              (ty a.0, each_has Q P k f2 (small r m v) (ExistsTy (ty a.0)) y, refl),
              (ty a.0, y, qt),
              subst (λ m. SeqEach Q P m f4 rest) more
                  (go f4 (live_next f4 m g2 d (used e) r t (ty a.0) c3 (look_same f3 r (ty a.0)) fit2)),
            ))
        decl_each (Malloc ts) e f m rest ap_ c a h go =
            let d = free m (λ n. used e (suc n)) e in
            let u = TupleTy (empty_fields (tys ts)) in
            let fit = fits_equal u (ty (ATuple (aunset ts))) (ap TupleTy (sym (ty_unset ts))) in (
              with_reg f d u,
              (refl, below_tys ts k a),
              (all_q k ts h.0, subst (λ fs. Q k (TupleTy fs)) (ty_unset ts) (own_q k (ATuple (aunset ts)) h.1)),
              go (with_reg f d u) (next_live g f f m (Malloc ts) e (ATuple (aunset ts)) u c (λ n y. refl) fit),
            )
        decl_each (Init v i w) e f m rest ap_ c a h go =
            let all = used (Let (Init v i w) e) in
            let d = over m all in
            let more : (n : ℕ) → (uses w n || used e (suc n)) ≡ true → used (Let (Init v i w) e) n ≡ true =
            λ n y. ⊎_elim (λ z. or_left (uses v n || uses w n) (used e (suc n)) (or_right (uses v n) (uses w n) z))
            (λ z. or_right (uses v n || uses w n) (used e (suc n)) z) (or_cases (uses w n) (used e (suc n)) y) in
            let far : (n : ℕ) → (uses w n || used e (suc n)) ≡ true → place m n < d =
            λ n y. (let t = top_place 0 m all n (more n y) in omega (arith, t)) in
            let fs = a.0 in
            let n : a.1 ≡ i - 1 = omega (arith, a.5) in
            let ft = subst (λ m. field (ty_fields fs) m ≡ Some (AField (ty a.2) (afield_flag fs a.1))) n
            (ty_field fs a.1 a.2 a.6) in
            let r = owner m v (λ n. uses w n || used e (suc n)) e in
            let at = other_than r d in
            let own = spare_apart r d in
            let at_w = home at (small at m w) in
            let last = T.St r (i - 1) at_w in
            let few = live_fewer f m g d (used (Let (Init v i w) e)) (uses v)
            (λ n y. or_left (uses v n || uses w n) (used e (suc n)) (or_left (uses v n) (uses w n) y)) c in
            let few2 = live_fewer f m g d (used (Let (Init v i w) e)) (uses w)
            (λ n y. or_left (uses v n || uses w n) (used e (suc n)) (or_right (uses v n) (uses w n) y)) c in
            named_each v (ATuple fs) f m d at (λ n. uses w n || used e (suc n)) e
            (unnest at m w (settle at (small at m w) (Then last rest))) own.0 far few a.3.fine a.3.is h.0
            (λ f2 u here fit same.
            settled_each w a.2 f2 m d at (Then last rest)
            (live_stays f f2 m g d (uses w) (λ n y. same n (or_left (uses w n) (used e (suc n)) y)) few2) a.4.fine
            a.4.is h.1 (λ f3 u2 y fit2 o2.
            let tup = tuple_fits u (ty_fields fs) fit in
            let at_i = field_fits tup.0 (ty_fields fs) (i - 1) (ty a.2) (afield_flag fs a.1) tup.2 ft in
            let z = TupleTy (filled tup.0 (i - 1)) in
            let f4 = with_reg f3 r z in
            let there : f3 r ≡ Some (TupleTy tup.0) = o2 r own.2 ∙ here ∙ ap Some tup.1 in
            let after = filled_is i a.1 fs (type_of p g v) a.3.is a.5 in
            let new : TupleTy (filled (ty_fields fs) (i - 1)) ≡ ty (ATuple (afilled fs a.1)) =
            ap (λ m. TupleTy (filled (ty_fields fs) m)) (sym n) ∙ ap TupleTy (sym (ty_filled fs a.1)) in
            let fit_new : Fits z (ty (ATuple (afilled fs a.1))) =
            subst (Fits z) new (both_filled tup.0 (ty_fields fs) (i - 1) tup.2) in
            let fit_old : Fits z (ty (ATuple fs)) =
            fields_fit_next (filled tup.0 (i - 1)) tup.0 (ty_fields fs) (filled_fits tup.0 (i - 1)) tup.2 in
            let qz : Q k z = to_q k (ATuple (afilled fs a.1)) z (subst (A k) after h.2) fit_new in
            let others : Live f4 m g d (λ n. used e (suc n)) = λ j t b x.
            (let b2 = or_right (uses v j || uses w j) (used e (suc j)) b in
            let b3 = or_right (uses w j) (used e (suc j)) b in
            let l = c j t b2 x in
            ⊎_elim
            (λ (eq : place m j ≡ r).
            let s = owner_shared v m (λ n. uses w n || used e (suc n)) e j b3 eq in
            let is_var = subst (λ v. type_of p g v ≡ Some (ATuple fs)) s.1 a.3.is in
            let used_var =
            or_left (uses v s.0 || uses w s.0) (used e (suc s.0))
            (or_left (uses v s.0) (uses w s.0) (subst (λ v. uses v s.0 ≡ true) (sym s.1) (eq-eqb s.0 s.0 refl))) in
            let one : j ≡ s.0 =
            ap_.own j s.0 b2 used_var (in_scope m g (used (Let (Init v i w) e)) j t ap_ x)
            (in_scope m g (used (Let (Init v i w) e)) s.0 (ATuple fs) ap_ is_var) s.2 in
            let t_is : ATuple fs ≡ t = some_same (ATuple fs) t (sym is_var ∙ ap (slice_get g) (sym one) ∙ x) in
            (z, ap f4 eq ∙ look_same f3 r z, subst (λ t. Fits z (ty t)) t_is fit_old, l.3))
            (λ ne. (
              l.0,
              look_other f3 r (place m j) z ne ∙ o2 (place m j) (λ q. absurd (omega (arith, l.3, own.0)))
                  ∙ same j b3 ∙ l.1,
              l.2,
              l.3,
            ))
            (cases_eq (place m j) r)) in
            let fit3 : Fits z (ty (filled_of i (type_of p g v))) = subst (λ t. Fits z (ty t)) (sym after) fit_new in (
              f4,
              (tup.0, ty a.2, at_i.0, u2, there, at_i.1, y, fit2, refl),
              (tup.0, there, qz),
              go f4 (live_next f4 m g d (used e) r (filled_of i (type_of p g v)) z others (look_same f3 r z) fit3),
            )))

        -- the type of a register that is read
        reads_type : (v : AVal) (t : ATy) (f : RegTypes) (m : List ℕ) (b r : ℕ) → Live f m g b (uses v) →
            Fine p k g v → type_of p g v ≡ Some t → VEach A p k g v → reads r m v ≡ true → (u : Ty) × (f r ≡ Some u)
            × Q k u
        reads_type (Var n) t f m b r c a e h z =
            let l = c n t (eq-eqb n n refl) e in
            (l.0, ap f (sym (eqb-true (place m n) r z)) ∙ l.1, to_q k t l.0 (each_type k g (Var n) t h e) l.2)
        reads_type (Num i) t f m b r c a e h z = cc
        reads_type (Lab l) t f m b r c a e h z = cc
        reads_type (Data n) t f m b r c a e h z = cc
        reads_type (Apply v ts) t f m b r c a e h z =
            let s = split_applied (type_of p g v) ts t e in reads_type v s.0 f m b r c a.0 s.1 h.1 z
        reads_type (Pack hid v w) t f m b r c a e h z = reads_type v (aput 0 hid a.0) f m b r c a.1 a.5 h.2 z

        module _ (c : AVal) (s0 : ATy) (ts us0 : ATys) (c_fine : Fine p k g c) (c_is : type_of p g c ≡ Some s0)
            (c_each : VEach A p k g c) (ts_below : ABelow-types k ts) (applies : aapply s0 ts ≡ Some (ACode 0 us0))
            (qts : AllTypes Q k (tys ts)) (qcode : Q k (CodeTy 0 (ty_args us0 1))) where
          later_type : (vs : List AVal) (us : ATys) (f : RegTypes) (m : List ℕ) (b r : ℕ) → Live f m g b (wants c vs) →
              All-have p k g vs us → VsEach A p k g vs → later r m vs c ≡ true → (u : Ty) × (f r ≡ Some u) × Q k u
          later_type [] us f m b r l a h z =
              reads_type c s0 f m b r (live_fewer f m g b (wants c []) (uses c) (of_code c []) l) c_fine c_is c_each z
          later_type (v ∷ vs) NoATys f m b r l a h z = absurd a
          later_type (v ∷ vs) (MoreATys t us) f m b r l a h z =
              ⊎_elim
              (λ y. reads_type v t f m b r (live_fewer f m g b (wants c (v ∷ vs)) (uses v) (of_first c v vs) l)
              a.0.fine a.0.is h.0 y)
              (λ y. later_type vs us f m b r (live_fewer f m g b (wants c (v ∷ vs)) (wants c vs) (of_rest c v vs) l)
              a.1 h.1 y)
              (or_cases (reads r m v) (later r m vs c) z)

          -- the end of a call, whose arguments stand in the registers from j on
          abbrev Ending : RegTypes → ℕ → ATys → Type 0
          Ending f j us =
              (h : RegTypes) (x : TValue) → HasEach Q P k h x (CodeTy 0 (ty_args us0 1)) → FitsFile h (ty_args us j) →
              ((q : ℕ) → q < j → h q ≡ f q) → SeqEach Q P k h (Ends (T.Jmp x))

          abbrev Rest-each : List AVal → ℕ → ATys → Type 0
          Rest-each vs j us =
              (b : ℕ) (m : List ℕ) (f : RegTypes) → j + length vs ≤ b → Live f m g b (wants c vs) → Ending f j us →
              SeqEach Q P k f (call_code j b m vs c (tys ts))

          module _ (v : AVal) (vs : List AVal) (j : ℕ) (t : ATy) (us : ATys) (v_fine : Fine p k g v)
              (v_is : type_of p g v ≡ Some t) (v_each : VEach A p k g v) (rec : Rest-each vs (suc j) us) where
            argument_each : (b : ℕ) (m : List ℕ) (f : RegTypes) → j + length (v ∷ vs) ≤ b →
                Live f m g b (wants c (v ∷ vs)) →
                ((n : ℕ) (x : ATy) → wants c vs n ≡ true → slice_get g n ≡ Some x → place m n ≡ j →
                stands j (small b m v) ≡ true) → Ending f j (MoreATys t us) →
                SeqEach Q P k f (unnest b m v (move j (small b m v) (call_code (suc j) b m vs c (tys ts))))
            argument_each b m f le l read go =
                let x = small b m v in
                let rest = call_code (suc j) b m vs c (tys ts) in
                unnest_each v t f m b b (move j x rest)
                (live_fewer f m g b (wants c (v ∷ vs)) (uses v) (of_first c v vs) l) v_fine v_is v_each
                (λ f2 u y fit o.
                move_each Q P k f2 j x u rest y (λ f3 here o2.
                let live : Live f3 m g b (wants c vs) = λ n z w e.
                (let own = l n z (of_rest c v vs n w) e in
                let kept : f3 (place m n) ≡ Some own.0 =
                ⊎_elim
                (λ eq. ap f3 eq ∙ here ∙ sym (stands_type Q P k f2 j x u (read n z w e eq) y)
                ∙ o j (λ q. absurd (omega arith)) ∙ ap f (sym eq) ∙ own.1)
                (λ ne. o2 (place m n) ne ∙ o (place m n) (λ q. absurd (omega (arith, own.3))) ∙ own.1)
                (cases_eq (place m n) j) in
                (own.0, kept, own.2, own.3)) in
                rec b m f3 (omega arith) live (λ h z has file below.
                go h z has ((u, below j (omega arith) ∙ here, fit), file)
                (λ q lt. below q (omega arith) ∙ o2 q (λ z. absurd (omega arith))
                ∙ o q (λ z. absurd (omega arith))))))

            saved_each : (b : ℕ) (m : List ℕ) (f : RegTypes) → 1 ≤ j → j + length (v ∷ vs) ≤ b →
                Live f m g b (wants c (v ∷ vs)) → All-have p k g vs us → VsEach A p k g vs → (lost : Bool) →
                (not (owns j m v) && later j m vs c) ≡ lost → Ending f j (MoreATys t us) →
                SeqEach Q P k f
                (saved lost b j
                (unnest (above_saved lost b) (places_saved lost b j m) v
                (move j (small (above_saved lost b) (places_saved lost b j m) v)
                (call_code (suc j) (above_saved lost b) (places_saved lost b j m) vs c (tys ts)))))
            saved_each b m f one le l a h false e go =
                argument_each b m f le l
                (λ n i q z w. ⊎_elim (λ y. stood y) (λ y. absurd (later_none vs c j m n y q w))
                (and_cases (not (owns j m v)) (later j m vs c) e)) go
              where
                stood : not (owns j m v) ≡ false → stands j (small b m v) ≡ true
                stood e = owns_stands v j b m (true_from_not (owns j m v) e)
            saved_each b m f one le l a h true e go =
                let e2 = and_parts (not (owns j m v)) (later j m vs c) e in
                let own_j = later_type vs us f m b j
                (live_fewer f m g b (wants c (v ∷ vs)) (wants c vs) (of_rest c v vs) l) a h e2.1 in
                let l2 = map (instead b j) m in
                let rest =
                unnest (suc b) l2 v (move j (small (suc b) l2 v) (call_code (suc j) (suc b) l2 vs c (tys ts))) in
                mov_each Q P k f b (reg j) own_j.0 rest (reg_each Q P k f j own_j.0 own_j.1 own_j.2) (λ f2 here o.
                let live : Live f2 l2 g (suc b) (wants c (v ∷ vs)) = λ n i r z.
                (let own = l n i r z in
                let pl = place_instead m b j n one in
                let new = instead_not b j (place m n) (omega arith) own.3 in
                let held : f2 (instead b j (place m n)) ≡ f (place m n) =
                cond_both (place m n == j) b (place m n) (λ x. f2 x ≡ f (place m n))
                (λ q. here ∙ sym own_j.1 ∙ ap f (sym (eqb-true (place m n) j q)))
                (λ q. o (place m n) (λ z. absurd (omega (arith, own.3)))) in
                (own.0, ap f2 pl ∙ held ∙ own.1, own.2, omega (arith, pl, new.1))) in
                argument_each (suc b) l2 f2 (omega arith) live (λ n i q z r.
                (let own = l n i (of_rest c v vs n q) z in
                absurd ((instead_not b j (place m n) (omega arith) own.3).0 (sym (place_instead m b j n one) ∙ r))))
                (λ h2 x has file below.
                go h2 x has file (λ q lt. below q lt ∙ o q (λ z. absurd (omega arith)))))

          call_each : (vs : List AVal) (us : ATys) (j b : ℕ) (m : List ℕ) (f : RegTypes) → 1 ≤ j → j + length vs ≤ b →
              Live f m g b (wants c vs) → All-have p k g vs us → VsEach A p k g vs → Ending f j us →
              SeqEach Q P k f (call_code j b m vs c (tys ts))
          call_each [] NoATys j b m f one le l a h go =
              unnest_each c s0 f m b b (Ends (T.Jmp (applied_to (small b m c) (tys ts))))
              (live_fewer f m g b (wants c []) (uses c) (of_code c []) l) c_fine c_is c_each (λ f2 u x fit o.
              let r = applied_fits k f2 (small b m c) ts s0 (ACode 0 us0) u applies ts_below qcode qts x fit in
              let same = same_fits r.0 (CodeTy 0 (ty_args us0 1)) r.2 (code_no_tuple 0 (ty_args us0 1)) in
              go f2 (applied_to (small b m c) (tys ts))
              (subst (HasEach Q P k f2 (applied_to (small b m c) (tys ts))) same r.1) tt
              (λ q lt. o q (λ z. absurd (omega arith))))
          call_each [] (MoreATys t us) j b m f one le l a h go = absurd a
          call_each (v ∷ vs) NoATys j b m f one le l a h go = absurd a
          call_each (v ∷ vs) (MoreATys t us) j b m f one le l a h go =
              saved_each v vs j t us a.0.fine a.0.is h.0
              (λ b2 m2 f2 le2 l2 go2. call_each vs us (suc j) b2 m2 f2 (omega arith) le2 l2 a.1 h.1 go2) b m f one
              le l a.1 h.1 (not (owns j m v) && later j m vs c) refl go

      module _ (ok : Args-below p) where
        pub term_each : (e : ATm) (k : ℕ) (g : List ATy) (m : List ℕ) (at : ℕ) (f : RegTypes) → Apart m g (used e) →
            Live f m g (over m (used e)) (used e) → All-below k g → TypedTerm p k g e → TEach A p k g e → All-of S g →
            HasAt P.blocks at (extras p k m g at e) → SeqEach Q P k f (code k m at e)
        term_each (Let x e) k g m at f ap_ c b t te sm has =
            decl_each k g x e f m (code (more_vars x k) (target m x e ∷ m) at e) ap_ c t.0 te.0 (λ f2 c2.
            term_each e (more_vars x k) (declared p g x) (target m x e ∷ m) at f2 (apart_next p k g m x e ap_ t.0) c2
            (declared_below p ok k g b x t.0) t.1 te.1 (parts_declared k g x te.0 t.0 sm) has)
        term_each (Call v ts vs) k g m at f ap_ c b t te sm has =
            let us = t.1 in
            let kn = names_in k g v te.0 in
            let qcode = C.of_call k us kn (each_types k g vs us te.2 t.5) in
            call_each k g v t.0 ts us t.2.fine t.2.is te.0 t.3 t.4 (all_q k ts te.1) qcode vs us 1 (above m v vs) m f
            (omega arith) (omega (arith, top_least (length vs) m (used (Call v ts vs))))
            (live_above f m g (over m (used (Call v ts vs))) (above m v vs) (used (Call v ts vs))
            (omega (
              arith,
              top_fewer 0 (length vs) m (used (Call v ts vs)) (used (Call v ts vs)) (λ n y. y)
                  (omega arith),
            )) c) t.5 te.2 (λ h x y file below.
            ((ty_args us 1, each_has Q P k h x (CodeTy 0 (ty_args us 1)) y, file), (ty_args us 1, y)))
        term_each (If0 v x y) k g m at f ap_ c b t te sm has =
            let d = over m (used (If0 v x y)) in
            let rest = code k m (suc at) x in
            let kn = names_in k g v te.0 in
            let file = header (used y) m g in
            let jumps = T.Bnz (home d (small d m v)) (T.Plain (T.Label at) (tvars k)) in
            let there = block k file m (suc at + thirds x) y in
            let few = live_fewer f m g d (used (If0 v x y)) (uses v)
            (λ n z. or_left (uses v n) (used x n || used y n) z) c in
            settled_each k g v AInt f m d d (Then jumps rest) few t.0.fine t.0.is te.0 (λ f2 u l fit o.
            let c2 = live_kept f f2 m g d (used (If0 v x y)) (λ q lt. o q (λ z. absurd (omega arith))) c in
            let cx = live_over f2 m g d (used x)
            (live_fewer f2 m g d (used (If0 v x y)) (used x)
            (λ n z. or_right (uses v n) (used x n || used y n) (or_left (used x n) (used y n) z)) c2) in
            let cy = live_fewer f2 m g d (used (If0 v x y)) (used y)
            (λ n z. or_right (uses v n) (used x n || used y n) (or_right (used x n) (used y n) z)) c2 in
            let apx = apart_fewer m g (used (If0 v x y)) (used x)
            (λ n z. or_right (uses v n) (used x n || used y n) (or_left (used x n) (used y n) z)) ap_ in
            let target =
            has_vars p P labels f2 (T.Label at) k file (below_header k (used y) m g b) (there, has.0, refl) in
            let int = l ∙ ap Some (same_fits u IntTy fit int_no_tuple) in (
              f2,
              (int, (file, target, fits_header f2 m g d (used y) cy), refl),
              (
                file,
                (
                  target,
                  (
                    CodeTy k file,
                    (there, has.0, refl),
                    C.of_third k k (used y) m g kn kn sm,
                    C.of_third k 0 (used y) m g kn (C.none k kn) sm,
                    tvars_q k k kn,
                  ),
                ),
              ),
              term_each x k g m (suc at) f2 apx cx b t.1 te.1 sm
                  (has_front P.blocks (suc at) (extras p k m g (suc at) x) _ has.1),
            ))
        term_each (Halt v) k g m at f ap_ c b t te sm has =
            let d = over m (uses v) in
            unnest_each k g v AInt f m d d (move 1 (small d m v) (Ends T.Halt)) c t.fine t.is te (λ f2 u x fit o.
            move_each Q P k f2 1 (small d m v) u (Ends T.Halt) x
            (λ f3 here o2. (here ∙ ap Some (same_fits u IntTy fit int_no_tuple), tt)))
