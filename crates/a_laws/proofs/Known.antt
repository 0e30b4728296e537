-- Where allocation takes a value for a constant it is one, and its data tuples stand for the tuples of constants.
use Rattle.std.proofs.Common.{◌≡◌, ◌⊎◌, inl, inr, ℕ, zero, suc, ◌+◌, List, [], ◌∷◌, ◌++◌, length, Option, Some, None}
use Rattle.std.proofs.Common.{refl, sym, ap, ◌∙◌, subst, arith, length-append}
use Rattle.std.specs.Prelude.{Bool, true, false, ◌&&◌, not, option_map, slice_get}
use Rattle.a_laws.proofs.Consts.{Within, back, front, more_len}
use Rattle.a_laws.specs.Allocate.{Known, all_closed, are_const, arg_depth, arg_levels, atype, atypes, closed, const_of}
use Rattle.a_laws.specs.Allocate.{d_const, d_next, d_types, data_all, data_block, data_d, data_t, data_v, data_vs}
use Rattle.a_laws.specs.Allocate.{datum_of, is_const, is_label, is_pack, is_some, known_of, n_all, n_block, n_d, n_t}
use Rattle.a_laws.specs.Allocate.{n_v, n_vs, named, one_more, or_zero, packs, plain, v_next}
use Rattle.a_laws.specs.Constants.{Constants, constant, constant_at, constants, is_package, named_by, of_args, one_if}
use Rattle.a_laws.specs.Constants.{packed, tuples_all, tuples_d, tuples_t, tuples_v, tuples_vs, two}
use Rattle.a_laws.specs.Stands.{Carries, Carries_fields, Carries_v}
use Rattle.a_terms.specs.Meaning.{pick}
use Rattle.a_terms.specs.Tree.{AConsts, ATy, AVal}
use Rattle.a_terms.specs.Typing.{types_of}
use Rattle.c_terms.specs.C.{CTy, CTys, MoreCTys, NoCTys}
use Rattle.h_terms.specs.H.{HApply, HArith, HBlk, HBlks, HCall, HCell, HDecl, HGet, HHalt, HIf, HInt, HLabel, HLet}
use Rattle.h_terms.specs.H.{HName, HPack, HProj, HSet, HTm, HTuple, HUnpack, HVal, HVals, HVar, MoreHVals, NoHVals}

module _ (ds : List HVal) where
  -- a variable names the same constant on both sides, or none
  abbrev pub Same : Option AVal → Option HVal → Type 0
  Same None None = Unit {0}
  Same None (Some w) = ⊥
  Same (Some c) None = ⊥
  Same (Some c) (Some w) = Carries_v ds c w × (is_pack c ≡ is_package w)

  abbrev pub AgreeK : List Known → Constants → Type 0
  AgreeK [] [] = Unit {0}
  AgreeK [] (o ∷ os) = ⊥
  AgreeK (l ∷ ls) [] = ⊥
  AgreeK (l ∷ ls) (o ∷ os) = Same l.constant o × AgreeK ls os

  pub agree_args : (args : CTys) (d : ℕ) (ls : List Known) (os : Constants) → AgreeK ls os →
      AgreeK (arg_levels d ls args) (of_args args os)
  agree_args NoCTys d ls os a = a
  agree_args (MoreCTys t ts) d ls os a = agree_args ts (suc d) (plain d ∷ ls) (None ∷ os) (tt, a)

  same_var : (ls : List Known) (os : Constants) (i : ℕ) → AgreeK ls os →
      Same (named (slice_get ls i)) (constant_at os i)
  same_var [] [] i a = tt
  same_var [] (o ∷ os) i a = absurd a
  same_var (l ∷ ls) [] i a = absurd a
  same_var (l ∷ ls) (o ∷ os) zero a = a.0
  same_var (l ∷ ls) (o ∷ os) (suc i) a = same_var ls os i a.1

  carries_both : (xs ys : List AConsts) (us ws : List HVal) → Carries ds xs us → Carries ds ys ws →
      Carries ds (xs ++ ys) (us ++ ws)
  carries_both [] ys us ws a b = subst (λ u. Carries ds ys (u ++ ws)) (sym a) b
  carries_both (x ∷ xs) ys us ws a b = (a.0, a.1 ++ ws, ap (λ u. u ++ ws) a.2, a.3, carries_both xs ys a.1 ws a.4 b)

  module _ (ks : HBlks) (g : List ATy) (ls : List Known) (os : Constants) (known : AgreeK ls os) where
    -- a constant on both sides
    pub record Con (b : ℕ) (v : HVal) : Type 0 where
      pub yes : is_const ls v ≡ true
      pub value : HVal
      pub is : constant os v ≡ Some value
      pub carries : Carries_v ds (const_of ls b v) value
      pub packing : packs ls v ≡ is_package value
      pub pack : is_pack (const_of ls b v) ≡ is_package value

    abbrev pub Told : ℕ → HVal → Type 0
    Told b v = Con b v ⊎ ((is_const ls v ≡ false) × (constant os v ≡ None))

    pub record Fact (b : ℕ) (v : HVal) : Type 0 where
      pub long : n_v ls b v ≡ b + length (tuples_v os v)
      pub carries : Carries ds (data_v ks g ls b v) (tuples_v os v)
      pub told : Told b v

    pub record Cons (b : ℕ) (vs : HVals) : Type 0 where
      pub yes : are_const ls vs ≡ true
      pub values : HVals
      pub is : constants os vs ≡ Some values
      pub fields : Carries_fields ds (datum_of ks g ls b vs) values

    abbrev pub AllTold : ℕ → HVals → Type 0
    AllTold b vs = Cons b vs ⊎ ((are_const ls vs ≡ false) × (constants os vs ≡ None))

    pub record Facts (b : ℕ) (vs : HVals) : Type 0 where
      pub long : n_vs ls b vs ≡ b + length (tuples_vs os vs)
      pub carries : Carries ds (data_vs ks g ls b vs) (tuples_vs os vs)
      pub told : AllTold b vs

    var_told : (i b : ℕ) → (o : Option AVal) (p : Option HVal) → named (slice_get ls i) ≡ o → constant_at os i ≡ p →
        Same o p → Told b (HVar i)
    var_told i b None None e f s = inr (ap is_some e, f)
    var_told i b None (Some w) e f s = absurd s
    var_told i b (Some c) None e f s = absurd s
    var_told i b (Some c) (Some w) e f s = inl (record {
      yes = ap is_some e;
      value = w;
      is = f;
      carries = subst (λ o. Carries_v ds (or_zero o) w) (sym e) s.0;
      packing = ap (λ o. is_pack (or_zero o)) e ∙ s.1;
      pack = ap (λ o. is_pack (or_zero o)) e ∙ s.1;
    })

    label_carries : (v : HVal) (b : ℕ) → is_label v ≡ true → Carries_v ds (const_of ls b v) v
        × (is_pack (const_of ls b v) ≡ false)
    label_carries (HVar i) b e = cc
    label_carries (HInt n) b e = cc
    label_carries (HLabel l) b e = (refl, refl)
    label_carries (HTuple vs) b e = cc
    label_carries (HApply v ts) b e = cc
    label_carries (HPack h v s) b e = cc

    first_true : (a b : Bool) → a && b ≡ true → a ≡ true
    first_true true b e = refl
    first_true false b e = e

    apply_told : (v : HVal) (ts : CTys) (b : ℕ) (q : Bool) → is_label v && all_closed 0 (atypes ts) ≡ q →
        Told b (HApply v ts)
    apply_told v ts b true e =
        let l = label_carries v b (first_true (is_label v) (all_closed 0 (atypes ts)) e) in
        inl (record {
          yes = e;
          value = HApply v ts;
          is = ap (λ q. pick q (Some (HApply v ts)) None) e;
          carries = (v, ts, refl, refl, l.0);
          packing = refl;
          pack = l.1;
        })
    apply_told v ts b false e = inr (e, ap (λ q. pick q (Some (HApply v ts)) None) e)

    pack_told : (h : CTy) (v : HVal) (s : CTy) (b : ℕ) → Told b v → Told b (HPack h v s)
    pack_told h v s b (inr n) =
        inr (ap (λ x. x && (not (packs ls v) && (closed 0 (atype h) && closed 0 (atype s)))) n.0, ap (packed h s) n.1)
    pack_told h v s b (inl c) = go (not (is_package c.value) && (closed 0 (atype h) && closed 0 (atype s))) refl
      where
        both : Bool
        both = closed 0 (atype h) && closed 0 (atype s)

        tests : is_const ls (HPack h v s) ≡ not (is_package c.value) && (closed 0 (atype h) && closed 0 (atype s))
        tests = ap (λ x. x && (not (packs ls v) && (closed 0 (atype h) && closed 0 (atype s)))) c.yes
            ∙ ap (λ x. not x && (closed 0 (atype h) && closed 0 (atype s))) c.packing

        go : (q : Bool) → not (is_package c.value) && (closed 0 (atype h) && closed 0 (atype s)) ≡ q →
            Told b (HPack h v s)
        go true e = inl (record {
          yes = tests ∙ e;
          value = HPack h c.value s;
          is = ap (packed h s) c.is ∙ ap (λ q. pick q (Some (HPack h c.value s)) None) e;
          carries = (h, c.value, s, refl, refl, refl, c.carries);
          packing = refl;
          pack = refl;
        })
        go false e = inr (tests ∙ e, ap (packed h s) c.is ∙ ap (λ q. pick q (Some (HPack h c.value s)) None) e)

    tuple_fact : (vs : HVals) (b : ℕ) → Within ds b (tuples_v os (HTuple vs)) → Facts b vs → AllTold b vs →
        Fact b (HTuple vs)
    tuple_fact vs b wi f (inl c) =
        let n = n_vs ls b vs in
        let x = datum_of ks g ls b vs in
        let us = tuples_vs os vs in
        let w = HTuple c.values in
        let is : constant os (HTuple vs) ≡ Some w = ap (option_map HTuple) c.is in
        let there =
        back ds b n us (one_if (constant os (HTuple vs))) f.long wi 0 w (ap (λ o. slice_get (one_if o) 0) is) in
        let z : n + 0 ≡ n = omega arith in
        record {
          long = (let e1 = ap (λ q. one_more q n) c.yes in
              let e2 = ap (λ o. length (us ++ one_if o)) is in
              let e3 = length-append us (w ∷ []) in
              omega (arith, e1, e2, e3, f.long));
          carries = carries_both (data_vs ks g ls b vs) (pick (are_const ls vs) (x ∷ []) []) us
              (one_if (constant os (HTuple vs))) f.carries
              (subst (λ q. Carries ds (pick q (x ∷ []) []) (one_if (constant os (HTuple vs)))) (sym c.yes)
              (subst (λ o. Carries ds (x ∷ []) (one_if o)) (sym is) (c.values, [], refl, c.fields, refl)));
          told = inl (record {
            yes = c.yes;
            value = w;
            is = is;
            carries = ap (slice_get ds) (sym z) ∙ there;
            packing = refl;
            pack = refl;
          });
        }
    tuple_fact vs b wi f (inr n) =
        let x = datum_of ks g ls b vs in
        let us = tuples_vs os vs in
        let is : constant os (HTuple vs) ≡ None = ap (option_map HTuple) n.1 in
        record {
          long = (let e1 = ap (λ q. one_more q (n_vs ls b vs)) n.0 in
              let e2 = ap (λ o. length (us ++ one_if o)) is in
              let e3 = length-append us [] in
              omega (arith, e1, e2, e3, f.long));
          carries = carries_both (data_vs ks g ls b vs) (pick (are_const ls vs) (x ∷ []) []) us
              (one_if (constant os (HTuple vs))) f.carries
              (subst (λ q. Carries ds (pick q (x ∷ []) []) (one_if (constant os (HTuple vs)))) (sym n.0)
              (subst (λ o. Carries ds [] (one_if o)) (sym is) refl));
          told = inr (n.0, is);
        }

    all_told : (v : HVal) (vs : HVals) (b : ℕ) → Told b v → AllTold (n_v ls b v) vs → AllTold b (MoreHVals v vs)
    all_told v vs b (inl c) (inl cs) = inl (record {
      yes = ap (λ x. x && are_const ls vs) c.yes ∙ cs.yes;
      values = MoreHVals c.value cs.values;
      is = ap (λ o. two o (constants os vs)) c.is ∙ ap (two (Some c.value)) cs.is;
      fields = (c.value, cs.values, refl, c.carries, cs.fields);
    })
    all_told v vs b (inl c) (inr n) =
        inr (
          ap (λ x. x && are_const ls vs) c.yes ∙ n.0,
          ap (λ o. two o (constants os vs)) c.is
              ∙ ap (two (Some c.value)) n.1,
        )
    all_told v vs b (inr n) f = inr (ap (λ x. x && are_const ls vs) n.0, ap (λ o. two o (constants os vs)) n.1)

    mutual
      pub fact : (v : HVal) (b : ℕ) → Within ds b (tuples_v os v) → Fact b v
      fact (HVar i) b wi =
          record {
            long = omega arith;
            carries = refl;
            told = var_told i b (named (slice_get ls i)) (constant_at os i) refl refl (same_var ls os i known);
          }
      fact (HInt n) b wi =
          record {
            long = omega arith;
            carries = refl;
            told = inl (record { yes = refl; value = HInt n; is = refl; carries = refl; packing = refl; pack = refl });
          }
      fact (HLabel l) b wi =
          record {
            long = omega arith;
            carries = refl;
            told =
                inl (record { yes = refl; value = HLabel l; is = refl; carries = refl; packing = refl; pack = refl });
          }
      fact (HTuple vs) b wi =
          let f = facts vs b (front ds b (tuples_vs os vs) (one_if (constant os (HTuple vs))) wi) in
          tuple_fact vs b wi f f.told
      fact (HApply v ts) b wi =
          let f = fact v b wi in
          record {
            long = f.long;
            carries = f.carries;
            told = apply_told v ts b (is_label v && all_closed 0 (atypes ts)) refl;
          }
      fact (HPack h v s) b wi =
          let f = fact v b wi in record { long = f.long; carries = f.carries; told = pack_told h v s b f.told }

      pub facts : (vs : HVals) (b : ℕ) → Within ds b (tuples_vs os vs) → Facts b vs
      facts NoHVals b wi =
          record {
            long = omega arith;
            carries = refl;
            told = inl (record { yes = refl; values = NoHVals; is = refl; fields = refl });
          }
      facts (MoreHVals v vs) b wi =
          let b1 = n_v ls b v in
          let us = tuples_v os v in
          let ws = tuples_vs os vs in
          let f = fact v b (front ds b us ws wi) in
          let h = facts vs b1 (back ds b b1 us ws f.long wi) in
          record {
            long = more_len b b1 us ws f.long (n_vs ls b1 vs) h.long;
            carries = carries_both (data_v ks g ls b v) (data_vs ks g ls b1 vs) us ws f.carries h.carries;
            told = all_told v vs b f.told h.told;
          }

    same_of : (v : HVal) (b : ℕ) → Told b v → Same (pick (is_const ls v) (Some (const_of ls b v)) None) (constant os v)
    same_of v b (inl c) =
        subst (λ q. Same (pick q (Some (const_of ls b v)) None) (constant os v)) (sym c.yes)
        (subst (λ o. Same (Some (const_of ls b v)) o) (sym c.is) (c.carries, c.pack))
    same_of v b (inr n) =
        subst (λ q. Same (pick q (Some (const_of ls b v)) None) (constant os v)) (sym n.0)
        (subst (λ o. Same None o) (sym n.1) tt)

    pub record FactD (b : ℕ) (e : HDecl) : Type 0 where
      pub long : n_d ls b e ≡ b + length (tuples_d os e)
      pub carries : Carries ds (data_d ks g ls b e) (tuples_d os e)
      pub same : Same (d_const ls b e) (named_by os e)

    two_long : (v w : HVal) (b : ℕ) → Within ds b (tuples_v os v ++ tuples_v os w) →
        (n_v ls (n_v ls b v) w ≡ b + length (tuples_v os v ++ tuples_v os w))
        × Carries ds (data_v ks g ls b v ++ data_v ks g ls (n_v ls b v) w) (tuples_v os v ++ tuples_v os w)
    two_long v w b wi =
        let b1 = n_v ls b v in
        let us = tuples_v os v in
        let ws = tuples_v os w in
        let f = fact v b (front ds b us ws wi) in
        let h = fact w b1 (back ds b b1 us ws f.long wi) in (
          more_len b b1 us ws f.long (n_v ls b1 w) h.long,
          carries_both (data_v ks g ls b v) (data_v ks g ls b1 w) us ws f.carries h.carries,
        )

    pub fact_d : (e : HDecl) (b : ℕ) → Within ds b (tuples_d os e) → FactD b e
    fact_d (HName v) b wi =
        let f = fact v b wi in record { long = f.long; carries = f.carries; same = same_of v b f.told }
    fact_d (HProj i v) b wi = let f = fact v b wi in record { long = f.long; carries = f.carries; same = tt }
    fact_d (HArith op v w) b wi = let f = two_long v w b wi in record { long = f.0; carries = f.1; same = tt }
    fact_d (HUnpack v) b wi = let f = fact v b wi in record { long = f.long; carries = f.carries; same = tt }
    fact_d (HCell v) b wi = let f = fact v b wi in record { long = f.long; carries = f.carries; same = tt }
    fact_d (HGet v) b wi = let f = fact v b wi in record { long = f.long; carries = f.carries; same = tt }
    fact_d (HSet v w) b wi = let f = two_long v w b wi in record { long = f.0; carries = f.1; same = tt }

  pub fact_t : (ks : HBlks) (t : HTm) (g : List ATy) (ls : List Known) (os : Constants) (b d : ℕ) → AgreeK ls os →
      Within ds b (tuples_t os t) →
      (n_t ls b d t ≡ b + length (tuples_t os t)) × Carries ds (data_t ks g ls b d t) (tuples_t os t)
  fact_t ks (HLet e t) g ls os b d a wi =
      let b1 = n_d ls b e in
      let us = tuples_d os e in
      let ws = tuples_t (named_by os e ∷ os) t in
      let f = fact_d ks g ls os a e b (front ds b us ws wi) in
      let h = fact_t ks t (d_types ks g e) (known_of ls b d e ∷ ls) (named_by os e ∷ os) b1 (suc (d_next ls d e))
      (f.same, a) (back ds b b1 us ws f.long wi) in (
        more_len b b1 us ws f.long _ h.0,
        carries_both (data_d ks g ls b e)
            (data_t ks (d_types ks g e) (known_of ls b d e ∷ ls) b1 (suc (d_next ls d e)) t) us ws f.carries h.1,
      )
  fact_t ks (HCall f ts vs) g ls os b d a wi =
      let b1 = n_v ls b f in
      let us = tuples_v os f in
      let ws = tuples_vs os vs in
      let x = fact ks g ls os a f b (front ds b us ws wi) in
      let y = facts ks g ls os a vs b1 (back ds b b1 us ws x.long wi) in (
        more_len b b1 us ws x.long (n_vs ls b1 vs) y.long,
        carries_both (data_v ks g ls b f) (data_vs ks g ls b1 vs) us ws x.carries y.carries,
      )
  fact_t ks (HIf v t u) g ls os b d a wi =
      let b1 = n_v ls b v in
      let d1 = v_next ls d v in
      let b2 = n_t ls b1 d1 t in
      let us = tuples_v os v in
      let ws = tuples_t os t in
      let zs = tuples_t os u in
      let x = fact ks g ls os a v b (front ds b us (ws ++ zs) wi) in
      let w2 = back ds b b1 us (ws ++ zs) x.long wi in
      let y = fact_t ks t g ls os b1 d1 a (front ds b1 ws zs w2) in
      let z = fact_t ks u g ls os b2 d1 a (back ds b1 b2 ws zs y.0 w2) in (
        more_len b b1 us (ws ++ zs) x.long (n_t ls b2 d1 u) (more_len b1 b2 ws zs y.0 (n_t ls b2 d1 u) z.0),
        carries_both (data_v ks g ls b v) (data_t ks g ls b1 d1 t ++ data_t ks g ls b2 d1 u) us (ws ++ zs) x.carries
            (carries_both (data_t ks g ls b1 d1 t) (data_t ks g ls b2 d1 u) ws zs y.1 z.1),
      )
  fact_t ks (HHalt v) g ls os b d a wi = let x = fact ks g ls os a v b wi in (x.long, x.carries)

  pub fact_block : (ks : HBlks) (x : HBlk) (b : ℕ) → Within ds b (tuples_t (of_args x.args []) x.body) →
      (n_block b x ≡ b + length (tuples_t (of_args x.args []) x.body))
      × Carries ds (data_block ks b x) (tuples_t (of_args x.args []) x.body)
  fact_block ks x b wi =
      fact_t ks x.body (types_of (atypes x.args) []) (arg_levels 0 [] x.args) (of_args x.args []) b
      (arg_depth 0 x.args) (agree_args x.args 0 [] [] tt) wi

  pub fact_all : (ks xs : HBlks) (b : ℕ) → Within ds b (tuples_all xs) → (n_all b xs ≡ b + length (tuples_all xs))
      × Carries ds (data_all ks b xs) (tuples_all xs)
  fact_all ks [] b wi = (omega arith, refl)
  fact_all ks (x ∷ xs) b wi =
      let b1 = n_block b x in
      let us = tuples_t (of_args x.args []) x.body in
      let ws = tuples_all xs in
      let f = fact_block ks x b (front ds b us ws wi) in
      let h = fact_all ks xs b1 (back ds b b1 us ws f.0 wi) in
      (more_len b b1 us ws f.0 (n_all b1 xs) h.0, carries_both (data_block ks b x) (data_all ks b1 xs) us ws f.1 h.1)

  pub all_carry : (xs ys : List AConsts) (us ws : List HVal) → Carries ds xs us → Carries ds ys ws →
      Carries ds (xs ++ ys) (us ++ ws)
  all_carry = carries_both
