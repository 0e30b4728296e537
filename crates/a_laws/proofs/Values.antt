-- What stands before a value gives the value its type, and keeps the property.
use Rattle.std.proofs.Common.{◌≡◌, ℕ, zero, suc, ◌-◌, List, [], ◌∷◌, Some, refl, sym, ap, ◌∙◌, subst}
use Rattle.std.specs.Prelude.{Bool, true, false, map, slice_get}
use Rattle.a_laws.proofs.CLaws.{CLaws}
use Rattle.a_laws.proofs.Consts.{Within, back, datum_there, front, len_v}
use Rattle.a_laws.proofs.Readings.{Labels-of, fields_are, owns, types_read}
use Rattle.a_laws.proofs.Rel.{At, Later, at_more, at_new}
use Rattle.a_laws.proofs.Types.{apply_is, atype_hidden, below_is, types_below}
use Rattle.a_laws.specs.Allocate.{Known, are_const, atype, atypes, data_v, data_vs, datum_of, fill, final}
use Rattle.a_laws.specs.Allocate.{level_of, n_v, n_vs, pre_v, pre_vs, v_next, v_types, val, vals, var_of, vs_next}
use Rattle.a_terms.specs.Each.{AAll, AProp, DEach, VsEach}
use Rattle.a_terms.specs.Meaning.{pick}
use Rattle.a_terms.specs.Tree.{ABelow-types, AProg, ATm, ATuple, ATy, Data, Init, Let, Malloc, Var}
use Rattle.a_terms.specs.TypeLaws.{All-below, Args-below, declared_below, type_below}
use Rattle.a_terms.specs.Typing.{All-have, TypedDecl, afilled, applied, aset, aunset, code_type, data_type, filled_of}
use Rattle.a_terms.specs.Typing.{or_int, type_of}
use Rattle.c_terms.specs.C.{CTy, CTys, MoreCTys, NoCTys, TCCode, TCTuple, TCVar, ccount}
use Rattle.c_terms.specs.Each.{CAll, CProp}
use Rattle.c_terms.specs.Typing.{CAt, csub, scons}
use Rattle.h_terms.specs.Each.{HHasWith, HHaveWith}
use Rattle.h_terms.specs.H.{HApply, HBlk, HBlks, HInt, HLabel, HPack, HTuple, HVal, HVals, HVar, MoreHVals, NoHVals}
use Rattle.h_terms.specs.H.{block_at}
use Rattle.calc_core.specs.Ends.{lift}
use Rattle.a_laws.proofs.Agree.{mixed, more, all_of, all_more, count_more, mixed_end, mixed_fill, mixed_type, AgreeT}
use Rattle.a_laws.proofs.Agree.{agree_later, HasE, has_of, Both, both_let}

-- what the property of a hoisted type gives: of its allocation, and of a tuple of which some fields are set
module _ (P : AProp) (Q : CProp) (law : CLaws) (pa : (n : ℕ) (t : CTy) → Q n t → P n (atype t))
    (pm : (n : ℕ) (ts us : CTys) → Q n (TCTuple (all_of ts us)) → P n (ATuple (mixed ts us))) where
  pub pas : (n : ℕ) (ts : CTys) → CAll Q n ts → AAll P n (atypes ts)
  pas n NoCTys h = tt
  pas n (MoreCTys t ts) h = (pa n t h.0, pas n ts h.1)

  module _ (ks : HBlks) (p : AProg) (same : Labels-of ks p) (ok : Args-below p) (n : ℕ) where
    -- what is left of a value has type t, from depth d on
    abbrev pub Typed : List Known → ℕ → ℕ → HVal → CTy → ℕ → List ATy → Type 0
    Typed ls b e v t d ag = (d3 : ℕ) (ag3 : List ATy) → Later d ag d3 ag3 → HasE P p n ag3 (val ls b e d3 v) (atype t)

    abbrev pub AllTyped : List Known → ℕ → ℕ → HVals → CTys → ℕ → List ATy → Type 0
    AllTyped ls b e NoHVals NoCTys d ag = Unit {0}
    AllTyped ls b e NoHVals (MoreCTys t ts) d ag = ⊥
    AllTyped ls b e (MoreHVals v vs) NoCTys d ag = ⊥
    AllTyped ls b e (MoreHVals v vs) (MoreCTys t ts) d ag =
        Typed ls b e v t d ag × AllTyped ls (n_v ls b v) (v_next ls e v) vs ts d ag

    typed_later : (vs : HVals) (ts : CTys) (ls : List Known) (b e d d2 : ℕ) (ag ag2 : List ATy) → Later d ag d2 ag2 →
        AllTyped ls b e vs ts d ag → AllTyped ls b e vs ts d2 ag2
    typed_later NoHVals NoCTys ls b e d d2 ag ag2 k r = tt
    typed_later NoHVals (MoreCTys t ts) ls b e d d2 ag ag2 k r = absurd r
    typed_later (MoreHVals v vs) NoCTys ls b e d d2 ag ag2 k r = absurd r
    typed_later (MoreHVals v vs) (MoreCTys t ts) ls b e d d2 ag ag2 k r = (
      λ d3 ag3 q. r.0 d3 ag3 (λ l x a. q l x (k l x a)),
      typed_later vs ts ls (n_v ls b v) (v_next ls e v) d d2 ag ag2 k r.1,
    )

    pub all_typed : (vs : HVals) (ts : CTys) (ls : List Known) (b e d : ℕ) (ag : List ATy) →
        AllTyped ls b e vs ts d ag →
        All-have p n ag (vals ls b e d vs) (atypes ts)
    all_typed NoHVals NoCTys ls b e d ag r = tt
    all_typed NoHVals (MoreCTys t ts) ls b e d ag r = absurd r
    all_typed (MoreHVals v vs) NoCTys ls b e d ag r = absurd r
    all_typed (MoreHVals v vs) (MoreCTys t ts) ls b e d ag r =
        (has_of P p n ag _ _ (r.0 d ag (λ l x a. a)), all_typed vs ts ls (n_v ls b v) (v_next ls e v) d ag r.1)

    pub all_each : (vs : HVals) (ts : CTys) (ls : List Known) (b e d : ℕ) (ag : List ATy) → AllTyped ls b e vs ts d ag →
        VsEach P p n ag (vals ls b e d vs)
    all_each NoHVals NoCTys ls b e d ag r = tt
    all_each NoHVals (MoreCTys t ts) ls b e d ag r = absurd r
    all_each (MoreHVals v vs) NoCTys ls b e d ag r = absurd r
    all_each (MoreHVals v vs) (MoreCTys t ts) ls b e d ag r =
        ((r.0 d ag (λ l x a. a)).each, all_each vs ts ls (n_v ls b v) (v_next ls e v) d ag r.1)

    pub record Comes (d : ℕ) (ag : List ATy) (pre : ATm → ATm) (d2 : ℕ) (G : List ATy → Type 0) : Type 0 where
      pub types : List ATy
      pub checks : (rest : ATm) → Both P p n types rest → Both P p n ag (pre rest)
      pub later : Later d ag d2 types
      pub below : All-below n types
      pub good : G types

    record Filled (l : ℕ) (ag : List ATy) (ts us : CTys) (vs : HVals) (pre : ATm → ATm) : Type 0 where
      types : List ATy
      checks : (rest : ATm) → Both P p n (ATuple (aset (atypes (all_of ts us))) ∷ types) rest →
          Both P p n (ATuple (mixed ts us) ∷ ag) (pre rest)
      later : Later (suc l) (ATuple (mixed ts us) ∷ ag) (suc (final l vs))
          (ATuple (aset (atypes (all_of ts us))) ∷ types)
      below : All-below n (ATuple (aset (atypes (all_of ts us))) ∷ types)

    filled : (vs : HVals) (us ts : CTys) (ls : List Known) (b e l i : ℕ) (ag : List ATy) → i ≡ ccount ts →
        Q n (TCTuple (all_of ts us)) → AllTyped ls b e vs us (suc l) (ATuple (mixed ts us) ∷ ag) →
        All-below n (ATuple (mixed ts us) ∷ ag) → Filled l ag ts us vs (fill ls b e l (suc i) vs)
    filled NoHVals NoCTys ts ls b e l i ag q qt r bel =
        let z = mixed_end ts in
        record {
          types = ag;
          checks = λ rest c. subst (λ fs. Both P p n (ATuple fs ∷ ag) rest) (sym z) c;
          later = λ k x a. subst (λ fs. At (suc l) (ATuple fs ∷ ag) k x) z a;
          below = subst (λ fs. All-below n (ATuple fs ∷ ag)) z bel;
        }
    filled NoHVals (MoreCTys u us) ts ls b e l i ag q qt r bel = absurd r
    filled (MoreHVals v vs) NoCTys ts ls b e l i ag q qt r bel = absurd r
    filled (MoreHVals v vs) (MoreCTys u us) ts ls b e l i ag q qt r bel =
        let old = ATuple (mixed ts (MoreCTys u us)) in
        let new = ATuple (mixed (more ts u) us) in
        let now : ATuple (afilled (mixed ts (MoreCTys u us)) i) ≡ new = ap ATuple (mixed_fill ts u us i q) in
        let w = r.0 (suc l) (old ∷ ag) (λ k x a. a) in
        let d : TypedDecl p n (old ∷ ag) (Init (Var 0) (suc i) (val ls b e (suc l) v)) = (
          mixed ts (MoreCTys u us),
          i,
          atype u,
          record { fine = tt; is = refl },
          has_of P p n (old ∷ ag) _ _ w,
          refl,
          mixed_type ts u us i q,
        ) in
        let qn : Q n (TCTuple (all_of (more ts u) us)) = subst (λ a. Q n (TCTuple a)) (sym (all_more ts u us)) qt in
        let pn : P n (filled_of (suc i) (type_of p (old ∷ ag) (Var 0))) =
        subst (P n) (sym now) (pm n (more ts u) us qn) in
        let de : DEach P p n (old ∷ ag) (Init (Var 0) (suc i) (val ls b e (suc l) v)) =
        (pm n ts (MoreCTys u us) qt, w.each, pn) in
        let b2 : All-below n (new ∷ old ∷ ag) =
        subst (λ t. All-below n (t ∷ old ∷ ag)) now
        (declared_below p ok n (old ∷ ag) bel (Init (Var 0) (suc i) (val ls b e (suc l) v)) d) in
        let c : suc i ≡ ccount (more ts u) = ap suc q ∙ sym (count_more ts u) in
        let on : Later (suc l) (old ∷ ag) (suc (suc l)) (new ∷ old ∷ ag) =
        λ k x a. at_more (suc l) (old ∷ ag) k x new a in
        let z = filled vs us (more ts u) ls (n_v ls b v) (v_next ls e v) (suc l) (suc i) (old ∷ ag) c qn
        (typed_later vs us ls (n_v ls b v) (v_next ls e v) (suc l) (suc (suc l)) (old ∷ ag)
        (new ∷ old ∷ ag) on r.1) b2 in
        let m = all_more ts u us in
        record {
          types = z.types;
          checks = λ rest k. both_let P p n (old ∷ ag) (Init (Var 0) (suc i) (val ls b e (suc l) v))
              (fill ls (n_v ls b v) (v_next ls e v) (suc l) (suc (suc i)) vs rest) d de
              (subst (λ t. Both P p n (t ∷ old ∷ ag)
              (fill ls (n_v ls b v) (v_next ls e v) (suc l) (suc (suc i)) vs rest)) (sym now)
              (z.checks rest (subst (λ t. Both P p n (ATuple (aset (atypes t)) ∷ z.types) rest) (sym m) k)));
          later = λ k x a. subst (λ t. At (suc (final (suc l) vs)) (ATuple (aset (atypes t)) ∷ z.types) k x) m
              (z.later k x (on k x a));
          below = subst (λ t. All-below n (ATuple (aset (atypes t)) ∷ z.types)) m z.below;
        }

    var_typed : (ls : List Known) (g : List CTy) (i d : ℕ) (ag : List ATy) (t : CTy) → Q n t → AgreeT d ls g ag →
        CAt g i t → (d3 : ℕ) (ag3 : List ATy) → Later d ag d3 ag3 →
        HasE P p n ag3 (var_of d3 (level_of (slice_get ls i))) (atype t)
    var_typed [] [] i d ag t qt a h d3 ag3 k = absurd h
    var_typed [] (u ∷ g) i d ag t qt a h d3 ag3 k = absurd a
    var_typed (l ∷ ls) [] i d ag t qt a h d3 ag3 k = absurd a
    var_typed (l ∷ ls) (u ∷ g) zero d ag t qt a h d3 ag3 k =
        let e : slice_get ag3 (d3 - suc l.level) ≡ Some (atype t) =
        (k l.level (atype u) a.0).1 ∙ ap (λ x. Some (atype x)) (sym h) in
        record { fine = tt; is = e; each = subst (λ o. P n (or_int o)) (sym e) (pa n t qt) }
    var_typed (l ∷ ls) (u ∷ g) (suc i) d ag t qt a h d3 ag3 k = var_typed ls g i d ag t qt a.1 h d3 ag3 k

    label_typed : (l : ℕ) (k : HBlk) (t : CTy) (ag : List ATy) → block_at ks l ≡ Some k → t ≡ TCCode k.owes k.args →
        code_type (slice_get p.blocks l) ≡ Some (atype t)
    label_typed l k t ag e f = same l k e ∙ ap (λ u. Some (atype u)) (sym f)

    -- the types of typed values are in scope
    types_in : (vs : HVals) (us : CTys) (ls : List Known) (b e d : ℕ) (ag : List ATy) → All-below n ag →
        AllTyped ls b e vs us d ag → ABelow-types n (atypes us)
    types_in NoHVals NoCTys ls b e d ag bel r = tt
    types_in NoHVals (MoreCTys t ts) ls b e d ag bel r = absurd r
    types_in (MoreHVals v vs) NoCTys ls b e d ag bel r = absurd r
    types_in (MoreHVals v vs) (MoreCTys t ts) ls b e d ag bel r =
        let w = r.0 d ag (λ k x a. a) in (
          type_below p ok n ag bel (val ls b e d v) (atype t) w.fine w.is,
          types_in vs ts ls (n_v ls b v) (v_next ls e v) d ag bel r.1,
        )

    module _ (g : List CTy) (ls : List Known) where
      abbrev pub gs : List ATy
      gs = map atype g

      -- a tuple, where it is a tuple of constants or not
      abbrev TupleComes : HVals → CTy → ℕ → ℕ → List ATy → Bool → Type 0
      TupleComes vs t b d ag c =
          Comes d ag (λ rest.
          pick c rest (pre_vs ks gs ls b d vs
          (Let (Malloc (v_types ks gs vs)) (fill ls b d (vs_next ls d vs) 1 vs rest))))
          (pick c d (suc (final (vs_next ls d vs) vs)))
          (λ ag2. (d3 : ℕ) (ag3 : List ATy) → Later (pick c d (suc (final (vs_next ls d vs) vs))) ag2 d3 ag3 →
          HasE P p n ag3 (pick c (Data (n_vs ls b vs)) (Var (d3 - suc (final (vs_next ls d vs) vs)))) (atype t))

      tuple_comes : (vs : HVals) (t : CTy) (b d : ℕ) (ag : List ATy) →
          Within p.tuples b (data_v ks gs ls b (HTuple vs)) → (h : HHasWith Q ks n g (HTuple vs) t) → All-below n ag →
          Comes d ag (pre_vs ks gs ls b d vs) (vs_next ls d vs) (AllTyped ls b d vs h.1 (vs_next ls d vs)) →
          (c : Bool) → are_const ls vs ≡ c → TupleComes vs t b d ag c
      tuple_comes vs t b d ag wi h bel f true c =
          let there = datum_there p.tuples ks gs ls b vs wi c in
          let is : data_type (slice_get p.tuples (n_vs ls b vs)) ≡ Some (atype t) =
          ap data_type there
          ∙ ap (λ x. Some (ATuple x)) (fields_are ks gs ls b vs ∙ ap aset (types_read Q law ks n g vs h.1 h.3))
          ∙ ap (λ x. Some (atype x)) (sym h.2) in
          record {
            types = ag;
            checks = λ rest c. c;
            later = λ k x q. q;
            below = bel;
            good = λ d3 ag3 k. record { fine = tt; is = is; each = subst (λ o. P n (or_int o)) (sym is) (pa n t h.0) };
          }
      tuple_comes vs t b d ag wi h bel f false c =
          let us = h.1 in
          let qt : Q n (TCTuple us) = subst (Q n) h.2 h.0 in
          let l = vs_next ls d vs in
          let read = types_read Q law ks n g vs us h.3 in
          let old = ATuple (aunset (atypes us)) in
          let scoped = types_in vs us ls b d l f.types f.below f.good in
          let dec : TypedDecl p n f.types (Malloc (atypes us)) = scoped in
          let de : DEach P p n f.types (Malloc (atypes us)) =
          (pas n us (owns Q law ks n g vs us h.3), pm n NoCTys us qt) in
          let b2 : All-below n (old ∷ f.types) = declared_below p ok n f.types f.below (Malloc (atypes us)) dec in
          let on : Later l f.types (suc l) (old ∷ f.types) = λ k x q. at_more l f.types k x old q in
          let z = filled vs us NoCTys ls b d l 0 f.types refl qt
          (typed_later vs us ls b d l (suc l) f.types (old ∷ f.types) on f.good) b2 in
          let whole = ATuple (aset (atypes us)) in
          record {
            types = whole ∷ z.types;
            checks = λ rest c. f.checks (Let (Malloc (v_types ks gs vs)) (fill ls b d l 1 vs rest))
                (subst (λ ts. Both P p n f.types (Let (Malloc ts) (fill ls b d l 1 vs rest))) (sym read)
                (both_let P p n f.types (Malloc (atypes us)) (fill ls b d l 1 vs rest) dec de (z.checks rest c)));
            later = λ k x q. z.later k x (on k x (f.later k x q));
            below = z.below;
            good = λ d3 ag3 k.
                (let e : slice_get ag3 (d3 - suc (final l vs))
                ≡ Some (atype t) = (k (final l vs) whole (at_new (final l vs) z.types whole)).1
                ∙ ap (λ x. Some (atype x)) (sym h.2) in
                record { fine = tt; is = e; each = subst (λ o. P n (or_int o)) (sym e) (pa n t h.0) });
          }

      mutual
        pub comes_v : (v : HVal) (t : CTy) (b d : ℕ) (ag : List ATy) → Within p.tuples b (data_v ks gs ls b v) →
            HHasWith Q ks n g v t → AgreeT d ls g ag → All-below n ag →
            Comes d ag (pre_v ks gs ls b d v) (v_next ls d v) (Typed ls b d v t (v_next ls d v))
        comes_v (HVar i) t b d ag wi h a bel =
            record {
              types = ag;
              checks = λ rest c. c;
              later = λ k x q. q;
              below = bel;
              good = var_typed ls g i d ag t h.0 a h.1;
            }
        comes_v (HInt m) t b d ag wi h a bel =
            record {
              types = ag;
              checks = λ rest c. c;
              later = λ k x q. q;
              below = bel;
              good = λ d3 ag3 k.
                  record {
                    fine = tt;
                    is = ap (λ x. Some (atype x)) (sym h.1);
                    each = subst (λ x. P n (atype x)) h.1 (pa n t h.0);
                  };
            }
        comes_v (HLabel l) t b d ag wi h a bel =
            record {
              types = ag;
              checks = λ rest c. c;
              later = λ k x q. q;
              below = bel;
              good = λ d3 ag3 k.
                  (let e = label_typed l h.1.0 t ag h.1.1 h.1.2 in
                  record { fine = tt; is = e; each = subst (λ o. P n (or_int o)) (sym e) (pa n t h.0) });
            }
        comes_v (HTuple vs) t b d ag wi h a bel =
            let x = pick (are_const ls vs) (datum_of ks gs ls b vs ∷ []) [] in
            tuple_comes vs t b d ag wi h bel
            (comes_vs vs h.1 b d ag (front p.tuples b (data_vs ks gs ls b vs) x wi) h.3 a bel)
            (are_const ls vs) refl
        comes_v (HApply v ts) t b d ag wi h a bel =
            let s = TCCode (lift h.1 (ccount ts)) h.2 in
            let r = comes_v v s b d ag wi h.4 a bel in
            record {
              types = r.types;
              checks = r.checks;
              later = r.later;
              below = r.below;
              good = λ d3 ag3 k. (let w = r.good d3 ag3 k in
                  let e : applied (type_of p ag3 (val ls b d d3 v)) (atypes ts) ≡ Some (atype t) =
                  ap (λ o. applied o (atypes ts)) w.is ∙ apply_is law ts h.1 h.2
                  ∙ ap (λ x. Some (atype x)) (sym h.3) in
                  record {
                    fine = (w.fine, types_below law ts n h.5);
                    is = e;
                    each = (subst (λ o. P n (or_int o)) (sym e) (pa n t h.0), w.each, pas n ts h.6);
                  });
            }
        comes_v (HPack hid v s) t b d ag wi h a bel =
            let r = comes_v v (csub (scons hid TCVar) h.1) b d ag wi h.7 a bel in
            record {
              types = r.types;
              checks = r.checks;
              later = r.later;
              below = r.below;
              good = λ d3 ag3 k. (let w = r.good d3 ag3 k in
                  record {
                    fine = (
                      atype h.1,
                      w.fine,
                      below_is law hid n h.4,
                      below_is law s n h.5,
                      ap atype h.2,
                      w.is
                          ∙ ap Some (atype_hidden law hid h.1),
                    );
                    is = ap (λ x. Some (atype x)) (sym h.3);
                    each = (subst (λ x. P n (atype x)) h.3 (pa n t h.0), pa n hid h.6, w.each);
                  });
            }

        pub comes_vs : (vs : HVals) (ts : CTys) (b d : ℕ) (ag : List ATy) → Within p.tuples b (data_vs ks gs ls b vs) →
            HHaveWith Q ks n g vs ts → AgreeT d ls g ag → All-below n ag →
            Comes d ag (pre_vs ks gs ls b d vs) (vs_next ls d vs) (AllTyped ls b d vs ts (vs_next ls d vs))
        comes_vs NoHVals ts b d ag wi h a bel =
            record {
              types = ag;
              checks = λ rest c. c;
              later = λ k x q. q;
              below = bel;
              good = subst (λ ts. AllTyped ls b d NoHVals ts d ag) (sym h) tt;
            }
        comes_vs (MoreHVals v vs) ts b d ag wi h a bel =
            let b1 = n_v ls b v in
            let x0 = data_v ks gs ls b v in
            let x1 = data_vs ks gs ls b1 vs in
            let x = comes_v v h.0 b d ag (front p.tuples b x0 x1 wi) h.3 a bel in
            let d1 = v_next ls d v in
            let y = comes_vs vs h.1 b1 d1 x.types (back p.tuples b b1 x0 x1 (len_v ks gs ls v b) wi) h.4
            (agree_later ls g d d1 ag x.types x.later a) x.below in
            record {
              types = y.types;
              checks = λ rest c. x.checks (pre_vs ks gs ls b1 d1 vs rest) (y.checks rest c);
              later = λ k u q. y.later k u (x.later k u q);
              below = y.below;
              good = subst (λ ts. AllTyped ls b d (MoreHVals v vs) ts (vs_next ls d1 vs) y.types) (sym h.2)
                  (λ d3 ag3 k. x.good d3 ag3 (λ p u q. k p u (y.later p u q)), y.good);
            }
