-- Allocation keeps types, and each property of them that does not look at flags.
use Rattle.std.proofs.Common.{◌≡◌, ℕ, zero, suc, ◌+◌, List, [], ◌∷◌, ◌++◌, Some, None, refl, sym, ap, ◌∙◌, subst}
use Rattle.std.proofs.Common.{ap₂, arith}
use Rattle.std.specs.Prelude.{true, false, map, slice_get}
use Rattle.a_laws.proofs.CLaws.{CLaws}
use Rattle.a_laws.proofs.Consts.{Within, back, front, len_all, len_block, len_d, len_t, len_v}
use Rattle.a_laws.proofs.Data.{consts_args, data_t_ok, tuples_both}
use Rattle.a_laws.proofs.Readings.{Labels-of, field_full, own_of, scope_args, scope_shifted, type_read}
use Rattle.a_laws.proofs.Rel.{Later, at_more, at_new}
use Rattle.a_laws.proofs.Types.{apply_is, types_below}
use Rattle.a_laws.specs.Allocate.{Known, alloc_all, alloc_block, alloc_main, alloc_prog, alloc_t, arg_depth}
use Rattle.a_laws.specs.Allocate.{arg_levels, atype, atypes, d_next, d_types, data_all, data_block, data_d, data_t}
use Rattle.a_laws.specs.Allocate.{data_v, data_vs, dcl, known_of, n_all, n_block, n_d, n_t, n_v, pre_v, pre_vs, v_next}
use Rattle.a_laws.specs.Allocate.{v_type, val, vals, vs_next}
use Rattle.a_terms.specs.Each.{AProp, BsEach, DEach, ProgramEach, TuplesEach}
use Rattle.a_terms.specs.Tree.{ABelow-types, ABlk, ACode, AInt, AProg, ATuple, ATy, Call, Halt, If0, Init, Let, Malloc}
use Rattle.a_terms.specs.Tree.{MoreAFields, MoreATys, NoAFields, NoATys, ashift}
use Rattle.a_terms.specs.TypeLaws.{All-below, Args-below, below_args, data_at, data_below, declared_below, type_below}
use Rattle.a_terms.specs.Typing.{TypedBlocks, TypedDecl, TypedProgram, TypedTuples, body_of, code_type, declared}
use Rattle.a_terms.specs.Typing.{aset, field_of}
use Rattle.a_terms.specs.Typing.{filled_of, or_int, type_of, types_of}
use Rattle.c_terms.specs.C.{CTy, CTys, MoreCTys, NoCTys, TCCode, TCInt, TCRef, TCExists, TCTuple, TCVar, ccount}
use Rattle.c_terms.specs.Each.{CProp}
use Rattle.c_terms.specs.Typing.{cargs_onto, crens_scope, csubs, names}
use Rattle.h_terms.specs.Each.{AllTypedWith, HTypedWith, HProgramWith}
use Rattle.h_terms.specs.H.{HArith, HBlk, HBlks, HCall, HCell, HDecl, HGet, HHalt, HIf, HLet, HName, HProj, HSet, HTm}
use Rattle.h_terms.specs.H.{HUnpack, block_at}
use Rattle.a_laws.proofs.Agree.{mixed, all_of, AgreeT, agree_later, agree_shifted, agree_args, has_of, Both, both_let}
use Rattle.a_laws.proofs.Values.{pas, all_typed, all_each, comes_v, comes_vs}

-- what the property of a hoisted type gives: of its allocation, of a tuple of which some fields are set, of a cell
-- that is not yet set, and of its allocation under no type variable
module _ (P : AProp) (Q : CProp) (law : CLaws) (pa : (n : ℕ) (t : CTy) → Q n t → P n (atype t))
    (pm : (n : ℕ) (ts us : CTys) → Q n (TCTuple (all_of ts us)) → P n (ATuple (mixed ts us)))
    (pc : (n : ℕ) (t : CTy) → Q n (TCRef t) → P n (ATuple (MoreAFields (atype t) false NoAFields)))
    (p0 : (n : ℕ) (t : CTy) → Q n t → P 0 (atype t)) where
  module _ (ks : HBlks) (p : AProg) (same : Labels-of ks p) (ok : Args-below p) where
    term_each : (t : HTm) (n : ℕ) (g : List CTy) (ls : List Known) (b d : ℕ) (ag : List ATy) →
        Within p.tuples b (data_t ks (map atype g) ls b d t) → HTypedWith Q ks n g t → AgreeT d ls g ag → All-below n ag
        →
        Both P p n ag (alloc_t ks (map atype g) ls b d t)
    term_each (HLet (HName v) t) n g ls b d ag wi h a bel =
        let e : HDecl = HName v in
        let D = p.tuples in
        let b1 = n_d ls b e in
        let kn = known_of ls b d e in
        let x0 = data_d ks (map atype g) ls b e in
        let x1 = data_t ks (d_types ks (map atype g) e) (kn ∷ ls) b1 (suc (d_next ls d e)) t in
        let w0 = front D b x0 x1 wi in
        let w2 = back D b b1 x0 x1 (len_d ks (map atype g) ls e b) wi in
        let x = comes_v P Q law pa pm ks p same ok n g ls v h.0 b d ag w0 h.1 a bel in
        let d2 = v_next ls d v in
        let w = x.good d2 x.types (λ k u q. q) in
        let read = type_read Q law ks n g v h.0 h.1 in
        let dec : TypedDecl p n x.types (dcl ls b d e) = (atype h.0, has_of P p n x.types _ _ w) in
        let now : declared p x.types (dcl ls b d e) ≡ atype h.0 ∷ x.types = ap (λ o. or_int o ∷ x.types) w.is in
        let w1 = subst (λ q. Within D b1 (data_t ks (q ∷ map atype g) (kn ∷ ls) b1 (suc d2) t)) read w2 in
        let rest = alloc_t ks (map atype (h.0 ∷ g)) (kn ∷ ls) b1 (suc d2) t in
        let good = term_each t n (h.0 ∷ g) (kn ∷ ls) b1 (suc d2) (atype h.0 ∷ x.types) w1 h.2 (
          at_new d2 x.types (atype h.0),
          agree_later ls g d (suc d2) ag (atype h.0 ∷ x.types)
              (λ k u q. at_more d2 x.types k u (atype h.0) (x.later k u q)) a,
        )
        (subst (All-below n) now (declared_below p ok n x.types x.below (dcl ls b d e) dec)) in
        x.checks (Let (dcl ls b d e) (alloc_t ks (d_types ks (map atype g) e) (kn ∷ ls) b1 (suc d2) t))
        (both_let P p n x.types (dcl ls b d e) (alloc_t ks (d_types ks (map atype g) e) (kn ∷ ls) b1 (suc d2) t) dec
        w.each (subst
        (λ q. Both P p n (declared p x.types (dcl ls b d e))
        (alloc_t ks (q ∷ map atype g) (kn ∷ ls) b1 (suc d2) t)) (sym read)
        (subst (λ q. Both P p n q rest) (sym now) good)))
    term_each (HLet (HProj i v) t) n g ls b d ag wi h a bel =
        let e : HDecl = HProj i v in
        let D = p.tuples in
        let b1 = n_d ls b e in
        let kn = known_of ls b d e in
        let x0 = data_d ks (map atype g) ls b e in
        let x1 = data_t ks (d_types ks (map atype g) e) (kn ∷ ls) b1 (suc (d_next ls d e)) t in
        let w0 = front D b x0 x1 wi in
        let w2 = back D b b1 x0 x1 (len_d ks (map atype g) ls e b) wi in
        let x = comes_v P Q law pa pm ks p same ok n g ls v (TCTuple h.1.1) b d ag w0 h.1.2 a bel in
        let d2 = v_next ls d v in
        let w = x.good d2 x.types (λ k u q. q) in
        let u = h.0 in
        let f = field_full i h.1.1 u h.1.3 in
        let read : field_of i (Some (v_type ks (map atype g) v)) ≡ atype u =
        ap (λ q. field_of i (Some q)) (type_read Q law ks n g v (TCTuple h.1.1) h.1.2)
        ∙ ap (λ k. field_of k (Some (ATuple (aset (atypes h.1.1))))) f.1 ∙ ap or_int f.2 in
        let dec : TypedDecl p n x.types (dcl ls b d e) =
        (aset (atypes h.1.1), f.0, atype u, has_of P p n x.types _ _ w, f.1, f.2, f.3) in
        let got : field_of i (type_of p x.types (val ls b d d2 v)) ≡ atype u =
        ap (field_of i) w.is ∙ ap (λ j. field_of j (Some (ATuple (aset (atypes h.1.1))))) f.1 ∙ ap or_int f.2 in
        let now : declared p x.types (dcl ls b d e) ≡ atype u ∷ x.types = ap (λ z. z ∷ x.types) got in
        let w1 = subst (λ q. Within D b1 (data_t ks (q ∷ map atype g) (kn ∷ ls) b1 (suc d2) t)) read w2 in
        let rest = alloc_t ks (map atype (u ∷ g)) (kn ∷ ls) b1 (suc d2) t in
        let good = term_each t n (u ∷ g) (kn ∷ ls) b1 (suc d2) (atype u ∷ x.types) w1 h.2 (
          at_new d2 x.types (atype u),
          agree_later ls g d (suc d2) ag (atype u ∷ x.types)
              (λ k z q. at_more d2 x.types k z (atype u) (x.later k z q)) a,
        )
        (subst (All-below n) now (declared_below p ok n x.types x.below (dcl ls b d e) dec)) in
        x.checks (Let (dcl ls b d e) (alloc_t ks (d_types ks (map atype g) e) (kn ∷ ls) b1 (suc d2) t))
        (both_let P p n x.types (dcl ls b d e) (alloc_t ks (d_types ks (map atype g) e) (kn ∷ ls) b1 (suc d2) t) dec
        (w.each, subst (P n) (sym got) (pa n u h.1.0))
        (subst (λ q. Both P p n (declared p x.types (dcl ls b d e))
        (alloc_t ks (q ∷ map atype g) (kn ∷ ls) b1 (suc d2) t)) (sym read)
        (subst (λ q. Both P p n q rest) (sym now) good)))
    term_each (HLet (HArith op v w) t) n g ls b d ag wi h a bel =
        let e : HDecl = HArith op v w in
        let D = p.tuples in
        let b1 = n_d ls b e in
        let kn = known_of ls b d e in
        let x0 = data_d ks (map atype g) ls b e in
        let x1 = data_t ks (d_types ks (map atype g) e) (kn ∷ ls) b1 (suc (d_next ls d e)) t in
        let w0 = front D b x0 x1 wi in
        let w2 = back D b b1 x0 x1 (len_d ks (map atype g) ls e b) wi in
        let x = comes_v P Q law pa pm ks p same ok n g ls v TCInt b d ag
        (front D b (data_v ks (map atype g) ls b v) (data_v ks (map atype g) ls (n_v ls b v) w) w0) h.1.2 a bel in
        let d1 = v_next ls d v in
        let y = comes_v P Q law pa pm ks p same ok n g ls w TCInt (n_v ls b v) d1 x.types
        (back D b (n_v ls b v) (data_v ks (map atype g) ls b v) (data_v ks (map atype g) ls (n_v ls b v) w)
        (len_v ks (map atype g) ls v b) w0) h.1.3 (agree_later ls g d d1 ag x.types x.later a) x.below in
        let d2 = v_next ls d1 w in
        let xw = x.good d2 y.types y.later in
        let yw = y.good d2 y.types (λ k u q. q) in
        let dec : TypedDecl p n y.types (dcl ls b d e) = (has_of P p n y.types _ _ xw, has_of P p n y.types _ _ yw) in
        let de : DEach P p n y.types (dcl ls b d e) = (xw.each, yw.each) in
        let end = Let (dcl ls b d e) (alloc_t ks (map atype (TCInt ∷ g)) (kn ∷ ls) b1 (suc d2) t) in
        x.checks (pre_v ks (map atype g) ls (n_v ls b v) d1 w end)
        (y.checks end
        (both_let P p n y.types (dcl ls b d e) (alloc_t ks (map atype (TCInt ∷ g)) (kn ∷ ls) b1 (suc d2) t) dec de
        (term_each t n (TCInt ∷ g) (kn ∷ ls) b1 (suc d2) (AInt ∷ y.types) w2
        (subst (λ q. HTypedWith Q ks n (q ∷ g) t) h.1.1 h.2) (
          at_new d2 y.types AInt,
          agree_later ls g d (suc d2) ag (AInt ∷ y.types)
              (λ k u q. at_more d2 y.types k u AInt (y.later k u (x.later k u q))) a,
        ) (tt, y.below))))
    term_each (HLet (HUnpack v) t) n g ls b d ag wi h a bel =
        let e : HDecl = HUnpack v in
        let D = p.tuples in
        let b1 = n_d ls b e in
        let kn = known_of ls b d e in
        let x0 = data_d ks (map atype g) ls b e in
        let x1 = data_t ks (d_types ks (map atype g) e) (kn ∷ ls) b1 (suc (d_next ls d e)) t in
        let w0 = front D b x0 x1 wi in
        let w2 = back D b b1 x0 x1 (len_d ks (map atype g) ls e b) wi in
        let x = comes_v P Q law pa pm ks p same ok n g ls v (TCExists h.0) b d ag w0 h.1.1 a bel in
        let d2 = v_next ls d v in
        let w = x.good d2 x.types (λ k u q. q) in
        let u = h.0 in
        let gs = crens_scope suc g in
        let ag2 = map (ashift 1 0) x.types in
        let read : body_of (Some (v_type ks (map atype g) v)) ∷ map (ashift 1 0) (map atype g) ≡ map atype (u ∷ gs) =
        ap₂ (λ q qs. q ∷ qs) (ap (λ q. body_of (Some q)) (type_read Q law ks n g v (TCExists u) h.1.1))
        (scope_shifted law g) in
        let dec : TypedDecl p n x.types (dcl ls b d e) = (atype u, has_of P p n x.types _ _ w) in
        let got : body_of (type_of p x.types (val ls b d d2 v)) ≡ atype u = ap body_of w.is in
        let now : declared p x.types (dcl ls b d e) ≡ atype u ∷ ag2 = ap (λ z. z ∷ ag2) got in
        let w1 = subst (λ q. Within D b1 (data_t ks q (kn ∷ ls) b1 (suc d2) t)) read w2 in
        let rest = alloc_t ks (map atype (u ∷ gs)) (kn ∷ ls) b1 (suc d2) t in
        let good = term_each t (suc n) (u ∷ gs) (kn ∷ ls) b1 (suc d2) (atype u ∷ ag2) w1 h.2 (
          at_new d2 ag2 (atype u),
          agree_later ls gs d2 (suc d2) ag2 (atype u ∷ ag2) (λ k z q. at_more d2 ag2 k z (atype u) q)
              (agree_shifted law ls g d2 x.types (agree_later ls g d d2 ag x.types x.later a)),
        )
        (subst (All-below (suc n)) now (declared_below p ok n x.types x.below (dcl ls b d e) dec)) in
        x.checks (Let (dcl ls b d e) (alloc_t ks (d_types ks (map atype g) e) (kn ∷ ls) b1 (suc d2) t))
        (both_let P p n x.types (dcl ls b d e) (alloc_t ks (d_types ks (map atype g) e) (kn ∷ ls) b1 (suc d2) t) dec
        (w.each, subst (P (suc n)) (sym got) (pa (suc n) u h.1.0))
        (subst (λ q. Both P p (suc n) (declared p x.types (dcl ls b d e)) (alloc_t ks q (kn ∷ ls) b1 (suc d2) t))
        (sym read) (subst (λ q. Both P p (suc n) q rest) (sym now) good)))
    term_each (HCall f ts vs) n g ls b d ag wi h a bel =
        let us = h.0 in
        let b1 = n_v ls b f in
        let x0 = data_v ks (map atype g) ls b f in
        let x1 = data_vs ks (map atype g) ls b1 vs in
        let to = csubs (names ts TCVar) us in
        let x = comes_v P Q law pa pm ks p same ok n g ls f (TCCode (ccount ts) us) b d ag (front p.tuples b x0 x1 wi)
        h.1 a bel in
        let d1 = v_next ls d f in
        let y = comes_vs P Q law pa pm ks p same ok n g ls vs to b1 d1 x.types
        (back p.tuples b b1 x0 x1 (len_v ks (map atype g) ls f b) wi) h.4
        (agree_later ls g d d1 ag x.types x.later a) x.below in
        let d2 = vs_next ls d1 vs in
        let end = Call (val ls b d d2 f) (atypes ts) (vals ls b1 d1 d2 vs) in
        let w = x.good d2 y.types y.later in
        x.checks (pre_vs ks (map atype g) ls b1 d1 vs end) (y.checks end (
          (
            ACode (ccount ts) (atypes us),
            atypes to,
            has_of P p n y.types _ _ w,
            types_below law ts n h.2,
            apply_is law ts 0 us,
            all_typed P Q law pa pm ks p same ok n vs to ls b1 d1 d2 y.types y.good,
          ),
          (w.each, pas P Q law pa pm n ts h.3, all_each P Q law pa pm ks p same ok n vs to ls b1 d1 d2 y.types y.good),
        ))
    term_each (HIf v t u) n g ls b d ag wi h a bel =
        let D = p.tuples in
        let d1 = v_next ls d v in
        let b1 = n_v ls b v in
        let b2 = n_t ls b1 d1 t in
        let x0 = data_v ks (map atype g) ls b v in
        let x1 = data_t ks (map atype g) ls b1 d1 t in
        let x2 = data_t ks (map atype g) ls b2 d1 u in
        let w2 = back D b b1 x0 (x1 ++ x2) (len_v ks (map atype g) ls v b) wi in
        let x = comes_v P Q law pa pm ks p same ok n g ls v TCInt b d ag (front D b x0 (x1 ++ x2) wi) h.0 a bel in
        let a2 = agree_later ls g d d1 ag x.types x.later a in
        let w = x.good d1 x.types (λ k z q. q) in
        let tw = term_each t n g ls b1 d1 x.types (front D b1 x1 x2 w2) h.1 a2 x.below in
        let uw = term_each u n g ls b2 d1 x.types (back D b1 b2 x1 x2 (len_t ks t (map atype g) ls b1 d1) w2) h.2 a2
        x.below in
        x.checks (If0 (val ls b d d1 v) (alloc_t ks (map atype g) ls b1 d1 t) (alloc_t ks (map atype g) ls b2 d1 u))
        ((has_of P p n x.types _ _ w, tw.0, uw.0), (w.each, tw.1, uw.1))
    term_each (HHalt v) n g ls b d ag wi h a bel =
        let x = comes_v P Q law pa pm ks p same ok n g ls v TCInt b d ag wi h a bel in
        let w = x.good (v_next ls d v) x.types (λ k z q. q) in
        x.checks (Halt (val ls b d (v_next ls d v) v)) (has_of P p n x.types _ _ w, w.each)
    term_each (HLet (HCell v) t) n g ls b d ag wi h a bel =
        let e : HDecl = HCell v in
        let D = p.tuples in
        let b1 = n_d ls b e in
        let kn = known_of ls b d e in
        let x0 = data_d ks (map atype g) ls b e in
        let x1 = data_t ks (d_types ks (map atype g) e) (kn ∷ ls) b1 (suc (d_next ls d e)) t in
        let w0 = front D b x0 x1 wi in
        let w2 = back D b b1 x0 x1 (len_d ks (map atype g) ls e b) wi in
        let u = h.1.1 in
        let x = comes_v P Q law pa pm ks p same ok n g ls v u b d ag w0 h.1.3 a bel in
        let d1 = v_next ls d v in
        let read : v_type ks (map atype g) v ≡ atype u = type_read Q law ks n g v u h.1.3 in
        let old = ATuple (MoreAFields (atype u) false NoAFields) in
        let cell = ATuple (MoreAFields (atype u) true NoAFields) in
        let wv = x.good d1 x.types (λ k z q. q) in
        let dm : TypedDecl p n x.types (Malloc (atypes (MoreCTys u NoCTys))) =
        (type_below p ok n x.types x.below (val ls b d d1 v) (atype u) wv.fine wv.is, tt) in
        let em : DEach P p n x.types (Malloc (atypes (MoreCTys u NoCTys))) =
        ((pa n u (own_of Q law ks n g v u h.1.3), tt), pc n u (subst (Q n) h.1.2 h.1.0)) in
        let bm : All-below n (old ∷ x.types) =
        declared_below p ok n x.types x.below (Malloc (atypes (MoreCTys u NoCTys))) dm in
        let on : Later d1 x.types (suc d1) (old ∷ x.types) = λ k z q. at_more d1 x.types k z old q in
        let w1 = x.good (suc d1) (old ∷ x.types) on in
        let dec : TypedDecl p n (old ∷ x.types) (dcl ls b d e) = (
          MoreAFields (atype u) false NoAFields,
          0,
          atype u,
          record { fine = tt; is = refl },
          has_of P p n (old ∷ x.types) _ _ w1,
          refl,
          refl,
        ) in
        let own = subst (Q n) h.1.2 h.1.0 in
        let de : DEach P p n (old ∷ x.types) (dcl ls b d e) = (pc n u own, w1.each, pa n (TCRef u) own) in
        let b2 : All-below n (cell ∷ old ∷ x.types) = declared_below p ok n (old ∷ x.types) bm (dcl ls b d e) dec in
        let w4 = subst
        (λ q. Within D b1
        (data_t ks (ATuple (MoreAFields q true NoAFields) ∷ map atype g) (kn ∷ ls) b1 (suc (suc d1)) t)) read w2 in
        let rest = alloc_t ks (map atype (TCRef u ∷ g)) (kn ∷ ls) b1 (suc (suc d1)) t in
        let good = term_each t n (TCRef u ∷ g) (kn ∷ ls) b1 (suc (suc d1)) (cell ∷ old ∷ x.types) w4
        (subst (λ q. HTypedWith Q ks n (q ∷ g) t) h.1.2 h.2) (
          at_new (suc d1) (old ∷ x.types) cell,
          agree_later ls g d (suc (suc d1)) ag (cell ∷ old ∷ x.types)
              (λ k z q. at_more (suc d1) (old ∷ x.types) k z cell (on k z (x.later k z q))) a,
        ) b2 in
        x.checks (Let (Malloc (MoreATys (v_type ks (map atype g) v) NoATys))
        (Let (dcl ls b d e)
        (alloc_t ks (ATuple (MoreAFields (v_type ks (map atype g) v) true NoAFields) ∷ map atype g) (kn ∷ ls) b1
        (suc (suc d1)) t)))
        (subst (λ q.
        Both P p n x.types
        (Let (Malloc (MoreATys q NoATys))
        (Let (dcl ls b d e)
        (alloc_t ks (ATuple (MoreAFields q true NoAFields) ∷ map atype g) (kn ∷ ls) b1 (suc (suc d1)) t))))
        (sym read)
        (both_let P p n x.types (Malloc (atypes (MoreCTys u NoCTys))) (Let (dcl ls b d e) rest) dm em
        (both_let P p n (old ∷ x.types) (dcl ls b d e) rest dec de good)))
    term_each (HLet (HGet v) t) n g ls b d ag wi h a bel =
        let e : HDecl = HGet v in
        let D = p.tuples in
        let b1 = n_d ls b e in
        let kn = known_of ls b d e in
        let x0 = data_d ks (map atype g) ls b e in
        let x1 = data_t ks (d_types ks (map atype g) e) (kn ∷ ls) b1 (suc (d_next ls d e)) t in
        let w0 = front D b x0 x1 wi in
        let w2 = back D b b1 x0 x1 (len_d ks (map atype g) ls e b) wi in
        let u = h.0 in
        let x = comes_v P Q law pa pm ks p same ok n g ls v (TCRef u) b d ag w0 h.1.1 a bel in
        let d2 = v_next ls d v in
        let w = x.good d2 x.types (λ k z q. q) in
        let read : field_of 1 (Some (v_type ks (map atype g) v)) ≡ atype u =
        ap (λ q. field_of 1 (Some q)) (type_read Q law ks n g v (TCRef u) h.1.1) in
        let dec : TypedDecl p n x.types (dcl ls b d e) =
        (MoreAFields (atype u) true NoAFields, 0, atype u, has_of P p n x.types _ _ w, refl, refl, refl) in
        let got : field_of 1 (type_of p x.types (val ls b d d2 v)) ≡ atype u = ap (field_of 1) w.is in
        let now : declared p x.types (dcl ls b d e) ≡ atype u ∷ x.types = ap (λ z. z ∷ x.types) got in
        let w1 = subst (λ q. Within D b1 (data_t ks (q ∷ map atype g) (kn ∷ ls) b1 (suc d2) t)) read w2 in
        let rest = alloc_t ks (map atype (u ∷ g)) (kn ∷ ls) b1 (suc d2) t in
        let good = term_each t n (u ∷ g) (kn ∷ ls) b1 (suc d2) (atype u ∷ x.types) w1 h.2 (
          at_new d2 x.types (atype u),
          agree_later ls g d (suc d2) ag (atype u ∷ x.types)
              (λ k z q. at_more d2 x.types k z (atype u) (x.later k z q)) a,
        )
        (subst (All-below n) now (declared_below p ok n x.types x.below (dcl ls b d e) dec)) in
        x.checks (Let (dcl ls b d e) (alloc_t ks (d_types ks (map atype g) e) (kn ∷ ls) b1 (suc d2) t))
        (both_let P p n x.types (dcl ls b d e) (alloc_t ks (d_types ks (map atype g) e) (kn ∷ ls) b1 (suc d2) t) dec
        (w.each, subst (P n) (sym got) (pa n u h.1.0))
        (subst (λ q. Both P p n (declared p x.types (dcl ls b d e))
        (alloc_t ks (q ∷ map atype g) (kn ∷ ls) b1 (suc d2) t)) (sym read)
        (subst (λ q. Both P p n q rest) (sym now) good)))
    term_each (HLet (HSet v w) t) n g ls b d ag wi h a bel =
        let e : HDecl = HSet v w in
        let D = p.tuples in
        let b1 = n_d ls b e in
        let kn = known_of ls b d e in
        let x0 = data_d ks (map atype g) ls b e in
        let x1 = data_t ks (d_types ks (map atype g) e) (kn ∷ ls) b1 (suc (d_next ls d e)) t in
        let w0 = front D b x0 x1 wi in
        let w2 = back D b b1 x0 x1 (len_d ks (map atype g) ls e b) wi in
        let u = h.1.1 in
        let x = comes_v P Q law pa pm ks p same ok n g ls v (TCRef u) b d ag
        (front D b (data_v ks (map atype g) ls b v) (data_v ks (map atype g) ls (n_v ls b v) w) w0) h.1.3 a bel in
        let d1 = v_next ls d v in
        let y = comes_v P Q law pa pm ks p same ok n g ls w u (n_v ls b v) d1 x.types
        (back D b (n_v ls b v) (data_v ks (map atype g) ls b v) (data_v ks (map atype g) ls (n_v ls b v) w)
        (len_v ks (map atype g) ls v b) w0) h.1.4 (agree_later ls g d d1 ag x.types x.later a) x.below in
        let d2 = v_next ls d1 w in
        let cell = ATuple (MoreAFields (atype u) true NoAFields) in
        let set = Init (val ls b d d2 v) 1 (val ls (n_v ls b v) d1 d2 w) in
        let c = x.good d2 y.types y.later in
        let yw = y.good d2 y.types (λ k z q. q) in
        let dec : TypedDecl p n y.types set = (
          MoreAFields (atype u) true NoAFields,
          0,
          atype u,
          has_of P p n y.types _ _ c,
          has_of P p n y.types _ _ yw,
          refl,
          refl,
        ) in
        let got : filled_of 1 (type_of p y.types (val ls b d d2 v)) ≡ cell = ap (filled_of 1) c.is in
        let now : declared p y.types set ≡ cell ∷ y.types = ap (λ z. z ∷ y.types) got in
        let de : DEach P p n y.types set =
        (c.each, yw.each, subst (P n) (sym got) (pa n (TCRef u) (own_of Q law ks n g v (TCRef u) h.1.3))) in
        let bm : All-below n (cell ∷ y.types) =
        subst (All-below n) now (declared_below p ok n y.types y.below set dec) in
        let none = ATuple NoAFields in
        let last = alloc_t ks (map atype (TCTuple NoCTys ∷ g)) (kn ∷ ls) b1 (suc (suc d2)) t in
        let rest = Let (Malloc NoATys) last in
        let good = term_each t n (TCTuple NoCTys ∷ g) (kn ∷ ls) b1 (suc (suc d2)) (none ∷ cell ∷ y.types) w2
        (subst (λ q. HTypedWith Q ks n (q ∷ g) t) h.1.2 h.2) (
          at_new (suc d2) (cell ∷ y.types) none,
          agree_later ls g d (suc (suc d2)) ag (none ∷ cell ∷ y.types)
              (λ k z q. at_more (suc d2) (cell ∷ y.types) k z none
              (at_more d2 y.types k z cell (y.later k z (x.later k z q)))) a,
        ) (tt, bm) in
        let named =
        both_let P p n (cell ∷ y.types) (Malloc NoATys) last tt
        (tt, pa n (TCTuple NoCTys) (subst (Q n) h.1.2 h.1.0)) good in
        x.checks (pre_v ks (map atype g) ls (n_v ls b v) d1 w (Let set rest))
        (y.checks (Let set rest)
        (both_let P p n y.types set rest dec de (subst (λ q. Both P p n q rest) (sym now) named)))

  args_in : (ks xs : HBlks) (b : ℕ) → AllTypedWith Q ks xs → (l : ℕ) (k : ABlk) →
      slice_get (alloc_all ks b xs) l ≡ Some k → ABelow-types k.owes k.args
  args_in ks [] b a l k e = absurd (impossible e)
    where
      impossible : None ≡ Some k → ⊥
      impossible q = cc
  args_in ks (x ∷ xs) b a zero k e =
      let y : alloc_block ks b x ≡ k = cc in
      subst (λ z. ABelow-types z.owes z.args) y (types_below law x.args x.owes a.0.0)
  args_in ks (x ∷ xs) b a (suc l) k e = args_in ks xs (n_block b x) a.1 l k e

  block_is : (ks xs : HBlks) (b l : ℕ) (k : HBlk) → block_at xs l ≡ Some k →
      code_type (slice_get (alloc_all ks b xs) l) ≡ Some (ACode k.owes (atypes k.args))
  block_is ks [] b l k e = absurd (impossible e)
    where
      impossible : None ≡ Some k → ⊥
      impossible q = cc
  block_is ks (x ∷ xs) b zero k e = let y : x ≡ k = cc in ap (λ z. Some (ACode z.owes (atypes z.args))) y
  block_is ks (x ∷ xs) b (suc l) k e = block_is ks xs (n_block b x) l k e

  block_in : (ks xs : HBlks) → AllTypedWith Q ks xs → (l : ℕ) (k : HBlk) → block_at xs l ≡ Some k →
      ABelow-types k.owes (atypes k.args)
  block_in ks [] a l k e = absurd (impossible e)
    where
      impossible : None ≡ Some k → ⊥
      impossible q = cc
  block_in ks (x ∷ xs) a zero k e =
      let y : x ≡ k = cc in subst (λ z. ABelow-types z.owes (atypes z.args)) y (types_below law x.args x.owes a.0.0)
  block_in ks (x ∷ xs) a (suc l) k e = block_in ks xs a.1 l k e

  module _ (ks : HBlks) (p : AProg) (same : Labels-of ks p) (good : AllTypedWith Q ks ks) where
    blocks_each : (xs : HBlks) (b : ℕ) → Args-below p → Within p.tuples b (data_all ks b xs) → AllTypedWith Q ks xs →
        TypedBlocks p (alloc_all ks b xs) × BsEach P p (alloc_all ks b xs)
    blocks_each [] b ok wi a = (tt, tt)
    blocks_each (x ∷ xs) b ok wi a =
        let scoped = types_below law x.args x.owes a.0.0 in
        let y = data_block ks b x in
        let ys = data_all ks (n_block b x) xs in
        let g = cargs_onto x.args [] in
        let w0 = subst (λ q. Within p.tuples b (data_t ks q (arg_levels 0 [] x.args) b (arg_depth 0 x.args) x.body))
        (scope_args x.args []) (front p.tuples b y ys wi) in
        let body = term_each ks p same ok x.body x.owes g (arg_levels 0 [] x.args) b (arg_depth 0 x.args)
        (types_of (atypes x.args) []) w0 a.0.2 (agree_args x.args [] [] 0 [] tt)
        (below_args x.owes (atypes x.args) [] scoped tt) in
        let one = subst
        (λ q. Both P p x.owes (types_of (atypes x.args) [])
        (alloc_t ks q (arg_levels 0 [] x.args) b (arg_depth 0 x.args) x.body)) (sym (scope_args x.args [])) body in
        let more = blocks_each xs (n_block b x) ok (back p.tuples b (n_block b x) y ys (len_block ks x b) wi) a.1 in
        (((scoped, one.0), more.0), ((pas P Q law pa pm x.owes x.args a.0.1, one.1), more.1))

    data_each : (xs : HBlks) (b : ℕ) → Within p.tuples b (data_all ks b xs) → AllTypedWith Q ks xs →
        TypedTuples p (data_all ks b xs) × TuplesEach P p (data_all ks b xs)
    data_each [] b wi a = (tt, tt)
    data_each (x ∷ xs) b wi a =
        let y = data_block ks b x in
        let ys = data_all ks (n_block b x) xs in
        let g = cargs_onto x.args [] in
        let rows = arg_levels 0 [] x.args in
        let w0 = subst (λ q. Within p.tuples b (data_t ks q rows b (arg_depth 0 x.args) x.body)) (scope_args x.args [])
        (front p.tuples b y ys wi) in
        let one = data_t_ok P Q law p0 ks p same (block_in ks ks good) x.body x.owes g rows b (arg_depth 0 x.args) w0
        a.0.2 (consts_args P p x.args 0 [] [] tt) in
        let two = subst
        (λ q. TypedTuples p (data_t ks q rows b (arg_depth 0 x.args) x.body)
        × TuplesEach P p (data_t ks q rows b (arg_depth 0 x.args) x.body)) (sym (scope_args x.args [])) one in
        tuples_both P p y ys two
        (data_each xs (n_block b x) (back p.tuples b (n_block b x) y ys (len_block ks x b) wi) a.1)

  -- the allocation of a typed program is typed, and its types have the property
  pub program_typed : (ks : HBlks) (t : HTm) → HProgramWith Q ks t → TypedProgram (alloc_prog ks t) (alloc_main ks t)
      × ProgramEach P (alloc_prog ks t) (alloc_main ks t)
  program_typed ks t h =
      let p = alloc_prog ks t in
      let D = p.tuples in
      let b = n_all 0 ks in
      let xs = data_all ks 0 ks in
      let ys = data_t ks [] [] b 0 t in
      let whole : Within D 0 (xs ++ ys) = λ i x e. (let z : 0 + i ≡ i = omega arith in ap (slice_get D) z ∙ e) in
      let w0 = front D 0 xs ys whole in
      let w1 = back D 0 b xs ys (len_all ks ks 0) whole in
      let same : Labels-of ks p = block_is ks ks 0 in
      let made = tuples_both P p xs ys (data_each ks p same h.0 ks 0 w0 h.0)
      (data_t_ok P Q law p0 ks p same (block_in ks ks h.0) t 0 [] [] b 0 w1 h.1 tt) in
      let ok : Args-below p =
      record { args = args_in ks ks 0 h.0; data_in = λ n x e. data_below p x (data_at p D made.0 n x e) } in
      let one = term_each ks p same ok t 0 [] [] b 0 [] w1 h.1 tt tt in
      let all = blocks_each ks p same h.0 ks 0 ok w0 h.0 in
      (record { blocks = all.0; tuples = made.0; main_ok = one.0 }, (all.1, made.1, one.1))
