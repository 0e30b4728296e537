-- The data of an allocated program are typed, and no package stands inside a package; their types have each property
-- that those of the hoisted program have.
use Rattle.std.proofs.Common.{◌≡◌, ◌+◌, ℕ, zero, suc, List, [], ◌∷◌, ◌++◌, Option, Some, None, refl, sym, ap, ◌∙◌}
use Rattle.std.proofs.Common.{subst, ap₂, arith}
use Rattle.std.specs.Prelude.{Bool, true, false, ◌&&◌, not, map, slice_get}
use Rattle.std.proofs.lemmas.Bool.{ltb-true, not-true as not_true, and_parts as both_true}
use Rattle.a_laws.proofs.CLaws.{CLaws}
use Rattle.a_laws.proofs.Consts.{Within, back, datum_there, front, len_d, len_t, len_v}
use Rattle.a_laws.proofs.Readings.{Labels-of, field_full, fields_are, scope_shifted, type_read, types_read}
use Rattle.a_laws.proofs.Types.{apply_is, atype_hidden, atype_suc}
use Rattle.a_laws.specs.Allocate.{Known, all_closed, are_const, arg_levels, atype, atypes, closed, const_of}
use Rattle.a_laws.specs.Allocate.{d_next, d_types, data_d, data_t, data_v, data_vs, datum_of, fields_closed, is_const}
use Rattle.a_laws.specs.Allocate.{is_label, is_pack, is_some, known_of, n_d, n_t, n_v, n_vs, named, or_zero, packs}
use Rattle.a_laws.specs.Allocate.{plain, v_next, v_type}
use Rattle.a_terms.specs.Each.{AAll, AProp, CsEach, TuplesEach, VEach}
use Rattle.a_terms.specs.Meaning.{pick}
use Rattle.a_terms.specs.Tree.{ABelow, ABelow-fields, ABelow-types, ACode, AConsts, AExists, AFields, AInt, AProg}
use Rattle.a_terms.specs.Tree.{ATuple, ATy, ATys, AVal, AVar, Apply, Data, Lab, MoreAFields, MoreATys, NoAFields}
use Rattle.a_terms.specs.Tree.{NoATys, Num, Pack, Var, ashift}
use Rattle.a_terms.specs.TypeLaws.{below_apply, shift_below}
use Rattle.a_terms.specs.Typing.{TypedData, Flat, Has, TypedTuples, Unpacked, applied, aset, body_of, data_type}
use Rattle.a_terms.specs.Typing.{field_of}
use Rattle.a_terms.specs.Typing.{or_int}
use Rattle.c_terms.specs.C.{CTy, CTys, MoreCTys, NoCTys, TCCode, TCInt, TCRef, TCExists, TCTuple, TCVar, ccount}
use Rattle.c_terms.specs.Each.{CAll, CProp}
use Rattle.c_terms.specs.Typing.{CAt, cargs_onto, crens_scope, csub, csubs, names, scons}
use Rattle.h_terms.specs.Each.{HTypedWith, HHasWith, HHaveWith}
use Rattle.h_terms.specs.H.{HApply, HArith, HBlk, HBlks, HCall, HCell, HDecl, HGet, HHalt, HIf, HInt, HLabel, HLet}
use Rattle.h_terms.specs.H.{HName, HPack, HProj, HSet, HTm, HTuple, HUnpack, HVal, HVals, HVar, MoreHVals, NoHVals}
use Rattle.h_terms.specs.H.{block_at}
use Rattle.calc_core.specs.Ends.{lift}

mutual
  pub closed_in : (t : ATy) (n : ℕ) → closed n t ≡ true → ABelow n t
  closed_in AInt n e = tt
  closed_in (AVar i) n e = ltb-true i n e
  closed_in (ATuple fs) n e = fields_in fs n e
  closed_in (ACode m ts) n e = (tt, all_in ts (n + m) e)
  closed_in (AExists t) n e = (tt, closed_in t (n + 1) e)

  pub all_in : (ts : ATys) (n : ℕ) → all_closed n ts ≡ true → ABelow-types n ts
  all_in NoATys n e = tt
  all_in (MoreATys t ts) n e =
      let r = both_true (closed n t) (all_closed n ts) e in (closed_in t n r.0, all_in ts n r.1)

  pub fields_in : (fs : AFields) (n : ℕ) → fields_closed n fs ≡ true → ABelow-fields n fs
  fields_in NoAFields n e = tt
  fields_in (MoreAFields t f fs) n e =
      let r = both_true (closed n t) (fields_closed n fs) e in (closed_in t n r.0, fields_in fs n r.1)

no_pack : (c : AVal) → is_pack c ≡ false → Unpacked c
no_pack (Var n) e = tt
no_pack (Num i) e = tt
no_pack (Lab l) e = tt
no_pack (Data n) e = tt
no_pack (Apply v ts) e = no_pack v e
no_pack (Pack h v s) e = absurd (clash e)
  where
    clash : true ≡ false → ⊥
    clash x = cc

unpacked : (ls : List Known) (b : ℕ) (v : HVal) → packs ls v ≡ false → is_const ls v ≡ true → Unpacked (const_of ls b v)
unpacked ls b (HVar i) e c = no_pack (or_zero (named (slice_get ls i))) e
unpacked ls b (HInt n) e c = tt
unpacked ls b (HLabel l) e c = tt
unpacked ls b (HTuple vs) e c = tt
unpacked ls b (HApply v ts) e c = label v (both_true (is_label v) (all_closed 0 (atypes ts)) c).0
  where
    label : (v : HVal) → is_label v ≡ true → Unpacked (const_of ls b v)
    label (HVar i) e = cc
    label (HInt n) e = tt
    label (HLabel l) e = tt
    label (HTuple vs) e = tt
    label (HApply v ts) e = cc
    label (HPack h v s) e = cc
unpacked ls b (HPack h v s) e c = absurd (clash e)
  where
    clash : true ≡ false → ⊥
    clash x = cc

pub label_const : (ls : List Known) (v : HVal) → is_label v ≡ true → is_const ls v ≡ true
label_const ls (HVar i) e = cc
label_const ls (HInt n) e = cc
label_const ls (HLabel l) e = refl
label_const ls (HTuple vs) e = cc
label_const ls (HApply v ts) e = cc
label_const ls (HPack h v s) e = cc

module _ (P : AProp) (p : AProg) where
  pub tuples_both : (xs ys : List AConsts) → TypedTuples p xs × TuplesEach P p xs → TypedTuples p ys × TuplesEach P p ys
      →
      TypedTuples p (xs ++ ys) × TuplesEach P p (xs ++ ys)
  tuples_both [] ys a b = b
  tuples_both (x ∷ xs) ys a b = let r = tuples_both xs ys (a.0.1, a.1.1) b in ((a.0.0, r.0), (a.1.0, r.1))

  -- a constant, typed at any place, and its types
  pub record ConstHas (c : AVal) (t : ATy) : Type 0 where
    pub has : Has p 0 [] c t
    pub below : ABelow 0 t
    pub flat : Flat c
    pub own : P 0 t
    pub each : VEach P p 0 [] c

  abbrev pub NamedHas : Option AVal → ATy → Type 0
  NamedHas None t = Unit {0}
  NamedHas (Some c) t = ConstHas c t

  abbrev pub AgreeC : List Known → List CTy → Type 0
  AgreeC [] [] = Unit {0}
  AgreeC [] (t ∷ g) = ⊥
  AgreeC (l ∷ ls) [] = ⊥
  AgreeC (l ∷ ls) (t ∷ g) = NamedHas l.constant (atype t) × AgreeC ls g

  named_has : (o : Option AVal) (t : ATy) → NamedHas o t → is_some o ≡ true → ConstHas (or_zero o) t
  named_has None t n e = absurd (impossible e)
    where
      impossible : false ≡ true → ⊥
      impossible x = cc
  named_has (Some c) t n e = n

  var_has : (ls : List Known) (g : List CTy) (i : ℕ) (t : CTy) → AgreeC ls g → CAt g i t →
      is_some (named (slice_get ls i)) ≡ true → ConstHas (or_zero (named (slice_get ls i))) (atype t)
  var_has [] [] i t a h e = absurd h
  var_has [] (u ∷ g) i t a h e = absurd a
  var_has (l ∷ ls) [] i t a h e = absurd a
  var_has (l ∷ ls) (u ∷ g) zero t a h e =
      named_has l.constant (atype t) (subst (λ x. NamedHas l.constant (atype x)) (sym h) a.0) e
  var_has (l ∷ ls) (u ∷ g) (suc i) t a h e = var_has ls g i t a.1 h e

  named_shift : (o : Option AVal) (t : CTy) → NamedHas o (atype t) → NamedHas o (ashift 1 0 (atype t))
  named_shift None t n = tt
  named_shift (Some c) t n = subst (ConstHas c) (sym (shift_below (atype t) 1 0 n.below)) n

  agree_shift : CLaws → (ls : List Known) (g : List CTy) → AgreeC ls g → AgreeC ls (crens_scope suc g)
  agree_shift law [] [] a = tt
  agree_shift law [] (t ∷ g) a = absurd a
  agree_shift law (l ∷ ls) [] a = absurd a
  agree_shift law (l ∷ ls) (t ∷ g) a =
      (subst (NamedHas l.constant) (sym (atype_suc law t)) (named_shift l.constant t a.0), agree_shift law ls g a.1)

  pub consts_args : (args : CTys) (d : ℕ) (ls : List Known) (g : List CTy) → AgreeC ls g →
      AgreeC (arg_levels d ls args) (cargs_onto args g)
  consts_args NoCTys d ls g a = a
  consts_args (MoreCTys t ts) d ls g a = consts_args ts (suc d) (plain d ∷ ls) (t ∷ g) (tt, a)

  named_if : (c : Bool) (k : AVal) (t : ATy) → (c ≡ true → ConstHas k t) → NamedHas (pick c (Some k) None) t
  named_if true k t f = f refl
  named_if false k t f = tt

  abbrev Right : List AConsts → Type 0
  Right xs = TypedTuples p xs × TuplesEach P p xs

  picked_right : (x : AConsts) (c : Bool) → (c ≡ true → TypedData p x × CsEach P p x) → Right (pick c (x ∷ []) [])
  picked_right x true f = let r = f refl in ((r.0, tt), (r.1, tt))
  picked_right x false f = (tt, tt)

module _ (P : AProp) (Q : CProp) (law : CLaws) (p0 : (n : ℕ) (t : CTy) → Q n t → P 0 (atype t)) where
  p0s : (n : ℕ) (ts : CTys) → CAll Q n ts → AAll P 0 (atypes ts)
  p0s n NoCTys h = tt
  p0s n (MoreCTys t ts) h = (p0 n t h.0, p0s n ts h.1)

  module _ (ks : HBlks) (p : AProg) (same : Labels-of ks p) (inside : (l : ℕ) (k : HBlk) → block_at ks l ≡ Some k →
      ABelow-types k.owes (atypes k.args)) where
    module _ (n : ℕ) (cs : List CTy) (ls : List Known) (agree : AgreeC P p ls cs) where
      abbrev g : List ATy
      g = map atype cs

      mutual
        const_has : (v : HVal) (t : CTy) (b : ℕ) → Within p.tuples b (data_v ks g ls b v) → HHasWith Q ks n cs v t →
            is_const ls v ≡ true → ConstHas P p (const_of ls b v) (atype t)
        const_has (HVar i) t b wi h c = var_has P p ls cs i t agree h.1 c
        const_has (HInt m) t b wi h c =
            subst (λ x. ConstHas P p (Num m) (atype x)) (sym h.1)
            (let q : P 0 AInt = subst (λ x. P 0 (atype x)) h.1 (p0 n t h.0) in
            record { has = record { fine = tt; is = refl }; below = tt; flat = tt; own = q; each = q })
        const_has (HLabel l) t b wi h c =
            let k = h.1.0 in
            let is = same l k h.1.1 in
            let zero : k.owes ≡ 0 + k.owes = omega arith in
            let q : P 0 (ACode k.owes (atypes k.args)) = subst (λ x. P 0 (atype x)) h.1.2 (p0 n t h.0) in
            subst (λ x. ConstHas P p (Lab l) (atype x)) (sym h.1.2)
            (record {
              has = record { fine = tt; is = is };
              below = (tt, subst (λ m. ABelow-types m (atypes k.args)) zero (inside l k h.1.1));
              flat = tt;
              own = q;
              each = subst (λ o. P 0 (or_int o)) (sym is) q;
            })
        const_has (HTuple vs) t b wi h c =
            let us = h.1 in
            let x = pick (are_const ls vs) (datum_of ks g ls b vs ∷ []) [] in
            let is : data_type (slice_get p.tuples (n_vs ls b vs)) ≡ Some (ATuple (aset (atypes us))) =
            ap data_type (datum_there p.tuples ks g ls b vs wi c)
            ∙ ap (λ q. Some (ATuple q)) (fields_are ks g ls b vs ∙ ap aset (types_read Q law ks n cs vs us h.3)) in
            let q : P 0 (ATuple (aset (atypes us))) = subst (λ x. P 0 (atype x)) h.2 (p0 n t h.0) in
            subst (λ x. ConstHas P p (Data (n_vs ls b vs)) (atype x)) (sym h.2) (record {
              has = record { fine = tt; is = is };
              below = consts_below vs us b (front p.tuples b (data_vs ks g ls b vs) x wi) h.3 c;
              flat = tt;
              own = q;
              each = subst (λ o. P 0 (or_int o)) (sym is) q;
            })
        const_has (HApply v ts) t b wi h c =
            let c2 = both_true (is_label v) (all_closed 0 (atypes ts)) c in
            let s = TCCode (lift h.1 (ccount ts)) h.2 in
            let r = const_has v s b wi h.4 (label_const ls v c2.0) in
            let below = all_in (atypes ts) 0 c2.1 in
            let got = apply_is law ts h.1 h.2 ∙ ap (λ x. Some (atype x)) (sym h.3) in
            let is = ap (λ o. applied o (atypes ts)) r.has.is ∙ got in
            let q = p0 n t h.0 in
            record {
              has = record { fine = (r.has.fine, below); is = is };
              below = below_apply (atypes ts) 0 (atype s) (atype t) r.below below got;
              flat = r.flat;
              own = q;
              each =
                  (subst (λ o. P 0 (or_int o)) (sym is) q, r.each, p0s n ts h.6);
            }
        const_has (HPack hid v s) t b wi h c =
            let c2 = both_true (is_const ls v) (not (packs ls v) && (closed 0 (atype hid) && closed 0 (atype s))) c in
            let c3 = both_true (not (packs ls v)) (closed 0 (atype hid) && closed 0 (atype s)) c2.1 in
            let c4 = both_true (closed 0 (atype hid)) (closed 0 (atype s)) c3.1 in
            let r = const_has v (csub (scons hid TCVar) h.1) b wi h.7 c2.0 in
            let bs = closed_in (atype s) 0 c4.1 in
            let q = p0 n t h.0 in
            record {
              has = record {
                fine = (
                  atype h.1,
                  r.has.fine,
                  closed_in (atype hid) 0 c4.0,
                  bs,
                  ap atype h.2,
                  r.has.is
                      ∙ ap Some (atype_hidden law hid h.1),
                );
                is = ap (λ x. Some (atype x)) (sym h.3);
              };
              below = subst (λ x. ABelow 0 (atype x)) (sym h.3) bs;
              flat = unpacked ls b v (not_true (packs ls v) c3.0) c2.0;
              own = q;
              each = (subst (λ x. P 0 (atype x)) h.3 q, p0 n hid h.6, r.each);
            }

        consts_below : (vs : HVals) (ts : CTys) (b : ℕ) → Within p.tuples b (data_vs ks g ls b vs) →
            HHaveWith Q ks n cs vs ts → are_const ls vs ≡ true → ABelow-fields 0 (aset (atypes ts))
        consts_below NoHVals ts b wi h c = subst (λ x. ABelow-fields 0 (aset (atypes x))) (sym h) tt
        consts_below (MoreHVals v vs) ts b wi h c =
            let c2 = both_true (is_const ls v) (are_const ls vs) c in
            let b1 = n_v ls b v in
            let x0 = data_v ks g ls b v in
            let x1 = data_vs ks g ls b1 vs in
            let r = const_has v h.0 b (front p.tuples b x0 x1 wi) h.3 c2.0 in
            subst (λ x. ABelow-fields 0 (aset (atypes x))) (sym h.2)
            (r.below, consts_below vs h.1 b1 (back p.tuples b b1 x0 x1 (len_v ks g ls v b) wi) h.4 c2.1)

      datum_right : (vs : HVals) (ts : CTys) (b : ℕ) → Within p.tuples b (data_vs ks g ls b vs) →
          HHaveWith Q ks n cs vs ts → are_const ls vs ≡ true → TypedData p (datum_of ks g ls b vs)
          × CsEach P p (datum_of ks g ls b vs)
      datum_right NoHVals ts b wi h c = (tt, tt)
      datum_right (MoreHVals v vs) ts b wi h c =
          let c2 = both_true (is_const ls v) (are_const ls vs) c in
          let b1 = n_v ls b v in
          let x0 = data_v ks g ls b v in
          let x1 = data_vs ks g ls b1 vs in
          let r = subst (ConstHas P p (const_of ls b v)) (sym (type_read Q law ks n cs v h.0 h.3))
          (const_has v h.0 b (front p.tuples b x0 x1 wi) h.3 c2.0) in
          let more = datum_right vs h.1 b1 (back p.tuples b b1 x0 x1 (len_v ks g ls v b) wi) h.4 c2.1 in
          (((r.has, r.below, r.flat), more.0), ((r.own, r.each), more.1))

      mutual
        data_v_ok : (v : HVal) (t : CTy) (b : ℕ) → Within p.tuples b (data_v ks g ls b v) → HHasWith Q ks n cs v t →
            Right P p (data_v ks g ls b v)
        data_v_ok (HVar i) t b wi h = (tt, tt)
        data_v_ok (HInt m) t b wi h = (tt, tt)
        data_v_ok (HLabel l) t b wi h = (tt, tt)
        data_v_ok (HTuple vs) t b wi h =
            let x = datum_of ks g ls b vs in
            let xs = data_vs ks g ls b vs in
            let q = pick (are_const ls vs) (x ∷ []) [] in
            let w = front p.tuples b xs q wi in
            tuples_both P p xs q (data_vs_ok vs h.1 b w h.3)
            (picked_right P p x (are_const ls vs) (λ c. datum_right vs h.1 b w h.3 c))
        data_v_ok (HApply v ts) t b wi h = data_v_ok v (TCCode (lift h.1 (ccount ts)) h.2) b wi h.4
        data_v_ok (HPack hid v s) t b wi h = data_v_ok v (csub (scons hid TCVar) h.1) b wi h.7

        data_vs_ok : (vs : HVals) (ts : CTys) (b : ℕ) → Within p.tuples b (data_vs ks g ls b vs) →
            HHaveWith Q ks n cs vs ts → Right P p (data_vs ks g ls b vs)
        data_vs_ok NoHVals ts b wi h = (tt, tt)
        data_vs_ok (MoreHVals v vs) ts b wi h =
            let b1 = n_v ls b v in
            let x0 = data_v ks g ls b v in
            let x1 = data_vs ks g ls b1 vs in
            tuples_both P p x0 x1 (data_v_ok v h.0 b (front p.tuples b x0 x1 wi) h.3)
            (data_vs_ok vs h.1 b1 (back p.tuples b b1 x0 x1 (len_v ks g ls v b) wi) h.4)

      two_ok : (v w : HVal) (t u : CTy) (b : ℕ) →
          Within p.tuples b (data_v ks g ls b v ++ data_v ks g ls (n_v ls b v) w) → HHasWith Q ks n cs v t →
          HHasWith Q ks n cs w u → Right P p (data_v ks g ls b v ++ data_v ks g ls (n_v ls b v) w)
      two_ok v w t u b wi h k =
          let b1 = n_v ls b v in
          let x0 = data_v ks g ls b v in
          let x1 = data_v ks g ls b1 w in
          tuples_both P p x0 x1 (data_v_ok v t b (front p.tuples b x0 x1 wi) h)
          (data_v_ok w u b1 (back p.tuples b b1 x0 x1 (len_v ks g ls v b) wi) k)

      one_ok : (v : HVal) (t : CTy) (b : ℕ) → Within p.tuples b (data_v ks g ls b v) → HHasWith Q ks n cs v t →
          NamedHas P p (pick (is_const ls v) (Some (const_of ls b v)) None) (atype t)
      one_ok v t b wi h = named_if P p (is_const ls v) (const_of ls b v) (atype t) (λ c. const_has v t b wi h c)

    -- a declaration's data, and those of the rest, whose types are read off as gs
    turned : (e : HDecl) (t : HTm) (cs : List CTy) (ls : List Known) (b d : ℕ) (gs : List ATy) →
        d_types ks (map atype cs) e ≡ gs → Within p.tuples b (data_t ks (map atype cs) ls b d (HLet e t)) →
        (Within p.tuples b (data_d ks (map atype cs) ls b e) → Right P p (data_d ks (map atype cs) ls b e)) →
        (Within p.tuples b (data_d ks (map atype cs) ls b e) →
        Within p.tuples (n_d ls b e) (data_t ks gs (known_of ls b d e ∷ ls) (n_d ls b e) (suc (d_next ls d e)) t) →
        Right P p (data_t ks gs (known_of ls b d e ∷ ls) (n_d ls b e) (suc (d_next ls d e)) t)) →
        Right P p (data_t ks (map atype cs) ls b d (HLet e t))
    turned e t cs ls b d gs read wi f rest =
        let g = map atype cs in
        let x0 = data_d ks g ls b e in
        let kn = known_of ls b d e in
        let b1 = n_d ls b e in
        let d1 = suc (d_next ls d e) in
        let x1 = data_t ks (d_types ks g e) (kn ∷ ls) b1 d1 t in
        let w0 = front p.tuples b x0 x1 wi in
        let w1 = back p.tuples b b1 x0 x1 (len_d ks g ls e b) wi in
        tuples_both P p x0 x1 (f w0)
        (subst (λ q. Right P p (data_t ks q (kn ∷ ls) b1 d1 t)) (sym read)
        (rest w0 (subst (λ q. Within p.tuples b1 (data_t ks q (kn ∷ ls) b1 d1 t)) read w1)))

    pub data_t_ok : (t : HTm) (n : ℕ) (cs : List CTy) (ls : List Known) (b d : ℕ) →
        Within p.tuples b (data_t ks (map atype cs) ls b d t) → HTypedWith Q ks n cs t → AgreeC P p ls cs →
        Right P p (data_t ks (map atype cs) ls b d t)
    data_t_ok (HLet (HName v) t) n cs ls b d wi h a =
        turned (HName v) t cs ls b d (map atype (h.0 ∷ cs))
        (ap (λ q. q ∷ map atype cs) (type_read Q law ks n cs v h.0 h.1)) wi
        (λ w. data_v_ok n cs ls a v h.0 b w h.1)
        (λ w w1. data_t_ok t n (h.0 ∷ cs) (known_of ls b d (HName v) ∷ ls) (n_v ls b v) (suc (v_next ls d v)) w1 h.2
        (one_ok n cs ls a v h.0 b w h.1, a))
    data_t_ok (HLet (HProj i v) t) n cs ls b d wi h a =
        let f = field_full i h.1.1 h.0 h.1.3 in
        let read : field_of i (Some (v_type ks (map atype cs) v)) ≡ atype h.0 =
        ap (λ q. field_of i (Some q)) (type_read Q law ks n cs v (TCTuple h.1.1) h.1.2)
        ∙ ap (λ k. field_of k (Some (ATuple (aset (atypes h.1.1))))) f.1 ∙ ap or_int f.2 in
        turned (HProj i v) t cs ls b d (map atype (h.0 ∷ cs)) (ap (λ q. q ∷ map atype cs) read) wi
        (λ w. data_v_ok n cs ls a v (TCTuple h.1.1) b w h.1.2)
        (λ w w1. data_t_ok t n (h.0 ∷ cs) (known_of ls b d (HProj i v) ∷ ls) (n_v ls b v) (suc (v_next ls d v)) w1 h.2
        (tt, a))
    data_t_ok (HLet (HArith op v w) t) n cs ls b d wi h a =
        turned (HArith op v w) t cs ls b d (map atype (TCInt ∷ cs)) refl wi
        (λ q. two_ok n cs ls a v w TCInt TCInt b q h.1.2 h.1.3)
        (λ q w1. data_t_ok t n (TCInt ∷ cs) (known_of ls b d (HArith op v w) ∷ ls) (n_v ls (n_v ls b v) w)
        (suc (v_next ls (v_next ls d v) w)) w1 (subst (λ q. HTypedWith Q ks n (q ∷ cs) t) h.1.1 h.2) (tt, a))
    data_t_ok (HLet (HUnpack v) t) n cs ls b d wi h a =
        let gs = crens_scope suc cs in
        let read : body_of (Some (v_type ks (map atype cs) v)) ∷ map (ashift 1 0) (map atype cs)
        ≡ map atype (h.0 ∷ gs) =
        ap₂ (λ q qs. q ∷ qs) (ap (λ q. body_of (Some q)) (type_read Q law ks n cs v (TCExists h.0) h.1.1))
        (scope_shifted law cs) in
        turned (HUnpack v) t cs ls b d (map atype (h.0 ∷ gs)) read wi
        (λ w. data_v_ok n cs ls a v (TCExists h.0) b w h.1.1)
        (λ w w1. data_t_ok t (suc n) (h.0 ∷ gs) (known_of ls b d (HUnpack v) ∷ ls) (n_v ls b v)
        (suc (v_next ls d v)) w1 h.2 (tt, agree_shift P p law ls cs a))
    data_t_ok (HLet (HCell v) t) n cs ls b d wi h a =
        turned (HCell v) t cs ls b d (map atype (TCRef h.1.1 ∷ cs))
        (ap (λ q. ATuple (MoreAFields q true NoAFields) ∷ map atype cs) (type_read Q law ks n cs v h.1.1 h.1.3)) wi
        (λ w. data_v_ok n cs ls a v h.1.1 b w h.1.3)
        (λ w w1. data_t_ok t n (TCRef h.1.1 ∷ cs) (known_of ls b d (HCell v) ∷ ls) (n_v ls b v)
        (suc (suc (v_next ls d v))) w1 (subst (λ q. HTypedWith Q ks n (q ∷ cs) t) h.1.2 h.2) (tt, a))
    data_t_ok (HLet (HGet v) t) n cs ls b d wi h a =
        turned (HGet v) t cs ls b d (map atype (h.0 ∷ cs))
        (ap (λ q. field_of 1 (Some q) ∷ map atype cs) (type_read Q law ks n cs v (TCRef h.0) h.1.1)) wi
        (λ w. data_v_ok n cs ls a v (TCRef h.0) b w h.1.1)
        (λ w w1. data_t_ok t n (h.0 ∷ cs) (known_of ls b d (HGet v) ∷ ls) (n_v ls b v) (suc (v_next ls d v)) w1 h.2
        (tt, a))
    data_t_ok (HLet (HSet v w) t) n cs ls b d wi h a =
        turned (HSet v w) t cs ls b d (map atype (TCTuple NoCTys ∷ cs)) refl wi
        (λ q. two_ok n cs ls a v w (TCRef h.1.1) h.1.1 b q h.1.3 h.1.4)
        (λ q w1. data_t_ok t n (TCTuple NoCTys ∷ cs) (known_of ls b d (HSet v w) ∷ ls) (n_v ls (n_v ls b v) w)
        (suc (suc (v_next ls (v_next ls d v) w))) w1 (subst (λ q. HTypedWith Q ks n (q ∷ cs) t) h.1.2 h.2) (tt, a))
    data_t_ok (HCall f ts vs) n cs ls b d wi h a =
        let g = map atype cs in
        let b1 = n_v ls b f in
        let x0 = data_v ks g ls b f in
        let x1 = data_vs ks g ls b1 vs in
        tuples_both P p x0 x1 (data_v_ok n cs ls a f (TCCode (ccount ts) h.0) b (front p.tuples b x0 x1 wi) h.1)
        (data_vs_ok n cs ls a vs (csubs (names ts TCVar) h.0) b1 (back p.tuples b b1 x0 x1 (len_v ks g ls f b) wi)
        h.4)
    data_t_ok (HIf v t u) n cs ls b d wi h a =
        let g = map atype cs in
        let d1 = v_next ls d v in
        let b1 = n_v ls b v in
        let b2 = n_t ls b1 d1 t in
        let x0 = data_v ks g ls b v in
        let x1 = data_t ks g ls b1 d1 t in
        let x2 = data_t ks g ls b2 d1 u in
        let w2 = back p.tuples b b1 x0 (x1 ++ x2) (len_v ks g ls v b) wi in
        tuples_both P p x0 (x1 ++ x2) (data_v_ok n cs ls a v TCInt b (front p.tuples b x0 (x1 ++ x2) wi) h.0)
        (tuples_both P p x1 x2 (data_t_ok t n cs ls b1 d1 (front p.tuples b1 x1 x2 w2) h.1 a)
        (data_t_ok u n cs ls b2 d1 (back p.tuples b1 b2 x1 x2 (len_t ks t g ls b1 d1) w2) h.2 a))
    data_t_ok (HHalt v) n cs ls b d wi h a = data_v_ok n cs ls a v TCInt b wi h
