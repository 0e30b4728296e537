-- A walk along the nodes of a tree.
use Rattle.std.proofs.Common.{true, ◌≤◌, ◌+◌, ◌≡◌, ◌<◌, ℕ, zero, suc, ◌-◌, nat_lt, Bool, ◌⊎◌, inl, inr, List, [], ◌∷◌}
use Rattle.std.proofs.Common.{◌++◌, Option, Some, None, refl, sym, ap, ap₂, ◌∙◌, subst, append_assoc, length, take}
use Rattle.std.proofs.Common.{drop, arith}
use Rattle.std.proofs.lemmas.List.{length-append, append-nil}
use Rattle.std.proofs.lemmas.Bool.{lt-ltb}
use Rattle.calc_core.proofs.Levels.{level_below}
use Rattle.calc_core.specs.Ends.{lift}
use Rattle.calc_core.specs.Levels.{level_of}
use Rattle.c_terms.specs.C.{CApply, CArith, CCall, CCell, CCode, CDecl, CGet, CHalt, CIf, CInt, CLet, CName, CPack}
use Rattle.c_terms.specs.C.{CProj, CSet, CTm, CTuple, CTys, CUnpack, CVal, CVals, CVar, MoreCVals, NoCVals, ccount}
use Rattle.c_terms.specs.C.{cd_next, ct_next, cv_next, cvs_next}
use Rattle.c_terms.specs.Scope.{CScoped, CScoped_d, CScoped_v, CScoped_vs}
use Rattle.c_terms.specs.Size.{CSmall, CSmall_d, CSmall_t, CSmall_v, CSmall_vs, cown_d, cown_t}
use Rattle.c_terms.specs.Stream.{CNd, MApply, MArith, MCall, MCell, MCode, MElse, MEnd, MGet, MHalt, MIf, MInt, MName}
use Rattle.c_terms.specs.Stream.{MPack, MProj, MSet, MTuple, MUnpack, MVar, clin_d, clin_t, clin_v, clin_vs, cwidth}
use Rattle.h_terms.specs.H.{HApply, HArith, HBlks, HCall, HCell, HDecl, HGet, HIf, HLabel, HLet, HName, HPack, HProj}
use Rattle.h_terms.specs.H.{HSet, HTm, HTuple, HUnpack, HVal, HVals, HVar, MoreHVals, NoHVals}
use Rattle.h_terms.specs.Nodes.{no_term, tied, tupled}
use Rattle.calc_core.specs.Row.{others, top}
use Rattle.h_pass.proofs.Spots.{deep, deep_suc, first_or, near, self}
use Rattle.h_pass.specs.Hoist.{Code, Nobody, Own, blocks_d, blocks_t, blocks_v, blocks_vs, hoist_d, hoist_t, hoist_v}
use Rattle.h_pass.specs.Hoist.{hoist_vs, spot, spot_value}
use Rattle.h_pass.specs.Stream.{Around, Found, both, call_of, call_ok, code_found, end_found, found_in, hoisted}
use Rattle.h_pass.specs.Stream.{name_at, whole}
use Rattle.h_pass.specs.Walk.{Ends}
use Rattle.calc_core.proofs.Lifts.{lift_add}
use Rattle.idx_core.proofs.Lists.{taken_all as take_left}
use Rattle.h_terms.proofs.Parts.{at_last_push}

-- blocks before what was found, and one more term
abbrev pub with : HBlks → Found → Found
with ks r = record { terms = r.terms; outer = r.outer; blocks = ks ++ r.blocks; fine = r.fine }

abbrev pub and_term : HTm → HBlks → Found → Found
and_term t ks r = record { terms = t ∷ r.terms; outer = r.outer; blocks = ks ++ r.blocks; fine = r.fine }

abbrev pub and_let : HDecl → HBlks → Found → Found
and_let x ks r =
    record {
      terms = HLet x (top no_term r.terms) ∷ others r.terms;
      outer = r.outer;
      blocks = ks ++ r.blocks;
      fine = r.fine;
    }

abbrev blocked : List HTm → List (List HTm) → Bool → HBlks → Found
blocked ts tss ok ks = record { terms = ts; outer = tss; blocks = ks; fine = ok }

with_two : (ks ls : HBlks) (r : Found) → with ks (with ls r) ≡ with (ks ++ ls) r
with_two ks ls r = ap (blocked r.terms r.outer r.fine) (sym (append_assoc ks ls r.blocks))

-- names
at_level : (b e l i : ℕ) → i < e → l ≡ suc (e - 1 - suc i) → name_at (Code b) e l ≡ HVar (e - 1 - l)
at_level b e zero i lt h = absurd (omega (arith, h))
at_level b e (suc l) i lt h = refl

in_code : (b d i : ℕ) → (i < d) ⊎ (i ≡ d) →
    name_at (Code b) (suc d) (level_of (suc d) i) ≡ spot_value (spot (Code b) d i)
in_code b d i (inl lt) =
    let e = level_below (suc d) i (omega (arith, lt)) in
    at_level b (suc d) (level_of (suc d) i) i (omega (arith, lt)) (omega (arith, lt, e))
    ∙ ap HVar (let q : suc d - 1 - level_of (suc d) i ≡ i = omega (arith, lt, e) in q)
    ∙ sym (ap spot_value (near (Code b) d i lt))
in_code b d i (inr is) =
    let e = level_below (suc d) i (omega (arith, is)) in
    ap (name_at (Code b) (suc d)) (let q : level_of (suc d) i ≡ 0 = omega (arith, is, e) in q)
    ∙ sym (ap (λ j. spot_value (spot (Code b) d j)) is ∙ ap spot_value (self b d))

named : (own : Own) (d i : ℕ) → i < deep own d → name_at own (deep own d) (level_of (deep own d) i)
    ≡ spot_value (spot own d i)
named Nobody d i lt =
    let e = level_below d i lt in
    ap HVar (let q : d - 1 - level_of d i ≡ i = omega (arith, lt, e) in q) ∙ sym (ap spot_value (near Nobody d i lt))
named (Code b) d i lt = in_code b d i (first_or d i lt)

-- values
abbrev listed : HVals → List HVal
listed NoHVals = []
listed (MoreHVals v vs) = v ∷ listed vs

tied_listed : (vs : HVals) → tied (listed vs) ≡ vs
tied_listed NoHVals = refl
tied_listed (MoreHVals v vs) = ap (MoreHVals v) (tied_listed vs)

drop_left : {X : Type 0} (xs ys : List X) → drop (length xs) (xs ++ ys) ≡ ys
drop_left [] ys = refl
drop_left (x ∷ xs) ys = drop_left xs ys

tupled_last : (xs : List HVal) (vs : HVals) (n : ℕ) → n ≡ length (listed vs) →
    tupled n (xs ++ listed vs) ≡ xs ++ HTuple vs ∷ []
tupled_last xs vs n e =
    let k : length (xs ++ listed vs) - n ≡ length xs = omega (arith, e, length-append xs (listed vs)) in
    ap (λ m. take m (xs ++ listed vs) ++ HTuple (tied (drop m (xs ++ listed vs))) ∷ []) k
    ∙ ap₂ (λ x y. x ++ HTuple (tied y) ∷ []) (take_left xs (listed vs)) (drop_left xs (listed vs))
    ∙ ap (λ v. xs ++ HTuple v ∷ []) (tied_listed vs)

width : (own : Own) (d b : ℕ) (vs : CVals) → cwidth vs ≡ length (listed (hoist_vs own d b vs))
width own d b NoCVals = refl
width own d b (MoreCVals v vs) = ap suc (width own d (cv_next b v) vs)

-- a call ends
pub call_ends : (rest : List CNd) (b : ℕ) (own : Own) (ds : List ℕ) (vs : List HVal) (ts : CTys) (fs : List Around) →
    Ends rest →
    found_in rest b own ds vs (Some ts) fs
    ≡ end_found (call_ok ds vs) (call_of vs ts) (found_in rest b own (others ds) [] None fs)
call_ends [] b own ds vs ts fs h = refl
call_ends (MEnd ∷ rest) b own ds vs ts [] h = refl
call_ends (MEnd ∷ rest) b own ds vs ts (f ∷ fs) h = refl
call_ends (MElse ∷ rest) b own ds vs ts fs h = refl
call_ends (MVar l ∷ rest) b own ds vs ts fs h = absurd h
call_ends (MInt l ∷ rest) b own ds vs ts fs h = absurd h
call_ends (MTuple l ∷ rest) b own ds vs ts fs h = absurd h
call_ends (MCode l m ∷ rest) b own ds vs ts fs h = absurd h
call_ends (MApply l ∷ rest) b own ds vs ts fs h = absurd h
call_ends (MPack l m ∷ rest) b own ds vs ts fs h = absurd h
call_ends (MName l ∷ rest) b own ds vs ts fs h = absurd h
call_ends (MProj l m ∷ rest) b own ds vs ts fs h = absurd h
call_ends (MArith l m ∷ rest) b own ds vs ts fs h = absurd h
call_ends (MUnpack l ∷ rest) b own ds vs ts fs h = absurd h
call_ends (MCell l ∷ rest) b own ds vs ts fs h = absurd h
call_ends (MGet l ∷ rest) b own ds vs ts fs h = absurd h
call_ends (MSet l ∷ rest) b own ds vs ts fs h = absurd h
call_ends (MCall l m ∷ rest) b own ds vs ts fs h = absurd h
call_ends (MIf ∷ rest) b own ds vs ts fs h = absurd h
call_ends (MHalt ∷ rest) b own ds vs ts fs h = absurd h

called : (rest : List CNd) (b : ℕ) (own : Own) (e : ℕ) (ds : List ℕ) (v : HVal) (vs : HVals) (ts : CTys)
    (fs : List Around) → Ends rest →
    found_in rest b own (e ∷ ds) (v ∷ listed vs) (Some ts) fs
    ≡ and_term (HCall v ts vs) [] (found_in rest b own ds [] None fs)
called rest b own e ds v vs ts fs h =
    call_ends rest b own (e ∷ ds) (v ∷ listed vs) ts fs h
    ∙ ap (λ us. and_term (HCall v ts us) [] (found_in rest b own ds [] None fs)) (tied_listed vs)

with_let : (x : HDecl) (t : HTm) (ks ls : HBlks) (r : Found) →
    and_let x ks (and_term t ls r) ≡ and_term (HLet x t) (ks ++ ls) r
with_let x t ks ls r = ap (blocked (HLet x t ∷ r.terms) r.outer r.fine) (sym (append_assoc ks ls r.blocks))

abbrev if_fine : HVal → Found → Found
if_fine v r =
    record {
      terms = HIf v (top no_term r.terms) (top no_term (others r.terms)) ∷ others (others r.terms);
      outer = r.outer;
      blocks = r.blocks;
      fine = r.fine;
    }

with_if : (v : HVal) (t u : HTm) (ks ls ms : HBlks) (r : Found) → with ks (if_fine v (and_term t ls (and_term u ms r)))
    ≡ and_term (HIf v t u) (ks ++ (ls ++ ms)) r
with_if v t u ks ls ms r =
    ap (blocked (HIf v t u ∷ r.terms) r.outer r.fine)
    (ap (λ xs. ks ++ xs) (sym (append_assoc ls ms r.blocks)) ∙ sym (append_assoc ks (ls ++ ms) r.blocks))

-- a declaration, where one more name is a number
roomy : (e : ℕ) (x : HDecl) (ks : HBlks) (r : Found) → e < 18446744073709551615 →
    record {
      terms = HLet x (top no_term r.terms) ∷ others r.terms;
      outer = r.outer;
      blocks = ks ++ r.blocks;
      fine = both (both (nat_lt e 18446744073709551615) true) r.fine;
    } ≡ and_let x ks r
roomy e x ks r lt =
    ap (λ ok. record {
      terms = HLet x (top no_term r.terms) ∷ others r.terms;
      outer = r.outer;
      blocks = ks ++ r.blocks;
      fine = both (both ok true) r.fine;
    }) (lt-ltb e 18446744073709551615 lt)

own_some : (x : CDecl) → 1 ≤ cown_d x
own_some (CName v) = omega arith
own_some (CProj i v) = omega arith
own_some (CArith op v w) = omega arith
own_some (CUnpack v) = omega arith
own_some (CCell v) = omega arith
own_some (CGet v) = omega arith
own_some (CSet v w) = omega arith

module _ (M : ℕ) (small : suc M < 18446744073709551615) where
  mutual
    fuse_v : (v : CVal) (own : Own) (d b : ℕ) (ds : List ℕ) (xs : List HVal) (c : Option CTys) (fs : List Around)
        (rest : List CNd) → CScoped_v (deep own d) v → CSmall_v M v →
        found_in (clin_v (deep own d) v rest) b own (deep own d ∷ ds) xs c fs
        ≡ with (blocks_v b v) (found_in rest (cv_next b v) own (deep own d ∷ ds) (xs ++ hoist_v own d b v ∷ []) c fs)
    fuse_v (CVar i) own d b ds xs c fs rest h s =
        ap (λ v. found_in rest b own (deep own d ∷ ds) (xs ++ v ∷ []) c fs) (named own d i h)
    fuse_v (CInt n) own d b ds xs c fs rest h s = refl
    fuse_v (CTuple vs) own d b ds xs c fs rest h s =
        fuse_vs vs own d b ds xs c fs (MTuple (cwidth vs) ∷ rest) h s
        ∙ ap (λ ys. with (blocks_vs b vs) (found_in rest (cvs_next b vs) own (deep own d ∷ ds) ys c fs))
        (tupled_last xs (hoist_vs own d b vs) (cwidth vs) (width own d b vs))
    fuse_v (CCode owes args body) own d b ds xs c fs rest h s =
        let n = ccount args in
        let e : lift n 1 ≡ suc n = omega (arith, lift_add n 1) in
        let f : Around = record { own = own; depths = deep own d ∷ ds; values = xs ++ HLabel b ∷ []; call = c } in
        ap (λ m. code_found owes args
        (found_in (clin_t m body (MEnd ∷ rest)) (suc b) (Code b) (m ∷ []) [] None (f ∷ fs))) e
        ∙ ap (code_found owes args)
        (fuse_t body (Code b) n (suc b) [] (f ∷ fs) (MEnd ∷ rest) tt (subst (λ m. CScoped m body) e h) s.1
        (omega (arith, s.0)))
    fuse_v (CApply v ts) own d b ds xs c fs rest h s =
        fuse_v v own d b ds xs c fs (MApply ts ∷ rest) h s
        ∙ ap (λ ys. with (blocks_v b v) (found_in rest (cv_next b v) own (deep own d ∷ ds) ys c fs))
        (at_last_push (λ w. HApply w ts) xs (hoist_v own d b v))
    fuse_v (CPack k v q) own d b ds xs c fs rest h s =
        fuse_v v own d b ds xs c fs (MPack k q ∷ rest) h s
        ∙ ap (λ ys. with (blocks_v b v) (found_in rest (cv_next b v) own (deep own d ∷ ds) ys c fs))
        (at_last_push (λ w. HPack k w q) xs (hoist_v own d b v))

    fuse_vs : (vs : CVals) (own : Own) (d b : ℕ) (ds : List ℕ) (xs : List HVal) (c : Option CTys) (fs : List Around)
        (rest : List CNd) → CScoped_vs (deep own d) vs → CSmall_vs M vs →
        found_in (clin_vs (deep own d) vs rest) b own (deep own d ∷ ds) xs c fs
        ≡ with (blocks_vs b vs)
        (found_in rest (cvs_next b vs) own (deep own d ∷ ds) (xs ++ listed (hoist_vs own d b vs)) c fs)
    fuse_vs NoCVals own d b ds xs c fs rest h s =
        ap (λ ys. found_in rest b own (deep own d ∷ ds) ys c fs) (sym (append-nil xs))
    fuse_vs (MoreCVals v vs) own d b ds xs c fs rest h s =
        let w = hoist_v own d b v in
        let ws = listed (hoist_vs own d (cv_next b v) vs) in
        fuse_v v own d b ds xs c fs (clin_vs (deep own d) vs rest) h.0 s.0
        ∙ ap (with (blocks_v b v))
        (fuse_vs vs own d (cv_next b v) ds (xs ++ w ∷ []) c fs rest h.1 s.1
        ∙ ap (λ ys. with (blocks_vs (cv_next b v) vs)
        (found_in rest (cvs_next (cv_next b v) vs) own (deep own d ∷ ds) ys c fs)) (append_assoc xs (w ∷ []) ws))
        ∙ with_two (blocks_v b v) (blocks_vs (cv_next b v) vs) _

    fuse_d : (x : CDecl) (own : Own) (d b : ℕ) (ds : List ℕ) (fs : List Around) (rest : List CNd) →
        CScoped_d (deep own d) x → CSmall_d M x → deep own d < 18446744073709551615 →
        found_in (clin_d (deep own d) x rest) b own (deep own d ∷ ds) [] None fs
        ≡ and_let (hoist_d own d b x) (blocks_d b x)
        (found_in rest (cd_next b x) own (suc (deep own d) ∷ ds) [] None fs)
    fuse_d (CName v) own d b ds fs rest h s lt = fuse_v v own d b ds [] None fs (MName (deep own d) ∷ rest) h s
        ∙ roomy (deep own d) (HName (hoist_v own d b v)) (blocks_v b v)
        (found_in rest (cv_next b v) own (suc (deep own d) ∷ ds) [] None fs) lt
    fuse_d (CProj i v) own d b ds fs rest h s lt = fuse_v v own d b ds [] None fs (MProj (deep own d) i ∷ rest) h s
        ∙ roomy (deep own d) (HProj i (hoist_v own d b v)) (blocks_v b v)
        (found_in rest (cv_next b v) own (suc (deep own d) ∷ ds) [] None fs) lt
    fuse_d (CArith o v w) own d b ds fs rest h s lt =
        fuse_v v own d b ds [] None fs (clin_v (deep own d) w (MArith (deep own d) o ∷ rest)) h.0 s.0
        ∙ ap (with (blocks_v b v))
        (fuse_v w own d (cv_next b v) ds (hoist_v own d b v ∷ []) None fs (MArith (deep own d) o ∷ rest) h.1 s.1)
        ∙ with_two (blocks_v b v) (blocks_v (cv_next b v) w) _
        ∙ roomy (deep own d) (HArith o (hoist_v own d b v) (hoist_v own d (cv_next b v) w))
        (blocks_v b v ++ blocks_v (cv_next b v) w)
        (found_in rest (cv_next (cv_next b v) w) own (suc (deep own d) ∷ ds) [] None fs) lt
    fuse_d (CUnpack v) own d b ds fs rest h s lt = fuse_v v own d b ds [] None fs (MUnpack (deep own d) ∷ rest) h s
        ∙ roomy (deep own d) (HUnpack (hoist_v own d b v)) (blocks_v b v)
        (found_in rest (cv_next b v) own (suc (deep own d) ∷ ds) [] None fs) lt
    fuse_d (CCell v) own d b ds fs rest h s lt = fuse_v v own d b ds [] None fs (MCell (deep own d) ∷ rest) h s
        ∙ roomy (deep own d) (HCell (hoist_v own d b v)) (blocks_v b v)
        (found_in rest (cv_next b v) own (suc (deep own d) ∷ ds) [] None fs) lt
    fuse_d (CGet v) own d b ds fs rest h s lt = fuse_v v own d b ds [] None fs (MGet (deep own d) ∷ rest) h s
        ∙ roomy (deep own d) (HGet (hoist_v own d b v)) (blocks_v b v)
        (found_in rest (cv_next b v) own (suc (deep own d) ∷ ds) [] None fs) lt
    fuse_d (CSet v w) own d b ds fs rest h s lt =
        fuse_v v own d b ds [] None fs (clin_v (deep own d) w (MSet (deep own d) ∷ rest)) h.0 s.0
        ∙ ap (with (blocks_v b v))
        (fuse_v w own d (cv_next b v) ds (hoist_v own d b v ∷ []) None fs (MSet (deep own d) ∷ rest) h.1 s.1)
        ∙ with_two (blocks_v b v) (blocks_v (cv_next b v) w) _
        ∙ roomy (deep own d) (HSet (hoist_v own d b v) (hoist_v own d (cv_next b v) w))
        (blocks_v b v ++ blocks_v (cv_next b v) w)
        (found_in rest (cv_next (cv_next b v) w) own (suc (deep own d) ∷ ds) [] None fs) lt

    fuse_t : (t : CTm) (own : Own) (d b : ℕ) (ds : List ℕ) (fs : List Around) (rest : List CNd) → Ends rest →
        CScoped (deep own d) t → CSmall_t M t → deep own d + cown_t t ≤ suc M →
        found_in (clin_t (deep own d) t rest) b own (deep own d ∷ ds) [] None fs
        ≡ and_term (hoist_t own d b t) (blocks_t b t) (found_in rest (ct_next b t) own ds [] None fs)
    fuse_t (CLet x t) own d b ds fs rest ends h s le =
        let e = sym (deep_suc own d) in
        let one = own_some x in
        fuse_d x own d b ds fs (clin_t (suc (deep own d)) t rest) h.0 s.0 (omega (arith, le, small, one))
        ∙ ap (λ m. and_let (hoist_d own d b x) (blocks_d b x)
        (found_in (clin_t m t rest) (cd_next b x) own (m ∷ ds) [] None fs)) e
        ∙ ap (and_let (hoist_d own d b x) (blocks_d b x))
        (fuse_t t own (suc d) (cd_next b x) ds fs rest ends (subst (λ m. CScoped m t) e h.1) s.1
        (omega (arith, le, one, deep_suc own d)))
        ∙ with_let (hoist_d own d b x) (hoist_t own (suc d) (cd_next b x) t) (blocks_d b x) (blocks_t (cd_next b x) t) _
    fuse_t (CCall f ts vs) own d b ds fs rest ends h s le =
        let c1 = cv_next b f in
        fuse_v f own d b ds [] None fs (MCall ts (cwidth vs) ∷ clin_vs (deep own d) vs rest) h.0 s.0
        ∙ ap (with (blocks_v b f)) (fuse_vs vs own d c1 ds (hoist_v own d b f ∷ []) (Some ts) fs rest h.1 s.1
        ∙ ap (with (blocks_vs c1 vs))
        (called rest (cvs_next c1 vs) own (deep own d) ds (hoist_v own d b f) (hoist_vs own d c1 vs) ts fs ends))
        ∙ with_two (blocks_v b f) (blocks_vs c1 vs) _
    fuse_t (CIf v t u) own d b ds fs rest ends h s le =
        let c1 = cv_next b v in
        let c2 = ct_next c1 t in
        let e = deep own d in
        fuse_v v own d b ds [] None fs (MIf ∷ clin_t e t (MElse ∷ clin_t e u rest)) h.0 s.0
        ∙ ap (λ r. with (blocks_v b v) (if_fine (hoist_v own d b v) r))
        (fuse_t t own d c1 (e ∷ ds) fs (MElse ∷ clin_t e u rest) tt h.1 s.1 (omega (arith, le))
        ∙ ap (and_term (hoist_t own d c1 t) (blocks_t c1 t))
        (fuse_t u own d c2 ds fs rest ends h.2 s.2 (omega (arith, le))))
        ∙ with_if (hoist_v own d b v) (hoist_t own d c1 t) (hoist_t own d c2 u) (blocks_v b v) (blocks_t c1 t)
        (blocks_t c2 u) _
    fuse_t (CHalt v) own d b ds fs rest ends h s le = fuse_v v own d b ds [] None fs (MHalt ∷ rest) h s

pub found_is : (t : CTm) → CScoped 0 t → CSmall 17592186044416 t → hoisted (clin_t 0 t []) ≡ whole t
found_is t h s = fuse_t 17592186044416 (omega arith) t Nobody 0 0 [] [] [] tt h s.1 (omega (arith, s.0))
