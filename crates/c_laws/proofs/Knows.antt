-- The walk knows of codes and calls what the conversion of the tree asks for.
use Rattle.std.proofs.Common.{◌≡◌, ℕ, zero, suc, ◌-◌, ◌<◌, ◌≤◌, Bool, true, false, ◌||◌, List, [], ◌∷◌, length, refl}
use Rattle.std.proofs.Common.{sym, ap, ap₂, ◌∙◌, arith}
use Rattle.calc_core.specs.Ends.{lift, under, after_one}
use Rattle.k_terms.specs.K.{KTy, KTys, TKInt, TKTuple, TKCode, NoKTys, KVal, KVar, KInt, KTuple, KCode, KVals, NoKVals}
use Rattle.k_terms.specs.K.{MoreKVals, KDecl, KName, KProj, KArith, KPack, KUnpack, KCell, KGet, KSet, KTm, KLet}
use Rattle.k_terms.specs.K.{KCall, KIf, KHalt, kcount, kbody_scope, krens_scope, kren, opens, scope_more}
use Rattle.k_terms.specs.Types.{kd_type}
use Rattle.c_rules.specs.Free.{tfree, tfrees, tfree_v, tfree_vs, tfree_d, tfree_t}
use Rattle.c_rules.specs.Close.{Scope, ctype, ctypes, inner, with_var, open_if, with_decl, in_call, no_scope}
use Rattle.k_terms.specs.Stream.{KNd, NTuple, NEnd, NName, NProj, NArith, NPack, NUnpack, NCell, NGet, NSet, NCall}
use Rattle.k_terms.specs.Stream.{NIf, NElse, NHalt, klin_v, klin_vs, klin_d, klin_t, kwidth}
use Rattle.c_rules.specs.Emit.{notes_v, notes_vs, notes_d, notes_t, Calls, Packs, info_of, infos_v, infos_vs, infos_d}
use Rattle.c_rules.specs.Emit.{infos_t}
use Rattle.c_laws.specs.Walks.{top_side}
use Rattle.c_rules.specs.Know.{with_note, Clue, Bound, Side, Known, side_var, side_of, info_from, bind, bind_all}
use Rattle.c_rules.specs.Know.{side_depth, with_info, side_with, know, clue_of, clues_v, clues_vs, clues_d, clues_t}
use Rattle.c_laws.proofs.TypeLaws.{ctype_same, ctypes_same}
use Rattle.c_laws.proofs.Knowing.{Closed, HoldsAt, Holds, Keeps, Fits, keeps_more, keeps_less, keeps_lift, still_holds}
use Rattle.c_laws.proofs.Knowing.{bind_keeps, bind_holds, bind_long, inner_closed, scope_closed, d_closed, bound_now}
use Rattle.c_laws.proofs.Knowing.{raise, all_hold, all_keep, info_is, inner_side, inner_fits, side_is}
use Rattle.calc_core.proofs.Lifts.{lift_add}
use Rattle.c_laws.proofs.Envs.{or_left, or_right}

left : (td : ℕ) (a b : ℕ → Bool) → Closed td (λ j. a j || b j) → Closed td a
left td a b c = λ j e. c j (or_left (a j) (b j) e)

right : (td : ℕ) (a b : ℕ → Bool) → Closed td (λ j. a j || b j) → Closed td b
right td a b c = λ j e. c j (or_right (a j) (b j) e)

keeps_all : (td d : ℕ) (xs : List Bound) (g : List KTy) → Holds td d xs g → Keeps d xs xs
keeps_all td d xs g h = record { long = h.long; same = λ l lt. refl }

call_fits : (f : Side) (o td : ℕ) (r : ℕ → ℕ) → Fits (side_with o false f) td r →
    Fits (side_with o true f) td (λ i. suc (r i))
call_fits f o td r h = record { deep = h.deep; var = λ j lt. ap suc (h.var j lt) }

-- what is bound in a code
body_holds : (d : ℕ) (s : Scope) (owes : ℕ) (args : KTys) (xs : List Bound) → Holds s.tcount d xs s.types →
    Closed s.tcount (λ j. tfrees (lift owes j) args) →
    Holds (lift owes s.tcount) (lift (kcount args) (suc d))
    (bind_all (bind xs d (TKCode owes args) s.tcount) (suc d) args (lift owes s.tcount))
    (kbody_scope owes args s.types)
body_holds d s owes args xs h c =
    let td = s.tcount in
    let x : Bound = record { type = TKCode owes args; depth = td } in
    let own : HoldsAt (lift owes td) x (kren (lift owes) (TKCode owes args)) = record {
      deep = omega (arith, lift_add owes td);
      is = ap (λ n. kren (lift n) (TKCode owes args))
          (let q : lift owes td - td ≡ owes = omega (arith, lift_add owes td) in q);
      scoped = c;
    } in
    all_hold args (lift owes td) (suc d) (bind xs d (TKCode owes args) td)
    (kren (lift owes) (TKCode owes args) ∷ krens_scope (lift owes) s.types)
    (bind_holds (lift owes td) d xs (krens_scope (lift owes) s.types) (TKCode owes args)
    (kren (lift owes) (TKCode owes args)) td (raise owes td d xs s.types h) own)
    (inner_closed owes td (λ j. tfrees j args) c)

body_keeps : (d : ℕ) (td owes : ℕ) (args : KTys) (xs zs : List Bound) → d ≤ length xs →
    Keeps (lift (kcount args) (suc d)) (bind_all (bind xs d (TKCode owes args) td) (suc d) args (lift owes td)) zs →
    Keeps d xs zs
body_keeps d td owes args xs zs h k =
    let ys = bind xs d (TKCode owes args) td in
    let us = bind_all ys (suc d) args (lift owes td) in
    let x : Bound = record { type = TKCode owes args; depth = td } in
    keeps_more d xs ys zs (bind_keeps xs d (TKCode owes args) td h)
    (keeps_less d ys zs
    (keeps_more (suc d) ys us zs (all_keep args (lift owes td) (suc d) ys (omega (arith, bind_long xs d x h)))
    (keeps_lift (kcount args) (suc d) us zs k)))

abbrev Then : ℕ → List Bound → List KNd → Side → List Side → List Clue → Known → Type 0
Then d xs rest f fs cs R = (ys : List Bound) → Keeps d xs ys → know rest ys f fs cs ≡ R

abbrev ThenAny : ℕ → List Bound → List KNd → Side → List Side → List Clue → Known → Type 0
ThenAny d xs rest f fs cs R =
    (ys : List Bound) (o : ℕ) (b : Bool) → Keeps d xs ys → know rest ys (side_with o b f) fs cs ≡ R

-- under a declaration
open_tcount : (b : Bool) (s : Scope) → (open_if b s).tcount ≡ after_one b s.tcount
open_tcount true s = refl
open_tcount false s = refl

open_types : (b : Bool) (s : Scope) → (open_if b s).types ≡ scope_more b s.types
open_types true s = refl
open_types false s = refl

open_holds : (b : Bool) (s : Scope) (d : ℕ) (ys : List Bound) (u : KTy) → Holds s.tcount d ys s.types →
    Closed (after_one b s.tcount) (λ j. tfree j u) →
    Holds (with_var u (open_if b s)).tcount (suc d) (bind ys d u (after_one b s.tcount))
    (with_var u (open_if b s)).types
open_holds true s d ys u h c =
    bind_holds (suc s.tcount) d ys (krens_scope suc s.types) u u (suc s.tcount) (raise 1 s.tcount d ys s.types h)
    (bound_now (suc s.tcount) u c)
open_holds false s d ys u h c = bind_holds s.tcount d ys s.types u u s.tcount h (bound_now s.tcount u c)

open_var : (f : Side) (o : ℕ) (s : Scope) → Fits (side_with o false f) s.tcount s.tvar → (j : ℕ) → j < suc s.tcount →
    side_var (side_with (suc o) false f) j ≡ under 1 s.tvar j
open_var f o s h zero lt = refl
open_var f o s h (suc j) lt = ap suc (h.var j (omega (arith, lt)))

open_fits : (b : Bool) (f : Side) (o : ℕ) (s : Scope) → Fits (side_with o false f) s.tcount s.tvar →
    Fits (side_with (after_one b o) false f) (open_if b s).tcount (open_if b s).tvar
open_fits true f o s h = record { deep = ap suc h.deep; var = open_var f o s h }
open_fits false f o s h = h

open_frees : (b : Bool) (s : Scope) (live : ℕ → Bool) → Closed s.tcount (λ j. live (after_one b j)) →
    Closed (open_if b s).tcount live
open_frees true s live c = inner_closed 1 s.tcount live c
open_frees false s live c = c

-- how many type variables of a code were in scope
back : (f : Side) (o td : ℕ) → lift o f.depth ≡ td → td - f.depth ≡ o
back f o td e = omega (arith, e, lift_add o f.depth)

mutual
  know_v : (v : KVal) (d : ℕ) (s : Scope) (xs : List Bound) (f : Side) (o : ℕ) (b : Bool) (fs : List Side)
      (rest : List KNd) (cs : List Clue) (R : Known) →
      Holds s.tcount d xs s.types → Fits (side_with o b f) s.tcount s.tvar → Closed s.tcount (λ j. tfree_v j v) →
      Then d xs rest (side_with o b f) fs cs R →
      know (klin_v d s.tcount s.types v rest) xs (side_with o b f) fs (clues_v d s.tcount v cs)
      ≡ (let k : Known = record { infos = infos_v d s v R.infos; notes = notes_v s v R.notes } in k)
  know_v (KVar i) d s xs f o b fs rest cs R h fit c k = k xs (keeps_all s.tcount d xs s.types h)
  know_v (KInt n) d s xs f o b fs rest cs R h fit c k = k xs (keeps_all s.tcount d xs s.types h)
  know_v (KTuple vs) d s xs f o b fs rest cs R h fit c k =
      know_vs vs d s xs f o b fs (NTuple (kwidth vs) ∷ rest) cs R h fit c k
  know_v (KCode owes args body) d s xs f o b fs rest cs R h fit c k =
      let td = s.tcount in
      let F = side_with o b f in
      let G = inner_side s owes args body in
      let n = kcount args in
      let D = lift n (suc d) in
      let s1 = inner s owes args body in
      let clue = clue_of d td owes args body in
      let more = clues_t D (lift owes td) body cs in
      let nodes = klin_t D (lift owes td) (kbody_scope owes args s.types) body (NEnd ∷ rest) in
      let ys = bind_all (bind xs d (TKCode owes args) td) (suc d) args (lift owes td) in
      let a : ℕ → Bool = λ j. tfrees (lift owes j) args in
      let e : ℕ → Bool = λ j. tfree_t (lift owes j) body in
      let inside : Known = record { infos = infos_t D s1 body R.infos; notes = notes_t s1 body R.notes } in
      ap (λ g. with_info (info_from td owes args clue xs F (side_of td owes clue xs)) (know nodes ys g (F ∷ fs) more))
      (side_is d s owes args body xs h)
      ∙ ap (λ i. with_info i (know nodes ys G (F ∷ fs) more)) (info_is d s owes args body xs F h fit c)
      ∙ ap (with_info (info_of d s owes args body))
      (know_t body D s1 ys G owes (F ∷ fs) (NEnd ∷ rest) cs R (body_holds d s owes args xs h (left td a e c))
      (inner_fits s owes args body) (inner_closed owes td (λ j. tfree_t j body) (right td a e c))
      (λ zs o1 b1 q. k zs (body_keeps d td owes args xs zs h.long q)))

  know_vs : (vs : KVals) (d : ℕ) (s : Scope) (xs : List Bound) (f : Side) (o : ℕ) (b : Bool) (fs : List Side)
      (rest : List KNd) (cs : List Clue) (R : Known) →
      Holds s.tcount d xs s.types → Fits (side_with o b f) s.tcount s.tvar → Closed s.tcount (λ j. tfree_vs j vs) →
      Then d xs rest (side_with o b f) fs cs R →
      know (klin_vs d s.tcount s.types vs rest) xs (side_with o b f) fs (clues_vs d s.tcount vs cs)
      ≡ (let k : Known = record { infos = infos_vs d s vs R.infos; notes = notes_vs s vs R.notes } in k)
  know_vs NoKVals d s xs f o b fs rest cs R h fit c k = k xs (keeps_all s.tcount d xs s.types h)
  know_vs (MoreKVals v vs) d s xs f o b fs rest cs R h fit c k =
      let a : ℕ → Bool = λ j. tfree_v j v in
      let e : ℕ → Bool = λ j. tfree_vs j vs in
      know_v v d s xs f o b fs (klin_vs d s.tcount s.types vs rest) (clues_vs d s.tcount vs cs)
      (record { infos = infos_vs d s vs R.infos; notes = notes_vs s vs R.notes }) h fit (left s.tcount a e c)
      (λ ys p. know_vs vs d s ys f o b fs rest cs R (still_holds s.tcount d xs ys s.types p h) fit
      (right s.tcount a e c) (λ zs q. k zs (keeps_more d xs ys zs p q)))

  know_d : (x : KDecl) (d : ℕ) (s : Scope) (xs : List Bound) (f : Side) (o : ℕ) (fs : List Side) (rest : List KNd)
      (cs : List Clue) (R : Known) →
      Holds s.tcount d xs s.types → Fits (side_with o false f) s.tcount s.tvar → Closed s.tcount (λ j. tfree_d j x) →
      ((ys : List Bound) → Keeps d xs ys →
      know rest (bind ys d (kd_type s.types x) (after_one (opens x) s.tcount))
      (side_with (after_one (opens x) o) false f) fs cs ≡ R) →
      know (klin_d d s.tcount s.types x rest) xs (side_with o false f) fs (clues_d d s.tcount x cs)
      ≡ (let k : Known = record { infos = infos_d d s x R.infos; notes = notes_d s x R.notes } in k)
  know_d (KName v) d s xs f o fs rest cs R h fit c k =
      know_v v d s xs f o false fs (NName d (kd_type s.types (KName v)) ∷ rest) cs R h fit c
      (λ ys p. ap (λ n. know rest (bind ys d (kd_type s.types (KName v)) n) (side_with o false f) fs cs) fit.deep
      ∙ k ys p)
  know_d (KProj i v) d s xs f o fs rest cs R h fit c k =
      know_v v d s xs f o false fs (NProj d i (kd_type s.types (KProj i v)) ∷ rest) cs R h fit c
      (λ ys p. ap (λ n. know rest (bind ys d (kd_type s.types (KProj i v)) n) (side_with o false f) fs cs) fit.deep
      ∙ k ys p)
  know_d (KArith op v w) d s xs f o fs rest cs R h fit c k =
      let a : ℕ → Bool = λ j. tfree_v j v in
      let e : ℕ → Bool = λ j. tfree_v j w in
      let last = NArith d op ∷ rest in
      know_v v d s xs f o false fs (klin_v d s.tcount s.types w last) (clues_v d s.tcount w cs)
      (record { infos = infos_v d s w R.infos; notes = notes_v s w R.notes }) h fit (left s.tcount a e c)
      (λ ys p. know_v w d s ys f o false fs last cs R (still_holds s.tcount d xs ys s.types p h) fit
      (right s.tcount a e c)
      (λ zs q. ap (λ n. know rest (bind zs d TKInt n) (side_with o false f) fs cs) fit.deep
      ∙ k zs (keeps_more d xs ys zs p q)))
  know_d (KPack h v x) d s xs f o fs rest cs R hold fit c k =
      let a : ℕ → Bool = λ j. tfree j h in
      let b : ℕ → Bool = λ j. tfree_v j v in
      let e : ℕ → Bool = λ j. tfree j x in
      let F = side_with o false f in
      let both = right s.tcount a (λ j. b j || e j) c in
      let n = Packs (ctype s.tvar h) (ctype s.tvar x) in
      know_v v d s xs f o false fs (NPack d s.tcount h x ∷ rest) cs (record { infos = R.infos; notes = n ∷ R.notes })
      hold fit (left s.tcount b e both)
      (λ ys p. ap₂ (λ y z. with_note (Packs y z) (know rest (bind ys d x (side_depth F)) F fs cs))
      (ctype_same h (side_var F) s.tvar (λ j q. fit.var j (left s.tcount a (λ j. b j || e j) c j q)))
      (ctype_same x (side_var F) s.tvar (λ j q. fit.var j (right s.tcount b e both j q)))
      ∙ ap (with_note n) (ap (λ m. know rest (bind ys d x m) F fs cs) fit.deep ∙ k ys p))
  know_d (KUnpack v) d s xs f o fs rest cs R h fit c k =
      know_v v d s xs f o false fs (NUnpack d s.tcount (kd_type s.types (KUnpack v)) ∷ rest) cs R h fit c
      (λ ys p. ap (λ n. know rest (bind ys d (kd_type s.types (KUnpack v)) (suc n)) (side_with (suc o) false f) fs cs)
      fit.deep ∙ k ys p)
  know_d (KCell v) d s xs f o fs rest cs R h fit c k =
      know_v v d s xs f o false fs (NCell d (kd_type s.types (KCell v)) ∷ rest) cs R h fit c
      (λ ys p. ap (λ n. know rest (bind ys d (kd_type s.types (KCell v)) n) (side_with o false f) fs cs) fit.deep
      ∙ k ys p)
  know_d (KGet v) d s xs f o fs rest cs R h fit c k =
      know_v v d s xs f o false fs (NGet d (kd_type s.types (KGet v)) ∷ rest) cs R h fit c
      (λ ys p. ap (λ n. know rest (bind ys d (kd_type s.types (KGet v)) n) (side_with o false f) fs cs) fit.deep
      ∙ k ys p)
  know_d (KSet v w) d s xs f o fs rest cs R h fit c k =
      let a : ℕ → Bool = λ j. tfree_v j v in
      let e : ℕ → Bool = λ j. tfree_v j w in
      let last = NSet d ∷ rest in
      know_v v d s xs f o false fs (klin_v d s.tcount s.types w last) (clues_v d s.tcount w cs)
      (record { infos = infos_v d s w R.infos; notes = notes_v s w R.notes }) h fit (left s.tcount a e c)
      (λ ys p. know_v w d s ys f o false fs last cs R (still_holds s.tcount d xs ys s.types p h) fit
      (right s.tcount a e c)
      (λ zs q. ap (λ n. know rest (bind zs d (TKTuple NoKTys) n) (side_with o false f) fs cs) fit.deep
      ∙ k zs (keeps_more d xs ys zs p q)))

  know_t : (t : KTm) (d : ℕ) (s : Scope) (xs : List Bound) (f : Side) (o : ℕ) (fs : List Side) (rest : List KNd)
      (cs : List Clue) (R : Known) →
      Holds s.tcount d xs s.types → Fits (side_with o false f) s.tcount s.tvar → Closed s.tcount (λ j. tfree_t j t) →
      ThenAny d xs rest f fs cs R →
      know (klin_t d s.tcount s.types t rest) xs (side_with o false f) fs (clues_t d s.tcount t cs)
      ≡ (let k : Known = record { infos = infos_t d s t R.infos; notes = notes_t s t R.notes } in k)
  know_t (KLet x t) d s xs f o fs rest cs R h fit c k =
      let td = s.tcount in
      let b = opens x in
      let a : ℕ → Bool = λ j. tfree_d j x in
      let e : ℕ → Bool = λ j. tfree_t (after_one b j) t in
      let u = kd_type s.types x in
      let s1 = with_decl x s in
      let tx = after_one b td in
      let F = side_with (after_one b o) false f in
      know_d x d s xs f o fs (klin_t (suc d) tx (u ∷ scope_more b s.types) t rest) (clues_t (suc d) tx t cs)
      (record { infos = infos_t (suc d) s1 t R.infos; notes = notes_t s1 t R.notes }) h fit (left td a e c)
      (λ ys p. let hy = still_holds td d xs ys s.types p h in
      let Y = bind ys d u tx in
      ap₂ (λ n (g : List KTy). know (klin_t (suc d) n (u ∷ g) t rest) Y F fs (clues_t (suc d) n t cs))
      (sym (open_tcount b s)) (sym (open_types b s))
      ∙ know_t t (suc d) s1 Y f (after_one b o) fs rest cs R
      (open_holds b s d ys u hy (d_closed x td s.types (scope_closed td d xs s.types h) (left td a e c)))
      (open_fits b f o s fit) (open_frees b s (λ j. tfree_t j t) (right td a e c))
      (λ zs o1 b1 q.
      k zs o1 b1 (keeps_more d xs ys zs p
      (keeps_more d ys Y zs (bind_keeps ys d u tx hy.long) (keeps_less d Y zs q)))))
  know_t (KCall g ts vs) d s xs f o fs rest cs R h fit c k =
      let td = s.tcount in
      let s3 = in_call s in
      let a : ℕ → Bool = λ j. tfree_v j g in
      let b : ℕ → Bool = λ j. tfrees j ts in
      let e : ℕ → Bool = λ j. tfree_vs j vs in
      let both : ℕ → Bool = λ j. b j || e j in
      let fit3 = call_fits f o td s.tvar fit in
      know_v g d s xs f o false fs (NCall d td ts (kwidth vs) ∷ klin_vs d td s.types vs rest) (clues_vs d td vs cs)
      (record { infos = infos_vs d s3 vs R.infos; notes = Calls (ctypes s3.tvar ts) ∷ notes_vs s3 vs R.notes }) h
      fit (left td a both c)
      (λ ys p. ap₂ (λ us. with_note (Calls us))
      (ctypes_same ts (side_var (side_with o true f)) s3.tvar
      (λ j q. fit3.var j (left td b e (right td a both c) j q)))
      (know_vs vs d s3 ys f o true fs rest cs R (still_holds td d xs ys s.types p h) fit3
      (right td b e (right td a both c)) (λ zs q. k zs o true (keeps_more d xs ys zs p q))))
  know_t (KIf v t u) d s xs f o fs rest cs R h fit c k =
      let td = s.tcount in
      let a : ℕ → Bool = λ j. tfree_v j v in
      let b : ℕ → Bool = λ j. tfree_t j t in
      let e : ℕ → Bool = λ j. tfree_t j u in
      let both : ℕ → Bool = λ j. b j || e j in
      let us = NElse td ∷ klin_t d td s.types u rest in
      let R1 : Known = record { infos = infos_t d s u R.infos; notes = notes_t s u R.notes } in
      know_v v d s xs f o false fs (NIf ∷ klin_t d td s.types t us) (clues_t d td t (clues_t d td u cs))
      (record { infos = infos_t d s t R1.infos; notes = notes_t s t R1.notes }) h fit (left td a both c)
      (λ ys p. know_t t d s ys f o fs us (clues_t d td u cs) R1 (still_holds td d xs ys s.types p h) fit
      (left td b e (right td a both c))
      (λ zs o1 b1 q. let r = keeps_more d xs ys zs p q in
      ap (λ n. know (klin_t d td s.types u rest) zs (side_with n false f) fs (clues_t d td u cs))
      (back f o td fit.deep) ∙ know_t u d s zs f o fs rest cs R (still_holds td d xs zs s.types r h) fit
      (right td b e (right td a both c)) (λ ws o2 b2 w. k ws o2 b2 (keeps_more d xs zs ws r w))))
  know_t (KHalt v) d s xs f o fs rest cs R h fit c k =
      know_v v d s xs f o false fs (NHalt ∷ rest) cs R h fit c (λ ys p. k ys o false p)

pub know_is : (t : KTm) → ((j : ℕ) → tfree_t j t ≡ true → ⊥) →
    know (klin_t 0 0 [] t []) [] top_side [] (clues_t 0 0 t [])
    ≡ (let k : Known = record { infos = infos_t 0 no_scope t []; notes = notes_t no_scope t [] } in k)
know_is t h =
    know_t t 0 no_scope [] top_side 0 [] [] [] (record { infos = []; notes = [] })
    (record { long = omega arith; width = refl; at = λ i lt. absurd (omega (arith, lt)) })
    (record { deep = refl; var = λ j lt. absurd (omega (arith, lt)) })
    (λ j e. absurd (h j e))
    (λ ys o b k. refl)
