-- The nodes that are emitted are those of the converted tree.
use Rattle.std.proofs.Common.{◌≡◌, ℕ, zero, suc, ◌+◌, ◌-◌, ◌<◌, ◌≤◌, Bool, true, false, ◌||◌, ◌⊎◌, inl, inr, List, []}
use Rattle.std.proofs.Common.{◌∷◌, Some, None, length, refl, sym, ap, ◌∙◌, subst, arith}
use Rattle.std.proofs.lemmas.Bool.{eq-eqb}
use Rattle.c_rules.specs.Places.{Places, further, place, kept_places, kept_count, keep_one}
use Rattle.calc_core.specs.Ends.{after_one, lift}
use Rattle.k_terms.specs.K.{KTy, KTys, KVal, KVar, KInt, KTuple, KCode, KVals, NoKVals, MoreKVals, KDecl, KName, KProj}
use Rattle.k_terms.specs.K.{KArith, KPack, KUnpack, KCell, KGet, KSet, KTm, KLet, KCall, KIf, KHalt, kcount}
use Rattle.k_terms.specs.K.{kbody_scope, opens, scope_more}
use Rattle.c_rules.specs.Free.{occurs_v, occurs_vs, occurs_d, occurs_t}
use Rattle.k_terms.specs.Types.{kd_type}
use Rattle.c_terms.specs.C.{CTm, NoCVals, ccount}
use Rattle.c_rules.specs.Close.{Scope, ctype, uses, keeps, rank, var_value, picked, projections, named, rebuilt}
use Rattle.c_rules.specs.Close.{closed_body, inner, with_var, open_if, with_decl, in_call, ctypes, close_v, close_vs}
use Rattle.c_rules.specs.Close.{close_d, close_t, close_of, no_scope}
use Rattle.k_terms.specs.Stream.{KNd, NTuple, NEnd, NName, NProj, NArith, NPack, NUnpack, NCell, NGet, NSet, NCall}
use Rattle.k_terms.specs.Stream.{NIf, NElse, NHalt, klin_v, klin_vs, klin_d, klin_t, kwidth}
use Rattle.c_terms.specs.Stream.{CNd, MVar, MTuple, MCode, MEnd, MApply, MPack, MName, MProj, MArith, MUnpack, MCell}
use Rattle.c_terms.specs.Stream.{MGet, MSet, MIf, MElse, clin_v, clin_vs, clin_d, clin_t, cwidth}
use Rattle.calc_core.specs.Levels.{level_of}
use Rattle.c_rules.specs.Emit.{notes_v, notes_vs, notes_d, notes_t, Note, Calls, Packs, Info, Frame, below, spot}
use Rattle.c_rules.specs.Emit.{fields, own_closure, frame_of, opened, closed, called, emit, info_of, infos_v, infos_vs}
use Rattle.c_rules.specs.Emit.{infos_d, infos_t}
use Rattle.c_laws.proofs.Spots.{Stands, At, length_levels, below_rank, rank_here, spot_in, spot_arg, spot_kept}
use Rattle.c_laws.proofs.Spots.{spot_own, env_kept, width_picked}
use Rattle.calc_core.proofs.Lifts.{lift_suc, lift_add}
use Rattle.calc_core.proofs.Levels.{level_below}
use Rattle.calc_core.proofs.Substituting.{low_or_past as near_or_far}
use Rattle.c_laws.proofs.Meaning.{ctypes_count as count_ctypes}
use Rattle.c_laws.proofs.Envs.{or_left, or_right}
use Rattle.c_laws.proofs.Translating.{place_further, count_rank, place_kept, place_near, place_far}
use Rattle.c_laws.proofs.Translating.{length_from, length_kept, length_further}

fewer : (f : Frame) (d e : ℕ) (ps : Places) (live few : ℕ → Bool) → ((i : ℕ) → few i ≡ true → live i ≡ true) →
    Stands f d e ps live → Stands f d e ps few
fewer f d e ps live few h s = record { long = s.long; at = λ i q. s.at i (h i q) }

-- one more name that the source doesn't have
deeper : (f : Frame) (d e : ℕ) (ps : Places) (live : ℕ → Bool) → Stands f d e ps live →
    Stands f d (suc e) (further ps) live
deeper f d e ps live s = record {
  long = length_further ps ∙ s.long;
  at = λ i h. let r = s.at i h in (r.0, suc r.1, place_further ps i r.1 r.2, omega (arith, r.3), r.4);
}

under_at : (f : Frame) (d e : ℕ) (ps : Places) (live : ℕ → Bool) → spot f d ≡ e → Stands f d e ps (λ i. live (suc i)) →
    (i : ℕ) → live i ≡ true → At f (suc d) (suc e) (Some 0 ∷ further ps) i
under_at f d e ps live is s zero h = (omega arith, 0, refl, omega arith, is)
under_at f d e ps live is s (suc i) h =
    let r = s.at i h in (omega (arith, r.0), suc r.1, place_further ps i r.1 r.2, omega (arith, r.3), r.4)

-- one more name
under_name : (f : Frame) (d e : ℕ) (ps : Places) (live : ℕ → Bool) → spot f d ≡ e →
    Stands f d e ps (λ i. live (suc i)) → Stands f (suc d) (suc e) (Some 0 ∷ further ps) live
under_name f d e ps live is s = record { long = ap suc (length_further ps ∙ s.long); at = under_at f d e ps live is s }

under_decl : (b : Bool) (u : KTy) (f : Frame) (d e : ℕ) (s : Scope) (live : ℕ → Bool) → spot f d ≡ e →
    Stands f d e s.vars (λ i. live (suc i)) → Stands f (suc d) (suc e) (with_var u (open_if b s)).vars live
under_decl true u f d e s live is st = under_name f d e s.vars live is st
under_decl false u f d e s live is st = under_name f d e s.vars live is st

pub level_lift : (n d i : ℕ) → level_of (lift n d) (lift n i) ≡ level_of d i
level_lift zero d i = refl
level_lift (suc n) d i = level_lift n d i

after_sum : (b : Bool) (x : ℕ) → after_one b x ≡ x + after_one b 0
after_sum true x = omega arith
after_sum false x = omega arith

kept_length : (d : ℕ) (s : Scope) (owes : ℕ) (args : KTys) (body : KTm) → length s.vars ≡ d →
    length (info_of d s owes args body).kept ≡ kept_count (keeps args body) s.vars
kept_length d s owes args body e = length_levels (keeps args body) d []
    ∙ (let q : rank (keeps args body) d + 0 ≡ rank (keeps args body) d = omega arith in q)
    ∙ ap (rank (keeps args body)) (sym e) ∙ sym (count_rank (keeps args body) s.vars)

inner_at : (f : Frame) (d e : ℕ) (s : Scope) (owes : ℕ) (args : KTys) (body : KTm) →
    Stands f d e s.vars (keeps args body) → (i : ℕ) → occurs_t i body ≡ true →
    (i < kcount args) ⊎ ((m : ℕ) × (i ≡ lift (kcount args) m)) →
    At (frame_of (info_of d s owes args body) d (kcount args)) (lift (kcount args) (suc d))
    (frame_of (info_of d s owes args body) d (kcount args)).start (inner s owes args body).vars i
inner_at f d e s owes args body st i h (inl near) =
    let n = kcount args in
    let g = frame_of (info_of d s owes args body) d n in
    let D = lift n (suc d) in
    let own = uses args body 0 in
    let ko = kept_count (uses args body) (None ∷ s.vars) in
    let kl = kept_length d s owes args body st.long in
    let e1 = after_sum own (lift n 2 + length g.kept) in
    let e2 = after_sum own (kept_count (keeps args body) s.vars) in
    let e3 = lift_add n 2 in
    let e4 = lift_add n (suc d) in
    let fits : ko + i < g.start = omega (arith, kl, e1, e2, e3, near) in
    let inD : i < D = omega (arith, e4, near) in
    let e5 = level_below D i inD in
    let e6 = level_below g.start (ko + i) fits in (
      inD,
      ko + i,
      place_near ko n (kept_places 0 (uses args body) (None ∷ s.vars)) i near,
      fits,
      spot_arg g (level_of D i) (omega (arith, e5)) (omega (arith, e4, e5, near))
          ∙ (let q : (level_of D i - d) + 1 ≡ level_of g.start (ko + i) =
          omega (arith, e1, e2, e3, e4, e5, e6, kl, near) in q),
    )
inner_at f d e s owes args body st i h (inr (zero, at)) =
    let n = kcount args in
    let g = frame_of (info_of d s owes args body) d n in
    let D = lift n (suc d) in
    let is : uses args body 0 ≡ true = subst (λ x. occurs_t x body ≡ true) at h in
    let e0 : g.start ≡ suc (lift n 2 + length g.kept) = ap (λ b. after_one b (lift n 2 + length g.kept)) is in
    let e4 = lift_add n (suc d) in
    let e7 = lift_add n 0 in
    let inD : i < D = omega (arith, e4, e7, at) in
    let fits : 0 < g.start = omega (arith, e0) in
    let e6 = level_below g.start 0 fits in
    let lev : level_of D i ≡ d = ap (level_of D) at ∙ level_lift n (suc d) 0 in (
      inD,
      0,
      ap (place (inner s owes args body).vars) at
          ∙ place_far (kept_count (uses args body) (None ∷ s.vars)) n (kept_places 0 (uses args body) (None ∷ s.vars))
          0 ∙ ap (λ b. keep_one b 0) is,
      fits,
      spot_own g (level_of D i) (omega (arith, lev, e4)) lev
          ∙ (let q : lift n 2 + length g.kept ≡ level_of g.start 0 = omega (arith, e0, e6) in q),
    )
inner_at f d e s owes args body st i h (inr (suc m, at)) =
    let n = kcount args in
    let g = frame_of (info_of d s owes args body) d n in
    let D = lift n (suc d) in
    let own = uses args body 0 in
    let keep = keeps args body in
    let is : keep m ≡ true = subst (λ x. occurs_t x body ≡ true) at h in
    let md = (st.at m is).0 in
    let kl = length_levels keep d [] in
    let e1 = after_sum own (lift n 2 + length g.kept) in
    let e2 = after_sum own (rank keep m) in
    let e4 = lift_add n (suc d) in
    let e7 = lift_add n (suc m) in
    let e8 = below_rank keep d m [] md in
    let e9 = rank_here keep m is in
    let j = 0 + after_one own (rank keep m) in
    let fits : j < g.start = omega (arith, e1, e2, e8, e9, kl, lift_add n 2) in
    let inD : i < D = omega (arith, e4, e7, at, md) in
    let e6 = level_below g.start j fits in
    let lev : level_of D i ≡ level_of d m = ap (level_of D) at ∙ level_lift n (suc d) (suc m) in
    let e5 = level_below d m md in (
      inD,
      j,
      ap (place (inner s owes args body).vars) at
          ∙ place_far (kept_count (uses args body) (None ∷ s.vars)) n (kept_places 0 (uses args body) (None ∷ s.vars))
          (suc m)
          ∙ place_kept (uses args body) 0 (None ∷ s.vars) (suc m) (omega (arith, md, st.long)) is,
      fits,
      ap (spot g) lev ∙ spot_kept g (level_of d m) (omega (arith, e4, e5)) (omega (arith, e5))
          ∙ (let q : lift n 2 + below (level_of d m) g.kept
          ≡ level_of g.start j = omega (arith, e1, e2, e6, e8, e9, kl, lift_add n 2) in q),
    )

inner_stands : (f : Frame) (d e : ℕ) (s : Scope) (owes : ℕ) (args : KTys) (body : KTm) →
    Stands f d e s.vars (keeps args body) →
    Stands (frame_of (info_of d s owes args body) d (kcount args)) (lift (kcount args) (suc d))
    (frame_of (info_of d s owes args body) d (kcount args)).start (inner s owes args body).vars
    (λ i. occurs_t i body)
inner_stands f d e s owes args body st = record {
  long = length_from (kept_count (uses args body) (None ∷ s.vars)) (kcount args)
      (kept_places 0 (uses args body) (None ∷ s.vars))
      ∙ ap (lift (kcount args)) (length_kept (uses args body) 0 (None ∷ s.vars) ∙ ap suc st.long);
  at = λ i h. inner_at f d e s owes args body st i h (near_or_far (kcount args) i);
}

-- the body of the closed code
level_two : (n : ℕ) → level_of (suc (suc n)) n ≡ 1
level_two zero = refl
level_two (suc n) = level_two n

level_one : (n : ℕ) → level_of (suc n) n ≡ 0
level_one zero = refl
level_one (suc n) = level_one n

fields_of : (k i n : ℕ) (t : CTm) (rest : List CNd) →
    clin_t (suc (suc n)) (projections k i n t) rest ≡ fields k (suc (suc n)) i (clin_t (lift k (suc (suc n))) t rest)
fields_of zero i n t rest = refl
fields_of (suc k) i n t rest =
    ap (λ l. MVar l ∷ MProj (suc (suc n)) i ∷ clin_t (suc (suc (suc n))) (projections k (suc i) (suc n) t) rest)
    (level_two n)
    ∙ ap (λ ns. MVar 1 ∷ MProj (suc (suc n)) i ∷ ns)
    (fields_of k (suc i) (suc n) t rest
    ∙ ap (λ l. fields k (suc (suc (suc n))) (suc i) (clin_t l t rest)) (lift_suc k (suc (suc n))))

named_of : (b : Bool) (d : ℕ) (s : Scope) (owes : ℕ) (args : KTys) (body : KTm) (t : CTm) (rest : List CNd) →
    let k = kept_count (keeps args body) s.vars in
    let e = lift k (suc (suc (kcount args))) in
    clin_t e (named b (rebuilt s owes args body) t) rest
    ≡ own_closure b e (info_of d s owes args body) (clin_t (after_one b e) t rest)
named_of false d s owes args body t rest = refl
named_of true d s owes args body t rest =
    let k = kept_count (keeps args body) s.vars in
    let n = kcount args in
    let e = lift k (suc (suc n)) in
    let i = info_of d s owes args body in
    let more = MTuple 2 ∷ MPack i.hidden_in i.shape_in ∷ MName e ∷ clin_t (suc e) t rest in
    ap (λ l. MVar l ∷ MApply i.apply_in ∷ MVar (level_of e (lift k n)) ∷ more)
    (level_lift k (suc (suc n)) (suc n) ∙ level_one n)
    ∙ ap (λ l. MVar 0 ∷ MApply i.apply_in ∷ MVar l ∷ more) (level_lift k (suc (suc n)) n ∙ level_two n)

body_nodes : (d : ℕ) (s : Scope) (owes : ℕ) (args : KTys) (body : KTm) (t : CTm) (rest : List CNd) → length s.vars ≡ d →
    let i = info_of d s owes args body in
    let first = lift (kcount args) 2 in
    clin_t (lift (ccount i.args) 1) (closed_body s owes args body t) rest
    ≡ fields (length i.kept) first 1
    (own_closure i.own (first + length i.kept) i (clin_t (after_one i.own (first + length i.kept)) t rest))
body_nodes d s owes args body t rest long =
    let i = info_of d s owes args body in
    let n = kcount args in
    let k = kept_count (keeps args body) s.vars in
    let two : suc (suc n) ≡ lift n 2 = omega (arith, lift_add n 2) in
    let kl = sym (kept_length d s owes args body long) in
    let deep : lift k (suc (suc n)) ≡ lift n 2 + length i.kept =
    omega (arith, lift_add k (suc (suc n)), lift_add n 2, kl) in
    ap (λ q. clin_t q (closed_body s owes args body t) rest)
    (let q : lift (ccount i.args) 1
    ≡ suc (suc n) =
    omega (arith, lift_add (ccount i.args) 1, count_ctypes (inner s owes args body).tvar args) in q)
    ∙ fields_of k 1 n (named i.own (rebuilt s owes args body) t) rest
    ∙ ap (fields k (suc (suc n)) 1) (named_of i.own d s owes args body t rest)
    ∙ ap (λ q. fields k (suc (suc n)) 1 (own_closure i.own q i (clin_t (after_one i.own q) t rest))) deep
    ∙ ap (λ q. fields q (suc (suc n)) 1
    (own_closure i.own (lift n 2 + length i.kept) i (clin_t (after_one i.own (lift n 2 + length i.kept)) t rest)))
    kl
    ∙ ap (λ q. fields (length i.kept) q 1
    (own_closure i.own (lift n 2 + length i.kept) i (clin_t (after_one i.own (lift n 2 + length i.kept)) t rest)))
    two

close_width : (s : Scope) (vs : KVals) → cwidth (close_vs s vs) ≡ kwidth vs
close_width s NoKVals = refl
close_width s (MoreKVals v vs) = ap suc (close_width s vs)

-- the place of the next name
record Inside (f : Frame) (d e : ℕ) : Type 0 where
  past : f.split ≤ d
  is : e ≡ (d - f.split) + f.start

inside_spot : (f : Frame) (d e : ℕ) → Inside f d e → spot f d ≡ e
inside_spot f d e h = spot_in f d h.past ∙ sym h.is

inside_next : (f : Frame) (d e : ℕ) → Inside f d e → Inside f (suc d) (suc e)
inside_next f d e h = record { past = omega (arith, h.past); is = omega (arith, h.past, h.is) }

mutual
  fuse_v : (v : KVal) (f : Frame) (fs : List Frame) (d td : ℕ) (ty : List KTy) (e : ℕ) (s : Scope) (is : List Info)
      (cs : List Note) (rest : List KNd) → Stands f d e s.vars (λ i. occurs_v i v) →
      emit (klin_v d td ty v rest) f fs (infos_v d s v is) (notes_v s v cs)
      ≡ clin_v e (close_v s v) (emit rest f fs is cs)
  fuse_v (KVar i) f fs d td ty e s is cs rest st =
      let r = st.at i (eq-eqb i i refl) in
      ap (λ n. MVar n ∷ emit rest f fs is cs) r.4 ∙ sym (ap (λ p. clin_v e (var_value p) (emit rest f fs is cs)) r.2)
  fuse_v (KInt n) f fs d td ty e s is cs rest st = refl
  fuse_v (KTuple vs) f fs d td ty e s is cs rest st =
      fuse_vs vs f fs d td ty e s is cs (NTuple (kwidth vs) ∷ rest) st
      ∙ ap (λ n. clin_vs e (close_vs s vs) (MTuple n ∷ emit rest f fs is cs)) (sym (close_width s vs))
  fuse_v (KCode owes args body) f fs d td ty e s is cs rest st =
      let n = kcount args in
      let i = info_of d s owes args body in
      let g = frame_of i d n in
      let keep = keeps args body in
      let all = emit rest f fs is cs in
      let last = MTuple 2 ∷ MPack i.hidden i.shape ∷ all in
      let t = close_t (inner s owes args body) body in
      ap (opened i n)
      (fuse_t body g (f ∷ fs) (lift n (suc d)) (lift owes td) (kbody_scope owes args ty) g.start
      (inner s owes args body) is cs (NEnd ∷ rest) (record { past = omega arith; is = omega arith })
      (inner_stands f d e s owes args body st))
      ∙ ap (λ ns. MCode i.owes i.args ∷ ns) (sym (body_nodes d s owes args body t (closed g f all) st.long))
      ∙ ap (λ ns. MCode i.owes i.args ∷ clin_t (lift (ccount i.args) 1) (closed_body s owes args body t)
      (MEnd ∷ MApply i.apply ∷ ns))
      (sym (env_kept f d e s.vars keep (MTuple (length i.kept) ∷ last) st)
      ∙ ap (λ w. clin_vs e (picked keep s.vars NoCVals) (MTuple w ∷ last))
      (kept_length d s owes args body st.long ∙ count_rank keep s.vars
      ∙ (let q : rank keep (length s.vars) ≡ cwidth (picked keep s.vars NoCVals) =
      omega (arith, width_picked keep s.vars NoCVals) in q)))

  fuse_vs : (vs : KVals) (f : Frame) (fs : List Frame) (d td : ℕ) (ty : List KTy) (e : ℕ) (s : Scope) (is : List Info)
      (cs : List Note) (rest : List KNd) → Stands f d e s.vars (λ i. occurs_vs i vs) →
      emit (klin_vs d td ty vs rest) f fs (infos_vs d s vs is) (notes_vs s vs cs)
      ≡ clin_vs e (close_vs s vs) (emit rest f fs is cs)
  fuse_vs NoKVals f fs d td ty e s is cs rest st = refl
  fuse_vs (MoreKVals v vs) f fs d td ty e s is cs rest st =
      fuse_v v f fs d td ty e s (infos_vs d s vs is) (notes_vs s vs cs) (klin_vs d td ty vs rest)
      (fewer f d e s.vars (λ i. occurs_vs i (MoreKVals v vs)) (λ i. occurs_v i v)
      (λ i. or_left (occurs_v i v) (occurs_vs i vs)) st)
      ∙ ap (clin_v e (close_v s v))
      (fuse_vs vs f fs d td ty e s is cs rest
      (fewer f d e s.vars (λ i. occurs_vs i (MoreKVals v vs)) (λ i. occurs_vs i vs)
      (λ i. or_right (occurs_v i v) (occurs_vs i vs)) st))

  fuse_d : (x : KDecl) (f : Frame) (fs : List Frame) (d td : ℕ) (ty : List KTy) (e : ℕ) (s : Scope) (is : List Info)
      (cs : List Note) (rest : List KNd) → spot f d ≡ e → Stands f d e s.vars (λ i. occurs_d i x) →
      emit (klin_d d td ty x rest) f fs (infos_d d s x is) (notes_d s x cs)
      ≡ clin_d e (close_d s x) (emit rest f fs is cs)
  fuse_d (KName v) f fs d td ty e s is cs rest at st =
      fuse_v v f fs d td ty e s is cs (NName d (kd_type ty (KName v)) ∷ rest) st
      ∙ ap (λ l. clin_v e (close_v s v) (MName l ∷ emit rest f fs is cs)) at
  fuse_d (KProj i v) f fs d td ty e s is cs rest at st =
      fuse_v v f fs d td ty e s is cs (NProj d i (kd_type ty (KProj i v)) ∷ rest) st
      ∙ ap (λ l. clin_v e (close_v s v) (MProj l i ∷ emit rest f fs is cs)) at
  fuse_d (KArith op v w) f fs d td ty e s is cs rest at st =
      fuse_v v f fs d td ty e s (infos_v d s w is) (notes_v s w cs) (klin_v d td ty w (NArith d op ∷ rest))
      (fewer f d e s.vars (λ i. occurs_d i (KArith op v w)) (λ i. occurs_v i v)
      (λ i. or_left (occurs_v i v) (occurs_v i w)) st)
      ∙ ap (clin_v e (close_v s v))
      (fuse_v w f fs d td ty e s is cs (NArith d op ∷ rest)
      (fewer f d e s.vars (λ i. occurs_d i (KArith op v w)) (λ i. occurs_v i w)
      (λ i. or_right (occurs_v i v) (occurs_v i w)) st)
      ∙ ap (λ l. clin_v e (close_v s w) (MArith l op ∷ emit rest f fs is cs)) at)
  fuse_d (KPack h v x) f fs d td ty e s is cs rest at st =
      let a = ctype s.tvar h in
      let b = ctype s.tvar x in
      fuse_v v f fs d td ty e s is (Packs a b ∷ cs) (NPack d td h x ∷ rest) st
      ∙ ap (λ l. clin_v e (close_v s v) (MPack a b ∷ MName l ∷ emit rest f fs is cs)) at
  fuse_d (KUnpack v) f fs d td ty e s is cs rest at st =
      fuse_v v f fs d td ty e s is cs (NUnpack d td (kd_type ty (KUnpack v)) ∷ rest) st
      ∙ ap (λ l. clin_v e (close_v s v) (MUnpack l ∷ emit rest f fs is cs)) at
  fuse_d (KCell v) f fs d td ty e s is cs rest at st =
      fuse_v v f fs d td ty e s is cs (NCell d (kd_type ty (KCell v)) ∷ rest) st
      ∙ ap (λ l. clin_v e (close_v s v) (MCell l ∷ emit rest f fs is cs)) at
  fuse_d (KGet v) f fs d td ty e s is cs rest at st =
      fuse_v v f fs d td ty e s is cs (NGet d (kd_type ty (KGet v)) ∷ rest) st
      ∙ ap (λ l. clin_v e (close_v s v) (MGet l ∷ emit rest f fs is cs)) at
  fuse_d (KSet v w) f fs d td ty e s is cs rest at st =
      fuse_v v f fs d td ty e s (infos_v d s w is) (notes_v s w cs) (klin_v d td ty w (NSet d ∷ rest))
      (fewer f d e s.vars (λ i. occurs_d i (KSet v w)) (λ i. occurs_v i v)
      (λ i. or_left (occurs_v i v) (occurs_v i w)) st)
      ∙ ap (clin_v e (close_v s v))
      (fuse_v w f fs d td ty e s is cs (NSet d ∷ rest)
      (fewer f d e s.vars (λ i. occurs_d i (KSet v w)) (λ i. occurs_v i w)
      (λ i. or_right (occurs_v i v) (occurs_v i w)) st)
      ∙ ap (λ l. clin_v e (close_v s w) (MSet l ∷ emit rest f fs is cs)) at)

  fuse_t : (t : KTm) (f : Frame) (fs : List Frame) (d td : ℕ) (ty : List KTy) (e : ℕ) (s : Scope) (is : List Info)
      (cs : List Note) (rest : List KNd) → Inside f d e → Stands f d e s.vars (λ i. occurs_t i t) →
      emit (klin_t d td ty t rest) f fs (infos_t d s t is) (notes_t s t cs)
      ≡ clin_t e (close_t s t) (emit rest f fs is cs)
  fuse_t (KLet x t) f fs d td ty e s is cs rest at st =
      let s1 = with_decl x s in
      fuse_d x f fs d td ty e s (infos_t (suc d) s1 t is) (notes_t s1 t cs)
      (klin_t (suc d) (after_one (opens x) td) (kd_type ty x ∷ scope_more (opens x) ty) t rest)
      (inside_spot f d e at)
      (fewer f d e s.vars (λ i. occurs_t i (KLet x t)) (λ i. occurs_d i x)
      (λ i. or_left (occurs_d i x) (occurs_t (suc i) t)) st)
      ∙ ap (clin_d e (close_d s x))
      (fuse_t t f fs (suc d) (after_one (opens x) td) (kd_type ty x ∷ scope_more (opens x) ty)
      (suc e) s1 is cs rest (inside_next f d e at)
      (under_decl (opens x) (kd_type s.types x) f d e s (λ i. occurs_t i t) (inside_spot f d e at)
      (fewer f d e s.vars (λ i. occurs_t i (KLet x t)) (λ i. occurs_t (suc i) t)
      (λ i. or_right (occurs_d i x) (occurs_t (suc i) t)) st)))
  fuse_t (KCall g ts vs) f fs d td ty e s is cs rest at st =
      let s3 = in_call s in
      let live : ℕ → Bool = λ i. occurs_vs i vs in
      let st3 = deeper f d (suc (suc e)) (further (further s.vars)) live
      (deeper f d (suc e) (further s.vars) live
      (deeper f d e s.vars live
      (fewer f d e s.vars (λ i. occurs_t i (KCall g ts vs)) live (λ i. or_right (occurs_v i g) (occurs_vs i vs))
      st))) in
      let c = ctypes s3.tvar ts in
      let all = emit rest f fs is cs in
      fuse_v g f fs d td ty e s (infos_vs d s3 vs is) (Calls c ∷ notes_vs s3 vs cs)
      (NCall d td ts (kwidth vs) ∷ klin_vs d td ty vs rest)
      (fewer f d e s.vars (λ i. occurs_t i (KCall g ts vs)) (λ i. occurs_v i g)
      (λ i. or_left (occurs_v i g) (occurs_vs i vs)) st)
      ∙ ap (clin_v e (close_v s g))
      (ap (λ l. called l c (kwidth vs) (emit (klin_vs d td ty vs rest) f fs (infos_vs d s3 vs is) (notes_vs s3 vs cs)))
      (inside_spot f d e at)
      ∙ ap (called e c (kwidth vs)) (fuse_vs vs f fs d td ty (suc (suc (suc e))) s3 is cs rest st3)
      ∙ ap (λ w. called e c w (clin_vs (suc (suc (suc e))) (close_vs s3 vs) all)) (sym (close_width s3 vs)))
  fuse_t (KIf v t u) f fs d td ty e s is cs rest at st =
      let whole : ℕ → Bool = λ i. occurs_t i (KIf v t u) in
      fuse_v v f fs d td ty e s (infos_t d s t (infos_t d s u is)) (notes_t s t (notes_t s u cs))
      (NIf ∷ klin_t d td ty t (NElse td ∷ klin_t d td ty u rest))
      (fewer f d e s.vars whole (λ i. occurs_v i v) (λ i. or_left (occurs_v i v) (occurs_t i t || occurs_t i u))
      st)
      ∙ ap (λ ns. clin_v e (close_v s v) (MIf ∷ ns))
      (fuse_t t f fs d td ty e s (infos_t d s u is) (notes_t s u cs) (NElse td ∷ klin_t d td ty u rest) at
      (fewer f d e s.vars whole (λ i. occurs_t i t)
      (λ i h. or_right (occurs_v i v) (occurs_t i t || occurs_t i u) (or_left (occurs_t i t) (occurs_t i u) h))
      st)
      ∙ ap (λ ns. clin_t e (close_t s t) (MElse ∷ ns))
      (fuse_t u f fs d td ty e s is cs rest at
      (fewer f d e s.vars whole (λ i. occurs_t i u)
      (λ i h. or_right (occurs_v i v) (occurs_t i t || occurs_t i u) (or_right (occurs_t i t) (occurs_t i u) h))
      st)))
  fuse_t (KHalt v) f fs d td ty e s is cs rest at st = fuse_v v f fs d td ty e s is cs (NHalt ∷ rest) st

pub emit_is_close : (t : KTm) (f : Frame) → f.split ≡ 0 → f.start ≡ 0 → ((i : ℕ) → occurs_t i t ≡ true → ⊥) →
    emit (klin_t 0 0 [] t []) f [] (infos_t 0 no_scope t []) (notes_t no_scope t []) ≡ clin_t 0 (close_of t) []
emit_is_close t f e1 e2 h =
    fuse_t t f [] 0 0 [] 0 no_scope [] [] [] (record { past = omega (arith, e1); is = omega (arith, e1, e2) })
    (record { long = refl; at = λ i q. absurd (h i q) })
