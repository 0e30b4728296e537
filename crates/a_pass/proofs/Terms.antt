-- One more node of a term, on the side of the trees.
use Rattle.std.proofs.Common.{◌≡◌, ◌≤◌, ℕ, suc, ◌+◌, ◌-◌, List, [], ◌∷◌, ◌++◌, refl, sym, ap, ap₂, ◌∙◌, subst}
use Rattle.std.proofs.Common.{append_assoc, length, map, take, arith, option_map}
use Rattle.std.proofs.lemmas.List.{take_all, take-take, take-append-le, length-append}
use Rattle.calc_core.specs.Ends.{lift}
use Rattle.a_terms.specs.Tree.{ashift}
use Rattle.a_terms.specs.TypeLaws.{shift_more, shift_none}
use Rattle.h_terms.specs.H.{HVal, HDecl, HTm, HLet, HIf, HBlks}
use Rattle.a_terms.specs.Tree as a
use Rattle.a_laws.specs.Allocate.{Known, alloc_t, data_d, data_t, data_v, known_of, n_d, n_t, n_v, pre_d, pre_v, dcl}
use Rattle.a_laws.specs.Allocate.{d_const, d_types, d_next, val, v_next}
use Rattle.calc_core.specs.Row.{top, others}
use Rattle.h_terms.specs.Nodes.{no_term}
use Rattle.a_terms.specs.NodeTrees.{a_build, a_value, a_values, a_onto, a_let}
use Rattle.a_terms.specs.Arity.{a_kids, AArity, ARow}
use Rattle.a_terms.specs.declared.nodes.ANode.{ANode}
use Rattle.a_pass.specs.declared.state.Name.{Name}
use Rattle.a_pass.specs.declared.state.Place.{Place}
use Rattle.a_pass.specs.Scope.{onto, kept, known_name, knowns, typed, scope, Under, pending, pending_data, Fit}
use Rattle.a_pass.specs.Emits.{Emits}
use Rattle.a_pass.proofs.Emitting.{onto_append}
use Rattle.a_pass.proofs.Places.{onto_push}

-- what the places see of the names
pub pending_more : (ks : HBlks) (ns xs : List Name) (m : ℕ) (ps : List Place) (b : ℕ) (ts : List HTm) → Fit ns m ps →
    m ≤ length ns →
    (pending ks (ns ++ xs) ps b ts ≡ pending ks ns ps b ts)
    × (pending_data ks (ns ++ xs) ps b ts ≡ pending_data ks ns ps b ts)
pending_more ks ns xs m [] b ts fit le = (refl, refl)
pending_more ks ns xs m (p ∷ ps) b ts fit le =
    let first : take p.names (ns ++ xs) ≡ take p.names ns = take-append-le p.names ns xs (omega (arith, fit.0)) in
    let t = top no_term ts in
    let more = pending_more ks ns xs p.names ps (n_t (knowns (take p.names ns)) b p.depth t) (others ts) fit.2
    (omega (arith, fit.0)) in (
      ap (λ ys. alloc_t ks (scope p.binders ys) (knowns ys) b p.depth t
          ∷ pending ks (ns ++ xs) ps (n_t (knowns ys) b p.depth t) (others ts)) first
          ∙ ap (λ zs. alloc_t ks (scope p.binders (take p.names ns)) (knowns (take p.names ns)) b p.depth t ∷ zs)
          more.0,
      ap (λ ys. data_t ks (scope p.binders ys) (knowns ys) b p.depth t
          ++ pending_data ks (ns ++ xs) ps (n_t (knowns ys) b p.depth t) (others ts)) first
          ∙ ap (λ zs. data_t ks (scope p.binders (take p.names ns)) (knowns (take p.names ns)) b p.depth t ++ zs)
          more.1,
    )

pub fit_more : (ns xs : List Name) (m k : ℕ) (ps : List Place) → Fit ns m ps → m ≤ length ns → m ≤ k →
    Fit (ns ++ xs) k ps
fit_more ns xs m k [] fit le more = tt
fit_more ns xs m k (p ∷ ps) fit le more = (
  omega (arith, fit.0),
  subst (Under p.binders) (sym (take-append-le p.names ns xs (omega (arith, fit.0)))) fit.1,
  fit_more ns xs p.names p.names ps fit.2 (omega (arith, fit.0)) (omega arith),
)

pub pending_take : (ks : HBlks) (ns : List Name) (m : ℕ) (ps : List Place) (b : ℕ) (ts : List HTm) (k : ℕ) → m ≤ k →
    Fit ns m ps →
    (pending ks (take k ns) ps b ts ≡ pending ks ns ps b ts)
    × (pending_data ks (take k ns) ps b ts ≡ pending_data ks ns ps b ts)
pending_take ks ns m [] b ts k le fit = (refl, refl)
pending_take ks ns m (p ∷ ps) b ts k le fit =
    let first : take p.names (take k ns) ≡ take p.names ns = take-take p.names k ns (omega (arith, fit.0)) in
    let t = top no_term ts in
    let more = pending_take ks ns p.names ps (n_t (knowns (take p.names ns)) b p.depth t) (others ts) k
    (omega (arith, fit.0)) fit.2 in (
      ap (λ ys. alloc_t ks (scope p.binders ys) (knowns ys) b p.depth t
          ∷ pending ks (take k ns) ps (n_t (knowns ys) b p.depth t) (others ts)) first
          ∙ ap (λ zs. alloc_t ks (scope p.binders (take p.names ns)) (knowns (take p.names ns)) b p.depth t ∷ zs)
          more.0,
      ap (λ ys. data_t ks (scope p.binders ys) (knowns ys) b p.depth t
          ++ pending_data ks (take k ns) ps (n_t (knowns ys) b p.depth t) (others ts)) first
          ∙ ap (λ zs. data_t ks (scope p.binders (take p.names ns)) (knowns (take p.names ns)) b p.depth t ++ zs)
          more.1,
    )

pub fit_take : (ns : List Name) (m : ℕ) (ps : List Place) (k : ℕ) → m ≤ k → Fit ns m ps → Fit (take k ns) m ps
fit_take ns m [] k le fit = tt
fit_take ns m (p ∷ ps) k le fit = (
  fit.0,
  subst (Under p.binders) (sym (take-take p.names k ns (omega (arith, fit.0)))) fit.1,
  fit_take ns p.names ps k (omega (arith, fit.0)) fit.2,
)

-- types under more names
pub typed_now : (n : Name) (b : ℕ) (t : a.ATy) → n.under ≡ b → kept n.ty ≡ t → typed b n ≡ t
typed_now n b t u is =
    let none : b - n.under ≡ 0 = omega (arith, u) in
    ap (λ k. ashift k 0 (kept n.ty)) none ∙ shift_none (kept n.ty) ∙ is

-- a type that is read where it was made
pub shown_now : (b : ℕ) (t : a.ATy) → ashift (b - b) 0 t ≡ t
shown_now b t =
    let none : b - b ≡ 0 = omega arith in
    ap (λ k. ashift k 0 t) none ∙ shift_none t

scope_open_on : (b : ℕ) (g : List a.ATy) (ns : List Name) → Under b ns →
    onto (typed (suc b)) (map (ashift 1 0) g) ns ≡ map (ashift 1 0) (onto (typed b) g ns)
scope_open_on b g [] u = refl
scope_open_on b g (n ∷ ns) u =
    let more : suc b - n.under ≡ b - n.under + 1 = omega (arith, u.0) in
    let one : typed (suc b) n ≡ ashift 1 0 (typed b n) =
    ap (λ k. ashift k 0 (kept n.ty)) more ∙ sym (shift_more (b - n.under) 1 (kept n.ty)) in
    ap (λ t. onto (typed (suc b)) (t ∷ map (ashift 1 0) g) ns) one ∙ scope_open_on b (typed b n ∷ g) ns u.1

pub scope_open : (b : ℕ) (ns : List Name) → Under b ns → scope (suc b) ns ≡ map (ashift 1 0) (scope b ns)
scope_open b ns u = scope_open_on b [] ns u

under_more : (b k : ℕ) (ns : List Name) → b ≤ k → Under b ns → Under k ns
under_more b k [] le u = tt
under_more b k (n ∷ ns) le u = (omega (arith, u.0), under_more b k ns le u.1)

pub under_push : (b k : ℕ) (ns : List Name) (n : Name) → b ≤ k → n.under ≤ k → Under b ns → Under k (ns ++ n ∷ [])
under_push b k [] n le here u = (here, tt)
under_push b k (x ∷ ns) n le here u = (omega (arith, u.0), under_push b k ns n le here u.1)

-- a declaration: what the next term finds
module _ (ks : HBlks) (e : HDecl) (names : List Name) (n : Name) (place p : Place) (c : ℕ)
    (len : length names ≡ place.names)
    (level : n.level ≡ d_next (knowns names) place.depth e)
    (constant : option_map a_value n.constant ≡ d_const (knowns names) c e)
    (depth : p.depth ≡ suc (d_next (knowns names) place.depth e)) (count : p.names ≡ suc (length names))
    (types : scope p.binders (names ++ n ∷ []) ≡ d_types ks (scope place.binders names) e) where
  abbrev g : List a.ATy
  g = scope place.binders names

  abbrev ls : List Known
  ls = knowns names

  abbrev d1 : ℕ
  d1 = suc (d_next ls place.depth e)

  abbrev ls1 : List Known
  ls1 = known_of ls c place.depth e ∷ ls

  found : {X : Type 0} (P : List a.ATy → List Known → ℕ → X) →
      P (scope p.binders (take p.names (names ++ n ∷ []))) (knowns (take p.names (names ++ n ∷ []))) p.depth
      ≡ P (d_types ks g e) ls1 d1
  found P =
      let all : take p.names (names ++ n ∷ []) ≡ names ++ n ∷ [] =
      take_all p.names (names ++ n ∷ []) (omega (arith, count, length-append names (n ∷ []))) in
      let known : knowns (names ++ n ∷ []) ≡ ls1 = onto_push known_name [] names n
      ∙ ap₂ (λ x y. (let k : Known = record { level = x; constant = y } in k) ∷ ls) level constant in
      ap (λ xs. P (scope p.binders xs) (knowns xs) p.depth) all ∙ ap₂ (λ xs ys. P xs ys p.depth) types known
      ∙ ap (P (d_types ks g e) ls1) depth

  seen : {X : Type 0} (P : List a.ATy → List Known → X) →
      P (scope place.binders (take place.names names)) (knowns (take place.names names)) ≡ P g ls
  seen P = ap (λ xs. P (scope place.binders xs) (knowns xs)) (take_all place.names names (omega (arith, len)))

  pub step_let : (ps : List Place) (old mid : List ANode) (node : ANode) → Fit names place.names ps →
      Emits old mid (pre_d ks g ls c place.depth e) →
      ((ts : List a.ATm) → a_build node.form (a_values node.values.items) ts ≡ a_let (dcl ls c place.depth e) ts) →
      (ts : List HTm) → a_onto (mid ++ node ∷ []) (pending ks (names ++ n ∷ []) (p ∷ ps) (n_d ls c e) ts)
      ≡ a_onto old (pending ks names (place ∷ ps) c (HLet e (top no_term ts) ∷ others ts))
  step_let ps old mid node fit emits builds ts =
      let t = top no_term ts in
      let b1 = n_d ls c e in
      let after = n_t ls1 b1 d1 t in
      let rest = (pending_more ks names (n ∷ []) place.names ps after (others ts) fit (omega (arith, len))).0 in
      let body = alloc_t ks (d_types ks g e) ls1 b1 d1 t in
      let first : pending ks (names ++ n ∷ []) (p ∷ ps) b1 ts ≡ body ∷ pending ks names ps after (others ts) =
      found (λ xs ys d. alloc_t ks xs ys b1 d t ∷ pending ks (names ++ n ∷ []) ps (n_t ys b1 d t) (others ts))
      ∙ ap (λ zs. body ∷ zs) rest in
      let right : pending ks names (place ∷ ps) c (HLet e t ∷ others ts)
      ≡ pre_d ks g ls c place.depth e (a.Let (dcl ls c place.depth e) body)
      ∷ pending ks names ps after (others ts) =
      seen (λ xs ys. alloc_t ks xs ys c place.depth (HLet e t) ∷ pending ks names ps (n_t ys c place.depth (HLet e t))
      (others ts)) in
      onto_append mid (node ∷ []) (pending ks (names ++ n ∷ []) (p ∷ ps) b1 ts)
      ∙ ap (a_onto mid)
      (ap (a_build node.form (a_values node.values.items)) first
      ∙ builds (body ∷ pending ks names ps after (others ts)))
      ∙ ap (λ xs. a_onto xs (a.Let (dcl ls c place.depth e) body ∷ pending ks names ps after (others ts))) emits.is
      ∙ onto_append old emits.nodes (a.Let (dcl ls c place.depth e) body ∷ pending ks names ps after (others ts))
      ∙ ap (a_onto old) (emits.terms (a.Let (dcl ls c place.depth e) body) (pending ks names ps after (others ts))
      ∙ sym right)

  pub keep_let : (ps : List Place) (us ws : List a.AConsts) → Fit names place.names ps → ws ≡ us ++ data_d ks g ls c e →
      (ts : List HTm) → ws ++ pending_data ks (names ++ n ∷ []) (p ∷ ps) (n_d ls c e) ts ≡ us
      ++ pending_data ks names (place ∷ ps) c (HLet e (top no_term ts) ∷ others ts)
  keep_let ps us ws fit is ts =
      let t = top no_term ts in
      let b1 = n_d ls c e in
      let after = n_t ls1 b1 d1 t in
      let rest = (pending_more ks names (n ∷ []) place.names ps after (others ts) fit (omega (arith, len))).1 in
      let here = data_d ks g ls c e in
      let there = data_t ks (d_types ks g e) ls1 b1 d1 t in
      let last = pending_data ks names ps after (others ts) in
      let first : pending_data ks (names ++ n ∷ []) (p ∷ ps) b1 ts ≡ there ++ last =
      found (λ xs ys d. data_t ks xs ys b1 d t ++ pending_data ks (names ++ n ∷ []) ps (n_t ys b1 d t) (others ts))
      ∙ ap (λ zs. there ++ zs) rest in
      let right : pending_data ks names (place ∷ ps) c (HLet e t ∷ others ts) ≡ (here ++ there) ++ last =
      seen (λ xs ys. data_t ks xs ys c place.depth (HLet e t)
      ++ pending_data ks names ps (n_t ys c place.depth (HLet e t)) (others ts)) in
      ap₂ (λ x y. x ++ y) is first ∙ append_assoc us here (there ++ last)
      ∙ ap (λ x. us ++ x) (sym (append_assoc here there last)) ∙ ap (λ x. us ++ x) (sym right)

-- an end
module _ (ks : HBlks) (h : HTm) (names : List Name) (place : Place) (c : ℕ) (len : length names ≡ place.names) where
  at_end : {X : Type 0} (P : List a.ATy → List Known → X) →
      P (scope place.binders (take place.names names)) (knowns (take place.names names))
      ≡ P (scope place.binders names) (knowns names)
  at_end P = ap (λ xs. P (scope place.binders xs) (knowns xs)) (take_all place.names names (omega (arith, len)))

  pub step_end : (r : a.ATm) (pre : a.ATm → a.ATm) (ps : List Place) (old mid : List ANode) (node : ANode) →
      Emits old mid pre →
      ((ts : List a.ATm) → a_build node.form (a_values node.values.items) ts ≡ r ∷ ts) →
      alloc_t ks (scope place.binders names) (knowns names) c place.depth h ≡ pre r →
      (ts : List HTm) → a_onto (mid ++ node ∷ []) (pending ks names ps (n_t (knowns names) c place.depth h) ts)
      ≡ a_onto old (pending ks names (place ∷ ps) c (h ∷ ts))
  step_end r pre ps old mid node emits builds is ts =
      let more = pending ks names ps (n_t (knowns names) c place.depth h) ts in
      onto_append mid (node ∷ []) more
      ∙ ap (a_onto mid) (builds more)
      ∙ ap (λ xs. a_onto xs (r ∷ more)) emits.is
      ∙ onto_append old emits.nodes (r ∷ more)
      ∙ ap (a_onto old)
      (emits.terms r more ∙ ap (λ x. x ∷ more) (sym is)
      ∙ sym (at_end (λ xs ys. alloc_t ks xs ys c place.depth h ∷ pending ks names ps (n_t ys c place.depth h) ts)))

  pub keep_end : (ps : List Place) (us ws : List a.AConsts) →
      ws ≡ us ++ data_t ks (scope place.binders names) (knowns names) c place.depth h →
      (ts : List HTm) → ws ++ pending_data ks names ps (n_t (knowns names) c place.depth h) ts ≡ us
      ++ pending_data ks names (place ∷ ps) c (h ∷ ts)
  keep_end ps us ws is ts =
      let here = data_t ks (scope place.binders names) (knowns names) c place.depth h in
      let last = pending_data ks names ps (n_t (knowns names) c place.depth h) ts in
      ap (λ x. x ++ last) is ∙ append_assoc us here last
      ∙ ap (λ x. us ++ x)
      (sym (at_end
      (λ xs ys. data_t ks xs ys c place.depth h ++ pending_data ks names ps (n_t ys c place.depth h) ts)))

-- a branch
module _ (ks : HBlks) (v : HVal) (names : List Name) (place p : Place) (c : ℕ) (len : length names ≡ place.names)
    (depth : p.depth ≡ v_next (knowns names) place.depth v) (count : p.names ≡ place.names)
    (binders : p.binders ≡ place.binders) where
  branch : {X : Type 0} (P : List a.ATy → List Known → ℕ → X) →
      P (scope p.binders (take p.names names)) (knowns (take p.names names)) p.depth
      ≡ P (scope place.binders names) (knowns names) (v_next (knowns names) place.depth v)
  branch P =
      ap (λ xs. P (scope p.binders xs) (knowns xs) p.depth) (take_all p.names names (omega (arith, len, count)))
      ∙ ap₂ (λ b d. P (scope b names) (knowns names) d) binders depth

  choice : {X : Type 0} (P : List a.ATy → List Known → X) →
      P (scope place.binders (take place.names names)) (knowns (take place.names names))
      ≡ P (scope place.binders names) (knowns names)
  choice P = ap (λ xs. P (scope place.binders xs) (knowns xs)) (take_all place.names names (omega (arith, len)))

  pub step_if : (ps : List Place) (old mid : List ANode) (node : ANode) →
      Emits old mid (pre_v ks (scope place.binders names) (knowns names) c place.depth v) →
      ((x y : a.ATm) (ts : List a.ATm) → a_build node.form (a_values node.values.items) (x ∷ y ∷ ts)
      ≡ a.If0 (val (knowns names) c place.depth (v_next (knowns names) place.depth v) v) x y ∷ ts) →
      (ts : List HTm) → a_onto (mid ++ node ∷ []) (pending ks names (p ∷ p ∷ ps) (n_v (knowns names) c v) ts)
      ≡ a_onto old
      (pending ks names (place ∷ ps) c (HIf v (top no_term ts) (top no_term (others ts)) ∷ others (others ts)))
  step_if ps old mid node emits builds ts =
      let g = scope place.binders names in
      let ls = knowns names in
      let d1 = v_next ls place.depth v in
      let b1 = n_v ls c v in
      let t = top no_term ts in
      let u = top no_term (others ts) in
      let b2 = n_t ls b1 d1 t in
      let b3 = n_t ls b2 d1 u in
      let x = alloc_t ks g ls b1 d1 t in
      let y = alloc_t ks g ls b2 d1 u in
      let more = pending ks names ps b3 (others (others ts)) in
      let both : pending ks names (p ∷ p ∷ ps) b1 ts ≡ x ∷ y ∷ more =
      branch (λ xs ys d. alloc_t ks xs ys b1 d t ∷ pending ks names (p ∷ ps) (n_t ys b1 d t) (others ts))
      ∙ ap (λ zs. x ∷ zs)
      (branch (λ xs ys d. alloc_t ks xs ys b2 d u ∷ pending ks names ps (n_t ys b2 d u) (others (others ts)))) in
      let r = a.If0 (val ls c place.depth d1 v) x y in
      onto_append mid (node ∷ []) (pending ks names (p ∷ p ∷ ps) b1 ts)
      ∙ ap (a_onto mid) (ap (a_build node.form (a_values node.values.items)) both ∙ builds x y more)
      ∙ ap (λ xs. a_onto xs (r ∷ more)) emits.is
      ∙ onto_append old emits.nodes (r ∷ more)
      ∙ ap (a_onto old)
      (emits.terms r more
      ∙ sym (choice
      (λ xs ys. alloc_t ks xs ys c place.depth (HIf v t u)
      ∷ pending ks names ps (n_t ys c place.depth (HIf v t u)) (others (others ts)))))

  pub keep_if : (ps : List Place) (us ws : List a.AConsts) →
      ws ≡ us ++ data_v ks (scope place.binders names) (knowns names) c v →
      (ts : List HTm) → ws ++ pending_data ks names (p ∷ p ∷ ps) (n_v (knowns names) c v) ts ≡ us
      ++ pending_data ks names (place ∷ ps) c (HIf v (top no_term ts) (top no_term (others ts)) ∷ others (others ts))
  keep_if ps us ws is ts =
      let g = scope place.binders names in
      let ls = knowns names in
      let d1 = v_next ls place.depth v in
      let b1 = n_v ls c v in
      let t = top no_term ts in
      let u = top no_term (others ts) in
      let b2 = n_t ls b1 d1 t in
      let b3 = n_t ls b2 d1 u in
      let here = data_v ks g ls c v in
      let x = data_t ks g ls b1 d1 t in
      let y = data_t ks g ls b2 d1 u in
      let more = pending_data ks names ps b3 (others (others ts)) in
      let both : pending_data ks names (p ∷ p ∷ ps) b1 ts ≡ x ++ (y ++ more) =
      branch (λ xs ys d. data_t ks xs ys b1 d t ++ pending_data ks names (p ∷ ps) (n_t ys b1 d t) (others ts))
      ∙ ap (λ zs. x ++ zs)
      (branch (λ xs ys d. data_t ks xs ys b2 d u
      ++ pending_data ks names ps (n_t ys b2 d u) (others (others ts)))) in
      let right : pending_data ks names (place ∷ ps) c (HIf v t u ∷ others (others ts)) ≡ (here ++ (x ++ y)) ++ more =
      choice (λ xs ys. data_t ks xs ys c place.depth (HIf v t u)
      ++ pending_data ks names ps (n_t ys c place.depth (HIf v t u)) (others (others ts))) in
      ap₂ (λ p q. p ++ q) is both ∙ append_assoc us here (x ++ (y ++ more))
      ∙ ap (λ z. us ++ z) (ap (λ z. here ++ z) (sym (append_assoc x y more)) ∙ sym (append_assoc here (x ++ y) more)
      ∙ sym right)

-- the count of what is to come
pub row_step : (old mid : List ANode) (node : ANode) (pre : a.ATm → a.ATm) (n m : ℕ) → Emits old mid pre →
    AArity node.form (a_values node.values.items) →
    ((rest : List ANode) → ARow rest (suc n) → ARow (old ++ rest) m) → (rest : List ANode) →
    ARow rest (lift (a_kids node.form) n) → ARow ((mid ++ node ∷ []) ++ rest) m
row_step old mid node pre n m emits fine before rest h =
    subst (λ xs. ARow xs m)
    (sym (append_assoc mid (node ∷ []) rest ∙ ap (λ xs. xs ++ (node ∷ rest)) emits.is
    ∙ append_assoc old emits.nodes (node ∷ rest)))
    (before (emits.nodes ++ (node ∷ rest)) (emits.row (node ∷ rest) n (fine, h)))
