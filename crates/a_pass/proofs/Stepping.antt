-- What one node of a term does.
use Rattle.std.proofs.Common.{◌≡◌, ◌≤◌, ℕ, suc, List, [], ◌∷◌, ◌++◌, refl, sym, ap, ap₂, ◌∙◌, subst, length, map, take}
use Rattle.std.proofs.Common.{arith, Vec, Global, Option, Some, None, true}
use Rattle.std.proofs.lemmas.List.{take_all, length-append, append-nil}
use Rattle.calc_core.specs.Ends.{lift}
use Rattle.h_terms.specs.H.{HVal, HDecl, HName, HProj, HArith, HUnpack, HCell, HGet, HSet, HTm, HLet, HCall, HHalt}
use Rattle.h_terms.specs.H.{HBlks}
use Rattle.a_terms.specs.Tree as a
use Rattle.a_laws.specs.Allocate.{Known, alloc_t, data_d, data_t, data_v, pre_d, pre_v, pre_vs, dcl, d_const, d_types}
use Rattle.a_laws.specs.Allocate.{d_next, n_d, n_t, n_v, val, vals as the_vals, v_next, vs_next, v_type, atypes}
use Rattle.calc_core.specs.declared.types.CoreType.{CoreType as CType}
use Rattle.a_terms.specs.declared.types.AType.{AType}
use Rattle.c_terms.specs.Read.{ctys}
use Rattle.a_terms.specs.Read.{atrees}
use Rattle.a_terms.specs.Tree.{ashift}
use Rattle.a_terms.specs.Typing.{field_of, body_of}
use Rattle.calc_core.specs.Row as r
use Rattle.idx_core.specs.declared.arith.Op.{Op}
use Rattle.calc_core.specs.Row.{top, others}
use Rattle.h_terms.specs.Nodes.{no_term, tied, h_build, h_kids, reads}
use Rattle.h_terms.specs.declared.node.HPart.{HPart}
use Rattle.a_terms.specs.NodeTrees.{a_build, a_data, a_value, a_values, a_onto, a_let}
use Rattle.a_terms.specs.Arity.{a_kids, AArity, ARow}
use Rattle.h_terms.specs.declared.node.HForm.{HForm}
use Rattle.h_terms.specs.declared.node.HForm.TheVariants as H
use Rattle.a_terms.specs.declared.nodes.AForm.{AForm}
use Rattle.a_terms.specs.declared.nodes.AForm.TheVariants as A
use Rattle.a_terms.specs.declared.nodes.AValue.{AValue}
use Rattle.a_terms.specs.declared.nodes.AData.{AData}
use Rattle.a_terms.specs.declared.nodes.ANode.{ANode}
use Rattle.a_pass.specs.declared.state.Name.{Name}
use Rattle.a_pass.specs.declared.state.Place.{Place}
use Rattle.a_pass.specs.declared.state.Progress.{Progress}
use Rattle.a_pass.specs.declared.state.Run.{Run}
use Rattle.a_pass.specs.declared.state.Seen.{Seen}
use Rattle.a_pass.specs.Scope.{knowns, typed, type_in, constant_in, value_at, scope, Under, pending, pending_data, Fit}
use Rattle.a_pass.specs.Emits.{Emits, Made, Declares, Ends, Stepped, Steps, tops}
use Rattle.a_pass.proofs.Emitting.{emits_same, emits_then}
use Rattle.a_pass.proofs.Places.{onto_push}
use Rattle.a_pass.proofs.Terms.{step_let, step_end, step_if, keep_let, keep_end, keep_if, row_step, fit_more}
use Rattle.a_pass.proofs.Terms.{under_push, scope_open}

module _ (ks : HBlks) (us : List HVal) (ns : List Name) (place : Place) (ps : List Place) (old : List ANode)
    (new : Progress) (kept tuples : List AData)
    (len : length ns ≡ place.names) (bound : Under place.binders ns) where
  abbrev ms : List Name
  ms = new.names.items

  abbrev qs : List Place
  qs = new.places.items

  let_stepped : (mid : List ANode) (vs : List AValue) (m : ℕ) (e : HDecl) (form : HForm) (af : AForm) (ty : a.ATy)
      (stands : Option a.AVal) (binders : ℕ) →
      Emits old mid (pre_d ks (scope place.binders ns) (knowns ns) (length kept) place.depth e) →
      m ≡ d_next (knowns ns) place.depth e →
      length tuples ≡ n_d (knowns ns) (length kept) e →
      a_data tuples ≡ a_data kept ++ data_d ks (scope place.binders ns) (knowns ns) (length kept) e →
      stands ≡ d_const (knowns ns) (length kept) e →
      Declares af vs ty stands m binders ns ps mid new →
      ((hs : List HTm) → h_build form us hs ≡ HLet e (top no_term hs) ∷ others hs) → h_kids form ≡ 1 →
      ((xs : List a.ATm) → a_build af (map a_value vs) xs ≡ a_let (dcl (knowns ns) (length kept) place.depth e) xs) →
      AArity af (map a_value vs) → a_kids af ≡ 1 → place.binders ≤ binders →
      ((n : Name) → n.under ≤ binders → typed binders n ≡ ty →
      scope binders (ns ++ n ∷ []) ≡ d_types ks (scope place.binders ns) e) →
      Stepped ks place form us ns ps old new kept tuples
  let_stepped mid vs m e form af ty stands binders emits is_next number keeps const dec build kids abuild fine akids le
      types =
      let g = scope place.binders ns in
      let ls = knowns ns in
      let is_tops : tops qs ≡ dec.place ∷ tops ps = ap tops dec.places ∙ onto_push (λ p. p) [] ps dec.place in
      let vals_is : a_values dec.node.values.items ≡ map a_value vs = ap (map a_value) dec.values in
      let count : length qs ≡ suc (length ps) =
      omega (arith, ap length dec.places, length-append ps (dec.place ∷ [])) in
      let long : length ms ≡ suc (length ns) = omega (arith, ap length dec.names, length-append ns (dec.name ∷ [])) in
      record {
        terms = λ fit hs.
            ap (λ xs. a_onto xs (pending ks ms (tops qs) (length tuples) hs)) dec.nodes
            ∙ ap₂ (λ xs ys. a_onto (mid ++ dec.node ∷ []) (pending ks xs ys (length tuples) hs)) dec.names is_tops
            ∙ ap (λ c. a_onto (mid ++ dec.node ∷ []) (pending ks (ns ++ dec.name ∷ []) (dec.place ∷ tops ps) c hs))
            number
            ∙ step_let ks e ns dec.name place dec.place (length kept) len (dec.level ∙ is_next) (dec.constant ∙ const)
            (dec.deep ∙ ap suc is_next) dec.many
            (ap (λ b. scope b (ns ++ dec.name ∷ [])) dec.bound ∙ types dec.name dec.under dec.type)
            (tops ps) old mid dec.node fit emits
            (λ xs. ap₂ (λ f ws. a_build f ws xs) dec.shape vals_is ∙ abuild xs) hs
            ∙ ap (λ xs. a_onto old (pending ks ns (place ∷ tops ps) (length kept) xs)) (sym (build hs));
        keeps = λ fit hs.
            ap₂ (λ xs ys. a_data tuples ++ pending_data ks xs ys (length tuples) hs) dec.names is_tops
            ∙ ap (λ c. a_data tuples ++ pending_data ks (ns ++ dec.name ∷ []) (dec.place ∷ tops ps) c hs) number
            ∙ keep_let ks e ns dec.name place dec.place (length kept) len (dec.level ∙ is_next) (dec.constant ∙ const)
            (dec.deep ∙ ap suc is_next) dec.many
            (ap (λ b. scope b (ns ++ dec.name ∷ [])) dec.bound ∙ types dec.name dec.under dec.type) (tops ps)
            (a_data kept) (a_data tuples) fit keeps hs
            ∙ ap (λ xs. a_data kept ++ pending_data ks ns (place ∷ tops ps) (length kept) xs) (sym (build hs));
        fit = λ fit. subst (λ ys. Fit ms (length ms) ys) (sym is_tops)
            (subst (λ xs. Fit xs (length xs) (dec.place ∷ tops ps)) (sym dec.names)
            (let more : length (ns ++ dec.name ∷ [])
            ≡ suc (length ns) = omega (arith, length-append ns (dec.name ∷ [])) in (
              omega (arith, dec.many, len, more),
              subst (Under dec.place.binders)
                  (sym (take_all dec.place.names (ns ++ dec.name ∷ []) (omega (arith, dec.many, len, more))))
                  (under_push place.binders dec.place.binders ns dec.name (omega (arith, le, dec.bound))
                  (omega (arith, dec.under, dec.bound)) bound),
              fit_more ns (dec.name ∷ []) place.names dec.place.names (tops ps) fit (omega (arith, len))
                  (omega (arith, dec.many)),
            )));
        rows = λ k before rest h.
            subst (λ xs. ARow (xs ++ rest) k) (sym dec.nodes)
            (row_step old mid dec.node _ (length ps) k emits
            (subst (λ f. AArity f (a_values dec.node.values.items)) (sym dec.shape)
            (subst (AArity af) (sym vals_is) fine)) before rest
            (subst (λ n. ARow rest (lift n (length ps))) (sym (ap a_kids dec.shape ∙ akids))
            (subst (ARow rest) count h)));
        count = count ∙ ap (λ n. lift n (length ps)) (sym kids);
      }

  end_stepped : (mid : List ANode) (vs : List AValue) (h : HTm) (r : a.ATm) (form : HForm) (af : AForm) → ms ≡ ns →
      qs ≡ ps → Ends af vs mid new.nodes.items →
      ((hs : List HTm) → h_build form us hs ≡ h ∷ hs) → h_kids form ≡ 0 →
      Emits old mid (pre_vs ks (scope place.binders ns) (knowns ns) (length kept) place.depth (tied us)) →
      length tuples ≡ n_t (knowns ns) (length kept) place.depth h →
      a_data tuples ≡ a_data kept ++ data_t ks (scope place.binders ns) (knowns ns) (length kept) place.depth h →
      alloc_t ks (scope place.binders ns) (knowns ns) (length kept) place.depth h
      ≡ pre_vs ks (scope place.binders ns) (knowns ns) (length kept) place.depth (tied us) r →
      ((xs : List a.ATm) → a_build af (map a_value vs) xs ≡ r ∷ xs) → AArity af (map a_value vs) → a_kids af ≡ 0 →
      Stepped ks place form us ns ps old new kept tuples
  end_stepped mid vs h r form af ms_is qs_is end build kids emits number keeps is abuild fine akids =
      let vals_is : a_values end.node.values.items ≡ map a_value vs = ap (map a_value) end.values in
      record {
        terms = λ fit hs.
            ap (λ xs. a_onto xs (pending ks ms (tops qs) (length tuples) hs)) end.nodes
            ∙ ap₂ (λ xs ys. a_onto (mid ++ end.node ∷ []) (pending ks xs (tops ys) (length tuples) hs)) ms_is qs_is
            ∙ ap (λ c. a_onto (mid ++ end.node ∷ []) (pending ks ns (tops ps) c hs)) number
            ∙ step_end ks h ns place (length kept) len r _ (tops ps) old mid end.node emits
            (λ xs. ap₂ (λ f ws. a_build f ws xs) end.shape vals_is ∙ abuild xs) is hs
            ∙ ap (λ xs. a_onto old (pending ks ns (place ∷ tops ps) (length kept) xs)) (sym (build hs));
        keeps = λ fit hs.
            ap₂ (λ xs ys. a_data tuples ++ pending_data ks xs (tops ys) (length tuples) hs) ms_is qs_is
            ∙ ap (λ c. a_data tuples ++ pending_data ks ns (tops ps) c hs) number
            ∙ keep_end ks h ns place (length kept) len (tops ps) (a_data kept) (a_data tuples) keeps hs
            ∙ ap (λ xs. a_data kept ++ pending_data ks ns (place ∷ tops ps) (length kept) xs) (sym (build hs));
        fit = λ fit. subst (λ ys. Fit ms (length ms) (tops ys)) (sym qs_is)
            (subst (λ xs. Fit xs (length xs) (tops ps)) (sym ms_is) (subst (λ k. Fit ns k (tops ps)) (sym len) fit));
        rows = λ k before rest hs.
            subst (λ xs. ARow (xs ++ rest) k) (sym end.nodes)
            (row_step old mid end.node _ (length ps) k emits
            (subst (λ f. AArity f (a_values end.node.values.items)) (sym end.shape)
            (subst (AArity af) (sym vals_is) fine)) before rest
            (subst (λ n. ARow rest (lift n (length ps))) (sym (ap a_kids end.shape ∙ akids))
            (subst (λ ys. ARow rest (length ys)) qs_is hs)));
        count = ap length qs_is ∙ ap (λ n. lift n (length ps)) (sym kids);
      }

  if_stepped : (mid : List ANode) (vs : List AValue) (m : ℕ) (v : HVal) (form : HForm) (p : Place) →
      Emits old mid (pre_v ks (scope place.binders ns) (knowns ns) (length kept) place.depth v) →
      m ≡ v_next (knowns ns) place.depth v → length tuples ≡ n_v (knowns ns) (length kept) v →
      a_data tuples ≡ a_data kept ++ data_v ks (scope place.binders ns) (knowns ns) (length kept) v →
      map a_value vs ≡ val (knowns ns) (length kept) place.depth m v ∷ [] → ms ≡ ns → qs ≡ (ps ++ p ∷ []) ++ p ∷ [] →
      Ends A.If0 vs mid new.nodes.items → p.depth ≡ m → p.names ≡ place.names → p.binders ≡ place.binders →
      form ≡ H.If0 → us ≡ v ∷ [] →
      Stepped ks place form us ns ps old new kept tuples
  if_stepped mid vs m v form p emits m_is number keeps vals ms_is qs_is end depth count binders form_is us_is =
      let g = scope place.binders ns in
      let ls = knowns ns in
      let vals_is : a_values end.node.values.items ≡ val ls (length kept) place.depth (v_next ls place.depth v) v ∷ [] =
      ap (map a_value) end.values ∙ vals ∙ ap (λ k. val ls (length kept) place.depth k v ∷ []) m_is in
      let is_tops : tops qs ≡ p ∷ p ∷ tops ps =
      ap tops qs_is ∙ onto_push (λ x. x) [] (ps ++ p ∷ []) p ∙ ap (λ ys. p ∷ ys) (onto_push (λ x. x) [] ps p) in
      let many : length qs ≡ suc (suc (length ps)) =
      omega (arith, ap length qs_is, length-append (ps ++ p ∷ []) (p ∷ []), length-append ps (p ∷ [])) in
      record {
        terms = λ fit hs.
            ap (λ xs. a_onto xs (pending ks ms (tops qs) (length tuples) hs)) end.nodes
            ∙ ap₂ (λ xs ys. a_onto (mid ++ end.node ∷ []) (pending ks xs ys (length tuples) hs)) ms_is is_tops
            ∙ ap (λ c. a_onto (mid ++ end.node ∷ []) (pending ks ns (p ∷ p ∷ tops ps) c hs)) number
            ∙ step_if ks v ns place p (length kept) len (depth ∙ m_is) count binders (tops ps) old mid end.node emits
            (λ x y xs. ap₂ (λ f ws. a_build f ws (x ∷ y ∷ xs)) end.shape vals_is) hs
            ∙ ap (λ xs. a_onto old (pending ks ns (place ∷ tops ps) (length kept) xs))
            (sym (ap₂ (λ f xs. h_build f xs hs) form_is us_is));
        keeps = λ fit hs.
            ap₂ (λ xs ys. a_data tuples ++ pending_data ks xs ys (length tuples) hs) ms_is is_tops
            ∙ ap (λ c. a_data tuples ++ pending_data ks ns (p ∷ p ∷ tops ps) c hs) number
            ∙ keep_if ks v ns place p (length kept) len (depth ∙ m_is) count binders (tops ps) (a_data kept)
            (a_data tuples) keeps hs
            ∙ ap (λ xs. a_data kept ++ pending_data ks ns (place ∷ tops ps) (length kept) xs)
            (sym (ap₂ (λ f xs. h_build f xs hs) form_is us_is));
        fit = λ fit. subst (λ ys. Fit ms (length ms) ys) (sym is_tops)
            (subst (λ xs. Fit xs (length xs) (p ∷ p ∷ tops ps)) (sym ms_is)
            (let here : Under p.binders (take p.names ns) = subst (λ b. Under b (take p.names ns)) (sym binders)
            (subst (Under place.binders) (sym (take_all p.names ns (omega (arith, count, len)))) bound) in
            (omega (arith, count, len), here, (omega arith, here, subst (λ k. Fit ns k (tops ps)) (sym count) fit))));
        rows = λ k before rest hs.
            subst (λ xs. ARow (xs ++ rest) k) (sym end.nodes)
            (row_step old mid end.node _ (length ps) k emits
            (subst (λ f. AArity f (a_values end.node.values.items)) (sym end.shape)
            (subst (AArity A.If0) (sym vals_is) tt)) before rest
            (subst (λ n. ARow rest (lift n (length ps))) (sym (ap a_kids end.shape)) (subst (ARow rest) many hs)));
        count = many ∙ ap (λ f. lift (h_kids f) (length ps)) (sym form_is);
      }

-- the data of one value, and of two
keep_one : (us vs ws : List a.AConsts) → us ≡ vs ++ (ws ++ []) → us ≡ vs ++ ws
keep_one us vs ws e = e ∙ ap (λ zs. vs ++ zs) (append-nil ws)

keep_two : (us vs ws xs : List a.AConsts) → us ≡ vs ++ (ws ++ (xs ++ [])) → us ≡ vs ++ (ws ++ xs)
keep_two us vs ws xs e = e ∙ ap (λ zs. vs ++ (ws ++ zs)) (append-nil xs)

-- each form: lv are the values by level, and vs as they stand there
module _ (old new : Progress) (place : Place) (run : Run) (vs : List AValue)
    (len : length old.names.items ≡ place.names) (bound : Under place.binders old.names.items) where
  abbrev ns : List Name
  ns = old.names.items

  abbrev ps : List Place
  ps = old.places.items

  abbrev mid : List ANode
  mid = old.nodes.items

  abbrev lv : List AValue
  lv = run.values.items

  abbrev ts : List Seen
  ts = run.types.items

  abbrev m : ℕ
  m = run.depth

  abbrev g : List a.ATy
  g = scope place.binders ns

  abbrev ls : List Known
  ls = knowns ns

  abbrev OneType : a.ATy → (a.ATy → a.ATy) → Type 0
  OneType ty f = (t : a.ATy) → map (type_in g) ts ≡ t ∷ [] → ty ≡ f t

  same_scope : (n : Name) (t : a.ATy) → n.under ≤ place.binders → typed place.binders n ≡ t →
      scope place.binders (ns ++ n ∷ []) ≡ t ∷ g
  same_scope n t u is = onto_push (typed place.binders) [] ns n ∙ ap (λ x. x ∷ g) is

  module _ (same : map a_value vs ≡ map (value_at m) lv) where
    pub name_stepped : (ty : a.ATy) (stands : Option a.AVal) →
        Declares A.Value vs ty stands m place.binders ns ps mid new → OneType ty (λ t. t) →
        ((o : Option a.AVal) → map (constant_in ls) ts ≡ o ∷ [] → stands ≡ o) →
        Steps place H.Name run old new
    name_stepped ty stands dec has const ks [] begin kept tuples made one = absurd one
    name_stepped ty stands dec has const ks (v ∷ w ∷ us) begin kept tuples made one = absurd one
    name_stepped ty stands dec has const ks (v ∷ []) begin kept tuples made one =
        let vals = same ∙ made.values m in
        let_stepped ks (v ∷ []) ns place ps begin new kept tuples len bound mid vs m (HName v) H.Name A.Value ty
        stands place.binders (emits_same begin mid _ _ (λ r. refl) made.emits) made.depth made.number
        (keep_one _ (a_data kept) (data_v ks g ls (length kept) v) made.keeps) (const _ made.consts) dec
        (λ hs. refl) refl
        (λ xs. ap (λ ws. a_build A.Value ws xs) vals
        ∙ ap (λ k. a_let (a.Value (val ls (length kept) place.depth k v)) xs) made.depth)
        (subst r.IsOne (sym vals) tt) refl (omega arith)
        (λ n u is. same_scope n (v_type ks g v) u (is ∙ has (v_type ks g v) made.types))

    pub proj_stepped : (i : ℕ) (ty : a.ATy) →
        Declares (A.Proj i) vs ty None m place.binders ns ps mid new →
        OneType ty (λ t. field_of i (Some t)) → Steps place (H.Proj i) run old new
    proj_stepped i ty dec has ks [] begin kept tuples made one = absurd one
    proj_stepped i ty dec has ks (v ∷ w ∷ us) begin kept tuples made one = absurd one
    proj_stepped i ty dec has ks (v ∷ []) begin kept tuples made one =
        let vals = same ∙ made.values m in
        let_stepped ks (v ∷ []) ns place ps begin new kept tuples len bound mid vs m (HProj i v) (H.Proj i)
        (A.Proj i) ty None place.binders (emits_same begin mid _ _ (λ r. refl) made.emits) made.depth made.number
        (keep_one _ (a_data kept) (data_v ks g ls (length kept) v) made.keeps) refl dec (λ hs. refl) refl
        (λ xs. ap (λ ws. a_build (A.Proj i) ws xs) vals
        ∙ ap (λ k. a_let (a.Proj i (val ls (length kept) place.depth k v)) xs) made.depth)
        (subst r.IsOne (sym vals) tt) refl (omega arith)
        (λ n u is. same_scope n (field_of i (Some (v_type ks g v))) u (is ∙ has (v_type ks g v) made.types))

    pub get_stepped : (i : ℕ) (ty : a.ATy) → i ≡ 1 →
        Declares (A.Proj i) vs ty None m place.binders ns ps mid new →
        OneType ty (λ t. field_of i (Some t)) → Steps place H.Get run old new
    get_stepped i ty e dec has ks [] begin kept tuples made one = absurd one
    get_stepped i ty e dec has ks (v ∷ w ∷ us) begin kept tuples made one = absurd one
    get_stepped i ty e dec has ks (v ∷ []) begin kept tuples made one =
        let vals = same ∙ made.values m in
        let_stepped ks (v ∷ []) ns place ps begin new kept tuples len bound mid vs m (HGet v) H.Get
        (A.Proj i) ty None place.binders (emits_same begin mid _ _ (λ r. refl) made.emits) made.depth made.number
        (keep_one _ (a_data kept) (data_v ks g ls (length kept) v) made.keeps) refl dec (λ hs. refl) refl
        (λ xs. ap (λ ws. a_build (A.Proj i) ws xs) vals
        ∙ ap₂ (λ k j. a_let (a.Proj j (val ls (length kept) place.depth k v)) xs) made.depth e)
        (subst r.IsOne (sym vals) tt) refl (omega arith)
        (λ n u is. same_scope n (field_of 1 (Some (v_type ks g v))) u
        (is ∙ has (v_type ks g v) made.types ∙ ap (λ j. field_of j (Some (v_type ks g v))) e))

    pub arith_stepped : (o : Op) (ty : a.ATy) →
        Declares (A.Arith o) vs ty None m place.binders ns ps mid new → ty ≡ a.AInt →
        Steps place (H.Arith o) run old new
    arith_stepped o ty dec has ks [] begin kept tuples made two = absurd two
    arith_stepped o ty dec has ks (v ∷ []) begin kept tuples made two = absurd two
    arith_stepped o ty dec has ks (v ∷ w ∷ x ∷ us) begin kept tuples made two = absurd two
    arith_stepped o ty dec has ks (v ∷ w ∷ []) begin kept tuples made two =
        let vals = same ∙ made.values m in
        let_stepped ks (v ∷ w ∷ []) ns place ps begin new kept tuples len bound mid vs m (HArith o v w) (H.Arith o)
        (A.Arith o) ty None place.binders (emits_same begin mid _ _ (λ r. refl) made.emits) made.depth made.number
        (keep_two _ (a_data kept) (data_v ks g ls (length kept) v) (data_v ks g ls (n_v ls (length kept) v) w)
        made.keeps) refl dec (λ hs. refl) refl
        (λ xs. ap (λ ws. a_build (A.Arith o) ws xs) vals
        ∙ ap (λ k. a_let
        (a.Arith o (val ls (length kept) place.depth k v)
        (val ls (n_v ls (length kept) v) (v_next ls place.depth v) k w)) xs) made.depth)
        (subst r.IsTwo (sym vals) tt) refl (omega arith)
        (λ n u is. same_scope n a.AInt u (is ∙ has))

    pub unpack_stepped : (ty : a.ATy) (binders : ℕ) → binders ≡ suc place.binders →
        Declares A.Unpack vs ty None m binders ns ps mid new → OneType ty (λ t. body_of (Some t)) →
        Steps place H.Unpack run old new
    unpack_stepped ty binders b dec has ks [] begin kept tuples made one = absurd one
    unpack_stepped ty binders b dec has ks (v ∷ w ∷ us) begin kept tuples made one = absurd one
    unpack_stepped ty binders b dec has ks (v ∷ []) begin kept tuples made one =
        let vals = same ∙ made.values m in
        let_stepped ks (v ∷ []) ns place ps begin new kept tuples len bound mid vs m (HUnpack v) H.Unpack A.Unpack
        ty None binders (emits_same begin mid _ _ (λ r. refl) made.emits) made.depth made.number
        (keep_one _ (a_data kept) (data_v ks g ls (length kept) v) made.keeps) refl dec (λ hs. refl) refl
        (λ xs. ap (λ ws. a_build A.Unpack ws xs) vals
        ∙ ap (λ k. a_let (a.Unpack (val ls (length kept) place.depth k v)) xs) made.depth)
        (subst r.IsOne (sym vals) tt) refl (omega (arith, b))
        (λ n u is. opened ks v n u (is ∙ has (v_type ks g v) made.types))
      where
        opened : (ks : HBlks) (v : HVal) (n : Name) → n.under ≤ binders →
            typed binders n ≡ body_of (Some (v_type ks g v)) →
            scope binders (ns ++ n ∷ []) ≡ body_of (Some (v_type ks g v)) ∷ map (ashift 1 0) g
        opened ks v n u is = onto_push (typed binders) [] ns n
            ∙ ap₂ (λ x xs. x ∷ xs) is (ap (λ k. scope k ns) b ∙ scope_open place.binders ns bound)

    pub halt_stepped : new.names.items ≡ ns → new.places.items ≡ ps → Ends A.Halt vs mid new.nodes.items →
        Steps place H.Halt run old new
    halt_stepped ms_is qs_is end ks [] begin kept tuples made one = absurd one
    halt_stepped ms_is qs_is end ks (v ∷ w ∷ us) begin kept tuples made one = absurd one
    halt_stepped ms_is qs_is end ks (v ∷ []) begin kept tuples made one =
        let vals = same ∙ made.values m in
        end_stepped ks (v ∷ []) ns place ps begin new kept tuples len bound mid vs (HHalt v)
        (a.Halt (val ls (length kept) place.depth (v_next ls place.depth v) v)) H.Halt A.Halt ms_is qs_is end
        (λ hs. refl) refl made.emits made.number
        (keep_one _ (a_data kept) (data_v ks g ls (length kept) v) made.keeps) refl
        (λ xs. ap (λ ws. a_build A.Halt ws xs) vals
        ∙ ap (λ k. a.Halt (val ls (length kept) place.depth k v) ∷ xs) made.depth) (subst r.IsOne (sym vals) tt)
        refl

    pub call_stepped : (xs : Vec CType Global) (ys : Vec AType Global) → new.names.items ≡ ns → new.places.items ≡ ps →
        atrees ys.items ≡ atypes (ctys xs.items) → Ends (A.Call ys) vs mid new.nodes.items →
        Steps place (H.Call xs) run old new
    call_stepped xs ys ms_is qs_is types end ks [] begin kept tuples made some = absurd some
    call_stepped xs ys ms_is qs_is types end ks (f ∷ us) begin kept tuples made some =
        let vals = same ∙ made.values m in
        let start = v_next ls place.depth f in
        let last = vs_next ls start (tied us) in
        let b1 = n_v ls (length kept) f in
        end_stepped ks (f ∷ us) ns place ps begin new kept tuples len bound mid vs
        (HCall f (ctys xs.items) (tied us))
        (a.Call (val ls (length kept) place.depth last f) (atypes (ctys xs.items))
        (the_vals ls b1 start last (tied us))) (H.Call xs) (A.Call ys) ms_is qs_is end (λ hs. refl) refl made.emits
        made.number made.keeps refl
        (λ zs. ap (λ ws. a_build (A.Call ys) ws zs) vals
        ∙ ap₂ (λ k us2. a.Call (val ls (length kept) place.depth k f) us2 (the_vals ls b1 start k (tied us)) ∷ zs)
        made.depth types) (subst r.IsSome (sym vals) tt) refl

    pub branch_stepped : (p : Place) → new.names.items ≡ ns → new.places.items ≡ (ps ++ p ∷ []) ++ p ∷ [] →
        p.depth ≡ m → p.names ≡ place.names → p.binders ≡ place.binders → Ends A.If0 vs mid new.nodes.items →
        Steps place H.If0 run old new
    branch_stepped p ms_is qs_is depth count binders end ks [] begin kept tuples made one = absurd one
    branch_stepped p ms_is qs_is depth count binders end ks (v ∷ w ∷ us) begin kept tuples made one = absurd one
    branch_stepped p ms_is qs_is depth count binders end ks (v ∷ []) begin kept tuples made one =
        if_stepped ks (v ∷ []) ns place ps begin new kept tuples len bound mid vs m v H.If0 p
        (emits_same begin mid _ _ (λ r. refl) made.emits) made.depth made.number
        (keep_one _ (a_data kept) (data_v ks g ls (length kept) v) made.keeps) (same ∙ made.values m) ms_is qs_is
        end depth count binders refl refl

  -- a new cell: its malloc comes first, and its name is the initialisation's
  pub cell_stepped : (mid2 : List ANode) (k : ℕ) (ty whole : a.ATy) (x : AValue) → k ≡ suc m → OneType ty (λ t. t) →
      whole ≡ a.ATuple (a.MoreAFields (ty) true a.NoAFields) →
      Emits mid mid2 (λ r. a.Let (a.Malloc (a.MoreATys (ty) a.NoATys)) r) →
      ((d : ℕ) (v : a.AVal) → map (value_at d) lv ≡ v ∷ [] → value_at d x ≡ v) →
      map a_value vs ≡ a.Var 0 ∷ value_at k x ∷ [] →
      Declares (A.Init 1) vs whole None k place.binders ns ps mid2 new →
      Steps place H.Cell run old new
  cell_stepped mid2 k ty whole x k_is has whole_is malloc only vals dec ks [] begin kept tuples made one = absurd one
  cell_stepped mid2 k ty whole x k_is has whole_is malloc only vals dec ks (v ∷ w ∷ us) begin kept tuples made one =
      absurd one
  cell_stepped mid2 k ty whole x k_is has whole_is malloc only vals dec ks (v ∷ []) begin kept tuples made one =
      let t = v_type ks g v in
      let ty_is : ty ≡ t = has t made.types in
      let k_now : k ≡ suc (v_next ls place.depth v) = k_is ∙ ap suc made.depth in
      let content : value_at k x ≡ val ls (length kept) place.depth (suc (v_next ls place.depth v)) v =
      only k (val ls (length kept) place.depth k v) (made.values k)
      ∙ ap (λ n. val ls (length kept) place.depth n v) k_now in
      let vals2 : map a_value vs ≡ a.Var 0 ∷ val ls (length kept) place.depth (suc (v_next ls place.depth v)) v ∷ [] =
      vals ∙ ap (λ y. a.Var 0 ∷ y ∷ []) content in
      let emits = emits_same begin mid2 _ _
      (λ r. ap (λ y. pre_vs ks g ls (length kept) place.depth (tied (v ∷ []))
      (a.Let (a.Malloc (a.MoreATys y a.NoATys)) r)) ty_is) (emits_then begin mid mid2 _ _ made.emits malloc) in
      let_stepped ks (v ∷ []) ns place ps begin new kept tuples len bound mid2 vs k (HCell v) H.Cell
      (A.Init 1) whole None place.binders emits k_now made.number
      (keep_one _ (a_data kept) (data_v ks g ls (length kept) v) made.keeps) refl dec (λ hs. refl) refl
      (λ xs. ap (λ ws. a_build (A.Init 1) ws xs) vals2) (subst r.IsTwo (sym vals2) tt) refl (omega arith)
      (λ n u is. same_scope n (a.ATuple (a.MoreAFields t true a.NoAFields)) u
      (is ∙ whole_is ∙ ap (λ y. a.ATuple (a.MoreAFields y true a.NoAFields)) ty_is))

  -- an assignment: its initialisation comes first, and its name is the empty tuple's
  pub set_stepped : (mid2 : List ANode) (k : ℕ) (room : Vec AType Global) (ty : a.ATy) → k ≡ suc m →
      atrees room.items ≡ a.NoATys → ty ≡ a.ATuple a.NoAFields →
      ((v w : a.AVal) → map (value_at m) lv ≡ v ∷ w ∷ [] → Emits mid mid2 (λ r. a.Let (a.Init v 1 w) r)) →
      map a_value vs ≡ [] →
      Declares (A.Malloc room) vs ty None k place.binders ns ps mid2 new →
      Steps place H.Set run old new
  set_stepped mid2 k room ty k_is room_is ty_is init vals dec ks [] begin kept tuples made two = absurd two
  set_stepped mid2 k room ty k_is room_is ty_is init vals dec ks (v ∷ []) begin kept tuples made two = absurd two
  set_stepped mid2 k room ty k_is room_is ty_is init vals dec ks (v ∷ w ∷ x ∷ us) begin kept tuples made two =
      absurd two
  set_stepped mid2 k room ty k_is room_is ty_is init vals dec ks (v ∷ w ∷ []) begin kept tuples made two =
      let d1 = v_next ls place.depth v in
      let d2 = v_next ls d1 w in
      let b1 = n_v ls (length kept) v in
      let step = init (val ls (length kept) place.depth m v) (val ls b1 d1 m w) (made.values m) in
      let emits = emits_same begin mid2 _ _
      (λ r. ap (λ n. pre_vs ks g ls (length kept) place.depth (tied (v ∷ w ∷ []))
      (a.Let (a.Init (val ls (length kept) place.depth n v) 1 (val ls b1 d1 n w)) r)) made.depth)
      (emits_then begin mid mid2 _ _ made.emits step) in
      let_stepped ks (v ∷ w ∷ []) ns place ps begin new kept tuples len bound mid2 vs k (HSet v w) H.Set
      (A.Malloc room) ty None place.binders emits (k_is ∙ ap suc made.depth) made.number
      (keep_two _ (a_data kept) (data_v ks g ls (length kept) v) (data_v ks g ls (n_v ls (length kept) v) w)
      made.keeps) refl dec (λ hs. refl) refl
      (λ xs. ap (λ us2. a_let (a.Malloc us2) xs) room_is) (subst r.IsNone (sym vals) tt) refl (omega arith)
      (λ n u is. same_scope n (a.ATuple a.NoAFields) u (is ∙ ty_is))

pub steps_for : (place : Place) (f h : HForm) (run : Run) (old new : Progress) → f ≡ h → Steps place f run old new →
    Steps place h run old new
steps_for place f h run old new e s = subst (λ x. Steps place x run old new) e s

pub made_for : (ks : HBlks) (b c d : ℕ) (xs ys : List Name) (hs is : List HPart) (old mid : List ANode)
    (kept tuples : List AData) (vs : List AValue) (ts : List Seen) (m : ℕ) → xs ≡ ys → hs ≡ is →
    Made ks (scope b xs) (knowns xs) c d (reads [] hs) old kept vs ts m mid tuples →
    Made ks (scope b ys) (knowns ys) c d (reads [] is) old kept vs ts m mid tuples
made_for ks b c d xs ys hs is old mid kept tuples vs ts m e f r =
    subst (λ zs. Made ks (scope b zs) (knowns zs) c d (reads [] is) old kept vs ts m mid tuples) e
    (subst (λ zs. Made ks (scope b xs) (knowns xs) c d (reads [] zs) old kept vs ts m mid tuples) f r)
