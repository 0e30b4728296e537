-- The walk over all nodes.
use Rattle.std.proofs.Common.{◌≡◌, ◌<◌, ◌≤◌, ℕ, suc, ◌+◌, List, [], ◌∷◌, ◌++◌, refl, sym, ap, ap₂, ◌∙◌, subst, length}
use Rattle.std.proofs.Common.{take, drop, arith, get_or, add-one, None, option_map}
use Rattle.std.proofs.lemmas.List.{append-nil, length-append, length-take-le, take_more, take_all}
use Rattle.std.proofs.lemmas.List.{nil_from_length as nothing}
use Rattle.std.proofs.Math.Seq.{drop-cons}
use Rattle.calc_core.specs.Ends.{lift}
use Rattle.a_terms.specs.Typing.{types_of}
use Rattle.h_terms.specs.H.{HBlks, HTm}
use Rattle.a_terms.specs.Tree as a
use Rattle.a_laws.specs.Allocate.{Known, alloc_t, arg_levels, arg_depth, atype, atypes, data_t, plain}
use Rattle.calc_core.specs.declared.types.CoreType.{CoreType as CType}
use Rattle.c_terms.specs.Read.{ctree, ctys}
use Rattle.calc_core.specs.Row.{top}
use Rattle.h_terms.specs.Nodes.{HRow, HArity, h_terms, h_tree, h_build, h_kids, values}
use Rattle.a_terms.specs.NodeTrees.{a_data, a_onto, a_tree, a_value}
use Rattle.a_terms.specs.Arity.{ARow}
use Rattle.a_terms.specs.NodeTrees as out
use Rattle.h_terms.specs.declared.node.HNode.{HNode}
use Rattle.a_terms.specs.declared.nodes.AData.{AData}
use Rattle.a_terms.specs.declared.nodes.ANode.{ANode}
use Rattle.a_pass.specs.declared.state.Name.{Name}
use Rattle.a_pass.specs.declared.state.Place.{Place}
use Rattle.a_pass.specs.declared.state.Progress.{Progress}
use Rattle.a_pass.specs.Scope.{kept, known_name, knowns, typed, scope, Under, pending, pending_data, Fit}
use Rattle.a_pass.specs.Emits.{Stepped, tops}
use Rattle.a_pass.proofs.Places.{onto_push}
use Rattle.a_pass.proofs.Terms.{pending_take, fit_take, under_push, typed_now}

-- what the loop keeps: with what is left of the nodes, the whole comes out, and all its data
pub record Walked (ks : HBlks) (rest : List HNode) (ns : List Name) (ps : List Place) (now : List ANode)
    (tuples : List AData) (whole : List a.ATm) (all : List a.AConsts) : Type 0 where
  pub row : HRow rest (length ps)
  pub fit : Fit ns (length ns) (tops ps)
  pub terms : a_onto now (pending ks ns (tops ps) (length tuples) (h_terms rest)) ≡ whole
  pub keeps : a_data tuples ++ pending_data ks ns (tops ps) (length tuples) (h_terms rest) ≡ all
  pub rows : (more : List ANode) → ARow more (length ps) → ARow (now ++ more) 1

pub walk_begins : (ks : HBlks) (nodes : List HNode) (ns : List Name) (p : Place) (ps : List Place) (now : List ANode)
    (tuples : List AData) → HRow nodes 1 → Under 0 ns → now ≡ [] → ps ≡ p ∷ [] → p.names ≡ length ns →
    p.binders ≡ 0 → p.depth ≡ length ns →
    Walked ks nodes ns ps now tuples
    (alloc_t ks (scope 0 ns) (knowns ns) (length tuples) (length ns) (h_tree nodes) ∷ [])
    (a_data tuples ++ data_t ks (scope 0 ns) (knowns ns) (length tuples) (length ns) (h_tree nodes))
walk_begins ks nodes ns p ps now tuples row bound now_is ps_is count binders depth =
    let all : take p.names ns ≡ ns = take_all p.names ns (omega (arith, count)) in
    let c = length tuples in
    record {
      row = subst (λ n. HRow nodes n) (sym (ap length ps_is)) row;
      fit = subst (λ xs. Fit ns (length ns) (tops xs)) (sym ps_is)
          (omega (arith, count), subst (Under p.binders) (sym all) (subst (λ b. Under b ns) (sym binders) bound), tt);
      terms =
          ap₂ (λ xs ys. a_onto xs (pending ks ns (tops ys) c (h_terms nodes))) now_is ps_is
          ∙ ap (λ xs. alloc_t ks (scope p.binders xs) (knowns xs) c p.depth (h_tree nodes) ∷ []) all
          ∙ ap₂ (λ b k. alloc_t ks (scope b ns) (knowns ns) c k (h_tree nodes) ∷ []) binders depth;
      keeps =
          ap (λ ys. a_data tuples ++ pending_data ks ns (tops ys) c (h_terms nodes)) ps_is
          ∙ ap (λ xs. a_data tuples ++ (data_t ks (scope p.binders xs) (knowns xs) c p.depth (h_tree nodes) ++ [])) all
          ∙ ap (λ zs. a_data tuples ++ zs)
          (append-nil (data_t ks (scope p.binders ns) (knowns ns) c p.depth (h_tree nodes)))
          ∙ ap₂ (λ b k. a_data tuples ++ data_t ks (scope b ns) (knowns ns) c k (h_tree nodes)) binders depth;
      rows = λ more h. subst (λ xs. ARow (xs ++ more) 1) (sym now_is) (subst (ARow more) (ap length ps_is) h);
    }

-- what the next node finds
module _ (ks : HBlks) (before rest : List HNode) (node : HNode) (ns kept : List Name) (ps qs : List Place)
    (place : Place) (now : List ANode) (tuples : List AData) (whole : List a.ATm) (all : List a.AConsts)
    (is : before ≡ node ∷ rest) (popped : ps ≡ qs ++ place ∷ []) (cut : kept ≡ take place.names ns)
    (walked : Walked ks before ns ps now tuples whole all) where
  is_tops : tops ps ≡ place ∷ tops qs
  is_tops = ap tops popped ∙ onto_push (λ p. p) [] qs place

  fits : (place.names ≤ length ns) × Under place.binders (take place.names ns) × Fit ns place.names (tops qs)
  fits = subst (Fit ns (length ns)) is_tops walked.fit

  count : length ps ≡ suc (length qs)
  count = ap length popped ∙ length-append qs (place ∷ []) ∙ omega arith

  row : HArity node.form (values node) × HRow rest (lift (h_kids node.form) (length qs))
  row = subst (λ n. HRow (node ∷ rest) n) count (subst (λ xs. HRow xs (length ps)) is walked.row)

  pub walk_arity : HArity node.form (values node)
  walk_arity = row.0

  pub walk_names : length kept ≡ place.names
  walk_names = ap length cut ∙ length-take-le place.names ns fits.0

  pub walk_bound : Under place.binders kept
  walk_bound = subst (Under place.binders) (sym cut) fits.1

  pub walk_goes : (new : Progress) (more2 : List AData) →
      Stepped ks place node.form (values node) kept qs now new tuples more2 →
      Walked ks rest new.names.items new.places.items new.nodes.items more2 whole all
  walk_goes new more2 s =
      let fit : Fit kept place.names (tops qs) =
      subst (λ xs. Fit xs place.names (tops qs)) (sym cut)
      (fit_take ns place.names (tops qs) place.names (omega arith) fits.2) in
      let hs = h_build node.form (values node) (h_terms rest) in
      let c = length tuples in
      let same = pending_take ks ns place.names (place ∷ tops qs) c hs place.names (omega arith)
      (omega arith, fits.1, fits.2) in
      record {
        row = subst (HRow rest) (sym s.count) row.1;
        fit = s.fit fit;
        terms =
            s.terms fit (h_terms rest)
            ∙ ap (λ xs. a_onto now (pending ks xs (place ∷ tops qs) c hs)) cut
            ∙ ap (a_onto now) same.0
            ∙ ap₂ (λ xs ys. a_onto now (pending ks ns xs c (h_terms ys))) (sym is_tops) (sym is)
            ∙ walked.terms;
        keeps =
            s.keeps fit (h_terms rest)
            ∙ ap (λ xs. a_data tuples ++ pending_data ks xs (place ∷ tops qs) c hs) cut
            ∙ ap (λ zs. a_data tuples ++ zs) same.1
            ∙ ap₂ (λ xs ys. a_data tuples ++ pending_data ks ns xs c (h_terms ys)) (sym is_tops) (sym is)
            ∙ walked.keeps;
        rows = s.rows 1 (λ more h. walked.rows more (subst (ARow more) (sym count) h));
      }

pub walk_stuck : (ks : HBlks) (before rest : List HNode) (node : HNode) (ns : List Name) (ps : List Place)
    (now : List ANode) (tuples : List AData) (whole : List a.ATm) (all : List a.AConsts) → before ≡ node ∷ rest →
    length ps ≡ 0 → Walked ks before ns ps now tuples whole all → ⊥
walk_stuck ks before rest node ns ps now tuples whole all is none walked =
    subst (λ n. HRow (node ∷ rest) n) none (subst (λ xs. HRow xs (length ps)) is walked.row)

pub walk_ends : (ks : HBlks) (rest : List HNode) (ns : List Name) (ps : List Place) (now : List ANode)
    (tuples : List AData) (t : a.ATm) (all : List a.AConsts) → rest ≡ [] →
    Walked ks rest ns ps now tuples (t ∷ []) all → (a_tree now ≡ t) × ARow now 1 × (a_data tuples ≡ all)
walk_ends ks rest ns ps now tuples t all is walked =
    let none : ps ≡ [] = nothing ps (subst (λ xs. HRow xs (length ps)) is walked.row) in (
      ap (top out.no_term) (sym (ap (λ xs. a_onto now (pending ks ns (tops xs) (length tuples) (h_terms rest))) none)
          ∙ walked.terms),
      subst (λ xs. ARow xs 1) (append-nil now) (walked.rows [] (ap length none)),
      sym (append-nil (a_data tuples))
          ∙ sym (ap (λ xs. a_data tuples ++ pending_data ks ns (tops xs) (length tuples) (h_terms rest)) none)
          ∙ walked.keeps,
    )

-- the arguments' names
knowns_more : (d : ℕ) (ls : List Known) (xs : List CType) (x : CType) →
    arg_levels d ls (ctys (xs ++ x ∷ [])) ≡ plain (d + length xs) ∷ arg_levels d ls (ctys xs)
knowns_more d ls [] x = ap (λ k. plain k ∷ ls) (omega arith)
knowns_more d ls (y ∷ xs) x = knowns_more (suc d) (plain d ∷ ls) xs x
    ∙ ap (λ k. plain k ∷ arg_levels (suc d) (plain d ∷ ls) (ctys xs)) (omega arith)

scope_more : (g : List a.ATy) (xs : List CType) (x : CType) →
    types_of (atypes (ctys (xs ++ x ∷ []))) g ≡ atype (ctree x) ∷ types_of (atypes (ctys xs)) g
scope_more g [] x = refl
scope_more g (y ∷ xs) x = scope_more (atype (ctree y) ∷ g) xs x

depth_is : (d : ℕ) (xs : List CType) → arg_depth d (ctys xs) ≡ d + length xs
depth_is d [] = omega arith
depth_is d (x ∷ xs) = depth_is (suc d) xs ∙ omega arith

pub record Named (args : List CType) (ns : List Name) : Type 0 where
  pub knowns : knowns ns ≡ arg_levels 0 [] (ctys args)
  pub scope : scope 0 ns ≡ types_of (atypes (ctys args)) []
  pub depth : length ns ≡ arg_depth 0 (ctys args)
  pub bound : Under 0 ns

pub named_none : (ns : List Name) → ns ≡ [] → Named [] ns
named_none ns e =
    record { knowns = ap knowns e; scope = ap (scope 0) e; depth = ap length e; bound = subst (Under 0) (sym e) tt }

pub named_next : (args : List CType) (i : ℕ) (x : CType) (ns ms : List Name) (n : Name) → i < length args →
    x ≡ get_or args i x → ms ≡ ns ++ n ∷ [] → n.level ≡ i → option_map a_value n.constant ≡ None →
    kept n.ty ≡ atype (ctree x) → n.under ≡ 0 → Named (take i args) ns → Named (take (i + 1) args) ms
named_next args i x ns ms n lt x_is ms_is level constant ty under named =
    let more : take (i + 1) args ≡ take i args ++ x ∷ [] =
    take_more args i x lt ∙ ap (λ y. take i args ++ y ∷ []) (sym x_is) in
    let long : length (take i args) ≡ i = length-take-le i args (omega arith) in
    record {
      knowns = ap knowns ms_is ∙ onto_push known_name [] ns n
          ∙ ap₂ (λ k ks. k ∷ ks)
          (ap₂ (λ x y. (let k : Known = record { level = x; constant = y } in k)) (level ∙ omega (arith, long))
          constant) named.knowns ∙ sym (ap (λ xs. arg_levels 0 [] (ctys xs)) more ∙ knowns_more 0 [] (take i args) x);
      scope = ap (scope 0) ms_is ∙ onto_push (typed 0) [] ns n
          ∙ ap₂ (λ t ts. t ∷ ts) (typed_now n 0 (atype (ctree x)) under ty) named.scope
          ∙ sym (ap (λ xs. types_of (atypes (ctys xs)) []) more ∙ scope_more [] (take i args) x);
      depth = omega (
        arith,
        ap length ms_is,
        length-append ns (n ∷ []),
        named.depth,
        depth_is 0 (take i args),
        ap (λ xs. arg_depth 0 (ctys xs)) more,
        depth_is 0 (take i args ++ x ∷ []),
        length-append (take i args) (x ∷ []),
      );
      bound = subst (Under 0) (sym ms_is) (under_push 0 0 ns n (omega arith) (omega (arith, under)) named.bound);
    }

pub next_node : (ns : List HNode) (i : ℕ) (n : HNode) → i < length ns → n ≡ get_or ns i n →
    drop i ns ≡ n ∷ drop (i + 1) ns
next_node ns i n lt is = drop-cons ns i n lt ∙ ap₂ (λ x k. x ∷ drop k ns) (sym is) (sym (add-one i))

pub named_all : (args : List CType) (i : ℕ) (ns : List Name) → length args ≤ i → Named (take i args) ns → Named args ns
named_all args i ns le named = subst (λ xs. Named xs ns) (take_all i args le) named

-- a block's body
pub body_is : (ks : HBlks) (args : List CType) (ns : List Name) (c : ℕ) (t : HTm) →
    knowns ns ≡ arg_levels 0 [] (ctys args) → scope 0 ns ≡ types_of (atypes (ctys args)) [] →
    length ns ≡ arg_depth 0 (ctys args) →
    (alloc_t ks (scope 0 ns) (knowns ns) c (length ns) t
    ≡ alloc_t ks (types_of (atypes (ctys args)) []) (arg_levels 0 [] (ctys args)) c (arg_depth 0 (ctys args)) t)
    × (data_t ks (scope 0 ns) (knowns ns) c (length ns) t
    ≡ data_t ks (types_of (atypes (ctys args)) []) (arg_levels 0 [] (ctys args)) c (arg_depth 0 (ctys args)) t)
body_is ks args ns c t ls g depth = (
  ap₂ (λ x y. alloc_t ks x y c (length ns) t) g ls
      ∙ ap (λ k. alloc_t ks (types_of (atypes (ctys args)) []) (arg_levels 0 [] (ctys args)) c k t) depth,
  ap₂ (λ x y. data_t ks x y c (length ns) t) g ls
      ∙ ap (λ k. data_t ks (types_of (atypes (ctys args)) []) (arg_levels 0 [] (ctys args)) c k t) depth,
)
