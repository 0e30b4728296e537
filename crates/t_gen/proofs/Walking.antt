-- The walk over the nodes of a body.
use Rattle.std.proofs.Common.{◌≡◌, ℕ, suc, ◌+◌, ◌<◌, ◌++◌, List, [], ◌∷◌, length, take, drop, get_or, sym, ap}
use Rattle.std.proofs.Common.{ap₂, ◌∙◌, subst, arith, length-append}
use Rattle.std.specs.Prelude.{Bool}
use Rattle.std.proofs.lemmas.List.{drop_more, nil_from_length as nil_from, take_all}
use Rattle.idx_core.specs.declared.span.Span.{Span}
use Rattle.t_terms.specs.Tree.{TBlock}
use Rattle.t_terms.specs.Read.{blocks_of}
use Rattle.t_terms.specs.declared.block.Block.{Block}
use Rattle.t_terms.specs.declared.instr.Instr.{Instr}
use Rattle.t_terms.proofs.Blocks.{blocks_count}
use Rattle.t_emit.specs.Code.{onto}
use Rattle.t_gen.specs.Filling.{finish}
use Rattle.a_terms.specs.Tree as a
use Rattle.a_terms.specs.NodeTrees.{a_values, a_build, a_onto, a_tree, no_term}
use Rattle.calc_core.specs.Row.{top}
use Rattle.a_terms.specs.Arity.{a_kids, AArity, ARow}
use Rattle.a_terms.specs.declared.nodes.ANode.{ANode}
use Rattle.a_scope.specs.Scope.{scope, homes, Under}
use Rattle.a_scope.specs.declared.scope.Entry.{Entry}
use Rattle.t_gen.specs.declared.state.Place.{Place}
use Rattle.t_gen.specs.Pending.{tops, body_job, pend, Fit, KeepsAll, Stepped}
use Rattle.t_gen.specs.Keeps.{Keeps}
use Rattle.t_gen_rules.specs.Gen.{used}
use Rattle.t_gen.proofs.Keeping.{tops_push, fit_cut, count_cut, keeps_cut, pend_cut}

-- what the loop keeps: with what is left of the nodes, the whole comes out
pub record Walked (prog : a.AProg) (rest : List ANode) (es : List Entry) (ps : List Place) (o : List Block)
    (c : List (Instr × Span)) (all : List TBlock) : Type 0 where
  pub row : ARow rest (length ps)
  pub fit : Fit (length (blocks_of o)) es (length es) (tops ps)
  pub terms : pend prog es (blocks_of o) (onto c) (tops ps) (a_onto rest []) ≡ all
  pub keeps : KeepsAll es (tops ps) (a_onto rest [])

pub walk_begins : (prog : a.AProg) (nodes : List ANode) (es : List Entry) (p : Place) (ps : List Place)
    (o : List Block) (c : List (Instr × Span)) → ARow nodes 1 → Under p.names es → c ≡ [] → ps ≡ p ∷ [] →
    p.vars ≡ length es → p.block < length o → Keeps p.registers (homes es) (used (a_tree nodes)) →
    Walked prog nodes es ps o c
    (finish prog (length (blocks_of o)) (blocks_of o)
    (body_job p.block p.names (homes es) (scope p.names es) nodes ∷ []))
walk_begins prog nodes es p ps o c row under none is count lt keeps =
    let all : take p.vars es ≡ es = take_all p.vars es (omega (arith, count)) in
    record {
      row = subst (λ n. ARow nodes n) (sym (ap length is)) row;
      fit = subst (λ xs. Fit (length (blocks_of o)) es (length es) (tops xs)) (sym is)
          (omega (arith, lt, blocks_count o), omega (arith, count), subst (Under p.names) (sym all) under, tt);
      terms =
          ap₂ (λ x y. pend prog es (blocks_of o) (onto x) (tops y) (a_onto nodes [])) none is
          ∙ ap (λ xs. finish prog (length (blocks_of o)) (blocks_of o)
          (body_job p.block p.names (homes xs) (scope p.names xs) nodes ∷ [])) all;
      keeps = subst (λ xs. KeepsAll es (tops xs) (a_onto nodes [])) (sym is)
          (subst (λ xs. Keeps p.registers (homes xs) (used (a_tree nodes))) (sym all) keeps, tt);
    }

pub next_node : (ns : List ANode) (i : ℕ) (x : ANode) → i < length ns → x ≡ get_or ns i x →
    drop i ns ≡ x ∷ drop (i + 1) ns
next_node ns i x lt is = drop_more ns i x lt ∙ ap (λ y. y ∷ drop (i + 1) ns) (sym is)

-- what the next node finds
module _ (prog : a.AProg) (before rest : List ANode) (node : ANode) (es kept : List Entry) (ps qs : List Place)
    (p : Place) (o : List Block) (c : List (Instr × Span)) (all : List TBlock)
    (is : before ≡ node ∷ rest) (popped : ps ≡ qs ++ p ∷ []) (cut : kept ≡ take p.vars es)
    (walked : Walked prog before es ps o c all) where
  is_tops : tops ps ≡ p ∷ tops qs
  is_tops = ap tops popped ∙ tops_push qs p

  fits : Fit (length (blocks_of o)) es (length es) (p ∷ tops qs)
  fits = subst (Fit (length (blocks_of o)) es (length es)) is_tops walked.fit

  count : length ps ≡ suc (length qs)
  count = ap length popped ∙ length-append qs (p ∷ []) ∙ omega arith

  row : ARow (node ∷ rest) (suc (length qs))
  row = subst (ARow (node ∷ rest)) count (subst (λ ns. ARow ns (length ps)) is walked.row)

  pub walk_arity : AArity node.form (a_values node.values.items)
  walk_arity = row.0

  pub walk_fit : Fit (length (blocks_of o)) kept (length kept) (p ∷ tops qs)
  walk_fit = fit_cut (length (blocks_of o)) es kept p (tops qs) cut fits

  pub walk_count : p.vars ≡ length kept
  walk_count = count_cut (length (blocks_of o)) es kept p (tops qs) cut fits

  pub walk_keeps : KeepsAll kept (p ∷ tops qs) (a_build node.form (a_values node.values.items) (a_onto rest []))
  walk_keeps = keeps_cut (length (blocks_of o)) es kept p (tops qs) (a_onto (node ∷ rest) []) cut fits
      (subst (λ ks. KeepsAll es ks (a_onto (node ∷ rest) [])) is_tops
      (subst (λ ns. KeepsAll es (tops ps) (a_onto ns [])) is walked.keeps))

  pub walk_held : (u : ℕ → Bool) × Keeps p.registers (homes kept) u
  walk_held =
      let u = used (top no_term (a_build node.form (a_values node.values.items) (a_onto rest []))) in (
        u,
        subst (λ (xs : List Entry). Keeps p.registers (homes xs) u) (take_all p.vars kept (omega (arith, walk_count)))
            walk_keeps.0,
      )

  pub walk_goes : (fs : List Entry) (rs : List Place) (n : List Block) (d : List (Instr × Span)) →
      Stepped prog p (a_onto rest []) (a_build node.form (a_values node.values.items)) (a_kids node.form) kept fs qs rs
      o n c d → Walked prog rest fs rs n d all
  walk_goes fs rs n d step = record {
    row = subst (ARow rest) (sym step.count) row.1;
    fit = step.fit;
    terms =
        step.walked
        ∙ pend_cut prog (length (blocks_of o)) es kept (blocks_of o) (onto c) p (tops qs)
        (a_build node.form (a_values node.values.items) (a_onto rest [])) cut fits
        ∙ ap (λ ks. pend prog es (blocks_of o) (onto c) ks (a_onto (node ∷ rest) [])) (sym is_tops)
        ∙ ap (λ ns. pend prog es (blocks_of o) (onto c) (tops ps) (a_onto ns [])) (sym is)
        ∙ walked.terms;
    keeps = step.keeps;
  }

-- there is a place for each node
pub walk_stuck : (prog : a.AProg) (before rest : List ANode) (node : ANode) (es : List Entry) (ps : List Place)
    (o : List Block) (c : List (Instr × Span)) (all : List TBlock) → before ≡ node ∷ rest → length ps ≡ 0 →
    Walked prog before es ps o c all → ⊥
walk_stuck prog before rest node es ps o c all is none walked =
    subst (ARow (node ∷ rest)) none (subst (λ ns. ARow ns (length ps)) is walked.row)

pub walk_ends : (prog : a.AProg) (rest : List ANode) (es : List Entry) (ps : List Place) (o : List Block)
    (c : List (Instr × Span)) (all : List TBlock) → rest ≡ [] → Walked prog rest es ps o c all → blocks_of o ≡ all
walk_ends prog rest es ps o c all is walked =
    let none : ps ≡ [] = nil_from ps (subst (λ ns. ARow ns (length ps)) is walked.row) in
    ap (λ (qs : List Place). pend prog es (blocks_of o) (onto c) (tops qs) (a_onto rest [])) (sym none) ∙ walked.terms
