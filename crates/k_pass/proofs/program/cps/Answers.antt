use Rattle.std.proofs.Common.{◌≤◌, ◌∙◌, List, length, sym, ap₂, subst}
use Rattle.f_terms.specs.NotedTerm.{noted_of}
use Rattle.f_terms.specs.ReadTerm as source
use Rattle.f_terms.specs.declared.node.FTerm.{FTerm}
use Rattle.f_terms.specs.declared.types.FType.{FType}
use Rattle.f_check.specs.Typed.{program_term, program_types}
use Rattle.k_pass.specs.Emit.{emit_of}
use Rattle.k_pass.proofs.Whole.{tree_is, whole_is, fits, converted}
use Rattle.k_pass.proofs.program.cps.Goals as goal

pub emit-requires : goal.emit-requires
emit-requires c =
    let p = c.args.program.now in
    record {
      table = subst (λ (f : FTerm). source.count f ≤ length c.types.result.now) (sym c.term.ensures)
          (subst (λ (ts : List FType). source.count (program_term p) ≤ length ts) (sym c.types.ensures) p.table);
    }

pub new-requires : goal.new-requires
new-requires c =
    let p = c.args.program.now in
    let f = program_term p in
    let ts = program_types p in
    let made = c.in_ok-nodes.ensures
    ∙ ap₂ (λ (g : FTerm) (us : List FType). emit_of (noted_of g us)) c.term.ensures c.types.ensures in
    let one = c.one_conversion.ensures in
    let types = c.conversion_keeps_types.ensures in
    let scope = c.typed_is_in_scope.ensures in
    let back = c.nodes_are_read_back.ensures in
    record {
      whole = whole_is one types scope back (noted_of f ts) (source.term_of f) (c.types_aside.ensures f ts) p.accepted
          p.noted c.in_ok-nodes.nodes.items made;
      fits = ∣ fits one types scope back (noted_of f ts) (source.term_of f) (c.types_aside.ensures f ts) p.accepted
          p.noted c.in_ok-nodes.nodes.items made c.conversion_keeps_the_bound.ensures p.few ∣₁;
    }

pub returns : goal.returns
returns c =
    let p = c.args.program.now in
    let f = program_term p in
    let ts = program_types p in
    let made = c.in_ok-nodes.ensures
    ∙ ap₂ (λ (g : FTerm) (us : List FType). emit_of (noted_of g us)) c.term.ensures c.types.ensures in
    converted c.conversion_is_a_translation.ensures c.conversion_keeps_meaning.ensures c.conversion_keeps_types.ensures
    c.conversion_keeps_reach.ensures c.conversion_keeps_the_bound.ensures c.codes_of_a_conversion.ensures
    (source.term_of f) p.accepted p.few _
    (c.new.ensures
    ∙ tree_is c.one_conversion.ensures c.conversion_keeps_types.ensures c.typed_is_in_scope.ensures
    c.nodes_are_read_back.ensures (noted_of f ts) (source.term_of f) (c.types_aside.ensures f ts) p.accepted
    p.noted c.in_ok-nodes.nodes.items made)
