use Rattle.std.proofs.Common.{List, ℕ, ◌≡◌, refl, ap, subst, ◌∙◌}
use Rattle.c_terms.specs.Read.{cnode}
use Rattle.c_terms.specs.Term.{term_of}
use Rattle.let_types.specs.Known.{known_step, nothing}
use Rattle.let_types.specs.KnownRead.{known}
use Rattle.kc_notation.specs.declared.page.Scope.{Scope}
use Rattle.kc_notation.specs.Standing.{IsPage}
use Rattle.kc_notation.specs.ClosedWalk.{blank, noted, step}
use Rattle.kc_notation.proofs.ClosedStepping.{known_is, note_is, walk_done, walk_more}
use Rattle.kc_notation.proofs.closed_program.write_closed.Goals as goal

pub loop-node-init : goal.loop-node-init
loop-node-init c = (nothing, blank, c.in_ok-page.ensures, λ t. c.new-known.ensures, refl)

pub loop-node-preserved : goal.loop-node-preserved
loop-node-preserved c =
    let w = c.loop-node.invariant in
    let nd = cnode c.node-item.result in
    let old = known c.loop-node.known in
    let b = c.args.typed in
    let k = c.loop-node.page.body.scope.types in
    let n = w.1.body.scope.types in
    let same : k ≡ n = ap (λ (s : Scope). s.types) w.2.body.scope in
    let note = c.deref.ensures.value ∙ note_is b nd k n old w.0 _ same w.3 c.in_ok-note.ensures.note in (
      known_step n nd w.0,
      step (noted b nd (known_step n nd w.0)) nd w.1,
      subst (λ (s : List ℕ). IsPage c.step.new.self (step s nd w.1)) note (c.in_ok-step.ensures w.1 w.2),
      known_is b nd k n old (known c.note_next.new.known) w.0 same w.3 c.in_ok-note.ensures.known,
      walk_more b c.nodes-nodes.result.now c.loop-node.node-index c.node-item.result w.0 w.1 _ c.node-item.is
          c.loop-node-test.true w.4,
    )

pub returns : goal.returns
returns c =
    let w = c.loop-node.invariant in
    c.in_ok-text.ensures ∙ (c.in_ok-whole.ensures.shut w.1 w.2).text.is
    ∙ walk_done c.args.typed c.nodes-nodes.result.now c.loop-node.node-index w.0 w.1 (term_of c.args.program.now)
    c.loop-node-test.false w.4 c.nodes-nodes.ensures.read c.nodes-nodes.ensures.bound
