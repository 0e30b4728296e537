use Rattle.t_text.specs.Kept.{tokens_of}
use Rattle.std.proofs.Common.{sym, ◌∙◌}
use Rattle.t_shapes.proofs.Turned.{block_turn}
use Rattle.t_shapes.proofs.turns.next_block.Goals as goal

pub returns : goal.returns
returns c =
    let name = sym c.take.ensures ∙ c.in_default.is in
    let found = c.in_ok-found.found in
    λ b xs h. (
      h.0,
      block_turn (tokens_of c.args.tokens.now) c.args.next found c.in_default.field-0 name c.in_ok-found.ensures
          b xs h.1,
    )
