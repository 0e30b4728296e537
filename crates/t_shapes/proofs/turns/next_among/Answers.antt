use Rattle.t_text.specs.Kept.{tokens_of}
use Rattle.std.proofs.Common.{sym}
use Rattle.t_shapes.proofs.Turned.{item_turn}
use Rattle.t_shapes.proofs.turns.next_among.Goals as goal

pub returns : goal.returns
returns c =
    let wants = sym c.if-not-wants_item.ensures in
    let found = c.in_ok-found.found in
    let turn = item_turn (tokens_of c.args.tokens.now) c.args.next found c.args.had_block wants c.in_ok-found.ensures in
    λ xs h. (h.0, rw c.with_block-has_block.ensures (turn xs h.1))
