use Rattle.std.proofs.Common.{◌≡◌, ◌+◌, length, arith}
use Rattle.t_terms.specs.Read.{end_of, block as block_tree}
use Rattle.t_rules.specs.Erase.{erase_block}
use Rattle.t_machine.specs.Laid.{size}
use Rattle.t_machine.proofs.Laying.{size_of_body}
use Rattle.t_machine.proofs.loading.block_end.Goals as goal

pub returns-in-Some-checked_add : goal.returns-in-Some-checked_add
returns-in-Some-checked_add c =
    let b = c.args.block.now in
    let whole : size (erase_block (block_tree b)) ≡ length b.body.items + 1 = size_of_body b.body.items
    (end_of b.«end») in
    omega (arith, whole, c.in-Some.ensures, c.in-Some-checked_add.ensures, c.len-count.ensures, b.body.ok.0)
