use Rattle.std.proofs.Common.{◌≤◌, ◌+◌, drop}
use Rattle.talc_core.proofs.SizeLemmas.{code_size}
use Rattle.talc_core.proofs.commands.seed.enough_fuel.Given as goal

abbrev pub invariant-loop-block : goal.invariant-loop-block
invariant-loop-block l =
    code_size l.program.blocks.items ≤ l.size + code_size (drop l.block-index l.program.blocks.items)
