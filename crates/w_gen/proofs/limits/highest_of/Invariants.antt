use Rattle.std.proofs.Common.{◌≡◌, max, drop}
use Rattle.w_gen.specs.Limits.{highest_register, highest_field}
use Rattle.w_gen.proofs.Shares.{erased}
use Rattle.w_gen.proofs.limits.highest_of.Given as goal

abbrev pub invariant-loop-one : goal.invariant-loop-one
invariant-loop-one l = record {
  register : max l.register (highest_register (erased (drop l.one-index l.blocks))) ≡
      highest_register (erased l.blocks);
  field : max l.field (highest_field (erased (drop l.one-index l.blocks))) ≡ highest_field (erased l.blocks);
}
