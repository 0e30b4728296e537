use Rattle.std.proofs.Common.{◌≡◌, take}
use Rattle.t_terms.specs.Read.{value}
use Rattle.a_terms.specs.NodeTrees.{base, wrapped}
use Rattle.t_gen_rules.specs.Gen.{constant}
use Rattle.t_emit.proofs.constants.constant_value.Given as goal

abbrev pub invariant-loop-w : goal.invariant-loop-w
invariant-loop-w l = value l.made ≡ constant (wrapped (base l.v.base) (take l.w-index l.v.wraps.items))
