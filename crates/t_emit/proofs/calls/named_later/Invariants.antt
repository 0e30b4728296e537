use Rattle.std.proofs.Common.{◌≡◌, drop}
use Rattle.t_gen_rules.specs.Gen.{later}
use Rattle.t_emit.specs.Code.{places}
use Rattle.a_terms.specs.NodeTrees.{a_values, no_value}
use Rattle.calc_core.specs.Row.{top}
use Rattle.t_emit.proofs.calls.named_later.Given as goal

abbrev pub invariant-loop-i : goal.invariant-loop-i
invariant-loop-i l =
    later l.r (places l.vars l.saved) (a_values (drop l.i l.values)) (top no_value (a_values l.values))
    ≡ later l.r (places l.vars l.saved) (a_values (drop l.from l.values)) (top no_value (a_values l.values))
