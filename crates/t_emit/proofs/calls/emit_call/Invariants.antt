use Rattle.std.proofs.Common.{◌≡◌}
use Rattle.t_emit.specs.Code.{onto, call_from}
use Rattle.t_gen_rules.specs.Gen.{call_code, tys}
use Rattle.a_scope.specs.Scope.{homes}
use Rattle.a_terms.specs.Read.{atrees}
use Rattle.a_terms.specs.NodeTrees.{a_values, no_value}
use Rattle.calc_core.specs.Row.{top, others}
use Rattle.t_emit.proofs.calls.emit_call.Given as goal

abbrev pub invariant-loop-i : goal.invariant-loop-i
invariant-loop-i l =
    onto l.code.items (call_from l.i l.call l.saves)
    ≡ onto l.fn.code.items
    (call_code 1 l.emitter.spare (homes l.emitter.vars.now) (others (a_values l.values))
    (top no_value (a_values l.values)) (tys (atrees l.types)))
