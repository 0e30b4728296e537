use Rattle.std.proofs.Common.{◌∙◌, ap, drop}
use Rattle.t_emit.specs.Code.{onto, after_saves}
use Rattle.t_gen_rules.specs.Gen.{call_code, tys}
use Rattle.a_scope.specs.Scope.{homes}
use Rattle.a_terms.specs.Read.{atrees}
use Rattle.a_terms.specs.NodeTrees.{a_values, no_value}
use Rattle.calc_core.specs.Row.{top}
use Rattle.t_emit.proofs.Emitted.{call_first}
use Rattle.t_emit.proofs.calls.emit_call.Goals as goal

pub loop-i-init : goal.loop-i-init
loop-i-init c =
    let m = homes c.args.emitter.now.vars.now in
    let vs = c.args.values.now in
    let k = top no_value (a_values vs) in
    let ts = tys (atrees c.args.types.now) in
    let b = c.args.emitter.now.spare in
    ap (λ xs. onto c.args.code.now.items (call_code 1 b (after_saves xs m) (a_values (drop 1 vs)) k ts))
    c.new.ensures.items ∙ ap (onto c.args.code.now.items) (call_first 1 b m vs k ts)
