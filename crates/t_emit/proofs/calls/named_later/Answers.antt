use Rattle.std.proofs.Common.{◌+◌, ◌∙◌, sym, ap, drop}
use Rattle.std.specs.Prelude.{◌||◌}
use Rattle.t_gen_rules.specs.Gen.{reads, later}
use Rattle.t_emit.specs.Code.{places}
use Rattle.a_terms.specs.NodeTrees.{a_values, no_value}
use Rattle.calc_core.specs.Row.{top}
use Rattle.t_emit.proofs.Emitted.{later_next, later_end}
use Rattle.t_emit.proofs.calls.named_later.Goals as goal

pub returns-then-names : goal.returns-then-names
returns-then-names c =
    let m = places c.args.vars.now c.args.saved.now in
    let vs = c.args.values.now in
    let k = top no_value (a_values vs) in
    let i = c.loop-i.i in
    let rest = later c.args.r m (a_values (drop (i + 1) vs)) k in
    sym (ap (λ b. b || rest) (sym c.names.ensures ∙ c.if-names.true))
    ∙ sym (later_next c.args.r m vs k i c.index-values-i.result c.loop-i-test.true c.index-values-i.is)
    ∙ c.loop-i.invariant

pub loop-i-preserved : goal.loop-i-preserved
loop-i-preserved c =
    let m = places c.args.vars.now c.args.saved.now in
    let vs = c.args.values.now in
    let k = top no_value (a_values vs) in
    let i = c.loop-i.i in
    let rest = later c.args.r m (a_values (drop (i + 1) vs)) k in
    sym (ap (λ b. b || rest) (sym c.names.ensures ∙ c.if-names.false))
    ∙ sym (later_next c.args.r m vs k i c.index-values-i.result c.loop-i-test.true c.index-values-i.is)
    ∙ c.loop-i.invariant

pub returns : goal.returns
returns c =
    let m = places c.args.vars.now c.args.saved.now in
    let vs = c.args.values.now in
    c.names-2.ensures ∙ ap (reads c.args.r m) c.first.ensures
    ∙ later_end c.args.r m vs (top no_value (a_values vs)) c.loop-i.i c.loop-i-test.false ∙ c.loop-i.invariant
