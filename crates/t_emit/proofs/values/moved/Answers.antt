use Rattle.std.proofs.Common.{◌∙◌, ap, sym, get_or}
use Rattle.std.proofs.lemmas.List.{take_all}
use Rattle.t_emit.specs.Code.{seen}
use Rattle.t_gen_rules.specs.Gen.{instead}
use Rattle.t_emit.proofs.Emitted.{seen_next}
use Rattle.t_emit.proofs.values.moved.Goals as goal

pub loop-i-preserved : goal.loop-i-preserved
loop-i-preserved c =
    let s = get_or c.args.saved.now c.loop-i.i (0, 0) in
    c.replaced-now.ensures ∙ ap (instead s.1 s.0) c.loop-i.invariant
    ∙ sym (seen_next c.args.saved.now c.loop-i.i (0, 0) c.args.r c.loop-i-test.true)

pub returns : goal.returns
returns c = c.loop-i.invariant ∙ ap (λ xs. seen xs c.args.r) (take_all c.loop-i.i c.args.saved.now c.loop-i-test.false)
