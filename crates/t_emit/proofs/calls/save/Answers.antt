use Rattle.std.proofs.Common.{◌∙◌, sym, ap}
use Rattle.t_emit.specs.Code.{after_saves}
use Rattle.t_gen_rules.specs.Gen.{places_saved}
use Rattle.t_emit.proofs.Emitted.{saves_push}
use Rattle.t_emit.proofs.calls.save.Goals as goal

pub returns-in_ok-next-clause-places : goal.returns-in_ok-next-clause-places
returns-in_ok-next-clause-places c = λ m.
    let old = c.args.saves.now.pairs.items in
    let b = c.args.saves.now.free in
    ap (λ xs. after_saves xs m) c.in_ok-push.ensures.items ∙ saves_push old (c.args.r, b) m
    ∙ sym (ap (λ l. places_saved l b c.args.r (after_saves old m)) c.if-lost.true)
