use Rattle.std.proofs.Common.{◌∙◌}
use Rattle.a_laws.specs.Allocate.{is_some}
use Rattle.a_pass.specs.Scope.{constant_in, knowns}
use Rattle.a_pass.specs.declared.state.Seen.{Seen}
use Rattle.a_pass.proofs.Every.{constants_every, every_all, every_next, every_not}
use Rattle.a_pass.proofs.constants.all_constants.Goals as goal

pub loop-one-preserved : goal.loop-one-preserved
loop-one-preserved c =
    every_next (λ (s : Seen). is_some (constant_in (knowns c.args.names.now) s)) c.args.seen.now c.loop-one.one-index
    c.one-item.result c.loop-one-test.true c.one-item.is c.loop-one.invariant c.if-not-is_constant.ensures

pub returns-then-not-is_constant : goal.returns-then-not-is_constant
returns-then-not-is_constant c =
    every_not (λ (s : Seen). is_some (constant_in (knowns c.args.names.now) s)) c.args.seen.now c.loop-one.one-index
    c.one-item.result c.loop-one-test.true c.one-item.is c.if-not-is_constant.ensures
    ∙ constants_every (knowns c.args.names.now) c.args.seen.now

pub returns : goal.returns
returns c = every_all (λ (s : Seen). is_some (constant_in (knowns c.args.names.now) s)) c.args.seen.now
    c.loop-one.one-index c.loop-one-test.false c.loop-one.invariant
    ∙ constants_every (knowns c.args.names.now) c.args.seen.now
