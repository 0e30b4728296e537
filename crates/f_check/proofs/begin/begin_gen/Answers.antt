use Rattle.f_check.proofs.Begins.{gen_enters}
use Rattle.std.proofs.Common.{refl}
use Rattle.f_check.proofs.Follows.{begun}
use Rattle.f_check.specs.declared.frame.Frame.TheVariants as C
use Rattle.f_terms.specs.declared.node.FShape.TheVariants as S
use Rattle.f_check.proofs.begin.begin_gen.Goals as goal

pub enter-requires : goal.enter-requires
enter-requires c =
    gen_enters c.args.term.now c.args.state.now c.args.span c.args.body c.requires.opens c.requires.inside

pub returns-clause-frames : goal.returns-clause-frames
returns-clause-frames c =
    begun _ (S.Gen c.args.body) _ _ (C.Gen c.args.span) c.args.body c.enter.ensures.frames (c.args.body, refl) refl
