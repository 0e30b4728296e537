use Rattle.std.proofs.Common.{arith}
use Rattle.std.proofs.lemmas.Result.{err_from_is_err_and}
use Rattle.f_terms.specs.Ty.{TArrow}
use Rattle.f_terms.specs.Tm.{SFix}
use Rattle.f_terms.specs.Read.{tree, place}
use Rattle.f_terms.specs.ReadTerm.{node_at}
use Rattle.f_check.specs.Walk.{now, context, FaultOf}
use Rattle.f_check.proofs.Forms.{tells_map, limits_of, within, fix_limit}
use Rattle.f_check.proofs.Steps.{fails}
use Rattle.f_check.proofs.Begins.{fix_enters}
use Rattle.std.proofs.Common.{refl}
use Rattle.f_check.proofs.Follows.{begun}
use Rattle.f_check.specs.declared.frame.Frame.TheVariants as C
use Rattle.f_terms.specs.declared.node.FShape.TheVariants as S
use Rattle.f_check.proofs.begin.begin_fix.Goals as goal

pub returns-in_err-limit-clause-goes : goal.returns-in_err-limit-clause-goes
returns-in_err-limit-clause-goes c =
    let q = err_from_is_err_and c.from_residual.result c.from_residual.ensures.1 in
    let f = c.args.term.now in
    let e = c.in_err-limit.field-0.0 in
    let a = tree c.args.head.arg.now in
    let r = tree c.args.head.res.now in
    let w = now c.args.state.now (SFix (place c.args.head.span) a r (node_at f c.args.body)) in
    rw (q.1, q.2) (fails f c.args.state.now w c.requires.opens.1 e
    (tells_map e _ (FaultOf w)
    (λ d p h. fix_limit w.around (context w) (place c.args.head.span) a r (node_at f c.args.body) d p
    (limits_of (TArrow a r) _ _ (place c.args.head.span)
    (omega (arith, c.saturating_add-deep.ensures, c.max.ensures, c.depth.ensures, c.depth-2.ensures))
    (omega (arith, c.saturating_add-wide.ensures, c.saturating_add.ensures, c.size.ensures, c.size-2.ensures)) d p h))
    c.in_err-limit.ensures.fault))

pub enter-requires : goal.enter-requires
enter-requires c =
    let w = within (TArrow (tree c.args.head.arg.now) (tree c.args.head.res.now)) _ _
    (omega (arith, c.saturating_add-deep.ensures, c.max.ensures, c.depth.ensures, c.depth-2.ensures))
    (omega (arith, c.saturating_add-wide.ensures, c.saturating_add.ensures, c.size.ensures, c.size-2.ensures))
    c.in_ok-limit.ensures.ok in
    fix_enters c.args.term.now c.args.state.now c.args.head c.args.body c.bind_function.new.scope c.requires.opens
    c.requires.inside w c.in_ok-bind_function.ensures

pub returns-clause-frames : goal.returns-clause-frames
returns-clause-frames c =
    begun _ (S.Fix c.args.head.arg.now c.args.head.res.now c.args.body) _ _ (C.Fix c.args.head) c.args.body
    c.enter.ensures.frames (c.args.body, c.args.head.arg.now, c.args.head.res.now, refl, refl, refl) refl
