use Rattle.std.proofs.Common.{◌∙◌, ap, refl}
use Rattle.std.proofs.lemmas.Result.{err_from_is_err_and}
use Rattle.f_terms.specs.Tm.{SPack}
use Rattle.f_terms.specs.Read.{tree, place}
use Rattle.f_terms.specs.ReadTerm.{node_at}
use Rattle.f_terms.specs.declared.fault.Code.TheVariants.{E16}
use Rattle.f_terms.specs.declared.node.FShape.TheVariants as S
use Rattle.f_check.specs.Walk.{now, context, FaultOf}
use Rattle.f_check.specs.declared.frame.Frame.TheVariants as C
use Rattle.f_check.proofs.Forms.{tells_map, limits_of, within, pack_shape, pack_hidden, pack_limit}
use Rattle.f_check.proofs.Steps.{fails}
use Rattle.f_check.proofs.Begins.{pack_enters}
use Rattle.f_check.proofs.Resumes.{refused}
use Rattle.f_check.proofs.Follows.{begun}
use Rattle.f_terms.specs.Mismatch.{WPackage, odds}
use Rattle.f_check.proofs.begin.begin_pack.Goals as goal

pub returns-in-None-clause-goes : goal.returns-in-None-clause-goes
returns-in-None-clause-goes c =
    let e = (SPack (place c.args.written.span) (tree c.args.written.hidden.now) (node_at c.args.term.now c.args.inner)
    (tree c.args.written.shape.now)) in
    let w = now c.args.state.now e in
    refused c.args.term.now c.args.state.now w c.requires.opens.1 e c.args.state.now E16 c.args.written.span
    c.odds.result (odds w.around WPackage (tree c.args.written.shape.now)) _ _
    c.refused.ensures (c.odds.ensures ∙ ap (odds w.around WPackage) c.in_ok-found-in-None.ensures) refl
    (pack_shape w.around (context w) (place c.args.written.span) (tree c.args.written.hidden.now)
    (tree c.args.written.shape.now) (node_at c.args.term.now c.args.inner) c.in-None.ensures)

pub returns-in_err-limit-clause-goes : goal.returns-in_err-limit-clause-goes
returns-in_err-limit-clause-goes c =
    let q = err_from_is_err_and c.from_residual-in_err-limit.result c.from_residual-in_err-limit.ensures.1 in
    let x = c.in_err-limit.field-0.0 in
    let h = tree c.args.written.hidden.now in
    let w = now c.args.state.now (SPack (place c.args.written.span) (tree c.args.written.hidden.now)
    (node_at c.args.term.now c.args.inner) (tree c.args.written.shape.now)) in
    rw (q.1, q.2) (fails c.args.term.now c.args.state.now w c.requires.opens.1 x
    (tells_map x _ (FaultOf w)
    (λ d p k. pack_hidden w.around (context w) (place c.args.written.span) h (tree c.args.written.shape.now)
    (tree c.in-Some.body.now) (node_at c.args.term.now c.args.inner) c.in-Some.ensures d p
    (limits_of h _ _ (place c.args.written.span) c.depth.ensures c.size.ensures d p k))
    c.in_err-limit.ensures.fault))

pub returns-in_err-limit-2-clause-goes : goal.returns-in_err-limit-2-clause-goes
returns-in_err-limit-2-clause-goes c =
    let q = err_from_is_err_and c.from_residual-in_err-limit-2.result c.from_residual-in_err-limit-2.ensures.1 in
    let x = c.in_err-limit-2.field-0.0 in
    let h = tree c.args.written.hidden.now in
    let r = tree c.args.written.shape.now in
    let w = now c.args.state.now (SPack (place c.args.written.span) (tree c.args.written.hidden.now)
    (node_at c.args.term.now c.args.inner) (tree c.args.written.shape.now)) in
    rw (q.1, q.2) (fails c.args.term.now c.args.state.now w c.requires.opens.1 x
    (tells_map x _ (FaultOf w)
    (λ d p k. pack_limit w.around (context w) (place c.args.written.span) h r (tree c.in-Some.body.now)
    (node_at c.args.term.now c.args.inner) c.in-Some.ensures
    (within h _ _ c.depth.ensures c.size.ensures c.in_ok-limit.ensures.ok) d p
    (limits_of r _ _ (place c.args.written.span) c.depth-2.ensures c.size-2.ensures d p k))
    c.in_err-limit-2.ensures.fault))

pub enter-requires : goal.enter-requires
enter-requires c =
    pack_enters c.args.term.now c.args.state.now
    (record {
      span = c.args.written.span;
      hidden = c.args.written.hidden;
      body = c.in-Some.body;
      shape = c.args.written.shape;
    })
    c.args.inner c.requires.opens c.requires.inside c.in-Some.ensures
    (within (tree c.args.written.hidden.now) _ _ c.depth.ensures c.size.ensures c.in_ok-limit.ensures.ok)
    (within (tree c.args.written.shape.now) _ _ c.depth-2.ensures c.size-2.ensures c.in_ok-limit-2.ensures.ok)

pub returns-clause-frames : goal.returns-clause-frames
returns-clause-frames c =
    begun _ (S.Pack c.args.written.hidden.now c.args.inner c.args.written.shape.now) _ _
    (C.Pack (record {
      span = c.args.written.span;
      hidden = c.args.written.hidden;
      body = c.in-Some.body;
      shape = c.args.written.shape;
    })) c.args.inner c.enter.ensures.frames
    (c.args.inner, c.args.written.hidden.now, c.args.written.shape.now, refl) refl
