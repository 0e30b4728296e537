use Rattle.std.specs.Prelude.{Result}
use Rattle.std.proofs.Common.{◌≡◌, ◌∙◌, ap, sym, subst, inr, Err}
use Rattle.std.proofs.lemmas.Result.{err_from_is_err_and}
use Rattle.f_terms.specs.Tm.{Spn}
use Rattle.f_terms.specs.declared.types.FType.{FType}
use Rattle.f_check.specs.declared.failure.Failure.{Failure}
use Rattle.f_check.specs.Told.{IsPut}
use Rattle.f_terms.specs.Ty.{Ty, put}
use Rattle.text_core.specs.Refusals.{nothing}
use Rattle.f_terms.specs.Faults.{limits}
use Rattle.f_terms.specs.Read.{tree, place}
use Rattle.f_check.proofs.Puts.{depth_made, size_made}
use Rattle.f_check.proofs.Forms.{within, limits_of, limits_then, tells_map}
use Rattle.f_check.proofs.put.put_within.Goals as goal

-- a fault that is passed on
passed : (s t : Ty) (p : Spn) (r : Result FType Failure) (e f : Failure) → r ≡ Err e → e ≡ f → IsPut s t p (Err f) →
    IsPut s t p r
passed s t p r e f q k h = subst (IsPut s t p) (sym (q ∙ ap (λ x. Err x) k)) h

pub returns-in_err-limit : goal.returns-in_err-limit
returns-in_err-limit c =
    let r = err_from_is_err_and c.from_residual.result c.from_residual.ensures.1 in
    let s = tree c.args.what.now in
    let t = tree c.args.body.now in
    let p = place c.args.span in
    let e = c.in_err-limit.field-0.0 in
    passed s t p c.from_residual.result r.0 e r.1 r.2
    (tells_map e _ (limits s p (limits (put 0 s t) p nothing))
    (λ d q h. limits_then s p (limits (put 0 s t) p nothing) d q
    (limits_of s _ _ p c.depth-deep.ensures c.size-wide.ensures d q h)) c.in_err-limit.ensures.fault)

pub returns-in_err-limit-2 : goal.returns-in_err-limit-2
returns-in_err-limit-2 c =
    let r = err_from_is_err_and c.from_residual-in_err-limit-2.result c.from_residual-in_err-limit-2.ensures.1 in
    let s = tree c.args.what.now in
    let t = tree c.args.body.now in
    let p = place c.args.span in
    let w = within s c.depth-deep.result c.size-wide.result c.depth-deep.ensures c.size-wide.ensures
    c.in_ok-limit.ensures.ok in
    let e = c.in_err-limit-2.field-0.0 in
    passed s t p c.from_residual-in_err-limit-2.result r.0 e r.1 r.2
    (tells_map e _ (limits s p (limits (put 0 s t) p nothing))
    (λ d q h. inr (
      w.0,
      inr (
        w.1,
        limits_of (put 0 s t) _ _ p
            (depth_made s t c.depth-deep.result _ c.depth-deep.ensures c.in_ok-limit.ensures.ok.0
            c.put_depth-made_deep.ensures)
            (size_made s t c.size-wide.result _ c.size-wide.ensures c.in_ok-limit.ensures.ok.1
            c.put_size-made_wide.ensures) d q h,
      ),
    ))
    c.in_err-limit-2.ensures.fault)

pub returns : goal.returns
returns c =
    let s = tree c.args.what.now in
    let t = tree c.args.body.now in (
      c.in_ok-put.ensures,
      within s c.depth-deep.result c.size-wide.result c.depth-deep.ensures c.size-wide.ensures c.in_ok-limit.ensures.ok,
      within (put 0 s t) c.put_depth-made_deep.result c.put_size-made_wide.result
          (depth_made s t c.depth-deep.result _ c.depth-deep.ensures c.in_ok-limit.ensures.ok.0
          c.put_depth-made_deep.ensures)
          (size_made s t c.size-wide.result _ c.size-wide.ensures c.in_ok-limit.ensures.ok.1
          c.put_size-made_wide.ensures)
          c.in_ok-limit-2.ensures.ok,
    )
