use Rattle.f_check.proofs.Resumes.{proj_refused, proj_missing, proj_given}
use Rattle.f_terms.specs.Ty.{TTuple, tys}
use Rattle.f_terms.specs.Read.{tree}
use Rattle.std.proofs.Common.{◌∙◌, ap, sym, map}
use Rattle.f_terms.proofs.Trees.{tree_Tuple}
use Rattle.f_check.proofs.Follows.{gone}
use Rattle.f_terms.specs.Mismatch.{WTuple, WField, odds}
use Rattle.f_check.proofs.resume.after_proj.Goals as goal

pub returns-in-Err-clause-goes : goal.returns-in-Err-clause-goes
returns-in-Err-clause-goes c =
    proj_refused c.args.term.now c.args.state.now c.args.part.ty c.args.part.span c.args.span c.args.i c.requires _ _ (
      c.odds-mismatch.result,
      c.refused.ensures,
      c.odds-mismatch.ensures ∙ ap (odds c.args.state.now.around WTuple)
          c.in-Err.ensures.0,
    )
    c.in-Err.ensures.1

pub returns-in-Ok-take_field-clause-goes : goal.returns-in-Ok-take_field-clause-goes
returns-in-Ok-take_field-clause-goes c =
    proj_given c.args.term.now c.args.state.now c.args.part.ty c.args.part.span c.args.span c.args.i c.requires
    (tys (map tree c.in-Ok.parts.items)) c.in-Ok-take_field.ty c.in-Ok.ensures c.in-Ok-take_field.ensures

pub returns-in-Err-take_field-clause-goes : goal.returns-in-Err-take_field-clause-goes
returns-in-Err-take_field-clause-goes c =
    proj_missing c.args.term.now c.args.state.now c.args.part.ty c.args.part.span c.args.span c.args.i c.requires
    (tys (map tree c.in-Ok.parts.items)) _ _ (
      c.odds-mismatch-in-Err-take_field.result,
      c.refused-in-Err-take_field.ensures,
      c.odds-mismatch-in-Err-take_field.ensures
          ∙ ap (odds c.args.state.now.around WField)
          (tree_Tuple c.in-Err-take_field.parts ∙ ap TTuple c.in-Err-take_field.ensures.0 ∙ sym c.in-Ok.ensures),
    )
    c.in-Ok.ensures c.in-Err-take_field.ensures.1

pub returns-in-Err-clause-frames : goal.returns-in-Err-clause-frames
returns-in-Err-clause-frames c = gone _ _ _ c.refused.ensures

pub returns-in-Err-take_field-clause-frames : goal.returns-in-Err-take_field-clause-frames
returns-in-Err-take_field-clause-frames c = gone _ _ _ c.refused-in-Err-take_field.ensures
