use Rattle.std.proofs.Common.{true≢false, ap, sym, ◌∙◌, refl, subst}
use Rattle.f_terms.specs.Read.{tree}
use Rattle.f_check.specs.Told.{IsPutOrNone}
use Rattle.f_check.proofs.Resumes.{pack_fits, pack_large, pack_refused, pack_given}
use Rattle.f_terms.specs.Mismatch.{WType, odds}
use Rattle.f_check.proofs.resume.after_pack.Goals as goal

pub put_or_none-requires-clause-fits : goal.put_or_none-requires-clause-fits
put_or_none-requires-clause-fits c =
    pack_fits c.args.term.now c.args.state.now c.args.part.ty c.args.part.span c.args.packing c.requires

pub returns-in-None-clause-goes : goal.returns-in-None-clause-goes
returns-in-None-clause-goes c =
    pack_large c.args.term.now c.args.state.now c.args.part.ty c.args.part.span c.args.packing c.requires _ _
    c.refused.ensures
    (subst (IsPutOrNone (tree c.args.packing.hidden.now) (tree c.args.packing.body.now)) c.in-None.is
    c.in_ok-wanted.ensures)

pub returns-then-not-eq-clause-goes : goal.returns-then-not-eq-clause-goes
returns-then-not-eq-clause-goes c =
    let made = subst (IsPutOrNone (tree c.args.packing.hidden.now) (tree c.args.packing.body.now)) c.in-Some.is
    c.in_ok-wanted.ensures in
    pack_refused c.args.term.now c.args.state.now c.args.part.ty c.args.part.span c.args.packing c.requires _ _ (
      c.odds-mismatch.result,
      c.refused-then-not-eq.ensures,
      c.odds-mismatch.ensures
          ∙ ap (λ t. odds c.args.state.now.around (WType t) (tree c.args.part.ty)) made.0,
    )
    (λ e. absurd (true≢false (sym (c.if-not-eq.ensures.1 (e ∙ sym made.0))))) made.1

pub returns-clause-goes : goal.returns-clause-goes
returns-clause-goes c =
    let made = subst (IsPutOrNone (tree c.args.packing.hidden.now) (tree c.args.packing.body.now)) c.in-Some.is
    c.in_ok-wanted.ensures in
    pack_given c.args.term.now c.args.state.now c.args.part.ty c.args.part.span c.args.packing c.requires c.in_ok-ty.ty
    (c.if-not-eq.ensures.0 refl ∙ made.0) c.in_ok-ty.ensures
