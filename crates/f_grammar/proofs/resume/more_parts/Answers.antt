use Rattle.std.proofs.Common.{[], ◌≡◌, slice_get, refl, sym, ◌∙◌, arith, Some}
use Rattle.f_grammar.proofs.Steps.{one_more, got_are}
use Rattle.f_grammar.proofs.Operands.{part_begun, parts_end}
use Rattle.f_grammar.specs.ReadsTerms.{argument_next}
use Rattle.f_grammar.specs.declared.heads.Argument.TheVariants.{Part}
use Rattle.f_grammar.proofs.resume.more_parts.Goals as goal

pub returns-in_ok-push-in-Some-Part-2 : goal.returns-in_ok-push-in-Some-Part-2
returns-in_ok-push-in-Some-Part-2 c =
    let x = c.requires in
    let e = c.in_ok-push-in-Some-Part.ensures in
    let f = c.in_ok-push-in-Some-Part-2.ensures in
    let a : argument_next (slice_get c.args.reader.now.tokens.now c.args.reader.now.at) ≡ Some Part = cc in
    let r = part_begun c.args.reader.now.tokens.now x.0 x.2 a e f (got_are x.0 x.1 [] x.3 x.4) in
    (refl, r, omega (arith, one_more _ _ _ e, one_more _ _ _ f))

pub returns-in-None : goal.returns-in-None
returns-in-None c =
    let x = c.requires in (
      refl,
      (
        x.0,
        x.2,
        parts_end c.args.reader.now.tokens.now (sym c.next_argument.ensures ∙ c.in-None.is)
            (got_are x.0 x.1 [] x.3 x.4),
      ),
      omega arith,
    )
