use Rattle.std.proofs.Common.{◌∙◌, ◌-◌, arith, ap, Some}
use Rattle.a_terms.specs.Tree as a
use Rattle.a_terms.specs.Read.{atree, atrees}
use Rattle.a_terms.specs.ReadLaws.{a_code}
use Rattle.a_terms.proofs.Fields.{applied_one}
use Rattle.a_terms.proofs.parts.apply_code.Goals as goal

pub returns : goal.returns
returns c = ap Some (a_code (c.args.owes - 1) c.in_ok-made.made ∙ ap (a.ACode (c.args.owes - 1)) c.in_ok-made.ensures)
    ∙ applied_one c.args.owes (c.args.owes - 1) (atrees c.args.args.now) (atree c.args.t.now)
    (omega (arith, c.if-owes-eq0.false))
