use Rattle.std.proofs.Common.{◌≡◌, ◌∙◌, ap, arith, subst, sym, Some}
use Rattle.idx_core.specs.Laws.{shift_zero_law}
use Rattle.a_terms.specs.TreeLaws.{a_over}
use Rattle.a_terms.specs.Tree.{ashift}
use Rattle.c_terms.specs.Read.{ctree}
use Rattle.a_terms.specs.Typing.{body_of}
use Rattle.a_laws.specs.Allocate.{atype}
use Rattle.a_pass.specs.Scope.{NotesType}
use Rattle.a_pass.proofs.Terms.{shown_now}
use Rattle.a_pass.proofs.noting.lent_or_made.Goals as goal

pub returns-then-by-eq0 : goal.returns-then-by-eq0
returns-then-by-eq0 c =
    let body = body_of (Some (atype (ctree c.args.t.now))) in
    let zero : c.args.by ≡ 0 = omega (arith, c.if-by-eq0.true) in (
      shown_now c.args.after _ ∙ c.lent_body.ensures
          ∙ sym (ap (λ k. ashift k 1 body) zero ∙ shift_zero_law a_over 1 body),
      omega arith,
    )

pub returns : goal.returns
returns c = subst (λ t. NotesType c.args.after t c.made_now.result) c.in_ok-made.ensures c.made_now.ensures
