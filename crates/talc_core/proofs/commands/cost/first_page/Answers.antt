use Rattle.std.proofs.Common.{ℕ, List, ◌∙◌, ap}
use Rattle.t_terms.specs.ReadProgram.{spanned_program}
use Rattle.t_terms.specs.declared.program.TProgram.{TProgram}
use Rattle.t_check.specs.Checked.{checked_program}
use Rattle.cost_page.specs.Page.{page}
use Rattle.talc_core.proofs.commands.cost.first_page.Goals as goal

pub returns : goal.returns
returns c =
    let x = c.args.counted.now in
    c.in_ok-lines.ensures
    ∙ ap (λ (q : TProgram). page c.args.text.now (spanned_program q) c.args.steps x.index c.deref.result.now)
    c.program-tree.ensures.same
    ∙ ap (λ (counts : List ℕ). page c.args.text.now (spanned_program (checked_program c.args.program.now)) c.args.steps
    x.index counts) c.deref.ensures.value
