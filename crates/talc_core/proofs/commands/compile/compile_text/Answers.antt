use Rattle.f_terms.specs.ReadTerm.{spanned}
use Rattle.f_check.specs.Typed.{program_term}
use Rattle.t_check.specs.Checked.{checked_program}
use Rattle.talc_core.proofs.CompileLemmas.{compiled_text}
use Rattle.talc_core.proofs.WrittenLemmas.{written}
use Rattle.talc_core.proofs.commands.compile.compile_text.Goals as goal

pub returns : goal.returns
returns c =
    let target = c.in_ok-target.target.items in
    let term = spanned (program_term c.in_ok-program.program) in
    let made = checked_program c.in_ok-compiled.compiled in
    let text = written target made _ c.program.ensures.same c.in_ok-compiled.ensures.shallow
    c.in_ok-target.ensures.same c.in_ok-target.ensures.reads in
    compiled_text c.args.source.now target term made c.in_ok-program.ensures text c.in_ok-compiled.ensures.compiled
    c.in_ok-compiled.ensures.made c.in_ok-compiled.ensures.work c.in_ok-compiled.ensures.weights
