use Rattle.std.proofs.lemmas.Result.{err_from_is_err_and}
use Rattle.talc_core.proofs.AssemblyLemmas.{refused}
use Rattle.talc_core.proofs.assembly.check_assembly.Goals as goal

pub returns-in_err-checked : goal.returns-in_err-checked
returns-in_err-checked c =
    let q = err_from_is_err_and c.from_residual-in_err-checked.result c.from_residual-in_err-checked.ensures.1 in
    rw q.1 (refused c.args.text.now c.in_ok-program.program c.in_err-checked.field-0.0.1 q.0
    c.in_ok-program.ensures.right c.in_err-checked.ensures.right.1 q.2)
