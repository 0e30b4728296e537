use Rattle.std.proofs.Common.{refl}
use Rattle.std.proofs.lemmas.Result.{err_from_is_err_and}
use Rattle.t_reader.proofs.resolve.end_in.Goals as goal

pub returns-in_err-v-in-Jmp : goal.returns-in_err-v-in-Jmp
returns-in_err-v-in-Jmp c =
    let p = err_from_is_err_and c.from_residual.result c.from_residual.ensures.1 in
    rw (p.1, p.2) (rw c.in-Jmp.is c.in_err-v-in-Jmp.ensures)

pub returns-in_ok-v-in-Jmp : goal.returns-in_ok-v-in-Jmp
returns-in_ok-v-in-Jmp c =
    let r = c.in_ok-v-in-Jmp.ensures in rw (c.in-Jmp.is, r.2) (r.1, refl)

pub returns-in-Halt : goal.returns-in-Halt
returns-in-Halt c =
    rw c.in-Halt.is (refl, refl)
