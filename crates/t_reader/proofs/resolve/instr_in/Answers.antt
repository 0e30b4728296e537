use Rattle.std.proofs.Common.{refl, ◌∙◌}
use Rattle.std.proofs.lemmas.Result.{err_from_is_err_and}
use Rattle.t_reader.proofs.resolve.instr_in.Goals as goal

pub returns-in_err-v-in-Arith : goal.returns-in_err-v-in-Arith
returns-in_err-v-in-Arith c =
    let p = err_from_is_err_and c.from_residual.result c.from_residual.ensures.1 in
    rw (p.1, p.2) (rw c.in-Arith.is c.in_err-v-in-Arith.ensures)

pub returns-in_ok-v-in-Arith : goal.returns-in_ok-v-in-Arith
returns-in_ok-v-in-Arith c =
    let r = c.in_ok-v-in-Arith.ensures in rw (c.in-Arith.is, r.2) (r.0, r.1, refl)

pub returns-in_err-v-in-Bnz : goal.returns-in_err-v-in-Bnz
returns-in_err-v-in-Bnz c =
    let p = err_from_is_err_and c.from_residual-in_err-v-in-Bnz.result c.from_residual-in_err-v-in-Bnz.ensures.1 in
    rw (p.1, p.2) (rw c.in-Bnz.is c.in_err-v-in-Bnz.ensures)

pub returns-in_ok-v-in-Bnz : goal.returns-in_ok-v-in-Bnz
returns-in_ok-v-in-Bnz c =
    let r = c.in_ok-v-in-Bnz.ensures in rw (c.in-Bnz.is, r.2) (r.0, r.1, refl)

pub returns-in_err-v-in-Mov : goal.returns-in_err-v-in-Mov
returns-in_err-v-in-Mov c =
    let p = err_from_is_err_and c.from_residual-in_err-v-in-Mov.result c.from_residual-in_err-v-in-Mov.ensures.1 in
    rw (p.1, p.2) (rw c.in-Mov.is c.in_err-v-in-Mov.ensures)

pub returns-in_ok-v-in-Mov : goal.returns-in_ok-v-in-Mov
returns-in_ok-v-in-Mov c =
    let r = c.in_ok-v-in-Mov.ensures in rw (c.in-Mov.is, r.2) (r.0, r.1, refl)

pub returns-in_err-v-in-Unpack : goal.returns-in_err-v-in-Unpack
returns-in_err-v-in-Unpack c =
    let p =
    err_from_is_err_and c.from_residual-in_err-v-in-Unpack.result c.from_residual-in_err-v-in-Unpack.ensures.1 in
    rw (p.1, p.2) (rw c.in-Unpack.is c.in_err-v-in-Unpack.ensures)

pub returns-in_ok-push-in-Unpack : goal.returns-in_ok-push-in-Unpack
returns-in_ok-push-in-Unpack c =
    let r = c.in_ok-v-in-Unpack.ensures in
    rw (c.in-Unpack.is, r.2) (c.in_ok-push-in-Unpack.ensures.pushed ∙ rw (c.spelling.ensures, r.0) refl, r.1, refl)

pub returns-in_err-types-in-Malloc : goal.returns-in_err-types-in-Malloc
returns-in_err-types-in-Malloc c =
    let p = err_from_is_err_and c.from_residual-in_err-types-in-Malloc.result
    c.from_residual-in_err-types-in-Malloc.ensures.1 in
    rw (p.1, p.2) (rw (c.in-Malloc.is, ← c.deref.ensures.value) c.in_err-types-in-Malloc.ensures)

pub returns-in_ok-types-in-Malloc : goal.returns-in_ok-types-in-Malloc
returns-in_ok-types-in-Malloc c =
    let r = c.in_ok-types-in-Malloc.ensures in rw (c.in-Malloc.is, ← c.deref.ensures.value, r.2) (r.0, r.1, refl)

pub returns-in-Ld : goal.returns-in-Ld
returns-in-Ld c =
    rw c.in-Ld.is (refl, refl, refl)

pub returns-in-St : goal.returns-in-St
returns-in-St c =
    rw c.in-St.is (refl, refl, refl)
