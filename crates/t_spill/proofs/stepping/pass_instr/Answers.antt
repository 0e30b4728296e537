use Rattle.std.proofs.Common.{length, subst, ◌++◌, arith}
use Rattle.t_types.specs.Read.{file}
use Rattle.t_terms.specs.Read.{instr}
use Rattle.t_spill_rules.specs.Spill.{reads, numbers}
use Rattle.t_spill.specs.Wants.{Tells}
use Rattle.t_spill.proofs.Onward.{drop_front, length_front}
use Rattle.t_spill.proofs.Beside.{passed_front, front_within}
use Rattle.t_spill.proofs.stepping.pass_instr.Goals as goal
use Rattle.t_spill_code.proofs.Gathered.{count_numbers}

pub pass-requires : goal.pass-requires
pass-requires c =
    let h = c.requires in
    let rs = reads (instr c.args.i.now) in
    let ns = numbers (file c.args.entered.now) in
    (_, h.1, front_within rs ns h.0 c.count_instr.result c.count_instr.ensures)

pub pass-requires-2 : goal.pass-requires-2
pass-requires-2 c =
    let h = c.requires in
    let rs = reads (instr c.args.i.now) in
    let ns = numbers (file c.args.entered.now) in
    let n = c.count_instr.result in
    let within = front_within rs ns h.0 n c.count_instr.ensures in
    let passed = subst (Tells c.pass.new.self) (passed_front rs ns h.0 n c.count_instr.ensures)
    (c.pass.ensures _ within h.1) in
    let a = length_front ns h.0 in
    let b = count_numbers c.args.entered.now in
    (ns ++ h.0, passed, omega (arith, a, b))

pub returns : goal.returns
returns c = λ ws told.
    let rs = reads (instr c.args.i.now) in
    let ns = numbers (file c.args.entered.now) in
    let n = c.count_instr.result in
    let within = front_within rs ns ws n c.count_instr.ensures in
    let passed = subst (Tells c.pass.new.self) (passed_front rs ns ws n c.count_instr.ensures)
    (c.pass.ensures _ within told) in
    let a = length_front ns ws in
    let b = count_numbers c.args.entered.now in
    subst (Tells c.pass-2.new.self) (drop_front ns ws (length c.args.entered.now) (omega (arith, b)))
    (c.pass-2.ensures (ns ++ ws) (omega (arith, a, b)) passed)
