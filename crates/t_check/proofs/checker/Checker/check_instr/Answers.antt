use Rattle.std.proofs.Common.{sym, subst, ap, ◌∙◌, List}
use Rattle.t_types.specs.Read.{types}
use Rattle.t_types.specs.declared.types.TType.{TType}
use Rattle.t_terms.specs.Tree.{TInstr, Malloc}
use Rattle.t_terms.specs.Read.{instr}
use Rattle.t_terms.specs.ReadProgram.{program}
use Rattle.t_terms.specs.declared.instr.Instr.{Instr}
use Rattle.t_known.specs.Known.{known}
use Rattle.t_check.specs.Verdict.{IsStep}
use Rattle.t_check.proofs.checker.Checker.check_instr.Goals as goal

pub returns-in-Arith-clause-step : goal.returns-in-Arith-clause-step
returns-in-Arith-clause-step c =
    let P = program c.args.self.now.program.now in
    let k = c.args.self.now.registers in
    subst (λ (i : Instr). IsStep P c.check_arith.new.types k.names (known c.args.types.now k)
    c.check_arith.new.self.registers c.args.span (instr i) c.check_arith.result) (sym c.in-Arith.is)
    (c.check_arith.ensures.step c.in-Arith.op)

pub returns-in-Malloc-clause-step : goal.returns-in-Malloc-clause-step
returns-in-Malloc-clause-step c =
    let P = program c.args.self.now.program.now in
    let k = c.args.self.now.registers in
    let step = λ (i : TInstr). IsStep P c.check_malloc.new.types k.names (known c.args.types.now k)
    c.check_malloc.new.self.registers c.args.span i c.check_malloc.result in
    subst step (ap (λ (ts : List TType). Malloc c.in-Malloc.rd (types ts)) c.deref.ensures.value
    ∙ sym (ap instr c.in-Malloc.is)) (c.check_malloc.ensures.step c.args.span)

pub returns-in-Bnz-clause-step : goal.returns-in-Bnz-clause-step
returns-in-Bnz-clause-step c =
    let P = program c.args.self.now.program.now in
    let k = c.args.self.now.registers in
    subst (λ (i : Instr). IsStep P c.check_bnz.new.types k.names (known c.args.types.now k)
    c.check_bnz.new.self.registers c.args.span (instr i) c.check_bnz.result)
    (sym c.in-Bnz.is) c.check_bnz.ensures.step

pub returns-in-Ld-clause-step : goal.returns-in-Ld-clause-step
returns-in-Ld-clause-step c =
    let P = program c.args.self.now.program.now in
    let k = c.args.self.now.registers in
    subst (λ (i : Instr). IsStep P c.check_ld.new.types k.names (known c.args.types.now k)
    c.check_ld.new.self.registers c.args.span (instr i) c.check_ld.result) (sym c.in-Ld.is) c.check_ld.ensures.step

pub returns-in-Mov-clause-step : goal.returns-in-Mov-clause-step
returns-in-Mov-clause-step c =
    let P = program c.args.self.now.program.now in
    let k = c.args.self.now.registers in
    subst (λ (i : Instr). IsStep P c.check_mov.new.types k.names (known c.args.types.now k)
    c.check_mov.new.self.registers c.args.span (instr i) c.check_mov.result)
    (sym c.in-Mov.is) c.check_mov.ensures.step

pub returns-in-St-clause-step : goal.returns-in-St-clause-step
returns-in-St-clause-step c =
    let P = program c.args.self.now.program.now in
    let k = c.args.self.now.registers in
    subst (λ (i : Instr). IsStep P c.check_st.new.types k.names (known c.args.types.now k)
    c.check_st.new.self.registers c.args.span (instr i) c.check_st.result) (sym c.in-St.is) c.check_st.ensures.step

pub returns-in-Unpack-clause-step : goal.returns-in-Unpack-clause-step
returns-in-Unpack-clause-step c =
    let P = program c.args.self.now.program.now in
    let k = c.args.self.now.registers in
    subst (λ (i : Instr). IsStep P c.check_unpack.new.types k.names (known c.args.types.now k)
    c.check_unpack.new.self.registers c.args.span (instr i) c.check_unpack.result)
    (sym c.in-Unpack.is) c.check_unpack.ensures.step
