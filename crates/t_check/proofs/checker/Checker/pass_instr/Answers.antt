use Rattle.std.proofs.Common.{subst, None}
use Rattle.std.proofs.Math.Logic.{∥∥₁_elim}
use Rattle.t_terms.specs.Read.{instr}
use Rattle.t_rules.specs.Mismatch.{told}
use Rattle.t_rules.specs.Faults.{InstrFaultWith}
use Rattle.t_known.specs.Refusals.{SaysWith, odds_at}
use Rattle.t_check.specs.Verdict.{program_in, known_at}
use Rattle.t_known.specs.declared.refusal.Refusal.{Refusal}
use Rattle.t_check.proofs.checker.Checker.pass_instr.Goals as goal

pub unreachable-requires : goal.unreachable-requires
unreachable-requires c =
    let k = c.args.self.now in
    let P = program_in k in
    let n = k.registers.names in
    let g = known_at c.args.types.now k in
    let i = instr c.args.i.now in
    let s = c.args.span in
    let none : IsProp ⊥ = hlevel in
    let code = c.in-Err-Refused.field-0-0 in
    let span = c.in-Err-Refused.field-0-1 in
    let fault = subst (λ (f : Refusal). SaysWith c.check_instr.new.types f (InstrFaultWith P n g s i))
    c.in-Err-Refused.field-0-is
    c.in-Err-Refused.ensures.step in
    ∥∥₁_elim c.requires.typed none
    (λ t. c.no_fault_where_typed.ensures P n g i t.0 s code span t.1 (None, fault))

pub unreachable-requires-in-Err-AtOdds : goal.unreachable-requires-in-Err-AtOdds
unreachable-requires-in-Err-AtOdds c =
    let k = c.args.self.now in
    let P = program_in k in
    let n = k.registers.names in
    let g = known_at c.args.types.now k in
    let i = instr c.args.i.now in
    let s = c.args.span in
    let none : IsProp ⊥ = hlevel in
    let code = c.in-Err-AtOdds.field-0-0 in
    let span = c.in-Err-AtOdds.field-0-1 in
    let odds = c.in-Err-AtOdds.field-0-2 in
    let fault = subst (λ (f : Refusal). SaysWith c.check_instr.new.types f (InstrFaultWith P n g s i))
    c.in-Err-AtOdds.field-0-is
    c.in-Err-AtOdds.ensures.step in
    ∥∥₁_elim c.requires.typed none
    (λ t. c.no_fault_where_typed.ensures P n g i t.0 s code span t.1
    (told (odds_at c.check_instr.new.types odds), fault.1))
