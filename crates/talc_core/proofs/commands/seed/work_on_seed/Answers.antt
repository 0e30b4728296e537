use Rattle.std.proofs.Common.{◌≡◌, ◌∙◌, ℤ, ℕ, List, length, sym, subst, ap₂, rules, to_z, of_z, w64}
use Rattle.t_terms.specs.ReadProgram.{spanned_program}
use Rattle.t_check.specs.Checked.{checked_program}
use Rattle.f_seeds.specs.Source.{source}
use Rattle.talc_core.specs.FirstFault.{AnAssembly, IsAcceptedText, IsTaken}
use Rattle.talc_core.specs.Lines.{seed_lines}
use Rattle.talc_core.proofs.SeedLemmas.{target_taken, soon, shown}
use Rattle.talc_core.proofs.commands.seed.work_on_seed.Goals as goal

pub check_target-requires : goal.check_target-requires
check_target-requires c =
    let target = c.in_ok-target.target.items in
    subst (λ (t : List ℕ). IsTaken AnAssembly t) (sym c.deref.ensures.value)
    (target_taken (source c.args.seed) target c.in_ok-target.ensures.compiled)

pub halting_value-requires-clause-soon : goal.halting_value-requires-clause-soon
halting_value-requires-clause-soon c =
    let target = c.in_ok-target.target.items in
    let evaluation = c.in_ok-evaluation.evaluation in
    let program = spanned_program (checked_program c.in_ok-program.program) in
    let accepted = subst (λ (t : List ℕ). IsAcceptedText t program) c.deref.ensures.value c.in_ok-program.ensures in
    soon c.texts_keep_laws.ensures c.args.seed target c.in_ok-target.ensures.compiled evaluation.value evaluation.used
    c.in_ok-evaluation.ensures program accepted

pub returns : goal.returns
returns c =
    let target = c.in_ok-target.target.items in
    let evaluation = c.in_ok-evaluation.evaluation in
    let program = spanned_program (checked_program c.in_ok-program.program) in
    let accepted = subst (λ (t : List ℕ). IsAcceptedText t program) c.deref.ensures.value c.in_ok-program.ensures in
    let value_same : to_z w64 (of_z w64 evaluation.value) ≡ evaluation.value = search rules in
    let halted_same : to_z w64 (of_z w64 c.in_ok-halted.halted) ≡ c.in_ok-halted.halted = search rules in
    let lines = c.in_ok-lines.ensures
    ∙ ap₂ (λ (i j : ℤ). seed_lines (length c.args.text.now) i evaluation.used j) value_same halted_same in
    shown c.texts_keep_laws.ensures c.one_answer.ensures c.args.seed target c.in_ok-target.ensures evaluation.value
    evaluation.used c.in_ok-evaluation.ensures program accepted c.in_ok-halted.halted c.in_ok-halted.ensures
    c.args.text.now c.in_ok-lines.lines.items c.requires lines
