use Rattle.std.proofs.Common.{rules, ℕ, ◌≤◌, List, length, arith, subst}
use Rattle.idx_core.specs.declared.span.Span.{Span}
use Rattle.t_types.specs.Read.{file}
use Rattle.t_types.specs.declared.types.TType.{TType}
use Rattle.t_terms.specs.declared.instr.Instr.{Instr}
use Rattle.t_terms.specs.Read.{body, end_of}
use Rattle.t_terms.specs.Spanned.{seq_of}
use Rattle.assembly_rows.specs.FewNames.{FewInFile, FewInSeq}
use Rattle.assembly_rows.proofs.FewNames.{steps_of_body}
use Rattle.assembly_rows.proofs.tests.few_names.few_in_block.Goals as goal

pub returns : goal.returns
returns c = λ t.
    let n = steps_of_body c.args.block.now.body.items (end_of c.args.block.now.«end») in
    let few : length c.args.block.now.body.items ≤ 1000000 = search (arith, c.len.ensures, c.if-len-gt-LONGEST.false) in
    let regs = subst (λ (xs : List (ℕ × TType)). FewInFile 1000 (file xs)) c.deref.ensures.value
    (c.few_in_file.ensures.0 (search rules)) in
    let code = subst (λ (xs : List (Instr × Span)). FewInSeq 1000 (seq_of (body xs) (end_of c.args.block.now.«end»)))
    c.deref-2.ensures.value (c.few_in_code.ensures.0 t) in
    (search arith, regs, omega (arith, n, few), code)
