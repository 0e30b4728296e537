use Rattle.std.proofs.Common.{◌∙◌, ap, [], length}
use Rattle.a_scope.specs.Scope.{scope}
use Rattle.a_terms.specs.Program.{program_in}
use Rattle.a_terms.specs.Read.{atrees}
use Rattle.a_terms.specs.Tree.{arity}
use Rattle.a_terms.specs.Typing.{types_of}
use Rattle.a_notation.proofs.ProgramTexts.{block_done}
use Rattle.a_notation.proofs.program.write_block.Goals as goal

pub returns : goal.returns
returns c =
    let vars = c.in_ok-vars.vars.items in
    let same = c.deref-2.ensures.value in
    block_done c.args.of.typed (program_in c.args.of.program.now) c.args.label c.args.block.now _ _
    (scope c.args.block.now.owes vars) (length vars) _ _ _ _ c.deref.ensures.value c.deref-3.ensures.value
    (c.in_ok-vars.ensures.scope ∙ ap (λ xs. types_of (atrees xs) []) same)
    (c.in_ok-vars.ensures.long ∙ ap (λ xs. arity (atrees xs)) same) c.in_ok-write_head.ensures
    c.in_ok-write_term.ensures c.in_ok-extend_from_slice.ensures.items
