use Rattle.std.proofs.Common.{◌∙◌, ap, [], length}
use Rattle.c_terms.specs.C.{ccount}
use Rattle.c_terms.specs.Read.{ctys}
use Rattle.c_terms.specs.Typing.{cargs_onto}
use Rattle.h_terms.specs.Nodes.{h_blocks}
use Rattle.let_types.specs.Names.{scope}
use Rattle.h_notation.proofs.ProgramTexts.{block_done}
use Rattle.h_notation.proofs.program.write_block.Goals as goal

pub returns : goal.returns
returns c =
    let names = c.in_ok-names.names.items in
    let same = c.deref-2.ensures.value in
    block_done c.args.of.typed (h_blocks c.args.of.blocks.now) c.args.label c.args.block.now _ _
    (scope c.args.block.now.owes names) (length names) _ _ _ _ c.deref.ensures.value c.deref-3.ensures.value
    (λ shows. c.in_ok-names.ensures.scope shows ∙ ap (λ xs. cargs_onto (ctys xs) []) same)
    (c.in_ok-names.ensures.long ∙ ap (λ xs. ccount (ctys xs)) same) c.in_ok-write_head.ensures
    c.in_ok-write_term.ensures c.in_ok-extend_from_slice.ensures.items
