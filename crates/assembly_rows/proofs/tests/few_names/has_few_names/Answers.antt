use Rattle.std.proofs.Common.{List, subst}
use Rattle.t_terms.specs.Read.{blocks_of, data_of}
use Rattle.t_terms.specs.ReadProgram.{program as program_tree}
use Rattle.t_terms.specs.declared.block.Block.{Block}
use Rattle.t_terms.specs.declared.data.Data.{Data}
use Rattle.assembly_rows.specs.FewNames.{FewInBlocks, FewInHeap}
use Rattle.assembly_rows.proofs.FewNames.{types_are_few}
use Rattle.assembly_rows.proofs.tests.few_names.has_few_names.Goals as goal

pub returns-then-few_in_blocks : goal.returns-then-few_in_blocks
returns-then-few_in_blocks c = λ h.
    let blocks = subst (λ (bs : List Block). FewInBlocks 1000 (blocks_of bs)) c.deref.ensures.value
    (c.few_in_blocks.ensures c.if-few_in_blocks.true) in
    let heap = subst (λ (xs : List Data). FewInHeap 1000 (data_of xs)) c.deref-then-few_in_blocks.ensures.value
    (c.few_in_heap.ensures.0 h) in
    ∣ types_are_few (program_tree c.args.program.now) (blocks, heap) ∣₁
