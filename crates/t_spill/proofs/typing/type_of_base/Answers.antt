use Rattle.std.proofs.Common.{◌<◌, subst, length}
use Rattle.t_terms.specs.Read.{base}
use Rattle.t_terms.specs.ReadProgram.{program}
use Rattle.t_terms.specs.Whole.{WellFormedBase}
use Rattle.t_terms.specs.declared.value.Base.{Base}
use Rattle.t_terms.proofs.Blocks.{blocks_count, data_count}
use Rattle.t_spill.proofs.typing.type_of_base.Goals as goal

pub type_of_label-requires : goal.type_of_label-requires
type_of_label-requires c =
    let P = program c.args.program.now in
    let lt : c.in-Label.l < length P.blocks =
    subst (λ (b : Base). WellFormedBase (length P.blocks) (length P.heap) (base b)) c.in-Label.is c.requires in
    subst (λ n. c.in-Label.l < n) (blocks_count c.args.program.now.blocks.items) lt

pub type_of_data-requires : goal.type_of_data-requires
type_of_data-requires c =
    let P = program c.args.program.now in
    let lt : c.in-Data.d < length P.heap =
    subst (λ (b : Base). WellFormedBase (length P.blocks) (length P.heap) (base b)) c.in-Data.is c.requires in
    subst (λ n. c.in-Data.d < n) (data_count c.args.program.now.heap.items) lt
