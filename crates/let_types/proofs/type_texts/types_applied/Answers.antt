use Rattle.let_types.proofs.TypesListed.{applied_done}
use Rattle.let_types.proofs.type_texts.types_applied.Goals as goal

pub returns : goal.returns
returns c =
    applied_done c.args.depth c.args.ts.now c.is_empty.result _ _ _ c.is_empty.ensures c.if-is_empty.false
    c.in_ok-text.ensures.items c.in_ok-write_types.ensures c.in_ok-extend_from_slice.ensures.items
