use Rattle.std.proofs.Common.{rules, ◌++◌, refl, sym, ap, ◌∙◌}
use Rattle.t_types.specs.declared.types.TType.TheViews.{the_lemmas}
use Rattle.t_types.specs.Read.{file, fields}
use Rattle.t_types.specs.Tree.{Ty}
use Rattle.t_types.proofs.Trees.{tree_is_tuple, tree_is_code}
use Rattle.t_trace.specs.Line.{text_at}
use Rattle.t_trace.proofs.Rendered.{grown, reg_more, field_more, regs_done, fields_done, code_done, tuple_done}
use Rattle.t_trace.proofs.types.+types.Goals as goal

pub write_fields-loop-i-init : goal.write_fields-loop-i-init
write_fields-loop-i-init t c = record { room = c.requires.room; written = refl }

pub write_fields-loop-i-preserved : goal.write_fields-loop-i-preserved
write_fields-loop-i-preserved t c = record {
  room = grown _ _ _ _
      (grown _ _ _ _ (grown _ _ _ _ c.loop-i.invariant.room c.in_ok-write_separator.ensures)
      c.in_ok-write_type.ensures) c.in_ok-write_flag.ensures;
  written = field_more c.args.vars c.args.depth _ _ _ _ c.loop-i.i c.args.fields.now _ _ c.index-fields-i.is
      c.loop-i-test.true c.loop-i.invariant.written
      c.in_ok-write_separator.ensures c.in_ok-write_type.ensures c.in_ok-write_flag.ensures;
}

pub write_fields-returns : goal.write_fields-returns
write_fields-returns t c =
    fields_done c.args.vars c.args.depth c.args.fields.now _ _ c.loop-i.i c.loop-i.invariant.written
    c.loop-i-test.false

pub write_regs-loop-i-init : goal.write_regs-loop-i-init
write_regs-loop-i-init t c = record { room = c.requires.room; written = refl }

pub write_regs-loop-i-preserved : goal.write_regs-loop-i-preserved
write_regs-loop-i-preserved t c = record {
  room = grown _ _ _ _
      (grown _ _ _ _
      (grown _ _ _ _ (grown _ _ _ _ c.loop-i.invariant.room c.in_ok-write_separator.ensures)
      c.in_ok-write_name.ensures) c.in_ok-extend_from_slice.ensures.items) c.in_ok-write_type.ensures;
  written = reg_more c.args.vars c.args.depth _ _ _ _ _ c.loop-i.i c.args.regs.now _ _ c.index-regs-i.is
      c.loop-i-test.true c.loop-i.invariant.written
      c.in_ok-write_separator.ensures c.in_ok-write_name.ensures c.in_ok-extend_from_slice.ensures.items
      c.in_ok-write_type.ensures;
}

pub write_regs-returns : goal.write_regs-returns
write_regs-returns t c =
    regs_done c.args.vars c.args.depth c.args.regs.now _ _ c.loop-i.i c.loop-i.invariant.written c.loop-i-test.false

pub write_type-write_regs-requires : goal.write_type-write_regs-requires
write_type-write_regs-requires t c = (
  search (rules, the_lemmas),
  grown _ _ _ _ c.in_ok-write_names-in-Code.ensures.room c.in_ok-extend_from_slice-in-Code-2.ensures.items,
)

pub write_type-write_fields-requires : goal.write_type-write_fields-requires
write_type-write_fields-requires t c = (
  search (rules, the_lemmas),
  grown _ _ _ _ c.requires.room c.in_ok-extend_from_slice-in-Tuple.ensures.items,
)

pub write_type-returns-in_ok-extend_from_slice-in-Code-3 : goal.write_type-returns-in_ok-extend_from_slice-in-Code-3
write_type-returns-in_ok-extend_from_slice-in-Code-3 t c =
    code_done c.args.vars c.args.depth c.in-Code.owes (file c.deref.result.now) _ _ _ _ _ _
    c.in_ok-extend_from_slice-in-Code.ensures.items c.in_ok-write_names-in-Code.ensures.written
    c.in_ok-extend_from_slice-in-Code-2.ensures.items c.in_ok-write_regs-in-Code.ensures
    c.in_ok-extend_from_slice-in-Code-3.ensures.items
    ∙ ap (λ (u : Ty). c.args.text.now.items ++ text_at c.args.vars c.args.depth u)
    (sym (tree_is_code _ _ _ _ c.in-Code.is c.deref.ensures.value))

pub write_type-returns-in_ok-extend_from_slice-in-Tuple-2 : goal.write_type-returns-in_ok-extend_from_slice-in-Tuple-2
write_type-returns-in_ok-extend_from_slice-in-Tuple-2 t c =
    tuple_done c.args.vars c.args.depth (fields c.deref-in-Tuple.result.now) _ _ _ _
    c.in_ok-extend_from_slice-in-Tuple.ensures.items c.in_ok-write_fields-in-Tuple.ensures
    c.in_ok-extend_from_slice-in-Tuple-2.ensures.items
    ∙ ap (λ (u : Ty). c.args.text.now.items ++ text_at c.args.vars c.args.depth u)
    (sym (tree_is_tuple _ _ _ c.in-Tuple.is c.deref-in-Tuple.ensures.value))
