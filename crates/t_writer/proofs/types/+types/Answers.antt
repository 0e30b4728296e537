use Rattle.std.proofs.Common.{rules, refl, subst, ap, ◌∙◌, sym, ◌++◌}
use Rattle.t_types.specs.declared.types.TType.TheViews.{the_lemmas}
use Rattle.t_types.specs.Tree.{Ty}
use Rattle.t_types.specs.Read.{file, fields}
use Rattle.t_types.specs.WellFormed.{WellFormed}
use Rattle.t_types.proofs.Trees.{tree_is_tuple, tree_is_code}
use Rattle.t_writer.specs.Lexeme.{render}
use Rattle.t_writer.specs.Written.{type_written}
use Rattle.t_writer.proofs.Rendered.{regs_fit, fields_fit, reg_more, field_more, file_done, fields_done, tuple_done}
use Rattle.t_writer.proofs.Rendered.{code_done}
use Rattle.t_writer.proofs.types.+types.Goals as goal

pub write_fields-loop-i-init : goal.write_fields-loop-i-init
write_fields-loop-i-init t c = record { fits = fields_fit c.args.depth c.args.fields.now c.requires; written = refl }

pub write_fields-loop-i-preserved : goal.write_fields-loop-i-preserved
write_fields-loop-i-preserved t c = record {
  fits = c.loop-i.invariant.fits;
  written = field_more c.args.depth _ _ _ _ c.loop-i.i c.args.fields.now _ _ c.index-fields-i.is c.loop-i-test.true
      c.loop-i.invariant.written
      c.in_ok-write_separator.ensures c.in_ok-write_type.ensures c.in_ok-write_flag.ensures;
}

pub write_fields-returns : goal.write_fields-returns
write_fields-returns t c =
    fields_done c.args.depth c.args.fields.now _ _ c.loop-i.i c.loop-i.invariant.written c.loop-i-test.false

pub write_file-loop-i-init : goal.write_file-loop-i-init
write_file-loop-i-init t c = record { fits = regs_fit 0 c.args.depth c.args.regs.now c.requires; written = refl }

pub write_file-loop-i-preserved : goal.write_file-loop-i-preserved
write_file-loop-i-preserved t c = record {
  fits = c.loop-i.invariant.fits;
  written = reg_more c.args.depth _ _ _ _ _ c.loop-i.i c.args.regs.now _ _ c.index-regs-i.is c.loop-i-test.true
      c.loop-i.invariant.written
      c.in_ok-write_separator.ensures c.in_ok-write_name.ensures c.in_ok-push-2.ensures.items
      c.in_ok-write_type.ensures;
}

pub write_file-returns : goal.write_file-returns
write_file-returns t c =
    file_done c.args.depth c.args.regs.now _ _ _ _ c.loop-i.i c.in_ok-push.ensures.items c.loop-i.invariant.written
    c.loop-i-test.false c.in_ok-push-3.ensures.items

pub write_type-write_file-requires : goal.write_type-write_file-requires
write_type-write_file-requires t c = (
  search (rules, the_lemmas),
  (subst (WellFormed c.args.depth) (tree_is_code _ _ _ _ c.in-Code.is c.deref.ensures.value) c.requires).1,
)

pub write_type-write_fields-requires : goal.write_type-write_fields-requires
write_type-write_fields-requires t c = (
  search (rules, the_lemmas),
  subst (WellFormed c.args.depth) (tree_is_tuple _ _ _ c.in-Tuple.is c.deref-in-Tuple.ensures.value) c.requires,
)

pub write_type-returns-in_ok-write_file-in-Code : goal.write_type-returns-in_ok-write_file-in-Code
write_type-returns-in_ok-write_file-in-Code t c =
    code_done c.args.depth c.in-Code.owes (file c.deref.result.now) _ _ _ _
    c.in_ok-extend_from_slice-in-Code.ensures.items c.in_ok-write_binds-in-Code.ensures
    c.in_ok-write_file-in-Code.ensures
    ∙ ap (λ (u : Ty). c.args.text.now.items ++ render (type_written c.args.depth u))
    (sym (tree_is_code _ _ _ _ c.in-Code.is c.deref.ensures.value))

pub write_type-returns-in_ok-push-in-Tuple-2 : goal.write_type-returns-in_ok-push-in-Tuple-2
write_type-returns-in_ok-push-in-Tuple-2 t c =
    tuple_done c.args.depth (fields c.deref-in-Tuple.result.now) _ _ _ _ c.in_ok-push-in-Tuple.ensures.items
    c.in_ok-write_fields-in-Tuple.ensures c.in_ok-push-in-Tuple-2.ensures.items
    ∙ ap (λ (u : Ty). c.args.text.now.items ++ render (type_written c.args.depth u))
    (sym (tree_is_tuple _ _ _ c.in-Tuple.is c.deref-in-Tuple.ensures.value))
