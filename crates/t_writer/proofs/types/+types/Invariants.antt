use Rattle.std.proofs.Common.{ℕ, Bool, ◌++◌, All}
use Rattle.t_types.specs.declared.types.TType.{TType}
use Rattle.t_types.specs.Read.{tree}
use Rattle.t_types.specs.WellFormed.{WellFormed}
use Rattle.t_writer.specs.Lexeme.{render}
use Rattle.t_writer.proofs.Rendered.{Left, listed, reg_item, field_item}
use Rattle.t_writer.proofs.types.+types.Given as goal

abbrev pub invariant-write_fields-loop-i : goal.invariant-write_fields-loop-i
invariant-write_fields-loop-i l = record {
  fits : All (λ (x : TType × Bool). WellFormed l.depth (tree x.0)) l.fields;
  written : Left (field_item l.depth) l.text.items l.i l.fields
      (l.initial.text.items ++ render (listed (field_item l.depth) 0 l.fields));
}

abbrev pub invariant-write_file-loop-i : goal.invariant-write_file-loop-i
invariant-write_file-loop-i l = record {
  fits : All (λ (x : ℕ × TType). WellFormed l.depth (tree x.1)) l.regs;
  written : Left (reg_item l.depth) l.text.items l.i l.regs
      (l.initial.text.items ++ render (listed (reg_item l.depth) 0 l.regs));
}
