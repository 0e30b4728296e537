use Rattle.std.proofs.Common.{◌++◌, All}
use Rattle.t_types.specs.declared.types.TType.{TType}
use Rattle.t_types.specs.Read.{tree}
use Rattle.t_types.specs.WellFormed.{WellFormed}
use Rattle.t_writer.specs.Lexeme.{render}
use Rattle.t_writer.specs.Written.{type_written}
use Rattle.t_writer.proofs.Rendered.{Left, listed}
use Rattle.t_writer.proofs.types.write_list.Given as goal

abbrev pub invariant-loop-i : goal.invariant-loop-i
invariant-loop-i l = record {
  fits : All (λ (t : TType). WellFormed l.depth (tree t)) l.list;
  written : Left (λ (t : TType). type_written l.depth (tree t)) l.text.items l.i l.list
      (l.initial.text.items ++ render (listed (λ (t : TType). type_written l.depth (tree t)) 0 l.list));
}
