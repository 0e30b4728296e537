use Rattle.t_reader.proofs.Naming.{FieldsLeft}
use Rattle.t_reader.proofs.Filing.{FileLeft}
use Rattle.t_reader.proofs.types.+types.Given as goal

abbrev pub invariant-type_in-loop-field : goal.invariant-type_in-loop-field
invariant-type_in-loop-field l = FieldsLeft l.text l.initial.scope l.field-items l.field-index l.scope l.made.items

abbrev pub invariant-file_in-loop-reg : goal.invariant-file_in-loop-reg
invariant-file_in-loop-reg l = FileLeft l.text l.initial.scope l.regs l.reg-index l.scope l.made.entries
