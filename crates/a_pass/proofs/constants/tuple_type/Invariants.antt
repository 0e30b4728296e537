use Rattle.std.proofs.Common.{◌≡◌, take}
use Rattle.a_terms.specs.NodeTrees.{a_consts}
use Rattle.a_terms.specs.Read.{afields}
use Rattle.a_terms.specs.Typing.{data_fields}
use Rattle.a_pass.proofs.constants.tuple_type.Given as goal

abbrev pub invariant-loop-field : goal.invariant-loop-field
invariant-loop-field l = afields l.made.items ≡ data_fields (a_consts (take l.field-index l.fields))
