use Rattle.std.proofs.Common.{◌↔◌, drop}
use Rattle.t_types.specs.Read.{types}
use Rattle.assembly_rows.specs.FewNames.{FewInTypes}
use Rattle.assembly_rows.proofs.tests.few_names.few_in_types.Given as goal

abbrev pub invariant-loop-t : goal.invariant-loop-t
invariant-loop-t l = FewInTypes l.k (types l.types) ↔ FewInTypes l.k (types (drop l.t-index l.types))
