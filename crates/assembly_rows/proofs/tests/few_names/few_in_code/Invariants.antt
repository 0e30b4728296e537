use Rattle.std.proofs.Common.{◌↔◌, drop}
use Rattle.t_terms.specs.Read.{body, end_of}
use Rattle.t_terms.specs.Spanned.{seq_of}
use Rattle.assembly_rows.specs.FewNames.{FewInSeq}
use Rattle.assembly_rows.proofs.tests.few_names.few_in_code.Given as goal

abbrev pub invariant-loop-entry : goal.invariant-loop-entry
invariant-loop-entry l = FewInSeq l.k (seq_of (body l.body) (end_of l.«end»)) ↔ FewInSeq l.k (seq_of (body
    (drop l.entry-index l.body)) (end_of l.«end»))
