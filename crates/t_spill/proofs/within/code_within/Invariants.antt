use Rattle.std.proofs.Common.{◌↔◌, drop}
use Rattle.t_terms.specs.Read.{body, end_of}
use Rattle.t_terms.specs.Spanned.{seq_of}
use Rattle.t_spill_laws.specs.Bound.{InSeq}
use Rattle.t_spill.proofs.within.code_within.Given as goal

abbrev pub invariant-loop-entry : goal.invariant-loop-entry
invariant-loop-entry l = InSeq l.k (seq_of (body l.body) (end_of l.«end»)) ↔ InSeq l.k (seq_of (body
    (drop l.entry-index l.body)) (end_of l.«end»))
