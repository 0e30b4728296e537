-- Instructions in front of a rest, and what numbers of values there may be.
use Rattle.std.specs.Prelude.{ℕ, ◌+◌, ◌<◌, ◌^◌, Bool, true, false, List, [], ◌∷◌}
use Rattle.idx_core.specs.declared.span.Span.{Span}
use Rattle.t_types.specs.Tree.{Ty, TFile, MoreRegs, TFields, MoreFields}
use Rattle.t_types.specs.Read.{tree}
use Rattle.t_types.specs.declared.types.TType.{TType}
use Rattle.t_terms.specs.Tree.{TBase, Label, TValue, Plain, Pack, TSeq, Then}
use Rattle.t_terms.specs.declared.instr.Instr.{Instr}
use Rattle.t_terms.specs.Read.{instr}

abbrev pub onto : List (Instr × Span) → TSeq → TSeq
onto [] rest = rest
onto (x ∷ xs) rest = Then (instr x.0) (onto xs rest)

-- registers in front of a file
abbrev pub front : List (ℕ × TType) → TFile → TFile
front [] rest = rest
front (y ∷ ys) rest = MoreRegs y.0 (tree y.1) (front ys rest)

-- fields in front of others, and one, if it is wanted
abbrev pub fields_onto : List (TType × Bool) → TFields → TFields
fields_onto [] rest = rest
fields_onto (y ∷ ys) rest = MoreFields (tree y.0) y.1 (fields_onto ys rest)

abbrev pub field_if : Bool → Ty → TFields → TFields
field_if true t rest = MoreFields t true rest
field_if false t rest = rest

-- what a value begins with
abbrev pub based : TValue → TBase
based (Plain b ts) = b
based (Pack t v s) = based v

-- the label of a value, if it has one, has a next
abbrev pub LabelHasNext : TBase → Type 0
LabelHasNext (Label l) = l + 1 < 2 ^ 64
LabelHasNext _ = Unit {0}

abbrev pub HasNext : TValue → Type 0
HasNext v = LabelHasNext (based v)
