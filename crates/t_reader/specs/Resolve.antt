-- What the resolving of names promises.
use Rattle.std.specs.Prelude.{◌≡◌, ◌≤◌, ℕ, Bool, true, false, List, ◌∷◌, length, slice_get, nat_eq, Option, Some, None}
use Rattle.std.specs.Prelude.{not, ◌++◌}
use Rattle.std.specs.List.{list_any}
use Rattle.idx_core.specs.declared.span.Span.{Span}
use Rattle.idx_core.specs.Names.{Name}
use Rattle.text_core.specs.Shapes.{NonePasses}
use Rattle.t_types.specs.WellFormed.{max_number}
use Rattle.t_types.specs.declared.types.TType.{TType}
use Rattle.t_text.specs.declared.token.Token.{Token}
use Rattle.t_terms.specs.declared.fault.TCode.{TCode}
use Rattle.t_terms.specs.declared.fault.TCode.TheVariants.{T04}
use Rattle.t_terms.specs.declared.fault.TFault.{TFault}
use Rattle.t_terms.specs.declared.fault.TFault.TheVariants.{Memory, Refused}
use Rattle.t_text.specs.Tokens.{IsCut}
use Rattle.t_terms.specs.Tree.{TBase, Label, Data}
use Rattle.t_text.specs.Raw.{RawBlock, RawData, RawItem, BlockItem, DataItem, item_name}
use Rattle.t_text.specs.Grammar.{Program, assembly_grammar}
use Rattle.t_text.specs.Names.{Labels, spelled, is_among, index_in, named_by}
use Rattle.t_text.specs.NameFaults.{only_if, item_faults}
use Rattle.t_text.specs.Text.{most_open}
use Rattle.t_reader.specs.Labelled.{is_target}

-- the first of the faults in the order of the text, or want of memory
abbrev pub StopsAt : List (TCode × Span) → TFault → Type 0
StopsAt faults Memory = Unit {0}
StopsAt faults (Refused code span) = (rest : List (TCode × Span)) × (faults ≡ (code, span) ∷ rest)

-- the place of a name among names, or none exactly where it is not there
abbrev pub IsFound : Name → List Name → Option ℕ → Type 0
IsFound x names None = is_among x names ≡ false
IsFound x names (Some i) = (is_among x names ≡ true) × (index_in x names ≡ i)

-- whether a label is that of an item before the one that this is
abbrev pub stands_before : Name → Labels → TBase → Bool
stands_before x ls t = not (is_target t (named_by x ls))

-- the faults of an item that is this: its label stands before, and those of its names
abbrev pub numbered_faults : List ℕ → Labels → TBase → RawItem → List (TCode × Span)
numbered_faults text ls t x =
    only_if (stands_before (spelled text (item_name x)) ls t) T04 (item_name x) ++ item_faults text ls x

-- the same of a block, and of a data tuple, with this number
abbrev pub block_numbered_faults : List ℕ → Labels → ℕ → RawBlock → List (TCode × Span)
block_numbered_faults text ls k b = numbered_faults text ls (Label k) (BlockItem b)

abbrev pub data_numbered_faults : List ℕ → Labels → ℕ → RawData → List (TCode × Span)
data_numbered_faults text ls k x = numbered_faults text ls (Data k) (DataItem x)

-- a register is there
abbrev pub has : ℕ → List (ℕ × TType) → Bool
has r xs = list_any (λ x. nat_eq r x.0) xs

-- the place of a token, or the end of the text
abbrev pub span_of : List ℕ → Option Token → Span
span_of text None = record { start = length text; end = length text }
span_of text (Some c) = c.span

abbrev pub place_at : List ℕ → List Token → ℕ → Span
place_at text ts i = span_of text (slice_get ts i)

-- the text is cut into tokens that are these items within the limit on open constructs
pub record IsShape (text : List ℕ) (raw : List RawItem) : Type 0 where
  pub tokens : List Token
  pub cut : IsCut text tokens
  pub shape : Program tokens raw
  pub within : NonePasses assembly_grammar most_open tokens
  -- no memory holds more
  pub short : length tokens ≤ max_number
