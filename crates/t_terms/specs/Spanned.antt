-- Programs with their places in a text, the plain trees that are left where the places are dropped, and the walks
-- over the type variables of a block with its places.
use Rattle.std.specs.Prelude.{ℕ, ◌+◌, List, [], ◌∷◌}
use Rattle.idx_core.specs.Over.{At, Over, Each, BelowAt, AnyDepth}
use Rattle.idx_core.specs.declared.span.Span.{Span}
use Rattle.t_types.specs.Tree.{Ty, TFile, over_file, each_file}
use Rattle.t_terms.specs.Tree.{TValue, TInstr, TEnd, TSeq, Then, Ends, TBlock, TDatum, TData, TProg, names_after}
use Rattle.t_terms.specs.Tree.{over_instr, over_end, each_instr, each_end}

-- a block with the places of its label, of its instructions and of its end
pub record SBlock : Type 0 where
  pub name : Span
  pub owes : ℕ
  pub file : TFile
  pub body : List (TInstr × Span)
  pub last : TEnd
  pub last_span : Span

-- a field of a data tuple, with the place of its value
pub record SDatum : Type 0 where
  pub value : TValue
  pub ty : Ty
  pub span : Span

-- a data tuple with the place of its label
pub record SData : Type 0 where
  pub name : Span
  pub fields : List SDatum

pub record SProg : Type 0 where
  pub blocks : List SBlock
  pub heap : List SData

-- the sequence of a body and an end
abbrev pub seq_of : List (TInstr × Span) → TEnd → TSeq
seq_of [] e = Ends e
seq_of (x ∷ xs) e = Then x.0 (seq_of xs e)

abbrev pub plain : SBlock → TBlock
plain b = record { owes = b.owes; file = b.file; code = seq_of b.body b.last }

abbrev pub plain_blocks : List SBlock → List TBlock
plain_blocks [] = []
plain_blocks (b ∷ bs) = plain b ∷ plain_blocks bs

abbrev pub plain_datum : SDatum → TDatum
plain_datum x = record { value = x.value; ty = x.ty }

abbrev pub plain_fields : List SDatum → TData
plain_fields [] = []
plain_fields (x ∷ xs) = plain_datum x ∷ plain_fields xs

abbrev pub plain_heap : List SData → List TData
plain_heap [] = []
plain_heap (x ∷ xs) = plain_fields x.fields ∷ plain_heap xs

abbrev pub plain_program : SProg → TProg
plain_program P = record { blocks = plain_blocks P.blocks; heap = plain_heap P.heap }

-- the number of type names after a body, where there are d before it
abbrev pub body_depth : List (TInstr × Span) → ℕ → ℕ
body_depth [] d = d
body_depth (x ∷ xs) d = body_depth xs (names_after x.0 d)

-- the tree with each type variable i at depth d replaced by f d i
abbrev pub over_body : At Ty → ℕ → List (TInstr × Span) → List (TInstr × Span)
over_body f d [] = []
over_body f d (x ∷ xs) = (over_instr f d x.0, x.1) ∷ over_body f (names_after x.0 d) xs

abbrev pub over_spanned : Over Ty SBlock
over_spanned f d b = record {
  name = b.name;
  owes = b.owes;
  file = over_file f (d + b.owes) b.file;
  body = over_body f (d + b.owes) b.body;
  last = over_end f (body_depth b.body (d + b.owes)) b.last;
  last_span = b.last_span;
}

-- each type variable i at depth d has V d i, and each depth below a binder has B d
abbrev pub each_body : (ℕ → ℕ → Type 0) → (ℕ → Type 0) → ℕ → List (TInstr × Span) → Type 0
each_body V B d [] = Unit {0}
each_body V B d (x ∷ xs) = each_instr V B d x.0 × B (names_after x.0 d) × each_body V B (names_after x.0 d) xs

abbrev pub each_spanned : Each SBlock
each_spanned V B d b =
    B (d + b.owes) × each_file V B (d + b.owes) b.file × each_body V B (d + b.owes) b.body
    × each_end V B (body_depth b.body (d + b.owes)) b.last

-- each free type index of a body and its end is less than n
abbrev pub BodyBelow : ℕ → List (TInstr × Span) → TEnd → Type 0
BodyBelow n xs e = each_body BelowAt AnyDepth n xs × each_end BelowAt AnyDepth (body_depth xs n) e
