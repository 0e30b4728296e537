-- The places of a program, each with how often it was executed.
use Rattle.std.specs.Prelude.{ℕ, ◌+◌, List, [], ◌∷◌, ◌++◌, length, slice_index}
use Rattle.idx_core.specs.declared.span.Span.{Span}
use Rattle.idx_core.specs.declared.arith.Op.TheVariants as op
use Rattle.t_terms.specs.Tree as tree
use Rattle.t_terms.specs.Tree.{TInstr, TEnd}
use Rattle.t_terms.specs.Spanned.{SBlock}
use Rattle.cost_page.specs.declared.places.Kind.{Kind}
use Rattle.cost_page.specs.declared.places.Kind.TheVariants.{Add, Sub, Mul, Bnz, Ld, Malloc, Mov, St, Unpack, Jmp, Halt}
use Rattle.cost_page.specs.declared.places.Place.{Place}

-- what an instruction is, and the end of a block
abbrev pub kind_of : TInstr → Kind
kind_of (tree.Arith op.Add rd rs v) = Add
kind_of (tree.Arith op.Sub rd rs v) = Sub
kind_of (tree.Arith op.Mul rd rs v) = Mul
kind_of (tree.Bnz r v) = Bnz
kind_of (tree.Ld rd rs i) = Ld
kind_of (tree.Malloc rd ts) = Malloc
kind_of (tree.Mov rd v) = Mov
kind_of (tree.St rd i rs) = St
kind_of (tree.Unpack rd v) = Unpack

abbrev pub end_kind : TEnd → Kind
end_kind (tree.Jmp v) = Jmp
end_kind tree.Halt = Halt

-- kinds are told apart by their numbers
abbrev pub number : Kind → ℕ
number Add = 0
number Sub = 1
number Mul = 2
number Bnz = 3
number Ld = 4
number Malloc = 5
number Mov = 6
number St = 7
number Unpack = 8
number Jmp = 9
number Halt = 10

-- how many fields the tuple has that an instruction makes
abbrev pub fields_of : TInstr → ℕ
fields_of (tree.Malloc rd ts) = length ts
fields_of other = 0

-- The places of a block, of which k stand before it in the program, and i before these in the block: one for each
-- instruction, and one for the end. The counts are those of all places of the program in turn; of a place that they
-- lack it is 0.
abbrev pub rest_places : List ℕ → ℕ → Span → ℕ → List (TInstr × Span) → TEnd → Span → List Place
rest_places counts k label i [] e s =
    record { label = label; index = i; kind = end_kind e; fields = 0; start = s.start; count = slice_index counts k }
    ∷ []
rest_places counts k label i (x ∷ xs) e s =
    record {
      label = label;
      index = i;
      kind = kind_of x.0;
      fields = fields_of x.0;
      start = x.1.start;
      count = slice_index counts k;
    }
    ∷ rest_places counts (k + 1) label (i + 1) xs e s

abbrev pub block_places : List ℕ → ℕ → SBlock → List Place
block_places counts k b = rest_places counts k b.name 0 b.body b.last b.last_span

-- the places of blocks in turn, before which k places stand in the program
abbrev pub places : List ℕ → ℕ → List SBlock → List Place
places counts k [] = []
places counts k (b ∷ bs) = block_places counts k b ++ places counts (k + (length b.body + 1)) bs
