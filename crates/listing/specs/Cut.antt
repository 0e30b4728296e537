-- A program that is cut at a place: what stands before the place is as it was, and each block that would go on behind
-- it
-- halts there.
use Rattle.std.specs.Prelude.{pos, map, if◌then◌else◌, List, [], ◌∷◌, ◌++◌}
use Rattle.idx_core.specs.declared.span.Span.{Span}
use Rattle.t_terms.specs.Tree.{TInstr, Int, Plain, Mov, Halt}
use Rattle.t_terms.specs.Spanned.{SBlock, SProg}
use Rattle.listing.specs.Before.{in_block, steps_to}

-- whatever is known of the registers, register 1 can be set to 0, and then the program can halt
abbrev pub way_out : Span → List (TInstr × Span)
way_out place = (Mov 1 (Plain (Int (pos 0)) []), place) ∷ []

-- a block that halts behind these of its instructions
abbrev pub cut_block : Span → List (TInstr × Span) → SBlock → SBlock
cut_block place steps b = record {
  name = b.name;
  owes = b.owes;
  file = b.file;
  body = steps ++ way_out place;
  last = Halt;
  last_span = b.last_span;
}

-- each block halts at once
abbrev pub way_outs : Span → List SBlock → List SBlock
way_outs place bs = map (cut_block place []) bs

-- the block in which the place is halts there, and the ones behind it halt at once
abbrev pub cut_blocks : Span → List SBlock → List SBlock
cut_blocks place [] = []
cut_blocks place (b ∷ bs) =
    if in_block place b then cut_block place (steps_to place b.body) b ∷ way_outs place bs else b ∷ cut_blocks place bs

abbrev pub cut : Span → SProg → SProg
cut place P = record { blocks = cut_blocks place P.blocks; heap = P.heap }
