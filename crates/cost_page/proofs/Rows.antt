-- Worked pages, proved by computing.
use Rattle.std.proofs.Common.{◌≡◌, ℕ, List, [], ◌∷◌, map, refl, codes}
use Rattle.std.specs.Prelude.{pos}
use Rattle.std.specs.Fmt.{digits}
use Rattle.idx_core.specs.declared.span.Span.{Span}
use Rattle.idx_core.specs.declared.arith.Op.TheVariants as op
use Rattle.t_types.specs.Tree.{IntTy, NoRegs, MoreRegs}
use Rattle.t_terms.specs.Tree.{TValue, Int, Label, Plain, Arith, Bnz, Malloc, Mov, St, Jmp, Halt}
use Rattle.t_terms.specs.Spanned.{SProg}
use Rattle.cost_page.specs.Page.{page, most, total}
use Rattle.cost_page.specs.declared.places.Kind.TheVariants as kind
use Rattle.cost_page.specs.declared.places.Place.{Place}
use Rattle.cost_page.specs.declared.totals.Measure.TheVariants.{Fields}

abbrev at : ℕ → ℕ → Span
at start end = record { start = start; end = end }

abbrev label : ℕ → TValue
label l = Plain (Label l) []

-- a loop of two turns
abbrev turns_text : List ℕ
turns_text =
    codes
    "tal 1\nL0: code[]{}. mov r1, 2 jmp L1\nL1: code[]{r1:int}.\nsub r1, r1, 1\nbnz r1, L1\nhalt[int]\n"

abbrev turns : SProg
turns = record {
  blocks =
      record {
        name = at 6 8;
        owes = 0;
        file = NoRegs;
        body = (Mov 1 (Plain (Int (pos 2)) []), at 20 29) ∷ [];
        last = Jmp (label 1);
        last_span = at 30 36;
      }
      ∷ record {
        name = at 37 39;
        owes = 0;
        file = MoreRegs 1 IntTy NoRegs;
        body = (Arith op.Sub 1 1 (Plain (Int (pos 1)) []), at 57 70) ∷ (Bnz 1 (label 1), at 71 81) ∷ [];
        last = Halt;
        last_span = at 82 91;
      }
      ∷ [];
  heap = [];
}

-- It makes six steps to its end, and enters its second block by `jmp` and once by `bnz`.
both_turns : page turns_text turns 6 2 (1 ∷ 1 ∷ 2 ∷ 2 ∷ 0 ∷ [])
    ≡ codes
    "instructions 6\n  sub 2\n  bnz 2\n  mov 1\n  jmp 1\nblocks entered 3\ntuples 0\nfields 0\nmost executed\n  2 L1.0, line 4\n  2 L1.1, line 5\n  1 L0.0, line 2\n  1 L0.1, line 2\n"
unfolding digits
both_turns = refl

-- after four of them it has entered that block again, and executed nothing of it since
one_turn : page turns_text turns 4 0 (1 ∷ 1 ∷ 1 ∷ 1 ∷ 0 ∷ [])
    ≡ codes
    "instructions 4\n  sub 1\n  bnz 1\n  mov 1\n  jmp 1\nblocks entered 3\ntuples 0\nfields 0\nmost executed\n  1 L0.0, line 2\n  1 L0.1, line 2\n  1 L1.0, line 4\n  1 L1.1, line 5\n"
unfolding digits
one_turn = refl

-- before the first step the first block is entered
no_step : page turns_text turns 0 0 (0 ∷ 0 ∷ 0 ∷ 0 ∷ 0 ∷ [])
    ≡ codes "instructions 0\nblocks entered 1\ntuples 0\nfields 0\nmost executed\n"
unfolding digits
no_step = refl

-- a program that makes pairs
abbrev pairs_text : List ℕ
pairs_text = codes "tal 1\nMake: code[]{}.\nmalloc r2[int, int]\nmov r1, 7\nst r2[0], r1\njmp Make\n"

abbrev pairs : SProg
pairs = record {
  blocks =
      record {
        name = at 6 10;
        owes = 0;
        file = NoRegs;
        body =
            (Malloc 2 (IntTy ∷ IntTy ∷ []), at 22 41)
            ∷ (Mov 1 (Plain (Int (pos 7)) []), at 42 51)
            ∷ (St 2 0 1, at 52 64)
            ∷ [];
        last = Jmp (label 0);
        last_span = at 65 73;
      }
      ∷ [];
  heap = [];
}

-- of ten steps three make a pair
three_pairs : page pairs_text pairs 10 2 (3 ∷ 3 ∷ 2 ∷ 2 ∷ [])
    ≡ codes
    "instructions 10\n  malloc 3\n  mov 3\n  st 2\n  jmp 2\nblocks entered 3\ntuples 3\nfields 6\nmost executed\n  3 Make.0, line 3\n  3 Make.1, line 4\n  2 Make.2, line 5\n  2 Make.3, line 6\n"
unfolding digits
three_pairs = refl

-- a `mov` of the first block, which is the place of this index there
abbrev mov_at : ℕ → ℕ → Place
mov_at index count =
    record { label = at 0 1; index = index; kind = kind.Mov; fields = 0; start = index; count = count }

-- The ten that are executed most: what comes first stands before what is executed as often, and what is not executed
-- is not among them.
ten_of_twelve : map (λ (p : Place). p.index) (most [] (mov_at 0 2 ∷ mov_at 1 5 ∷ mov_at 2 0 ∷ mov_at 3 1 ∷ mov_at 4 5
    ∷ mov_at 5 3 ∷ mov_at 6 1 ∷ mov_at 7 1 ∷ mov_at 8 9 ∷ mov_at 9 1 ∷ mov_at 10 1 ∷ mov_at 11 1 ∷ []))
    ≡ 8 ∷ 1 ∷ 4 ∷ 5 ∷ 0 ∷ 3 ∷ 6 ∷ 7 ∷ 9 ∷ 10 ∷ []
ten_of_twelve = refl

-- more fields than 64 bits tell
many_fields : total Fields (record {
  label = at 0 1;
  index = 0;
  kind = kind.Malloc;
  fields = 3;
  start = 0;
  count = 18446744073709551615;
} ∷ []) ≡ 18446744073709551615
many_fields = refl
