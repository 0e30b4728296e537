-- Worked programs with data. The comment above each is its text, with a bar for a line end; its places are those of the
-- bytes of that text.
use Rattle.std.proofs.Common.{◌≡◌, ◌∷◌, true, List, [], Some, None, refl, inl, inr, arith, slice_get}
use Rattle.std.specs.Prelude.{pos}
use Rattle.idx_core.specs.declared.span.Span.{Span}
use Rattle.t_types.specs.Tree.{Ty, IntTy, ExistsTy, TupleTy, NoRegs, MoreRegs, NoFields, MoreFields}
use Rattle.t_types.specs.Fits.{lookup}
use Rattle.t_terms.specs.Tree.{Int, Data, TValue, Plain, Pack, Ld, Mov, Halt, TBlock}
use Rattle.t_terms.specs.Spanned.{SDatum, SData, SProg, plain_program}
use Rattle.t_terms.specs.declared.fault.TCode.TheVariants.{T13, T15, T17, T20}
use Rattle.t_terms.specs.Whole.{WellFormedProgram}
use Rattle.t_terms.specs.Registers.{with_reg}
use Rattle.t_rules.specs.Rules.{Accepted}
use Rattle.t_rules.specs.Known.{KnownAt}
use Rattle.t_rules.specs.Mismatch.{Types, told}
use Rattle.t_rules.specs.Nodes.{few}
use Rattle.t_rules.specs.Faults.{ProgramFaultWith}
use Rattle.t_rules.specs.Machine.{IntWord, AddressWord, start_heap, Next, Spot, HaltsWithin}
use Rattle.t_rules.specs.HeapTypes.{start_types}
use Rattle.t_rules.specs.Erase.{EInt, EAddress, erase_heap, erase_blocks, EHaltedWith}
use Rattle.t_rules.specs.ErasedRuns.{EOn, erun, begun}
use Rattle.t_rules.proofs.Rows.{span, block, start, step}

abbrev datum : TValue → Ty → Span → SDatum
datum v t s = record { value = v; ty = t; span = s }

abbrev tuple : Span → List SDatum → SData
tuple s xs = record { name = s; fields = xs }

-- The first data tuple names the second; the program reads through both.
-- tal 2 | D0: data <5 : int, D1 : <int^1>> | D1: data <6 : int> | L0: code[]{}. mov r2, D0 ld r3, r2[1] ld r1, r3[0]
-- halt[int]
abbrev pub through_data : SProg
through_data = record {
  blocks =
      block (span 58 60) 0 NoRegs
      ((Mov 2 (Plain (Data 0) []), span 72 82) ∷ (Ld 3 2 1, span 83 95) ∷ (Ld 1 3 0, span 96 108) ∷ []) Halt
      (span 109 118) ∷ [];
  heap =
      tuple (span 6 8)
      (datum (Plain (Int (pos 5)) []) IntTy (span 16 17)
      ∷ datum (Plain (Data 1) []) (TupleTy (MoreFields IntTy true NoFields)) (span 25 27) ∷ [])
      ∷ tuple (span 39 41) (datum (Plain (Int (pos 6)) []) IntTy (span 49 50) ∷ []) ∷ [];
}

through_data_whole : WellFormedProgram (plain_program through_data)
through_data_whole = search arith

through_data_accepted : Accepted (plain_program through_data)
through_data_accepted = (
  (refl, refl),
  (
    (
      (IntTy, refl, refl, tt),
      ((TupleTy (MoreFields IntTy true NoFields), (_, refl, refl), (refl, (λ e. e), tt), search arith), tt),
    ),
    (((IntTy, refl, refl, tt), tt), tt),
  ),
  (
    (
      tt,
      (
        _,
        (
          TupleTy (MoreFields IntTy true (MoreFields (TupleTy (MoreFields IntTy true NoFields)) true NoFields)),
          (_, refl, refl),
          refl,
        ),
        (_, (_, _, refl, refl, refl), (_, (_, _, refl, refl, refl), refl)),
      ),
    ),
    tt,
  ),
)

-- the types of its heap at the start
through_data_types : start_types (plain_program through_data)
    ≡ MoreFields IntTy true (MoreFields (TupleTy (MoreFields IntTy true NoFields)) true NoFields)
    ∷ MoreFields IntTy true NoFields ∷ []
through_data_types = refl

-- its heap at the start
through_data_starts : start_heap (plain_program through_data) ≡ (IntWord (pos 5) ∷ AddressWord 1 ∷ [])
    ∷ (IntWord (pos 6) ∷ []) ∷ []
through_data_starts = refl

-- before its last load r3 is known as the second tuple
through_data_known : KnownAt (plain_program through_data) 0 2 0
    (with_reg (with_reg (lookup NoRegs) 2
    (TupleTy (MoreFields IntTy true (MoreFields (TupleTy (MoreFields IntTy true NoFields)) true NoFields)))) 3
    (TupleTy (MoreFields IntTy true NoFields)))
through_data_known = (_, refl, (_, (_, (_, refl, refl), refl), (_, (_, _, refl, refl, refl), (refl, refl))))

through_data_halts : HaltsWithin (plain_program through_data) 3 (pos 6)
through_data_halts =
    let s0 = start (plain_program through_data) _ refl in
    let s1 = step s0 Next _ (_, refl, refl, refl) in
    let s2 = step s1 Next _ (_, _, _, refl, refl, refl, (λ t e. cc), refl, refl) in
    let s3 = step s2 Next _ (_, _, _, refl, refl, refl, (λ t e. cc), refl, refl) in
    (3, omega arith, (_, _, s3.after, refl))

-- the erased machine: its heap, and that it halts with 6 after 3 steps
through_data_heap : erase_heap (plain_program through_data) ≡ (EInt (pos 5) ∷ EAddress 1 ∷ []) ∷ (EInt (pos 6) ∷ [])
    ∷ []
through_data_heap = refl

through_data_erased : (b : TBlock) × (e : _) × (slice_get (plain_program through_data).blocks 0 ≡ Some b)
    × (erun (erase_blocks (plain_program through_data)) 3 (begun (plain_program through_data) b)
    ≡ Some (EOn e (Spot 0 3) (0 ∷ []))) × EHaltedWith e (pos 6)
through_data_erased = (_, _, refl, refl, refl)

-- The word is no tuple. Data come before the blocks, so its fault is the first, and not that register 1 is no integer.
-- tal 2 | D0: data <5 : <>> | L0: code[]{}. halt[int]
abbrev pub word_of_another_type : SProg
word_of_another_type = record {
  blocks = block (span 24 26) 0 NoRegs [] Halt (span 38 47) ∷ [];
  heap = tuple (span 6 8) (datum (Plain (Int (pos 5)) []) (TupleTy NoFields) (span 16 17) ∷ []) ∷ [];
}

word_of_another_type_fault : ProgramFaultWith word_of_another_type T13 (span 16 17)
    (Some (Types (TupleTy NoFields) IntTy 0))
unfolding told few
word_of_another_type_fault =
    inr ((refl, refl), inl (inl (inl (inr (_, refl, inl ((λ e. cc), (refl, refl)))))))

-- A number takes no types.
-- tal 2 | D0: data <5[int] : int> | L0: code[]{}. halt[int]
abbrev word_with_types : SProg
word_with_types = record {
  blocks = block (span 30 32) 0 NoRegs [] Halt (span 44 53) ∷ [];
  heap = tuple (span 6 8) (datum (Plain (Int (pos 5)) (IntTy ∷ [])) IntTy (span 16 22) ∷ []) ∷ [];
}

word_with_types_fault : ProgramFaultWith word_with_types T17 (span 16 22) None
word_with_types_fault = inr ((refl, refl), inl (inl (inl (inl (inr (_, refl, (refl, refl)))))))

-- The package does not hide what its type says.
-- tal 2 | D0: data <pack[int,5] as some a. <> : some a. <>> | L0: code[]{}. halt[int]
abbrev word_of_no_package : SProg
word_of_no_package = record {
  blocks = block (span 56 58) 0 NoRegs [] Halt (span 70 79) ∷ [];
  heap = tuple (span 6 8)
      (datum (Pack IntTy (Plain (Int (pos 5)) []) (ExistsTy (TupleTy NoFields))) (ExistsTy (TupleTy NoFields))
      (span 16 41) ∷ []) ∷ [];
}

word_of_no_package_fault : ProgramFaultWith word_of_no_package T15 (span 16 41)
    (Some (Types (TupleTy NoFields) IntTy 0))
unfolding told few
word_of_no_package_fault =
    inr (
      (refl, refl),
      inl (inl (inl (inl (inr (_, refl, inl ((λ e. cc), (refl, refl))))))),
    )

-- The first block is checked before the data, and the data before the blocks.
-- tal 2 | D0: data <5 : <>> | L0: code[]{r1:int}. halt[int]
abbrev first_block_before_data : SProg
first_block_before_data = record {
  blocks = block (span 24 26) 0 (MoreRegs 1 IntTy NoRegs) [] Halt (span 44 53) ∷ [];
  heap = tuple (span 6 8) (datum (Plain (Int (pos 5)) []) (TupleTy NoFields) (span 16 17) ∷ []) ∷ [];
}

first_block_before_data_fault : ProgramFaultWith first_block_before_data T20 (span 24 26) None
first_block_before_data_fault = inl ((λ h. let e = h.1 in cc), (refl, refl))
