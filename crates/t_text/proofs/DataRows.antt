-- Worked texts with data: what they stand for, and their first faults.
use Rattle.std.proofs.Common.{◌≡◌, ℕ, List, [], ◌∷◌, ◌++◌, map, replicate, codes, refl, pos, negsuc, true}
use Rattle.idx_core.specs.declared.span.Span.{Span}
use Rattle.t_types.specs.Tree.{IntTy, VarTy, CodeTy, ExistsTy, TupleTy, NoRegs, MoreRegs, NoFields, MoreFields}
use Rattle.t_terms.specs.declared.fault.TCode.TheVariants.{T03, T04, T05, T06, T07, M1}
use Rattle.t_terms.specs.Tree.{Int, Label, Data, Plain, Pack, Mov, Ld, Jmp, Halt, Then, Ends, TProg}
use Rattle.t_terms.specs.Spanned.{SData, SProg, plain_program}
use Rattle.t_text.specs.Text.{ReadsAs, FirstFault}
use Rattle.t_text.proofs.Worked.{Answer, Stand, Fault, Open, answer, reads, faulty}

abbrev no_program : TProg
no_program = record { blocks = []; heap = [] }

-- the program that an answer shows
abbrev shown : Answer → TProg
shown (Stand P) = plain_program P
shown (Fault code span) = no_program
shown Open = no_program

-- two data tuples, of which the first names the second, and a block that reads through both
abbrev linked_text : List ℕ
linked_text =
    codes "tal 2\nD0: data <5 : int, D1 : <int^1>>\nD1: data <6 : int>\n"
    ++ codes "L0: code[]{}. mov r2, D0 ld r3, r2[1] ld r1, r3[0] halt[int]"

abbrev linked : SProg
linked = record {
  blocks =
      record {
        name = record { start = 58; end = 60 };
        owes = 0;
        file = NoRegs;
        body =
            (Mov 2 (Plain (Data 0) []), record { start = 72; end = 82 }) ∷
            ((Ld 3 2 1, record { start = 83; end = 95 }) ∷ ((Ld 1 3 0, record { start = 96; end = 108 }) ∷ []));
        last = Halt;
        last_span = record { start = 109; end = 118 };
      } ∷ [];
  heap =
      record {
        name = record { start = 6; end = 8 };
        fields =
            record { value = Plain (Int (pos 5)) []; ty = IntTy; span = record { start = 16; end = 17 } } ∷
            (record {
              value = Plain (Data 1) [];
              ty = TupleTy (MoreFields IntTy true NoFields);
              span = record { start = 25; end = 27 };
            } ∷ []);
      } ∷
      (record {
        name = record { start = 39; end = 41 };
        fields = record { value = Plain (Int (pos 6)) []; ty = IntTy; span = record { start = 49; end = 50 } } ∷ [];
      } ∷ []);
}

link : ReadsAs linked_text linked
link = reads _ _ refl

-- the place of data among blocks does not matter, nor do the names of labels
abbrev moved_text : List ℕ
moved_text =
    codes "tal 02 main: code[]{}. mov r2, x ld r3, r2[1] ld r1, r3[0] halt[int] "
    ++ codes "x: data <05 : int, y : <int^1>> y: data <6 : int>"

moved : shown (answer moved_text) ≡ plain_program linked
moved = refl

-- without data the version does not matter
jumps : shown (answer (codes "tal 2\nL0: code[]{}. jmp L0")) ≡ shown (answer (codes "tal 1\nL0: code[]{}. jmp L0"))
jumps = refl

-- blocks and data are numbered apart, and either may be named before it stands
abbrev mixed_text : List ℕ
mixed_text =
    codes "tal 2\nA: data <B : all[]{}, C : <>>\nB: code[]{}. mov r1, C jmp E\n"
    ++ codes "C: data <>\nE: code[]{}. mov r1, A jmp B"

apart : shown (answer mixed_text) ≡
    record {
      blocks =
          record { owes = 0; file = NoRegs; code = Then (Mov 1 (Plain (Data 1) [])) (Ends (Jmp (Plain (Label 1) []))) }
          ∷ (record {
            owes = 0;
            file = NoRegs;
            code = Then (Mov 1 (Plain (Data 0) [])) (Ends (Jmp (Plain (Label 0) [])));
          } ∷ []);
      heap =
          (record { value = Plain (Label 0) []; ty = CodeTy 0 NoRegs } ∷
          (record { value = Plain (Data 1) []; ty = TupleTy NoFields } ∷ []))
          ∷ ([] ∷ []);
    }
apart = refl

-- a label with types, and packages in one another; a value's place is from its first to its last token
abbrev packed_text : List ℕ
packed_text =
    codes "tal 2 L: code[a]{r1:a}. jmp L[int] D: data <L[int] : all[]{r1:int}, "
    ++ codes "pack[int, pack[<>, ~7] as some a. int] as some b. some a. b : some b. some a. b>"

abbrev packed : Answer
packed = answer packed_text

packages : shown packed ≡ record {
  blocks =
      record { owes = 1; file = MoreRegs 1 (VarTy 0) NoRegs; code = Ends (Jmp (Plain (Label 0) (IntTy ∷ []))) } ∷ [];
  heap =
      (record { value = Plain (Label 0) (IntTy ∷ []); ty = CodeTy 0 (MoreRegs 1 IntTy NoRegs) } ∷
      (record {
        value =
            Pack IntTy (Pack (TupleTy NoFields) (Plain (Int (negsuc 6)) []) (ExistsTy IntTy))
            (ExistsTy (ExistsTy (VarTy 1)));
        ty = ExistsTy (ExistsTy (VarTy 1));
      } ∷ []))
      ∷ [];
}
packages = refl

abbrev places_in : List SData → List Span
places_in [] = []
places_in (x ∷ xs) = map (λ y. y.span) x.fields ++ places_in xs

abbrev places : Answer → List Span
places (Stand P) = places_in P.heap
places (Fault code span) = span ∷ []
places Open = []

value_places : places packed ≡ (record { start = 44; end = 50 } ∷ (record { start = 68; end = 127 } ∷ []))
value_places = refl

-- the grammar of the first version has no data, and that of either one block at least
in_first : FirstFault (codes "tal 1\nD0: data <5 : <>>\nL0: code[]{}. halt[int]") T03 (record { start = 10; end = 14 })
in_first = faulty _ _ _ _ refl

no_block : FirstFault (codes "tal 2\nD0: data <>") T03 (record { start = 17; end = 17 })
no_block = faulty _ _ _ _ refl

no_item : FirstFault (codes "tal 2\n") T03 (record { start = 6; end = 6 })
no_item = faulty _ _ _ _ refl

-- no register in data, also in a package; a type for each value; no other word after a label
register : FirstFault (codes "tal 2 D: data <r1 : int> L: code[]{}. halt[int]") T03 (record { start = 15; end = 17 })
register = faulty _ _ _ _ refl

packed_register : FirstFault (codes "tal 2 D: data <pack[int, r1] as some a. a : int>") T03
    (record { start = 25; end = 27 })
packed_register = faulty _ _ _ _ refl

no_type : FirstFault (codes "tal 2 D: data <5> L: code[]{}. halt[int]") T03 (record { start = 16; end = 17 })
no_type = faulty _ _ _ _ refl

no_kind : FirstFault (codes "tal 2 L: code[]{}. halt[int] D: <5 : int>") T03 (record { start = 32; end = 33 })
no_kind = faulty _ _ _ _ refl

-- one set of labels: for a block and a data tuple, the other way round, and for two data tuples
data_again : FirstFault (codes "tal 2 L0: code[]{}. halt[int] L0: data <>") T04 (record { start = 30; end = 32 })
data_again = faulty _ _ _ _ refl

block_again : FirstFault (codes "tal 2 L0: data <> L0: code[]{}. halt[int]") T04 (record { start = 18; end = 20 })
block_again = faulty _ _ _ _ refl

twice : FirstFault (codes "tal 2 D: data <> D: data <> L: code[]{}. halt[int]") T04 (record { start = 17; end = 18 })
twice = faulty _ _ _ _ refl

-- names in data, in the order of the text: no type name is bound there
unknown : FirstFault (codes "tal 2 D: data <L : all[]{}, E : a> L: code[]{}. halt[int]") T05
    (record { start = 28; end = 29 })
unknown = faulty _ _ _ _ refl

unbound : FirstFault (codes "tal 2 L: code[a]{}. halt[int] D: data <L[a] : a> D: data <E : b>") T06
    (record { start = 41; end = 42 })
unbound = faulty _ _ _ _ refl

second_register : FirstFault (codes "tal 2 D: data <L : all[]{r1:int, r1:int}> L: code[]{}. jmp X") T07
    (record { start = 33; end = 35 })
second_register = faulty _ _ _ _ refl

-- the brackets of data count
deep : FirstFault (codes "tal 2 D: data <5 : " ++ replicate 1999 60) T03 (record { start = 2018; end = 2018 })
deep = faulty _ _ _ _ refl

too_deep : FirstFault (codes "tal 2 D: data <5 : " ++ replicate 2000 60) M1 (record { start = 2018; end = 2019 })
too_deep = faulty _ _ _ _ refl
