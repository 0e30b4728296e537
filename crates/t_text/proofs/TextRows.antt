-- Worked texts: what they stand for, and their first faults.
use Rattle.std.proofs.Common.{◌≡◌, ℕ, List, [], ◌∷◌, ◌++◌, map, take, replicate, codes, refl, pos, negsuc, true, false}
use Rattle.idx_core.specs.declared.arith.Op.TheVariants.{Add, Sub, Mul}
use Rattle.t_types.specs.Tree.{IntTy, VarTy, CodeTy, ExistsTy, TupleTy, NoRegs, MoreRegs, NoFields, MoreFields}
use Rattle.t_terms.specs.declared.fault.TCode.TheVariants.{T01, T02, T03, T04, T05, T06, T07, M1}
use Rattle.t_terms.specs.Tree.{Reg, Int, Label, Plain, Pack, Arith, Bnz, Ld, Malloc, Mov, St, Unpack, Jmp, Halt}
use Rattle.t_terms.specs.Tree.{TBlock, Then, Ends}
use Rattle.t_terms.specs.Spanned.{SProg, plain_program}
use Rattle.t_text.specs.Text.{ReadsAs, FirstFault}
use Rattle.t_text.proofs.Worked.{Answer, Stand, Fault, Open, answer, reads, faulty}

-- a block that jumps to itself
abbrev jump_text : List ℕ
jump_text = codes "tal 1\nL0: code[]{}. jmp L0"

abbrev jumps : SProg
jumps = record {
  blocks = record {
    name = record { start = 6; end = 8 };
    owes = 0;
    file = NoRegs;
    body = [];
    last = Jmp (Plain (Label 0) []);
    last_span = record { start = 20; end = 26 };
  } ∷ [];
  heap = [];
}

jump : ReadsAs jump_text jumps
jump = reads _ _ refl

-- what each beginning of that text is refused by: at its end, but where its last token is none yet
abbrev at_end : ℕ → Answer
at_end k = Fault T03 (record { start = k; end = k })

abbrev in_token : ℕ → ℕ → Answer
in_token i k = Fault T03 (record { start = i; end = k })

beginnings : map (λ k. answer (take k jump_text))
    (0
    ∷ (1
    ∷ (2
    ∷ (3
    ∷ (4
    ∷ (5
    ∷ (6
    ∷ (7
    ∷ (8
    ∷ (9
    ∷ (10
    ∷ (11
    ∷ (12
    ∷ (13
    ∷ (14
    ∷ (15
    ∷ (16
    ∷ (17
    ∷ (18
    ∷ (19 ∷ (20 ∷ (21 ∷ (22 ∷ (23 ∷ (24 ∷ (25 ∷ [])))))))))))))))))))))))))) ≡
    (at_end 0 ∷ (in_token 0 1
    ∷ (in_token 0 2
    ∷ (at_end 3 ∷ (at_end 4
    ∷ (at_end 5 ∷ (at_end 6
    ∷ (at_end 7 ∷ (at_end 8 ∷ (at_end 9 ∷ (at_end 10 ∷ (in_token 10 11 ∷ (in_token 10 12 ∷
    (in_token 10 13
    ∷ (at_end 14
    ∷ (at_end 15
    ∷ (at_end 16
    ∷ (at_end 17
    ∷ (at_end 18 ∷ (at_end 19 ∷ (at_end 20 ∷ (in_token 20 21 ∷ (in_token 20 22 ∷ (at_end 23 ∷ (at_end 24 ∷
    (Fault T05 (record { start = 24; end = 25 }) ∷ []))))))))))))))))))))))))))
beginnings = refl

-- one row for each fault
empty : FirstFault (codes "") T03 (record { start = 0; end = 0 })
empty = faulty _ _ _ _ refl

no_token : FirstFault (codes "tal 1 $") T01 (record { start = 6; end = 7 })
no_token = faulty _ _ _ _ refl

out_of_range : FirstFault (codes "tal 1\nL0: code[]{}. mov r0, 1 halt[int]") T02 (record { start = 24; end = 26 })
out_of_range = faulty _ _ _ _ refl

second_label : FirstFault (codes "tal 1\nL0: code[]{}. jmp L0\nL0: code[]{}. jmp L0") T04
    (record { start = 27; end = 29 })
second_label = faulty _ _ _ _ refl

unknown_label : FirstFault (codes "tal 1\nL0: code[]{}. jmp L9") T05 (record { start = 24; end = 26 })
unknown_label = faulty _ _ _ _ refl

unknown_type : FirstFault (codes "tal 1\nL0: code[]{}. malloc r1[a] jmp L0") T06 (record { start = 30; end = 31 })
unknown_type = faulty _ _ _ _ refl

second_register : FirstFault (codes "tal 1\nL0: code[]{r1:int,r1:int}. halt[int]") T07 (record { start = 24; end = 26 })
second_register = faulty _ _ _ _ refl

-- another number after `tal`, and a reserved word that no form has
other_version : FirstFault (codes "tal 3\nL0: code[]{}. halt[int]") T03 (record { start = 4; end = 5 })
other_version = faulty _ _ _ _ refl

negative_version : FirstFault (codes "tal ~2\nL0: code[]{}. halt[int]") T03 (record { start = 4; end = 6 })
negative_version = faulty _ _ _ _ refl

reserved : FirstFault (codes "tal 1 data") T03 (record { start = 6; end = 10 })
reserved = faulty _ _ _ _ refl

-- the program that an answer shows
abbrev shown : Answer → List TBlock
shown (Stand P) = (plain_program P).blocks
shown (Fault code span) = []
shown Open = []

-- Texts that differ in names, in the order of a file and in comments stand for one program.
abbrev three_blocks : List TBlock
three_blocks =
    record {
      owes = 0;
      file = NoRegs;
      code = Then (Mov 1 (Plain (Int (pos 5)) []))
          (Then (Mov 2 (Plain (Label 2) [])) (Ends (Jmp (Plain (Label 1) (IntTy ∷ [])))));
    } ∷
    (record {
      owes = 1;
      file = MoreRegs 1 (VarTy 0) (MoreRegs 2 (CodeTy 0 (MoreRegs 1 (VarTy 0) NoRegs)) NoRegs);
      code = Ends (Jmp (Plain (Reg 2) []));
    } ∷
    (record { owes = 0; file = MoreRegs 1 IntTy NoRegs; code = Ends Halt } ∷ []))

first_text :
    shown (answer
    (codes
    "tal 1\nL0: code[]{}. mov r1, 5 mov r2, L2 jmp L1[int]\nL1: code[a]{r1:a, r2:all[]{r1:a}}. jmp r2\nL2: code[]{r1:int}. halt[int]"))
    ≡ three_blocks
first_text = refl

second_text :
    shown (answer
    (codes
    "tal 1\n-- L0\nL0: code[]{}. mov r1, 5 mov r2, L2 jmp L1[int]\n-- L1\nL1: code[zz]{r2:all[]{r1:zz}, r1:zz}. jmp r2\n-- L2\nL2: code[]{r1:int}. halt[int]"))
    ≡ three_blocks
second_text = refl

-- one text for each of the other forms
stored : shown
    (answer (codes
    "tal 1\nL0: code[]{}.\nmalloc r1[int]\nmov r2, r1\nmov r3, 5\nst r1[0], r3\nld r1, r2[0]\nhalt[int]\n")) ≡
    (record {
      owes = 0;
      file = NoRegs;
      code = Then (Malloc 1 (IntTy ∷ []))
          (Then (Mov 2 (Plain (Reg 1) []))
          (Then (Mov 3 (Plain (Int (pos 5)) [])) (Then (St 1 0 3) (Then (Ld 1 2 0) (Ends Halt)))));
    } ∷ [])
stored = refl

two_blocks : shown (answer (codes "tal 1\nL0: code[]{}. mov r1, 5 mov r2, 6 jmp L1\nL1: code[]{r1:int}. halt[int]")) ≡
    (record {
      owes = 0;
      file = NoRegs;
      code = Then (Mov 1 (Plain (Int (pos 5)) []))
          (Then (Mov 2 (Plain (Int (pos 6)) [])) (Ends (Jmp (Plain (Label 1) []))));
    } ∷
    (record { owes = 0; file = MoreRegs 1 IntTy NoRegs; code = Ends Halt } ∷ []))
two_blocks = refl

packed : shown
    (answer (codes "tal 1\nL0: code[]{}. mov r1, pack[int,3] as some a. a unpack[b,r1], r1 add r1, r1, 1 halt[int]")) ≡
    (record {
      owes = 0;
      file = NoRegs;
      code = Then (Mov 1 (Pack IntTy (Plain (Int (pos 3)) []) (ExistsTy (VarTy 0))))
          (Then (Unpack 1 (Plain (Reg 1) [])) (Then (Arith Add 1 1 (Plain (Int (pos 1)) [])) (Ends Halt)));
    } ∷ [])
packed = refl

branching : shown (answer (codes "tal 1\nL0: code[]{}. mul r1, r2, ~7 sub r2, r1, r3 bnz r1, L0 st r1[10], r4 jmp L0"))
    ≡
    (record {
      owes = 0;
      file = NoRegs;
      code = Then (Arith Mul 1 2 (Plain (Int (negsuc 6)) []))
          (Then (Arith Sub 2 1 (Plain (Reg 3) []))
          (Then (Bnz 1 (Plain (Label 0) [])) (Then (St 1 10 4) (Ends (Jmp (Plain (Label 0) []))))));
    } ∷ [])
branching = refl

-- an equal later name hides an earlier one, and an inner one an outer one; a number is its value
hidden : shown
    (answer (codes
    "tal 01 L : code[a,a]{r2:all[b]{r1:a},r1:a}. malloc r1[<int^~0,some a. a^1>] mov r003, ~0 halt[int]")) ≡
    (record {
      owes = 2;
      file = MoreRegs 1 (VarTy 0) (MoreRegs 2 (CodeTy 1 (MoreRegs 1 (VarTy 1) NoRegs)) NoRegs);
      code = Then (Malloc 1 (TupleTy (MoreFields IntTy false (MoreFields (ExistsTy (VarTy 0)) true NoFields)) ∷ []))
          (Then (Mov 3 (Plain (Int (pos 0)) [])) (Ends Halt));
    } ∷ [])
hidden = refl

-- of four names the last is the innermost
in_order : shown (answer (codes "tal 1\nL: code[a,b,a,c]{r1:a,r2:b,r3:c}. halt[int]")) ≡
    (record {
      owes = 4;
      file = MoreRegs 1 (VarTy 1) (MoreRegs 2 (VarTy 2) (MoreRegs 3 (VarTy 0) NoRegs));
      code = Ends Halt;
    } ∷ [])
in_order = refl

-- as many constructs as may be open, and one more
deep : FirstFault (codes "tal 1\nL0: code[]{}. malloc r1[" ++ replicate 1999 60) T03
    (record { start = 2029; end = 2029 })
deep = faulty _ _ _ _ refl

too_deep : FirstFault (codes "tal 1\nL0: code[]{}. malloc r1[" ++ replicate 2000 60) M1
    (record { start = 2029; end = 2030 })
too_deep = faulty _ _ _ _ refl
