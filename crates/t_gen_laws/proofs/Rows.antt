-- Worked programs: typed, run by their meaning, and generated.
use Rattle.std.proofs.Common.{◌≡◌, ℕ, suc, List, [], ◌∷◌, Option, Some, None, refl, ap, arith, slice_get, take}
use Rattle.std.specs.Prelude.{ℤ, pos}
use Rattle.std.specs.Int.{int_wrap}
use Rattle.idx_core.specs.declared.arith.Op.TheVariants.{Add, Sub, Mul}
use Rattle.a_terms.specs.Tree.{ATy, AInt, AVar, NoATys, MoreATys, AVal, Var, Num, Lab, Arith, ATm, Let, Call, If0}
use Rattle.a_terms.specs.Tree.{Halt, AProg}
use Rattle.a_terms.specs.Typing.{Fine, type_of, Has, TypedProgram}
use Rattle.a_terms.specs.Meaning.{Halted, meaning}
use Rattle.t_types.specs.Tree.{IntTy, VarTy, ExistsTy, NoRegs, MoreRegs}
use Rattle.t_terms.specs.Tree as T
use Rattle.t_terms.specs.Tree.{TSeq, Then, Ends, TBlock, TProg}
use Rattle.t_terms.specs.Whole.{WellFormedProgram}
use Rattle.t_rules.specs.Rules.{Accepted}
use Rattle.t_rules.specs.Machine.{Place}
use Rattle.t_rules.specs.Erase.{EState, erase_blocks, EHaltedWith}
use Rattle.t_rules.specs.ErasedRuns.{EOn, erun, begun}
use Rattle.t_gen_rules.specs.Gen.{reg, generated}
use Rattle.t_gen_laws.specs.Layout.{Layout}
use Rattle.t_gen_laws.specs.Worked.{factorial, of_five, downs_alone, counting, example, of_eight, exchange, exchanging}
use Rattle.t_gen_laws.specs.Worked.{alone, nested, assigned, placing, placed}
use Rattle.t_gen_laws.proofs.Accepted.{accepted}
use Rattle.t_gen_laws.proofs.Wholes.{whole}

has : {p : AProg} {k : ℕ} {g : List ATy} {v : AVal} {t : ATy} → Fine p k g v → type_of p g v ≡ Some t → Has p k g v t
has f e = record { fine = f; is = e }

-- the erased machine is halted with i after n steps
abbrev ErasedHalts : TProg → ℕ → ℤ → Type 0
ErasedHalts P n i = (b : TBlock) × (e : EState) × (q : Place) × (log : List ℕ) × (slice_get P.blocks 0 ≡ Some b)
    × (erun (erase_blocks P) n (begun P b) ≡ Some (EOn e q log)) × EHaltedWith e i

factorial_means : meaning factorial of_five 12 ≡ Halted (pos 120) (2 ∷ 1 ∷ 1 ∷ 1 ∷ 1 ∷ 1 ∷ 0 ∷ 0 ∷ 0 ∷ 0 ∷ 0 ∷ 0 ∷ [])
unfolding int_wrap
factorial_means = refl

factorial_typed : TypedProgram factorial of_five
factorial_typed = record {
  blocks = (
    (
      search arith,
      (
        has tt refl,
        (
          (_, has tt refl),
          (
            (_, 0, _, has tt refl, refl, refl, refl),
            (
              (_, 1, _, has tt refl, refl, refl, refl),
              (_, _, has tt refl, tt, refl, (has tt refl, (has tt refl, tt))),
            ),
          ),
        ),
        (
          search arith,
          (
            (_, 0, _, has tt refl, has tt refl, refl, refl),
            (
              (_, 1, _, has tt refl, has tt refl, refl, refl),
              (
                search arith,
                (
                  (_, 0, _, has tt refl, has tt refl, refl, refl),
                  (
                    (_, 1, _, has tt refl, has tt refl, refl, refl),
                    (
                      (_, has (_, tt, search arith, search arith, refl, refl) refl),
                      (
                        (has tt refl, has tt refl),
                        (_, _, has tt refl, tt, refl, (has tt refl, (has tt refl, tt))),
                      ),
                    ),
                  ),
                ),
              ),
            ),
          ),
        ),
      ),
    ),
    (
      (
        search arith,
        (
          (_, 0, _, has tt refl, refl, refl, refl),
          (
            (_, 1, _, has tt refl, refl, refl, refl),
            (
              (has tt refl, has tt refl),
              (
                (_, has tt refl),
                (
                  (_, 0, _, has tt refl, refl, refl, refl),
                  (
                    (_, 1, _, has tt refl, refl, refl, refl),
                    (_, _, has tt refl, tt, refl, (has tt refl, (has tt refl, tt))),
                  ),
                ),
              ),
            ),
          ),
        ),
      ),
      ((search arith, has tt refl), tt),
    ),
  );
  tuples = (tt, (((has tt refl, search arith, tt), ((has tt refl, search arith, tt), tt)), tt));
  main_ok =
      (_, _, has tt refl, tt, refl, (has tt refl, (has (_, tt, search arith, search arith, refl, refl) refl, tt)));
}

factorial_accepted : Accepted (generated factorial of_five)
factorial_accepted = accepted factorial of_five factorial_typed

factorial_whole : WellFormedProgram (generated factorial of_five)
factorial_whole = whole factorial of_five factorial_typed (100, search arith, search arith, search arith)

-- five blocks and two data tuples; the machine of the generated program halts with 120
factorial_halts : ErasedHalts (generated factorial of_five) 100 (pos 120)
unfolding int_wrap
factorial_halts = (_, _, _, _, refl, refl, refl)

down_typed : TypedProgram downs_alone counting
down_typed = record {
  blocks = (
    (
      search arith,
      (
        has tt refl,
        has tt refl,
        ((has tt refl, has tt refl), (_, _, has tt refl, search arith, refl, (has tt refl, (has tt refl, tt)))),
      ),
    ),
    tt,
  );
  tuples = tt;
  main_ok = (
    search arith,
    (
      (_, 0, _, has tt refl, has tt refl, refl, refl),
      (
        (_, 0, _, has tt refl, refl, refl, refl),
        (
          (AVar 0, has (AVar 0, tt, tt, search arith, refl, refl) refl),
          (_, _, has (tt, search arith) refl, tt, refl, (has tt refl, (has tt refl, tt))),
        ),
      ),
    ),
  );
}

down_accepted : Accepted (generated downs_alone counting)
down_accepted = accepted downs_alone counting down_typed

down_whole : WellFormedProgram (generated downs_alone counting)
down_whole = whole downs_alone counting down_typed (40, search arith, tt, search arith)

down_means : meaning downs_alone counting 5 ≡ Halted (pos 7) (0 ∷ 0 ∷ 0 ∷ 0 ∷ [])
unfolding int_wrap
down_means = refl

-- an `if0` under a type variable
down_halts : ErasedHalts (generated downs_alone counting) 18 (pos 7)
unfolding int_wrap
down_halts = (_, _, _, _, refl, refl, refl)

-- the program of the document on the passes: 41 instructions
example_halts : ErasedHalts (generated example of_eight) 41 (pos 9)
unfolding int_wrap
example_halts = (_, _, _, _, refl, refl, refl)

-- a register that a later argument reads is saved, and its own argument is not moved twice
exchanged_is : (generated exchange exchanging).blocks
    ≡ (record {
      owes = 0;
      file = NoRegs;
      code = (Then (T.Mov 1 (T.Plain (T.Int (pos 3)) []))
          (Then (T.Mov 2 (T.Plain (T.Int (pos 0)) [])) (Ends (T.Jmp (T.Plain (T.Label 1) [])))));
    }
    ∷ record {
      owes = 0;
      file = (MoreRegs 1 IntTy (MoreRegs 2 IntTy NoRegs));
      code = (Then (T.Bnz 1 (T.Plain (T.Label 2) [])) (Then (T.Mov 1 (reg 2)) (Ends T.Halt)));
    }
    ∷ record {
      owes = 0;
      file = (MoreRegs 1 IntTy (MoreRegs 2 IntTy NoRegs));
      code = (Then (T.Mov 3 (reg 1))
          (Then (T.Mov 1 (reg 2)) (Then (T.Mov 2 (reg 3)) (Ends (T.Jmp (T.Plain (T.Label 1) []))))));
    } ∷ [])
exchanged_is = refl

-- a package inside a package is put into a register first
nested_is : (generated alone nested).blocks
    ≡ (record {
      owes = 0;
      file = NoRegs;
      code = (Then (T.Mov 1 (T.Pack IntTy (T.Plain (T.Int (pos 7)) []) (ExistsTy (VarTy 0))))
          (Then (T.Mov 1 (T.Pack (ExistsTy (VarTy 0)) (reg 1) (ExistsTy (VarTy 0))))
          (Then (T.Unpack 1 (reg 1)) (Then (T.Mov 1 (T.Plain (T.Int (pos 1)) [])) (Ends T.Halt)))));
    } ∷ [])
nested_is = refl

-- a tuple stays in its register, and the third part takes the one register that it reads
assigned_is : (generated alone assigned).blocks
    ≡ (record {
      owes = 0;
      file = NoRegs;
      code = (Then (T.Malloc 1 (IntTy ∷ []))
          (Then (T.Mov 2 (T.Plain (T.Int (pos 3)) []))
          (Then (T.St 1 0 2)
          (Then (T.Mov 2 (T.Plain (T.Int (pos 4)) []))
          (Then (T.St 1 0 2)
          (Then (T.Mov 2 (T.Plain (T.Int (pos 20)) []))
          (Then (T.Arith Add 2 2 (T.Plain (T.Int (pos 1)) []))
          (Then (T.Ld 1 1 0)
          (Then (T.Bnz 1 (T.Plain (T.Label 1) []))
          (Then (T.Mov 1 (T.Plain (T.Int (pos 0)) [])) (Ends T.Halt)))))))))));
    }
    ∷ record { owes = 0; file = (MoreRegs 1 IntTy NoRegs); code = (Ends T.Halt) } ∷ [])
assigned_is = refl

-- variables stand where the call wants them; one whose register is in use, and the code, stand above the arguments
placed_is : (generated placing placed).blocks
    ≡ (record {
      owes = 0;
      file = NoRegs;
      code = (Then (T.Mov 1 (T.Plain (T.Int (pos 2)) []))
          (Then (T.Arith Mul 2 1 (T.Plain (T.Int (pos 3)) []))
          (Then (T.Arith Add 1 2 (T.Plain (T.Int (pos 1)) [])) (Ends (T.Jmp (T.Plain (T.Label 1) []))))));
    }
    ∷ record {
      owes = 0;
      file = (MoreRegs 1 IntTy (MoreRegs 2 IntTy NoRegs));
      code = (Then (T.Mov 3 (T.Plain (T.Label 2) []))
          (Then (T.Arith Sub 4 1 (reg 2))
          (Then (T.Mov 5 (reg 1)) (Then (T.Mov 1 (reg 4)) (Then (T.Mov 2 (reg 5)) (Ends (T.Jmp (reg 3))))))));
    }
    ∷ record {
      owes = 0;
      file = (MoreRegs 1 IntTy (MoreRegs 2 IntTy NoRegs));
      code = (Then (T.Arith Add 1 1 (reg 2)) (Ends T.Halt));
    } ∷ [])
placed_is = refl

-- main: if 0 is 0 then L0(5, 2) else halt 1; L0(x: int, y: int). d = x - y; halt d
abbrev minus : AProg
minus = record {
  blocks = record {
    owes = 0;
    args = MoreATys AInt (MoreATys AInt NoATys);
    body = Let (Arith Sub (Var 1) (Var 0)) (Halt (Var 0));
  } ∷ [];
  tuples = [];
}

abbrev choice : ATm
choice = If0 (Num (pos 0)) (Call (Lab 0) NoATys (Num (pos 5) ∷ Num (pos 2) ∷ [])) (Halt (Num (pos 1)))

abbrev number_in : ℕ → ℤ → TSeq → TSeq
number_in r i rest = Then (T.Mov r (T.Plain (T.Int i) [])) rest

-- a call puts its arguments into the registers from 1 on; `called` is the register of the first one
abbrev pub calls_minus : ℕ → TSeq
calls_minus called = number_in called (pos 5) (number_in (suc called) (pos 2) (Ends (T.Jmp (T.Plain (T.Label 1) []))))

abbrev halts_with_one : TSeq
halts_with_one = number_in 1 (pos 1) (Ends T.Halt)

-- block 0 is the main term, block 1 the one block, and block 2 the third part of the `if0`; these are what main does
-- where the test is 0, and the third part
abbrev minus_code : TSeq → TSeq → TProg
minus_code now third = record {
  blocks =
      record { owes = 0; file = NoRegs; code = number_in 1 (pos 0) (Then (T.Bnz 1 (T.Plain (T.Label 2) [])) now) }
      ∷ record {
        owes = 0;
        file = MoreRegs 1 IntTy (MoreRegs 2 IntTy NoRegs);
        code = Then (T.Arith Sub 1 1 (T.Plain (T.Reg 2) [])) (Ends T.Halt);
      }
      ∷ record { owes = 0; file = NoRegs; code = third }
      ∷ [];
  heap = [];
}

minus_is_generated : generated minus choice ≡ minus_code (calls_minus 1) halts_with_one
minus_is_generated = refl

-- what main does where the test is 0
abbrev after_two : TSeq → TSeq
after_two (Then i (Then j rest)) = rest
after_two s = s

abbrev after_test : Option TBlock → TSeq
after_test None = Ends T.Halt
after_test (Some b) = after_two b.code

-- the branches exchanged are no layout
exchanged : Layout minus choice (minus_code halts_with_one (calls_minus 1)) → ⊥
exchanged l = clash (ap after_test l.main_block)
  where
    clash : halts_with_one ≡ calls_minus 1 → ⊥
    clash e = cc

-- nor are arguments in the neighbouring registers
neighbouring : Layout minus choice (minus_code (calls_minus 2) halts_with_one) → ⊥
neighbouring l = clash (ap after_test l.main_block)
  where
    clash : calls_minus 2 ≡ calls_minus 1 → ⊥
    clash e = cc

-- nor is a program without the third part
abbrev two_blocks : TProg
two_blocks = record { blocks = take 2 (minus_code (calls_minus 1) halts_with_one).blocks; heap = [] }

left_out : Layout minus choice two_blocks → ⊥
left_out l = omega (arith, l.count)
