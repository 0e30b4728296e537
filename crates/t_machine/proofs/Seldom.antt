-- A run that executes no place often allocates no more than that many times what the program's instructions want.
use Rattle.std.proofs.Common.{◌≡◌, ℕ, zero, suc, ◌+◌, ◌*◌, List, [], ◌∷◌, map, Option, None}
use Rattle.std.proofs.Common.{refl, sym, ap, ◌∙◌, subst, arith}
use Rattle.t_terms.specs.Tree.{TInstr, Arith, Bnz, Ld, Malloc, Mov, St, Unpack}
use Rattle.t_terms.specs.Tree.{Jmp, Halt, TSeq, Then, Ends, TBlock, TProg}
use Rattle.t_rules.specs.Machine.{State, At, Place, After}
use Rattle.t_rules.specs.Erase.{EInstr, EArith, EBnz, ELd, EMalloc, EMov, ESt, ESeq, EThen, EJmp, EHalt}
use Rattle.t_rules.specs.Erase.{erase, erase_instr, erase_seq, erase_block}
use Rattle.t_rules.specs.LawsErased.{seq_of}
use Rattle.t_rules.specs.LawsTimes.{RunsWeighWithinTimes}
use Rattle.t_rules.specs.Weights.{next_weight, seq_weight, blocks_weight, run_weight}
use Rattle.t_machine.specs.Room.{asked_next, tuples_wanted, fields_wanted, tuples_made, fields_made}
use Rattle.t_machine.specs.Seldom.{asked_by, seq_wants, blocks_want, SeldomRunsAreCovered}
use Rattle.t_machine.proofs.Asking.{asked_code, asked_seq}
use Rattle.t_machine.proofs.Covering.{Within}

-- what an erased instruction wants, where f says what one wants that asks for this
module _ (f : Option ℕ → ℕ) where
  abbrev wants : EInstr → ℕ
  wants i = f (asked_code (EThen i EHalt))

  -- as the instruction does
  instr_wants : (i : TInstr) → wants (erase_instr i) ≡ f (asked_by i)
  instr_wants (Arith op d s v) = refl
  instr_wants (Bnz s v) = refl
  instr_wants (Ld d s n) = refl
  instr_wants (Malloc d ts) = refl
  instr_wants (Mov d v) = refl
  instr_wants (St d n s) = refl
  instr_wants (Unpack d v) = refl

  wants_in_seq : (c : TSeq) → seq_weight wants 0 (erase_seq c) ≡ seq_wants f c
  wants_in_seq (Then i c) = omega (arith, instr_wants i, wants_in_seq c)
  wants_in_seq (Ends (Jmp v)) = refl
  wants_in_seq (Ends Halt) = refl

  wants_in_blocks : (bs : List TBlock) → blocks_weight wants 0 (map erase_block bs) ≡ blocks_want f bs
  wants_in_blocks [] = refl
  wants_in_blocks (b ∷ bs) = omega (arith, wants_in_seq b.code, wants_in_blocks bs)

  -- what is asked for next
  module _ (none : f None ≡ 0) where
    next_wants : (c : ESeq) → next_weight wants 0 c ≡ f (asked_code c)
    next_wants (EThen (EArith op d s b) r) = refl
    next_wants (EThen (EBnz s b) r) = refl
    next_wants (EThen (ELd d s n) r) = refl
    next_wants (EThen (EMalloc d n) r) = refl
    next_wants (EThen (EMov d b) r) = refl
    next_wants (EThen (ESt d n s) r) = refl
    next_wants (EJmp b) = sym none
    next_wants EHalt = sym none

    step_wants : (s : State) → next_weight wants 0 (seq_of (erase s)) ≡ f (asked_next s)
    step_wants (At h r c) = next_wants (erase_seq c) ∙ ap f (asked_seq h r c)

-- the steps of a run allocate what they weigh
tuples_weigh : (P : TProg) (k : ℕ) (s : State) (p : Place) (run : After P k s p) →
    run_weight (wants tuples_wanted) 0 P k s p run ≡ tuples_made P k k s p run
tuples_weigh P zero s p run = refl
tuples_weigh P (suc k) s p run =
    omega (arith, tuples_weigh P k run.0 run.1 run.3, step_wants tuples_wanted refl run.0)

fields_weigh : (P : TProg) (k : ℕ) (s : State) (p : Place) (run : After P k s p) →
    run_weight (wants fields_wanted) 0 P k s p run ≡ fields_made P k k s p run
fields_weigh P zero s p run = refl
fields_weigh P (suc k) s p run =
    omega (arith, fields_weigh P k run.0 run.1 run.3, step_wants fields_wanted refl run.0)

pub seldom_covered : RunsWeighWithinTimes → SeldomRunsAreCovered
unfolding Within
seldom_covered law P n seldom t f enough room k j s p run le =
    let all : j ≡ 0 + j = omega arith in
    subst (Within P j t f) all here s p run
  where
    here : Within P j t f j
    here u q way =
        let tuples = law (wants tuples_wanted) 0 P j u q way n (seldom j u q way) in
        let fields = law (wants fields_wanted) 0 P j u q way n (seldom j u q way) in
        let made = tuples_weigh P j u q way in
        let filled = fields_weigh P j u q way in
        let count = ap (λ k. n * k) (wants_in_blocks tuples_wanted P.blocks) in
        let size = ap (λ k. n * k) (wants_in_blocks fields_wanted P.blocks) in
        (omega (arith, tuples, made, count, enough), omega (arith, fields, filled, size, room))
