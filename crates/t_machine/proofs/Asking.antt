-- What an instruction of the machine asks for is what the program's next instruction asks for.
use Rattle.std.proofs.Common.{◌≡◌, ℕ, suc, List, ◌∷◌, drop, Option, Some, None, refl, sym, ap, ◌∙◌, slice_get, ⊎_elim}
use Rattle.t_terms.specs.Tree.{TSeq, Then, Ends, TProg}
use Rattle.t_terms.specs.Tree as tree
use Rattle.t_terms.specs.Whole.{WellFormedProgram}
use Rattle.t_rules.specs.Rules.{Accepted}
use Rattle.t_rules.specs.Machine.{Heap, RegWords, State, At, Place, Spot, After}
use Rattle.t_rules.specs.Erase.{EInstr, EMalloc, ESeq, EThen, EHeap, ERegs, EAt, erase, erase_seq}
use Rattle.t_machine.specs.ProgramLaws.{ProgramLaws}
use Rattle.t_machine.specs.Places.{PlaceList}
use Rattle.t_machine.specs.Action.{Action, action, Arith, Bnz, Ld, Malloc, Mov, St, Jmp, Halt}
use Rattle.t_machine.specs.Code.{IsInstr, IsEnd, Holds}
use Rattle.t_machine.specs.Room.{asked, asked_next}
use Rattle.t_machine.specs.State.{Represents}
use Rattle.t_collect.specs.declared.word.Word.{Word}
use Rattle.t_machine.specs.declared.heap.Heap as declared
use Rattle.t_machine.specs.declared.code.Code.{Code}
use Rattle.t_machine.specs.declared.code.Instruction.{Instruction}
use Rattle.t_machine.specs.declared.code.Instruction.TheVariants as code
use Rattle.t_machine.proofs.Standing.{holds_here}

abbrev pub asked_code : ESeq → Option ℕ
asked_code (EThen (EMalloc rd n) r) = Some n
asked_code other = None

asked_action : Action → Option ℕ
asked_action (Malloc d n) = Some n
asked_action other = None

asked_is : (o : Instruction) → asked o ≡ asked_action (action o)
unfolding asked_action
asked_is (code.Malloc d n) = refl
asked_is (code.Pair d a b) = refl
asked_is other = refl

asked_instr : (m : PlaceList) (es : List ℕ) (o : Action) (i : EInstr) (r : ESeq) → IsInstr m es o i →
    asked_action o ≡ asked_code (EThen i r)
unfolding asked_action
asked_instr m es (Arith op d s v) i r is = ap (λ j. asked_code (EThen j r)) (sym is.6)
asked_instr m es (Bnz s v) i r is = ap (λ j. asked_code (EThen j r)) (sym is.4)
asked_instr m es (Ld d s f) i r is = ap (λ j. asked_code (EThen j r)) (sym is.4)
asked_instr m es (Malloc d n) i r is = ap (λ j. asked_code (EThen j r)) (sym is.2)
asked_instr m es (Mov d v) i r is = ap (λ j. asked_code (EThen j r)) (sym is.4)
asked_instr m es (St d f s) i r is = ap (λ j. asked_code (EThen j r)) (sym is.4)
asked_instr m es (Jmp v) i r is = absurd is
asked_instr m es (Halt s) i r is = absurd is

asked_end : (m : PlaceList) (es : List ℕ) (o : Action) (c : ESeq) → IsEnd m es o c → asked_action o ≡ asked_code c
unfolding asked_action
asked_end m es (Jmp v) c is = ap asked_code (sym is.2)
asked_end m es (Halt s) c is = ap asked_code (sym is.1)
asked_end m es (Arith op d s v) c is = absurd is
asked_end m es (Bnz s v) c is = absurd is
asked_end m es (Ld d s f) c is = absurd is
asked_end m es (Malloc d n) c is = absurd is
asked_end m es (Mov d v) c is = absurd is
asked_end m es (St d f s) c is = absurd is

asked_held : (m : PlaceList) (es : List ℕ) (o : Instruction) (os : List Instruction) (c : ESeq) →
    Holds m es (o ∷ os) c → asked o ≡ asked_code c
asked_held m es o os c h = asked_is o ∙ ⊎_elim
    (λ (z : (i : EInstr) × (r : ESeq) × IsInstr m es (action o) i × (c ≡ EThen i r) × Holds m es os r).
    asked_instr m es (action o) z.0 z.1 z.2 ∙ ap asked_code (sym z.3))
    (λ (z : IsEnd m es (action o) c). asked_end m es (action o) c z)
    h

pub asked_seq : (h : Heap) (g : RegWords) (c : TSeq) → asked_code (erase_seq c) ≡ asked_next (At h g c)
asked_seq h g (Then (tree.Arith op d s v) c) = refl
asked_seq h g (Then (tree.Bnz s v) c) = refl
asked_seq h g (Then (tree.Ld d s f) c) = refl
asked_seq h g (Then (tree.Malloc d ts) c) = refl
asked_seq h g (Then (tree.Mov d v) c) = refl
asked_seq h g (Then (tree.St d f s) c) = refl
asked_seq h g (Then (tree.Unpack d v) c) = refl
asked_seq h g (Ends (tree.Jmp v)) = refl
asked_seq h g (Ends tree.Halt) = refl

asked_state : (t : State) (h : EHeap) (g : ERegs) (c : ESeq) → EAt h g c ≡ erase t → asked_code c ≡ asked_next t
asked_state (At h1 g1 d) h g c e = let code : c ≡ erase_seq d = cc in ap asked_code code ∙ asked_seq h1 g1 d

module _ (laws : ProgramLaws) (P : TProg) (whole : WellFormedProgram P) (acc : Accepted P) (m : ℕ) (x : declared.Heap)
    (ws : List Word) (code : Code) (at : ℕ) (s : Represents P m x ws code at) where
  pub asks : (o : Instruction) → slice_get code.instructions.items at ≡ Some o → (t : State) (q : Place) →
      After P m t q → asked o ≡ asked_next t
  asks o e t q run =
      let there = s.erased.erased.1 in
      let same = laws.one P m there.0 t (Spot s.block s.index) q there.1 run in
      asked_held code.places code.entries.items o (drop (suc at) code.instructions.items) s.rest
      (holds_here laws P whole acc m x ws code at s o e)
      ∙ asked_state there.0 s.erased.heap s.erased.regs s.rest there.2
      ∙ ap asked_next same.0
