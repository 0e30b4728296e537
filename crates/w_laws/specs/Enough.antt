-- Where a program makes few tuples, its word code does not end for want of memory.
use Rattle.std.specs.Prelude.{◌≡◌, ℕ, zero, suc, ◌+◌, ◌≤◌, ℤ, List, Option, Some, None, slice_get}
use Rattle.t_terms.specs.Tree.{TProg, TBlock}
use Rattle.t_terms.specs.Whole.{Whole}
use Rattle.t_rules.specs.Rules.{Accepted}
use Rattle.t_rules.specs.Machine.{HaltedAfter}
use Rattle.t_rules.specs.Erase.{EArith, EBnz, ELd, EMalloc, EMov, ESt, ESeq, EThen, EJmp, EHalt, EState, EAt, EStep}
use Rattle.t_rules.specs.Erase.{EGoes}
use Rattle.t_rules.specs.Erase.{estep, erase_block, erase_blocks, erase_heap, no_ewords}
use Rattle.w_terms.specs.Tree.{WProg}
use Rattle.w_terms.specs.Machine.{WRegs, AreWords, Places, Exits}
use Rattle.w_rooms.specs.Numbers.{bytes}
use Rattle.w_laws.specs.Code.{room_for}
use Rattle.w_laws.specs.Built.{IsBuilt, first_use, line_texts}

-- the bytes of the tuple that the next step makes
abbrev pub made_by : ESeq → ℕ
made_by (EThen (EMalloc rd n) e) = bytes (room_for n)
made_by (EThen (EArith op rd rs b) e) = 0
made_by (EThen (EBnz q b) e) = 0
made_by (EThen (ELd rd rs i) e) = 0
made_by (EThen (EMov rd b) e) = 0
made_by (EThen (ESt rd i rs) e) = 0
made_by (EJmp b) = 0
made_by EHalt = 0

abbrev pub made_behind : (EState → ℕ) → Option EStep → ℕ
made_behind f (Some (EGoes w s)) = f s
made_behind f None = 0

-- those of all tuples that so many steps make
abbrev pub bytes_made : List ESeq → ℕ → EState → ℕ
bytes_made es zero s = 0
bytes_made es (suc n) (EAt h r e) = made_by e + made_behind (bytes_made es n) (estep es (EAt h r e))

-- Where all tuples that a program makes until it halts fit into the part of the heap that is in use at first, its word
-- code writes the line of its integer and exits with 0.
abbrev pub EnoughAtFirst : Type 0
EnoughAtFirst =
    (P : TProg) → Whole P → Accepted P → (base heap : ℕ) (W : WProg) → IsBuilt P base heap W →
    (place : ℕ → ℕ) → Places place W → (R : WRegs) → AreWords R →
    (b : TBlock) → slice_get P.blocks 0 ≡ Some b → (n : ℕ) (i : ℤ) → HaltedAfter P n i →
    bytes_made (erase_blocks P) n (EAt (erase_heap P) no_ewords (erase_block b)) ≤ first_use heap →
    Exits place W R 0 (line_texts.integer i)
