-- How the machine stands to word code, and what comes of a state.
use Rattle.std.specs.Prelude.{◌≡◌, ℕ, suc, ◌+◌, ◌-◌, ◌<◌, ◌≤◌, ◌^◌, ◌⊎◌, drop, List, [], ◌∷◌, ◌++◌, length, Some}
use Rattle.std.specs.Prelude.{slice_get}
use Rattle.x_terms.specs.Machine.{Image, State, Answer, Call, Next, Exits, run}
use Rattle.x_code.specs.Bytes.{FitsInstr}
use Rattle.x_terms.specs.declared.instr.Instr.{Instr}
use Rattle.x_laws.specs.Core.{core, bytes_all}
use Rattle.x_laws.specs.Homes.{Home, AreHomes, Agrees}
use Rattle.x_laws.specs.Straight.{IsStraight, FitsRight}
use Rattle.x_laws.specs.Code.{seq_code}
use Rattle.w_terms.specs.Tree.{WInstr, WPlace, WBranch, WWrite, WSeq, WThen, WJump, WGoto, WExit}
use Rattle.w_terms.specs.Machine.{WRegs, Memory, WState, WAt, Written}

-- the bytes stand at the place
pub record Standing (m : Image) (a : ℕ) (bytes : List ℕ) : Type 0 where
  pub behind : m.code_at ≤ a
  pub rest : List ℕ
  pub is : drop (a - m.code_at) m.code ≡ bytes ++ rest

abbrev pub AllFit : List Instr → Type 0
AllFit [] = Unit {0}
AllFit (i ∷ is) = FitsInstr i × AllFit is

abbrev pub IsExit : WSeq → Type 0
IsExit (WExit status) = Unit {0}
IsExit _ = ⊥

-- What an instruction of word code may be, with n registers and in front of the rest c. A program writes as the last
-- thing that it does.
abbrev pub IsInstr : ℕ → WInstr → WSeq → Type 0
IsInstr n (WPlace rd l) c = rd < n
IsInstr n (WBranch t rs v l) c = (rs < n) × FitsRight n v
IsInstr n (WWrite to ra rn) c = ((to ≡ 1) ⊎ (to ≡ 2)) × (ra < n) × (rn < n) × IsExit c
IsInstr n i c = IsStraight n i

abbrev pub IsSeq : ℕ → WSeq → Type 0
IsSeq n (WThen i c) = IsInstr n i c × IsSeq n c
IsSeq n (WJump l) = Unit {0}
IsSeq n (WGoto q) = q < n
IsSeq n (WExit status) = Unit {0}

-- nothing was written so far
abbrev pub Silent : List Written → List Call → Type 0
Silent log calls = (log ≡ []) × (calls ≡ [])

module _ (m : Image) (n : ℕ) (homes : ℕ → Home) (place : ℕ → ℕ) where
  -- each block stands at its place
  pub record IsLaid (blocks : List WSeq) : Type 0 where
    pub small : m.code_at + length m.code < 2 ^ 64
    pub low : m.data_end < 2 ^ 64
    pub below : (l : ℕ) (c : WSeq) → slice_get blocks l ≡ Some c → place l < 2 ^ 64
    pub standing : (l : ℕ) (c : WSeq) → slice_get blocks l ≡ Some c →
        Standing m (place l) (bytes_all (seq_code homes place (place l) c))
    pub fits : (l : ℕ) (c : WSeq) → slice_get blocks l ≡ Some c → AllFit (seq_code homes place (place l) c)
    pub fine : (l : ℕ) (c : WSeq) → slice_get blocks l ≡ Some c → IsSeq n c

  -- the machine is where word code is
  pub record Stands (r : WRegs) (mem : Memory) (log : List Written) (c : WSeq) (s : State) : Type 0 where
    pub homes_are : AreHomes m mem n homes
    pub agrees : Agrees m n homes r mem (core s)
    pub standing : Standing m s.place (bytes_all (seq_code homes place s.place c))
    pub fits : AllFit (seq_code homes place s.place c)
    pub fine : IsSeq n c
    pub silent : Silent log s.calls

  abbrev pub Sim : WState → State → Type 0
  Sim (WAt r mem log c) s = Stands r mem log c s

-- After one step or more the machine is in such a state, or the process has ended so.
abbrev pub Comes : Image → (ℕ → Answer) → (State → Type 0) → (ℕ → List Call → Type 0) → State → Type 0
Comes m world P E s =
    ((j : ℕ) × (t : State) × (run m world (suc j) s ≡ Next t) × P t)
    ⊎ ((j : ℕ) × (status : ℕ) × (calls : List Call) × (run m world (suc j) s ≡ Exits status calls) × E status calls)
