-- What a place of a program has to be like for the types there to be computed: each number then is a u64.
use Rattle.std.specs.Prelude.{ℕ, ◌≤◌, List, [], ◌∷◌, length}
use Rattle.t_types.specs.Tree.{Ty, CodeTy, TFile}
use Rattle.t_types.specs.WellFormed.{max_names, WellFormedFile}
use Rattle.t_terms.specs.Tree.{TValue, Plain, Pack, TInstr, Arith, Bnz, Mov, Unpack, TEnd, Jmp, Halt}
use Rattle.t_terms.specs.Tree.{TSeq, Then, Ends, TBlock, TProg, names_after}
use Rattle.t_terms.specs.Whole.{WellFormedValue, WellFormedInstr}
use Rattle.t_spill_rules.specs.Spill.{base_type, next}

-- code owes as many types as go to it, at least
abbrev pub Enough : Ty → List Ty → Type 0
Enough (CodeTy owes file) ts = length ts ≤ owes
Enough _ ts = Unit {0}

abbrev pub Applies : TProg → TFile → TValue → Type 0
Applies P x (Plain b []) = Unit {0}
Applies P x (Plain b (u ∷ us)) = Enough (base_type P x b) (u ∷ us)
Applies P x (Pack t v s) = Unit {0}

-- under n names, where x is known of the registers
abbrev pub ReadyValue : TProg → ℕ → TFile → TValue → Type 0
ReadyValue P n x v =
    (n ≤ max_names) × WellFormedFile n x × WellFormedValue (length P.blocks) (length P.heap) n v × Applies P x v

-- the types that go to the value of an instruction
abbrev pub InstrApplies : TProg → TFile → TInstr → Type 0
InstrApplies P x (Arith op rd rs v) = Applies P x v
InstrApplies P x (Bnz r v) = Applies P x v
InstrApplies P x (Mov rd v) = Applies P x v
InstrApplies P x (Unpack rd v) = Applies P x v
InstrApplies _ x _ = Unit {0}

abbrev pub ReadyInstr : TProg → ℕ → TFile → TInstr → Type 0
ReadyInstr P n x i =
    (n ≤ max_names) × (names_after i n ≤ max_names) × WellFormedFile n x
    × WellFormedInstr (length P.blocks) (length P.heap) n i × InstrApplies P x i

abbrev pub ReadyEnd : TProg → ℕ → TFile → TEnd → Type 0
ReadyEnd P n x (Jmp v) = ReadyValue P n x v
ReadyEnd P n x Halt = (n ≤ max_names) × WellFormedFile n x

-- along a sequence
abbrev pub Ready : TProg → ℕ → TFile → TSeq → Type 0
Ready P n x (Then i rest) = ReadyInstr P n x i × Ready P (names_after i n) (next P x i) rest
Ready P n x (Ends e) = ReadyEnd P n x e

-- the value may be typed
abbrev pub Typable : TProg → TFile → TValue → Type 0
Typable P x v = (n : ℕ) × ReadyValue P n x v

abbrev pub InstrTypable : TProg → TFile → TInstr → Type 0
InstrTypable P x i = (n : ℕ) × ReadyInstr P n x i

-- a block, and each block
abbrev pub BlockReady : TProg → TBlock → Type 0
BlockReady P b = Ready P b.owes b.file b.code

abbrev pub BlocksReady : TProg → List TBlock → Type 0
BlocksReady P [] = Unit {0}
BlocksReady P (b ∷ bs) = BlockReady P b × BlocksReady P bs
