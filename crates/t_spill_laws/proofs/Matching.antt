-- States of the two programs that stand for one another, and what the second makes of a step of the first.
use Rattle.std.proofs.Common.{◌≡◌, ℕ, suc, ◌≤◌, List, []}
use Rattle.std.proofs.Common.{Some, slice_get, ◌⊎◌}
use Rattle.std.specs.Prelude.{ℤ}
use Rattle.t_types.specs.Tree.{TFile}
use Rattle.t_types.specs.Fits.{lookup}
use Rattle.t_terms.specs.Tree.{TSeq, Then, Ends, TBlock, TData, TProg}
use Rattle.t_rules.specs.Rules.{SeqAccepted}
use Rattle.t_rules.specs.Machine.{State}
use Rattle.t_rules.specs.Machine.{Where, Next, Into, Step, HaltedWith}
use Rattle.t_rules.specs.HeapTypes.{HeapTypes, HeapHas, RegsHave, Rises, start_types}
use Rattle.t_rules.specs.LawsErased.{seq_of}
use Rattle.t_rules.specs.LawsSound.{heap_of, regs_of, code_of}
use Rattle.t_rules.specs.Erase.{EInt, ESeq, EHalt}
use Rattle.t_rules.specs.Erase.{EHeap, ERegs, EState, EAt, EGoes, estep, erase_seq}
use Rattle.t_spill_rules.specs.Spill.{kept}
use Rattle.t_spill_rules.specs.Spill.{Layout, layout}
use Rattle.t_spill_rules.specs.Spill.{after, code, sizes}
use Rattle.t_spill_laws.proofs.Files.{Ascends}
use Rattle.t_spill_laws.proofs.Erased.{esize}
use Rattle.t_spill_laws.proofs.Erased.{slots_left}
use Rattle.t_spill_laws.proofs.Walks.{Walks, Moves}
use Rattle.t_spill_laws.proofs.Frames.{Alike}
use Rattle.t_spill_laws.proofs.Homes.{Ready}

-- each block of the spilled program, erased, is one further on
abbrev pub ELabels : ℕ → TProg → List ESeq → Type 0
ELabels m P B = (l : ℕ) (b : TBlock) → slice_get P.blocks l ≡ Some b →
    slice_get B (suc l) ≡ Some (erase_seq (code m P (layout m b.file) b.file b.code))

-- data tuples are where they were
abbrev pub Still : TProg → List ℕ → Type 0
Still P p = (d : ℕ) (x : TData) → slice_get P.heap d ≡ Some x → slice_get p d ≡ Some d

abbrev pub BlocksAscend : TProg → Type 0
BlocksAscend P = (l : ℕ) (b : TBlock) → slice_get P.blocks l ≡ Some b → Ascends b.file

-- the state is typed by the file, and the erased state stands for it
pub record Matches (m : ℕ) (P : TProg) (s : State) (e : EState) : Type 0 where
  pub types : HeapTypes
  pub places : List ℕ
  pub file : TFile
  pub lay : Layout
  pub eheap : EHeap
  pub eregs : ERegs
  pub heap : HeapHas P types (heap_of s)
  pub regs : RegsHave P types (lookup file) (regs_of s)
  pub acc : SeqAccepted P 0 (lookup file) (code_of s)
  pub asc : Ascends file
  pub up : Rises (start_types P) types
  pub still : Still P places
  pub alike : Alike m places file lay (slots_left m lay.used (code_of s)) (heap_of s) (regs_of s) eheap eregs
  pub ready : Ready m lay (code_of s)
  pub is : e ≡ EAt eheap eregs (erase_seq (code m P lay file (code_of s)))

-- A step to the next instruction is some steps, one at least; a step into a block is some, and then one into its
-- block. `low` is one more than what is left of the code behind the instruction.
abbrev pub Seg : List ESeq → ℕ → EState → Where → EState → Type 0
Seg B low e Next f = Moves B e f × (low ≡ suc (esize (seq_of f)))
Seg B low e (Into l) f =
    (g : EState) × Walks B e g × (estep B g ≡ Some (EGoes (Into (suc l)) f)) × (low ≤ esize (seq_of g))

-- the sizes of the code after a step
abbrev pub Sized : ℕ → TProg → List ℕ → Where → List ℕ → Type 0
Sized m P tail Next now = now ≡ tail
Sized m P tail (Into l) now =
    (b : TBlock) × (slice_get P.blocks l ≡ Some b) × (now ≡ sizes m P (layout m b.file) b.file b.code)

-- the state comes to the end, and halts
pub record Ending (B : List ESeq) (e : EState) (i : ℤ) : Type 0 where
  pub eheap : EHeap
  pub eregs : ERegs
  pub walks : Walks B e (EAt eheap eregs EHalt)
  pub answer : eregs 1 ≡ Some (EInt i)

abbrev pub Follows : ℕ → TProg → List ESeq → List ℕ → ℕ → State → EState → Type 0
Follows m P B tail low s e =
    ((i : ℤ) × HaltedWith s i × Ending B e i)
    ⊎ ((k : Where) × (t : State) × (f : EState) × Step P s k t × Seg B low e k f × (a : Matches m P t f)
    × Sized m P tail k (sizes m P a.lay a.file (code_of t)))

abbrev pub tail_sizes : ℕ → TProg → Layout → TFile → TSeq → List ℕ
tail_sizes m P L x (Then i c) = sizes m P (after m L i c (kept P x i c)) (kept P x i c) c
tail_sizes m P L x (Ends e) = []

abbrev pub tail_left : ℕ → TProg → Layout → TFile → TSeq → ℕ
tail_left m P L x (Then i c) = suc (esize (erase_seq (code m P (after m L i c (kept P x i c)) (kept P x i c) c)))
tail_left m P L x (Ends e) = 0
