-- What a listing says of the blocks of word code: the parts of the runtime by name; a block of the program as `L` and its
-- number, as the program's text is written; a block that was made beside it by the place at which it goes on. In front of
-- the word code of an instruction of the program that instruction stands, without types.
use Rattle.std.specs.Prelude.{ℕ, suc, Bool, true, false, List, [], ◌∷◌, ◌++◌, codes, decimal}
use Rattle.idx_core.specs.declared.arith.Op.{Op}
use Rattle.idx_core.specs.declared.arith.Op.TheVariants.{Add, Sub, Mul}
use Rattle.t_terms.specs.Tree.{TBase, Reg, Int, Label, Data}
use Rattle.t_rules.specs.Erase.{EInstr, EArith, EBnz, ELd, EMalloc, EMov, ESt, ESeq, EThen, EJmp, EHalt}
use Rattle.page_core.specs.Names.{number}
use Rattle.x_listing.specs.Remarks.{Note}

-- ---- instructions of the program

abbrev pub register : ℕ → List ℕ
register q = codes "r" ++ decimal q

abbrev pub base : TBase → List ℕ
base (Reg q) = register q
base (Int i) = number i
base (Label l) = codes "L" ++ decimal l
base (Data d) = codes "D" ++ decimal d

abbrev pub op : Op → List ℕ
op Add = codes "add "
op Sub = codes "sub "
op Mul = codes "mul "

abbrev pub field : ℕ → ℕ → List ℕ
field q i = register q ++ (codes "[" ++ (decimal i ++ codes "]"))

-- two operands
abbrev pub two : List ℕ → List ℕ → List ℕ
two a b = a ++ (codes ", " ++ b)

abbrev pub instr : EInstr → List ℕ
instr (EArith o rd rs v) = op o ++ two (register rd) (two (register rs) (base v))
instr (EBnz q v) = codes "bnz " ++ two (register q) (base v)
instr (ELd rd rs i) = codes "ld " ++ two (register rd) (field rs i)
instr (EMalloc rd n) = codes "malloc " ++ two (register rd) (decimal n)
instr (EMov rd v) = codes "mov " ++ two (register rd) (base v)
instr (ESt rd i rs) = codes "st " ++ two (field rd i) (register rs)

-- the end of a block
abbrev pub last : ESeq → List ℕ
last (EThen x e) = last e
last (EJmp v) = codes "jmp " ++ base v
last EHalt = codes "halt"

-- ---- places

abbrev pub block_name : ℕ → List ℕ
block_name b = codes "L" ++ decimal b

abbrev pub place_name : ℕ → ℕ → List ℕ
place_name b i = block_name b ++ (codes "." ++ decimal i)

-- what is said at a place
abbrev pub said : ℕ → ℕ → List ℕ → List ℕ
said b i text = place_name b i ++ (codes "  " ++ text)

-- ---- blocks

-- What was said so far: of blocks of the program, of blocks that are made beside them, and of the one at hand; and
-- whether that one is made beside a block.
pub record Work : Type 0 where
  pub firsts : List Note
  pub rest : List Note
  pub beside : Bool
  pub name : List ℕ
  pub before : List (List ℕ)

-- the block at hand
abbrev pub at_hand : Work → Note
at_hand w = record { name = w.name; before = w.before }

-- one more remark
abbrev pub told : List ℕ → Work → Work
told text w = record w { before = w.before ++ text ∷ [] }

-- The block at hand is done, and another one is begun.
abbrev pub put_first : Bool → List Note → Note → List Note
put_first true notes x = notes
put_first false notes x = notes ++ x ∷ []

abbrev pub put_rest : Bool → List Note → Note → List Note
put_rest true notes x = notes ++ x ∷ []
put_rest false notes x = notes

abbrev pub parted : (beside : Bool) (name : List ℕ) (before : List (List ℕ)) → Work → Work
parted beside name before w = record {
  firsts = put_first w.beside w.firsts (at_hand w);
  rest = put_rest w.beside w.rest (at_hand w);
  beside = beside;
  name = name;
  before = before;
}

-- A branch to a register parts the block behind it.
abbrev pub branched : (b i : ℕ) → TBase → Work → Work
branched b i (Reg q) w = parted true (place_name b (suc i)) [] w
branched b i (Int n) w = w
branched b i (Label l) w = w
branched b i (Data d) w = w

-- A `malloc` parts it in its midst: four of its instructions of word code stand behind.
abbrev pub rests : List (List ℕ)
rests = [] ∷ ([] ∷ ([] ∷ ([] ∷ [])))

abbrev pub went_on : (b i : ℕ) → EInstr → Work → Work
went_on b i (EArith o rd rs v) w = w
went_on b i (EBnz q v) w = branched b i v w
went_on b i (ELd rd rs n) w = w
went_on b i (EMalloc rd n) w = parted true (place_name b i ++ codes "+") rests w
went_on b i (EMov rd v) w = w
went_on b i (ESt rd n rs) w = w

-- the instruction i of block b
abbrev pub stepped : (b i : ℕ) → EInstr → Work → Work
stepped b i x w = went_on b i x (told (said b i (instr x)) w)

-- its end, behind which block b + 1 begins
abbrev pub ended : (b i : ℕ) → List ℕ → Work → Work
ended b i text w = parted false (block_name (suc b)) [] (told (said b i text) w)

-- block b from instruction i on
abbrev pub walked : (b i : ℕ) → ESeq → Work → Work
walked b i (EThen x e) w = walked b (suc i) e (stepped b i x w)
walked b i (EJmp v) w = ended b i (last (EJmp v)) w
walked b i EHalt w = ended b i (last EHalt) w

-- blocks from number b on
abbrev pub all_walked : ℕ → List ESeq → Work → Work
all_walked b [] w = w
all_walked b (e ∷ es) w = all_walked (suc b) es (walked b 0 e w)

abbrev pub named : List ℕ → Note
named name = record { name = name; before = [] }

-- the blocks of the runtime: those that write an integer; those of the collector, and the end for want of memory; all,
-- after the start, the end of a program that halts, and the block where room is asked for
abbrev pub printing_notes : List Note
printing_notes =
    named (codes "print.lead") ∷ (named (codes "print.digit") ∷ (named (codes "print.put")
    ∷ (named (codes "print.next") ∷ (named (codes "print.last") ∷ []))))

abbrev pub growing_notes : List Note
growing_notes = named (codes "collect.grow") ∷ (named (codes "collect.claim") ∷ [])

abbrev pub sweeping_notes : List Note
sweeping_notes =
    named (codes "collect") ∷ (named (codes "collect.sweep") ∷ (named (codes "collect.hit")
    ∷ (named (codes "collect.tail") ∷ growing_notes)))

abbrev pub marking_notes : List Note
marking_notes =
    named (codes "collect.begin") ∷ (named (codes "collect.scan") ∷ (named (codes "collect.take")
    ∷ (named (codes "collect.marked") ∷ (named (codes "full") ∷ []))))

abbrev pub collecting_notes : List Note
collecting_notes = sweeping_notes ++ marking_notes

abbrev pub runtime_notes : List Note
runtime_notes =
    named (codes "start") ∷ (named (codes "halt") ∷ (named (codes "room")
    ∷ (printing_notes ++ collecting_notes)))

-- the program begins
abbrev pub begun : Work
begun = record { firsts = runtime_notes; rest = []; beside = false; name = block_name 0; before = [] }

-- all blocks of word code, in their order
abbrev pub notes_of : List ESeq → List Note
notes_of es = (all_walked 0 es begun).firsts ++ (all_walked 0 es begun).rest
