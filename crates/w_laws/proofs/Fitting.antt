-- Programs of the code can be translated: their integers have 64 bits, and the data that they name are there.
use Rattle.std.proofs.Common.{ℕ, ◌+◌, List, [], ◌∷◌, length, map, arith}
use Rattle.std.specs.Prelude.{ℤ, pos, negsuc, FitsSigned}
use Rattle.std.specs.Int.{w64}
use Rattle.t_terms.specs.Tree.{Reg, Int, Label, Data, TValue, Plain, Pack, Arith, Bnz, Ld, Malloc, Mov}
use Rattle.t_terms.specs.Tree.{St, Unpack, Jmp, Halt, TSeq, Then, Ends, TBlock, TProg}
use Rattle.t_terms.specs.Values.{SeqValues, BlocksValues}
use Rattle.t_terms.specs.Whole.{WellFormedValue, WellFormedSeq, WellFormedBlocks, IntFits, ValueFits, Whole}
use Rattle.t_rules.specs.Erase.{ESeq, erase_value, erase_seq, erase_blocks}
use Rattle.t_rules.specs.Erase.{erase_block}
use Rattle.w_laws.specs.Translate.{BaseFine, Fine, AllFine, Small, AllSmall}
use Rattle.w_laws.specs.Laws.{TranslatedByRules}
use Rattle.w_laws.proofs.Translating.{is_translation}

pub int_fits : (i : ℤ) → IntFits i → FitsSigned w64 i
int_fits (pos n) f = record { sfits = omega (arith, f) }
int_fits (negsuc n) f = record { sfits = omega (arith, f) }

base_fine : (p q n : ℕ) (v : TValue) → WellFormedValue p q n v → ValueFits v → BaseFine q (erase_value v)
base_fine p q n (Plain (Reg r) ts) w f = tt
base_fine p q n (Plain (Int i) ts) w f = int_fits i f
base_fine p q n (Plain (Label l) ts) w f = tt
base_fine p q n (Plain (Data d) ts) w f = w.0
base_fine p q n (Pack t v s) w f = base_fine p q n v w.1 f

fine : (p q n many : ℕ) (c : TSeq) → WellFormedSeq p q n c → SeqValues ValueFits c → Small many (erase_seq c) →
    Fine q many (erase_seq c)
fine p q n many (Then (Arith op rd rs v) c) w f s =
    (s.0, base_fine p q n v w.0.2 f.0, fine p q n many c w.2 f.1 s.1)
fine p q n many (Then (Bnz r v) c) w f s = fine p q n many c w.2 f.1 s
fine p q n many (Then (Ld rd rs i) c) w f s = (s.0, fine p q n many c w.2 f.1 s.1)
fine p q n many (Then (Malloc rd ts) c) w f s = (s.0, s.1, fine p q n many c w.2 f.1 s.2)
fine p q n many (Then (Mov rd v) c) w f s = (s.0, base_fine p q n v w.0.1 f.0, fine p q n many c w.2 f.1 s.1)
fine p q n many (Then (St rd i rs) c) w f s = fine p q n many c w.2 f.1 s
fine p q n many (Then (Unpack rd v) c) w f s =
    (s.0, base_fine p q n v w.0.1 f.0, fine p q (n + 1) many c w.2 f.1 s.1)
fine p q n many (Ends (Jmp v)) w f s = tt
fine p q n many (Ends Halt) w f s = tt

-- the blocks, erased
abbrev erased : List TBlock → List ESeq
erased bs = map erase_block bs

all_fine : (p q many : ℕ) (bs : List TBlock) → WellFormedBlocks p q bs → BlocksValues ValueFits bs →
    AllSmall many (erased bs) → AllFine q many (erased bs)
all_fine p q many [] w f s = tt
all_fine p q many (b ∷ bs) w f s = (fine p q b.owes many b.code w.0.2 f.0 s.0, all_fine p q many bs w.1 f.1 s.1)

pub programs_are_fine : (P : TProg) → Whole P → (many : ℕ) → AllSmall many (erase_blocks P) →
    AllFine (length P.heap) many (erase_blocks P)
programs_are_fine P w many s = all_fine (length P.blocks) (length P.heap) many P.blocks w.0.1 w.1.0 s

pub translated_by_rules : TranslatedByRules
translated_by_rules P w many s base size runtime own count words =
    is_translation base size many runtime own P count words (programs_are_fine P w many s)
