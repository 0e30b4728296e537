-- The line of a state: how many steps led to it, its place, and of each register that is known there the word and the
-- type.
use Rattle.std.specs.Prelude.{◌≡◌, ℕ, zero, suc, ◌+◌, ◌-◌, nat_lt, List, [], ◌∷◌, ◌++◌, Bool, true, false}
use Rattle.std.specs.Prelude.{if◌then◌else◌, codes, decimal}
use Rattle.idx_core.specs.Separator.{separator}
use Rattle.t_types.specs.Read.{file as file_of}
use Rattle.t_types.specs.Tree.{Ty, IntTy, VarTy, CodeTy, ExistsTy, TupleTy, TFile, NoRegs, MoreRegs, TFields, NoFields}
use Rattle.t_types.specs.Tree.{MoreFields}
use Rattle.t_terms.specs.declared.shown.Shown.{Shown}
use Rattle.t_terms.specs.declared.shown.Shown.TheVariants.{Int, Tuple, Label}
use Rattle.t_trace.specs.declared.lines.Place.{Place}
use Rattle.t_writer.specs.Lexeme.{number_text}

-- a word: an integer, `@` and an address, `L` and the number of a block
abbrev pub word_text : Shown → List ℕ
word_text (Int i) = number_text i
word_text (Tuple a) = codes "@" ++ decimal a
word_text (Label l) = codes "L" ++ decimal l

-- Variable i where n type names are in scope at the place, and d are bound around it in the type. Both count from the
-- outermost on.
abbrev pub variable_text : ℕ → ℕ → ℕ → List ℕ
variable_text n d i = if nat_lt i d then codes "t" ++ decimal (d - 1 - i) else codes "a" ++ decimal (n - 1 - (i - d))

-- count names that code binds, where d are bound around the first of them, and k of the code stand before it
abbrev pub names_text : ℕ → ℕ → ℕ → List ℕ
names_text k d zero = []
names_text k d (suc count) = separator k ++ (codes "t" ++ (decimal d ++ names_text (suc k) (d + 1) count))

abbrev pub flag_text : Bool → List ℕ
flag_text true = codes "^1"
flag_text false = codes "^0"

-- a type where n type names are in scope at the place, and d are bound around it in the whole type
abbrev mutual
  pub text_at : ℕ → ℕ → Ty → List ℕ
  text_at n d IntTy = codes "int"
  text_at n d (VarTy i) = variable_text n d i
  text_at n d (CodeTy owes file) =
      codes "all[" ++ (names_text 0 d owes ++ (codes "]{" ++ (regs_text n (d + owes) 0 file ++ codes "}")))
  text_at n d (ExistsTy t) = codes "some t" ++ (decimal d ++ (codes ". " ++ text_at n (d + 1) t))
  text_at n d (TupleTy fs) = codes "<" ++ (fields_text n d 0 fs ++ codes ">")

  -- registers with their types, where k stand before them
  pub regs_text : ℕ → ℕ → ℕ → TFile → List ℕ
  regs_text n d k NoRegs = []
  regs_text n d k (MoreRegs r t file) =
      separator k ++ (codes "r" ++ (decimal r ++ (codes ":" ++ (text_at n d t ++ regs_text n d (suc k) file))))

  -- fields of a tuple, where k stand before them
  pub fields_text : ℕ → ℕ → ℕ → TFields → List ℕ
  fields_text n d k NoFields = []
  fields_text n d k (MoreFields t flag fs) =
      separator k ++ (text_at n d t ++ (flag_text flag ++ fields_text n d (suc k) fs))

-- the words are those of the registers of the file, in its order
abbrev pub AreWordsOf : List (ℕ × Shown) → TFile → Type 0
AreWordsOf [] NoRegs = Unit {0}
AreWordsOf (x ∷ xs) (MoreRegs r t file) = (x.0 ≡ r) × AreWordsOf xs file
AreWordsOf [] (MoreRegs r t file) = ⊥
AreWordsOf (x ∷ xs) NoRegs = ⊥

-- registers with their words and types, where k stand before them
abbrev pub words_text : ℕ → ℕ → List (ℕ × Shown) → TFile → List ℕ
words_text n k (x ∷ xs) (MoreRegs r t file) =
    separator k
    ++ (codes "r" ++ (decimal r ++ (codes "=" ++ (word_text x.1 ++ (codes ":"
    ++ (text_at n 0 t ++ words_text n (suc k) xs file))))))
words_text n k _ _ = []

-- the line of the state after m steps, which stands at an instruction of a block, where n type names are in scope, and
-- the registers of the file have these words
abbrev pub line_text : (m block index n : ℕ) → List (ℕ × Shown) → TFile → List ℕ
line_text m block index n words file =
    decimal m ++ (codes " b" ++ (decimal block ++ (codes "." ++ (decimal index ++ (codes " {"
    ++ (words_text n 0 words file ++ codes "}\n"))))))

-- the line of a state that stands at a place
abbrev pub place_line : ℕ → Place → List (ℕ × Shown) → List ℕ
place_line m p words = line_text m p.block p.index p.vars words (file_of p.types.now.regs.items)
