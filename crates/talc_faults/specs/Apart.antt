-- The line on where two types first differ, under the line that names both. All of it is our own choice: nothing is
-- said where the types differ at the top, since the line above says it all; a path that is long is cut.
use Rattle.std.specs.Prelude.{ℕ, ◌+◌, ◌-◌, nat_le, List, [], ◌∷◌, ◌++◌, length, Option, Some, None, if◌then◌else◌}
use Rattle.std.specs.Prelude.{codes}
use Rattle.std.specs.Prelude.{decimal}
use Rattle.f_terms.specs.Ty as source
use Rattle.f_terms.specs.Text as source_text
use Rattle.f_terms.specs.Mismatch as source_at_odds
use Rattle.f_terms.specs.Mismatch.{WType}
use Rattle.type_path.specs.declared.step.Step.{Step}
use Rattle.type_path.specs.declared.step.Step.TheVariants.{Argument, Result, Body, Cell, Field, Flag, Register}
use Rattle.type_path.specs.Paths.{Path}
use Rattle.type_path.specs.Source as source_path
use Rattle.type_path.specs.Assembly as assembly_path
use Rattle.type_path.specs.Assembly.{Part, Whole, FlagOf, bound}
use Rattle.t_types.specs.Tree as assembly
use Rattle.t_trace.specs.Line as assembly_text
use Rattle.t_rules.specs.Mismatch as assembly_at_odds
use Rattle.t_rules.specs.Mismatch.{Types, NoPackage}
use Rattle.talc_faults.specs.Line.{line, source_line, assembly_line}

-- ---- the path

abbrev pub step_text : Step → List ℕ
step_text Argument = codes "the argument"
step_text Result = codes "the result"
step_text Body = codes "the body"
step_text Cell = codes "the cell"
step_text (Field i) = codes "field " ++ decimal i
step_text (Flag i) = codes "the flag of field " ++ decimal i
step_text (Register r) = codes "register r" ++ decimal r

-- The steps in order, the first behind these words and each other behind `, then `, as far as they have room; dots for
-- those that are left.
abbrev pub steps_text : (room : ℕ) (before : List ℕ) → Path → List ℕ
steps_text room before [] = []
steps_text room before (s ∷ p) =
    if nat_le (length (before ++ step_text s)) room
    then (before ++ step_text s) ++ steps_text (room - length (before ++ step_text s)) (codes ", then ") p
    else before ++ codes ".."

-- so much room there is for the steps that are told
abbrev pub steps_room : ℕ
steps_room = 89

abbrev pub path_text : Path → List ℕ
path_text p = codes "at" ++ steps_text steps_room (codes " ") p

-- what is wanted and what is found at a path, on a line of its own below another one
abbrev pub apart_text : Path → (wanted found : List ℕ) → List ℕ
apart_text p wanted found = codes "\n" ++ path_text p ++ codes ": " ++ line wanted found

-- ---- of a source text

-- how many type names are bound behind a step, and at a path, where so many are around the whole
abbrev pub names_inside : ℕ → Step → ℕ
names_inside names Body = names + 1
names_inside names step = names

abbrev pub names_at : ℕ → Path → ℕ
names_at names [] = names
names_at names (s ∷ p) = names_at (names_inside names s) p

-- a part of a type inside so many type names, or that there is none
abbrev pub part_text : (names : ℕ) → Option source.Ty → List ℕ
part_text names None = codes "nothing"
part_text names (Some type) = source_text.text_at names type

-- two types that first differ at a path
abbrev pub source_apart_at : (names : ℕ) (wanted found : source.Ty) → Path → List ℕ
source_apart_at names wanted found p =
    apart_text p (part_text (names_at names p) (source_path.part p wanted))
    (part_text (names_at names p) (source_path.part p found))

abbrev pub source_below_of : (names : ℕ) (wanted found : source.Ty) → Option Path → List ℕ
source_below_of names wanted found None = []
source_below_of names wanted found (Some []) = []
source_below_of names wanted found (Some (s ∷ p)) = source_apart_at names wanted found (s ∷ p)

-- the line below that of two types of which the one was wanted, or nothing
abbrev pub source_below : (names : ℕ) (wanted found : source.Ty) → List ℕ
source_below names wanted found = source_below_of names wanted found (source_path.difference wanted found)

abbrev pub wanted_below : (names : ℕ) → source_at_odds.Wanted → (found : source.Ty) → List ℕ
wanted_below names (WType wanted) found = source_below names wanted found
wanted_below names other found = []

-- the lines of a source's fault, or nothing where no types are at odds
abbrev pub source_lines : Option source_at_odds.Mismatch → List ℕ
source_lines None = []
source_lines (Some m) = source_line (Some m) ++ wanted_below m.names m.wanted m.found

-- ---- of an assembly text

-- a part of a type where so many type names are in scope, with so many bound around it in the whole; or that there is
-- none
abbrev pub assembly_part_text : (names depth : ℕ) → Option Part → List ℕ
assembly_part_text names depth None = codes "nothing"
assembly_part_text names depth (Some (Whole type)) = assembly_text.text_at names depth type
assembly_part_text names depth (Some (FlagOf flag)) = assembly_text.flag_text flag

abbrev pub assembly_part_at : (names : ℕ) → assembly.Ty → Path → List ℕ
assembly_part_at names type p = assembly_part_text names (bound p (Whole type)) (assembly_path.part p type)

abbrev pub assembly_apart_at : (names : ℕ) (wanted found : assembly.Ty) → Path → List ℕ
assembly_apart_at names wanted found p =
    apart_text p (assembly_part_at names wanted p) (assembly_part_at names found p)

abbrev pub assembly_below_of : (names : ℕ) (wanted found : assembly.Ty) → Option Path → List ℕ
assembly_below_of names wanted found None = []
assembly_below_of names wanted found (Some []) = []
assembly_below_of names wanted found (Some (s ∷ p)) = assembly_apart_at names wanted found (s ∷ p)

-- the line below that of two types, or nothing: the first place at which the found one does not fit the wanted one
abbrev pub assembly_below : (names : ℕ) (wanted found : assembly.Ty) → List ℕ
assembly_below names wanted found = assembly_below_of names wanted found (assembly_path.misfit wanted found)

abbrev pub mismatch_below : assembly_at_odds.Mismatch → List ℕ
mismatch_below (Types wanted found names) = assembly_below names wanted found
mismatch_below (NoPackage found names) = []
mismatch_below (assembly_at_odds.Register register wanted None names) = []
mismatch_below (assembly_at_odds.Register register wanted (Some found) names) = assembly_below names wanted found

-- the lines of an assembly text's fault, or nothing where no types are at odds
abbrev pub assembly_lines : Option assembly_at_odds.Mismatch → List ℕ
assembly_lines None = []
assembly_lines (Some m) = assembly_line (Some m) ++ mismatch_below m
