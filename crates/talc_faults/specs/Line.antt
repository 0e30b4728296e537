-- The line on the types that are at odds in a fault. The words are our own choice; types are written as `typeof` and
-- `trace` write them.
use Rattle.std.specs.Prelude.{ℕ, List, [], ◌++◌, Option, Some, None, codes, decimal}
use Rattle.f_terms.specs.Ty as source
use Rattle.f_terms.specs.Text as source_text
use Rattle.f_terms.specs.Mismatch as source_at_odds
use Rattle.f_terms.specs.Mismatch.{WType, WFunction, WPolymorphic, WTuple, WField, WPackage, WReference, WOutside}
use Rattle.t_types.specs.Tree.{Ty}
use Rattle.t_rules.specs.Mismatch.{Mismatch, Types, NoPackage, Register}
use Rattle.t_trace.specs.Line as assembly_text

-- what was wanted, and what was found
abbrev pub line : (wanted found : List ℕ) → List ℕ
line wanted found = codes "wanted " ++ wanted ++ codes ", found " ++ found

-- what a type of a source had to be, inside so many type names: a type; a form of types; or a type that lacks the last
-- of these names
abbrev pub wanted_text : (names : ℕ) → source_at_odds.Wanted → List ℕ
wanted_text names (WType t) = source_text.text_at names t
wanted_text names WFunction = codes "T1 -> T2"
wanted_text names WPolymorphic = codes "all a. T"
wanted_text names WTuple = codes "<T1, .., Tn>"
wanted_text names WField = codes "a tuple with this field"
wanted_text names WPackage = codes "some a. T"
wanted_text names WReference = codes "ref T"
wanted_text names WOutside = codes "a type without " ++ source_text.text_at names (source.TVar 0)

-- the line of a source's fault, or nothing where no types are at odds
abbrev pub source_line : Option source_at_odds.Mismatch → List ℕ
source_line None = []
source_line (Some m) = line (wanted_text m.names m.wanted) (source_text.text_at m.names m.found)

-- the line of a whole that is no program, since it has a type other than int
abbrev pub not_int_line : source.Ty → List ℕ
not_int_line type = line (codes "int") (source_text.text_at 0 type)

-- a register and its type, as a file of registers has them, where so many type names are in scope
abbrev pub register_text : (names register : ℕ) → Ty → List ℕ
register_text names register type =
    codes "r" ++ decimal register ++ codes ":" ++ assembly_text.text_at names 0 type

-- what was found of a register: its type, or that nothing is known of it
abbrev pub known_text : (names register : ℕ) → Option Ty → List ℕ
known_text names register None = codes "nothing"
known_text names register (Some type) = register_text names register type

-- the line of an assembly text's fault, or nothing where no types are at odds
abbrev pub assembly_line : Option Mismatch → List ℕ
assembly_line None = []
assembly_line (Some (Types wanted found names)) =
    line (assembly_text.text_at names 0 wanted) (assembly_text.text_at names 0 found)
assembly_line (Some (NoPackage found names)) = line (codes "some a. T") (assembly_text.text_at names 0 found)
assembly_line (Some (Register register wanted found names)) =
    line (register_text names register wanted) (known_text names register found)
