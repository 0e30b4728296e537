-- What is made of a program's nodes one by one: for each body that is open its text so far, and the texts of the values
-- that wait. The nodes of a term make the text of that term; what others make is of no matter.
use Rattle.std.specs.Prelude.{ℕ, zero, suc, ◌+◌, List, [], ◌∷◌, ◌++◌, Option, Some, None, Bool, true, false, length}
use Rattle.std.specs.Prelude.{codes, decimal}
use Rattle.page_core.specs.Names.{margin, number, op_sign, separator, type_name, value_name}
use Rattle.c_terms.specs.C.{CTys}
use Rattle.c_terms.specs.Stream.{CNd, MVar, MInt, MTuple, MCode, MEnd, MApply, MPack, MName, MProj, MArith, MUnpack}
use Rattle.c_terms.specs.Stream.{MCell, MGet, MSet, MCall, MIf, MElse, MHalt}
use Rattle.kc_notation.specs.declared.page.Scope.{Scope}
use Rattle.let_types.specs.TypeTexts.{applied_text, note_text, pack_behind, pack_front, types_text}
use Rattle.kc_notation.specs.Heads.{code_line}
use Rattle.let_types.specs.Known.{Entry, Known, known_step, level_bound}

-- a body: its text so far, the values that wait, the last first, whether the text ends in a call that waits for its
-- arguments, its scope, and the scopes of the second branches to come
pub record Lines : Type 0 where
  pub text : List ℕ
  pub values : List (List ℕ)
  pub called : Bool
  pub scope : Scope
  pub branches : List Scope

-- the body that is written, and those around it
pub record Sheet : Type 0 where
  pub body : Lines
  pub around : List Lines

abbrev pub scope_of : ℕ → ℕ → Scope
scope_of n k = record { types = n; indent = k }

-- a body with this text, where no value waits
abbrev pub lines : List ℕ → Scope → List Scope → Lines
lines text scope branches = record { text = text; values = []; called = false; scope = scope; branches = branches }

abbrev pub last : List (List ℕ) → List ℕ
last [] = []
last (v ∷ vs) = v

abbrev pub others : List (List ℕ) → List (List ℕ)
others [] = []
others (v ∷ vs) = vs

-- the n last with commas between them, before a text, where i of them stand before it already
abbrev pub gathered : ℕ → ℕ → List (List ℕ) → List ℕ → List ℕ
gathered zero i vs text = text
gathered (suc n) i [] text = text
gathered (suc n) i (v ∷ vs) text = gathered n (suc i) vs (v ++ (separator i ++ text))

abbrev pub past : ℕ → List (List ℕ) → List (List ℕ)
past zero vs = vs
past (suc n) [] = []
past (suc n) (v ∷ vs) = past n vs

abbrev pub with_text : Lines → List ℕ → List (List ℕ) → Lines
with_text b text vs = record { text = text; values = vs; called = b.called; scope = b.scope; branches = b.branches }

abbrev pub with_values : Sheet → List (List ℕ) → Sheet
with_values p vs = record { body = with_text p.body p.body.text vs; around = p.around }

abbrev pub with_scope : Sheet → Scope → List Scope → Sheet
with_scope p scope branches = record {
  body = record {
    text = p.body.text;
    values = p.body.values;
    called = p.body.called;
    scope = scope;
    branches = branches;
  };
  around = p.around;
}

abbrev pub push : Sheet → List ℕ → Sheet
push p v = with_values p (v ∷ p.body.values)

abbrev pub popped : Sheet → Sheet
popped p = with_values p (others p.body.values)

-- the n last values become one: a tuple
abbrev pub tuple : Sheet → ℕ → Sheet
tuple p n =
    with_values p ((codes "<" ++ gathered n 0 p.body.values (codes ">")) ∷ past n p.body.values)

-- the last value is wrapped
abbrev pub wrap : Sheet → List ℕ → List ℕ → Sheet
wrap p front behind = push (popped p) (front ++ (last p.body.values ++ behind))

-- one more line, of the last value and what stands around it
abbrev pub line : Sheet → List ℕ → List ℕ → Sheet
line p front behind = record {
  body = with_text p.body (p.body.text ++ (front ++ (last p.body.values ++ behind))) (others p.body.values);
  around = p.around;
}

-- what a line begins with
abbrev pub begun : Sheet → List ℕ → List ℕ
begun p word = margin p.body.scope.indent ++ word

-- a name is declared as the last value, with a word in front of it and a text behind the name
abbrev pub declare : Sheet → ℕ → List ℕ → List ℕ → Sheet
declare p level note word =
    line p (begun p (codes "let " ++ (value_name level ++ (note ++ (codes " = " ++ word))))) (codes "\n")

-- the last two values become one, with a sign between them
abbrev pub pair : Sheet → List ℕ → Sheet
pair p sign = push (popped (popped p)) (last (others p.body.values) ++ (sign ++ last p.body.values))

-- a type's name and a value's are declared as what the last value holds
abbrev pub unpack : Sheet → ℕ → List ℕ → Sheet
unpack p level note = with_scope
    (line p (begun p (codes "let [" ++ (type_name p.body.scope.types ++ (codes ", " ++ (value_name level
    ++ (note ++ codes "] = unpack ")))))) (codes "\n"))
    (scope_of (p.body.scope.types + 1) p.body.scope.indent) p.body.branches

-- a code begins with this line, inside so many type names
abbrev pub opened : Sheet → List ℕ → ℕ → Sheet
opened p head types = record {
  body = lines head (scope_of types (p.body.scope.indent + 1)) [];
  around = p.body ∷ p.around;
}

abbrev pub enter : Sheet → ℕ → CTys → Sheet
enter p owes args = opened p (code_line true 0 0 owes args) owes

-- a call, whose arguments follow
abbrev pub called : Sheet → Sheet
called p = record {
  body = record {
    text = p.body.text;
    values = p.body.values;
    called = true;
    scope = p.body.scope;
    branches = p.body.branches;
  };
  around = p.around;
}

abbrev pub call : Sheet → CTys → Sheet
call p ts = called (line p (begun p []) (codes "[" ++ (types_text p.body.scope.types ts ++ codes "](")))

-- the text where the body ends here: the call that waits has its arguments
abbrev pub finished : Bool → List (List ℕ) → List ℕ → List ℕ
finished true vs text = text ++ gathered (length vs) 0 vs (codes ")\n")
finished false vs text = text

abbrev pub shut : Lines → List ℕ
shut b = finished b.called b.values b.text

-- the body of a code ends, and the code is a value of the body around
abbrev pub leave : Sheet → List Lines → Sheet
leave p [] = p
leave p (b ∷ bs) =
    push (record { body = b; around = bs }) (shut p.body ++ (margin b.scope.indent ++ codes "}"))

-- the first branch of a test begins
abbrev pub choose : Sheet → Sheet
choose p = with_scope (line p (begun p (codes "if0 ")) (codes " then\n"))
    (scope_of p.body.scope.types (p.body.scope.indent + 1)) (p.body.scope ∷ p.body.branches)

-- the second one does
abbrev pub turn : Sheet → List Scope → Sheet
turn p [] = p
turn p (s ∷ ss) = record {
  body = lines (shut p.body ++ (margin s.indent ++ codes "else\n")) (scope_of s.types (s.indent + 1)) ss;
  around = p.around;
}

-- one node more, with a text behind the name that it declares
abbrev pub step : List ℕ → CNd → Sheet → Sheet
step note (MVar l) p = push p (value_name l)
step note (MInt z) p = push p (number z)
step note (MTuple n) p = tuple p n
step note (MCode owes args) p = enter p owes args
step note MEnd p = leave p p.around
step note (MApply ts) p = wrap p [] (applied_text p.body.scope.types ts)
step note (MPack h s) p = wrap p (pack_front p.body.scope.types h) (pack_behind p.body.scope.types s)
step note (MName l) p = declare p l note []
step note (MProj l i) p = declare p l note (codes "#" ++ (decimal i ++ codes " "))
step note (MArith l op) p = declare (pair p (op_sign op)) l note []
step note (MUnpack l) p = unpack p l note
step note (MCell l) p = declare p l note (codes "ref ")
step note (MGet l) p = declare p l note (codes "!")
step note (MSet l) p = declare (pair p (codes " := ")) l note []
step note (MCall ts n) p = call p ts
step note MIf p = choose p
step note MElse p = turn p p.body.branches
step note MHalt p = line p (begun p (codes "halt ")) (codes "\n")

-- what stands behind the name of a level
abbrev pub name_note : Bool → List Entry → ℕ → List ℕ
name_note b [] l = []
name_note b (e ∷ es) zero = note_text b e.types e.ty
name_note b (e ∷ es) (suc l) = name_note b es l

abbrev pub note_at : Bool → List Entry → Option ℕ → List ℕ
note_at b es None = []
note_at b es (Some l) = name_note b es l

-- what stands behind the name that a node declares, by what is known once it is declared
abbrev pub noted : Bool → CNd → Known → List ℕ
noted b n κ = note_at b κ.body.names (level_bound n)

-- the nodes in turn, by what is known of the types of names
abbrev pub walk : Bool → List CNd → Known → Sheet → Sheet
walk b [] κ p = p
walk b (n ∷ ns) κ p =
    let after = known_step p.body.scope.types n κ in walk b ns after (step (noted b n after) n p)

-- nothing is written yet
abbrev pub blank : Sheet
blank = record { body = lines [] (scope_of 0 0) []; around = [] }
