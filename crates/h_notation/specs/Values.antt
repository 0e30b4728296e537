-- What pieces of text stand for, and the lines of nodes by the texts of their values.
use Rattle.std.specs.Prelude.{ℕ, suc, List, [], ◌∷◌, ◌++◌, Vec, codes, decimal}
use Rattle.std.specs.declared.alloc.Global.{Global}
use Rattle.page_core.specs.Pieces.{HasText}
use Rattle.page_core.specs.declared.pieces.Pieces.{Pieces}
use Rattle.c_terms.specs.C.{CTys}
use Rattle.c_terms.specs.Read.{ctys}
use Rattle.let_types.specs.TypeTexts.{types_text}
use Rattle.h_terms.specs.H.{HVal}
use Rattle.calc_core.specs.Row.{others, top}
use Rattle.h_terms.specs.declared.node.HForm.{HForm}
use Rattle.h_terms.specs.declared.node.HForm.TheVariants as H
use Rattle.page_core.specs.Names.{op_sign, separator, type_name, value_name}
use Rattle.h_notation.specs.Notation.{let_text, value_text}

-- pieces that have the texts of these values inside n type names and m value names
abbrev pub HaveValues : Pieces → ℕ → ℕ → List ℕ → List HVal → Type 0
HaveValues p n m [] [] = Unit {0}
HaveValues p n m [] (v ∷ vs) = ⊥
HaveValues p n m (x ∷ xs) [] = ⊥
HaveValues p n m (x ∷ xs) (v ∷ vs) = HasText p x (value_text n m v) × HaveValues p n m xs vs

-- some texts
abbrev pub texts_of : List (Vec ℕ Global) → List (List ℕ)
texts_of [] = []
texts_of (t ∷ ts) = t.items ∷ texts_of ts

-- texts with commas between them, where i stand before them
abbrev pub joined_text : ℕ → List (List ℕ) → List ℕ
joined_text i [] = []
joined_text i (t ∷ ts) = separator i ++ (t ++ joined_text (suc i) ts)

abbrev pub call_line : ℕ → CTys → List (List ℕ) → List ℕ
call_line n us ts =
    top [] ts ++ (codes "[" ++ (types_text n us ++ (codes "](" ++ (joined_text 0 (others ts) ++ codes ")"))))

-- what a node says on its line, by the texts of its values, inside n type names and m value names, and behind the name
-- that it gives
abbrev pub form_line : ℕ → ℕ → List ℕ → HForm → List (List ℕ) → List ℕ
form_line n m note H.Name ts = let_text m note ++ top [] ts
form_line n m note (H.Proj i) ts = let_text m note ++ (codes "#" ++ (decimal i ++ (codes " " ++ top [] ts)))
form_line n m note (H.Arith op) ts = let_text m note ++ (top [] ts ++ (op_sign op ++ top [] (others ts)))
form_line n m note H.Unpack ts =
    codes "let ["
    ++ (type_name n ++ (codes ", " ++ (value_name m ++ (note ++ (codes "] = unpack " ++ top [] ts)))))
form_line n m note H.Cell ts = let_text m note ++ (codes "ref " ++ top [] ts)
form_line n m note H.Get ts = let_text m note ++ (codes "!" ++ top [] ts)
form_line n m note H.Set ts = let_text m note ++ (top [] ts ++ (codes " := " ++ top [] (others ts)))
form_line n m note (H.Call us) ts = call_line n (ctys us.items) ts
form_line n m note H.If0 ts = codes "if0 " ++ (top [] ts ++ codes " then")
form_line n m note H.Halt ts = codes "halt " ++ top [] ts
