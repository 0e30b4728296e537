-- Typing of hoisted programs.
use Rattle.std.specs.Prelude.{◌≡◌, ℕ, List, [], ◌∷◌, Some}
use Rattle.calc_core.specs.Typing.{LabelTypes, Has, Have, Gives, Typed}
use Rattle.c_terms.specs.C.{CTy, CTys, TCCode}
use Rattle.c_terms.specs.Typing.{CIns, cargs_onto}
use Rattle.h_terms.specs.H.{HBlk, HBlks, HVal, HVals, HDecl, HTm, block_at}

-- a label has the type of its block
abbrev pub BlockHas : HBlks → LabelTypes
BlockHas ks l t = (k : HBlk) × (block_at ks l ≡ Some k) × (t ≡ TCCode k.owes k.args)

abbrev pub HHas : HBlks → ℕ → List CTy → HVal → CTy → Type 0
HHas ks = Has (BlockHas ks)

abbrev pub HHave : HBlks → ℕ → List CTy → HVals → CTys → Type 0
HHave ks = Have (BlockHas ks)

abbrev pub HGives : HBlks → ℕ → List CTy → HDecl → CTy → Type 0
HGives ks = Gives (BlockHas ks)

abbrev pub HTyped : HBlks → ℕ → List CTy → HTm → Type 0
HTyped ks = Typed (BlockHas ks)

-- each block's body is typed under its parameters
abbrev pub AllGood : HBlks → List HBlk → Type 0
AllGood ks [] = Unit {0}
AllGood ks (x ∷ xs) = (CIns x.owes x.args × HTyped ks x.owes (cargs_onto x.args []) x.body) × AllGood ks xs

-- a program is typed where each block is, and its main term with nothing in scope
abbrev pub HProgramGood : HBlks → HTm → Type 0
HProgramGood ks t = AllGood ks ks × HTyped ks 0 [] t
