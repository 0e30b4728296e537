-- Typing of hoisted programs where each type that is written, or that typing gives to a value or a name, has a
-- property.
use Rattle.std.specs.Prelude.{ℕ, List, [], ◌∷◌}
use Rattle.calc_core.specs.TypedWith.{HasWith, HaveWith, GivesWith, TypedWith}
use Rattle.c_terms.specs.C.{CTy, CTys}
use Rattle.c_terms.specs.Each.{CAll, CProp}
use Rattle.c_terms.specs.Typing.{CIns, cargs_onto}
use Rattle.h_terms.specs.H.{HBlk, HBlks, HVal, HVals, HDecl, HTm}
use Rattle.h_terms.specs.Typing.{BlockHas}

abbrev pub HHasWith : CProp → HBlks → ℕ → List CTy → HVal → CTy → Type 0
HHasWith P ks = HasWith P (BlockHas ks)

abbrev pub HHaveWith : CProp → HBlks → ℕ → List CTy → HVals → CTys → Type 0
HHaveWith P ks = HaveWith P (BlockHas ks)

abbrev pub HGivesWith : CProp → HBlks → ℕ → List CTy → HDecl → CTy → Type 0
HGivesWith P ks = GivesWith P (BlockHas ks)

abbrev pub HTypedWith : CProp → HBlks → ℕ → List CTy → HTm → Type 0
HTypedWith P ks = TypedWith P (BlockHas ks)

-- each block's body is typed under its parameters
abbrev pub AllTypedWith : CProp → HBlks → List HBlk → Type 0
AllTypedWith P ks [] = Unit {0}
AllTypedWith P ks (x ∷ xs) =
    (CIns x.owes x.args × CAll P x.owes x.args × HTypedWith P ks x.owes (cargs_onto x.args []) x.body)
    × AllTypedWith P ks xs

-- a program is typed where each block is, and its main term with nothing in scope
abbrev pub HProgramWith : CProp → HBlks → HTm → Type 0
HProgramWith P ks t = AllTypedWith P ks ks × HTypedWith P ks 0 [] t
