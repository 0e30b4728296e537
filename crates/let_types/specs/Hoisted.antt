-- The types of hoisted values and of what hoisted declarations name, where g are those of the names in scope.
use Rattle.std.specs.Prelude.{◌≡◌, ℕ, Bool, true, false, List, [], ◌∷◌, Option, Some, None}
use Rattle.calc_core.specs.Row.{others, top}
use Rattle.calc_core.specs.TypeOf as T
use Rattle.calc_core.specs.declared.types.CoreType.{CoreType as CType}
use Rattle.c_terms.specs.C.{CTy, CTys, TCInt, TCCode}
use Rattle.c_terms.specs.Read.{ctree}
use Rattle.h_terms.specs.H.{HArith, HBlk, HBlks, HCell, HDecl, HGet, HName, HProj, HSet, HUnpack, HVal, HVals, block_at}
use Rattle.h_terms.specs.Nodes.{no_value}
use Rattle.h_terms.specs.declared.node.HForm.{HForm}
use Rattle.h_terms.specs.declared.node.HForm.TheVariants as H
pub use Rattle.calc_core.specs.TypeOf.{types_behind}

-- the type of the code at a label
abbrev pub code_type : Option HBlk → CTy
code_type None = TCInt
code_type (Some k) = TCCode k.owes k.args

abbrev pub label_type : HBlks → ℕ → CTy
label_type ks l = code_type (block_at ks l)

abbrev pub value_type : HBlks → List CTy → HVal → CTy
value_type ks = T.type_of (label_type ks)

abbrev pub value_types : HBlks → List CTy → HVals → CTys
value_types ks = T.types_of (label_type ks)

abbrev pub decl_type : HBlks → List CTy → HDecl → CTy
decl_type ks = T.decl_type (label_type ks)

abbrev pub names_behind : HBlks → List CTy → HDecl → List CTy
names_behind ks = T.names_behind (label_type ks)

-- these are the types of these values
abbrev pub AreOf : HBlks → List CTy → List CType → List HVal → Type 0
AreOf ks g [] [] = Unit {0}
AreOf ks g [] (v ∷ vs) = ⊥
AreOf ks g (t ∷ ts) [] = ⊥
AreOf ks g (t ∷ ts) (v ∷ vs) = (ctree t ≡ value_type ks g v) × AreOf ks g ts vs

-- a node of this form is a declaration
abbrev pub is_decl : HForm → Bool
is_decl (H.Call us) = false
is_decl H.If0 = false
is_decl H.Halt = false
is_decl _ = true

-- which one, with these values
abbrev pub decl_of : HForm → List HVal → HDecl
decl_of H.Name vs = HName (top no_value vs)
decl_of (H.Proj i) vs = HProj i (top no_value vs)
decl_of (H.Arith o) vs = HArith o (top no_value vs) (top no_value (others vs))
decl_of H.Unpack vs = HUnpack (top no_value vs)
decl_of H.Cell vs = HCell (top no_value vs)
decl_of H.Get vs = HGet (top no_value vs)
decl_of H.Set vs = HSet (top no_value vs) (top no_value (others vs))
decl_of _ vs = HName no_value

-- the type of the first of these values
abbrev pub first_type : HBlks → List CTy → List HVal → CTy
first_type ks g vs = value_type ks g (top no_value vs)
