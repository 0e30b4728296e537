-- Hoisting along the nodes.
use Rattle.std.specs.Prelude.{nat_lt, ◌≡◌, ℕ, zero, suc, ◌-◌, Bool, true, false, List, [], ◌∷◌, ◌++◌, Option, Some}
use Rattle.std.specs.Prelude.{None}
use Rattle.calc_core.specs.Ends.{lift}
use Rattle.c_terms.specs.C.{CTm, CTys, ccount}
use Rattle.c_terms.specs.Stream.{CNd, MApply, MArith, MCall, MCell, MCode, MElse, MEnd, MGet, MHalt, MIf, MInt, MName}
use Rattle.c_terms.specs.Stream.{MPack, MProj, MSet, MTuple, MUnpack, MVar}
use Rattle.h_terms.specs.H.{HApply, HArith, HBlks, HCall, HCell, HDecl, HGet, HHalt, HIf, HInt, HLabel, HLet, HName}
use Rattle.h_terms.specs.H.{HPack, HProj, HSet, HTm, HUnpack, HVal, HVar}
use Rattle.h_terms.specs.Nodes.{at_last, no_term, no_value, tied, tupled}
use Rattle.calc_core.specs.Row.{others, top}
use Rattle.h_pass.specs.Hoist.{Code, Nobody, Own, blocks_of, main_of}

-- a code around the current one: the names in scope of each of its terms to come, its values so far, and the call
-- that waits for its arguments
pub record Around : Type 0 where
  pub own : Own
  pub depths : List ℕ
  pub values : List HVal
  pub call : Option CTys

-- what the rest of the nodes holds: terms of the current code, terms of the codes around it, the blocks of the codes
-- to come, and whether all fits
pub record Found : Type 0 where
  pub terms : List HTm
  pub outer : List (List HTm)
  pub blocks : HBlks
  pub fine : Bool

-- two tests, the first first
abbrev pub both : Bool → Bool → Bool
both true b = b
both false b = false

-- a list of none, of some, of one, of two
abbrev pub is_none : {T : Type 0} → List T → Bool
is_none [] = true
is_none (x ∷ xs) = false

abbrev pub is_some : {T : Type 0} → List T → Bool
is_some [] = false
is_some (x ∷ xs) = true

abbrev pub is_one : {T : Type 0} → List T → Bool
is_one [] = false
is_one (x ∷ xs) = is_none xs

abbrev pub is_two : {T : Type 0} → List T → Bool
is_two [] = false
is_two (x ∷ xs) = is_one xs

-- a term is due, and one more of its names is still a number of 64 bits
abbrev pub has_room : List ℕ → Bool
has_room [] = false
has_room (d ∷ ds) = nat_lt d 18446744073709551615

-- the value of a level under e names, the first of which is the name of the code around
abbrev pub name_at : Own → ℕ → ℕ → HVal
name_at Nobody e l = HVar (e - 1 - l)
name_at (Code b) e zero = HLabel b
name_at (Code b) e (suc l) = HVar (e - 1 - suc l)

-- a declaration before what was found
abbrev pub let_found : Bool → HDecl → Found → Found
let_found ok x r = record {
  terms = HLet x (top no_term r.terms) ∷ others r.terms;
  outer = r.outer;
  blocks = r.blocks;
  fine = both ok r.fine;
}

-- a test before its two terms
abbrev pub if_found : Bool → HVal → Found → Found
if_found ok v r = record {
  terms = HIf v (top no_term r.terms) (top no_term (others r.terms)) ∷
      others (others r.terms);
  outer = r.outer;
  blocks = r.blocks;
  fine = both ok r.fine;
}

-- a term that ends here
abbrev pub end_found : Bool → HTm → Found → Found
end_found ok t r = record { terms = t ∷ r.terms; outer = r.outer; blocks = r.blocks; fine = both ok r.fine }

-- the code ends here: its term is the body of its block, and the terms around it go on
abbrev pub code_found : ℕ → CTys → Found → Found
code_found owes args r =
    record {
      terms = top [] r.outer;
      outer = others r.outer;
      blocks = record { owes = owes; args = args; body = top no_term r.terms } ∷ r.blocks;
      fine = r.fine;
    }

-- the code around goes on
abbrev pub out_found : Bool → Found → Found
out_found ok r = record { terms = []; outer = r.terms ∷ r.outer; blocks = r.blocks; fine = both ok r.fine }

-- no node is left
abbrev pub nothing : Bool → Found
nothing ok = record { terms = []; outer = []; blocks = []; fine = ok }

-- a call of the first value with the others
abbrev pub call_of : List HVal → CTys → HTm
call_of vs ts = HCall (top no_value vs) ts (tied (others vs))

-- a term is due, and there is a value to call
abbrev pub call_ok : List ℕ → List HVal → Bool
call_ok ds vs = both (is_some ds) (is_some vs)

-- with b codes begun before
abbrev pub found_in : List CNd → ℕ → Own → List ℕ → List HVal → Option CTys → List Around → Found
found_in [] b own ds vs None fs = nothing (both (is_none ds) (is_none fs))
found_in [] b own ds vs (Some ts) fs =
    end_found (call_ok ds vs) (call_of vs ts) (nothing (both (is_none (others ds)) (is_none fs)))
found_in (MVar l ∷ ns) b own ds vs c fs = found_in ns b own ds (vs ++ name_at own (top 0 ds) l ∷ []) c fs
found_in (MInt n ∷ ns) b own ds vs c fs = found_in ns b own ds (vs ++ HInt n ∷ []) c fs
found_in (MTuple n ∷ ns) b own ds vs c fs = found_in ns b own ds (tupled n vs) c fs
found_in (MCode owes args ∷ ns) b own ds vs c fs =
    code_found owes args
    (found_in ns (suc b) (Code b) (lift (ccount args) 1 ∷ []) [] None
    (record { own = own; depths = ds; values = vs ++ HLabel b ∷ []; call = c } ∷ fs))
found_in (MEnd ∷ ns) b own ds vs None [] = nothing false
found_in (MEnd ∷ ns) b own ds vs (Some ts) [] = end_found (call_ok ds vs) (call_of vs ts) (nothing false)
found_in (MEnd ∷ ns) b own ds vs None (f ∷ fs) =
    out_found (is_none ds) (found_in ns b f.own f.depths f.values f.call fs)
found_in (MEnd ∷ ns) b own ds vs (Some ts) (f ∷ fs) =
    end_found (call_ok ds vs) (call_of vs ts)
    (out_found (is_none (others ds)) (found_in ns b f.own f.depths f.values f.call fs))
found_in (MApply ts ∷ ns) b own ds vs c fs = found_in ns b own ds (at_last (λ v. HApply v ts) vs) c fs
found_in (MPack h s ∷ ns) b own ds vs c fs = found_in ns b own ds (at_last (λ v. HPack h v s) vs) c fs
found_in (MName l ∷ ns) b own ds vs c fs =
    let_found (both (has_room ds) (is_one vs)) (HName (top no_value vs))
    (found_in ns b own (suc (top 0 ds) ∷ others ds) [] c fs)
found_in (MProj l i ∷ ns) b own ds vs c fs =
    let_found (both (has_room ds) (is_one vs)) (HProj i (top no_value vs))
    (found_in ns b own (suc (top 0 ds) ∷ others ds) [] c fs)
found_in (MArith l o ∷ ns) b own ds vs c fs =
    let_found (both (has_room ds) (is_two vs)) (HArith o (top no_value vs) (top no_value (others vs)))
    (found_in ns b own (suc (top 0 ds) ∷ others ds) [] c fs)
found_in (MUnpack l ∷ ns) b own ds vs c fs =
    let_found (both (has_room ds) (is_one vs)) (HUnpack (top no_value vs))
    (found_in ns b own (suc (top 0 ds) ∷ others ds) [] c fs)
found_in (MCell l ∷ ns) b own ds vs c fs =
    let_found (both (has_room ds) (is_one vs)) (HCell (top no_value vs))
    (found_in ns b own (suc (top 0 ds) ∷ others ds) [] c fs)
found_in (MGet l ∷ ns) b own ds vs c fs =
    let_found (both (has_room ds) (is_one vs)) (HGet (top no_value vs))
    (found_in ns b own (suc (top 0 ds) ∷ others ds) [] c fs)
found_in (MSet l ∷ ns) b own ds vs c fs =
    let_found (both (has_room ds) (is_two vs)) (HSet (top no_value vs) (top no_value (others vs)))
    (found_in ns b own (suc (top 0 ds) ∷ others ds) [] c fs)
found_in (MCall ts n ∷ ns) b own ds vs c fs = found_in ns b own ds vs (Some ts) fs
found_in (MIf ∷ ns) b own ds vs c fs =
    if_found (both (is_some ds) (is_one vs)) (top no_value vs) (found_in ns b own (top 0 ds ∷ ds) [] c fs)
found_in (MElse ∷ ns) b own ds vs None fs = found_in ns b own ds vs None fs
found_in (MElse ∷ ns) b own ds vs (Some ts) fs =
    end_found (call_ok ds vs) (call_of vs ts) (found_in ns b own (others ds) [] None fs)
found_in (MHalt ∷ ns) b own ds vs c fs =
    end_found (both (is_some ds) (is_one vs)) (HHalt (top no_value vs)) (found_in ns b own (others ds) [] c fs)

-- the whole of the nodes
abbrev pub hoisted : List CNd → Found
hoisted ns = found_in ns 0 Nobody (0 ∷ []) [] None []

-- these are the nodes of exactly one term
abbrev pub IsFine : List CNd → Type 0
IsFine ns = (hoisted ns).fine ≡ true

-- what the nodes of a term hold: its blocks and its main term
abbrev pub whole : CTm → Found
whole t = record { terms = main_of t ∷ []; outer = []; blocks = blocks_of t ++ []; fine = true }
