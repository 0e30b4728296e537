-- What the walk keeps.
use Rattle.std.specs.Prelude.{◌≡◌, ◌<◌, ℕ, zero, suc, Bool, true, List, [], ◌∷◌, ◌++◌, Option, Some, None, length}
use Rattle.std.proofs.Common.{Vec, Global}
use Rattle.c_terms.specs.Stream as S
use Rattle.calc_core.specs.declared.types.CoreType.{CoreType as CType}
use Rattle.h_terms.specs.declared.node.HNode.{HNode}
use Rattle.h_terms.specs.declared.node.HBlock.{HBlock}
use Rattle.h_pass.specs.declared.state.Open.{Open}
use Rattle.h_pass.specs.declared.state.Walk.{Walk}
use Rattle.h_terms.specs.declared.node.HForm.{HForm}
use Rattle.h_terms.specs.declared.node.HForm.TheVariants.{Name, Proj, Arith, Unpack, Cell, Get, Set, Call, If0, Halt}
use Rattle.h_terms.specs.declared.node.HPart.{HPart}
use Rattle.c_terms.specs.C.{CTys}
use Rattle.c_terms.specs.Read.{ctys}
use Rattle.h_terms.specs.H.{HBlks, HTm, HVal}
use Rattle.h_terms.specs.Nodes.{HRow, HRows, h_blocks, h_build, h_kids, more, no_term, reads, values}
use Rattle.calc_core.specs.Row.{others, top}
use Rattle.h_pass.specs.Hoist.{Code, Nobody, Own}
use Rattle.h_pass.specs.Stream.{Around, Found, both, found_in, has_room, hoisted, is_one, is_some, is_two}

-- the name of the code
abbrev pub own_of : Option ℕ → Own
own_of None = Nobody
own_of (Some l) = Code l

-- the types of the call that waits for its arguments
abbrev pub waiting : Option (Vec CType Global) → Option CTys
waiting None = None
waiting (Some ts) = Some (ctys ts.items)

-- the codes around
abbrev pub around : List Open → List Around
around [] = []
around (f ∷ fs) = record {
  own = own_of f.own;
  depths = f.depths.items;
  values = reads [] f.parts.items;
  call = waiting f.call;
} ∷ around fs

-- what the rest of the nodes holds
abbrev pub found : Walk → List S.CNd → Found
found w rest = found_in rest (length w.blocks.items) (own_of w.current.own) w.current.depths.items
    (reads [] w.current.parts.items) (waiting w.current.call) (around w.outer.items)

-- nodes before terms
abbrev pub h_onto : List HNode → List HTm → List HTm
h_onto [] ts = ts
h_onto (n ∷ ns) ts = h_build n.form (values n) (h_onto ns ts)

abbrev pub body_with : List HNode → List HTm → HTm
body_with ns ts = top no_term (h_onto ns ts)

-- the body of block l is changed
abbrev pub filled : ℕ → HTm → HBlks → HBlks
filled l t [] = []
filled zero t (k ∷ ks) = record { owes = k.owes; args = k.args; body = t } ∷ ks
filled (suc l) t (k ∷ ks) = k ∷ filled l t ks

abbrev pub fill_own : Option ℕ → HTm → HBlks → HBlks
fill_own None t ks = ks
fill_own (Some l) t ks = filled l t ks

-- the program, where the current code's body is t
abbrev pub closes : Option ℕ → HTm → List Open → List (List HTm) → HBlks → HBlks × HTm
closes own t [] tss ks = (ks, t)
closes own t (f ∷ fs) tss ks = closes f.own (body_with f.nodes.items (top [] tss)) fs (others tss) (fill_own own t ks)

-- with the nodes of the terms to come these are one term's
abbrev pub Begun : List HNode → ℕ → Type 0
Begun ns m = (rest : List HNode) → HRow rest m → HRow (ns ++ rest) 1

abbrev pub AllBegun : List Open → Type 0
AllBegun [] = Unit {0}
AllBegun (f ∷ fs) = Begun f.nodes.items (length f.depths.items) × AllBegun fs

-- within a code its label is that of one of the n blocks
abbrev pub Labelled : ℕ → Option ℕ → List Open → Type 0
Labelled n own [] = Unit {0}
Labelled n None (f ∷ fs) = ⊥
Labelled n (Some l) (f ∷ fs) = (l < n) × Labelled n f.own fs

-- what is made so far and what the rest holds are the program
pub record Yields (r : Found) (bs : List HBlock) (own : Option ℕ) (ns : List HNode) (ds : List ℕ) (fs : List Open)
    (program : HBlks × HTm) : Type 0 where
  pub fine : r.fine ≡ true
  pub same : closes own (body_with ns r.terms) fs r.outer (h_blocks bs ++ r.blocks) ≡ program
  pub rows : HRows bs
  pub begun : Begun ns (length ds)
  pub all : AllBegun fs
  pub labelled : Labelled (length bs) own fs

abbrev pub Walked : Walk → List S.CNd → HBlks × HTm → Type 0
Walked w rest program =
    Yields
    (found w rest) w.blocks.items w.current.own w.current.nodes.items w.current.depths.items w.outer.items program

-- a step
abbrev pub Goes : Walk → List S.CNd → Walk → List S.CNd → Type 0
Goes w before v after = (program : HBlks × HTm) → Walked w before program → Walked v after program

-- the step of a node
abbrev pub Steps : Walk → S.CNd → Walk → Type 0
Steps w n v = (rest : List S.CNd) → Goes w (n ∷ rest) v rest

-- whether a form has its values
abbrev pub arity : HForm → List HVal → Bool
arity Name vs = is_one vs
arity (Proj i) vs = is_one vs
arity (Arith o) vs = is_two vs
arity Unpack vs = is_one vs
arity Cell vs = is_one vs
arity Get vs = is_one vs
arity Set vs = is_two vs
arity (Call us) vs = is_some vs
arity If0 vs = is_one vs
arity Halt vs = is_one vs

-- one more node before what was found
abbrev pub built : HForm → List HVal → Bool → Found → Found
built form vs ok r = record {
  terms = h_build form vs r.terms;
  outer = r.outer;
  blocks = r.blocks;
  fine = both ok r.fine;
}

-- a node that makes the values before it a node of this form, where there is room, after which the names in scope are
-- these
abbrev pub Makes : HForm → (List ℕ → Bool) → (List ℕ → List ℕ) → S.CNd → Type 0
Makes form room after n = (rest : List S.CNd) (b : ℕ) (own : Own) (ds : List ℕ) (vs : List HVal) (c : Option CTys)
    (fs : List Around) →
    found_in (n ∷ rest) b own ds vs c fs ≡ built form vs (both (room ds) (arity form vs))
    (found_in rest b own (after ds) [] c fs)

-- a declaration binds one name
abbrev pub one_name : List ℕ → List ℕ
one_name ds = suc (top 0 ds) ∷ others ds

abbrev pub Declares : HForm → S.CNd → Type 0
Declares form n = (h_kids form ≡ 1) × Makes form has_room one_name n

-- a node that is a part of a value
abbrev pub IsPart : HPart → S.CNd → Type 0
IsPart part n = (rest : List S.CNd) (b : ℕ) (own : Own) (ds : List ℕ) (vs : List HVal) (c : Option CTys)
    (fs : List Around) →
    found_in (n ∷ rest) b own ds vs c fs ≡ found_in rest b own ds (more part vs) c fs

-- the term ends here
abbrev pub Ends : List S.CNd → Type 0
Ends [] = Unit {0}
Ends (S.MEnd ∷ ns) = Unit {0}
Ends (S.MElse ∷ ns) = Unit {0}
Ends (n ∷ ns) = ⊥

-- the program that the nodes hold
abbrev pub program_of : List S.CNd → HBlks × HTm
program_of ns = ((hoisted ns).blocks, top no_term (hoisted ns).terms)
