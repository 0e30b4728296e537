-- The plain state of the walk that finds out types.
use Rattle.std.specs.Prelude.{◌≡◌, ℕ, List, [], ◌∷◌, Bool, true, false, cond, ◌++◌, suc}
use Rattle.calc_core.specs.Ends.{lift}
use Rattle.k_terms.specs.K.{KTy, KTys, TKCode}
use Rattle.k_terms.specs.Stream.{KNd}
use Rattle.k_terms.specs.Read.{ktree}
use Rattle.c_terms.specs.C.{TCInt, NoCTys}
use Rattle.c_rules.specs.Close as L
use Rattle.c_rules.specs.Sweep.{known_below}
use Rattle.c_rules.specs.Emit as E
use Rattle.c_rules.specs.Know as W
use Rattle.c_emit.specs.declared.parts.Info.{Info}
use Rattle.c_emit.specs.declared.parts.Note.{Note}
use Rattle.c_emit.specs.Read.{info, note}
use Rattle.c_emit.specs.declared.names.Side.{Side}
use Rattle.c_emit.specs.Names.{side}
use Rattle.c_pass.specs.declared.state.Clue.{Clue}
use Rattle.c_pass.specs.declared.state.Bound.{Bound}
use Rattle.c_pass.specs.declared.state.Knowledge.{Knowledge}

abbrev pub bound : Bound → W.Bound
bound x = record { type = ktree x.ty; depth = x.depth }

abbrev pub bounds : List Bound → List W.Bound
bounds [] = []
bounds (x ∷ xs) = bound x ∷ bounds xs

-- the levels of the type variables of a variable's type
abbrev pub levels_of : W.Bound → List ℕ
levels_of x = W.type_levels x.depth 0 x.type

abbrev pub clue : Clue → W.Clue
clue c = record { kept = c.kept.list.items; own = c.own; types = c.types.list.items }

abbrev pub clues_of : List Clue → List W.Clue
clues_of [] = []
clues_of (x ∷ xs) = clue x ∷ clues_of xs

abbrev pub clues_onto : List Clue → List W.Clue → List W.Clue
clues_onto [] rest = rest
clues_onto (c ∷ cs) rest = clue c ∷ clues_onto cs rest

abbrev pub sides : List Side → List W.Side
sides [] = []
sides (x ∷ xs) = side x ∷ sides xs

abbrev pub infos_onto : List Info → List E.Info → List E.Info
infos_onto [] rest = rest
infos_onto (x ∷ xs) rest = info x ∷ infos_onto xs rest

-- what the last walk is told of a code: the types of its closure inside it only where its own name is used
abbrev pub told_by : Bool → E.Info → E.Info
told_by b i = record {
  kept = i.kept;
  own = i.own;
  owes = i.owes;
  args = i.args;
  apply = i.apply;
  hidden = i.hidden;
  shape = i.shape;
  apply_in = cond b i.apply_in NoCTys;
  hidden_in = cond b i.hidden_in TCInt;
  shape_in = cond b i.shape_in TCInt;
}

abbrev pub told : E.Info → E.Info
told i = told_by i.own i

abbrev pub all_told : List E.Info → List E.Info
all_told [] = []
all_told (i ∷ is) = told i ∷ all_told is

abbrev pub told_known : W.Known → W.Known
told_known k = record { infos = all_told k.infos; notes = k.notes }

-- infos, and those that the last walk is told of the codes to come
abbrev pub infos_with : List Info → List E.Info → List E.Info
infos_with xs is = infos_onto xs (all_told is)

abbrev pub notes_onto : List Note → List E.Note → List E.Note
notes_onto [] rest = rest
notes_onto (x ∷ xs) rest = note x ∷ notes_onto xs rest

-- a type variable from outside its code, or from inside it
abbrev pub var_of : Bool → W.Side → ℕ → ℕ
var_of true f = W.outer_var f
var_of false f = W.side_var f

-- what the last walk is told in all, with the nodes that are left
abbrev pub total : Knowledge → List KNd → W.Known
total w ns =
    let k = W.know ns (bounds w.bounds.items) (side w.side) (sides w.outer.items) (clues_of w.clues.items) in
    record { infos = infos_with w.infos.items k.infos; notes = notes_onto w.notes.items k.notes }

abbrev pub side_from : ℕ → ℕ → List ℕ → List ℕ → List W.Bound → W.Side
side_from td owes types kept xs =
    record { depth = td; owes = owes; kept = known_below td (types ++ W.bound_levels xs kept); calling = false }

abbrev pub info_parts : ℕ → ℕ → KTys → List ℕ → Bool → List W.Bound → W.Side → W.Side → E.Info
info_parts td owes args kept own xs f g =
    W.info_from td owes args (let c : W.Clue = record { kept = kept; own = own; types = [] } in c) xs f g

-- what it is told in all, where a code begins
abbrev pub opened_total : Knowledge → ℕ → ℕ → ℕ → KTys → W.Clue → List KNd → W.Known
opened_total w d td owes args c ns =
    let xs = bounds w.bounds.items in
    let f = side w.side in
    let g = W.side_of td owes c xs in
    let k =
    W.with_info (W.info_from td owes args c xs f g)
    (W.know ns (W.bind_all (W.bind xs d (TKCode owes args) td) (suc d) args (lift owes td)) g
    (f ∷ sides w.outer.items) (clues_of w.clues.items)) in
    record { infos = infos_with w.infos.items k.infos; notes = notes_onto w.notes.items k.notes }

-- and where a call does
abbrev pub called_total : Knowledge → KTys → List KNd → W.Known
called_total w ts ns =
    let f = W.side_with w.side.owes true (side w.side) in
    let k =
    W.with_note (E.Calls (L.ctypes (W.side_var f) ts))
    (W.know ns (bounds w.bounds.items) f (sides w.outer.items) (clues_of w.clues.items)) in
    record { infos = infos_with w.infos.items k.infos; notes = notes_onto w.notes.items k.notes }

-- a node that binds the variable of a level, of this type, and does no more
abbrev pub Binds : KNd → ℕ → KTy → Type 0
Binds n l t =
    (ns : List KNd) (xs : List W.Bound) (f : W.Side) (fs : List W.Side) (cs : List W.Clue) →
    W.know (n ∷ ns) xs f fs cs ≡ W.know ns (W.bind xs l t (W.side_depth f)) f fs cs
