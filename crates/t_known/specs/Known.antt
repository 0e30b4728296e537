-- What is known of the registers, as the checker keeps it: by numbers of the types ts.
use Rattle.std.specs.Prelude.{◌≡◌, ℕ, ◌-◌, ◌<◌, ◌≤◌, ◌⊎◌, nat_eq, cond, Bool, List, [], ◌∷◌, ◌++◌, length, Option, Some}
use Rattle.std.specs.Prelude.{None, option_map}
use Rattle.std.specs.BTreeMap.{get}
use Rattle.std.specs.Ordering.{nat_cmp}
use Rattle.t_types.specs.Tree.{Ty, CodeTy, TFile, TFields, TupleTy, Below, shift}
use Rattle.t_types.specs.Fits.{RegTypes, lookup}
use Rattle.t_types.specs.Fields.{AField, field, filled}
use Rattle.t_types.specs.WellFormed.{max_names}
use Rattle.t_terms.specs.Registers.{with_reg}
use Rattle.t_intern.specs.Nodes.{at}
use Rattle.t_types.specs.Bounds.{Bounded}
use Rattle.t_known.specs.Fitted.{Rises, FitsBut}
use Rattle.t_known.specs.Marks.{with_marks, IsMarks}
use Rattle.t_known.specs.declared.registers.Entry.{Entry}
use Rattle.t_known.specs.declared.registers.Moment.{Moment}
use Rattle.t_known.specs.declared.registers.Registers.{Registers}

-- the type of an entry, with the flags of the fields that were filled since it was noted; and where n type names are in
-- scope
abbrev pub own : List Ty → Entry → Ty
own ts e = with_marks ts e.marks (at ts e.ty)

abbrev pub seen : List Ty → ℕ → Entry → Ty
seen ts n e = shift (n - e.names) 0 (own ts e)

abbrev pub entry_of : Registers → ℕ → Option Entry
entry_of k r = get nat_cmp k.entries r

abbrev pub known : List Ty → Registers → RegTypes
known ts k r = option_map (seen ts k.names) (entry_of k r)

-- an entry's type is one that a value may have, under names that are still in scope
abbrev pub IsEntry : List Ty → ℕ → Entry → Type 0
IsEntry ts n e = (e.ty < length ts) × (e.names ≤ n) × Bounded e.names (own ts e) × IsMarks ts e.marks

-- when the file of a code type was seen to fit, by the number of the code type
abbrev pub moment_of : Registers → ℕ → Option Moment
moment_of k f = get nat_cmp k.fitted f

-- The file of the code type f fitted at the moment m. It fits now but for the registers that were set since, where the
-- names in scope are the same or none is free in it.
pub record IsFitted (ts : List Ty) (k : Registers) (f : ℕ) (m : Moment) : Type 0 where
  pub there : f < length ts
  pub set : m.set ≤ length k.changed.items
  pub names : m.names ≤ k.names
  pub rises : (file : TFile) → at ts f ≡ CodeTy 0 file → Rises file
  pub fits : (m.names ≡ k.names) ⊎ Below 0 (at ts f) → (file : TFile) → at ts f ≡ CodeTy 0 file →
      FitsBut (known ts k) file k.changed.items m.set

-- what is known by numbers of ts is sound
pub record IsSound (ts : List Ty) (k : Registers) : Type 0 where
  pub few : k.names ≤ max_names
  pub entries : (r : ℕ) (e : Entry) → entry_of k r ≡ Some e → IsEntry ts k.names e
  pub fitted : (f : ℕ) (m : Moment) → moment_of k f ≡ Some m → IsFitted ts k f m

-- what is known of the register r, by its entry
abbrev pub IsFound : List Ty → Registers → ℕ → Option Entry → Type 0
IsFound ts k r None = known ts k r ≡ None
IsFound ts k r (Some e) = (known ts k r ≡ Some (seen ts k.names e)) × IsEntry ts k.names e

-- the registers of the file of a block that owes n types
abbrev pub IsOfBlock : List Ty → ℕ → TFile → Registers → Type 0
IsOfBlock ts n f k = (known ts k ≡ lookup f) × IsSound ts k × (k.names ≡ n)

-- h is k where the register r has the entry e, and is the last that was set
abbrev pub IsSet : Registers → Registers → ℕ → Entry → Type 0
IsSet k h r e =
    ((q : ℕ) → entry_of h q ≡ cond (nat_eq r q) (Some e) (entry_of k q)) × (h.names ≡ k.names)
    × (h.changed.items ≡ k.changed.items ++ r ∷ []) × (h.fitted ≡ k.fitted)

-- h is k but for what is remembered of files
abbrev pub IsSame : Registers → Registers → Type 0
IsSame k h = (h.entries ≡ k.entries) × (h.names ≡ k.names) × (h.changed ≡ k.changed)

-- h is k where the file of the code type f is remembered to fit now
abbrev pub now_of : Registers → Moment
now_of k = record { set = length k.changed.items; names = k.names }

abbrev pub IsRemembered : Registers → Registers → ℕ → Type 0
IsRemembered k h f =
    ((q : ℕ) → moment_of h q ≡ cond (nat_eq f q) (Some (now_of k)) (moment_of k q)) × IsSame k h

-- h is k where the register r has the type t from now on
abbrev pub IsNoted : List Ty → Registers → Registers → ℕ → Ty → Type 0
IsNoted ts k h r t = (known ts h ≡ with_reg (known ts k) r t) × IsSound ts h × (h.names ≡ k.names)

-- the type is that of a tuple with the field
abbrev pub IsTupleWith : Ty → ℕ → Type 0
IsTupleWith u i = (fs : TFields) × (t : Ty) × (flag : Bool) × (u ≡ TupleTy fs) × (field fs i ≡ Some (AField t flag))

-- the register is known to hold one
abbrev pub HasField : RegTypes → ℕ → ℕ → Type 0
HasField g r i = (u : Ty) × (g r ≡ Some u) × IsTupleWith u i

-- h, by the types us, is k, by the types ts, where the field of the register's tuple is initialised
abbrev pub IsFilled : List Ty → List Ty → Registers → Registers → ℕ → ℕ → Type 0
IsFilled ts us k h r i =
    ((fs : TFields) → known ts k r ≡ Some (TupleTy fs) → known us h ≡ with_reg (known ts k) r (TupleTy (filled fs i)))
    × IsSound us h × (h.names ≡ k.names)

-- no register has a type, and no file is remembered
abbrev pub IsEmpty : Registers → Type 0
IsEmpty k = ((r : ℕ) → entry_of k r ≡ None) × ((f : ℕ) → moment_of k f ≡ None)

-- The file of the code type f rises, and fits but for the registers from the place i on.
pub record IsFittedBut (ts : List Ty) (k : Registers) (f i : ℕ) : Type 0 where
  pub set : i ≤ length k.changed.items
  pub rises : (file : TFile) → at ts f ≡ CodeTy 0 file → Rises file
  pub fits : (file : TFile) → at ts f ≡ CodeTy 0 file → FitsBut (known ts k) file k.changed.items i
