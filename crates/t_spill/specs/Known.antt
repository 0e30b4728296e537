-- What is known of the registers along a block, and what of it an instruction needs.
use Rattle.std.specs.Prelude.{◌≡◌, ℕ, ◌-◌, ◌≤◌, Option, Some, None, option_map}
use Rattle.std.specs.BTreeMap.{get}
use Rattle.std.specs.Ordering.{nat_cmp}
use Rattle.t_types.specs.Tree.{Ty, IntTy, TupleTy, TFile, NoRegs, MoreRegs, shift, ShiftFits}
use Rattle.t_types.specs.Read.{tree}
use Rattle.t_types.specs.Fields.{empty_fields}
use Rattle.t_types.specs.Fits.{lookup}
use Rattle.t_types.specs.WellFormed.{max_names, WellFormedFile}
use Rattle.t_terms.specs.Tree.{TBase, Reg, TValue, Plain, Pack, TInstr, Arith, Bnz, Ld, Malloc, Mov}
use Rattle.t_terms.specs.Tree.{St, Unpack, TEnd, Jmp, Halt, TProg}
use Rattle.t_spill_rules.specs.Spill.{or_int, type_of, field_type, filled_type, hidden_type}
use Rattle.t_spill.specs.declared.known.Entry.{Entry}
use Rattle.t_spill.specs.declared.known.Known.{Known}

-- the type of an entry where n type names are counted
abbrev pub seen : ℕ → Entry → Ty
seen n e = shift (n - e.names) 0 (tree e.ty)

-- each sum of that shift is a number of the machine
abbrev pub FitsNow : Known → Entry → Type 0
FitsNow k e = ShiftFits (k.names - e.names) 0 (tree e.ty)

-- k knows of each register what the file x has, where no more than n type names are counted
abbrev pub Knows : ℕ → Known → TFile → Type 0
Knows n k x =
    (k.names ≤ n) × ((r : ℕ) → option_map (seen k.names) (get nat_cmp k.entries r) ≡ lookup x r)
    × ((r : ℕ) (e : Entry) → get nat_cmp k.entries r ≡ Some e → e.names ≤ k.names)

-- the file of one register, if it is known
abbrev pub one : ℕ → Option Ty → TFile
one r None = NoRegs
one r (Some t) = MoreRegs r t NoRegs

abbrev pub alone : Option ℕ → TFile → TFile
alone None x = NoRegs
alone (Some r) x = one r (lookup x r)

-- it may be shown: then each sum of a shift is a number of the machine
abbrev pub MayShow : ℕ → Option ℕ → TFile → Type 0
MayShow n None x = Unit {0}
MayShow n (Some r) x = (n ≤ max_names) × WellFormedFile n x

-- the register of which a value's type hangs on what is known, if any
abbrev pub base_subject : TBase → Option ℕ
base_subject (Reg r) = Some r
base_subject _ = None

abbrev pub value_subject : TValue → Option ℕ
value_subject (Plain b ts) = base_subject b
value_subject (Pack t v s) = None

-- the same of an instruction: of the type that it gives, and of what it may enter
abbrev pub subject : TInstr → Option ℕ
subject (Arith op rd rs v) = None
subject (Bnz r v) = value_subject v
subject (Ld rd rs i) = Some rs
subject (Malloc rd ts) = None
subject (Mov rd v) = value_subject v
subject (St rd i rs) = Some rd
subject (Unpack rd v) = value_subject v

abbrev pub end_subject : TEnd → Option ℕ
end_subject (Jmp v) = value_subject v
end_subject Halt = None

-- the type that an instruction gives to its register; IntTy where it gives none
abbrev pub given : TProg → TFile → TInstr → Ty
given P x (Arith op rd rs v) = IntTy
given P x (Bnz r v) = IntTy
given P x (Ld rd rs i) = field_type (or_int (lookup x rs)) i
given P x (Malloc rd ts) = TupleTy (empty_fields ts)
given P x (Mov rd v) = type_of P x v
given P x (St rd i rs) = filled_type (or_int (lookup x rd)) i
given P x (Unpack rd v) = hidden_type (type_of P x v)
