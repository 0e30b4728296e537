-- What the parts of the checker answer.
use Rattle.std.specs.Prelude.{◌≡◌, ◌≢◌, ℕ, ◌-◌, ◌<◌, List, length, Bool, Some, Result, Ok, Err}
use Rattle.idx_core.specs.declared.span.Span.{Span}
use Rattle.text_core.specs.Refusals.{nothing, check}
use Rattle.t_types.specs.Tree.{Ty, IntTy, ExistsTy, TupleTy, TFile, TFields, put}
use Rattle.t_types.specs.Fields.{AField, field}
use Rattle.t_types.specs.Fits.{Fits, FitsFile, RegTypes}
use Rattle.t_terms.specs.Tree.{TBase, TValue, Plain, TInstr, TEnd, TBlock, TProg, names_after}
use Rattle.t_terms.specs.Spanned.{SBlock, SDatum, SData, SProg, plain, plain_datum, plain_fields, plain_blocks}
use Rattle.t_terms.specs.Spanned.{plain_heap, plain_program}
use Rattle.t_terms.specs.ReadProgram.{program, spanned_program}
use Rattle.t_terms.specs.Whole.{WellFormedBase, WellFormedValue, WellFormedInstr, WellFormedEnd, WellFormedBlock}
use Rattle.t_terms.specs.Whole.{WellFormedDatum, WellFormedData}
use Rattle.t_terms.specs.declared.program.TProgram.{TProgram}
use Rattle.t_terms.specs.declared.fault.TCode.{TCode}
use Rattle.t_terms.specs.declared.fault.TCode.TheVariants.{T18}
use Rattle.t_terms.specs.declared.fault.TFault.{TFault}
use Rattle.t_terms.specs.declared.fault.TFault.TheVariants.{Memory, Refused}
use Rattle.t_terms.specs.Registers.{inst_file}
use Rattle.t_rules.specs.Rules.{BaseHas, Has, Enters, Typed, EndTyped, BlockAccepted, BlocksAccepted, DatumAccepted}
use Rattle.t_rules.specs.Rules.{DataAccepted, HeapAccepted, Accepted}
use Rattle.t_types.specs.Bounds.{Bounded, OwedFile}
use Rattle.t_check.specs.Checked.{checked_program}
use Rattle.t_rules.specs.Mismatch.{Register}
use Rattle.t_rules.specs.Faults.{KnownFits, at_odds, register, integer, tuple, field_at, BaseFaultWith, PackFaultWith}
use Rattle.t_rules.specs.Faults.{ValueFaultWith, FileFaultWith, EnterFaultWith, StoreFaultWith, InstrFaultWith}
use Rattle.t_rules.specs.Faults.{EndFaultWith, BlockFaultWith, BlocksFaultWith, DatumFaultWith, DataFaultWith}
use Rattle.t_rules.specs.Faults.{HeapFaultWith, ProgramNoted, Fault, ProgramFault}
use Rattle.t_known.specs.Refusals.{SaysWith}
use Rattle.t_intern.specs.Grown.{AreRegs, IsNumber}
use Rattle.t_intern.specs.Nodes.{at}
use Rattle.t_known.specs.Known.{known, IsSound}
use Rattle.t_known.specs.Labels.{AreLabels}
use Rattle.t_check.specs.declared.checked.Checked.{Checked}
use Rattle.t_known.specs.declared.refusal.Refusal.{Refusal}
use Rattle.t_known.specs.declared.registers.Registers.{Registers}
use Rattle.t_check.specs.declared.checker.Checker.{Checker}
use Rattle.t_check.specs.declared.checker.Labelled.{Labelled}

-- the fault is want of memory, or the one that is described
abbrev pub Says : TFault → Fault → Type 0
Says Memory fault = Unit {0}
Says (Refused code span) fault = fault code span

-- the parts of a program are well formed in it
abbrev pub FormedBase : TProgram → TBase → Type 0
FormedBase p = WellFormedBase (length p.blocks.items) (length p.heap.items)

abbrev pub FormedValue : TProgram → ℕ → TValue → Type 0
FormedValue p = WellFormedValue (length p.blocks.items) (length p.heap.items)

abbrev pub FormedInstr : TProgram → ℕ → TInstr → Type 0
FormedInstr p = WellFormedInstr (length p.blocks.items) (length p.heap.items)

abbrev pub FormedEnd : TProgram → ℕ → TEnd → Type 0
FormedEnd p = WellFormedEnd (length p.blocks.items) (length p.heap.items)

abbrev pub FormedBlock : TProgram → TBlock → Type 0
FormedBlock p = WellFormedBlock (length p.blocks.items) (length p.heap.items)

abbrev pub FormedDatum : TProgram → SDatum → Type 0
FormedDatum p x = WellFormedDatum (length p.blocks.items) (length p.heap.items) (plain_datum x)

abbrev pub FormedData : TProgram → List SDatum → Type 0
FormedData p xs = WellFormedData (length p.blocks.items) (length p.heap.items) (plain_fields xs)

-- Under n type names, where g is known of the registers, the number of the type of a base, or its first fault. Here and
-- below the types us are those after the call, by whose numbers a refusal says what is at odds.
abbrev pub IsTypeOfBase : TProg → List Ty → ℕ → RegTypes → Span → TBase → Result ℕ Refusal → Type 0
IsTypeOfBase P us n g s b (Ok m) = (m < length us) × BaseHas P g b (at us m) × Bounded n (at us m)
IsTypeOfBase P us n g s b (Err f) = SaysWith us f (BaseFaultWith g s b)

-- the number of the type of a value, or its first fault
abbrev pub IsTypeOf : TProg → List Ty → ℕ → RegTypes → Span → TValue → Result ℕ Refusal → Type 0
IsTypeOf P us n g s v (Ok m) = (m < length us) × Has P n g v (at us m) × Bounded n (at us m)
IsTypeOf P us n g s v (Err f) = SaysWith us f (ValueFaultWith P n g s v)

-- the types are put in order for the first ones that are owed, and what is made is bounded
abbrev pub IsInstantiated : List Ty → ℕ → List Ty → ℕ → TFile → List (ℕ × ℕ) → Type 0
IsInstantiated us n ts owes f made =
    AreRegs us (inst_file ts owes f) made × OwedFile n (owes - length ts) (inst_file ts owes f)

-- the number of the type of a package of this shape around a value of the type t, or its fault
abbrev pub IsPacked : List Ty → ℕ → Ty → Ty → Ty → Span → Result ℕ Refusal → Type 0
IsPacked us n hidden t shape s (Ok m) =
    (body : Ty) × (shape ≡ ExistsTy body) × Fits t (put 0 hidden body) × IsNumber us shape m
IsPacked us n hidden t shape s (Err f) = SaysWith us f (PackFaultWith n s hidden t shape)

-- the register is an integer, or the fault of it
abbrev pub IsIntegerIn : List Ty → RegTypes → ℕ → Span → Result (Unit {0}) Refusal → Type 0
IsIntegerIn us g r s (Ok u) = g r ≡ Some IntTy
IsIntegerIn us g r s (Err f) = SaysWith us f (register g r s (λ t. integer t s nothing))

-- the number of the type and the flag of a field of the tuple in a register, or the first fault
abbrev pub IsFieldOf : List Ty → ℕ → RegTypes → ℕ → ℕ → Span → Result (ℕ × Bool) Refusal → Type 0
IsFieldOf us n g r i s (Ok x) =
    (fs : TFields) × (g r ≡ Some (TupleTy fs)) × (field fs i ≡ Some (AField (at us x.0) x.1))
    × Bounded n (at us x.0) × (x.0 < length us)
IsFieldOf us n g r i s (Err f) =
    SaysWith us f (register g r s (λ t. tuple t s (λ fs. field_at fs i s (λ u flag. nothing))))

-- under n type names, a register fits a field, with this flag, of the tuple in another one, or the first fault
abbrev pub IsStored : List Ty → ℕ → RegTypes → ℕ → ℕ → ℕ → Span → Result Bool Refusal → Type 0
IsStored us n g rd i rs s (Ok flag) =
    (fs : TFields) × (t : Ty) × (w : Ty) × (g rd ≡ Some (TupleTy fs))
    × (field fs i ≡ Some (AField t flag)) × (g rs ≡ Some w) × Fits w t
IsStored us n g rd i rs s (Err f) = SaysWith us f (StoreFaultWith n g s rd i rs)

-- under n type names, the register is known by a type that fits t, or T18; and each register of the file, or the first
abbrev pub IsRegFit : List Ty → ℕ → RegTypes → Span → ℕ → Ty → Result (Unit {0}) Refusal → Type 0
IsRegFit us n g s r t (Ok u) = KnownFits g r t
IsRegFit us n g s r t (Err f) =
    SaysWith us f (check (KnownFits g r t) (at_odds T18 (Register r t (g r) n) s) nothing)

abbrev pub IsFileFit : List Ty → ℕ → RegTypes → Span → TFile → Result (Unit {0}) Refusal → Type 0
IsFileFit us n g s file (Ok u) = FitsFile g file
IsFileFit us n g s file (Err f) = SaysWith us f (FileFaultWith n g s file)

-- the value may be entered, or the first fault of it
abbrev pub IsEntered : TProg → List Ty → ℕ → RegTypes → Span → TValue → Result (Unit {0}) Refusal → Type 0
IsEntered P us n g s v (Ok u) = Enters P n g v
IsEntered P us n g s v (Err f) = SaysWith us f (EnterFaultWith P n g s v)

-- the instruction is typed and leaves the registers known so, or its first fault
abbrev pub IsStep : TProg → List Ty → ℕ → RegTypes → Registers → Span → TInstr → Result (Unit {0}) Refusal → Type 0
IsStep P us n g h s i (Ok u) = Typed P n g i (known us h) × IsSound us h × (h.names ≡ names_after i n)
IsStep P us n g h s i (Err f) = SaysWith us f (InstrFaultWith P n g s i)

-- the end is typed, or its first fault
abbrev pub IsEnd : TProg → List Ty → ℕ → RegTypes → Span → TEnd → Result (Unit {0}) Refusal → Type 0
IsEnd P us n g s e (Ok u) = EndTyped P n g e
IsEnd P us n g s e (Err f) = SaysWith us f (EndFaultWith P n g s e)

-- The same of a checker at its place, where the types are ts before the call, and us after it.

abbrev pub program_in : Checker → TProg
program_in c = program c.program.now

-- its labels have these numbers in ts
abbrev pub IsLabelled : List Ty → Labelled → Type 0
IsLabelled ts x = AreLabels ts x.program.now x.labels.now

-- what it knows of the registers and of the labels is by numbers of ts
pub record KnowsByNumber (ts : List Ty) (c : Checker) : Type 0 where
  pub sound : IsSound ts c.registers
  pub labels : AreLabels ts c.program.now c.labels.now

abbrev pub known_at : List Ty → Checker → RegTypes
known_at ts c = known ts c.registers

abbrev pub FormedAt : Checker → TValue → Type 0
FormedAt c v = FormedValue c.program.now c.registers.names v

abbrev pub BaseTypedAt : List Ty → List Ty → Checker → Span → TBase → Result ℕ Refusal → Type 0
BaseTypedAt ts us c s b r = IsTypeOfBase (program_in c) us c.registers.names (known_at ts c) s b r

abbrev pub TypedAt : List Ty → List Ty → Checker → Span → TValue → Result ℕ Refusal → Type 0
TypedAt ts us c s v r = IsTypeOf (program_in c) us c.registers.names (known_at ts c) s v r

-- a base whose type has the number `found` is applied to types
abbrev pub AppliedAt : List Ty → List Ty → Checker → Span → ℕ → List Ty → Result ℕ Refusal → Type 0
AppliedAt ts us c s found args r =
    (g : RegTypes) (b : TBase) → BaseHas (program_in c) g b (at ts found) →
    IsTypeOf (program_in c) us c.registers.names g s (Plain b args) r

abbrev pub EnteredAt : List Ty → List Ty → Checker → Span → TValue → Result (Unit {0}) Refusal → Type 0
EnteredAt ts us c s v r = IsEntered (program_in c) us c.registers.names (known_at ts c) s v r

abbrev pub EndedAt : List Ty → List Ty → Checker → Span → TEnd → Result (Unit {0}) Refusal → Type 0
EndedAt ts us c s e r = IsEnd (program_in c) us c.registers.names (known_at ts c) s e r

-- the instruction leads the checker c to d
abbrev pub StepsTo : List Ty → List Ty → Checker → Checker → Span → TInstr → Result (Unit {0}) Refusal → Type 0
StepsTo ts us c d s i r = IsStep (program_in c) us c.registers.names (known_at ts c) d.registers s i r

-- the block is accepted, or its first fault
abbrev pub IsBlock : TProg → List Ty → SBlock → Result (Unit {0}) Refusal → Type 0
IsBlock P us b (Ok u) = BlockAccepted P (plain b)
IsBlock P us b (Err f) = SaysWith us f (BlockFaultWith P b)

-- the blocks are accepted, or their first fault
abbrev pub AreBlocks : TProg → List Ty → List SBlock → Result (Unit {0}) Refusal → Type 0
AreBlocks P us bs (Ok u) = BlocksAccepted P (plain_blocks bs)
AreBlocks P us bs (Err f) = SaysWith us f (BlocksFaultWith P bs)

-- the word of data is accepted, or its first fault
abbrev pub IsDatum : TProg → List Ty → SDatum → Result (Unit {0}) Refusal → Type 0
IsDatum P us x (Ok u) = DatumAccepted P (plain_datum x)
IsDatum P us x (Err f) = SaysWith us f (DatumFaultWith P x)

-- the words of a data tuple are accepted, or their first fault
abbrev pub IsData : TProg → List Ty → List SDatum → Result (Unit {0}) Refusal → Type 0
IsData P us xs (Ok u) = DataAccepted P (plain_fields xs)
IsData P us xs (Err f) = SaysWith us f (DataFaultWith P xs)

-- the data are accepted, or their first fault
abbrev pub AreTuples : TProg → List Ty → List SData → Result (Unit {0}) Refusal → Type 0
AreTuples P us xs (Ok u) = HeapAccepted P (plain_heap xs)
AreTuples P us xs (Err f) = SaysWith us f (HeapFaultWith P xs)

-- the program is accepted, or its first fault
abbrev pub IsProgram : SProg → List Ty → Result (Unit {0}) Refusal → Type 0
IsProgram P us (Ok u) = Accepted (plain_program P)
IsProgram P us (Err f) = SaysWith us f (ProgramNoted P)

-- the same, where nobody asks what is at odds
abbrev pub IsJudged : SProg → Result (Unit {0}) TFault → Type 0
IsJudged P (Ok u) = Accepted (plain_program P)
IsJudged P (Err f) = Says f (ProgramFault P)

-- the program that was checked is the one that was put in, and is accepted; or it is handed back with its first fault
abbrev pub IsVerdict : TProgram → Result Checked (TProgram × TFault) → Type 0
IsVerdict p (Ok r) = (checked_program r ≡ p) × Accepted (program p)
IsVerdict p (Err r) = (r.0 ≡ p) × Says r.1 (ProgramFault (spanned_program p))

-- an accepted program is refused for want of memory alone
abbrev pub AcceptsOrWants : Result Checked (TProgram × TFault) → Type 0
AcceptsOrWants (Ok r) = Unit {0}
AcceptsOrWants (Err r) = r.1 ≡ Memory

-- a program with this first fault is refused for it, or for want of memory
abbrev pub RefusesOrWants : TCode → Span → Result Checked (TProgram × TFault) → Type 0
RefusesOrWants code span (Ok r) = ⊥
RefusesOrWants code span (Err r) = r.1 ≢ Memory → r.1 ≡ Refused code span
