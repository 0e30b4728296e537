-- How many type names are bound at a path into a type: each of them stands in the type's text, so they are no more than
-- its bytes.
use Rattle.std.proofs.Common.{◌≡◌, ◌≤◌, ℕ, zero, suc, ◌+◌, List, ◌++◌, [], ◌∷◌, length, Option, Some, None}
use Rattle.std.proofs.Common.{arith, codes, decimal, option_map, Bool, true, false, if◌then◌else◌, nat_eq}
use Rattle.std.proofs.lemmas.List.{length-append}
use Rattle.idx_core.specs.Separator.{separator}
use Rattle.t_types.specs.Tree.{Ty, IntTy, VarTy, CodeTy, ExistsTy, TupleTy, TFile, NoRegs, MoreRegs, TFields, NoFields}
use Rattle.t_types.specs.Tree.{MoreFields}
use Rattle.t_types.specs.Fields.{TField, AField, field}
use Rattle.t_types.specs.Fits.{lookup}
use Rattle.t_trace.specs.Line.{text_at, names_text, regs_text, fields_text, flag_text}
use Rattle.type_path.specs.declared.step.Step.{Step}
use Rattle.type_path.specs.declared.step.Step.TheVariants.{Argument, Result, Body, Cell, Field, Flag, Register}
use Rattle.type_path.specs.Paths.{Path}
use Rattle.type_path.specs.Assembly.{Part, Whole, FlagOf, type_into, binds, behind, bound}
use Rattle.type_path.specs.Assembly.{type_of_field, flag_of_field}

-- a list with others before and behind it
more : (a b c : List ℕ) → length (a ++ (b ++ c)) ≡ length a + length b + length c
more a b c = omega (arith, length-append a (b ++ c), length-append b c)

behind_it : (a b : List ℕ) (m : ℕ) → m ≤ length b → m ≤ length (a ++ b)
behind_it a b m le = omega (arith, length-append a b)

before_it : (a b : List ℕ) (m : ℕ) → m ≤ length a → m ≤ length (a ++ b)
before_it a b m le = omega (arith, length-append a b)

-- each name takes a byte
names_long : (k d c : ℕ) → c ≤ length (names_text k d c)
names_long k d zero = omega arith
names_long k d (suc c) =
    let le = names_long (suc k) (d + 1) c in
    let rest = names_text (suc k) (d + 1) c in
    let tail = behind_it (decimal d) rest c le in
    behind_it (separator k) (codes "t" ++ (decimal d ++ rest)) (suc c) (omega arith)

-- the text of what is inside of a type has so many bytes
abbrev inside_long : ℕ → ℕ → Ty → ℕ
inside_long n d IntTy = 0
inside_long n d (VarTy i) = 0
inside_long n d (CodeTy owes file) = length (regs_text n (d + owes) 0 file)
inside_long n d (ExistsTy t) = length (text_at n (d + 1) t)
inside_long n d (TupleTy fs) = length (fields_text n d 0 fs)

-- and beside it the names that the type binds have room
room : (n d : ℕ) (t : Ty) → binds (Whole t) + inside_long n d t ≤ length (text_at n d t)
room n d IntTy = omega arith
room n d (VarTy i) = omega arith
room n d (CodeTy owes file) =
    let inner = regs_text n (d + owes) 0 file in
    let names = names_long 0 d owes in
    let end = before_it inner (codes "}") (length inner) (omega arith) in
    let all = length-append (names_text 0 d owes) (codes "]{" ++ (inner ++ codes "}")) in
    omega (arith, names, end, all)
room n d (ExistsTy t) =
    let inner = text_at n (d + 1) t in
    let tail = behind_it (decimal d) (codes ". " ++ inner) (length inner) (omega arith) in
    omega (arith, tail)
room n d (TupleTy fs) =
    let inner = fields_text n d 0 fs in
    let end = before_it inner (codes ">") (length inner) (omega arith) in
    omega (arith, end)

-- the text of a type that is behind a step has at most so many bytes
abbrev Holds : ℕ → ℕ → Option Part → Type 0
Holds n m None = Unit {0}
Holds n m (Some (FlagOf flag)) = Unit {0}
Holds n m (Some (Whole t)) = (d : ℕ) × (length (text_at n d t) ≤ m)

wider : (n k m : ℕ) → k ≤ m → (x : Option Part) → Holds n k x → Holds n m x
wider n k m le None h = tt
wider n k m le (Some (FlagOf flag)) h = tt
wider n k m le (Some (Whole t)) h = let to = h.1 in (h.0, omega (arith, le, to))

in_field : (n d k : ℕ) (fs : TFields) (i : ℕ) →
    Holds n (length (fields_text n d k fs)) (option_map type_of_field (field fs i))
in_field n d k NoFields i = tt
in_field n d k (MoreFields t flag fs) zero =
    let own = text_at n d t in
    let others = flag_text flag ++ fields_text n d (suc k) fs in
    (d, behind_it (separator k) (own ++ others) (length own) (before_it own others (length own) (omega arith)))
in_field n d k (MoreFields t flag fs) (suc i) =
    let rest = fields_text n d (suc k) fs in
    wider n (length rest) (length (fields_text n d k (MoreFields t flag fs)))
    (behind_it (separator k) (text_at n d t ++ (flag_text flag ++ rest)) (length rest)
    (behind_it (text_at n d t) (flag_text flag ++ rest) (length rest)
    (behind_it (flag_text flag) rest (length rest) (omega arith))))
    (option_map type_of_field (field fs i)) (in_field n d (suc k) fs i)

in_flag : (n m : ℕ) (x : Option TField) → Holds n m (option_map flag_of_field x)
in_flag n m None = tt
in_flag n m (Some (AField t flag)) = tt

either : (n m : ℕ) (b : Bool) (x y : Option Ty) → Holds n m (option_map Whole x) → Holds n m (option_map Whole y) →
    Holds n m (option_map Whole (if b then x else y))
either n m true x y h k = h
either n m false x y h k = k

in_register : (n d k : ℕ) (file : TFile) (r : ℕ) →
    Holds n (length (regs_text n d k file)) (option_map Whole (lookup file r))
in_register n d k NoRegs r = tt
in_register n d k (MoreRegs q t file) r =
    let all = length (regs_text n d k (MoreRegs q t file)) in
    let own = text_at n d t in
    let rest = regs_text n d (suc k) file in
    let tail = own ++ rest in
    let wide : (m : ℕ) → m ≤ length tail → m ≤ all =
    λ m le. behind_it (separator k) (codes "r" ++ (decimal q ++ (codes ":" ++ tail))) m
    (behind_it (codes "r") (decimal q ++ (codes ":" ++ tail)) m
    (behind_it (decimal q) (codes ":" ++ tail) m (behind_it (codes ":") tail m le))) in
    either n all (nat_eq q r) (Some t) (lookup file r)
    (d, wide (length own) (before_it own rest (length own) (omega arith)))
    (wider n (length rest) all (wide (length rest) (behind_it own rest (length rest) (omega arith)))
    (option_map Whole (lookup file r)) (in_register n d (suc k) file r))

step_in : (n d : ℕ) (s : Step) (t : Ty) → Holds n (inside_long n d t) (type_into s t)
step_in n d Argument t = tt
step_in n d Result t = tt
step_in n d Cell t = tt
step_in n d Body IntTy = tt
step_in n d Body (VarTy i) = tt
step_in n d Body (CodeTy owes file) = tt
step_in n d Body (ExistsTy t) = (d + 1, omega arith)
step_in n d Body (TupleTy fs) = tt
step_in n d (Field i) IntTy = tt
step_in n d (Field i) (VarTy j) = tt
step_in n d (Field i) (CodeTy owes file) = tt
step_in n d (Field i) (ExistsTy t) = tt
step_in n d (Field i) (TupleTy fs) = in_field n d 0 fs i
step_in n d (Flag i) IntTy = tt
step_in n d (Flag i) (VarTy j) = tt
step_in n d (Flag i) (CodeTy owes file) = tt
step_in n d (Flag i) (ExistsTy t) = tt
step_in n d (Flag i) (TupleTy fs) = in_flag n (length (fields_text n d 0 fs)) (field fs i)
step_in n d (Register r) IntTy = tt
step_in n d (Register r) (VarTy j) = tt
step_in n d (Register r) (CodeTy owes file) = in_register n (d + owes) 0 file r
step_in n d (Register r) (ExistsTy t) = tt
step_in n d (Register r) (TupleTy fs) = tt

further : (n : ℕ) (p : Path) (m : ℕ) → ((d : ℕ) (t : Ty) → bound p (Whole t) ≤ length (text_at n d t)) →
    (x : Option Part) → Holds n m x → behind (bound p) x ≤ m
further n p m fits None h = omega arith
further n [] m fits (Some (FlagOf flag)) h = omega arith
further n (s ∷ p) m fits (Some (FlagOf flag)) h = omega arith
further n p m fits (Some (Whole t)) h =
    let to = h.1 in
    let le = fits h.0 t in
    omega (arith, to, le)

pub bound_room : (n : ℕ) (p : Path) (d : ℕ) (t : Ty) → bound p (Whole t) ≤ length (text_at n d t)
bound_room n [] d t = omega arith
bound_room n (s ∷ p) d t =
    let here = room n d t in
    let there = further n p (inside_long n d t) (bound_room n p) (type_into s t) (step_in n d s t) in
    omega (arith, here, there)
