-- The numbers of the code fit where it is near: those of homes and operands, and the ways of jumps.
use Rattle.std.proofs.Common.{◌≡◌, ℕ, ◌+◌, ◌-◌, ◌<◌, ◌≤◌, ◌^◌, ◌⊎◌, inl, inr, Bool, true, false, cond}
use Rattle.std.proofs.Common.{nat_lt, nat_le, nat_eq}
use Rattle.std.proofs.Common.{List, [], ◌∷◌, ◌++◌, length, Option, Some, None, refl, arith, pos, negsuc, FitsSigned}
use Rattle.std.proofs.Common.{ltb-true, length-append}
use Rattle.std.specs.Int.{w32}
use Rattle.x_terms.specs.Numbers.{entry}
use Rattle.x_terms.specs.declared.register.Register.{Register}
use Rattle.x_terms.specs.declared.register.Register.TheVariants.{Rax, Rcx, Rsi, Rdi, Rdx}
use Rattle.x_terms.specs.declared.instr.Source.{Source}
use Rattle.x_terms.specs.declared.instr.Source.TheVariants.{Reg, Int}
use Rattle.x_terms.specs.declared.instr.Address.TheVariants.{Based}
use Rattle.x_terms.specs.declared.instr.Instr.{Instr}
use Rattle.x_terms.specs.declared.instr.Instr.TheVariants.{Const, Load, Store, Jcc, JmpReg}
use Rattle.x_code.specs.Bytes.{bytes_of, FitsSource}
use Rattle.x_laws.specs.Core.{bytes_all}
use Rattle.x_laws.specs.Homes.{Home, InRegister, InSlot}
use Rattle.x_laws.specs.Straight.{fetch, keep, target, finish, hand, bring, is_short, number_source, bring_number}
use Rattle.x_laws.specs.Straight.{right, bring_right, operation, arith_by, FitsRight}
use Rattle.x_laws.specs.Code.{far, condition, both, compare, written, write_loop, instr_code, seq_code}
use Rattle.x_laws.specs.Going.{AllFit, IsInstr, IsSeq}
use Rattle.x_laws.proofs.Laid.{length_both}
use Rattle.w_terms.specs.declared.instr.WOp.{WOp}
use Rattle.w_terms.specs.declared.instr.WOp.TheVariants as w
use Rattle.w_terms.specs.declared.instr.WOperand.{WOperand}
use Rattle.w_terms.specs.declared.instr.WOperand.TheVariants as v
use Rattle.w_terms.specs.Tree.{WInstr, WConst, WMove, WPlace, WArith, WLoad, WStore, WBranch, WWrite, WSeq, WThen}
use Rattle.w_terms.specs.Tree.{WJump, WGoto, WExit}
use Rattle.x_pass.specs.Homes.{home, home_by, rows, slot, most}
use Rattle.x_pass.specs.Short.{HasStatus}

abbrev FitsHome : Home → Type 0
FitsHome (InRegister r) = Unit {0}
FitsHome (InSlot a) = FitsSigned w32 a

slot_fits : (q : ℕ) (b : Bool) → nat_lt q most ≡ b → FitsHome (cond b (InSlot (pos (slot q))) (InRegister Rax))
slot_fits q true e =
    let less : q < most = ltb-true q most e in
    record { sfits = omega arith }
slot_fits q false e = tt

by_fits : (q : ℕ) (o : Option Register) → FitsHome (home_by q o)
by_fits q (Some r) = tt
by_fits q None = slot_fits q (nat_lt q most) refl

home_fits : (q : ℕ) → FitsHome (home q)
unfolding home
home_fits q = by_fits q (entry q rows)

fits_both : (xs ys : List Instr) → AllFit xs → AllFit ys → AllFit (xs ++ ys)
fits_both [] ys f g = g
fits_both (x ∷ xs) ys f g = (f.0, fits_both xs ys f.1 g)

fits_fetch : (t : Register) (h : Home) → FitsHome h → AllFit (fetch t h)
fits_fetch t (InRegister q) f = (tt, tt)
fits_fetch t (InSlot a) f = (f, tt)

fits_keep : (h : Home) (t : Register) → FitsHome h → AllFit (keep h t)
fits_keep (InRegister q) t f = (tt, tt)
fits_keep (InSlot a) t f = (f, tt)

fits_finish : (h : Home) → FitsHome h → AllFit (finish h)
fits_finish (InRegister q) f = tt
fits_finish (InSlot a) f = (f, tt)

fits_bring : (t : Register) (h : Home) → FitsHome h → AllFit (bring t h)
fits_bring t (InRegister q) f = tt
fits_bring t (InSlot a) f = (f, tt)

fits_number : (b : Bool) (k : ℕ) → k < 2 ^ 64 → AllFit (bring_number b k)
fits_number true k f = tt
fits_number false k f = (f, tt)

fits_brings : (n : ℕ) (o : WOp) (x : WOperand) → FitsRight n x → AllFit (bring_right home o x)
fits_brings n o (v.Reg q) f = fits_bring Rcx (home q) (home_fits q)
fits_brings n o (v.Num k) f = fits_number (is_short o k) k f

short_is : (o : WOp) (k : ℕ) → is_short o k ≡ true → k < 2 ^ 31
short_is w.Mul k e = absurd (cc)
short_is w.Shl k e =
    let less : k < 64 = ltb-true k 64 e in
    omega arith
short_is w.Shr k e =
    let less : k < 64 = ltb-true k 64 e in
    omega arith
short_is w.Add k e = ltb-true k (2 ^ 31) e
short_is w.Sub k e = ltb-true k (2 ^ 31) e
short_is w.And k e = ltb-true k (2 ^ 31) e
short_is w.Or k e = ltb-true k (2 ^ 31) e

number_fits : (o : WOp) (k : ℕ) (b : Bool) → is_short o k ≡ b → FitsSource (number_source b k)
number_fits o k true e =
    let less : k < 2 ^ 31 = short_is o k e in
    record { sfits = omega arith }
number_fits o k false e = tt

fits_source : (o : WOp) (x : WOperand) → FitsSource (right home o x)
fits_source o (v.Reg q) = tt
fits_source o (v.Num k) = number_fits o k (is_short o k) refl

fits_operation : (o : WOp) (t : Register) (s : Source) → FitsSource s → AllFit (operation o t s)
fits_operation w.Add t s f = (f, tt)
fits_operation w.Sub t s f = (f, tt)
fits_operation w.And t s f = (f, tt)
fits_operation w.Or t s f = (f, tt)
fits_operation w.Mul t (Reg r) f = (tt, tt)
fits_operation w.Mul t (Int i) f = tt
fits_operation w.Shl t (Reg r) f = tt
fits_operation w.Shl t (Int (pos k)) f = (tt, tt)
fits_operation w.Shl t (Int (negsuc k)) f = tt
fits_operation w.Shr t (Reg r) f = tt
fits_operation w.Shr t (Int (pos k)) f = (tt, tt)
fits_operation w.Shr t (Int (negsuc k)) f = tt

module _ (n : ℕ) (o : WOp) (x : WOperand) (f : FitsRight n x) where
  abbrev brings : List Instr
  brings = bring_right home o x

  fits_by_rax : (to left : Home) → FitsHome to → FitsHome left →
      AllFit (fetch Rax left ++ brings ++ operation o Rax (right home o x) ++ keep to Rax)
  fits_by_rax to left g h =
      fits_both (fetch Rax left ++ brings ++ operation o Rax (right home o x)) (keep to Rax)
      (fits_both (fetch Rax left ++ brings) (operation o Rax (right home o x))
      (fits_both (fetch Rax left) brings (fits_fetch Rax left h) (fits_brings n o x f))
      (fits_operation o Rax (right home o x) (fits_source o x)))
      (fits_keep to Rax g)

  fits_arith : (b : Bool) (to left : Home) → FitsHome to → FitsHome left →
      AllFit (arith_by b to left o brings (right home o x))
  fits_arith true (InRegister q) left g h =
      fits_both brings (operation o q (right home o x)) (fits_brings n o x f)
      (fits_operation o q (right home o x) (fits_source o x))
  fits_arith true (InSlot a) left g h = fits_by_rax (InSlot a) left g h
  fits_arith false to left g h = fits_by_rax to left g h

far_fits : (next to : ℕ) → next < 2 ^ 31 → to < 2 ^ 31 → FitsSigned w32 (far next to)
far_fits next to f g = by_order (nat_le next to)
  where
    by_order : (b : Bool) → FitsSigned w32 (cond b (pos (to - next)) (negsuc (next - to - 1)))
    by_order true = record { sfits = omega arith }
    by_order false = record { sfits = omega arith }

to_small : (to : ℕ) → (to ≡ 1) ⊎ (to ≡ 2) → to < 2 ^ 64
to_small to (inl e) = omega (arith, e)
to_small to (inr e) = omega (arith, e)

failed_small : (b : Bool) → cond b 6 7 < 2 ^ 64
failed_small true = omega arith
failed_small false = omega arith

fits_loop : (to : ℕ) → AllFit (write_loop to)
fits_loop to = (
  omega arith,
  (
    tt,
    (
      record { sfits = omega arith },
      (
        tt,
        (
          record { sfits = omega arith },
          (
            failed_small (nat_eq to 1),
            (
              omega arith,
              (tt, (tt, (tt, (record { sfits = omega arith }, (record { sfits = omega arith }, tt))))),
            ),
          ),
        ),
      ),
    ),
  ),
)

module _ (place : ℕ → ℕ) (near : (l : ℕ) → place l ≤ 2 ^ 28) (n : ℕ) where
  fits_instr : (a : ℕ) (i : WInstr) (c : WSeq) → a + length (bytes_all (instr_code home place a i)) ≤ 2 ^ 28 →
      IsInstr n i c → AllFit (instr_code home place a i)
  fits_instr a (WConst rd k) c r f = (f.1, fits_finish (home rd) (home_fits rd))
  fits_instr a (WMove rd rs) c r f =
      fits_both (fetch (target (home rd)) (home rs)) (finish (home rd))
      (fits_fetch (target (home rd)) (home rs) (home_fits rs)) (fits_finish (home rd) (home_fits rd))
  fits_instr a (WPlace rd l) c r f =
      let small : place l < 2 ^ 64 = omega (arith, near l) in (small, fits_finish (home rd) (home_fits rd))
  fits_instr a (WArith o rd rs x) c r f =
      fits_arith n o x f.3 (nat_eq rd rs) (home rd) (home rs) (home_fits rd) (home_fits rs)
  fits_instr a (WLoad rd ra off) c r f =
      fits_both (bring Rax (home ra))
      (Load (target (home rd)) (Based (hand Rax (home ra)) (pos off)) ∷ finish (home rd))
      (fits_bring Rax (home ra) (home_fits ra))
      (record { sfits = omega (arith, f.2) }, fits_finish (home rd) (home_fits rd))
  fits_instr a (WStore ra off rs) c r f =
      fits_both (bring Rax (home ra) ++ bring Rcx (home rs))
      (Store (Based (hand Rax (home ra)) (pos off)) (hand Rcx (home rs)) ∷ [])
      (fits_both (bring Rax (home ra)) (bring Rcx (home rs)) (fits_bring Rax (home ra) (home_fits ra))
      (fits_bring Rcx (home rs) (home_fits rs)))
      (record { sfits = omega (arith, f.1) }, tt)
  fits_instr a (WBranch t rs x l) c r f =
      let xs : List Instr = both home rs x in
      let cmp : Instr = compare home rs x in
      let next : ℕ = a + length (bytes_all xs) + length (bytes_of cmp) + 6 in
      let jcc : Instr = Jcc (condition t) (far next (place l)) in
      let small : next < 2 ^ 31 =
      omega (arith, r, length_both xs (cmp ∷ jcc ∷ []), length-append (bytes_of cmp) (bytes_of jcc ++ [])) in
      let low : place l < 2 ^ 31 = omega (arith, near l) in
      fits_both xs (cmp ∷ jcc ∷ [])
      (fits_both (bring Rax (home rs)) (bring_right home w.Sub x) (fits_bring Rax (home rs) (home_fits rs))
      (fits_brings n w.Sub x f.1))
      (fits_source w.Sub x, (far_fits next (place l) small low, tt))
  fits_instr a (WWrite to ra rn) c r f =
      fits_both (written home to ra rn) (write_loop to)
      (fits_both (fetch Rsi (home ra) ++ fetch Rdx (home rn)) (Const Rdi to ∷ [])
      (fits_both (fetch Rsi (home ra)) (fetch Rdx (home rn)) (fits_fetch Rsi (home ra) (home_fits ra))
      (fits_fetch Rdx (home rn) (home_fits rn)))
      (to_small to f.0, tt))
      (fits_loop to)

  pub fits_seq : (a : ℕ) (c : WSeq) → a + length (bytes_all (seq_code home place a c)) ≤ 2 ^ 28 → IsSeq n c →
      HasStatus c → AllFit (seq_code home place a c)
  fits_seq a (WThen i c) r f g =
      let xs : List Instr = instr_code home place a i in
      let b : ℕ = a + length (bytes_all xs) in
      let ys : List Instr = seq_code home place b c in
      let all : length (bytes_all (xs ++ ys)) ≡ length (bytes_all xs) + length (bytes_all ys) = length_both xs ys in
      fits_both xs ys (fits_instr a i c (omega (arith, r, all)) f.0) (fits_seq b c (omega (arith, r, all)) f.1 g)
  fits_seq a (WJump l) r f g =
      let small : a + 5 < 2 ^ 31 = omega (arith, r) in
      let low : place l < 2 ^ 31 = omega (arith, near l) in (far_fits (a + 5) (place l) small low, tt)
  fits_seq a (WGoto q) r f g =
      fits_both (fetch Rax (home q)) (JmpReg Rax ∷ []) (fits_fetch Rax (home q) (home_fits q)) (tt, tt)
  fits_seq a (WExit status) r f g =
      let sixty : 60 < 2 ^ 64 = omega arith in (g, (sixty, (tt, tt)))
