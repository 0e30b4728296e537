-- Prefixes, ModRM bytes, registers and numbers are read as they were written.
use Rattle.std.proofs.Common.{◌≡◌, ℕ, ◌+◌, ◌*◌, ◌/◌, ◌%◌, ◌<◌, List, ◌++◌, Some, refl, ap, ◌∙◌, arith}
use Rattle.std.proofs.Common.{lit<}
use Rattle.std.proofs.Common.{◌^◌, ℤ, pos, negsuc, SFits}
use Rattle.std.specs.Int.{w32, w64, cast_signed, cast_unsigned, to_le_bytes}
use Rattle.std.proofs.lemmas.Nat.{from_le_bytes-to_le_bytes_4, from_le_bytes-to_le_bytes_8}
use Rattle.std.proofs.lemmas.Int.{to_z-of_z}
use Rattle.x_terms.specs.Numbers.{number, op_number, shift_number, condition_number, register, op, shift, condition}
use Rattle.x_terms.specs.declared.register.Register.{Register}
use Rattle.x_terms.specs.declared.register.Register.TheVariants.{Rax}
use Rattle.x_terms.specs.declared.instr.Op.{Op}
use Rattle.x_terms.specs.declared.instr.Op.TheVariants.{Add}
use Rattle.x_terms.specs.declared.instr.Shift.{Shift}
use Rattle.x_terms.specs.declared.instr.Shift.TheVariants.{Shl}
use Rattle.x_terms.specs.declared.instr.Condition.{Condition}
use Rattle.x_terms.specs.declared.instr.Condition.TheVariants.{B}
use Rattle.x_terms.specs.Decode.{Rex, rex, ModRm, mod_rm, extended, int_32, int_64, operand, based}
use Rattle.x_code.specs.Bytes.{prefix, fields, int_bytes, sib}

pub register_back : (r : Register) → register (number r) ≡ Some r
unfolding register
register_back Rax = refl
register_back _ = refl

pub op_back : (o : Op) → op (op_number o) ≡ Some o
unfolding op
op_back Add = refl
op_back _ = refl

pub shift_back : (s : Shift) → shift (shift_number s) ≡ Some s
unfolding shift
shift_back Shl = refl
shift_back _ = refl

pub condition_back : (e : Condition) → condition (condition_number e) ≡ Some e
unfolding condition
condition_back B = refl
condition_back _ = refl

pub number_below : (r : Register) → number r < 16
number_below Rax = lit< tt
number_below _ = lit< tt

-- a register's number from its two parts
pub extended_back : (r : Register) → extended (number r / 8) (number r % 8) ≡ Some r
unfolding extended register
extended_back Rax = refl
extended_back _ = refl

pub whole_number : (n : ℕ) → n / 8 * 8 + n % 8 ≡ n
whole_number n = omega arith

abbrev pub parts : ℕ → ℕ → Rex
parts r b = record { w = 1; r = r; x = 0; b = b }

abbrev pub three : ℕ → ℕ → ℕ → ModRm
three mode r b = record { mode = mode; reg = r; rm = b }

prefix_is : (r b : ℕ) → r < 2 → b < 2 → rex (72 + r * 4 + b) ≡ Some (parts r b)
unfolding rex
prefix_is r b hr hb =
    let top : (72 + r * 4 + b) / 16 ≡ 4 = omega arith in
    let w : (72 + r * 4 + b) / 8 % 2 ≡ 1 = omega arith in
    let h : (72 + r * 4 + b) / 4 % 2 ≡ r = omega arith in
    let x : (72 + r * 4 + b) / 2 % 2 ≡ 0 = omega arith in
    let l : (72 + r * 4 + b) % 2 ≡ b = omega arith in
    rw (top, w, h, x, l) refl

pub prefix_back : (n q : ℕ) → n < 16 → q < 16 → rex (prefix n q) ≡ Some (parts (n / 8) (q / 8))
unfolding prefix
prefix_back n q hn hq = prefix_is (n / 8) (q / 8) (omega arith) (omega arith)

fields_are : (m r b : ℕ) → r < 8 → b < 8 → mod_rm (m * 64 + r * 8 + b) ≡ three m r b
unfolding mod_rm
fields_are m r b hr hb =
    let h : (m * 64 + r * 8 + b) / 64 ≡ m = omega arith in
    let g : (m * 64 + r * 8 + b) / 8 % 8 ≡ r = omega arith in
    let l : (m * 64 + r * 8 + b) % 8 ≡ b = omega arith in
    rw (h, g, l) refl

pub fields_back : (m n q : ℕ) → mod_rm (fields m n q) ≡ three m (n % 8) (q % 8)
unfolding fields
fields_back m n q = fields_are m (n % 8) (q % 8) (omega arith) (omega arith)

pub int_32_back : (i : ℤ) (rest : List ℕ) → SFits w32 i → int_32 (int_bytes i ++ rest) ≡ Some (i, rest)
int_32_back i rest h =
    ap (λ n. Some (cast_signed w32 n, rest)) (from_le_bytes-to_le_bytes_4 (cast_unsigned w32 i) (below i h))
    ∙ ap (λ z. Some (z, rest)) (to_z-of_z w32 i h)
  where
    below : (z : ℤ) → SFits w32 z → cast_unsigned w32 z < 2 ^ 32
    below (pos n) h = omega (arith, h.sfits)
    below (negsuc n) h = omega arith

pub int_64_back : (n : ℕ) (rest : List ℕ) → n < 2 ^ 64 → int_64 (to_le_bytes w64 n ++ rest) ≡ Some (n, rest)
int_64_back n rest h = ap (λ m. Some (m, rest)) (from_le_bytes-to_le_bytes_8 n h)

-- the SIB bytes
pub sib_absolute : mod_rm 0x25 ≡ three 0 4 5
unfolding mod_rm
sib_absolute = refl

pub base_back : (b : Register) (r g : ℕ) (d : ℤ) (rest : List ℕ) →
    operand (parts r (number b / 8)) (three 2 g (number b % 8)) (sib (number b) ++ int_bytes d ++ rest)
    ≡ based (int_bytes d ++ rest) (extended (number b / 8) (number b % 8))
unfolding mod_rm
base_back Rax r g d rest = refl
base_back _ r g d rest = refl
