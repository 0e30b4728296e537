-- What stands for an instruction is read as it, whatever follows.
use Rattle.std.proofs.Common.{◌≡◌, ℕ, ◌+◌, ◌-◌, ◌*◌, ◌/◌, ◌%◌, ◌<◌, List, ◌∷◌, ◌++◌, length, Some, None}
use Rattle.std.proofs.Common.{refl, ap, ◌∙◌, arith, lit<}
use Rattle.std.proofs.Common.{length-append, append_assoc}
use Rattle.std.proofs.lemmas.List.Prefix.{front_rest}
use Rattle.std.specs.Int.{w64, to_le_bytes}
use Rattle.x_terms.specs.Numbers.{number, op_number, shift_number, condition_number, register, condition}
use Rattle.x_terms.specs.Decode.{Rex, read, decode, decode_at, wide, with_mod_rm, with_fields, instr}
use Rattle.x_terms.specs.Decode.{InRegister, InMemory}
use Rattle.x_terms.specs.Decode.{Opcode, OpRmReg, OpRmInt, TestRmReg, MovRmReg, MovRegRm, LeaRegM, ShiftRmInt, MovRmInt}
use Rattle.x_terms.specs.Decode.{ImulRegRm, JmpRm, prefixed, with_operand, in_register, by_sib, based, and_then, int_32}
use Rattle.x_terms.specs.Decode.{rex, extended, const, plain_0f}
use Rattle.x_terms.specs.declared.register.Register.{Register}
use Rattle.x_terms.specs.declared.register.Register.TheVariants.{Rax}
use Rattle.x_terms.specs.declared.instr.Condition.{Condition}
use Rattle.x_terms.specs.declared.instr.Condition.TheVariants.{B}
use Rattle.x_terms.specs.declared.instr.Address.{Address}
use Rattle.x_terms.specs.declared.instr.Address.TheVariants.{Absolute, Based}
use Rattle.x_terms.specs.declared.instr.Source.TheVariants.{Reg, Int}
use Rattle.x_terms.specs.declared.instr.Op.{Op}
use Rattle.x_terms.specs.declared.instr.Op.TheVariants.{Add}
use Rattle.x_terms.specs.declared.instr.Shift.{Shift}
use Rattle.x_terms.specs.declared.instr.Shift.TheVariants.{Shl, Shr}
use Rattle.x_terms.specs.declared.instr.Instr.{Instr}
use Rattle.x_terms.specs.declared.instr.Instr.TheVariants.{Const, Mov, Load, Store, Lea, Arith, Imul}
use Rattle.x_terms.specs.declared.instr.Instr.TheVariants.{Shift as ShiftBy, Test, Jmp, Jcc, JmpReg, Syscall}
use Rattle.x_code.specs.Bytes.{prefix, fields, int_bytes, sib, direct, indirect, bytes_of, FitsInstr, FitsAddress}
use Rattle.x_code.proofs.Fields.{parts, prefix_back, fields_back, extended_back, whole_number, number_below}
use Rattle.x_code.proofs.Fields.{sib_absolute, base_back, int_32_back, int_64_back, register_back, op_back, shift_back}

-- an opcode of the table
abbrev pub Wide : ℕ → Opcode → Type 0
Wide c o = (p : Rex) (bs : List ℕ) → wide p (c ∷ bs) ≡ with_mod_rm p bs (Some o)

-- the operand of a ModRM byte that is a register
formed : (n : ℕ) (q : Register) (o : Opcode) (rest : List ℕ) →
    with_mod_rm (parts (n / 8) (number q / 8)) (fields 3 n (number q) ∷ rest) (Some o) ≡ instr o n (InRegister q) rest
formed n q o rest =
    ap (λ m. with_fields o (parts (n / 8) (number q / 8)) m rest) (fields_back 3 n (number q))
    ∙ ap (λ x. with_operand o (n / 8 * 8 + n % 8) (in_register rest x)) (extended_back q)
    ∙ ap (λ m. instr o m (InRegister q) rest) (whole_number n)

-- an opcode whose operand is a register
pub direct_back : (c n : ℕ) (q : Register) (o : Opcode) (rest : List ℕ) → n < 16 → Wide c o →
    read (direct c n q ++ rest) ≡ instr o n (InRegister q) rest
direct_back c n q o rest h w =
    ap (λ x. prefixed x (prefix n (number q)) (c ∷ fields 3 n (number q) ∷ rest))
    (prefix_back n (number q) h (number_below q))
    ∙ w (parts (n / 8) (number q / 8)) (fields 3 n (number q) ∷ rest)
    ∙ formed n q o rest

op_wide : (o : Op) → Wide (op_number o * 8 + 1) (OpRmReg o)
op_wide Add p bs = refl
op_wide _ p bs = refl

op_below : (o : Op) → op_number o < 16
op_below Add = lit< tt
op_below _ = lit< tt

shift_below : (s : Shift) → shift_number s < 16
shift_below Shl = lit< tt
shift_below Shr = lit< tt

-- an opcode whose operand stands in memory
pub indirect_back : (c n : ℕ) (a : Address) (o : Opcode) (rest : List ℕ) → n < 16 → Wide c o → FitsAddress a →
    read (indirect c n a ++ rest) ≡ instr o n (InMemory a) rest
indirect_back c n (Absolute d) o rest h w f =
    ap (λ x. prefixed x (prefix n 0) (c ∷ fields 0 n 4 ∷ 0x25 ∷ int_bytes d ++ rest)) (prefix_back n 0 h (lit< tt))
    ∙ w (parts (n / 8) 0) (fields 0 n 4 ∷ 0x25 ∷ int_bytes d ++ rest)
    ∙ ap (λ m. with_fields o (parts (n / 8) 0) m (0x25 ∷ int_bytes d ++ rest)) (fields_back 0 n 4)
    ∙ ap (λ m. with_operand o (n / 8 * 8 + n % 8) (by_sib (parts (n / 8) 0) 0 m (int_bytes d ++ rest))) sib_absolute
    ∙ ap (λ x. with_operand o (n / 8 * 8 + n % 8) (and_then x (λ e. Some (InMemory (Absolute e.0), e.1))))
    (int_32_back d rest f)
    ∙ ap (λ m. instr o m (InMemory (Absolute d)) rest) (whole_number n)
indirect_back c n (Based b d) o rest h w f =
    ap (λ x. prefixed x (prefix n (number b)) (c ∷ fields 2 n (number b) ∷ bytes))
    (prefix_back n (number b) h (number_below b))
    ∙ w (parts (n / 8) (number b / 8)) (fields 2 n (number b) ∷ bytes)
    ∙ ap (λ m. with_fields o (parts (n / 8) (number b / 8)) m bytes) (fields_back 2 n (number b))
    ∙ ap (λ x. with_operand o (n / 8 * 8 + n % 8) x) (base_back b (n / 8) (n % 8) d rest)
    ∙ ap (λ x. with_operand o (n / 8 * 8 + n % 8) (based (int_bytes d ++ rest) x)) (extended_back b)
    ∙ ap (λ x. with_operand o (n / 8 * 8 + n % 8) (and_then x (λ e. Some (InMemory (Based b e.0), e.1))))
    (int_32_back d rest f)
    ∙ ap (λ m. instr o m (InMemory (Based b d)) rest) (whole_number n)
  where
    bytes : List ℕ
    bytes = sib (number b) ++ int_bytes d ++ rest

no_prefix_e9 : rex 0xE9 ≡ None
unfolding rex
no_prefix_e9 = refl

no_prefix_0f : rex 0x0F ≡ None
unfolding rex
no_prefix_0f = refl

prefix_jmp : (q : Register) → rex (0x40 + number q / 8) ≡ Some (record { w = 0; r = 0; x = 0; b = number q / 8 })
unfolding rex
prefix_jmp Rax = refl
prefix_jmp _ = refl

const_wide : (r : Register) (rest : List ℕ) →
    wide (parts 0 (number r / 8)) ((0xB8 + number r % 8) ∷ rest) ≡ const (Some r) rest
unfolding extended register
const_wide Rax rest = refl
const_wide _ rest = refl

jcc_plain : (e : Condition) (rest : List ℕ) →
    plain_0f ((0x80 + condition_number e) ∷ rest) ≡ and_then (int_32 rest) (λ d. Some (Jcc e d.0, d.1))
unfolding condition
jcc_plain B rest = refl
jcc_plain _ rest = refl

abbrev pub Reads : Instr → Type 0
Reads i = (rest : List ℕ) → read (bytes_of i ++ rest) ≡ Some (i, rest)

pub read_back : (i : Instr) → FitsInstr i → Reads i
read_back (Const r n) f rest =
    ap (λ x. prefixed x (prefix 0 (number r)) ((0xB8 + number r % 8) ∷ to_le_bytes w64 n ++ rest))
    (prefix_back 0 (number r) (lit< tt) (number_below r))
    ∙ const_wide r (to_le_bytes w64 n ++ rest)
    ∙ ap (λ x. and_then x (λ s. Some (Const r s.0, s.1))) (int_64_back n rest f)
read_back (Mov q (Reg r)) f rest =
    direct_back 0x89 (number r) q MovRmReg rest (number_below r) (λ p bs. refl)
    ∙ ap (λ x. and_then x (λ s. Some (Mov q (Reg s), rest))) (register_back r)
read_back (Mov q (Int i)) f rest =
    direct_back 0xC7 0 q MovRmInt (int_bytes i ++ rest) (lit< tt) (λ p bs. refl)
    ∙ ap (λ x. and_then x (λ s. Some (Mov q (Int s.0), s.1))) (int_32_back i rest f)
read_back (Load r a) f rest =
    indirect_back 0x8B (number r) a MovRegRm rest (number_below r) (λ p bs. refl) f
    ∙ ap (λ x. and_then x (λ s. Some (Load s a, rest))) (register_back r)
read_back (Store a r) f rest =
    indirect_back 0x89 (number r) a MovRmReg rest (number_below r) (λ p bs. refl) f
    ∙ ap (λ x. and_then x (λ s. Some (Store a s, rest))) (register_back r)
read_back (Lea r a) f rest =
    indirect_back 0x8D (number r) a LeaRegM rest (number_below r) (λ p bs. refl) f
    ∙ ap (λ x. and_then x (λ s. Some (Lea s a, rest))) (register_back r)
read_back (Arith o q (Reg r)) f rest =
    direct_back (op_number o * 8 + 1) (number r) q (OpRmReg o) rest (number_below r) (op_wide o)
    ∙ ap (λ x. and_then x (λ s. Some (Arith o q (Reg s), rest))) (register_back r)
read_back (Arith o q (Int i)) f rest =
    direct_back 0x81 (op_number o) q OpRmInt (int_bytes i ++ rest) (op_below o) (λ p bs. refl)
    ∙ ap (λ x. and_then x (λ p. and_then (int_32 (int_bytes i ++ rest)) (λ s. Some (Arith p q (Int s.0), s.1))))
    (op_back o)
    ∙ ap (λ x. and_then x (λ s. Some (Arith o q (Int s.0), s.1))) (int_32_back i rest f)
read_back (Imul r q) f rest =
    ap (λ x. prefixed x (prefix (number r) (number q)) (0x0F ∷ 0xAF ∷ fields 3 (number r) (number q) ∷ rest))
    (prefix_back (number r) (number q) (number_below r) (number_below q))
    ∙ formed (number r) q ImulRegRm rest
    ∙ ap (λ x. and_then x (λ s. Some (Imul s q, rest))) (register_back r)
read_back (ShiftBy s q k) f rest =
    direct_back 0xC1 (shift_number s) q ShiftRmInt (k ∷ rest) (shift_below s) (λ p bs. refl)
    ∙ ap (λ x. and_then x (λ t. Some (ShiftBy t q k, rest))) (shift_back s)
read_back (Test q r) f rest =
    direct_back 0x85 (number r) q TestRmReg rest (number_below r) (λ p bs. refl)
    ∙ ap (λ x. and_then x (λ s. Some (Test q s, rest))) (register_back r)
read_back (Jmp d) f rest =
    ap (λ x. prefixed x 0xE9 (int_bytes d ++ rest)) no_prefix_e9
    ∙ ap (λ x. and_then x (λ s. Some (Jmp s.0, s.1))) (int_32_back d rest f)
read_back (Jcc e d) f rest =
    ap (λ x. prefixed x 0x0F ((0x80 + condition_number e) ∷ int_bytes d ++ rest)) no_prefix_0f
    ∙ jcc_plain e (int_bytes d ++ rest)
    ∙ ap (λ x. and_then x (λ s. Some (Jcc e s.0, s.1))) (int_32_back d rest f)
read_back (JmpReg q) f rest =
    ap (λ x. prefixed x (0x40 + number q / 8) (0xFF ∷ fields 3 4 (number q) ∷ rest)) (prefix_jmp q)
    ∙ ap (λ m. with_fields JmpRm (record { w = 0; r = 0; x = 0; b = number q / 8 }) m rest) (fields_back 3 4 (number q))
    ∙ ap (λ x. with_operand JmpRm 4 (in_register rest x)) (extended_back q)
read_back Syscall f rest = ap (λ x. prefixed x 0x0F (0x05 ∷ rest)) no_prefix_0f

-- the instruction and its length
pub decodes : (i : Instr) → FitsInstr i → (rest : List ℕ) →
    decode (bytes_of i ++ rest) ≡ Some (i, length (bytes_of i))
decodes i f rest =
    ap (λ x. and_then x (λ y. Some (y.0, length (bytes_of i ++ rest) - length y.1))) (read_back i f rest)
    ∙ ap (λ n. Some (i, n)) (omega (arith, length-append (bytes_of i) rest))

-- the same behind other code
pub stands : (i : Instr) → FitsInstr i → (old new : List ℕ) → new ≡ old ++ bytes_of i → (rest : List ℕ) →
    decode_at (new ++ rest) (length old) ≡ Some (i, length new - length old)
stands i f old new e rest =
    let behind : new ++ rest ≡ old ++ (bytes_of i ++ rest) =
    ap (λ x. x ++ rest) e ∙ append_assoc old (bytes_of i) rest in
    let size : length (bytes_of i) ≡ length new - length old =
    omega (arith, ap length e, length-append old (bytes_of i)) in
    ap (λ x. decode x) (front_rest (new ++ rest) old (bytes_of i ++ rest) behind)
    ∙ decodes i f rest
    ∙ ap (λ n. Some (i, n)) size
