-- Blocks that are translated have code, where registers, fields and addresses are in bounds.
use Rattle.std.proofs.Common.{ℕ, zero, suc, ◌+◌, ◌<◌, ◌^◌, max, List, [], ◌∷◌, ◌++◌, length, arith, lit<}
use Rattle.idx_core.specs.declared.arith.Op.{Op}
use Rattle.idx_core.specs.declared.arith.Op.TheVariants.{Add, Sub, Mul}
use Rattle.t_terms.specs.Tree.{TBase, Reg, Int, Label, Data}
use Rattle.t_rules.specs.Erase.{EInstr, EArith, EBnz, ELd, EMalloc, EMov, ESt, ESeq, EThen, EJmp, EHalt}
use Rattle.w_terms.specs.Tree.{WSeq}
use Rattle.w_terms.specs.declared.instr.WOperand.{WOperand}
use Rattle.w_rooms.specs.Numbers.{reg, entry, bytes}
use Rattle.w_laws.specs.Code.{word_op_of, taken, asked, room_for}
use Rattle.w_laws.specs.Translate.{Code, operand_of, move_of, jump_of, choice, stepped, after_instr}
use Rattle.w_laws.specs.Translate.{code_of, codes_of, blocks_of, BaseFine, Fine, AllFine}
use Rattle.w_laws.proofs.Words.{constant}
use Rattle.w_gen.specs.Limits.{base_register, instr_register, instr_field, seq_register, seq_field}
use Rattle.w_gen.specs.Limits.{highest_register, highest_field}
use Rattle.x_laws.specs.Straight.{IsPlain, FitsRight}
use Rattle.x_laws.specs.Going.{IsInstr, IsSeq}
use Rattle.x_pass.specs.Short.{AreSeqs}
use Rattle.native.proofs.Runtime.{both}

plain : (o : Op) (v : WOperand) → IsPlain (word_op_of o) v
plain Add v = tt
plain Sub v = tt
plain Mul v = tt

-- a tuple's bytes, with room for one field at least
bytes_small : (n : ℕ) → n < 2 ^ 28 → bytes (room_for n) < 2 ^ 64
bytes_small zero f = lit< tt
bytes_small (suc n) f = omega (arith, f)

-- Data stand at words, and the program has so many registers: those of word code are 16 more.
module _ (at : ℕ → ℕ) (words : (d : ℕ) → at d < 2 ^ 64) (many fixed : ℕ) where
  abbrev n : ℕ
  n = many + 16

  abbrev HasCode : Code → Type 0
  HasCode c = IsSeq n c.seq × AreSeqs n c.more

  operand : (b : TBase) → base_register b < many → BaseFine fixed b → FitsRight n (operand_of b)
  operand (Reg q) h f = let g : q < many = h in omega (arith, g)
  operand (Int i) h f = (constant i f).0
  operand (Label l) h f = lit< tt
  operand (Data d) h f = lit< tt

  move : (rd : ℕ) (b : TBase) (c : WSeq) → rd < many → base_register b < many → BaseFine fixed b →
      IsInstr n (move_of at rd b) c
  move rd (Reg q) c r h f = let g : q < many = h in (omega (arith, r), omega (arith, g))
  move rd (Int i) c r h f = (omega (arith, r), (constant i f).0)
  move rd (Label l) c r h f = omega (arith, r)
  move rd (Data d) c r h f = (omega (arith, r), words d)

  jump : (b : TBase) → base_register b < many → IsSeq n (jump_of b)
  jump (Reg q) h = let g : q < many = h in omega (arith, g)
  jump (Int i) h = tt
  jump (Label l) h = tt
  jump (Data d) h = tt

  chosen : (q : ℕ) (b : TBase) (next : ℕ) (c : Code) → q < many → base_register b < many → HasCode c →
      HasCode (choice q b next c)
  chosen q (Label l) next c r h f = (((omega (arith, r), lit< tt), f.0), f.1)
  chosen q (Reg p) next c r h f =
      let g : p < many = h in (((omega (arith, r), lit< tt), omega (arith, g)), f)
  chosen q (Int i) next c r h f = (((omega (arith, r), lit< tt), f.0), f.1)
  chosen q (Data d) next c r h f = (((omega (arith, r), lit< tt), f.0), f.1)

  -- memory is asked for, and taken
  asks : (l k : ℕ) → k < 2 ^ 28 → IsSeq n (asked l k)
  asks l k f =
      let size : bytes (room_for k) < 2 ^ 64 = bytes_small k f in
      let free : 0 < n = omega arith in
      let limit : 1 < n = omega arith in
      let temp : 4 < n = omega arith in
      ((tt, temp, limit, free), ((temp, size), ((omega arith, size), (omega arith, tt))))

  takes : (rd k : ℕ) (c : WSeq) → rd < many → k < 2 ^ 28 → IsSeq n c → IsSeq n (taken rd k c)
  takes rd k c r f g =
      let size : bytes (room_for k) < 2 ^ 64 = bytes_small k f in
      let free : 0 < n = omega arith in
      let temp : 4 < n = omega arith in
      let to : reg rd < n = omega (arith, r) in
      ((temp, omega (arith, f)), ((free, lit< tt, temp), ((tt, to, free, lit< tt), ((tt, free, free, size), g))))

  -- an integer in an instruction has 64 bits
  abbrev InstrFine : EInstr → Type 0
  InstrFine (EArith op rd rs b) = BaseFine fixed b
  InstrFine (EMov rd b) = BaseFine fixed b
  InstrFine (EBnz q b) = Unit {0}
  InstrFine (ELd rd rs i) = Unit {0}
  InstrFine (EMalloc rd k) = Unit {0}
  InstrFine (ESt rd i rs) = Unit {0}

  parts : (i : EInstr) (e : ESeq) → Fine fixed many (EThen i e) → InstrFine i × Fine fixed many e
  parts (EArith op rd rs b) e f = (f.1, f.2)
  parts (EMov rd b) e f = (f.1, f.2)
  parts (EBnz q b) e f = (tt, f)
  parts (ELd rd rs i) e f = (tt, f.1)
  parts (EMalloc rd k) e f = (tt, f.2)
  parts (ESt rd i rs) e f = (tt, f)

  step : (next : ℕ) (i : EInstr) (c : Code) → instr_register i < many → instr_field i < 2 ^ 28 → InstrFine i →
      HasCode c → HasCode (stepped at next i c)
  step next (EArith op rd rs b) c h k f s =
      let g : max (max rd rs) (base_register b) < many = h in
      let v : WOperand = operand_of b in
      (((plain op v, omega (arith, g), omega (arith, g), operand b (omega (arith, g)) f), s.0), s.1)
  step next (EBnz q b) c h k f s =
      let g : max q (base_register b) < many = h in chosen q b next c (omega (arith, g)) (omega (arith, g)) s
  step next (ELd rd rs i) c h k f s =
      let g : max rd rs < many = h in
      let l : i < 2 ^ 28 = k in (((omega (arith, g), omega (arith, g), omega (arith, l)), s.0), s.1)
  step next (EMalloc rd m) c h k f s = (asks next m k, (takes rd m c.seq h k s.0, s.1))
  step next (EMov rd b) c h k f s =
      let g : max rd (base_register b) < many = h in
      ((move rd b c.seq (omega (arith, g)) (omega (arith, g)) f, s.0), s.1)
  step next (ESt rd i rs) c h k f s =
      let g : max rd rs < many = h in
      let l : i < 2 ^ 28 = k in (((omega (arith, g), omega (arith, l), omega (arith, g)), s.0), s.1)

  coded : (next : ℕ) (e : ESeq) → seq_register e < many → seq_field e < 2 ^ 28 → Fine fixed many e →
      HasCode (code_of at next e)
  coded next (EThen i e) h k f =
      let g : max (instr_register i) (seq_register e) < many = h in
      let l : max (instr_field i) (seq_field e) < 2 ^ 28 = k in
      let p = parts i e f in
      step next i (code_of at (after_instr i next) e) (omega (arith, g)) (omega (arith, l)) p.0
      (coded (after_instr i next) e (omega (arith, g)) (omega (arith, l)) p.1)
  coded next (EJmp b) h k f = (jump b h, tt)
  coded next EHalt h k f = (tt, tt)

  all_coded : (next : ℕ) (es : List ESeq) → highest_register es < many → highest_field es < 2 ^ 28 →
      AllFine fixed many es →
      AreSeqs n (codes_of at next es).firsts × AreSeqs n (codes_of at next es).rest
  all_coded next [] h k f = (tt, tt)
  all_coded next (e ∷ es) h k f =
      let g : max (seq_register e) (highest_register es) < many = h in
      let l : max (seq_field e) (highest_field es) < 2 ^ 28 = k in
      let c = coded next e (omega (arith, g)) (omega (arith, l)) f.0 in
      let more : ℕ = next + length (code_of at next e).more in
      let cs = all_coded more es (omega (arith, g)) (omega (arith, l)) f.1 in (
        (c.0, cs.0),
        both n (code_of at next e).more (codes_of at more es).rest c.1 cs.1,
      )

  -- those of a program, behind the runtime's
  pub blocks_fine : (runtime : List WSeq) (es : List ESeq) → highest_register es < many →
      highest_field es < 2 ^ 28 → AllFine fixed many es → AreSeqs n runtime → AreSeqs n (blocks_of at runtime es)
  blocks_fine runtime es h k f r =
      let made = codes_of at (entry (length es)) es in
      let c = all_coded (entry (length es)) es h k f in
      both n runtime (made.firsts ++ made.rest) r (both n made.firsts made.rest c.0 c.1)
