-- Instructions that go on to the next one, without flags and system calls: what they do with registers and memory.
use Rattle.std.specs.Prelude.{ℕ, cond, List, [], ◌∷◌, ◌++◌, Option, Some, None}
use Rattle.x_terms.specs.Decode.{and_then}
use Rattle.x_terms.specs.Machine.{Image, State, is_word, with_register, with_word, source, address, after_op, times}
use Rattle.x_terms.specs.Machine.{shifted}
use Rattle.x_terms.specs.declared.register.Register.{Register}
use Rattle.x_terms.specs.declared.instr.Instr.{Instr}
use Rattle.x_terms.specs.declared.instr.Instr.TheVariants.{Const, Mov, Load, Store, Lea, Arith, Imul, Shift}
use Rattle.x_code.specs.Bytes.{bytes_of}

pub record Core : Type 0 where
  pub registers : Register → ℕ
  pub memory : ℕ → ℕ

abbrev pub core : State → Core
core s = record { registers = s.registers; memory = s.memory }

abbrev pub put : Core → Register → ℕ → Core
put c r w = record { registers = with_register c.registers r w; memory = c.memory }

abbrev pub write : Core → ℕ → ℕ → Core
write c a w = record { registers = c.registers; memory = with_word c.memory a w }

abbrev pub does : Image → Instr → Core → Option Core
does m (Const r i) c = Some (put c r i)
does m (Mov r v) c = Some (put c r (source c.registers v))
does m (Load r a) c =
    cond (is_word m (address c.registers a)) (Some (put c r (c.memory (address c.registers a)))) None
does m (Store a r) c =
    cond (is_word m (address c.registers a)) (Some (write c (address c.registers a) (c.registers r))) None
does m (Lea r a) c = Some (put c r (address c.registers a))
does m (Arith o r v) c =
    Some (record { registers = after_op o c.registers r (source c.registers v); memory = c.memory })
does m (Imul r q) c = Some (put c r (times (c.registers r) (c.registers q)))
does m (Shift k r i) c = Some (put c r (shifted k (c.registers r) i))
does m _ c = None

abbrev pub runs : Image → List Instr → Core → Option Core
runs m [] c = Some c
runs m (i ∷ is) c = and_then (does m i c) (runs m is)

-- the bytes of instructions one after the other
abbrev pub bytes_all : List Instr → List ℕ
bytes_all [] = []
bytes_all (i ∷ is) = bytes_of i ++ bytes_all is
