-- What an instruction of the code does: its variants for the kinds of an operand are one.
use Rattle.std.specs.Prelude.{ℕ}
use Rattle.idx_core.specs.declared.arith.Op.{Op}
use Rattle.idx_core.specs.declared.arith.Op.TheVariants.{Add, Sub, Mul}
use Rattle.t_collect.specs.declared.word.Word.{Word}
use Rattle.t_collect.specs.declared.word.Word.TheVariants as word
use Rattle.t_machine.specs.declared.code.Operand.{Operand}
use Rattle.t_machine.specs.declared.code.Operand.TheVariants as operand
use Rattle.t_machine.specs.declared.code.Number.{Number}
use Rattle.t_machine.specs.declared.code.Number.TheVariants as number
use Rattle.t_machine.specs.declared.code.Target.{Target}
use Rattle.t_machine.specs.declared.code.Target.TheVariants as target
use Rattle.t_machine.specs.declared.code.Instruction.{Instruction}
use Rattle.t_machine.specs.declared.code.Instruction.TheVariants as code

-- a register is the place of its word
pub data Action : Type 0 where
  Arith : (op : Op) (rd rs : ℕ) (right : Number) → Action
  Bnz : (r : ℕ) (to : Target) → Action
  Ld : (rd rs field : ℕ) → Action
  Malloc : (rd size : ℕ) → Action
  Mov : (rd : ℕ) (v : Operand) → Action
  St : (rd field rs : ℕ) → Action
  Jmp : (to : Target) → Action
  Halt : (r : ℕ) → Action

abbrev pub action : Instruction → Action
action (code.AddRegister d s k) = Arith Add d s (number.Register k)
action (code.AddInt d s i) = Arith Add d s (number.Int i)
action (code.SubRegister d s k) = Arith Sub d s (number.Register k)
action (code.SubInt d s i) = Arith Sub d s (number.Int i)
action (code.MulRegister d s k) = Arith Mul d s (number.Register k)
action (code.MulInt d s i) = Arith Mul d s (number.Int i)
action (code.BnzRegister s k) = Bnz s (target.Register k)
action (code.BnzEntry s n) = Bnz s (target.Entry n)
action (code.Ld d s f) = Ld d s f
action (code.Malloc d n) = Malloc d n
action (code.Pair d a b) = Malloc d 2
action (code.MovRegister d s) = Mov d (operand.Register s)
action (code.MovInt d i) = Mov d (operand.Int i)
action (code.MovLabel d l) = Mov d (operand.Label l)
action (code.MovData d a) = Mov d (operand.Data a)
action (code.St d s f) = St d f s
action (code.JmpRegister k) = Jmp (target.Register k)
action (code.JmpEntry n) = Jmp (target.Entry n)
action (code.Halt s) = Halt s

-- the address of a data tuple that an operand is, and that an instruction moves; where there is none, an empty word
abbrev pub data_word : Operand → Word
data_word (operand.Data a) = word.Address a
data_word (operand.Register k) = word.Empty 0
data_word (operand.Int i) = word.Empty 0
data_word (operand.Label l) = word.Empty 0

abbrev pub moved_data : Action → Word
moved_data (Mov d v) = data_word v
moved_data (Arith op d s v) = word.Empty 0
moved_data (Bnz s v) = word.Empty 0
moved_data (Ld d s f) = word.Empty 0
moved_data (Malloc d n) = word.Empty 0
moved_data (St d f s) = word.Empty 0
moved_data (Jmp v) = word.Empty 0
moved_data (Halt s) = word.Empty 0
