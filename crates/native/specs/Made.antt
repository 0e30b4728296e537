-- How a file comes of a program: by word code. Nothing that is promised rests on this file.
use Rattle.std.specs.Prelude.{◌≡◌, ℕ, List}
use Rattle.t_terms.specs.Tree.{TProg}
use Rattle.w_terms.specs.Tree.{WProg}
use Rattle.w_laws.specs.Built.{IsBuilt}
use Rattle.w_gen.specs.Data.{word_code}
use Rattle.w_gen.specs.Limits.{IsTooLarge}
use Rattle.x_program.specs.Made.{IsMade}
use Rattle.native.specs.Native.{native_registers, native_base}

-- the file is that of the program's word code
pub record IsMadeOf (heap : ℕ) (P : TProg) (file : List ℕ) : Type 0 where
  pub small : IsTooLarge (native_base P) heap P → ⊥
  pub code : WProg
  pub is : code ≡ word_code P (native_base P) heap
  pub built : IsBuilt P (native_base P) heap code
  pub made : IsMade (native_registers P) code file
