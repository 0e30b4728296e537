-- Where the registers of word code live: nine in registers of the processor, each other one in a word of the memory.
use Rattle.std.specs.Prelude.{ℕ, ◌+◌, ◌*◌, nat_lt, cond, pos, List, [], ◌∷◌, Option, Some, None}
use Rattle.x_terms.specs.Numbers.{entry}
use Rattle.x_terms.specs.declared.register.Register.{Register}
use Rattle.x_terms.specs.declared.register.Register.TheVariants.{Rax, Rbx, Rbp, R8, R9, R10, R12, R13, R14, R15}
use Rattle.x_laws.specs.Homes as laws
use Rattle.x_pass.specs.declared.home.Home.{Home}
use Rattle.x_pass.specs.declared.home.Home.TheVariants.{InRegister, InSlot}

abbrev pub home_of : Home → laws.Home
home_of (InRegister r) = laws.InRegister r
home_of (InSlot a) = laws.InSlot a

-- the registers of word code that are used most
abbrev pub rows : List (ℕ × Register)
rows = (0, Rbx) ∷ (1, Rbp) ∷ (4, R8) ∷ (16, R9) ∷ (17, R10) ∷ (18, R12) ∷ (19, R13) ∷ (20, R14) ∷ (21, R15) ∷ []

-- where the slots begin, and the address of each
abbrev pub slots_at : ℕ
slots_at = 0x10000000

abbrev pub slot : ℕ → ℕ
slot q = slots_at + 8 * q

-- so many registers have homes: the addresses of slots are below 2 ^ 31
abbrev pub most : ℕ
most = 0x0E000000

abbrev pub home_by : ℕ → Option Register → laws.Home
home_by q (Some r) = laws.InRegister r
home_by q None = cond (nat_lt q most) (laws.InSlot (pos (slot q))) (laws.InRegister Rax)

-- the home of a register
unfoldable pub home : ℕ → laws.Home
home q = home_by q (entry q rows)
