-- Where the registers of word code live: in a register, or in a word of the memory with a fixed address.
use Rattle.std.specs.Prelude.{◌≡◌, ℕ, ◌<◌, ◌^◌, Bool, true, false, ℤ, Some, None, nat_eq, FitsSigned}
use Rattle.std.specs.Int.{w32}
use Rattle.x_terms.specs.Numbers.{same}
use Rattle.x_terms.specs.Machine.{Image, is_word, word}
use Rattle.x_terms.specs.declared.register.Register.{Register}
use Rattle.x_terms.specs.declared.register.Register.TheVariants.{Rax, Rcx, Rdx, Rsi, Rdi, R11}
use Rattle.x_laws.specs.Core.{Core, put, write}
use Rattle.w_terms.specs.Machine.{WRegs, Memory}

pub data Home : Type 0 where
  InRegister : (r : Register) → Home
  InSlot : (a : ℤ) → Home

-- the word of a home, and another one there
abbrev pub held : Core → Home → ℕ
held c (InRegister r) = c.registers r
held c (InSlot a) = c.memory (word a)

abbrev pub set : Core → Home → ℕ → Core
set c (InRegister r) w = put c r w
set c (InSlot a) w = write c (word a) w

-- what is written to the one is not read from the other
abbrev pub Apart : Home → Home → Type 0
Apart (InRegister r) (InRegister q) = same r q ≡ false
Apart (InSlot a) (InSlot b) = nat_eq (word a) (word b) ≡ false
Apart _ _ = Unit {0}

-- the registers that are no home: by the first two words go, and a call of the system takes or leaves words in all six
abbrev pub spare : Register → Bool
spare Rax = true
spare Rcx = true
spare Rdx = true
spare Rsi = true
spare Rdi = true
spare R11 = true
spare _ = false

-- a slot is a word of the data that no program looks at, and its address has 32 bits
abbrev pub IsHome : Image → Memory → Home → Type 0
IsHome m mem (InRegister r) = spare r ≡ false
IsHome m mem (InSlot a) = (is_word m (word a) ≡ true) × (mem (word a) ≡ None) × FitsSigned w32 a

-- each register below n has a home of its own
pub record AreHomes (m : Image) (mem : Memory) (n : ℕ) (homes : ℕ → Home) : Type 0 where
  pub each : (q : ℕ) → q < n → IsHome m mem (homes q)
  pub apart : (q p : ℕ) → q < n → p < n → nat_eq q p ≡ false → Apart (homes q) (homes p)

-- registers and memory of word code stand where they are to
pub record Agrees (m : Image) (n : ℕ) (homes : ℕ → Home) (r : WRegs) (mem : Memory) (c : Core) : Type 0 where
  pub registers : (q : ℕ) → q < n → held c (homes q) ≡ r q
  pub words : (a w : ℕ) → mem a ≡ Some w → (is_word m a ≡ true) × (a < 2 ^ 64) × (c.memory a ≡ w)
