-- What homes hold after a write, and that code and word code go on to agree.
use Rattle.std.proofs.Common.{◌≡◌, ℕ, ◌<◌, ◌^◌, Bool, true, false, cond, Some, None, refl, ap, sym}
use Rattle.std.proofs.Common.{◌∙◌, subst}
use Rattle.std.proofs.Common.{eq-eqb, eqb-true, nat_eq}
use Rattle.x_terms.specs.Numbers.{number, register, same}
use Rattle.x_code.proofs.Fields.{register_back}
use Rattle.x_terms.specs.Machine.{Image, is_word, word}
use Rattle.x_terms.specs.declared.register.Register.{Register}
use Rattle.x_laws.specs.Core.{Core, put, write}
use Rattle.x_laws.specs.Homes.{Home, InRegister, InSlot, held, set, spare, Apart, IsHome, AreHomes, Agrees}
use Rattle.w_terms.specs.Machine.{WRegs, Memory, with_word}

pub nat_same : (n : ℕ) → nat_eq n n ≡ true
nat_same n = eq-eqb n n refl

pub held_set : (c : Core) (h : Home) (w : ℕ) → held (set c h w) h ≡ w
held_set c (InRegister r) w = ap (λ b. cond b w (c.registers r)) (nat_same (number r))
held_set c (InSlot a) w = ap (λ b. cond b w (c.memory (word a))) (nat_same (word a))

pub held_apart : (c : Core) (h g : Home) (w : ℕ) → Apart h g → held (set c h w) g ≡ held c g
held_apart c (InRegister r) (InRegister q) w p = ap (λ b. cond b w (c.registers q)) p
held_apart c (InRegister r) (InSlot b) w p = refl
held_apart c (InSlot a) (InRegister q) w p = refl
held_apart c (InSlot a) (InSlot b) w p = ap (λ t. cond t w (c.memory (word b))) p

-- registers with one number are one
same_register : (r q : Register) → same r q ≡ true → r ≡ q
same_register r q e =
    let n : number r ≡ number q = eqb-true (number r) (number q) e in
    let both : Some r ≡ Some q = sym (register_back r) ∙ ap register n ∙ register_back q in
    cc

pub not_spare : (t r : Register) → spare t ≡ true → spare r ≡ false → (b : Bool) → same t r ≡ b → b ≡ false
not_spare t r p q false e = refl
not_spare t r p q true e =
    let is : spare t ≡ spare r = ap (λ x. spare x) (same_register t r e) in
    absurd (cc)

-- a home holds the same after a write to a spare register
pub held_spare : (m : Image) (mem : Memory) (t : Register) (c : Core) (h : Home) (w : ℕ) → spare t ≡ true →
    IsHome m mem h → held (put c t w) h ≡ held c h
held_spare m mem t c (InRegister r) w s p =
    ap (λ b. cond b w (c.registers r)) (not_spare t r s p (same t r) refl)
held_spare m mem t c (InSlot a) w s p = refl

-- a slot is no word of the program's memory
not_slot : (mem : Memory) (a s x : ℕ) → mem s ≡ None → mem a ≡ Some x → (b : Bool) → nat_eq s a ≡ b → b ≡ false
not_slot mem a s x none some false e = refl
not_slot mem a s x none some true e =
    let is : s ≡ a = eqb-true s a e in
    let n : mem a ≡ None = subst (λ k. mem k ≡ None) is none in
    absurd (cc)

pub memory_set : (m : Image) (mem : Memory) (c : Core) (h : Home) (w a x : ℕ) → IsHome m mem h → mem a ≡ Some x →
    (set c h w).memory a ≡ c.memory a
memory_set m mem c (InRegister r) w a x p e = refl
memory_set m mem c (InSlot s) w a x p e =
    ap (λ b. cond b w (c.memory a)) (not_slot mem a (word s) x p.1 e (nat_eq (word s) a) refl)

-- a word of the program's memory is no slot
home_write : (m : Image) (mem : Memory) (c : Core) (a w x : ℕ) (h : Home) → IsHome m mem h → mem a ≡ Some x →
    held (write c a w) h ≡ held c h
home_write m mem c a w x (InRegister r) p e = refl
home_write m mem c a w x (InSlot s) p e = ap (λ b. cond b w (c.memory (word s))) (other (nat_eq a (word s)) refl)
  where
    other : (b : Bool) → nat_eq a (word s) ≡ b → b ≡ false
    other false q = refl
    other true q =
        let is : a ≡ word s = eqb-true a (word s) q in
        let none : mem a ≡ None = subst (λ k. mem k ≡ None) (sym is) p.1 in
        absurd (cc)

module _ {m : Image} {n : ℕ} {homes : ℕ → Home} where
  pub agrees_spare : {r : WRegs} {mem : Memory} (t : Register) (c : Core) (w : ℕ) → spare t ≡ true →
      AreHomes m mem n homes → Agrees m n homes r mem c → Agrees m n homes r mem (put c t w)
  agrees_spare {r} {mem} t c w s hs a = record {
    registers = λ q lt. held_spare m mem t c (homes q) w s (hs.each q lt) ∙ a.registers q lt;
    words = a.words;
  }

  set_one : {r : WRegs} {mem : Memory} (c : Core) (d w q : ℕ) → d < n → q < n → AreHomes m mem n homes →
      Agrees m n homes r mem c → (b : Bool) → nat_eq d q ≡ b → held (set c (homes d) w) (homes q) ≡ cond b w (r q)
  set_one c d w q ld lq hs a true e =
      let is : d ≡ q = eqb-true d q e in
      subst (λ k. held (set c (homes d) w) (homes k) ≡ w) is (held_set c (homes d) w)
  set_one c d w q ld lq hs a false e =
      held_apart c (homes d) (homes q) w (hs.apart d q ld lq e) ∙ a.registers q lq

  pub agrees_set : {r : WRegs} {mem : Memory} (c : Core) (d w : ℕ) → d < n → AreHomes m mem n homes →
      Agrees m n homes r mem c → Agrees m n homes (with_word r d w) mem (set c (homes d) w)
  agrees_set {r} {mem} c d w ld hs a = record {
    registers = λ q lq. set_one c d w q ld lq hs a (nat_eq d q) refl;
    words = λ k x e.
        let old = a.words k x e in
        (old.0, old.1, memory_set m mem c (homes d) w k x (hs.each d ld) e ∙ old.2);
  }

  -- the same where the word is equal to that of word code
  pub agrees_put : {r : WRegs} {mem : Memory} (c : Core) (d v w : ℕ) → v ≡ w → d < n → AreHomes m mem n homes →
      Agrees m n homes r mem c → Agrees m n homes (with_word r d w) mem (set c (homes d) v)
  agrees_put {r} {mem} c d v w e ld hs a =
      subst (λ x. Agrees m n homes (with_word r d x) mem (set c (homes d) v)) e (agrees_set c d v ld hs a)

  word_write : {mem : Memory} {r : WRegs} (c : Core) (a w x k y : ℕ) → mem a ≡ Some x → Agrees m n homes r mem c →
      (b : Bool) → nat_eq a k ≡ b → cond b (Some w) (mem k) ≡ Some y →
      (is_word m k ≡ true) × (k < 2 ^ 64) × (cond b w (c.memory k) ≡ y)
  word_write {mem} c a w x k y e g true q f =
      let is : a ≡ k = eqb-true a k q in
      let old = g.words a x e in
      let found = subst (λ j. (is_word m j ≡ true) × (j < 2 ^ 64)) is (old.0, old.1) in
      (found.0, found.1, cc)
  word_write c a w x k y e g false q f = g.words k y f

  pub agrees_write : {r : WRegs} {mem : Memory} (c : Core) (a w x : ℕ) → mem a ≡ Some x → AreHomes m mem n homes →
      Agrees m n homes r mem c → Agrees m n homes r (with_word mem a (Some w)) (write c a w)
  agrees_write {r} {mem} c a w x e hs g = record {
    registers = λ q lq. home_write m mem c a w x (homes q) (hs.each q lq) e ∙ g.registers q lq;
    words = λ k y f. word_write c a w x k y e g (nat_eq a k) refl f;
  }
