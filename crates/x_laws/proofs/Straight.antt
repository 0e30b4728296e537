-- What the instructions of a straight instruction of word code do.
use Rattle.std.proofs.Common.{◌≡◌, ℕ, ◌+◌, ◌%◌, ◌<◌, ◌^◌, List, [], ◌∷◌, ◌++◌, true, cond, Option, Some, None}
use Rattle.std.proofs.Common.{refl, ap, sym, ◌∙◌, subst, arith}
use Rattle.std.proofs.Common.{pos, negsuc, ◌*◌, ◌/◌, ◌≤◌, Bool, false, nat_eq, nat_lt, eqb-true, ltb-false}
use Rattle.x_terms.specs.Numbers.{number, same}
use Rattle.x_terms.specs.Decode.{and_then}
use Rattle.x_terms.specs.Machine.{Image, is_word, word, source}
use Rattle.x_terms.specs.declared.register.Register.{Register}
use Rattle.x_terms.specs.declared.register.Register.TheVariants.{Rax, Rcx}
use Rattle.x_terms.specs.declared.instr.Shift.TheVariants.{Shl, Shr}
use Rattle.x_terms.specs.declared.instr.Source.{Source}
use Rattle.x_terms.specs.declared.instr.Source.TheVariants.{Reg, Int}
use Rattle.x_terms.specs.declared.instr.Address.TheVariants.{Based}
use Rattle.x_terms.specs.declared.instr.Instr.{Instr}
use Rattle.x_terms.specs.declared.instr.Instr.TheVariants.{Const, Load, Store}
use Rattle.x_laws.specs.Core.{Core, put, write, does, runs}
use Rattle.x_laws.specs.Homes.{Home, InRegister, InSlot, held, set, spare, IsHome, AreHomes, Agrees}
use Rattle.x_laws.specs.Straight.{fetch, keep, target, finish, hand, bring, is_short, number_source, bring_number}
use Rattle.x_laws.specs.Straight.{right, bring_right, product, shifted_by, operation, arith_by, straight, IsPlain}
use Rattle.x_laws.specs.Straight.{FitsRight}
use Rattle.x_laws.proofs.Kept.{nat_same, not_spare, agrees_spare, agrees_put, agrees_write}
use Rattle.w_terms.specs.Tree.{WConst, WMove, WArith, WLoad, WStore}
use Rattle.w_terms.specs.Machine.{WRegs, Memory, with_word, word_op, operand}
use Rattle.w_terms.specs.declared.instr.WOp.{WOp}
use Rattle.w_terms.specs.declared.instr.WOp.TheVariants as w
use Rattle.w_terms.specs.declared.instr.WOperand.{WOperand}
use Rattle.w_terms.specs.declared.instr.WOperand.TheVariants as v

through : (m : Image) (xs ys : List Instr) (o : Option Core) →
    ((d : Core) → runs m (xs ++ ys) d ≡ and_then (runs m xs d) (runs m ys)) →
    and_then o (runs m (xs ++ ys)) ≡ and_then (and_then o (runs m xs)) (runs m ys)
through m xs ys None step = refl
through m xs ys (Some d) step = step d

pub runs_both : (m : Image) (xs ys : List Instr) (c : Core) →
    runs m (xs ++ ys) c ≡ and_then (runs m xs c) (runs m ys)
runs_both m [] ys c = refl
runs_both m (x ∷ xs) ys c = through m xs ys (does m x c) (λ d. runs_both m xs ys d)

-- one stretch after another
pub runs_then : (m : Image) (xs ys : List Instr) (c d : Core) → runs m xs c ≡ Some d →
    runs m (xs ++ ys) c ≡ runs m ys d
runs_then m xs ys c d e = runs_both m xs ys c ∙ ap (λ o. and_then o (runs m ys)) e

pub fetch_runs : (m : Image) (mem : Memory) (t : Register) (h : Home) (c : Core) → IsHome m mem h →
    runs m (fetch t h) c ≡ Some (put c t (held c h))
fetch_runs m mem t (InRegister q) c p = refl
fetch_runs m mem t (InSlot a) c p =
    ap (λ b. and_then (cond b (Some (put c t (c.memory (word a)))) None) (runs m [])) p.0

pub keep_runs : (m : Image) (mem : Memory) (h : Home) (t : Register) (c : Core) → IsHome m mem h →
    runs m (keep h t) c ≡ Some (set c h (c.registers t))
keep_runs m mem (InRegister q) t c p = refl
keep_runs m mem (InSlot a) t c p =
    ap (λ b. and_then (cond b (Some (write c (word a) (c.registers t))) None) (runs m [])) p.0

-- the core in which a result is put to its home
abbrev before : Core → Home → ℕ → Core
before c (InRegister q) x = c
before c (InSlot a) x = put c Rax x

finish_runs : (m : Image) (mem : Memory) (h : Home) (c : Core) (x : ℕ) → IsHome m mem h →
    runs m (finish h) (put c (target h) x) ≡ Some (set (before c h x) h x)
finish_runs m mem (InRegister q) c x p = refl
finish_runs m mem (InSlot a) c x p =
    ap (λ b. and_then (cond b (Some (write (put c Rax x) (word a) x)) None) (runs m [])) p.0

-- the core in which a word is at hand
abbrev brought : Register → Core → Home → Core
brought t c (InRegister q) = c
brought t c (InSlot a) = put c t (c.memory (word a))

bring_runs : (m : Image) (mem : Memory) (t : Register) (h : Home) (c : Core) → IsHome m mem h →
    runs m (bring t h) c ≡ Some (brought t c h)
bring_runs m mem t (InRegister q) c p = refl
bring_runs m mem t (InSlot a) c p =
    ap (λ b. and_then (cond b (Some (put c t (c.memory (word a)))) None) (runs m [])) p.0

hand_is : (t : Register) (c : Core) (h : Home) → (brought t c h).registers (hand t h) ≡ held c h
hand_is t c (InRegister q) = refl
hand_is t c (InSlot a) = ap (λ b. cond b (c.memory (word a)) (c.registers t)) (nat_same (number t))

-- a word that is brought to RCX leaves the other one at hand
hand_stays : (m : Image) (mem : Memory) (c : Core) (h g : Home) → IsHome m mem h →
    (brought Rcx c g).registers (hand Rax h) ≡ c.registers (hand Rax h)
hand_stays m mem c h (InRegister q) p = refl
hand_stays m mem c (InRegister r) (InSlot a) p =
    ap (λ b. cond b (c.memory (word a)) (c.registers r)) (not_spare Rcx r refl p (same Rcx r) refl)
hand_stays m mem c (InSlot b) (InSlot a) p = refl

-- a product takes a register
abbrev pub IsRegister : Source → Type 0
IsRegister (Reg r) = Unit {0}
IsRegister (Int i) = ⊥

-- and a shift a number below 64
abbrev pub IsNumber : Source → Type 0
IsNumber (Int (pos k)) = k < 64
IsNumber _ = ⊥

abbrev pub IsRight : WOp → Source → Type 0
IsRight w.Mul s = IsRegister s
IsRight w.Shl s = IsNumber s
IsRight w.Shr s = IsNumber s
IsRight _ s = Unit {0}

counted : (k : ℕ) (b : Bool) → nat_lt k 64 ≡ b → k < 64 → IsNumber (number_source b k)
counted k true e h = h
counted k false e h =
    let over : 64 ≤ k = ltb-false k 64 e in
    absurd (omega arith)

pub is_right : (homes : ℕ → Home) (o : WOp) (x : WOperand) → IsPlain o x → IsRight o (right homes o x)
is_right homes w.Mul (v.Reg q) p = tt
is_right homes w.Mul (v.Num k) p = tt
is_right homes w.Add x p = tt
is_right homes w.Sub x p = tt
is_right homes w.And x p = tt
is_right homes w.Or x p = tt
is_right homes w.Shl (v.Reg q) p = absurd p
is_right homes w.Shl (v.Num k) p = counted k (nat_lt k 64) refl p
is_right homes w.Shr (v.Reg q) p = absurd p
is_right homes w.Shr (v.Num k) p = counted k (nat_lt k 64) refl p

product_runs : (m : Image) (t : Register) (s : Source) (c : Core) → IsRegister s →
    runs m (product t s) c ≡ Some (put c t (word_op w.Mul (c.registers t) (source c.registers s)))
product_runs m t (Reg r) c h = refl
product_runs m t (Int i) c h = absurd h

shl_runs : (m : Image) (t : Register) (s : Source) (c : Core) → IsNumber s →
    runs m (shifted_by Shl t s) c ≡ Some (put c t (word_op w.Shl (c.registers t) (source c.registers s)))
shl_runs m t (Int (pos k)) c h =
    let small : k % 64 ≡ k = omega arith in
    ap (λ j. Some (put c t ((c.registers t * 2 ^ j) % 2 ^ 64))) small
shl_runs m t (Int (negsuc k)) c h = absurd h
shl_runs m t (Reg r) c h = absurd h

shr_runs : (m : Image) (t : Register) (s : Source) (c : Core) → IsNumber s →
    runs m (shifted_by Shr t s) c ≡ Some (put c t (word_op w.Shr (c.registers t) (source c.registers s)))
shr_runs m t (Int (pos k)) c h =
    let small : k % 64 ≡ k = omega arith in
    ap (λ j. Some (put c t (c.registers t / 2 ^ j))) small
shr_runs m t (Int (negsuc k)) c h = absurd h
shr_runs m t (Reg r) c h = absurd h

pub operation_runs : (m : Image) (o : WOp) (t : Register) (s : Source) (c : Core) → IsRight o s →
    runs m (operation o t s) c ≡ Some (put c t (word_op o (c.registers t) (source c.registers s)))
operation_runs m w.Add t s c h = refl
operation_runs m w.Sub t s c h = refl
operation_runs m w.Mul t s c h = product_runs m t s c h
operation_runs m w.And t s c h = refl
operation_runs m w.Or t s c h = refl
operation_runs m w.Shl t s c h = shl_runs m t s c h
operation_runs m w.Shr t s c h = shr_runs m t s c h

brought_stays : (c : Core) (h : Home) (q : Register) → same Rcx q ≡ false →
    (brought Rcx c h).registers q ≡ c.registers q
brought_stays c (InRegister r) q e = refl
brought_stays c (InSlot a) q e = ap (λ b. cond b (c.memory (word a)) (c.registers q)) e

-- what is at hand in RAX or a home is not in RCX
pub hand_apart : (m : Image) (mem : Memory) (h : Home) → IsHome m mem h → same Rcx (hand Rax h) ≡ false
hand_apart m mem (InRegister q) p = not_spare Rcx q refl p (same Rcx q) refl
hand_apart m mem (InSlot a) p = refl

module _ (m : Image) (n : ℕ) (homes : ℕ → Home) where
  -- the code runs to a state that agrees with these registers and this memory
  abbrev pub Keeps : List Instr → Core → WRegs → Memory → Type 0
  Keeps is c r mem = (d : Core) × (runs m is c ≡ Some d) × Agrees m n homes r mem d

  -- the code brings a right operand: its word is y, and all registers but RCX are as they were
  pub record Brings (r : WRegs) (mem : Memory) (is : List Instr) (s : Source) (c : Core) (y : ℕ) : Type 0 where
    pub at : Core
    pub runs_to_it : runs m is c ≡ Some at
    pub agrees : Agrees m n homes r mem at
    pub value : source at.registers s ≡ y
    pub stays : (q : Register) → same Rcx q ≡ false → at.registers q ≡ c.registers q

  module _ (r : WRegs) (mem : Memory) (hs : AreHomes m mem n homes) where
    -- a word in RAX goes to its home
    ends : (d v : ℕ) (c : Core) (x : ℕ) → x ≡ v → c.registers Rax ≡ x → d < n → Agrees m n homes r mem c →
        Keeps (keep (homes d) Rax) c (with_word r d v) mem
    ends d v c x e is ld a = (
      set c (homes d) (c.registers Rax),
      keep_runs m mem (homes d) Rax c (hs.each d ld),
      agrees_put c d (c.registers Rax) v (is ∙ e) ld hs a,
    )

    -- after a stretch that runs to d
    behind : (xs ys : List Instr) (c d : Core) (s : WRegs) (new : Memory) → runs m xs c ≡ Some d → Keeps ys d s new →
        Keeps (xs ++ ys) c s new
    behind xs ys c d s new e k = (k.0, runs_then m xs ys c d e ∙ k.1, k.2)

    before_agrees : (c : Core) (h : Home) (x : ℕ) → Agrees m n homes r mem c → Agrees m n homes r mem (before c h x)
    before_agrees c (InRegister q) x a = a
    before_agrees c (InSlot s) x a = agrees_spare Rax c x refl hs a

    brought_agrees : (t : Register) (c : Core) (h : Home) → spare t ≡ true → Agrees m n homes r mem c →
        Agrees m n homes r mem (brought t c h)
    brought_agrees t c (InRegister q) p a = a
    brought_agrees t c (InSlot s) p a = agrees_spare t c (c.memory (word s)) p hs a

    -- a result that was made goes home
    ends_at : (d v x : ℕ) (c : Core) → x ≡ v → d < n → Agrees m n homes r mem c →
        Keeps (finish (homes d)) (put c (target (homes d)) x) (with_word r d v) mem
    ends_at d v x c e ld a = (
      set (before c (homes d) x) (homes d) x,
      finish_runs m mem (homes d) c x (hs.each d ld),
      agrees_put (before c (homes d) x) d x v e ld hs (before_agrees c (homes d) x a),
    )

    pub const_kept : (rd k : ℕ) (c : Core) → rd < n → Agrees m n homes r mem c →
        Keeps (straight homes (WConst rd k)) c (with_word r rd k) mem
    const_kept rd k c ld a =
        behind (Const (target (homes rd)) k ∷ []) (finish (homes rd)) c (put c (target (homes rd)) k) (with_word r rd k)
        mem refl (ends_at rd k k c refl ld a)

    pub move_kept : (rd rs : ℕ) (c : Core) → rd < n → rs < n → Agrees m n homes r mem c →
        Keeps (straight homes (WMove rd rs)) c (with_word r rd (r rs)) mem
    move_kept rd rs c ld ls a =
        let x : ℕ = held c (homes rs) in
        let t : Register = target (homes rd) in
        behind (fetch t (homes rs)) (finish (homes rd)) c (put c t x) (with_word r rd (r rs)) mem
        (fetch_runs m mem t (homes rs) c (hs.each rs ls)) (ends_at rd (r rs) x c (a.registers rs ls) ld a)

    number_brings : (b : Bool) (k : ℕ) (c : Core) → Agrees m n homes r mem c →
        Brings r mem (bring_number b k) (number_source b k) c k
    number_brings true k c a =
        record { at = c; runs_to_it = refl; agrees = a; value = refl; stays = λ q e. refl }
    number_brings false k c a = record {
      at = put c Rcx k;
      runs_to_it = refl;
      agrees = agrees_spare Rcx c k refl hs a;
      value = refl;
      stays = λ q e. ap (λ b. cond b k (c.registers q)) e;
    }

    pub right_brings : (o : WOp) (x : WOperand) (c : Core) → FitsRight n x → Agrees m n homes r mem c →
        Brings r mem (bring_right homes o x) (right homes o x) c (operand r x)
    right_brings o (v.Reg q) c lq a = record {
      at = brought Rcx c (homes q);
      runs_to_it = bring_runs m mem Rcx (homes q) c (hs.each q lq);
      agrees = brought_agrees Rcx c (homes q) refl a;
      value = hand_is Rcx c (homes q) ∙ a.registers q lq;
      stays = λ p e. brought_stays c (homes q) p e;
    }
    right_brings o (v.Num k) c lq a = number_brings (is_short o k) k c a

    -- both operands of a comparison
    pub both_brings : (rs : ℕ) (x : WOperand) (c : Core) → rs < n → FitsRight n x → Agrees m n homes r mem c →
        (d : Core) × (runs m (bring Rax (homes rs) ++ bring_right homes w.Sub x) c ≡ Some d) × Agrees m n homes r mem d
        × (d.registers (hand Rax (homes rs)) ≡ r rs) × (source d.registers (right homes w.Sub x) ≡ operand r x)
    both_brings rs x c ls lx a =
        let h : Home = homes rs in
        let one : Core = brought Rax c h in
        let g = right_brings w.Sub x one lx (brought_agrees Rax c h refl a) in (
          g.at,
          runs_then m (bring Rax h) (bring_right homes w.Sub x) c one (bring_runs m mem Rax h c (hs.each rs ls))
              ∙ g.runs_to_it,
          g.agrees,
          g.stays (hand Rax h) (hand_apart m mem h (hs.each rs ls)) ∙ hand_is Rax c h ∙ a.registers rs ls,
          g.value,
        )

    -- by way of RAX
    through_rax : (o : WOp) (rd rs : ℕ) (x : WOperand) (c : Core) (h : Home) → homes rd ≡ h → IsPlain o x → rd < n →
        rs < n → FitsRight n x → Agrees m n homes r mem c →
        Keeps (fetch Rax (homes rs) ++ bring_right homes o x ++ operation o Rax (right homes o x) ++ keep h Rax) c
        (with_word r rd (word_op o (r rs) (operand r x))) mem
    through_rax o rd rs x c h e p ld ls lx a =
        let xs : List Instr = fetch Rax (homes rs) in
        let ys : List Instr = bring_right homes o x in
        let s : Source = right homes o x in
        let zs : List Instr = operation o Rax s in
        let k : ℕ = held c (homes rs) in
        let one : Core = put c Rax k in
        let g = right_brings o x one lx (agrees_spare Rax c k refl hs a) in
        let y : ℕ = word_op o (g.at.registers Rax) (source g.at.registers s) in
        let three : Core = put g.at Rax y in
        let v : ℕ = word_op o (r rs) (operand r x) in
        let is : y ≡ v =
        ap (λ j. word_op o j (source g.at.registers s)) (g.stays Rax refl ∙ a.registers rs ls)
        ∙ ap (λ j. word_op o (r rs) j) g.value in
        let both : runs m (xs ++ ys) c ≡ Some g.at =
        runs_then m xs ys c one (fetch_runs m mem Rax (homes rs) c (hs.each rs ls)) ∙ g.runs_to_it in
        let all : runs m (xs ++ ys ++ zs) c ≡ Some three =
        runs_then m (xs ++ ys) zs c g.at both ∙ operation_runs m o Rax s g.at (is_right homes o x p) in
        let home : Keeps (keep h Rax) three (with_word r rd v) mem =
        subst (λ j. Keeps (keep j Rax) three (with_word r rd v) mem) e
        (ends rd v three y is refl ld (agrees_spare Rax g.at y refl hs g.agrees)) in
        behind (xs ++ ys ++ zs) (keep h Rax) c three (with_word r rd v) mem all home

    -- in the register itself
    in_place : (o : WOp) (rd rs : ℕ) (x : WOperand) (c : Core) (q : Register) → homes rd ≡ InRegister q → rd ≡ rs →
        IsPlain o x → rd < n → FitsRight n x → Agrees m n homes r mem c →
        Keeps (bring_right homes o x ++ operation o q (right homes o x)) c
        (with_word r rd (word_op o (r rs) (operand r x))) mem
    in_place o rd rs x c q e same_one p ld lx a =
        let ys : List Instr = bring_right homes o x in
        let s : Source = right homes o x in
        let g = right_brings o x c lx a in
        let y : ℕ = word_op o (g.at.registers q) (source g.at.registers s) in
        let v : ℕ = word_op o (r rs) (operand r x) in
        let here : g.at.registers q ≡ r rs =
        subst (λ j. held g.at j ≡ r rd) e (g.agrees.registers rd ld) ∙ ap r same_one in
        let is : y ≡ v =
        ap (λ j. word_op o j (source g.at.registers s)) here ∙ ap (λ j. word_op o (r rs) j) g.value in (
          put g.at q y,
          runs_then m ys (operation o q s) c g.at g.runs_to_it ∙ operation_runs m o q s g.at (is_right homes o x p),
          subst (λ j. Agrees m n homes (with_word r rd v) mem (set g.at j y)) e
              (agrees_put g.at rd y v is ld hs g.agrees),
        )

    arith_done : (b : Bool) (h : Home) (o : WOp) (rd rs : ℕ) (x : WOperand) (c : Core) → nat_eq rd rs ≡ b →
        homes rd ≡ h → IsPlain o x → rd < n → rs < n → FitsRight n x → Agrees m n homes r mem c →
        Keeps (arith_by b h (homes rs) o (bring_right homes o x) (right homes o x)) c
        (with_word r rd (word_op o (r rs) (operand r x))) mem
    arith_done true (InRegister q) o rd rs x c t e p ld ls lx a =
        in_place o rd rs x c q e (eqb-true rd rs t) p ld lx a
    arith_done true (InSlot s) o rd rs x c t e p ld ls lx a = through_rax o rd rs x c (InSlot s) e p ld ls lx a
    arith_done false (InRegister q) o rd rs x c t e p ld ls lx a =
        through_rax o rd rs x c (InRegister q) e p ld ls lx a
    arith_done false (InSlot s) o rd rs x c t e p ld ls lx a = through_rax o rd rs x c (InSlot s) e p ld ls lx a

    pub arith_kept : (o : WOp) (rd rs : ℕ) (x : WOperand) (c : Core) → IsPlain o x → rd < n → rs < n → FitsRight n x →
        Agrees m n homes r mem c →
        Keeps (straight homes (WArith o rd rs x)) c (with_word r rd (word_op o (r rs) (operand r x))) mem
    arith_kept o rd rs x c p ld ls lx a =
        arith_done (nat_eq rd rs) (homes rd) o rd rs x c refl refl p ld ls lx a

    -- the address of a word does not wrap
    reached : (ra off x : ℕ) (c : Core) (k : ℕ) → k ≡ r ra → mem (r ra + off) ≡ Some x → Agrees m n homes r mem c →
        (is_word m ((k + off) % 2 ^ 64) ≡ true) × (c.memory ((k + off) % 2 ^ 64) ≡ x)
        × ((k + off) % 2 ^ 64 ≡ r ra + off)
    reached ra off x c k e s a =
        let w = a.words (r ra + off) x s in
        let below : r ra + off < 2 ^ 64 = w.1 in
        let is : (k + off) % 2 ^ 64 ≡ r ra + off = omega arith in
        (ap (is_word m) is ∙ w.0, ap c.memory is ∙ w.2, is)

    pub load_kept : (rd ra off x : ℕ) (c : Core) → rd < n → ra < n → mem (r ra + off) ≡ Some x →
        Agrees m n homes r mem c → Keeps (straight homes (WLoad rd ra off)) c (with_word r rd x) mem
    load_kept rd ra off x c ld la s a =
        let one : Core = brought Rax c (homes ra) in
        let b : Register = hand Rax (homes ra) in
        let t : Register = target (homes rd) in
        let k : ℕ = one.registers b in
        let to : ℕ = (k + off) % 2 ^ 64 in
        let with_one : Agrees m n homes r mem one = brought_agrees Rax c (homes ra) refl a in
        let there = reached ra off x one k (hand_is Rax c (homes ra) ∙ a.registers ra la) s with_one in
        let two : Core = put one t (one.memory to) in
        let loads : List Instr = Load t (Based b (pos off)) ∷ [] in
        let both : runs m loads one ≡ Some two = ap (λ q. and_then (cond q (Some two) None) (runs m [])) there.0 in
        behind (bring Rax (homes ra)) (loads ++ finish (homes rd)) c one (with_word r rd x) mem
        (bring_runs m mem Rax (homes ra) c (hs.each ra la))
        (behind loads (finish (homes rd)) one two (with_word r rd x) mem both
        (ends_at rd x (one.memory to) one there.1 ld with_one))

    pub store_kept : (ra off rs x : ℕ) (c : Core) → ra < n → rs < n → mem (r ra + off) ≡ Some x →
        Agrees m n homes r mem c →
        Keeps (straight homes (WStore ra off rs)) c r (with_word mem (r ra + off) (Some (r rs)))
    store_kept ra off rs x c la ls s a =
        let one : Core = brought Rax c (homes ra) in
        let two : Core = brought Rcx one (homes rs) in
        let with_one : Agrees m n homes r mem one = brought_agrees Rax c (homes ra) refl a in
        let with_two : Agrees m n homes r mem two = brought_agrees Rcx one (homes rs) refl with_one in
        let p : Register = hand Rax (homes ra) in
        let q : Register = hand Rcx (homes rs) in
        let k : ℕ = two.registers p in
        let b : ℕ = two.registers q in
        let to : ℕ = (k + off) % 2 ^ 64 in
        let k_is : k ≡ r ra =
        hand_stays m mem one (homes ra) (homes rs) (hs.each ra la) ∙ hand_is Rax c (homes ra) ∙ a.registers ra la in
        let is : b ≡ r rs = hand_is Rcx one (homes rs) ∙ with_one.registers rs ls in
        let there = reached ra off x two k k_is s with_two in
        let stores : List Instr = Store (Based p (pos off)) q ∷ [] in
        let both : runs m (bring Rax (homes ra) ++ bring Rcx (homes rs)) c ≡ Some two =
        runs_then m (bring Rax (homes ra)) (bring Rcx (homes rs)) c one
        (bring_runs m mem Rax (homes ra) c (hs.each ra la))
        ∙ bring_runs m mem Rcx (homes rs) one (hs.each rs ls) in
        let all : runs m (bring Rax (homes ra) ++ bring Rcx (homes rs) ++ stores) c ≡ Some (write two to b) =
        runs_then m (bring Rax (homes ra) ++ bring Rcx (homes rs)) stores c two both
        ∙ ap (λ t. and_then (cond t (Some (write two to b)) None) (runs m [])) there.0 in
        let new : Memory = with_word mem (r ra + off) (Some (r rs)) in
        let kept : Agrees m n homes r new (write two (r ra + off) (r rs)) =
        agrees_write two (r ra + off) (r rs) x s hs with_two in
        let moved : Agrees m n homes r new (write two to b) =
        subst (λ j. Agrees m n homes r new (write two j b)) (sym there.2)
        (subst (λ j. Agrees m n homes r new (write two (r ra + off) j)) (sym is) kept) in
        (write two to b, all, moved)
