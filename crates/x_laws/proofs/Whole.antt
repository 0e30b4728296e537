-- A straight instruction of word code and the machine: where its instructions stand, the machine goes as word code
-- goes.
use Rattle.std.proofs.Common.{◌≡◌, ℕ, ◌+◌, ◌<◌, ◌^◌, List, [], ◌∷◌, ◌++◌, length, Bool, true, false, cond, Option, Some}
use Rattle.std.proofs.Common.{None, refl, ap, sym, ◌∙◌, subst}
use Rattle.std.proofs.Common.{pos, SFits, nat_eq, eqb-true, option_map}
use Rattle.std.specs.Int.{w32}
use Rattle.x_terms.specs.Machine.{Image, State, Answer, Next, run, word}
use Rattle.x_terms.specs.declared.register.Register.{Register}
use Rattle.x_terms.specs.declared.register.Register.TheVariants.{Rax, Rcx}
use Rattle.x_terms.specs.declared.instr.Instr.{Instr}
use Rattle.x_laws.specs.Core.{Core, core, bytes_all}
use Rattle.x_laws.specs.Homes.{Home, InRegister, InSlot, IsHome, AreHomes, Agrees}
use Rattle.x_laws.specs.Straight.{fetch, keep, target, finish, bring, is_short, number_source, bring_number, right}
use Rattle.x_laws.specs.Straight.{bring_right, product, shifted_by, operation, arith_by, straight}
use Rattle.x_code.specs.Bytes.{FitsSource}
use Rattle.x_terms.specs.declared.instr.Shift.{Shift}
use Rattle.x_terms.specs.declared.instr.Shift.TheVariants.{Shl, Shr}
use Rattle.std.proofs.Common.{negsuc, arith}
use Rattle.x_terms.specs.declared.instr.Source.{Source}
use Rattle.x_terms.specs.declared.instr.Source.TheVariants.{Reg, Int}
use Rattle.std.proofs.Common.{ltb-true}
use Rattle.x_laws.specs.Straight.{FitsRight, IsStraight}
use Rattle.x_laws.specs.Going.{AllFit, Standing}
use Rattle.x_laws.proofs.Running.{runs_to}
use Rattle.x_laws.proofs.Straight.{Keeps, const_kept, move_kept, arith_kept, load_kept}
use Rattle.x_laws.proofs.Straight.{store_kept}
use Rattle.w_terms.specs.Tree.{WInstr, WConst, WMove, WArith, WLoad, WStore, WSeq}
use Rattle.w_terms.specs.Machine.{WRegs, Memory, WState, WAt, Written, with_word, stored, instr_step}
use Rattle.w_terms.specs.declared.instr.WOp.{WOp}
use Rattle.w_terms.specs.declared.instr.WOp.TheVariants as w
use Rattle.w_terms.specs.declared.instr.WOperand.{WOperand}
use Rattle.w_terms.specs.declared.instr.WOperand.TheVariants as v

both_fit : (xs ys : List Instr) → AllFit xs → AllFit ys → AllFit (xs ++ ys)
both_fit [] ys f g = g
both_fit (x ∷ xs) ys f g = (f.0, both_fit xs ys f.1 g)

fetch_fits : (m : Image) (mem : Memory) (t : Register) (h : Home) → IsHome m mem h → AllFit (fetch t h)
fetch_fits m mem t (InRegister q) p = (tt, tt)
fetch_fits m mem t (InSlot a) p = (p.2, tt)

keep_fits : (m : Image) (mem : Memory) (h : Home) (t : Register) → IsHome m mem h → AllFit (keep h t)
keep_fits m mem (InRegister q) t p = (tt, tt)
keep_fits m mem (InSlot a) t p = (p.2, tt)

finish_fits : (m : Image) (mem : Memory) (h : Home) → IsHome m mem h → AllFit (finish h)
finish_fits m mem (InRegister q) p = tt
finish_fits m mem (InSlot a) p = (p.2, tt)

bring_fits : (m : Image) (mem : Memory) (t : Register) (h : Home) → IsHome m mem h → AllFit (bring t h)
bring_fits m mem t (InRegister q) p = tt
bring_fits m mem t (InSlot a) p = (p.2, tt)

product_fits : (t : Register) (s : Source) → AllFit (product t s)
product_fits t (Reg r) = (tt, tt)
product_fits t (Int i) = tt

shifted_fits : (k : Shift) (t : Register) (s : Source) → AllFit (shifted_by k t s)
shifted_fits k t (Int (pos n)) = (tt, tt)
shifted_fits k t (Int (negsuc n)) = tt
shifted_fits k t (Reg r) = tt

operation_fits : (o : WOp) (t : Register) (s : Source) → FitsSource s → AllFit (operation o t s)
operation_fits w.Add t s f = (f, tt)
operation_fits w.Sub t s f = (f, tt)
operation_fits w.Mul t s f = product_fits t s
operation_fits w.And t s f = (f, tt)
operation_fits w.Or t s f = (f, tt)
operation_fits w.Shl t s f = shifted_fits Shl t s
operation_fits w.Shr t s f = shifted_fits Shr t s

short_is : (o : WOp) (k : ℕ) → is_short o k ≡ true → k < 2 ^ 31
short_is w.Mul k e = absurd (cc)
short_is w.Add k e = ltb-true k (2 ^ 31) e
short_is w.Sub k e = ltb-true k (2 ^ 31) e
short_is w.And k e = ltb-true k (2 ^ 31) e
short_is w.Or k e = ltb-true k (2 ^ 31) e
short_is w.Shl k e = let small : k < 64 = ltb-true k 64 e in omega arith
short_is w.Shr k e = let small : k < 64 = ltb-true k 64 e in omega arith

offset_fits : (off : ℕ) → off < 2 ^ 31 → SFits w32 (pos off)
offset_fits off h = record { sfits = h }

number_fits : (o : WOp) (k : ℕ) (b : Bool) → is_short o k ≡ b → FitsSource (number_source b k)
number_fits o k true e = offset_fits k (short_is o k e)
number_fits o k false e = tt

number_brought_fits : (b : Bool) (k : ℕ) → k < 2 ^ 64 → AllFit (bring_number b k)
number_brought_fits true k h = tt
number_brought_fits false k h = (h, tt)

-- what is behind a step that may have none
pub mapped : {T U : Type 0} (f : T → U) (o : Option T) (y : U) → option_map f o ≡ Some y →
    (x : T) × (o ≡ Some x) × (f x ≡ y)
mapped f None y e = absurd (cc)
mapped f (Some x) y e = (x, refl, cc)

module _ (m : Image) (n : ℕ) (homes : ℕ → Home) where
  right_fits : (o : WOp) (x : WOperand) → FitsRight n x → FitsSource (right homes o x)
  right_fits o (v.Reg q) h = tt
  right_fits o (v.Num k) h = number_fits o k (is_short o k) refl

  bring_right_fits : (mem : Memory) (o : WOp) (x : WOperand) → AreHomes m mem n homes → FitsRight n x →
      AllFit (bring_right homes o x)
  bring_right_fits mem o (v.Reg q) hs h = bring_fits m mem Rcx (homes q) (hs.each q h)
  bring_right_fits mem o (v.Num k) hs h = number_brought_fits (is_short o k) k h

  through_fits : (mem : Memory) (o : WOp) (rs : ℕ) (x : WOperand) (h : Home) → AreHomes m mem n homes → rs < n →
      IsHome m mem h → FitsRight n x →
      AllFit (fetch Rax (homes rs) ++ bring_right homes o x ++ operation o Rax (right homes o x) ++ keep h Rax)
  through_fits mem o rs x h hs ls p f =
      let xs : List Instr = fetch Rax (homes rs) in
      let ys : List Instr = bring_right homes o x in
      let zs : List Instr = operation o Rax (right homes o x) in
      both_fit (xs ++ ys ++ zs) (keep h Rax)
      (both_fit (xs ++ ys) zs
      (both_fit xs ys (fetch_fits m mem Rax (homes rs) (hs.each rs ls)) (bring_right_fits mem o x hs f))
      (operation_fits o Rax (right homes o x) (right_fits o x f)))
      (keep_fits m mem h Rax p)

  arith_fits : (mem : Memory) (b : Bool) (h : Home) (o : WOp) (rs : ℕ) (x : WOperand) → AreHomes m mem n homes →
      rs < n → IsHome m mem h → FitsRight n x →
      AllFit (arith_by b h (homes rs) o (bring_right homes o x) (right homes o x))
  arith_fits mem true (InRegister q) o rs x hs ls p f =
      both_fit (bring_right homes o x) (operation o q (right homes o x)) (bring_right_fits mem o x hs f)
      (operation_fits o q (right homes o x) (right_fits o x f))
  arith_fits mem true (InSlot s) o rs x hs ls p f = through_fits mem o rs x (InSlot s) hs ls p f
  arith_fits mem false (InRegister q) o rs x hs ls p f = through_fits mem o rs x (InRegister q) hs ls p f
  arith_fits mem false (InSlot s) o rs x hs ls p f = through_fits mem o rs x (InSlot s) hs ls p f

  pub straight_fits : (mem : Memory) (i : WInstr) → AreHomes m mem n homes → IsStraight n i → AllFit (straight homes i)
  straight_fits mem (WConst rd k) hs h = (h.1, finish_fits m mem (homes rd) (hs.each rd h.0))
  straight_fits mem (WMove rd rs) hs h =
      both_fit (fetch (target (homes rd)) (homes rs)) (finish (homes rd))
      (fetch_fits m mem (target (homes rd)) (homes rs) (hs.each rs h.1))
      (finish_fits m mem (homes rd) (hs.each rd h.0))
  straight_fits mem (WArith o rd rs x) hs h =
      arith_fits mem (nat_eq rd rs) (homes rd) o rs x hs h.2 (hs.each rd h.1) h.3
  straight_fits mem (WLoad rd ra off) hs h =
      both_fit (bring Rax (homes ra)) _ (bring_fits m mem Rax (homes ra) (hs.each ra h.1))
      (offset_fits off h.2, finish_fits m mem (homes rd) (hs.each rd h.0))
  straight_fits mem (WStore ra off rs) hs h =
      both_fit (bring Rax (homes ra) ++ bring Rcx (homes rs)) _
      (both_fit (bring Rax (homes ra)) (bring Rcx (homes rs)) (bring_fits m mem Rax (homes ra) (hs.each ra h.0))
      (bring_fits m mem Rcx (homes rs) (hs.each rs h.2)))
      (offset_fits off h.1, tt)
  straight_fits mem _ hs h = absurd h

  -- a word that is written leaves the homes as they are
  other : (mem : Memory) (a s x : ℕ) → mem a ≡ Some x → mem s ≡ None → (b : Bool) (y : Option ℕ) → nat_eq a s ≡ b →
      cond b y (mem s) ≡ None
  other mem a s x some none false y e = none
  other mem a s x some none true y e =
      let is : a ≡ s = eqb-true a s e in
      let n : mem a ≡ None = subst (λ k. mem k ≡ None) (sym is) none in
      absurd (cc)

  home_stays : (mem : Memory) (a x y : ℕ) (h : Home) → mem a ≡ Some x → IsHome m mem h →
      IsHome m (with_word mem a (Some y)) h
  home_stays mem a x y (InRegister q) e p = p
  home_stays mem a x y (InSlot s) e p =
      (p.0, other mem a (word s) x e p.1 (nat_eq a (word s)) (Some y) refl, p.2)

  homes_stay : (mem : Memory) (a x y : ℕ) → mem a ≡ Some x → AreHomes m mem n homes →
      AreHomes m (with_word mem a (Some y)) n homes
  homes_stay mem a x y e hs = record { each = λ q h. home_stays mem a x y (homes q) e (hs.each q h); apart = hs.apart }

  -- what the instructions come to, beside the next state of word code
  pub record Went (i : WInstr) (c : Core) (log : List Written) (rest : WSeq) (x : WState) : Type 0 where
    pub regs : WRegs
    pub memory : Memory
    pub is : WAt regs memory log rest ≡ x
    pub homes_are : AreHomes m memory n homes
    pub keeps : Keeps m n homes (straight homes i) c regs memory

  module _ (place : ℕ → ℕ) (blocks : List WSeq) where
    pub straight_kept : (i : WInstr) (r : WRegs) (mem : Memory) (log : List Written) (rest : WSeq) (x : WState)
        (c : Core) → IsStraight n i → AreHomes m mem n homes → Agrees m n homes r mem c →
        instr_step place blocks r mem log i rest ≡ Some x → Went i c log rest x
    straight_kept (WConst rd k) r mem log rest x c h hs a e =
        record { regs = _; memory = mem; is = cc; homes_are = hs; keeps = const_kept m n homes r mem hs rd k c h.0 a }
    straight_kept (WMove rd rs) r mem log rest x c h hs a e =
        record {
          regs = _;
          memory = mem;
          is = cc;
          homes_are = hs;
          keeps = move_kept m n homes r mem hs rd rs c h.0 h.1 a;
        }
    straight_kept (WArith o rd rs v) r mem log rest x c h hs a e =
        record {
          regs = _;
          memory = mem;
          is = cc;
          homes_are = hs;
          keeps = arith_kept m n homes r mem hs o rd rs v c h.0 h.1 h.2 h.3 a;
        }
    straight_kept (WLoad rd ra off) r mem log rest x c h hs a e =
        let l = mapped (λ y. WAt (with_word r rd y) mem log rest) (mem (r ra + off)) x e in
        record {
          regs = with_word r rd l.0;
          memory = mem;
          is = l.2;
          homes_are = hs;
          keeps = load_kept m n homes r mem hs rd ra off l.0 c h.0 h.1 l.1 a;
        }
    straight_kept (WStore ra off rs) r mem log rest x c h hs a e =
        let s = mapped (λ new. WAt r new log rest) (stored mem (r ra + off) (r rs)) x e in
        let l = mapped (λ (old : ℕ). with_word mem (r ra + off) (Some (r rs))) (mem (r ra + off)) s.0 s.1 in
        record {
          regs = r;
          memory = with_word mem (r ra + off) (Some (r rs));
          is = ap (λ new. WAt r new log rest) l.2 ∙ s.2;
          homes_are = homes_stay mem (r ra + off) l.0 (r rs) l.1 hs;
          keeps = store_kept m n homes r mem hs ra off rs l.0 c h.0 h.2 l.1 a;
        }
    straight_kept _ r mem log rest x c h hs a e = absurd h

    -- the machine, whatever the system would answer
    pub record Goes (i : WInstr) (s : State) (log : List Written) (rest : WSeq) (x : WState) (t : State) : Type 0 where
      pub runs_to_it : (world : ℕ → Answer) → run m world (length (straight homes i)) s ≡ Next t
      pub regs : WRegs
      pub memory : Memory
      pub is : WAt regs memory log rest ≡ x
      pub homes_are : AreHomes m memory n homes
      pub agrees : Agrees m n homes regs memory (core t)
      pub place_is : t.place ≡ s.place + length (bytes_all (straight homes i))
      pub calls_are : t.calls ≡ s.calls

    pub straight_goes : (i : WInstr) (r : WRegs) (mem : Memory) (log : List Written) (rest : WSeq) (x : WState)
        (s : State) → IsStraight n i → AreHomes m mem n homes → Agrees m n homes r mem (core s) →
        Standing m s.place (bytes_all (straight homes i)) →
        instr_step place blocks r mem log i rest ≡ Some x → (t : State) × Goes i s log rest x t
    straight_goes i r mem log rest x s h hs a st e =
        let w = straight_kept i r mem log rest x (core s) h hs a e in
        let k = w.keeps in
        let t = runs_to m (straight homes i) s k.0 (straight_fits mem i hs h) st k.1 in (
          t.0,
          record {
            runs_to_it = t.1;
            regs = w.regs;
            memory = w.memory;
            is = w.is;
            homes_are = w.homes_are;
            agrees = subst (Agrees m n homes w.regs w.memory) (sym t.2.core_is) k.2;
            place_is = t.2.place_is;
            calls_are = t.2.calls_are;
          },
        )
