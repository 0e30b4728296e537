-- One step of word code, and what the machine does meanwhile.
use Rattle.std.proofs.Common.{◌≡◌, ℕ, zero, suc, ◌+◌, ◌%◌, ◌<◌, ◌^◌, List, [], ◌∷◌, ◌++◌, length, Bool, true}
use Rattle.std.proofs.Common.{false, pos}
use Rattle.std.proofs.Common.{cond, Option, Some, None, refl, ap, sym, ◌∙◌, subst, arith, inl, length-append}
use Rattle.std.proofs.Common.{append_assoc, eqb-true, nat_eq, option_and_then, slice_get}
use Rattle.x_terms.specs.Machine.{Image, State, Answer, Next, Exits, Call, moved, plus, word, holds, run}
use Rattle.x_terms.specs.declared.register.Register.{Register}
use Rattle.x_terms.specs.declared.register.Register.TheVariants.{Rax, Rcx, Rdi}
use Rattle.x_terms.specs.declared.instr.Shift.{Shift}
use Rattle.x_terms.specs.declared.instr.Shift.TheVariants.{Shl, Shr}
use Rattle.std.proofs.Common.{negsuc}
use Rattle.x_terms.specs.declared.instr.Source.{Source}
use Rattle.x_terms.specs.declared.instr.Source.TheVariants.{Reg, Int}
use Rattle.x_terms.specs.declared.instr.Instr.{Instr}
use Rattle.x_terms.specs.declared.instr.Instr.TheVariants.{Const, Load, Store, Jmp, Jcc, JmpReg, Syscall}
use Rattle.x_terms.specs.declared.instr.Address.TheVariants.{Based}
use Rattle.x_terms.specs.Machine.{with_register, source}
use Rattle.x_code.specs.Bytes.{bytes_of}
use Rattle.x_laws.specs.Core.{Core, core, put, bytes_all}
use Rattle.x_laws.specs.Homes.{Home, InRegister, InSlot, held, AreHomes, Agrees}
use Rattle.x_laws.specs.Straight.{fetch, keep, target, finish, hand, bring, right, bring_right, product, operation}
use Rattle.x_laws.specs.Straight.{arith_by, straight, shifted_by, IsStraight}
use Rattle.x_laws.specs.Code.{far, condition, both, compare, leave, seq_code}
use Rattle.x_laws.specs.Going.{Standing, AllFit, IsSeq, Silent, IsLaid, Stands, Sim, Comes}
use Rattle.x_laws.specs.Laws.{EndsLike}
use Rattle.x_laws.proofs.Running.{further, runs_to}
use Rattle.x_laws.proofs.Kept.{agrees_spare}
use Rattle.x_laws.proofs.Straight.{fetch_runs, both_brings, const_kept, IsRegister, IsNumber, IsRight, is_right}
use Rattle.x_laws.proofs.Whole.{mapped, straight_goes}
use Rattle.x_laws.proofs.Flow.{standing_first, standing_behind, bytes_both, first_fit, behind_fit, far_leads}
use Rattle.x_laws.proofs.Flow.{jumps_so}
use Rattle.x_laws.proofs.Flow.{comes_at}
use Rattle.x_laws.proofs.Flow.{comes_end, one, one_on, stretch}
use Rattle.w_terms.specs.Tree.{WInstr, WConst, WMove, WPlace, WArith, WLoad, WStore, WBranch, WSeq}
use Rattle.w_terms.specs.Tree.{WThen, WJump, WGoto}
use Rattle.w_terms.specs.Machine as wm
use Rattle.w_terms.specs.Machine.{WRegs, Memory, WState, WAt, Written, operand, at_label, label_at, instr_step, wstep}
use Rattle.w_terms.specs.Machine.{ExitsWith}
use Rattle.w_terms.specs.declared.instr.WOp.{WOp}
use Rattle.w_terms.specs.declared.instr.WOp.TheVariants as w
use Rattle.w_terms.specs.declared.instr.WCond.{WCond}
use Rattle.w_terms.specs.declared.instr.WCond.TheVariants as wc
use Rattle.w_terms.specs.declared.instr.WOperand.{WOperand}

-- the code of an instruction has one instruction at least
fetch_long : (t : Register) (h : Home) → 0 < length (fetch t h)
fetch_long t (InRegister q) = omega arith
fetch_long t (InSlot a) = omega arith

long_both : (xs ys : List Instr) → 0 < length xs → 0 < length (xs ++ ys)
long_both xs ys h = omega (arith, length-append xs ys)

long_behind : (xs : List Instr) (i : Instr) (is : List Instr) → 0 < length (xs ++ (i ∷ is))
long_behind xs i is = omega (arith, length-append xs (i ∷ is))

product_long : (t : Register) (s : Source) → IsRegister s → 0 < length (product t s)
product_long t (Reg r) h = omega arith
product_long t (Int i) h = absurd h

shifted_long : (k : Shift) (t : Register) (s : Source) → IsNumber s → 0 < length (shifted_by k t s)
shifted_long k t (Int (pos n)) h = omega arith
shifted_long k t (Int (negsuc n)) h = absurd h
shifted_long k t (Reg r) h = absurd h

operation_long : (o : WOp) (t : Register) (s : Source) → IsRight o s → 0 < length (operation o t s)
operation_long w.Add t s h = omega arith
operation_long w.Sub t s h = omega arith
operation_long w.Mul t s h = product_long t s h
operation_long w.And t s h = omega arith
operation_long w.Or t s h = omega arith
operation_long w.Shl t s h = shifted_long Shl t s h
operation_long w.Shr t s h = shifted_long Shr t s h

through_long : (to left : Home) (o : WOp) (is : List Instr) (s : Source) →
    0 < length (fetch Rax left ++ is ++ operation o Rax s ++ keep to Rax)
through_long to left o is s =
    long_both (fetch Rax left ++ is ++ operation o Rax s) (keep to Rax)
    (long_both (fetch Rax left ++ is) (operation o Rax s) (long_both (fetch Rax left) is (fetch_long Rax left)))

arith_long : (b : Bool) (to left : Home) (o : WOp) (is : List Instr) (s : Source) → IsRight o s →
    0 < length (arith_by b to left o is s)
arith_long true (InRegister q) left o is s h =
    let some : 0 < length (operation o q s) = operation_long o q s h in
    omega (arith, length-append is (operation o q s))
arith_long true (InSlot a) left o is s h = through_long (InSlot a) left o is s
arith_long false (InRegister q) left o is s h = through_long (InRegister q) left o is s
arith_long false (InSlot a) left o is s h = through_long (InSlot a) left o is s

pub straight_long : (n : ℕ) (homes : ℕ → Home) (i : WInstr) → IsStraight n i → 0 < length (straight homes i)
straight_long n homes (WConst rd k) h = omega arith
straight_long n homes (WMove rd rs) h =
    long_both (fetch (target (homes rd)) (homes rs)) _ (fetch_long (target (homes rd)) (homes rs))
straight_long n homes (WArith o rd rs x) h =
    arith_long (nat_eq rd rs) (homes rd) (homes rs) o (bring_right homes o x) (right homes o x) (is_right homes o x h.0)
straight_long n homes (WLoad rd ra off) h =
    long_behind (bring Rax (homes ra)) (Load (target (homes rd)) (Based (hand Rax (homes ra)) (pos off)))
    (finish (homes rd))
straight_long n homes (WStore ra off rs) h =
    long_behind (bring Rax (homes ra) ++ bring Rcx (homes rs))
    (Store (Based (hand Rax (homes ra)) (pos off)) (hand Rcx (homes rs))) []
straight_long n homes _ h = absurd h

-- both machines compare alike
same_test : (t : WCond) (a b : ℕ) → holds (condition t) a b ≡ wm.holds t a b
same_test wc.Equal a b = refl
same_test wc.Differ a b = refl
same_test wc.Below a b = refl
same_test wc.AtLeast a b = refl

-- the label at an address has that address
labelled_by : (place : ℕ → ℕ) (k a l : ℕ) (o : Option ℕ) (b : Bool) → nat_eq (place k) a ≡ b →
    cond b (Some k) o ≡ Some l → (o ≡ Some l → place l ≡ a) → place l ≡ a
labelled_by place k a l o true q e rest = let is : k ≡ l = cc in ap place (sym is) ∙ eqb-true (place k) a q
labelled_by place k a l o false q e rest = rest e

labelled : (place : ℕ → ℕ) (count a l : ℕ) → label_at place count a ≡ Some l → place l ≡ a
labelled place zero a l e = absurd (cc)
labelled place (suc k) a l e =
    labelled_by place k a l (label_at place k a) (nat_eq (place k) a) refl e (λ f. labelled place k a l f)

pub chained : {T U : Type 0} (f : T → Option U) (o : Option T) (y : U) → option_and_then f o ≡ Some y →
    (x : T) × (o ≡ Some x) × (f x ≡ Some y)
chained f None y e = absurd (cc)
chained f (Some x) y e = (x, refl, e)

still : {log : List Written} {new old : List Call} → new ≡ old → Silent log old → Silent log new
still e h = (h.0, e ∙ h.1)

module _ (m : Image) (n : ℕ) (homes : ℕ → Home) (place : ℕ → ℕ) (blocks : List WSeq)
    (laid : IsLaid m n homes place blocks) (world : ℕ → Answer) where
  abbrev pub S : WState → State → Type 0
  S = Sim m n homes place

  -- where the next state of word code is an exit, the process may have ended so already
  abbrev pub Over : WState → ℕ → List Call → Type 0
  Over y k calls = (status : ℕ) × (out : List Written) × ExitsWith y status out × EndsLike status out k calls

  abbrev pub C : WState → State → Type 0
  C y = Comes m world (S y) (Over y)

  -- behind an instruction, at its place
  pub onwards : (r : WRegs) (mem : Memory) (log : List Written) (c : WSeq) (k : ℕ) (t : State) → t.place ≡ k →
      AreHomes m mem n homes → Agrees m n homes r mem (core t) → Standing m k (bytes_all (seq_code homes place k c)) →
      AllFit (seq_code homes place k c) → IsSeq n c → Silent log t.calls → S (WAt r mem log c) t
  onwards r mem log c k t p hs a st f i l = record {
    homes_are = hs;
    agrees = a;
    standing = subst (λ j. Standing m j (bytes_all (seq_code homes place j c))) (sym p) st;
    fits = subst (λ j. AllFit (seq_code homes place j c)) (sym p) f;
    fine = i;
    silent = l;
  }

  -- at a label
  at_block : (l : ℕ) (r : WRegs) (mem : Memory) (log : List Written) (x : WState) (t : State) → t.place ≡ place l →
      AreHomes m mem n homes → Agrees m n homes r mem (core t) → Silent log t.calls →
      at_label place blocks r mem log l ≡ Some x → S x t
  at_block l r mem log x t p hs a lg e =
      let b = mapped (WAt r mem log) (slice_get blocks l) x e in
      subst (λ y. S y t) b.2
      (onwards r mem log b.0 (place l) t p hs a (laid.standing l b.0 b.1) (laid.fits l b.0 b.1)
      (laid.fine l b.0 b.1) lg)

  label_below : (l : ℕ) (r : WRegs) (mem : Memory) (log : List Written) (x : WState) →
      at_label place blocks r mem log l ≡ Some x → place l < 2 ^ 64
  label_below l r mem log x e =
      let b = mapped (WAt r mem log) (slice_get blocks l) x e in laid.below l b.0 b.1

  pub some_is : (x y : WState) → Some x ≡ Some y → x ≡ y
  some_is x y e = cc

  run_comes : (k : ℕ) (y : WState) (s t : State) → 0 < k → run m world k s ≡ Next t → S y t → C y s
  run_comes zero y s t h e p = absurd (omega arith)
  run_comes (suc j) y s t h e p = inl (j, t, e, p)

  pub straight_comes : (i : WInstr) (c : WSeq) (r : WRegs) (mem : Memory) (log : List Written) (y : WState)
      (s : State) → IsStraight n i → AreHomes m mem n homes → Agrees m n homes r mem (core s) →
      Silent log s.calls → IsSeq n c →
      Standing m s.place
      (bytes_all (straight homes i ++ seq_code homes place (s.place + length (bytes_all (straight homes i))) c)) →
      AllFit (straight homes i ++ seq_code homes place (s.place + length (bytes_all (straight homes i))) c) →
      instr_step place blocks r mem log i c ≡ Some y → C y s
  straight_comes i c r mem log y s h hs a lg fine st f e =
      let xs : List Instr = straight homes i in
      let k : ℕ = s.place + length (bytes_all xs) in
      let rest : List Instr = seq_code homes place k c in
      let g =
      straight_goes m n homes place blocks i r mem log c y s h hs a (standing_first m s.place xs rest st) e in
      run_comes (length xs) y s g.0 (straight_long n homes i h) (g.1.runs_to_it world)
      (subst (λ x. S x g.0) g.1.is
      (onwards g.1.regs g.1.memory log c k g.0 g.1.place_is g.1.homes_are g.1.agrees
      (standing_behind m s.place xs rest st) (behind_fit xs rest f) fine (still g.1.calls_are lg)))

  pub jump_comes : (l : ℕ) (r : WRegs) (mem : Memory) (log : List Written) (y : WState) (s : State) →
      Stands m n homes place r mem log (WJump l) s → at_label place blocks r mem log l ≡ Some y → C y s
  jump_comes l r mem log y s h e =
      let to : ℕ = plus (s.place + 5) (word (far (s.place + 5) (place l))) in
      let leads : to ≡ place l = far_leads (s.place + 5) (place l) (label_below l r mem log y e) h.fits.0 in
      let u : State = moved s to s.registers None in
      comes_at m world (S y) (Over y) s u
      (one m world (S y) (Over y) s (Jmp (far (s.place + 5) (place l))) [] (Next u) h.fits h.standing refl)
      (at_block l r mem log y u leads h.homes_are h.agrees h.silent e)

  pub goto_comes : (q : ℕ) (r : WRegs) (mem : Memory) (log : List Written) (y : WState) (s : State) →
      Stands m n homes place r mem log (WGoto q) s → wstep place blocks (WAt r mem log (WGoto q)) ≡ Some y → C y s
  goto_comes q r mem log y s h e =
      let b = chained (at_label place blocks r mem log) (label_at place (length blocks) (r q)) y e in
      let k : ℕ = held (core s) (homes q) in
      let d : Core = put (core s) Rax k in
      stretch m world (S y) (Over y) (fetch Rax (homes q)) (JmpReg Rax ∷ []) s d h.fits h.standing
      (fetch_runs m mem Rax (homes q) (core s) (h.homes_are.each q h.fine))
      (λ t re f st.
      let u : State = moved t (t.registers Rax) t.registers None in
      let agrees : Agrees m n homes r mem (core u) =
      subst (Agrees m n homes r mem) (sym re.core_is) (agrees_spare Rax (core s) k refl h.homes_are h.agrees) in
      let there : t.registers Rax ≡ place b.0 =
      ap (λ (x : Core). x.registers Rax) re.core_is ∙ h.agrees.registers q h.fine
      ∙ sym (labelled place (length blocks) (r q) b.0 b.1) in
      comes_at m world (S y) (Over y) t u (one m world (S y) (Over y) t (JmpReg Rax) [] (Next u) f st refl)
      (at_block b.0 r mem log y u there h.homes_are agrees (still re.calls_are h.silent) b.2))

  -- the process ends
  pub leaves : (P : State → Type 0) (E : ℕ → List Call → Type 0) (status : ℕ) (rest : List Instr) (s : State) →
      AllFit (leave status ++ rest) → Standing m s.place (bytes_all (leave status ++ rest)) →
      E (status % 256) s.calls → Comes m world P E s
  leaves P E status rest s f st p =
      let u : State = moved s (s.place + 10) (with_register s.registers Rdi status) None in
      let v : State = moved u (u.place + 10) (with_register u.registers Rax 60) None in
      one_on m world P E s u (Const Rdi status) (Const Rax 60 ∷ Syscall ∷ rest) f st refl refl
      (λ f2 st2.
      one_on m world P E u v (Const Rax 60) (Syscall ∷ rest) f2 st2 refl refl
      (λ f3 st3.
      comes_end m world P E v (status % 256) s.calls
      (one m world P E v Syscall rest (Exits (status % 256) s.calls) f3 st3 refl) p))

  -- the address of a label goes to its home
  pub place_comes : (rd l : ℕ) (c : WSeq) (r : WRegs) (mem : Memory) (log : List Written) (y : WState) (s : State) →
      Stands m n homes place r mem log (WThen (WPlace rd l) c) s →
      instr_step place blocks r mem log (WPlace rd l) c ≡ Some y → C y s
  place_comes rd l c r mem log y s h e =
      let xs : List Instr = Const (target (homes rd)) (place l) ∷ finish (homes rd) in
      let k : ℕ = s.place + length (bytes_all xs) in
      let rest : List Instr = seq_code homes place k c in
      let g = const_kept m n homes r mem h.homes_are rd (place l) (core s) h.fine.0 h.agrees in
      let t = runs_to m xs s g.0 (first_fit xs rest h.fits) (standing_first m s.place xs rest h.standing) g.1 in
      run_comes (length xs) y s t.0 (omega arith) (t.1 world)
      (subst (λ z. S z t.0) (some_is (WAt (wm.with_word r rd (place l)) mem log c) y e)
      (onwards (wm.with_word r rd (place l)) mem log c k t.0 t.2.place_is h.homes_are
      (subst (Agrees m n homes (wm.with_word r rd (place l)) mem) (sym t.2.core_is) g.2)
      (standing_behind m s.place xs rest h.standing) (behind_fit xs rest h.fits) h.fine.1
      (still t.2.calls_are h.silent)))

  -- a conditional jump behind the comparison of a and b
  branch_end : (t : WCond) (l : ℕ) (c : WSeq) (r : WRegs) (mem : Memory) (log : List Written) (y : WState) (w : State)
      (next at a b : ℕ) (test : Bool) → w.flags ≡ Some (a, b) → holds (condition t) a b ≡ test → w.place + 6 ≡ next →
      next ≡ at → AreHomes m mem n homes → Agrees m n homes r mem (core w) → Silent log w.calls → IsSeq n c →
      AllFit (Jcc (condition t) (far next (place l)) ∷ seq_code homes place at c) →
      Standing m w.place (bytes_all (Jcc (condition t) (far next (place l)) ∷ seq_code homes place at c)) →
      cond test (at_label place blocks r mem log l) (Some (WAt r mem log c)) ≡ Some y → C y w
  branch_end t l c r mem log y w next at a b true hf hb p p2 hs g lg fine f st e =
      let jcc : Instr = Jcc (condition t) (far next (place l)) in
      let rest : List Instr = seq_code homes place at c in
      let to : ℕ = plus (w.place + 6) (word (far next (place l))) in
      let leads : to ≡ place l =
      ap (λ k. plus k (word (far next (place l)))) p
      ∙ far_leads next (place l) (label_below l r mem log y e) f.0 in
      let v : State = moved w to w.registers None in
      comes_at m world (S y) (Over y) w v
      (one m world (S y) (Over y) w jcc rest (Next v) f st
      (jumps_so w to (condition t) a b true hf hb))
      (at_block l r mem log y v leads hs g lg e)
  branch_end t l c r mem log y w next at a b false hf hb p p2 hs g lg fine f st e =
      let jcc : Instr = Jcc (condition t) (far next (place l)) in
      let rest : List Instr = seq_code homes place at c in
      let to : ℕ = plus (w.place + 6) (word (far next (place l))) in
      let v : State = moved w (w.place + 6) w.registers None in
      comes_at m world (S y) (Over y) w v
      (one m world (S y) (Over y) w jcc rest (Next v) f st
      (jumps_so w to (condition t) a b false hf hb))
      (subst (λ z. S z v) (some_is (WAt r mem log c) y e)
      (onwards r mem log c at v (p ∙ p2) hs g
      (subst (λ k. Standing m k (bytes_all rest)) (p ∙ p2) (further m w.place (bytes_of jcc) (bytes_all rest) st))
      f.1 fine lg))

  pub branch_comes : (t : WCond) (rs : ℕ) (v : WOperand) (l : ℕ) (c : WSeq) (r : WRegs) (mem : Memory)
      (log : List Written) (y : WState) (s : State) → Stands m n homes place r mem log (WThen (WBranch t rs v l) c) s →
      cond (wm.holds t (r rs) (operand r v)) (at_label place blocks r mem log l) (Some (WAt r mem log c)) ≡ Some y →
      C y s
  branch_comes t rs v l c r mem log y s h e =
      let xs : List Instr = both homes rs v in
      let cmp : Instr = compare homes rs v in
      let next : ℕ = s.place + length (bytes_all xs) + length (bytes_of cmp) + 6 in
      let jcc : Instr = Jcc (condition t) (far next (place l)) in
      let tail : List Instr = cmp ∷ jcc ∷ [] in
      let at : ℕ = s.place + length (bytes_all (xs ++ tail)) in
      let rest : List Instr = seq_code homes place at c in
      let regroup : xs ++ tail ++ rest ≡ xs ++ (cmp ∷ jcc ∷ rest) = append_assoc xs tail rest in
      let f : AllFit (xs ++ (cmp ∷ jcc ∷ rest)) = subst AllFit regroup h.fits in
      let st : Standing m s.place (bytes_all (xs ++ (cmp ∷ jcc ∷ rest))) =
      subst (λ z. Standing m s.place (bytes_all z)) regroup h.standing in
      let p : Register = hand Rax (homes rs) in
      let x : Source = right homes w.Sub v in
      let b : ℕ = operand r v in
      let g = both_brings m n homes r mem h.homes_are rs v (core s) h.fine.0.0 h.fine.0.1 h.agrees in
      let d : Core = g.0 in
      let is_at : next ≡ at =
      omega (
        arith,
        ap length (bytes_both xs tail),
        length-append (bytes_all xs) (bytes_all tail),
        length-append (bytes_of cmp) (bytes_of jcc ++ []),
      ) in
      stretch m world (S y) (Over y) xs (cmp ∷ jcc ∷ rest) s d f st g.1
      (λ u re f2 st2.
      let w : State =
      moved u (u.place + length (bytes_of cmp)) u.registers (Some (u.registers p, source u.registers x)) in
      let test : holds (condition t) (u.registers p) (source u.registers x) ≡ wm.holds t (r rs) b =
      ap (λ (z : Core). holds (condition t) (z.registers p) (source z.registers x)) re.core_is
      ∙ ap (λ j. holds (condition t) j (source d.registers x)) g.3 ∙ ap (λ j. holds (condition t) (r rs) j) g.4
      ∙ same_test t (r rs) b in
      let there : w.place + 6 ≡ next = let q : u.place ≡ s.place + length (bytes_all xs) = re.place_is in omega arith in
      one_on m world (S y) (Over y) u w cmp (jcc ∷ rest) f2 st2 refl refl
      (λ f3 st3.
      branch_end t l c r mem log y w next at (u.registers p) (source u.registers x) (wm.holds t (r rs) b) refl test
      there is_at h.homes_are (subst (Agrees m n homes r mem) (sym re.core_is) g.2)
      (still re.calls_are h.silent) h.fine.1 f3 st3 e))
