-- The loop of calls of `write`: the process ends with all written, or cut short.
use Rattle.std.proofs.Common.{◌≡◌, ℕ, zero, suc, ◌+◌, ◌-◌, ◌%◌, ◌<◌, ◌≤◌, ◌^◌, List, [], ◌∷◌, ◌++◌, length, drop}
use Rattle.std.proofs.Common.{Bool, true, false, cond, not, Some, None, refl, ap, sym, ◌∙◌, subst, arith, ◌⊎◌, inl, inr}
use Rattle.std.proofs.Common.{length-append, length-drop, append_assoc, pos, negsuc, eqb-true, eq-eqb, nat_eq}
use Rattle.std.proofs.Common.{nat_lt, nat_le, leb-true, le-leb, ltb-true, ltb-false, ◌==◌, ◌||◌, ◌≢◌, option_map}
use Rattle.std.proofs.lemmas.Bool.{eqb-false}
use Rattle.std.proofs.lemmas.List.{append-nil}
use Rattle.x_terms.specs.Machine.{Image, State, Answer, Call, Next, Exits, Stuck, Wrote, moved, plus, minus, word}
use Rattle.x_terms.specs.Machine.{result}
use Rattle.x_terms.specs.Machine.{with_register, are_bytes, bytes, write, call}
use Rattle.x_terms.specs.Told.{AllTo, taken, AllWritten, CutShort}
use Rattle.x_terms.specs.declared.register.Register.TheVariants.{Rax, Rcx, Rdx, Rsi, Rdi, R11}
use Rattle.x_terms.specs.declared.instr.Op.TheVariants.{Add, Sub, Cmp}
use Rattle.x_terms.specs.declared.instr.Condition.TheVariants.{B, Ne}
use Rattle.x_terms.specs.declared.instr.Source.TheVariants.{Reg, Int}
use Rattle.x_terms.specs.declared.instr.Address.TheVariants.{Based}
use Rattle.x_terms.specs.declared.instr.Instr.{Instr}
use Rattle.x_terms.specs.declared.instr.Instr.TheVariants.{Const, Lea, Arith, Jcc, Syscall}
use Rattle.x_laws.specs.Core.{Core, core, put, runs, bytes_all}
use Rattle.x_laws.specs.Homes.{Home, AreHomes, Agrees}
use Rattle.x_laws.specs.Straight.{fetch}
use Rattle.x_laws.specs.Code.{leave, written, write_failed, asked_again, write_loop}
use Rattle.x_laws.specs.Going.{Standing, AllFit, IsLaid, Stands, Sim, Comes}
use Rattle.x_laws.proofs.Kept.{agrees_spare}
use Rattle.x_laws.proofs.Straight.{runs_then, fetch_runs}
use Rattle.x_laws.proofs.Whole.{mapped}
use Rattle.x_laws.proofs.Flow.{standing_behind, behind_fit, jumps_so, comes_next, one, one_on, stretch}
use Rattle.x_laws.proofs.Steps.{C, Over, leaves}
use Rattle.x_laws.proofs.Calls.{and_true, or_true, all_bytes, are_data, bytes_length, bytes_split}
use Rattle.w_terms.specs.Tree.{WWrite, WSeq, WThen, WJump, WGoto, WExit}
use Rattle.w_terms.specs.Machine.{WRegs, Memory, WState, WAt, Written, Put, bytes_at}

or_first : (a b : Bool) → a ≡ true → a || b ≡ true
or_first true b p = refl
or_first false b p = absurd (cc)

is_output : (file to : ℕ) → file ≡ to → (to ≡ 1) ⊎ (to ≡ 2) → file == 1 || file == 2 ≡ true
is_output file to e (inl p) = or_first (file == 1) (file == 2) (eq-eqb file 1 (e ∙ p))
is_output file to e (inr p) = or_true (file == 1) (file == 2) (eq-eqb file 2 (e ∙ p))

-- bytes of the code end where the code ends
room : (m : Image) (a : ℕ) (bs : List ℕ) → Standing m a bs → 0 < length bs → a + length bs ≤ m.code_at + length m.code
room m a bs h p =
    let behind : m.code_at ≤ a = h.behind in
    let is : length (drop (a - m.code_at) m.code) ≡ length bs + length h.rest =
    ap length h.is ∙ length-append bs h.rest in
    let left : length (drop (a - m.code_at) m.code) ≡ length m.code - (a - m.code_at) =
    length-drop (a - m.code_at) m.code in
    omega arith

-- ---- one call

-- what the system takes of the bytes
abbrev took : State → Answer → List ℕ
took u a =
    cond (nat_le (result a) (u.registers Rdx)) (bytes u.memory (u.registers Rsi) (result a)) []

-- the state behind the call
abbrev called : State → ℕ → Answer → State
called u n a = record u {
  registers = with_register (with_register (with_register u.registers Rax (result a)) Rcx n) R11 (a.r11 % 2 ^ 64);
  flags = None;
  place = n;
  calls = Wrote (u.registers Rdi) (took u a) ∷ u.calls;
}

calls_so : (m : Image) (a : Answer) (u : State) (n to : ℕ) → u.registers Rax ≡ 1 → u.registers Rdi ≡ to →
    (to ≡ 1) ⊎ (to ≡ 2) → are_bytes m (u.registers Rsi) (u.registers Rdx) ≡ true → call m a u n ≡ Next (called u n a)
calls_so m a u n to hax hdi file ok =
    ap (λ b. cond b (write m a u n) (cond (u.registers Rax == 60) (Exits (u.registers Rdi % 256) u.calls) Stuck))
    (eq-eqb (u.registers Rax) 1 hax)
    ∙ ap (λ b. cond b (Next (called u n a)) Stuck)
    (and_true (u.registers Rdi == 1 || u.registers Rdi == 2) _ (is_output (u.registers Rdi) to hdi file) ok)

-- An answer less one is below the number of bytes where the system took some of them, and else it took none.
took_some : (x k : ℕ) → x < 2 ^ 64 → k < 2 ^ 64 → plus x (word (negsuc 0)) < k → (0 < x) × (x ≤ k)
took_some x k lx lk h = (omega (arith, lx, lk, h), omega (arith, lx, lk, h))

no_bytes : (m : ℕ → ℕ) (a x : ℕ) → x ≡ 0 → bytes m a x ≡ []
no_bytes m a x e = ap (bytes m a) e

took_none : (m : ℕ → ℕ) (a x k : ℕ) → x < 2 ^ 64 → k ≤ plus x (word (negsuc 0)) → (b : Bool) → nat_le x k ≡ b →
    cond b (bytes m a x) [] ≡ []
took_none m a x k lx h true e =
    let le : x ≤ k = leb-true x k e in
    no_bytes m a x (omega (arith, lx, le, h))
took_none m a x k lx h false e = refl

abbrev Again : ℕ → List Instr
Again status = asked_again ++ leave status

abbrev Skip : ℕ → ℕ → List Instr
Skip to status = leave (write_failed to) ++ Again status

abbrev pub Loop : ℕ → ℕ → List Instr
Loop to status = write_loop to ++ leave status

-- the state in which the loop begins anew
abbrev left : State → ℕ → State
left v head =
    moved v head
    (with_register (with_register v.registers Rsi (plus (v.registers Rsi) (v.registers Rax))) Rdx
    (minus (v.registers Rdx) (v.registers Rax)))
    None

module _ (m : Image) (world : ℕ → Answer) (small : m.code_at + length m.code < 2 ^ 64) (low : m.data_end < 2 ^ 64)
    (to status : ℕ) (line : List ℕ) (file : (to ≡ 1) ⊎ (to ≡ 2)) (P : State → Type 0) (E : ℕ → List Call → Type 0)
    (all : (calls : List Call) → AllWritten to line calls → E (status % 256) calls)
    (short : (calls : List Call) → CutShort to line calls → E (write_failed to % 256) calls)
    (leaves_so : (k : ℕ) (rest : List Instr) (s : State) → AllFit (leave k ++ rest) →
    Standing m s.place (bytes_all (leave k ++ rest)) → E (k % 256) s.calls → Comes m world P E s) where
  -- Where the loop begins: RSI and RDX say what is left of the line.
  pub record AtLoop (s : State) : Type 0 where
    pub output : s.registers Rdi ≡ to
    pub fits : s.registers Rdx < 2 ^ 64
    pub within : 0 < s.registers Rdx →
        (m.data_at ≤ s.registers Rsi) × (s.registers Rsi + s.registers Rdx ≤ m.data_end)
    pub files : AllTo to s.calls
    pub so_far : line ≡ taken s.calls ++ bytes s.memory (s.registers Rsi) (s.registers Rdx)
    pub some : 0 < length line → 0 < s.registers Rdx

  last_jump : (w : State) (head k : ℕ) (test : Bool) → w.flags ≡ Some (k, 0) → nat_eq k 0 ≡ test →
      w.place ≡ head + 63 → head < 2 ^ 64 → AllFit (Jcc Ne (negsuc 68) ∷ leave status) →
      Standing m w.place (bytes_all (Jcc Ne (negsuc 68) ∷ leave status)) → (k ≡ 0 → E (status % 256) w.calls) →
      (0 < k → Comes m world P E (moved w head w.registers None)) → Comes m world P E w
  last_jump w head k true hf hb p lt f st done back =
      let v : State = moved w (w.place + 6) w.registers None in
      let to : ℕ = plus (w.place + 6) (word (negsuc 68)) in
      one_on m world P E w v (Jcc Ne (negsuc 68)) (leave status) f st
      (jumps_so w to Ne k 0 false hf (ap not hb)) refl
      (λ f2 st2. leaves_so status [] v f2 st2 (done (eqb-true k 0 hb)))
  last_jump w head k false hf hb p lt f st done back =
      let to : ℕ = plus (w.place + 6) (word (negsuc 68)) in
      let v : State = moved w to w.registers None in
      let leads : to ≡ head = omega (arith, p, lt) in
      let other : k ≢ 0 = eqb-false k 0 hb in
      comes_next m world P E w v
      (one m world P E w (Jcc Ne (negsuc 68)) (leave status) (Next v) f st
      (jumps_so w to Ne k 0 true hf (ap not hb)))
      (subst (λ a. Comes m world P E (moved w a w.registers None)) (sym leads) (back (omega (arith, other))))

  -- some bytes were taken
  goes_on : (v : State) (head : ℕ) → v.place ≡ head + 50 → head < 2 ^ 64 → 0 < v.registers Rax →
      v.registers Rax ≤ v.registers Rdx → v.registers Rdx < 2 ^ 64 → AllFit (Again status) →
      Standing m v.place (bytes_all (Again status)) → (v.registers Rdx ≡ v.registers Rax → E (status % 256) v.calls) →
      (v.registers Rax < v.registers Rdx → Comes m world P E (left v head)) → Comes m world P E v
  goes_on v head p lt some le lk f st done back =
      let x : ℕ = v.registers Rax in
      let k : ℕ = v.registers Rdx in
      let last : List Instr = Arith Cmp Rdx (Int (pos 0)) ∷ Jcc Ne (negsuc 68) ∷ leave status in
      let less : ℕ = minus k x in
      let is : less ≡ k - x = omega (arith, le, lk, some) in
      let t : State = moved v (v.place + 3) (with_register v.registers Rsi (plus (v.registers Rsi) x)) None in
      let u : State = moved t (t.place + 3) (with_register t.registers Rdx less) None in
      let w : State = moved u (u.place + 7) u.registers (Some (less, 0)) in
      one_on m world P E v t (Arith Add Rsi (Reg Rax)) (Arith Sub Rdx (Reg Rax) ∷ last) f st refl refl
      (λ f2 st2.
      one_on m world P E t u (Arith Sub Rdx (Reg Rax)) last f2 st2 refl refl
      (λ f3 st3.
      one_on m world P E u w (Arith Cmp Rdx (Int (pos 0))) (Jcc Ne (negsuc 68) ∷ leave status) f3 st3 refl refl
      (λ f4 st4.
      last_jump w head less (nat_eq less 0) refl refl (omega (arith, p)) lt f4 st4
      (λ none. done (omega (arith, is, none, le))) (λ more. back (omega (arith, is, more, le))))))

  -- the comparison of the answer with the number of bytes
  answered : (w : State) (head y : ℕ) (test : Bool) → w.flags ≡ Some (y, w.registers Rdx) →
      nat_lt y (w.registers Rdx) ≡ test → w.place ≡ head + 22 → AllFit (Jcc B (pos 22) ∷ Skip to status) →
      Standing m w.place (bytes_all (Jcc B (pos 22) ∷ Skip to status)) →
      (w.registers Rdx ≤ y → E (write_failed to % 256) w.calls) →
      (y < w.registers Rdx → AllFit (Again status) → Standing m (head + 50) (bytes_all (Again status)) →
      Comes m world P E (moved w (head + 50) w.registers None)) →
      Comes m world P E w
  answered w head y true hf hb p f st failed on =
      let jumped : ℕ = plus (w.place + 6) 22 in
      let v : State = moved w jumped w.registers None in
      let end : w.place + length (bytes_all (Jcc B (pos 22) ∷ Skip to status)) ≤ m.code_at + length m.code =
      room m w.place (bytes_all (Jcc B (pos 22) ∷ Skip to status)) st (omega arith) in
      let leads : jumped ≡ head + 50 = omega (arith, end, small, p) in
      let there : w.place + 28 ≡ head + 50 = omega (arith, p) in
      comes_next m world P E w v
      (one m world P E w (Jcc B (pos 22)) (Skip to status) (Next v) f st
      (jumps_so w jumped B y (w.registers Rdx) true hf hb))
      (subst (λ a. Comes m world P E (moved w a w.registers None)) (sym leads)
      (on (ltb-true y (w.registers Rdx) hb)
      (behind_fit (Jcc B (pos 22) ∷ leave (write_failed to)) (Again status) f)
      (subst (λ a. Standing m a (bytes_all (Again status))) there
      (standing_behind m w.place (Jcc B (pos 22) ∷ leave (write_failed to)) (Again status) st))))
  answered w head y false hf hb p f st failed on =
      let jumped : ℕ = plus (w.place + 6) 22 in
      let v : State = moved w (w.place + 6) w.registers None in
      one_on m world P E w v (Jcc B (pos 22)) (Skip to status) f st
      (jumps_so w jumped B y (w.registers Rdx) false hf hb) refl
      (λ f2 st2. leaves_so (write_failed to) (Again status) v f2 st2 (failed (ltb-false y (w.registers Rdx) hb)))

  -- what is told after a call that took nothing
  cut : (s : State) (a : Answer) → AtLoop s → took s a ≡ [] →
      CutShort to line (Wrote (s.registers Rdi) (took s a) ∷ s.calls)
  cut s a h e = record {
    before = s.calls;
    last = ap (λ f. Wrote f (took s a) ∷ s.calls) h.output ∙ ap (λ bs. Wrote to bs ∷ s.calls) e;
    files = h.files;
    rest = bytes s.memory (s.registers Rsi) (s.registers Rdx);
    is = h.so_far;
    some = λ p.
        let n : length (bytes s.memory (s.registers Rsi) (s.registers Rdx)) ≡ s.registers Rdx =
        bytes_length s.memory (s.registers Rsi) (s.registers Rdx) in
        let q : 0 < s.registers Rdx = h.some p in
        omega (arith, n, q);
  }

  -- and after one that took some bytes
  taken_more : (s : State) (a : Answer) → AtLoop s → result a ≤ s.registers Rdx →
      line
      ≡ taken (Wrote (s.registers Rdi) (took s a) ∷ s.calls)
      ++ bytes s.memory (s.registers Rsi + result a) (s.registers Rdx - result a)
  taken_more s a h le =
      let from : ℕ = s.registers Rsi in
      let k : ℕ = s.registers Rdx in
      let x : ℕ = result a in
      let first : List ℕ = bytes s.memory from x in
      let last : List ℕ = bytes s.memory (from + x) (k - x) in
      let whole : x + (k - x) ≡ k = omega (arith, le) in
      let is : took s a ≡ first = ap (λ b. cond b first []) (le-leb x k le) in
      h.so_far ∙ ap (λ j. taken s.calls ++ bytes s.memory from j) (sym whole)
      ∙ ap (λ bs. taken s.calls ++ bs) (bytes_split s.memory from x (k - x))
      ∙ sym (append_assoc (taken s.calls) first last) ∙ ap (λ bs. (taken s.calls ++ bs) ++ last) (sym is)

  asks : (s : State) → AtLoop s → AllFit (Loop to status) → Standing m s.place (bytes_all (Loop to status)) →
      ((t : State) → t.registers Rdx < s.registers Rdx → AtLoop t → t.place ≡ s.place → Comes m world P E t) →
      Comes m world P E s
  asks s h f st back =
      let a : Answer = world (length s.calls) in
      let x : ℕ = result a in
      let from : ℕ = s.registers Rsi in
      let k : ℕ = s.registers Rdx in
      let y : ℕ = plus x (word (negsuc 0)) in
      let fifth : List Instr = Jcc B (pos 22) ∷ Skip to status in
      let third : List Instr = Lea Rcx (Based Rax (negsuc 0)) ∷ Arith Cmp Rcx (Reg Rdx) ∷ fifth in
      let lx : x < 2 ^ 64 = omega arith in
      let lk : k < 2 ^ 64 = h.fits in
      let s1 : State = moved s (s.place + 10) (with_register s.registers Rax 1) None in
      let s2 : State = called s1 (s1.place + 2) a in
      let s3 : State = moved s2 (s2.place + 7) (with_register s2.registers Rcx y) None in
      let s4 : State = moved s3 (s3.place + 3) s3.registers (Some (y, k)) in
      let end : s.place + length (bytes_all (Loop to status)) ≤ m.code_at + length m.code =
      room m s.place (bytes_all (Loop to status)) st (omega arith) in
      let head : s.place < 2 ^ 64 = omega (arith, end, small) in
      one_on m world P E s s1 (Const Rax 1) (Syscall ∷ third) f st (refl {a = Next s1}) (refl {a = s1.place})
      (λ f2 st2.
      one_on m world P E s1 s2 Syscall third f2 st2
      (calls_so m a s1 (s1.place + 2) to refl h.output file (are_data m from k h.within)) (refl {a = s2.place})
      (λ f3 st3.
      one_on m world P E s2 s3 (Lea Rcx (Based Rax (negsuc 0))) (Arith Cmp Rcx (Reg Rdx) ∷ fifth) f3 st3
      (refl {a = Next s3}) (refl {a = s3.place})
      (λ f4 st4.
      one_on m world P E s3 s4 (Arith Cmp Rcx (Reg Rdx)) fifth f4 st4 (refl {a = Next s4}) (refl {a = s4.place})
      (λ f5 st5.
      answered s4 s.place y (nat_lt y k) (refl {a = Some (y, k)}) (refl {a = nat_lt y k}) (omega arith) f5 st5
      (λ none. short s4.calls (cut s a h (took_none s.memory from x k lx none (nat_le x k) (refl {a = nat_le x k}))))
      (λ less f6 st6.
      let some = took_some x k lx lk less in
      let within = h.within (omega (arith, some.0, some.1)) in
      let v : State = moved s4 (s.place + 50) s4.registers None in
      let more = taken_more s a h some.1 in
      let files : AllTo to s4.calls = (h.output, h.files) in
      let sum : plus from x ≡ from + x = omega (arith, within.1, low, some.1) in
      let rest : minus k x ≡ k - x = omega (arith, some.0, some.1, lk) in
      goes_on v s.place (refl {a = v.place}) head some.0 some.1 lk f6 st6
      (λ last.
      let none : k - x ≡ 0 = omega (arith, last) in
      all s4.calls
      (files, sym (more ∙ ap (λ j. taken s4.calls ++ bytes s.memory (from + x) j) none ∙ append-nil (taken s4.calls))))
      (λ fewer.
      back (left v s.place) (omega (arith, rest, some.0, some.1))
      (record {
        output = h.output;
        fits = omega (arith, rest, lk);
        within = λ p. (omega (arith, sum, within.0), omega (arith, sum, rest, within.1, some.1));
        files = files;
        so_far =
            more ∙ ap (λ j. taken s4.calls ++ bytes s.memory j (k - x)) (sym sum)
            ∙ ap (λ j. taken s4.calls ++ bytes s.memory (plus from x) j) (sym rest);
        some = λ p. omega (arith, rest, fewer);
      })
      (refl {a = s.place})))))))

  pub loop : (fuel : ℕ) (s : State) → s.registers Rdx ≤ fuel → AtLoop s → AllFit (Loop to status) →
      Standing m s.place (bytes_all (Loop to status)) → Comes m world P E s
  loop zero s le h f st = asks s h f st (λ t less at p. absurd (omega (arith, less, le)))
  loop (suc fuel) s le h f st =
      asks s h f st
      (λ t less at p.
      loop fuel t (omega (arith, less, le)) at f
      (subst (λ a. Standing m a (bytes_all (Loop to status))) (sym p) st))

module _ (m : Image) (n : ℕ) (homes : ℕ → Home) (place : ℕ → ℕ) (blocks : List WSeq)
    (laid : IsLaid m n homes place blocks) (world : ℕ → Answer) where
  abbrev ready : Core → WRegs → ℕ → ℕ → ℕ → Core
  ready c r to ra rn = put (put (put c Rsi (r ra)) Rdx (r rn)) Rdi to

  written_runs : (to ra rn : ℕ) (r : WRegs) (mem : Memory) (c : Core) → ra < n → rn < n → AreHomes m mem n homes →
      Agrees m n homes r mem c → runs m (written homes to ra rn) c ≡ Some (ready c r to ra rn)
  written_runs to ra rn r mem c la ln hs a =
      let xs : List Instr = fetch Rsi (homes ra) in
      let ys : List Instr = fetch Rdx (homes rn) in
      let c1 : Core = put c Rsi (r ra) in
      let a1 : Agrees m n homes r mem c1 = agrees_spare Rsi c (r ra) refl hs a in
      let c2 : Core = put c1 Rdx (r rn) in
      let first : runs m xs c ≡ Some c1 =
      fetch_runs m mem Rsi (homes ra) c (hs.each ra la) ∙ ap (λ k. Some (put c Rsi k)) (a.registers ra la) in
      let second : runs m ys c1 ≡ Some c2 =
      fetch_runs m mem Rdx (homes rn) c1 (hs.each rn ln) ∙ ap (λ k. Some (put c1 Rdx k)) (a1.registers rn ln) in
      runs_then m (xs ++ ys) (Const Rdi to ∷ []) c c2 (runs_then m xs ys c c1 first ∙ second)

  -- statuses of failed writes have eight bits
  low_status : (to : ℕ) → (to ≡ 1) ⊎ (to ≡ 2) → write_failed to % 256 ≡ write_failed to
  low_status to (inl e) = ap (λ k. write_failed k % 256) e ∙ sym (ap write_failed e)
  low_status to (inr e) = ap (λ k. write_failed k % 256) e ∙ sym (ap write_failed e)

  -- a write in front of an exit
  writes_and_exits : (to ra rn status : ℕ) (r : WRegs) (mem : Memory) (bs : List ℕ) (s : State)
      (P : State → Type 0) (E : ℕ → List Call → Type 0) →
      ((calls : List Call) → AllWritten to bs calls → E (status % 256) calls) →
      ((calls : List Call) → CutShort to bs calls → E (write_failed to % 256) calls) →
      bytes_at mem (r ra) (r rn) ≡ Some bs →
      Stands m n homes place r mem [] (WThen (WWrite to ra rn) (WExit status)) s → Comes m world P E s
  writes_and_exits to ra rn status r mem bs s P E all short got h =
      let xs : List Instr = written homes to ra rn in
      let tail : List Instr = write_loop to in
      let rest : List Instr = leave status in
      let regroup : xs ++ tail ++ rest ≡ xs ++ (tail ++ rest) = append_assoc xs tail rest in
      let f : AllFit (xs ++ (tail ++ rest)) = subst AllFit regroup h.fits in
      let st : Standing m s.place (bytes_all (xs ++ (tail ++ rest))) =
      subst (λ q. Standing m s.place (bytes_all q)) regroup h.standing in
      let d : Core = ready (core s) r to ra rn in
      let wanted = all_bytes m n homes r mem (core s) h.agrees (r rn) (r ra) bs got in
      let size : (0 < r rn → r rn < 2 ^ 64) =
      λ p. let w = wanted.1 p in let low : m.data_end < 2 ^ 64 = laid.low in omega (arith, w.1, low) in
      stretch m world P E xs (tail ++ rest) s d f st
      (written_runs to ra rn r mem (core s) h.fine.0.1 h.fine.0.2 h.homes_are h.agrees)
      (λ u re f2 st2.
      let hdi : u.registers Rdi ≡ to = ap (λ (q : Core). q.registers Rdi) re.core_is in
      let hsi : u.registers Rsi ≡ r ra = ap (λ (q : Core). q.registers Rsi) re.core_is in
      let hdx : u.registers Rdx ≡ r rn = ap (λ (q : Core). q.registers Rdx) re.core_is in
      let same : u.memory ≡ s.memory = ap (λ (q : Core). q.memory) re.core_is in
      let none : u.calls ≡ [] = re.calls_are ∙ h.silent.1 in
      let stand : bytes u.memory (u.registers Rsi) (u.registers Rdx) ≡ bs =
      ap (λ x. bytes x (u.registers Rsi) (u.registers Rdx)) same
      ∙ ap (λ x. bytes s.memory x (u.registers Rdx)) hsi ∙ ap (λ x. bytes s.memory (r ra) x) hdx ∙ wanted.0 in
      loop m world laid.small laid.low to status bs h.fine.0.0 P E all short
      (λ k more t g e p. leaves m n homes place blocks laid world P E k more t g e p) (u.registers Rdx) u (omega arith)
      (record {
        output = hdi;
        fits = fits_by (r rn) size hdx;
        within = λ p.
            let w = wanted.1 (omega (arith, hdx, p)) in (omega (arith, w.0, hsi), omega (arith, w.1, hsi, hdx));
        files = subst (AllTo to) (sym none) tt;
        so_far = sym stand ∙ ap (λ c. taken c ++ bytes u.memory (u.registers Rsi) (u.registers Rdx)) (sym none);
        some = λ p.
            let is : length bs ≡ u.registers Rdx =
            ap length (sym stand) ∙ bytes_length u.memory (u.registers Rsi) (u.registers Rdx) in
            omega (arith, is, p);
      })
      f2 st2)
    where
      fits_by : {k : ℕ} (j : ℕ) → (0 < j → j < 2 ^ 64) → k ≡ j → k < 2 ^ 64
      fits_by zero h e = omega (arith, e)
      fits_by (suc j) h e = let lt = h (omega arith) in omega (arith, e, lt)

  pub write_comes : (to ra rn : ℕ) (c : WSeq) (r : WRegs) (mem : Memory) (log : List Written) (y : WState) (s : State) →
      Stands m n homes place r mem log (WThen (WWrite to ra rn) c) s →
      option_map (λ bs. WAt r mem (log ++ (Put to bs ∷ [])) c) (bytes_at mem (r ra) (r rn)) ≡ Some y →
      C m n homes place blocks laid world y s
  write_comes to ra rn (WExit status) r mem log y s h e =
      let got = mapped (λ bs. WAt r mem (log ++ (Put to bs ∷ [])) (WExit status)) (bytes_at mem (r ra) (r rn)) y e in
      let bs : List ℕ = got.0 in
      let out : List Written = Put to bs ∷ [] in
      let z : WState = WAt r mem out (WExit status) in
      let same : WAt r mem (log ++ out) (WExit status) ≡ z = ap (λ l. WAt r mem (l ++ out) (WExit status)) h.silent.0 in
      subst (λ x. C m n homes place blocks laid world x s) (sym same ∙ got.2)
      (writes_and_exits to ra rn status r mem bs s (Sim m n homes place z) (Over m n homes place blocks laid world z)
      (λ calls g. (status, out, (refl, refl), inl (refl, g)))
      (λ calls g. (status, out, (refl, refl), inr (low_status to h.fine.0.0, g))) got.1
      (subst (λ l. Stands m n homes place r mem l (WThen (WWrite to ra rn) (WExit status)) s) h.silent.0 h))
  write_comes to ra rn (WThen i c) r mem log y s h e = absurd h.fine.0.3
  write_comes to ra rn (WJump l) r mem log y s h e = absurd h.fine.0.3
  write_comes to ra rn (WGoto q) r mem log y s h e = absurd h.fine.0.3
