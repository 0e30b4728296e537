-- The machine follows the allocated program, where its code is so by the rules.
use Rattle.std.proofs.Common.{◌≡◌, ℕ, zero, suc, ◌+◌, ◌≤◌, ◌==◌, List, [], ◌∷◌, length, Option, Some, None, refl, sym}
use Rattle.std.proofs.Common.{ap, ◌∙◌, subst, arith, slice_get}
use Rattle.std.specs.Prelude.{ℤ, Bool, true, false, option_map, map, ◌||◌}
use Rattle.std.proofs.lemmas.Bool.{eqb-true, or_left, or_right}
use Rattle.std.proofs.lemmas.Option.{slice_get-map}
use Rattle.idx_core.specs.Arith.{is_zero}
use Rattle.a_terms.specs.Tree.{ATy, AVal, Apply, ATm, Let, Call, If0, Halt, ABlk, AProg, arity}
use Rattle.a_terms.specs.Meaning.{AWord, ZInt, ZTuple, ZLabel, AHeap, Result, Halted, Spent, Wrong, Made, Gives, Fails}
use Rattle.a_terms.specs.Meaning.{value, values, with_first, decl, made, halt_with, pick, branch, call_with, call_of}
use Rattle.a_terms.specs.Meaning.{term, push_all, enter, calls}
use Rattle.a_terms.specs.Typing.{declared, more_vars, types_of}
use Rattle.a_terms.specs.Bound.{thirds}
use Rattle.t_terms.specs.Tree as T
use Rattle.t_terms.specs.Tree.{TValue, TSeq, Then, Ends, TBlock}
use Rattle.t_rules.specs.Erase.{ERegs, ELabel, EAt, ESeq, EThen, EJmp, EHalt, base_word, erase_value, erase_seq}
use Rattle.t_rules.specs.Erase.{erase_block}
use Rattle.t_gen_rules.specs.Gen.{reg, place, used, tvars, rows}
use Rattle.t_gen_laws.specs.Counting.{one, count, first_of, times_among, share_of, share, credit}
use Rattle.t_gen_laws.specs.Rules.{Held, holding, operands, Comes, InOrder, Code, IsBlock}
use Rattle.t_gen_laws.proofs.Leads.{LState, On, lstep, after, Leads, Moves, leads_on, leads_step, moves_step}
use Rattle.t_gen_laws.proofs.Lift.{HaltsAt}
use Rattle.t_gen_laws.proofs.Words.{scope, word, heap, Agree, Fits, agree_fewer, agree_stay, fits_start}
use Rattle.t_gen_laws.proofs.Decls.{at, Moved, Does, OK, decl_runs, moves_run, reads_this}
use Rattle.t_gen_laws.proofs.Covers.{length_rows}

-- values in registers one after another
abbrev Holds : ERegs → ℕ → List AWord → Type 0
Holds ρ t [] = Unit {0}
Holds ρ t (w ∷ ws) = (ρ t ≡ Some (word w)) × Holds ρ (suc t) ws

-- what a list of values comes from
split_values : (a : Option AWord) (b : Option (List AWord)) (ws : List AWord) → with_first a b ≡ Some ws →
    (w : AWord) × (us : List AWord) × (a ≡ Some w) × (b ≡ Some us) × (ws ≡ w ∷ us)
split_values None b ws e = cc
split_values (Some w) None ws e = cc
split_values (Some w) (Some us) ws e = (w, us, refl, refl, cc)

order_holds : (ρ : ERegs) (c : Held) (env : List AWord) → Fits ρ c env → (vs : List AVal) (ws : List AWord) (j : ℕ) →
    InOrder c j vs → values env vs ≡ Some ws → Holds ρ j ws
order_holds ρ c env fits [] ws j o e = let n : [] ≡ ws = cc in subst (Holds ρ j) n tt
order_holds ρ c env fits (v ∷ vs) ws j o e =
    let s = split_values (value env v) (values env vs) ws e in
    subst (Holds ρ j) (sym s.4)
    (reads_this ρ c env fits v (reg j) s.0 o.0 s.2, order_holds ρ c env fits vs s.1 (suc j) o.1 s.3)

-- arguments in the registers from 1 on are the environment of the block
abbrev Push : ERegs → List AWord → Type 0
Push ρ env = Agree ρ (rows (length env)) env (λ n. true)

push_more : (ρ : ERegs) (ws env : List AWord) → Push ρ env → Holds ρ (suc (length env)) ws → Push ρ (push_all ws env)
push_more ρ [] env a b = a
push_more ρ (w ∷ ws) env a b = push_more ρ ws (w ∷ env) go b.1
  where
    go : (n : ℕ) (x : AWord) → true ≡ true → slice_get (w ∷ env) n ≡ Some x →
        ρ (place (rows (suc (length env))) n) ≡ Some (word x)
    go zero x y e = b.0 ∙ ap (option_map word) e
    go (suc n) x y e = a n x y e

agree_push : (ρ : ERegs) (ws : List AWord) → Holds ρ 1 ws → Push ρ (push_all ws [])
agree_push ρ ws h = push_more ρ ws [] (λ n w y x. absurd (none_at n w x)) h
  where
    none_at : (n : ℕ) (w : AWord) → slice_get [] n ≡ Some w → ⊥
    none_at n w x = cc

length_push_all : (ws env : List AWord) → length (push_all ws env) ≡ length ws + length env
length_push_all [] env = omega arith
length_push_all (w ∷ ws) env = length_push_all ws (w ∷ env) ∙ omega arith

pub spare_add : (k b n m : ℕ) → times_among k b (n + m) ≡ times_among k b n + times_among k (b + n) m
spare_add k b zero m =
    let x : m ≡ 0 + m = omega arith in
    let y : b ≡ b + 0 = omega arith in
    let z = ap (λ i. times_among k i m) y in
    let u : times_among k b (0 + m) ≡ times_among k b m = ap (times_among k b) (sym x) in
    omega (arith, z, u)
spare_add k b (suc n) m =
    let x : suc n + m ≡ suc (n + m) = omega arith in
    let y : suc b + n ≡ b + suc n = omega arith in
    let z : times_among k (suc b + n) m ≡ times_among k (b + suc n) m = ap (λ i. times_among k i m) y in
    let u : times_among k b (suc n + m) ≡ times_among k b (suc (n + m)) = ap (times_among k b) x in
    let r = spare_add k (suc b) n m in
    omega (arith, z, u, r)

abbrev pub entered : LState → List ℕ
entered (On e log) = log

pub record Halts (B : List ESeq) (k : ℕ) (limit : List ℕ → ℕ) (s : LState) (i : ℤ) (log : List ℕ) : Type 0 where
  pub steps : ℕ
  pub state : LState
  pub runs : after B steps s ≡ Some state
  pub answers : HaltsAt state i
  pub counted : count k (entered state) ≤ limit log

-- at a call
abbrev pub IsCalling : LState → Type 0
IsCalling (On (EAt h ρ (EJmp b)) log) = Unit {0}
IsCalling (On (EAt h ρ (EThen i c)) log) = ⊥
IsCalling (On (EAt h ρ EHalt) log) = ⊥

pub record Goes (B : List ESeq) (k : ℕ) (limit : List ℕ → ℕ) (s : LState) (c : ℕ) (log : List ℕ) : Type 0 where
  pub steps : ℕ
  pub many : c ≤ steps
  pub state : LState
  pub runs : after B steps s ≡ Some state
  pub calls_next : IsCalling state
  pub counted : count k (entered state) ≤ limit log

-- what a result with c calls allowed says of the machine
abbrev pub Follows : List ESeq → ℕ → (List ℕ → ℕ) → LState → ℕ → Result → Type 0
Follows B k limit s c (Halted i log) = Halts B k limit s i log
Follows B k limit s c (Spent log) = Goes B k limit s c log
Follows B k limit s c (Wrong log) = Unit {0}

module _ (B : List ESeq) (k : ℕ) (limit : List ℕ → ℕ) where
  follows_on : (s t : LState) (c : ℕ) (r : Result) → Leads B s t → Follows B k limit t c r → Follows B k limit s c r
  follows_on s t c (Halted i log) l f =
      let a = l.by f.steps in
      record { steps = a.0; state = f.state; runs = a.2 ∙ f.runs; answers = f.answers; counted = f.counted }
  follows_on s t c (Spent log) l f =
      let a = l.by f.steps in
      record {
        steps = a.0;
        many = omega (arith, a.1, f.many);
        state = f.state;
        runs = a.2 ∙ f.runs;
        calls_next = f.calls_next;
        counted = f.counted;
      }
  follows_on s t c (Wrong log) l f = tt

  follows_move : (s t : LState) (c : ℕ) (r : Result) → Moves B s t → Follows B k limit t c r →
      Follows B k limit s (suc c) r
  follows_move s t c (Halted i log) l f =
      let a = l.by f.steps in
      record { steps = a.0; state = f.state; runs = a.2 ∙ f.runs; answers = f.answers; counted = f.counted }
  follows_move s t c (Spent log) l f =
      let a = l.by f.steps in
      record {
        steps = a.0;
        many = omega (arith, a.1, f.many);
        state = f.state;
        runs = a.2 ∙ f.runs;
        calls_next = f.calls_next;
        counted = f.counted;
      }
  follows_move s t c (Wrong log) l f = tt

  on_made : (s : LState) (c : ℕ) (log : List ℕ) (tlog : List ℕ) (l : List ℕ) (r : ℕ) (e : ATm) (ρ : ERegs)
      (env : List AWord) (h : AHeap) (is rest : TSeq) (m : Made) (go : AWord → AHeap → Result) →
      OK B tlog l r e ρ h env is rest m → ((w : AWord) (h2 : AHeap) → Does B tlog l r e ρ h env is rest w h2 →
      Follows B k limit s c (go w h2)) → Follows B k limit s c (made m log go)
  on_made s c log tlog l r e ρ env h is rest (Gives w h2) go ok f = f w h2 ok
  on_made s c log tlog l r e ρ env h is rest Fails go ok f = tt

  on_halt : (s : LState) (c : ℕ) (log : List ℕ) (o : Option AWord) →
      ((i : ℤ) → o ≡ Some (ZInt i) → Halts B k limit s i log) → Follows B k limit s c (halt_with o log)
  on_halt s c log None f = tt
  on_halt s c log (Some (ZInt i)) f = f i refl
  on_halt s c log (Some (ZTuple a)) f = tt
  on_halt s c log (Some (ZLabel l)) f = tt

  on_branch : (s : LState) (c : ℕ) (log : List ℕ) (o : Option AWord) (a b : Result) →
      ((i : ℤ) → o ≡ Some (ZInt i) → Follows B k limit s c (pick (is_zero i) a b)) →
      Follows B k limit s c (branch o log a b)
  on_branch s c log None a b f = tt
  on_branch s c log (Some (ZInt i)) a b f = f i refl
  on_branch s c log (Some (ZTuple p)) a b f = tt
  on_branch s c log (Some (ZLabel l)) a b f = tt

  on_pick : (s : LState) (c : ℕ) (z : Bool) (a b : Result) → (z ≡ true → Follows B k limit s c a) →
      (z ≡ false → Follows B k limit s c b) → Follows B k limit s c (pick z a b)
  on_pick s c true a b f g = f refl
  on_pick s c false a b f g = g refl

  on_call : (s : LState) (c : ℕ) (log : List ℕ) (o : Option AWord) (go : ℕ → Result) →
      ((l : ℕ) → o ≡ Some (ZLabel l) → Follows B k limit s c (go l)) → Follows B k limit s c (call_of o log go)
  on_call s c log None go f = tt
  on_call s c log (Some (ZInt i)) go f = tt
  on_call s c log (Some (ZTuple a)) go f = tt
  on_call s c log (Some (ZLabel l)) go f = f l refl

  on_args : (s : LState) (c : ℕ) (log : List ℕ) (o : Option (List AWord)) (go : List AWord → Result) →
      ((ws : List AWord) → o ≡ Some ws → Follows B k limit s c (go ws)) → Follows B k limit s c (call_with o log go)
  on_args s c log None go f = tt
  on_args s c log (Some ws) go f = f ws refl

  on_enter : (s : LState) (c : ℕ) (log : List ℕ) (n : ℕ) (o : Option ABlk) (go : ABlk → Result) →
      ((b : ABlk) → o ≡ Some b → arity b.args ≡ n → Follows B k limit s c (go b)) →
      Follows B k limit s c (enter o n log go)
  on_enter s c log n None go f = tt
  on_enter s c log n (Some b) go f =
      on_pick s c (arity b.args == n) (go b) (Wrong log) (λ e. f b refl (eqb-true (arity b.args) n e)) (λ e. tt)

-- where a block of the program stands among the erased ones
erased_at : (P : List TBlock) (n : ℕ) (b : TBlock) → slice_get P n ≡ Some b →
    slice_get (map erase_block P) n ≡ Some (erase_seq b.code)
erased_at P n b e = slice_get-map erase_block P n ∙ ap (option_map erase_block) e

-- what is known of a program by the rules
pub record Laid (p : AProg) (P : List TBlock) (at0 : ℕ) : Type 0 where
  pub blocks : (l : ℕ) (b : ABlk) → slice_get p.blocks l ≡ Some b →
      IsBlock P p b (suc l) (first_of p.blocks at0 l)

module _ (p : AProg) (P : List TBlock) (at0 k main : ℕ) (laid : Laid p P at0) where
  abbrev B : List ESeq
  B = map erase_block P

  abbrev limit : List ℕ → ℕ
  limit = credit p.blocks at0 k main

  -- what a call of the allocated program says of the machine at its jump
  abbrev Next-runs : ℕ → Type 0
  Next-runs c =
      (l : ℕ) (ws : List AWord) (h : AHeap) (log : List ℕ) (ρ : ERegs) (x : TValue) (tlog : List ℕ) →
      base_word ρ (erase_value x) ≡ Some (ELabel (suc l)) → Holds ρ 1 ws → count k tlog ≤ limit log →
      Follows B k limit (at (heap h) ρ (Ends (T.Jmp x)) tlog) c (calls p.blocks c l ws h log)

  -- the moves before an instruction
  moved : (m : List ℕ) (e : ATm) (is next : TSeq) (h : AHeap) (tlog : List ℕ) (env : List AWord) (ρ : ERegs) →
      length m ≡ length env → Agree ρ m env (used e) → (c : Comes m e is next) →
      Moved B (heap h) tlog env ρ c.held is next
  moved m e is next h tlog env ρ long agree c =
      let starts = fits_start ρ m env (used e) long agree in
      let r = moves_run B (heap h) tlog env next c.moves (operands e) (holding 0 m (used e)) c.held ρ starts c.brings in
      record {
        regs = r.regs;
        leads = subst (λ z. Leads B (at (heap h) ρ z tlog) (at (heap h) r.regs next tlog)) (sym c.first) r.leads;
        fits = r.fits;
      }

  module _ (c : ℕ) (ih : Next-runs c) where
    pub term_runs : (e : ATm) (is : TSeq) (env : List AWord) (tv n : ℕ) (m : List ℕ) (g : List ATy) (h : AHeap)
        (log : List ℕ) (ρ : ERegs) (tlog : List ℕ) → Code (scope P p tv m g) n e is → length m ≡ length env →
        Agree ρ m env (used e) → count k tlog + times_among k n (thirds e) ≤ limit log →
        Follows B k limit (at (heap h) ρ is tlog) c (term (calls p.blocks c) e env h log)
    term_runs (Let x e) is env tv n m g h log ρ tlog (d, more) long agree le =
        let s = at (heap h) ρ is tlog in
        let r = d.register in
        let a = moved m (Let x e) is d.next h tlog env ρ long agree d.comes in
        let held = d.comes.held in
        let ok = decl_runs B tlog m r e a.regs h env held d.next d.rest long a.fits d.kept x d.spare d.declares in
        on_made B k limit s c log tlog m r e a.regs env h d.next d.rest (decl x env h) _ ok (λ w h2 f.
        follows_on B k limit s (at (heap h2) f.regs d.rest tlog) c _ (leads_on B _ _ _ a.leads f.leads)
        (term_runs e d.rest (w ∷ env) (more_vars x tv) n (r ∷ m) (declared p g x) h2 log f.regs tlog more (ap suc long)
        f.agree le))
    term_runs (Call v ts vs) is env tv n m g h log ρ tlog d long agree le =
        let s = at (heap h) ρ is tlog in
        let y = d.target in
        on_call B k limit s c log (value env v) _ (λ l x. on_args B k limit s c log (values env vs) _ (λ ws z.
        let a = moved m (Call v ts vs) is (Ends (T.Jmp y)) h tlog env ρ long agree d.comes in
        let goes = reads_this a.regs d.comes.held env a.fits (Apply v ts) y (ZLabel l) d.called x in
        let holds = order_holds a.regs d.comes.held env a.fits vs ws 1 d.arguments z in
        follows_on B k limit s (at (heap h) a.regs (Ends (T.Jmp y)) tlog) c _ a.leads
        (ih l ws h log a.regs y tlog goes holds (omega (arith, le)))))
    term_runs (If0 v a b) is env tv n m g h log ρ tlog (d, code_a, code_b) long agree le =
        let s = at (heap h) ρ is tlog in
        let second = d.second in
        let third = d.third in
        let jumps = T.Bnz d.tested (T.Plain (T.Label n) (tvars tv)) in
        let erased = erased_at P n third d.found in
        let sum = spare_add k (suc n) (thirds a) (thirds b) in
        on_branch B k limit s c log (value env v) (term (calls p.blocks c) a env h log)
        (term (calls p.blocks c) b env h log) (λ i x.
        let t = moved m (If0 v a b) is (Then jumps second) h tlog env ρ long agree d.comes in
        let here = reads_this t.regs d.comes.held env t.fits v (reg d.tested) (ZInt i) d.tests x in
        let kept = agree_stay t.regs d.comes.held m env (λ j. used a j || used b j) long t.fits d.kept in
        on_pick B k limit s c (is_zero i) _ _
        (λ z.
        let st : lstep B (at (heap h) t.regs (Then jumps second) tlog) ≡ Some (at (heap h) t.regs second tlog) =
        rw (here, z) refl in
        let kept_a = agree_fewer t.regs m env (λ j. used a j || used b j) (used a)
        (λ j y. or_left (used a j) (used b j) y)
        kept in
        follows_on B k limit s (at (heap h) t.regs second tlog) c _ (leads_on B _ _ _ t.leads (leads_step B _ _ st))
        (term_runs a second env tv (suc n) m g h log t.regs tlog code_a long kept_a (omega (arith, sum, le))))
        (λ z.
        let st : lstep B (at (heap h) t.regs (Then jumps second) tlog) ≡ Some
        (at (heap h) t.regs third.code (n ∷ tlog)) =
        rw (here, z, erased) refl in
        let kept_b = agree_fewer t.regs m env (λ j. used a j || used b j) (used b)
        (λ j y. or_right (used a j) (used b j) y)
        kept in
        let one_is : count k (n ∷ tlog) + times_among k (suc n + thirds a) (thirds b) ≤ limit log =
        omega (arith, sum, le) in
        follows_on B k limit s (at (heap h) t.regs third.code (n ∷ tlog)) c _
        (leads_on B _ _ _ t.leads (leads_step B _ _ st))
        (term_runs b third.code env tv (suc n + thirds a) m g h log t.regs (n ∷ tlog) code_b long kept_b one_is)))
    term_runs (Halt v) is env tv n m g h log ρ tlog d long agree le =
        let s = at (heap h) ρ is tlog in
        on_halt B k limit s c log (value env v) (λ i x.
        let a = moved m (Halt v) is (Ends T.Halt) h tlog env ρ long agree d.comes in
        let j = a.leads.by 0 in
        record {
          steps = j.0;
          state = at (heap h) a.regs (Ends T.Halt) tlog;
          runs = j.2;
          answers = reads_this a.regs d.comes.held env a.fits v (reg 1) (ZInt i) d.answer x;
          counted = omega arith;
        })

  pub calls_run : (c : ℕ) → Next-runs c
  calls_run zero l ws h log ρ x tlog lab holds le =
      on_enter B k limit (at (heap h) ρ (Ends (T.Jmp x)) tlog) zero log (length ws) (slice_get p.blocks l) _
      (λ b there n. record {
        steps = 0;
        many = omega arith;
        state = at (heap h) ρ (Ends (T.Jmp x)) tlog;
        runs = refl;
        calls_next = tt;
        counted = le;
      })
  calls_run (suc c) l ws h log ρ x tlog lab holds le =
      let s = at (heap h) ρ (Ends (T.Jmp x)) tlog in
      on_enter B k limit s (suc c) log (length ws) (slice_get p.blocks l) _ (λ b there n.
      let first = first_of p.blocks at0 l in
      let is = laid.blocks l b there in
      let block = is.block in
      let erased = erased_at P (suc l) block is.found in
      let stepped : lstep B s ≡ Some (at (heap h) ρ block.code (suc l ∷ tlog)) = rw (lab, erased) refl in
      let env = push_all ws [] in
      let len : length env ≡ arity b.args = length_push_all ws [] ∙ omega (arith, n) in
      let pushed = subst (λ d. Agree ρ (rows d) env (λ j. true)) len (agree_push ρ ws holds) in
      let agree = agree_fewer ρ (rows (arity b.args)) env (λ j. true) (used b.body) (λ j y. refl) pushed in
      let sp : share p.blocks at0 k l ≡ one (k == suc l) + times_among k first (thirds b.body) =
      ap (share_of k l first) there in
      let long = length_rows (arity b.args) ∙ sym len in
      let body = term_runs c (calls_run c) b.body block.code env b.owes first (rows (arity b.args))
      (types_of b.args []) h
      (l ∷ log) ρ (suc l ∷ tlog) is.code long agree (omega (arith, sp, le)) in
      follows_move B k limit s (at (heap h) ρ block.code (suc l ∷ tlog)) c _ (moves_step B s _ stepped) body)
