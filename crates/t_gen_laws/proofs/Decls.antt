-- Moves bring the operands of an instruction, and the instruction of a declaration leaves its value in its register.
use Rattle.std.proofs.Common.{◌≡◌, ℕ, zero, suc, ◌-◌, ◌<◌, List, [], ◌∷◌, ◌++◌, length, Option, Some, None, refl, sym}
use Rattle.std.proofs.Common.{ap, ◌∙◌, subst, arith, cond, slice_get, slice_set, lt-ltb, inl, inr}
use Rattle.std.specs.Prelude.{ℤ, option_map, replicate, Bool, true, false, nat_eq}
use Rattle.std.proofs.lemmas.Option.{slice_get-map, slice_get_within}
use Rattle.std.proofs.lemmas.List.{length-map, map-append, map-set}
use Rattle.idx_core.specs.declared.arith.Op.{Op}
use Rattle.idx_core.specs.Arith.{compute}
use Rattle.a_terms.specs.Tree.{AVal, Var, Num, Lab, Data, Apply, Pack, ADecl, Value, Proj, Arith, Unpack, Malloc, Init}
use Rattle.a_terms.specs.Tree.{ATm}
use Rattle.a_terms.specs.Meaning.{AWord, ZInt, ZTuple, ZLabel, AHeap, Made, Gives, Fails, value, decl, number, address}
use Rattle.a_terms.specs.Meaning.{given, at_field, empties}
use Rattle.t_types.specs.Tree.{Ty}
use Rattle.t_terms.specs.Tree as T
use Rattle.t_terms.specs.Tree.{TValue, TInstr, TSeq, Then}
use Rattle.t_terms.specs.Registers.{with_reg}
use Rattle.t_rules.specs.Machine.{Next}
use Rattle.t_rules.specs.Erase.{EWord, EInt, EAddress, EEmpty, EHeap, ERegs, EAt, EStep, EGoes, ESeq, erase_seq}
use Rattle.t_rules.specs.Erase.{erase_value, base_word, on_full}
use Rattle.t_gen_rules.specs.Gen.{tys, reg, place, applied_to, used}
use Rattle.t_gen_laws.specs.Rules.{Held, InRegister, Reads, Move, before, Brings, Stay, Spare, Declares, Writes}
use Rattle.t_gen_laws.proofs.Leads.{LState, On, lstep, logged, Leads, leads_none, leads_on, leads_step}
use Rattle.t_gen_laws.proofs.Words.{word, slot, tuple, heap, tuple_empties, get_same, get_other, Agree, Fits}
use Rattle.t_gen_laws.proofs.Words.{agree_next}

pub applied_base : (v : TValue) (ts : List Ty) → erase_value (applied_to v ts) ≡ erase_value v
applied_base (T.Plain b us) ts = refl
applied_base (T.Pack h v s) ts = refl

-- the machine before the instructions
abbrev pub at : EHeap → ERegs → TSeq → List ℕ → LState
at h ρ is log = On (EAt h ρ (erase_seq is)) log

-- the word of what reads as a value
abbrev pub HasWord : ERegs → List AWord → AVal → TValue → Type 0
HasWord ρ env v y = (w : AWord) × (value env v ≡ Some w) × (base_word ρ (erase_value y) ≡ Some (word w))

module _ (ρ : ERegs) (c : Held) (env : List AWord) (fits : Fits ρ c env) where
  register_word : (v : AVal) (y : TValue) → InRegister c v y → HasWord ρ env v y
  register_word v y s =
      let f = fits s.0 v s.2 in
      (f.0, f.1, ap (λ z. base_word ρ (erase_value z)) s.1 ∙ f.2)

  pub reads_word : (v : AVal) (y : TValue) → Reads c v y → HasWord ρ env v y
  reads_word (Var n) y s = register_word (Var n) y s
  reads_word (Num i) y (inl s) = register_word (Num i) y s
  reads_word (Num i) y (inr e) = (ZInt i, refl, ap (λ z. base_word ρ (erase_value z)) e)
  reads_word (Lab l) y (inl s) = register_word (Lab l) y s
  reads_word (Lab l) y (inr e) = (ZLabel l, refl, ap (λ z. base_word ρ (erase_value z)) e)
  reads_word (Data n) y (inl s) = register_word (Data n) y s
  reads_word (Data n) y (inr e) = (ZTuple n, refl, ap (λ z. base_word ρ (erase_value z)) e)
  reads_word (Apply v ts) y (inl s) = register_word (Apply v ts) y s
  reads_word (Apply v ts) y (inr (x, s, e)) =
      let r = reads_word v x s in
      let same = ap erase_value e ∙ applied_base x (tys ts) in
      (r.0, r.1, ap (base_word ρ) same ∙ r.2)
  reads_word (Pack a v b) y (inl s) = register_word (Pack a v b) y s
  reads_word (Pack a v b) y (inr (x, s, plain, e)) =
      let r = reads_word v x s in
      (r.0, r.1, ap (λ z. base_word ρ (erase_value z)) e ∙ r.2)

  -- where the value's word is known
  pub reads_this : (v : AVal) (y : TValue) (w : AWord) → Reads c v y → value env v ≡ Some w →
      base_word ρ (erase_value y) ≡ Some (word w)
  reads_this v y w s e =
      let r = reads_word v y s in
      r.2 ∙ ap (option_map word) (sym r.1 ∙ e)

-- a register is written on both sides
fits_write : (ρ : ERegs) (c : Held) (env : List AWord) (r : ℕ) (v : AVal) (w : AWord) → Fits ρ c env →
    value env v ≡ Some w → Fits (with_reg ρ r (word w)) (with_reg c r v) env
fits_write ρ c env r v w fits is q z = go (nat_eq r q)
  where
    go : (b : Bool) → cond b (Some v) (c q) ≡ Some z →
        (x : AWord) × (value env z ≡ Some x) × (cond b (Some (word w)) (ρ q) ≡ Some (word x))
    go true e = let same : v ≡ z = cc in (w, ap (value env) (sym same) ∙ is, refl)
    go false e = fits q z e

-- moves lead on to what comes after them
pub record Moved (B : List ESeq) (h : EHeap) (log : List ℕ) (env : List AWord) (ρ : ERegs) (d : Held) (is next : TSeq) :
    Type 0 where
  pub regs : ERegs
  pub leads : Leads B (at h ρ is log) (at h regs next log)
  pub fits : Fits regs d env

pub moves_run : (B : List ESeq) (h : EHeap) (log : List ℕ) (env : List AWord) (next : TSeq) (ms : List Move)
    (ws : List AVal) (c d : Held)
    (ρ : ERegs) → Fits ρ c env → Brings ws c ms d → Moved B h log env ρ d (before ms next) next
moves_run B h log env next [] ws c d ρ fits e =
    record { regs = ρ; leads = leads_none B _; fits = subst (λ z. Fits ρ z env) e fits }
moves_run B h log env next (x ∷ ms) ws c d ρ fits (v, part, s, more) =
    let r = reads_word ρ c env fits v x.value s in
    let σ = with_reg ρ x.to (word r.0) in
    let step : lstep B (at h ρ (Then (T.Mov x.to x.value) (before ms next)) log) ≡ Some (at h σ (before ms next) log) =
    ap (λ o. option_map (logged log) (option_map (λ w. EGoes Next
    (EAt h (with_reg ρ x.to w) (erase_seq (before ms next)))) o))
    r.2 in
    let rest = moves_run B h log env next ms ws (with_reg c x.to v) d σ (fits_write ρ c env x.to v r.0 fits r.1) more in
    record { regs = rest.regs; leads = leads_on B _ _ _ (leads_step B _ _ step) rest.leads; fits = rest.fits }

-- the instructions lead from is to rest, with w in the register r of the variable that is declared, where e is the rest
pub record Does (B : List ESeq) (log : List ℕ) (m : List ℕ) (r : ℕ) (e : ATm) (ρ : ERegs) (h : AHeap)
    (env : List AWord) (is rest : TSeq) (w : AWord) (h2 : AHeap) : Type 0 where
  pub regs : ERegs
  pub leads : Leads B (at (heap h) ρ is log) (at (heap h2) regs rest log)
  pub agree : Agree regs (r ∷ m) (w ∷ env) (used e)

-- what a declaration's code has to do, where it has a value
abbrev pub OK : List ESeq → List ℕ → List ℕ → ℕ → ATm → ERegs → AHeap → List AWord → TSeq → TSeq → Made → Type 0
OK B log m r e ρ h env is rest (Gives w h2) = Does B log m r e ρ h env is rest w h2
OK B log m r e ρ h env is rest Fails = Unit {0}

full_word : (w : AWord) (go : EWord → Option EStep) → on_full (Some (word w)) go ≡ go (word w)
full_word (ZInt i) go = refl
full_word (ZTuple a) go = refl
full_word (ZLabel l) go = refl

module _ (B : List ESeq) (log : List ℕ) where
  arith_step : (h : EHeap) (ρ : ERegs) (rest : TSeq) (o : Op) (rd rs : ℕ) (x2 : TValue) (a b : ℤ) →
      ρ rs ≡ Some (EInt a) → base_word ρ (erase_value x2) ≡ Some (EInt b) →
      lstep B (at h ρ (Then (T.Arith o rd rs x2) rest) log)
      ≡ Some (at h (with_reg ρ rd (EInt (compute o a b))) rest log)
  arith_step h ρ rest o rd rs x2 a b x y = rw (x, y) refl

  ld_step : (h : EHeap) (ρ : ERegs) (rest : TSeq) (rd rs i a : ℕ) (t : List EWord) (w : AWord) →
      ρ rs ≡ Some (EAddress a) → slice_get h a ≡ Some t → slice_get t i ≡ Some (word w) →
      lstep B (at h ρ (Then (T.Ld rd rs i) rest) log) ≡ Some (at h (with_reg ρ rd (word w)) rest log)
  ld_step h ρ rest rd rs i a t w x y z =
      rw (x, y, z)
      (ap (option_map (logged log))
      (full_word w (λ v. Some (EGoes Next (EAt h (with_reg ρ rd v) (erase_seq rest))))))

  st_step : (h : EHeap) (ρ : ERegs) (rest : TSeq) (rd rs i a : ℕ) (t : List EWord) (w : EWord) →
      ρ rd ≡ Some (EAddress a) → ρ rs ≡ Some w → slice_get h a ≡ Some t → i < length t →
      lstep B (at h ρ (Then (T.St rd i rs) rest) log) ≡ Some (at (slice_set h a (slice_set t i w)) ρ rest log)
  st_step h ρ rest rd rs i a t w x y z lt = let b = lt-ltb i (length t) lt in rw (x, z, y, b) refl

  unpack_step : (h : EHeap) (ρ : ERegs) (rest : TSeq) (rd : ℕ) (v : TValue) (w : EWord) →
      base_word ρ (erase_value v) ≡ Some w → lstep B (at h ρ (Then (T.Unpack rd v) rest) log)
      ≡ Some (at h (with_reg ρ rd w) rest log)
  unpack_step h ρ rest rd v w x = rw x refl

  module _ (m : List ℕ) (r : ℕ) (e : ATm) (ρ : ERegs) (env : List AWord) (h : AHeap) (is rest : TSeq) where
    ok_given : {A : Type 0} (o : Option A) (f : A → Made) → ((x : A) → o ≡ Some x →
        OK B log m r e ρ h env is rest (f x)) → OK B log m r e ρ h env is rest (given o f)
    ok_given None f k = tt
    ok_given (Some x) f k = k x refl

    ok_number : (o : Option AWord) (f : ℤ → Made) → ((x : ℤ) → o ≡ Some (ZInt x) →
        OK B log m r e ρ h env is rest (f x)) → OK B log m r e ρ h env is rest (number o f)
    ok_number None f k = tt
    ok_number (Some (ZInt i)) f k = k i refl
    ok_number (Some (ZTuple a)) f k = tt
    ok_number (Some (ZLabel l)) f k = tt

    ok_address : (o : Option AWord) (f : ℕ → Made) → ((x : ℕ) → o ≡ Some (ZTuple x) →
        OK B log m r e ρ h env is rest (f x)) → OK B log m r e ρ h env is rest (address o f)
    ok_address None f k = tt
    ok_address (Some (ZInt i)) f k = tt
    ok_address (Some (ZTuple a)) f k = k a refl
    ok_address (Some (ZLabel l)) f k = tt

    ok_field : (i : ℕ) (f : ℕ → Made) → ((j : ℕ) → i ≡ suc j → OK B log m r e ρ h env is rest (f j)) →
        OK B log m r e ρ h env is rest (at_field i f)
    ok_field zero f k = tt
    ok_field (suc i) f k = k i refl

  field_at : (h : AHeap) (a j : ℕ) (t : List (Option AWord)) (f : Option AWord) → slice_get h a ≡ Some t →
      slice_get t j ≡ Some f →
      (slice_get (heap h) a ≡ Some (tuple t)) × (slice_get (tuple t) j ≡ Some (slot f))
  field_at h a j t f x y =
      (slice_get-map tuple h a ∙ ap (option_map tuple) x, slice_get-map slot t j ∙ ap (option_map slot) y)

  module _ (m : List ℕ) (r : ℕ) (e : ATm) (ρ : ERegs) (h : AHeap) (env : List AWord) (c : Held) (is rest : TSeq)
      (long : length m ≡ length env) (fits : Fits ρ c env) (stay : Stay m (λ n. used e (suc n)) c) where
    abbrev u : ℕ → Bool
    u n = used e (suc n)

    -- an instruction that writes the register of the new variable
    writes : (i : TInstr) (w : AWord) (h2 : AHeap) → is ≡ Then i rest → Spare m u r →
        lstep B (at (heap h) ρ (Then i rest) log) ≡ Some (at (heap h2) (with_reg ρ r (word w)) rest log) →
        Does B log m r e ρ h env is rest w h2
    writes i w h2 is_it spare s =
        let σ = with_reg ρ r (word w) in
        record {
          regs = σ;
          leads = subst (λ z. Leads B (at (heap h) ρ z log) (at (heap h2) σ rest log)) (sym is_it) (leads_step B _ _ s);
          agree = agree_next ρ σ c m env (used e) r w long fits stay (get_same ρ r (word w))
              (λ n y lt. get_other ρ r (place m n) (word w) (λ z. absurd (spare n y lt z)));
        }

    pub decl_runs : (x : ADecl) → (Writes x → Spare m u r) → Declares c r x is rest →
        OK B log m r e ρ h env is rest (decl x env h)
    decl_runs (Value v) spare (same, here) = ok_given m r e ρ env h is rest (value env v) _ (λ w x. record {
      regs = ρ;
      leads = subst (λ z. Leads B (at (heap h) ρ is log) (at (heap h) ρ z log)) same (leads_none B _);
      agree = agree_next ρ ρ c m env (used e) r w long fits stay (reads_this ρ c env fits v (reg r) w here x)
          (λ n y lt. refl);
    })
    decl_runs (Proj i v) spare (q, is_it, here) =
        ok_address m r e ρ env h is rest (value env v) _ (λ a x. ok_field m r e ρ env h is rest i _ (λ j z.
        ok_given m r e ρ env h is rest (slice_get h a) _ (λ t y. ok_given m r e ρ env h is rest (slice_get t j) _
        (λ f o.
        ok_given m r e ρ env h is rest f _ (λ w p.
        let s = field_at h a j t f y o in
        let n : j ≡ i - 1 = omega (arith, z) in
        let there = subst (λ k. slice_get (tuple t) k ≡ Some (word w)) n (s.1 ∙ ap (λ o. Some (slot o)) p) in
        let tuple_here = reads_this ρ c env fits v (reg q) (ZTuple a) here x in
        writes (T.Ld r q (i - 1)) w h is_it (spare tt)
        (ld_step (heap h) ρ rest r q (i - 1) a (tuple t) w tuple_here s.0 there))))))
    decl_runs (Arith o v v2) spare (q, y2, is_it, here, here2) =
        ok_number m r e ρ env h is rest (value env v) _ (λ a x. ok_number m r e ρ env h is rest (value env v2) _ (λ b y.
        let first = reads_this ρ c env fits v (reg q) (ZInt a) here x in
        let second = reads_this ρ c env fits v2 y2 (ZInt b) here2 y in
        writes (T.Arith o r q y2) (ZInt (compute o a b)) h is_it (spare tt)
        (arith_step (heap h) ρ rest o r q y2 a b first second)))
    decl_runs (Unpack v) spare (y, is_it, here) =
        ok_given m r e ρ env h is rest (value env v) _ (λ w x.
        writes (T.Unpack r y) w h is_it (spare tt)
        (unpack_step (heap h) ρ rest r y (word w) (reads_this ρ c env fits v y w here x)))
    decl_runs (Malloc ts) spare is_it =
        let h2 = h ++ empties ts ∷ [] in
        let grown : heap h ++ replicate (length (tys ts)) EEmpty ∷ [] ≡ heap h2 =
        ap (λ t. heap h ++ t ∷ []) (sym (tuple_empties ts)) ∙ sym (map-append tuple h (empties ts ∷ [])) in
        let place : EAddress (length (heap h)) ≡ EAddress (length h) = ap EAddress (length-map h tuple) in
        let s : lstep B (at (heap h) ρ (Then (T.Malloc r (tys ts)) rest) log) ≡ Some
        (at (heap h2) (with_reg ρ r (EAddress (length h))) rest log) =
        ap (λ x. Some (at x (with_reg ρ r (EAddress (length (heap h)))) rest log)) grown
        ∙ ap (λ x. Some (at (heap h2) (with_reg ρ r x) rest log)) place in
        writes (T.Malloc r (tys ts)) (ZTuple (length h)) h2 is_it (spare tt) s
    decl_runs (Init v i v2) spare (q, is_it, here, here2) =
        ok_address m r e ρ env h is rest (value env v) _ (λ a x. ok_field m r e ρ env h is rest i _ (λ j z.
        ok_given m r e ρ env h is rest (value env v2) _ (λ w y. ok_given m r e ρ env h is rest (slice_get h a) _ (λ t p.
        ok_given m r e ρ env h is rest (slice_get t j) _ (λ f o.
        let s = field_at h a j t f p o in
        let n : j ≡ i - 1 = omega (arith, z) in
        let within : i - 1 < length (tuple t) = omega (arith, slice_get_within t j f o, length-map t slot, n) in
        let new : slice_set (heap h) a (slice_set (tuple t) (i - 1) (word w))
        ≡ heap (slice_set h a (slice_set t j (Some w))) =
        ap (λ k. slice_set (heap h) a (slice_set (tuple t) k (word w))) (sym n)
        ∙ ap (λ l. slice_set (heap h) a l) (sym (map-set slot t j (Some w)))
        ∙ sym (map-set tuple h a (slice_set t j (Some w))) in
        let there = reads_this ρ c env fits v (reg r) (ZTuple a) here x in
        let field = reads_this ρ c env fits v2 (reg q) w here2 y in
        let st = st_step (heap h) ρ rest r q (i - 1) a (tuple t) (word w) there field s.0 within
        ∙ ap (λ l. Some (at l ρ rest log)) new in
        let h2 = slice_set h a (slice_set t j (Some w)) in
        record {
          regs = ρ;
          leads = subst (λ z. Leads B (at (heap h) ρ z log) (at (heap h2) ρ rest log)) (sym is_it)
              (leads_step B _ _ st);
          agree = agree_next ρ ρ c m env (used e) r (ZTuple a) long fits stay there (λ n y lt. refl);
        })))))
