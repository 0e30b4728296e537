-- Where the bytes of instructions stand, the machine does what they do.
use Rattle.std.proofs.Common.{◌≡◌, ℕ, ◌+◌, ◌-◌, ◌≤◌, List, [], ◌∷◌, ◌++◌, length, drop, Bool, true, false, cond, Option}
use Rattle.std.proofs.Common.{Some, None, refl, ap, sym, ◌∙◌, arith, subst}
use Rattle.std.proofs.Common.{length-append, append_assoc, le-leb}
use Rattle.std.proofs.lemmas.List.{drop-drop}
use Rattle.std.proofs.lemmas.List.Prefix.{front_rest}
use Rattle.x_terms.specs.Decode.{and_then, decode, decode_at}
use Rattle.x_terms.specs.Machine.{Image, State, Answer, Outcome, Next, Stuck, effect, fetch, fetched, run, after}
use Rattle.x_terms.specs.Machine.{is_word, address, source, with_register, after_op, op_flags, times, shifted, moved}
use Rattle.x_terms.specs.Machine.{stored}
use Rattle.x_terms.specs.declared.register.Register.{Register}
use Rattle.x_terms.specs.declared.instr.Instr.{Instr}
use Rattle.x_terms.specs.declared.instr.Instr.TheVariants.{Const, Mov, Load, Store, Lea, Arith, Imul, Shift}
use Rattle.x_code.specs.Bytes.{bytes_of, FitsInstr}
use Rattle.x_code.proofs.Back.{decodes}
use Rattle.x_laws.specs.Core.{Core, core, does, runs, bytes_all}
use Rattle.x_laws.specs.Going.{Standing, AllFit}

-- the state t is at the place n, with the registers and the memory d, and no more calls than s
pub record Reached (s : State) (n : ℕ) (d : Core) (t : State) : Type 0 where
  pub core_is : core t ≡ d
  pub place_is : t.place ≡ n
  pub calls_are : t.calls ≡ s.calls

-- one instruction
abbrev pub DoesSo : Image → State → ℕ → Instr → Core → Type 0
DoesSo m s n i d = (t : State) × ((w : Answer) → effect m w s n i ≡ Next t) × Reached s n d t

same_some : {T : Type 0} (x y : T) → Some x ≡ Some y → x ≡ y
same_some x y e = cc

checked : {T : Type 0} (b : Bool) (x y : T) → cond b (Some x) None ≡ Some y → (b ≡ true) × (x ≡ y)
checked true x y e = (refl, same_some x y e)
checked false x y e = absurd (cc)

-- the flags are not spoken of
at : (s : State) (n : ℕ) (g : Register → ℕ) (f : Option (ℕ × ℕ)) (d : Core) →
    record { registers = g; memory = s.memory } ≡ d → Reached s n d (moved s n g f)
at s n g f d e = record { core_is = e; place_is = refl; calls_are = refl }

no_word : (b : Bool) (x : Outcome) → b ≡ true → cond b x Stuck ≡ x
no_word b x h = ap (λ c. cond c x Stuck) h

pub does_so : (m : Image) (s : State) (n : ℕ) (i : Instr) (d : Core) → does m i (core s) ≡ Some d → DoesSo m s n i d
does_so m s n (Const r k) d e =
    let g : Register → ℕ = with_register s.registers r k in
    (moved s n g None, (λ w. refl), at s n g None d (same_some _ d e))
does_so m s n (Mov r v) d e =
    let g : Register → ℕ = with_register s.registers r (source s.registers v) in
    (moved s n g None, (λ w. refl), at s n g None d (same_some _ d e))
does_so m s n (Load r a) d e =
    let k : ℕ = address s.registers a in
    let g : Register → ℕ = with_register s.registers r (s.memory k) in
    let h = checked (is_word m k) _ d e in
    (moved s n g None, (λ w. no_word (is_word m k) _ h.0), at s n g None d h.1)
does_so m s n (Store a r) d e =
    let k : ℕ = address s.registers a in
    let h = checked (is_word m k) _ d e in (
      stored s n k (s.registers r),
      (λ w. no_word (is_word m k) _ h.0),
      record { core_is = h.1; place_is = refl; calls_are = refl },
    )
does_so m s n (Lea r a) d e =
    let g : Register → ℕ = with_register s.registers r (address s.registers a) in
    (moved s n g None, (λ w. refl), at s n g None d (same_some _ d e))
does_so m s n (Arith o r v) d e =
    let b : ℕ = source s.registers v in
    let g : Register → ℕ = after_op o s.registers r b in
    let f : Option (ℕ × ℕ) = op_flags o (s.registers r) b in
    (moved s n g f, (λ w. refl), at s n g f d (same_some _ d e))
does_so m s n (Imul r q) d e =
    let g : Register → ℕ = with_register s.registers r (times (s.registers r) (s.registers q)) in
    (moved s n g None, (λ w. refl), at s n g None d (same_some _ d e))
does_so m s n (Shift k r q) d e =
    let g : Register → ℕ = with_register s.registers r (shifted k (s.registers r) q) in
    (moved s n g None, (λ w. refl), at s n g None d (same_some _ d e))
does_so m s n _ d e = absurd (cc)

pub fetches : (m : Image) (a : ℕ) (i : Instr) (more : List ℕ) → FitsInstr i → Standing m a (bytes_of i ++ more) →
    fetch m a ≡ Some (i, length (bytes_of i))
fetches m a i more f h =
    ap (λ b. cond b (decode_at m.code (a - m.code_at)) None) (le-leb m.code_at a h.behind)
    ∙ ap (λ x. decode x) (h.is ∙ append_assoc (bytes_of i) more h.rest)
    ∙ decodes i f (more ++ h.rest)

-- and the next ones behind them
pub further : (m : Image) (a : ℕ) (xs ys : List ℕ) → Standing m a (xs ++ ys) → Standing m (a + length xs) ys
further m a xs ys h = record {
  behind = let b : m.code_at ≤ a = h.behind in omega arith;
  rest = h.rest;
  is =
      let b : m.code_at ≤ a = h.behind in
      let n : a + length xs - m.code_at ≡ (a - m.code_at) + length xs = omega arith in
      ap (λ k. drop k m.code) n
      ∙ sym (drop-drop (length xs) (a - m.code_at) m.code)
      ∙ front_rest (drop (a - m.code_at) m.code) xs (ys ++ h.rest) (h.is ∙ append_assoc xs ys h.rest);
}

-- whatever the system would answer
abbrev pub RunsTo : Image → State → List Instr → Core → Type 0
RunsTo m s is d =
    (t : State) × ((world : ℕ → Answer) → run m world (length is) s ≡ Next t)
    × Reached s (s.place + length (bytes_all is)) d t

and_then_some : {T U : Type 0} (x : Option T) (f : T → Option U) (y : U) → and_then x f ≡ Some y →
    (z : T) × (x ≡ Some z) × (f z ≡ Some y)
and_then_some None f y e = absurd (cc)
and_then_some (Some z) f y e = (z, refl, e)

pub runs_to : (m : Image) (is : List Instr) (s : State) (d : Core) → AllFit is → Standing m s.place (bytes_all is) →
    runs m is (core s) ≡ Some d → RunsTo m s is d
runs_to m [] s d f h e =
    (s, (λ world. refl), record { core_is = same_some _ d e; place_is = omega arith; calls_are = refl })
runs_to m (i ∷ is) s d f h e =
    let parts = and_then_some (does m i (core s)) (runs m is) d e in
    let one = does_so m s (s.place + length (bytes_of i)) i parts.0 parts.1 in
    let u = one.0 in
    let there : Standing m u.place (bytes_all is) =
    subst (λ n. Standing m n (bytes_all is)) (sym one.2.place_is)
    (further m s.place (bytes_of i) (bytes_all is) h) in
    let goes : runs m is (core u) ≡ Some d = ap (runs m is) one.2.core_is ∙ parts.2 in
    let more = runs_to m is u d f.1 there goes in (
      more.0,
      (λ world.
          ap (λ x. after (fetched m (world (length s.calls)) s x) (run m world (length is)))
          (fetches m s.place i (bytes_all is) f.0 h)
          ∙ ap (λ x. after x (run m world (length is))) (one.1 (world (length s.calls)))
          ∙ more.1 world),
      record {
        core_is = more.2.core_is;
        place_is =
            more.2.place_is ∙ ap (λ n. n + length (bytes_all is)) one.2.place_is
            ∙ omega (arith, length-append (bytes_of i) (bytes_all is));
        calls_are = more.2.calls_are ∙ one.2.calls_are;
      },
    )
