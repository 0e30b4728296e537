-- Sheets on which a term is written: values that wait, and the second branches to come.
use Rattle.std.proofs.Common.{◌≡◌, ℕ, zero, suc, ◌+◌, ◌-◌, List, [], ◌∷◌, ◌++◌, length, refl, sym, ap, ◌∙◌, arith}
use Rattle.std.proofs.Common.{codes}
use Rattle.calc_core.specs.Levels.{level_of}
use Rattle.page_core.specs.Names.{margin, separator}
use Rattle.kc_notation.specs.declared.page.Scope.{Scope}
use Rattle.kc_notation.specs.ClosedWalk.{Lines, Sheet, gathered, lines, past, scope_of, shut, turn}

-- the level of a variable
pub level_is : (m i : ℕ) → level_of m i ≡ m - 1 - i
level_is zero i = omega arith
level_is (suc d) zero = omega arith
level_is (suc d) (suc i) = let h = level_is d i in omega (arith, h)

-- texts, the first first, before others that wait, the last first
abbrev pub stack : List (List ℕ) → List (List ℕ) → List (List ℕ)
stack [] vs = vs
stack (s ∷ ss) vs = stack ss (s ∷ vs)

-- what is gathered of values that wait, of which i stand before the text already
abbrev pub before : ℕ → List (List ℕ) → List ℕ → List ℕ
before i [] text = text
before i (s ∷ ss) text = s ++ (separator (i + length ss) ++ before i ss text)

pub gather_some : (ss : List (List ℕ)) (n i c : ℕ) (vs : List (List ℕ)) (text : List ℕ) → c ≡ n + length ss →
    gathered c i (stack ss vs) text ≡ gathered n (i + length ss) vs (before i ss text)
gather_some [] n i c vs text e =
    let a : c ≡ n = omega (arith, e) in
    let b : i + 0 ≡ i = omega arith in
    rw (a, b) refl
gather_some (s ∷ ss) n i c vs text e =
    let a : c ≡ suc n + length ss = omega (arith, e) in
    let b : i + suc (length ss) ≡ suc (i + length ss) = omega arith in
    gather_some ss (suc n) i c (s ∷ vs) text a ∙ ap (λ j. gathered n j vs (s ++ (separator (i + length ss)
    ++ before i ss text))) (sym b)

pub past_some : (ss : List (List ℕ)) (n c : ℕ) (vs : List (List ℕ)) → c ≡ n + length ss →
    past c (stack ss vs) ≡ past n vs
past_some [] n c vs e = let a : c ≡ n = omega (arith, e) in ap (λ j. past j vs) a
past_some (s ∷ ss) n c vs e = let a : c ≡ suc n + length ss = omega (arith, e) in past_some ss (suc n) c (s ∷ vs) a

pub stack_length : (ss vs : List (List ℕ)) → length (stack ss vs) ≡ length ss + length vs
stack_length [] vs = omega arith
stack_length (s ∷ ss) vs = let h = stack_length ss (s ∷ vs) in omega (arith, h)

-- a body in which no value waits
abbrev pub sheet : List ℕ → ℕ → ℕ → List Scope → List Lines → Sheet
sheet text n k branches around = record { body = lines text (scope_of n k) branches; around = around }

pub turn_is : (q : Sheet) (s : Scope) (ss : List Scope) (text : List ℕ) → q.body.branches ≡ s ∷ ss →
    shut q.body ≡ text →
    turn q q.body.branches ≡ sheet (text ++ (margin s.indent ++ codes "else\n")) s.types (s.indent + 1) ss q.around
turn_is q s ss text e f =
    ap (λ bs. turn q bs) e ∙ ap (λ (t : List ℕ). sheet (t ++ (margin s.indent
    ++ codes "else\n")) s.types (s.indent + 1) ss q.around) f
