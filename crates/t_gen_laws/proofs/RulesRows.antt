-- Code that is so by the rules with other registers than code generation takes, and code that is not.
use Rattle.std.proofs.Common.{◌≡◌, ◌<◌, ℕ, zero, suc, List, [], ◌∷◌, length, refl, ap, arith, inl, inr}
use Rattle.std.proofs.lemmas.Bool.{eqb-true}
use Rattle.std.specs.Prelude.{pos, Some, true}
use Rattle.idx_core.specs.declared.arith.Op.TheVariants.{Add, Mul}
use Rattle.a_terms.specs.Tree.{AVal, Var, Num, Arith, ATm, Let, Halt}
use Rattle.t_terms.specs.Tree as T
use Rattle.t_terms.specs.Tree.{TSeq, Then, Ends}
use Rattle.t_terms.specs.Registers.{with_reg}
use Rattle.t_gen_rules.specs.Gen.{reg, place, used}
use Rattle.t_gen_laws.specs.Worked.{alone}
use Rattle.t_gen_laws.specs.Rules.{Held, nothing, holding, Move, IsPartOf, Brings, operands, InOrder, Scope, LetCode}
use Rattle.t_gen_laws.specs.Rules.{Code}
use Rattle.t_gen_laws.proofs.Words.{scope}

abbrev number : ℕ → T.TValue
number n = T.Plain (T.Int (pos n)) []

-- x = 1 + 2; y = x * x; halt y
abbrev square : ATm
square = Let (Arith Mul (Var 0) (Var 0)) (Halt (Var 0))

abbrev squared : ATm
squared = Let (Arith Add (Num (pos 1)) (Num (pos 2))) square

-- mov r3, 1; add r7, r3, 2; mul r5, r7, r7; mov r1, r5; halt
abbrev chosen : TSeq
chosen =
    Then (T.Mov 3 (number 1))
    (Then (T.Arith Add 7 3 (number 2))
    (Then (T.Arith Mul 5 7 (reg 7)) (Then (T.Mov 1 (reg 5)) (Ends T.Halt))))

one_only : (i j : ℕ) → i < 1 → j < 1 → i ≡ j
one_only i j a b = omega (arith, a, b)

not_two : (i : ℕ) → i < 0 → ⊥
not_two i a = omega (arith, a)

-- of the variables of a term, only the last one is used
only_last : (n : ℕ) → used (Halt (Var 0)) (suc n) ≡ true → ⊥
only_last n e = let z = eqb-true 0 (suc n) e in omega (arith, z)

chosen_by_rules : Code (scope [] alone 0 [] []) 1 squared chosen
chosen_by_rules = (
  record {
    register = 7;
    next = _;
    comes = record {
      moves = record { to = 3; value = number 1 } ∷ [];
      first = refl;
      few = omega arith;
      held = with_reg nothing 3 (Num (pos 1));
      brings = (Num (pos 1), inl refl, inr refl, refl);
    };
    rest = _;
    declares = (3, number 2, refl, inl (3, refl, refl), inr refl);
    kept = λ n y l. absurd (not_two n l);
    spare = λ w n y l z. not_two n l;
    apart = λ i j x y a b e. one_only i j a b;
  },
  (
    record {
      register = 5;
      next = _;
      comes = record { moves = []; first = refl; few = omega arith; held = _; brings = refl };
      rest = _;
      declares = (7, reg 7, refl, (7, refl, refl), (7, refl, refl));
      kept = λ n y l. absurd (only_last n y);
      spare = λ w n y l z. only_last n y;
      apart = distinct;
    },
    record {
      comes = record {
        moves = record { to = 1; value = reg 5 } ∷ [];
        first = refl;
        few = omega arith;
        held = _;
        brings = (Var 0, inl refl, (5, refl, refl), refl);
      };
      answer = (1, refl, refl);
    },
  ),
)
  where
    distinct : (i j : ℕ) → used (Halt (Var 0)) i ≡ true → used (Halt (Var 0)) j ≡ true → i < 2 → j < 2 →
        place (5 ∷ 7 ∷ []) i ≡ place (5 ∷ 7 ∷ []) j → i ≡ j
    distinct zero zero x y a b e = refl
    distinct (suc i) j x y a b e = absurd (only_last i x)
    distinct zero (suc j) x y a b e = absurd (only_last j y)

-- x in register 2 and y in register 1 change places by way of register 9
abbrev both : Held
both = holding 0 (2 ∷ 1 ∷ []) (λ n. true)

abbrev by_way : List Move
by_way =
    record { to = 9; value = reg 1 } ∷ record { to = 1; value = reg 2 } ∷ record { to = 2; value = reg 9 } ∷ []

by_way_brings : (c : Held) × Brings (Var 0 ∷ Var 1 ∷ []) both by_way c × InOrder c 1 (Var 0 ∷ Var 1 ∷ [])
by_way_brings = (
  _,
  (
    Var 1,
    inr (inl refl),
    (1, refl, refl),
    (Var 0, inl refl, (2, refl, refl), (Var 1, inr (inl refl), (9, refl, refl), refl)),
  ),
  ((1, refl, refl), ((2, refl, refl), tt)),
)

-- not so where the first move overwrites what the second one reads: register 2 keeps x
abbrev over_it : List Move
over_it = record { to = 1; value = reg 2 } ∷ record { to = 2; value = reg 1 } ∷ []

over_it_brings : (c : Held) × Brings (Var 0 ∷ []) both over_it c × (c 2 ≡ Some (Var 0))
over_it_brings = (_, (Var 0, inl refl, (2, refl, refl), (Var 0, inl refl, (1, refl, refl), refl)), refl)

-- a sum that is written over a variable that is still used is none: x in register 1, y = x + 1 in register 1
clobbers : (s : Scope) (e : ATm) (is : TSeq) (d : LetCode s (Arith Add (Var 0) (Num (pos 1))) e is) →
    s.regs ≡ 1 ∷ [] → used e 1 ≡ true → d.register ≡ 1 → ⊥
clobbers s e is d m y r =
    let there : place s.regs 0 ≡ 1 = ap (λ l. place l 0) m in
    let long : length s.regs ≡ 1 = ap length m in
    d.spare tt 0 y (omega (arith, long)) (omega (arith, there, r))

-- nor is a move of a value that nobody asks for before y = x * x
idle : (v : AVal) → IsPartOf v (operands square) → v ≡ Var 0
idle v (inl is) = is
idle v (inr (inl is)) = is
idle v (inr (inr is)) = absurd is
