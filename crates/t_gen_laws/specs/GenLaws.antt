-- How many blocks are generated.
use Rattle.std.proofs.Common.{◌≡◌, ℕ, suc, ◌+◌, List, ◌∷◌, length, refl, arith, length-append}
use Rattle.a_terms.specs.Tree.{ATy, ATm, Let, Call, If0, Halt, AProg}
use Rattle.a_terms.specs.Typing.{declared, more_vars}
use Rattle.a_terms.specs.Bound.{thirds}
use Rattle.t_gen_rules.specs.Gen.{target, extras}

pub length_extras : (p : AProg) (k : ℕ) (m : List ℕ) (g : List ATy) (at : ℕ) (e : ATm) →
    length (extras p k m g at e) ≡ thirds e
length_extras p k m g at (Let x e) = length_extras p (more_vars x k) (target m x e ∷ m) (declared p g x) at e
length_extras p k m g at (Call v ts vs) = refl
length_extras p k m g at (If0 v a b) =
    let ea = extras p k m g (suc at) a in
    let eb = extras p k m g (suc at + thirds a) b in
    let la : length ea ≡ thirds a = length_extras p k m g (suc at) a in
    let lb : length eb ≡ thirds b = length_extras p k m g (suc at + thirds a) b in
    omega (arith, length-append ea eb)
length_extras p k m g at (Halt v) = refl
