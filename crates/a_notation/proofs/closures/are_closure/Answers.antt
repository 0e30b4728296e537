use Rattle.std.proofs.Common.{◌≡◌, Bool, List, [], ◌∷◌, length, refl, arith}
use Rattle.std.specs.Prelude.{true, false, ◌&&◌}
use Rattle.a_terms.specs.declared.types.AType.{AType}
use Rattle.a_terms.specs.Read.{afields, atree}
use Rattle.a_notation.specs.Closures.{are_of_closure, takes_hidden}
use Rattle.a_notation.proofs.closures.are_closure.Goals as goal

never : (a b : Bool) → false ≡ a && (b && false)
never true true = refl
never true false = refl
never false true = refl
never false false = refl

not_two : (fields : List (AType × Bool)) → (length fields ≡ 2 → ⊥) → false ≡ are_of_closure (afields fields)
not_two [] h = refl
not_two (x ∷ []) h = never x.1 (takes_hidden (atree x.0))
not_two (x ∷ y ∷ []) h = absurd (h refl)
not_two (x ∷ y ∷ z ∷ rest) h = never x.1 (takes_hidden (atree x.0))

pub returns-then-fields-ne2 : goal.returns-then-fields-ne2
returns-then-fields-ne2 c = not_two c.args.fields.now (λ e. omega (arith, e, c.if-fields-ne2.true))
