use Rattle.std.proofs.Common.{◌≡◌, ◌==◌, ap, ap₂, ◌∙◌, refl, true, List, [], ◌∷◌, ℕ, length, Option, Some, None, arith}
use Rattle.std.proofs.Common.{vec_len}
use Rattle.std.specs.Prelude.{IfSome}
use Rattle.std.proofs.lemmas.Bool.Decides.{nat_tests}
use Rattle.t_types.specs.Read.{types}
use Rattle.t_types.specs.declared.types.TType.{TType}
use Rattle.t_terms.specs.Tree.{Plain, Reg, TValue, TBase}
use Rattle.t_terms.specs.Read.{value, base}
use Rattle.t_check.proofs.instructions.bare_register.Goals as goal

empty_types : (ts : List TType) → length ts ≡ 0 → types ts ≡ []
empty_types [] e = refl
empty_types (t ∷ ts) e = absurd (omega (arith, e))

none_left : (n : ℕ) → true ≡ (n == 0) → n ≡ 0
none_left n e = grind (arith, nat_tests, e)

bare : (o : Option ℕ) (v : TValue) (b : TBase) (ts : List TType) → v ≡ Plain b (types ts) → types ts ≡ [] →
    IfSome o (λ r. b ≡ Reg r) → IfSome o (λ r. v ≡ Plain (Reg r) [])
bare None v b ts e n h = tt
bare (Some r) v b ts e n h = e ∙ ap₂ Plain h n

pub returns-then-is_empty : goal.returns-then-is_empty
returns-then-is_empty c =
    bare c.register_of.result (value c.args.v.now) (base c.in-Plain.base) c.in-Plain.types.items
    (ap value c.in-Plain.is)
    (empty_types c.in-Plain.types.items (let none = none_left (vec_len c.in-Plain.types) c.if-is_empty.ensures in
    omega (arith, none, c.in-Plain.types.ok.0))) c.register_of.ensures
