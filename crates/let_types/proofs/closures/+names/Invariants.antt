use Rattle.std.proofs.Common.{◌≡◌, ℕ, drop}
use Rattle.c_terms.specs.Read.{ctys}
use Rattle.let_types.specs.TypeTexts.{IsVariable, one_names_variable}
use Rattle.let_types.proofs.closures.+names.Given as goal

-- what is left names it where all do
abbrev pub invariant-one_names_variable-loop-i : goal.invariant-one_names_variable-loop-i
invariant-one_names_variable-loop-i l =
    (v : ℕ) → IsVariable l.variable v → one_names_variable v (ctys (drop l.i l.ts))
    ≡ one_names_variable v (ctys (drop l.from l.ts))
