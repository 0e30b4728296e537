-- What code generation keeps.
use Rattle.a_terms.specs.Tree.{ATm, AProg}
use Rattle.a_terms.specs.Typing.{TypedProgram}
use Rattle.a_terms.specs.Sizes.{Fits-in}
use Rattle.t_types.specs.WellFormed.{max_names}
use Rattle.t_terms.specs.Whole.{WellFormedProgram}
use Rattle.t_rules.specs.Rules.{Accepted}
use Rattle.t_gen_rules.specs.Gen.{generated}
use Rattle.t_gen_laws.specs.Correct.{Keeps}
use Rattle.t_terms.specs.Flat.{Flat}

-- what is generated for a typed program is accepted
abbrev pub TypesKept : Type 0
TypesKept = (p : AProg) (main : ATm) → TypedProgram p main → Accepted (generated p main)

-- it has no package inside a package
abbrev pub PacksFlat : Type 0
PacksFlat = (p : AProg) (main : ATm) → TypedProgram p main → Flat (generated p main)

-- what is generated for a typed program within the bound is well formed
abbrev pub InvariantKept : Type 0
InvariantKept =
    (p : AProg) (main : ATm) → TypedProgram p main → Fits-in max_names p main → WellFormedProgram (generated p main)

-- and means the same
abbrev pub MeaningKept : Type 0
MeaningKept = (p : AProg) (main : ATm) → TypedProgram p main → Fits-in max_names p main → Keeps p main
    (generated p main)
