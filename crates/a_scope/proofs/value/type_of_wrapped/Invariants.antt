use Rattle.std.proofs.Common.{◌≡◌, take}
use Rattle.a_terms.specs.Typing.{type_of}
use Rattle.a_terms.specs.NodeTrees.{base, wrapped}
use Rattle.a_terms.specs.Program.{program_in}
use Rattle.a_terms.specs.Read.{maybe}
use Rattle.a_scope.specs.Scope.{scope}
use Rattle.a_scope.proofs.value.type_of_wrapped.Given as goal

abbrev pub invariant-loop-w : goal.invariant-loop-w
invariant-loop-w l = maybe l.made ≡ type_of (program_in l.program) (scope l.names l.vars)
    (wrapped (base l.v.base) (take l.w-index l.v.wraps.items))
