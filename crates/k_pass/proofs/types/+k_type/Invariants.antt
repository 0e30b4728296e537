use Rattle.std.proofs.Common.{◌≡◌, take, map}
use Rattle.calc_core.specs.Ends.{under}
use Rattle.f_terms.specs.Read.{tree}
use Rattle.k_terms.specs.Read.{ktree}
use Rattle.k_laws.specs.Cps.{kty, spot}
use Rattle.k_pass.specs.Machine.{levels as levels_of}
use Rattle.k_pass.proofs.types.+k_type.Given as goal

abbrev pub invariant-loop-part : goal.invariant-loop-part
invariant-loop-part l =
    map ktree l.parts.items ≡ map (λ t. kty (under l.bound (spot l.types (levels_of l.levels.items))) (tree t))
    (take l.part-index l.part-items)
