use Rattle.calc_core.specs.Ends.{under}
use Rattle.f_terms.proofs.Trees.{tree_parts}
use Rattle.k_laws.specs.Cps.{spot}
use Rattle.k_pass.specs.Machine.{levels as levels_of}
use Rattle.k_pass.proofs.TypeLists.{made_tuple}
use Rattle.k_pass.proofs.types.+k_type.Goals as goal

pub returns-after-loop-part : goal.returns-after-loop-part
returns-after-loop-part t c =
    let whole = tree_parts _ _ _ c.in-Tuple.is c.deref-part-items.ensures.value in
    made_tuple (under c.args.bound (spot c.args.types (levels_of c.args.levels.now.items))) _ c.loop-part.parts _ _
    whole c.loop-part.invariant c.loop-part-test.false
