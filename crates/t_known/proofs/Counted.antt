-- Nodes that are counted, and what is said of what is at odds.
use Rattle.std.proofs.Common.{◌≡◌, ℕ, ◌+◌, ◌<◌, true, false, Some, None, refl, arith}
use Rattle.std.proofs.lemmas.Bool.Decides.{nat_tests}
use Rattle.t_types.specs.Tree.{Ty, IntTy, VarTy, CodeTy, ExistsTy, TupleTy}
use Rattle.t_rules.specs.Nodes.{nodes, few}
use Rattle.t_rules.specs.Mismatch.{Mismatch, all_few, told}

-- a type has a node
pub some_nodes : (t : Ty) → 0 < nodes t
some_nodes IntTy = omega arith
some_nodes (VarTy i) = omega arith
some_nodes (CodeTy owes file) = omega arith
some_nodes (ExistsTy t) = omega arith
some_nodes (TupleTy fs) = omega arith

pub are_few : (t : Ty) (left : ℕ) → left + nodes t ≡ 100000 → true ≡ few t
unfolding few
are_few t left h = grind (arith, nat_tests)

pub are_more : (t : Ty) → 100000 < nodes t → false ≡ few t
unfolding few
are_more t h = grind (arith, nat_tests)

-- what is at odds is told, or not
pub told_all : (m : Mismatch) → all_few m ≡ true → told m ≡ Some m
unfolding told
told_all m e = rw e refl

pub told_none : (m : Mismatch) → all_few m ≡ false → told m ≡ None
unfolding told
told_none m e = rw e refl
