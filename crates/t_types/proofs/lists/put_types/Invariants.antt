use Rattle.std.proofs.Common.{◌≡◌, take, map, All}
use Rattle.t_types.specs.Tree.{put_from, PutFits}
use Rattle.t_types.specs.Read.{tree}
use Rattle.t_types.proofs.lists.put_types.Given as goal

abbrev pub invariant-loop-t : goal.invariant-loop-t
invariant-loop-t l = record {
  fits : All (λ t. PutFits l.at (tree l.what) l.depth (tree t)) l.ts;
  made : map tree l.made.items ≡ map (λ t. put_from l.at (tree l.what) l.depth (tree t)) (take l.t-index l.ts);
}
