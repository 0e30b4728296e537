use Rattle.std.proofs.Common.{◌≡◌, take, map, All}
use Rattle.calc_core.specs.Walks.{put_from, PutFits}
use Rattle.calc_core.specs.Read.{tree}
use Rattle.calc_core.proofs.walks.+put.Given as goal

abbrev pub invariant-put_types-loop-t : goal.invariant-put_types-loop-t
invariant-put_types-loop-t l = record {
  fits : All (λ t. PutFits l.at (tree l.what) l.depth (tree t)) l.ts;
  made : map tree l.made.items ≡ map (λ t. put_from l.at (tree l.what) l.depth (tree t)) (take l.t-index l.ts);
}
