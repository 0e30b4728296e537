use Rattle.std.proofs.Common.{◌≡◌, take, map, All}
use Rattle.f_terms.specs.Ty.{put_from, PutFits}
use Rattle.f_terms.specs.Read.{tree}
use Rattle.f_terms.proofs.shift.+put_type.Given as goal

abbrev pub invariant-loop-part : goal.invariant-loop-part
invariant-loop-part l = record {
  fits : All (λ t. PutFits l.at (tree l.what) l.depth (tree t)) l.part-items;
  made : map tree l.parts.items ≡ map (λ t. put_from l.at (tree l.what) l.depth (tree t))
      (take l.part-index l.part-items);
}
