use Rattle.std.proofs.Common.{ap}
use Rattle.std.specs.List.{list_any}
use Rattle.t_intern.specs.Found.{same_key}
use Rattle.t_intern.proofs.SeenPairs.{no_pairs}
use Rattle.t_intern.proofs.pairs.Pairs.new.Goals as goal

pub returns : goal.returns
returns c = λ ts. no_pairs _ ts (λ k. ap (list_any (same_key k)) c.with_hasher.ensures.empty)
