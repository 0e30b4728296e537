use Rattle.std.proofs.Common.{ap}
use Rattle.std.specs.Map.{lookup}
use Rattle.t_intern.specs.Found.{same_key}
use Rattle.t_intern.proofs.MadePairs.{none_made}
use Rattle.t_intern.proofs.made.Made.new.Goals as goal

pub returns : goal.returns
returns c = λ f ts. none_made f _ ts (λ k. ap (lookup (same_key k)) c.with_hasher.ensures.empty)
