use Rattle.std.proofs.Common.{ap}
use Rattle.std.specs.Map.{lookup}
use Rattle.t_intern.specs.Found.{same_key}
use Rattle.t_intern.proofs.MadePairs.{made_noted, same_made}
use Rattle.t_intern.proofs.SeenPairs.{either}
use Rattle.t_intern.proofs.made.Made.note.Goals as goal

pub returns : goal.returns
returns c = λ f ts all l s is. either c.insert.result c.insert.ensures.updates c.insert.ensures.err
    (λ u. made_noted f _ _ ts c.args.n c.args.by c.args.number u.0 all l s is)
    (λ e. same_made f _ _ ts (λ k. ap (lookup (same_key k)) e) all)
