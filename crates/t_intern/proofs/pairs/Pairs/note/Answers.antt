use Rattle.std.proofs.Common.{ap}
use Rattle.std.specs.List.{list_any}
use Rattle.t_intern.specs.Found.{same_key}
use Rattle.t_intern.proofs.SeenPairs.{either, pair_noted, same_pairs}
use Rattle.t_intern.proofs.pairs.Pairs.note.Goals as goal

pub returns : goal.returns
returns c = λ ts all l m fit. either c.insert.result c.insert.ensures.updates c.insert.ensures.err
    (λ u. pair_noted _ _ ts c.args.a c.args.b u.0 all l m fit)
    (λ e. same_pairs _ _ ts (λ k. ap (list_any (same_key k)) e) all)
