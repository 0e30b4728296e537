use Rattle.std.proofs.Common.{◌∙◌, sym, ap, Some}
use Rattle.t_known.specs.Refusals.{odds_at}
use Rattle.t_known.proofs.Counted.{told_all, told_none}
use Rattle.t_known.proofs.odds.told.Goals as goal

pub returns-then-not-all_small : goal.returns-then-not-all_small
returns-then-not-all_small c =
    sym (told_none (odds_at c.args.types.now c.args.odds) (sym c.if-not-all_small.ensures))

pub returns : goal.returns
returns c =
    ap Some c.in_ok-mismatch.ensures
    ∙ sym (told_all (odds_at c.args.types.now c.args.odds) (sym c.if-not-all_small.ensures))
