use Rattle.std.proofs.Common.{sym, ◌∙◌}
use Rattle.t_reader.proofs.Labelled.{first_kept, first_added}
use Rattle.t_reader.proofs.labels.keep_first.Goals as goal

pub returns-then-contains_key : goal.returns-then-contains_key
returns-then-contains_key c =
    λ ls h. first_kept c.args.targets.now ls c.args.name c.args.target h
    (sym c.contains_key.ensures ∙ c.if-contains_key.true)

pub returns : goal.returns
returns c = λ ls h. first_added c.args.targets.now ls c.args.name c.args.target h c.insert.new.self
    (sym c.contains_key.ensures ∙ c.if-contains_key.false) c.in_ok-insert.ensures.updates
