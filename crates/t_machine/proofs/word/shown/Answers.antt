use Rattle.std.proofs.Common.{◌≡◌, ◌<◌, ◌∙◌, length, subst, sym}
use Rattle.t_collect.specs.Tuples.{PointsBelow}
use Rattle.t_machine.proofs.FieldsShown.{kept_at}
use Rattle.t_machine.proofs.word.shown.Goals as goal

pub returns-in-Address-clause-kept : goal.returns-in-Address-clause-kept
returns-in-Address-clause-kept c =
    let x = c.args.heap.now in
    let n = length x.starts.items in
    let below = subst (PointsBelow n) c.in-Address.is c.requires in
    λ a e.
    let same : c.number.result ≡ a = cc in
    kept_at x c.tuple_of.result a (subst (λ k. k < n) (sym c.tuple_of.ensures) below) (sym c.number.ensures ∙ same)
