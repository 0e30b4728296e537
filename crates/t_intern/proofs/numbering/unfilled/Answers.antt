use Rattle.std.proofs.Common.{◌++◌, ◌∙◌, ap, sym, get_or, List, ℕ, append-nil}
use Rattle.std.proofs.lemmas.List.{drop_all}
use Rattle.t_intern.specs.Applied.{unfilled as unfilled_fields}
use Rattle.t_intern.proofs.Rows.{unfilled_next}
use Rattle.t_intern.proofs.numbering.unfilled.Goals as goal
use Rattle.idx_core.proofs.Lists.{item}

pub loop-i-preserved : goal.loop-i-preserved
loop-i-preserved c =
    let l = c.loop-i in
    let xs = c.args.ns.now in
    let lt = c.loop-i-test.true in
    unfilled_next xs l.i (get_or xs l.i 0) l.made.items c.push.new.self.items _ lt (item xs l.i 0 lt) l.invariant
    c.in_ok-push.ensures.items

pub returns : goal.returns
returns c =
    let l = c.loop-i in
    sym (append-nil l.made.items)
    ∙ ap (λ (ys : List ℕ). l.made.items ++ unfilled_fields ys) (sym (drop_all l.i c.args.ns.now c.loop-i-test.false))
    ∙ l.invariant
