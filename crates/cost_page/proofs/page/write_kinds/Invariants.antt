use Rattle.std.proofs.Common.{◌≡◌, ◌++◌, drop}
use Rattle.cost_page.specs.Page.{kind_rows, kinds}
use Rattle.cost_page.proofs.page.write_kinds.Given as goal

abbrev pub invariant-loop-kind : goal.invariant-loop-kind
invariant-loop-kind l = l.page.items ++ kind_rows l.places (drop l.kind-index l.kind-items)
    ≡ l.fn.page.items ++ kind_rows l.places kinds
