use Rattle.std.proofs.Common.{◌≡◌, ◌++◌, drop}
use Rattle.cost_page.specs.Page.{place_rows, most_text}
use Rattle.cost_page.proofs.page.write_most.Given as goal

abbrev pub invariant-loop-place : goal.invariant-loop-place
invariant-loop-place l = l.page.items ++ place_rows l.text (drop l.place-index l.top)
    ≡ l.fn.page.items ++ most_text l.text l.top
