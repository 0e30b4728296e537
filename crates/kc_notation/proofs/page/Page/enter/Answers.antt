use Rattle.std.proofs.Common.{List, ℕ, true, arith, subst}
use Rattle.std.proofs.lemmas.Result.{on_ok_weaker}
use Rattle.c_terms.specs.Read.{ctys}
use Rattle.kc_notation.specs.Standing.{IsPage}
use Rattle.kc_notation.specs.ClosedWalk.{opened}
use Rattle.kc_notation.proofs.HeadLines.{head_done}
use Rattle.kc_notation.proofs.page.Page.enter.Goals as goal

pub returns : goal.returns
returns c =
    let o = c.args.owes in
    on_ok_weaker c.open.result
    (λ f p h.
    subst (λ (s : List ℕ). IsPage c.open.new.self (opened p s o))
    (head_done true 0 0 o o 1 (ctys c.args.args.now) _ _ _ (omega arith) (omega arith) c.in_ok-head.ensures
    c.in_ok-write_arguments.ensures c.in_ok-extend_from_slice.ensures.items) (f p h))
    c.open.ensures
