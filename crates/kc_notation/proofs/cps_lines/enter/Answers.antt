use Rattle.std.proofs.Common.{List, ℕ, ◌+◌, false, subst}
use Rattle.std.proofs.lemmas.Result.{on_ok_weaker}
use Rattle.k_terms.specs.Read.{ktys}
use Rattle.kc_notation.specs.declared.page.Scope.{Scope}
use Rattle.kc_notation.specs.Heads.{code_line}
use Rattle.kc_notation.specs.Standing.{IsPage}
use Rattle.kc_notation.specs.ClosedWalk.{opened}
use Rattle.kc_notation.proofs.HeadLines.{head_done}
use Rattle.kc_notation.proofs.cps_lines.enter.Goals as goal

pub returns : goal.returns
returns c =
    let n = c.args.page.now.body.scope.types in
    let l = c.args.level in
    let o = c.args.owes in
    let ts = ktys c.args.args.now in
    on_ok_weaker c.open.result
    (λ f p h.
    subst (λ (s : Scope). IsPage c.open.new.self (opened p (code_line false s.types l o ts) (s.types + o)))
    h.body.scope
    (subst (λ j. IsPage c.open.new.self (opened p (code_line false n l o ts) j)) c.in_ok-types.ensures
    (subst (λ (s : List ℕ). IsPage c.open.new.self (opened p s c.in_ok-types.types))
    (head_done false n l o _ _ ts _ _ _ c.in_ok-types.ensures c.in_ok-first.ensures c.in_ok-head.ensures
    c.in_ok-write_arguments.ensures c.in_ok-extend_from_slice.ensures.items) (f p h))))
    c.open.ensures
