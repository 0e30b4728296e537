use Rattle.std.proofs.Common.{◌-◌, length, sym, ap, ◌∙◌, arith, Some, []}
use Rattle.a_pass.specs.Scope.{known_name, typed}
use Rattle.a_pass.specs.declared.state.Name.{Name}
use Rattle.a_pass.proofs.Keeping.{under_at}
use Rattle.a_pass.proofs.Places.{nth_in, nth_out}
use Rattle.a_pass.proofs.scope.name_at.Goals as goal

pub returns-then-i-count-clause-known : goal.returns-then-i-count-clause-known
returns-then-i-count-clause-known c =
    nth_in known_name [] c.args.names.now c.args.i (length c.args.names.now - 1 - c.args.i)
    c.index-names-count.result (omega arith) ∙ ap (λ (n : Name). Some (known_name n)) (sym c.index-names-count.is)

pub returns-then-i-count-clause-ty : goal.returns-then-i-count-clause-ty
returns-then-i-count-clause-ty c = λ b.
    nth_in (typed b) [] c.args.names.now c.args.i (length c.args.names.now - 1 - c.args.i) c.index-names-count.result
    (omega arith) ∙ ap (λ (n : Name). Some (typed b n)) (sym c.index-names-count.is)

pub returns-else-i-count-clause-known : goal.returns-else-i-count-clause-known
returns-else-i-count-clause-known c = nth_out known_name c.args.names.now c.args.i (omega arith)

pub returns-else-i-count-clause-ty : goal.returns-else-i-count-clause-ty
returns-else-i-count-clause-ty c = λ b. nth_out (typed b) c.args.names.now c.args.i (omega arith)

pub returns-then-i-count-clause-under : goal.returns-then-i-count-clause-under
returns-then-i-count-clause-under c =
    under_at c.args.names.now (length c.args.names.now - 1 - c.args.i) c.index-names-count.result
    (omega (arith, c.if-i-count.true)) c.index-names-count.is
