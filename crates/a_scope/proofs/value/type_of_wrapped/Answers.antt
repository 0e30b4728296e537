use Rattle.std.proofs.Common.{◌∙◌, ap}
use Rattle.a_terms.specs.Typing.{type_of}
use Rattle.a_terms.specs.NodeTrees.{base, wrapped}
use Rattle.a_terms.specs.Program.{program_in}
use Rattle.a_terms.specs.Read.{maybe}
use Rattle.a_scope.specs.Scope.{scope}
use Rattle.a_scope.proofs.Scopes.{type_more_of, taken}
use Rattle.a_scope.proofs.value.type_of_wrapped.Goals as goal

pub loop-w-preserved : goal.loop-w-preserved
loop-w-preserved c = type_more_of _ _ _ c.args.v.now.wraps.items _ c.deref-w-items.ensures.value c.loop-w.w-index
    c.w-item.result (maybe c.loop-w.made) (maybe c.in_ok-made-2.made) c.loop-w-test.true c.w-item.is
    c.in_ok-made-2.ensures c.loop-w.invariant

pub returns : goal.returns
returns c = c.loop-w.invariant ∙ ap
    (λ xs. type_of (program_in c.args.program.now) (scope c.args.names c.args.vars.now)
    (wrapped (base c.args.v.now.base) xs))
    (taken c.args.v.now.wraps.items _ c.deref-w-items.ensures.value c.loop-w.w-index c.loop-w-test.false)
