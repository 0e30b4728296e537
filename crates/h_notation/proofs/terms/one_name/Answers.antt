use Rattle.std.proofs.Common.{◌∙◌, arith, sym, true≢false}
use Rattle.calc_core.specs.declared.types.CoreType.TheVariants.{Int}
use Rattle.h_terms.specs.Nodes.{values}
use Rattle.let_types.specs.declared.named.Named.{Named}
use Rattle.h_notation.proofs.terms.one_name.Goals as goal

pub returns-clause-types : goal.returns-clause-types
returns-clause-types c = c.in_ok-after-2.ensures (values c.args.node.now)

pub returns-clause-scope : goal.returns-clause-scope
returns-clause-scope c = λ shows. absurd (true≢false (sym shows ∙ c.if-of.false))

pub returns-clause-more : goal.returns-clause-more
returns-clause-more c =
    let e : Named = record { ty = Int; types = 0 } in (e, omega arith, c.in_ok-push.ensures.items)
