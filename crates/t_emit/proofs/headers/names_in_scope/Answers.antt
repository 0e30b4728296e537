use Rattle.std.proofs.Common.{◌-◌, ◌++◌, map, ap, ◌∙◌, arith}
use Rattle.t_types.specs.Read.{tree}
use Rattle.t_gen_rules.specs.Gen.{tvars}
use Rattle.t_emit.proofs.Names.{names_step}
use Rattle.t_emit.proofs.headers.names_in_scope.Goals as goal

pub loop-left-preserved : goal.loop-left-preserved
loop-left-preserved c = record {
  made =
      ap (λ xs. map tree xs ++ tvars (c.loop-left.left - 1)) c.in_ok-push.ensures.items
      ∙ names_step c.loop-left.types.items c.loop-left.left (c.loop-left.left - 1)
      (omega (arith, c.loop-left-test.true))
      ∙ c.loop-left.invariant.made;
}
