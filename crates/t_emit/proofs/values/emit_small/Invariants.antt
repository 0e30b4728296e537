use Rattle.std.proofs.Common.{◌≡◌, take}
use Rattle.t_terms.specs.Tree.{TSeq}
use Rattle.t_terms.specs.Read.{value}
use Rattle.t_emit.specs.Code.{onto, places}
use Rattle.t_gen_rules.specs.Gen.{small, unnest}
use Rattle.a_terms.specs.NodeTrees.{base, wrapped}
use Rattle.t_emit.proofs.values.emit_small.Given as goal

abbrev pub invariant-loop-w : goal.invariant-loop-w
invariant-loop-w l = record {
  made : value l.made
      ≡ small l.emitter.spare (places l.emitter.vars.now l.saved)
      (wrapped (base l.v.base) (take l.w-index l.v.wraps.items));
  code : (rest : TSeq) →
      onto l.code.items rest
      ≡ onto l.fn.code.items
      (unnest l.emitter.spare (places l.emitter.vars.now l.saved)
      (wrapped (base l.v.base) (take l.w-index l.v.wraps.items)) rest);
}
