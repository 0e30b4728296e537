use Rattle.std.proofs.Common.{List, ℕ, subst}
use Rattle.t_types.specs.Tree.{CodeTy}
use Rattle.t_types.specs.Read.{file}
use Rattle.t_types.specs.declared.types.TType.{TType}
use Rattle.t_intern.specs.Grown.{IsNumber}
use Rattle.t_intern.proofs.Growing.{grown_next, numbers_next, numbers_all}
use Rattle.t_known.specs.Labels.{code_type}
use Rattle.t_known.proofs.labels.number_blocks.Goals as goal

pub loop-block-preserved : goal.loop-block-preserved
loop-block-preserved c =
    let l = c.loop-block in
    let x = c.block-item.result in
    let number =
    subst (λ (rs : List (ℕ × TType)). IsNumber c.number_code.new.self (CodeTy x.owes (file rs)) c.in_ok-n.n)
    c.deref.ensures.value c.in_ok-n.ensures.number in
    record {
      grown = grown_next _ _ _ l.invariant.grown c.in_ok-n.ensures.grown;
      made = numbers_next code_type l.types c.number_code.new.self c.args.blocks.now l.block-index x l.made.items
          c.push.new.self.items c.in_ok-n.n c.loop-block-test.true c.block-item.is l.invariant.made
          c.in_ok-n.ensures.grown number c.in_ok-push.ensures.items;
    }

pub returns-clause-numbers : goal.returns-clause-numbers
returns-clause-numbers c =
    numbers_all code_type c.loop-block.types c.args.blocks.now c.loop-block.block-index c.loop-block.made.items
    c.loop-block-test.false c.loop-block.invariant.made
