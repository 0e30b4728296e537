use Rattle.std.proofs.Common.{◌∷◌, [], ◌++◌, ◌∙◌, ap, ap₂, List, ℕ}
use Rattle.std.proofs.lemmas.List.{take_all}
use Rattle.t_types.specs.Tree.{NoRegs}
use Rattle.t_types.specs.Read.{file}
use Rattle.t_types.specs.declared.types.TType.{TType}
use Rattle.t_terms.specs.Read.{blocks_of}
use Rattle.t_terms.specs.declared.block.Block.{Block}
use Rattle.t_emit.specs.Code.{reserved}
use Rattle.t_gen.specs.Filling.{reserves}
use Rattle.t_gen_rules.specs.Gen.{ty_args}
use Rattle.a_terms.specs.Read.{atrees}
use Rattle.a_terms.specs.NodeTrees.{a_blocks}
use Rattle.t_gen.proofs.Bodies.{reserves_push}
use Rattle.t_gen.proofs.program.reserve_all.Goals as goal

pub loop-block-init : goal.loop-block-init
loop-block-init c =
    c.in_ok-reserve.ensures
    ∙ ap₂ (λ (xs : List Block) (rs : List (ℕ × TType)). blocks_of xs ++ reserved 0 (file rs) ∷ [])
    c.new-out.ensures.items c.new.ensures.items

pub loop-block-preserved : goal.loop-block-preserved
loop-block-preserved c =
    reserves_push c.args.blocks.now c.loop-block.block-index c.block-item.result _ _ _ c.loop-block-test.true
    c.block-item.is c.in_ok-reserve-2.ensures
    (c.in_ok-regs.ensures ∙ ap (λ xs. ty_args (atrees xs) 1) c.deref.ensures.value) c.loop-block.invariant

pub returns : goal.returns
returns c = c.loop-block.invariant
    ∙ ap (λ xs. reserved 0 NoRegs ∷ reserves (a_blocks xs))
    (take_all c.loop-block.block-index c.args.blocks.now c.loop-block-test.false)
