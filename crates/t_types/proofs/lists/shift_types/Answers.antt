use Rattle.std.proofs.Common.{rules}
use Rattle.idx_core.specs.Over.{shifted, ShiftFitsAt, IsWord}
use Rattle.t_types.specs.Tree.{VarTy}
use Rattle.t_types.proofs.Trees.{types_have, made_list}
use Rattle.t_types.proofs.lists.shift_types.Goals as goal

pub loop-t-init : goal.loop-t-init
loop-t-init c =
    record {
      fits = types_have (ShiftFitsAt c.args.by) IsWord c.args.cut c.args.ts.now c.requires;
      made = search rules;
    }

pub returns : goal.returns
returns c = made_list (shifted VarTy c.args.by) c.args.cut c.loop-t.made.items c.args.ts.now c.loop-t.t-index
    c.loop-t.invariant.made c.loop-t-test.false
