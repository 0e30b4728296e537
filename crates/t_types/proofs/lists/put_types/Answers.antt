use Rattle.std.proofs.Common.{rules}
use Rattle.idx_core.specs.Over.{putted, PutFitsAt, IsWord}
use Rattle.t_types.specs.Tree.{VarTy, over, each}
use Rattle.t_types.specs.Read.{tree}
use Rattle.t_types.proofs.Trees.{types_have, made_list}
use Rattle.t_types.proofs.lists.put_types.Goals as goal

pub loop-t-init : goal.loop-t-init
loop-t-init c =
    record {
      fits = types_have (PutFitsAt each c.args.at (tree c.args.what.now)) IsWord c.args.depth c.args.ts.now
          c.requires.fits;
      made = search rules;
    }

pub returns : goal.returns
returns c = made_list (putted VarTy over c.args.at (tree c.args.what.now)) c.args.depth c.loop-t.made.items
    c.args.ts.now c.loop-t.t-index c.loop-t.invariant.made c.loop-t-test.false
