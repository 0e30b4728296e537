use Rattle.std.proofs.Common.{ap}
use Rattle.t_types.specs.Read.{file}
use Rattle.t_terms.specs.Tree as T
use Rattle.t_terms.specs.Tree.{Ends}
use Rattle.t_terms.specs.Read.{end_of}
use Rattle.t_emit.specs.Code.{onto}
use Rattle.t_emit.proofs.Bodies.{seq_is, set_filled}
use Rattle.t_emit.proofs.blocks.close.Goals as goal

pub returns-clause-filled : goal.returns-clause-filled
returns-clause-filled c =
    let old = c.index_mut-block.result.now in
    set_filled c.args.out.now.items c.args.at old _ (onto c.args.code.items (Ends (end_of c.args.end))) c.requires
    c.index_mut-block.ensures.value
    (ap (λ (s : T.TSeq). record { owes = old.owes; file = file old.regs.regs.items; code = s })
    (seq_is c.args.code.items (end_of c.args.end)))
