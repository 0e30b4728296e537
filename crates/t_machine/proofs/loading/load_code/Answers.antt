use Rattle.std.proofs.Common.{map, sym, subst}
use Rattle.t_terms.specs.Read.{blocks_of}
use Rattle.t_rules.specs.Erase.{erase_block}
use Rattle.t_machine.specs.Heap.{AllStarted}
use Rattle.t_machine.proofs.Joining.{same_blocks, same_moved}
use Rattle.t_machine.proofs.loading.load_code.Goals as goal

pub returns-clause-code : goal.returns-clause-code
returns-clause-code c =
    let x = c.in_ok-code.code in
    same_blocks x.places x.entries.items x.instructions.items c.join_pairs.new.instructions.items x.entries.items
    (map erase_block (blocks_of c.args.blocks.now)) c.join_pairs.ensures.same c.in_ok-code.ensures.code

pub returns-clause-started : goal.returns-clause-started
returns-clause-started c =
    subst (AllStarted c.args.starts.now)
    (sym (same_moved c.in_ok-code.code.instructions.items c.join_pairs.new.instructions.items
    c.join_pairs.ensures.same))
    c.in_ok-code.ensures.started
