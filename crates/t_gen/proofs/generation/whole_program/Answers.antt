use Rattle.std.proofs.Common.{◌∙◌, ap}
use Rattle.t_terms.specs.Spanned.{plain_program}
use Rattle.a_terms.specs.Program.{program_in, main_in}
use Rattle.t_gen.proofs.Wholes.{both, in_range}
use Rattle.t_gen.proofs.generation.whole_program.Goals as goal

pub new-requires : goal.new-requires
new-requires c =
    let p = program_in c.args.program.now in
    let main = main_in c.args.program.now in
    let same =
    both p main _ _ _ _ c.in_ok-blocks.ensures c.main.ensures.same c.in_ok-heap.ensures c.data.ensures.same in
    in_range p main _ c.invariant_is_kept.ensures same c.args.program.now.bound

pub returns : goal.returns
returns c =
    ap plain_program c.new.ensures
    ∙ both (program_in c.args.program.now) (main_in c.args.program.now) _ _ _ _ c.in_ok-blocks.ensures
    c.main.ensures.same c.in_ok-heap.ensures c.data.ensures.same
