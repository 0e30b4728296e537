use Rattle.t_terms.specs.ReadProgram.{program}
use Rattle.t_check.specs.Checked.{checked_program}
use Rattle.talc_core.proofs.commands.cost.first_count.Goals as goal

pub returns : goal.returns
returns c =
    let p = checked_program c.args.program.now in
    let P = program p in
    let stands = c.in_ok-machine.ensures.stands in
    let went = c.in_ok-counted.ensures.went P p.whole.0 c.requires 0 stands in
    record {
      told = went.answer;
      block = c.place-place.result.0;
      place = c.place-place.ensures P _ went.stands;
      times = c.in_ok-counted.ensures.counts P p.whole.0 c.requires 0 stands;
    }
