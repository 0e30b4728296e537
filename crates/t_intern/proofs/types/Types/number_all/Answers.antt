use Rattle.t_types.specs.Read.{tree}
use Rattle.t_intern.proofs.Growing.{grown_next, numbers_next, numbers_all}
use Rattle.t_intern.proofs.types.Types.number_all.Goals as goal

pub loop-t-preserved : goal.loop-t-preserved
loop-t-preserved c =
    let l = c.loop-t in
    let x = c.t-item.result in
    record {
      grown = grown_next _ _ _ l.invariant.grown c.in_ok-n.ensures.grown;
      made = numbers_next tree l.self c.number.new.self c.args.ts.now l.t-index x l.made.items c.push.new.self.items
          c.in_ok-n.n c.loop-t-test.true c.t-item.is l.invariant.made c.in_ok-n.ensures.grown c.in_ok-n.ensures.number
          c.in_ok-push.ensures.items;
    }

pub returns-clause-numbers : goal.returns-clause-numbers
returns-clause-numbers c =
    numbers_all tree c.loop-t.self c.args.ts.now c.loop-t.t-index c.loop-t.made.items c.loop-t-test.false
    c.loop-t.invariant.made
