use Rattle.std.proofs.Common.{inl, inr}
use Rattle.talc_core.specs.Steps.{told_of}
use Rattle.talc_core.proofs.commands.explain.explanation.Goals as goal

pub returns-in_ok-line-in-NoFault : goal.returns-in_ok-line-in-NoFault
returns-in_ok-line-in-NoFault c =
    let taken = rw c.in-NoFault.is at c.in_ok-find_fault.ensures in
    inr (record { taken = taken; is = c.in_ok-line-in-NoFault.ensures.items })

pub returns-in_ok-page-in-Fault : goal.returns-in_ok-page-in-Fault
returns-in_ok-page-in-Fault c =
    let found = rw c.in-Fault.is at c.in_ok-find_fault.ensures in
    inl (record {
      fault = c.in-Fault.fault;
      first = found.0;
      told = told_of c.in-Fault.told;
      at_odds = found.1;
      is = c.in_ok-page-in-Fault.ensures;
    })
