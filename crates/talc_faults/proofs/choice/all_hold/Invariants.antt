use Rattle.std.proofs.Common.{◌≡◌, drop}
use Rattle.talc_faults.specs.Choice.{all_hold, lent_tests, read}
use Rattle.talc_faults.proofs.choice.all_hold.Given as goal

abbrev pub invariant-loop-test : goal.invariant-loop-test
invariant-loop-test l = all_hold (read l.facts) (lent_tests l.tests)
    ≡ all_hold (read l.facts) (lent_tests (drop l.test-index l.tests))
