-- The numbers and the words of the statuses.
use Rattle.std.specs.Prelude.{ℕ, List, codes}
use Rattle.talc_core.specs.declared.status.Status.{Status}
use Rattle.talc_core.specs.declared.status.Status.TheVariants.{Done, Refused, Usage, Limit}
use Rattle.talc_core.specs.declared.status.Status.TheVariants.{Budget, ReadFault, WriteFault, Memory}

-- what the process ends with
abbrev pub number_of : Status → ℕ
number_of Done = 0
number_of Refused = 1
number_of Usage = 2
number_of Limit = 3
number_of Budget = 4
number_of ReadFault = 5
number_of WriteFault = 6
number_of Memory = 7

-- a status as it is shown
abbrev pub status_words : Status → List ℕ
status_words Done = codes "done"
status_words Refused = codes "refused"
status_words Usage = codes "no command"
status_words Limit = codes "limit passed"
status_words Budget = codes "budget used up"
status_words ReadFault = codes "read fault"
status_words WriteFault = codes "write fault"
status_words Memory = codes "out of memory"
