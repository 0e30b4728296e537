use Rattle.std.proofs.Common.{◌≡◌, ◌∷◌, map, take}
use Rattle.c_terms.specs.C.{TCCode}
use Rattle.c_terms.specs.Read.{ctys}
use Rattle.let_types.specs.Known.{entry_of}
use Rattle.let_types.specs.KnownRead.{entry}
use Rattle.let_types.proofs.Knowing.{argument}
use Rattle.let_types.proofs.closed.names_of_code.Given as goal

abbrev pub invariant-loop-t : goal.invariant-loop-t
invariant-loop-t l =
    map entry l.names.items
    ≡ entry_of (TCCode l.owes (ctys l.args)) l.owes ∷ map (argument l.owes) (take l.t-index l.args)
