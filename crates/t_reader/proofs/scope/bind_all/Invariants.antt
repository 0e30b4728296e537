use Rattle.std.proofs.Common.{◌≡◌, drop}
use Rattle.t_text.specs.Names.{bind}
use Rattle.t_reader.proofs.scope.bind_all.Given as goal

abbrev pub invariant-loop-name : goal.invariant-loop-name
invariant-loop-name l = bind l.text l.names l.initial.scope ≡ bind l.text (drop l.name-index l.names) l.scope
