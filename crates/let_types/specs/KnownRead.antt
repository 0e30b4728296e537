-- What the code knows, as plain names and values.
use Rattle.std.specs.Prelude.{map}
use Rattle.calc_core.specs.Read.{tree}
use Rattle.let_types.specs.Known as k
use Rattle.let_types.specs.declared.closed.Frame.{Frame}
use Rattle.let_types.specs.declared.closed.Known.{Known}
use Rattle.let_types.specs.declared.closed.Seen.{Seen}
use Rattle.let_types.specs.declared.named.Named.{Named}

abbrev pub entry : Named → k.Entry
entry e = record { ty = tree e.ty; types = e.types }

abbrev pub seen : Seen → k.Seen
seen s = record { level = s.level; own = entry s.own }

abbrev pub frame : Frame → k.Frame
frame f = record { names = map entry f.names.items; values = map seen f.values.items }

abbrev pub known : Known → k.Known
known κ = record { body = frame κ.body; around = map frame κ.around.items }
