-- What a walk will have written.
use Rattle.std.specs.Prelude.{List}
use Rattle.k_terms.specs.Stream.{KNd}
use Rattle.c_terms.specs.Stream.{CNd}
use Rattle.c_terms.specs.Read.{written}
use Rattle.c_rules.specs.Emit as E
use Rattle.c_emit.specs.declared.state.Walk.{Walk}
use Rattle.c_emit.specs.Read.{frame, frames_of, infos_of, notes_of}

abbrev pub walked : Walk → List KNd → List CNd
walked w ns =
    written w.out.items (E.emit ns (frame w.current) (frames_of w.outer.items) (infos_of w.infos.items)
    (notes_of w.notes.items))
