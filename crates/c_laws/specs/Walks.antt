-- The walks in turn.
use Rattle.std.specs.Prelude.{◌≡◌, List, [], false}
use Rattle.k_terms.specs.K.{KTm}
use Rattle.k_terms.specs.Stream.{KNd, klin_t}
use Rattle.c_terms.specs.C.{TCInt, NoCTys}
use Rattle.c_terms.specs.Stream.{CNd, clin_t}
use Rattle.c_rules.specs.Free.{IsClosed}
use Rattle.c_rules.specs.Close.{close_of}
use Rattle.c_rules.specs.Emit.{Frame, emit}
use Rattle.c_rules.specs.Sweep.{sweep}
use Rattle.c_rules.specs.TSweep.{tsweep, zipped}
use Rattle.c_rules.specs.Know.{Side, Known, know}

-- outside every code
abbrev pub top_frame : Frame
top_frame =
    record { level = 0; split = 0; first = 0; start = 0; kept = []; apply = NoCTys; hidden = TCInt; shape = TCInt }

abbrev pub top_side : Side
top_side = record { depth = 0; owes = 0; kept = []; calling = false }

-- the free variables and type variables of codes from the last node to the first, then the types, then the nodes
abbrev pub all_known : List KNd → Known
all_known ns = know ns [] top_side [] (zipped (sweep ns).found (tsweep ns).found)

abbrev pub walks : List KNd → List CNd
walks ns = emit ns top_frame [] (all_known ns).infos (all_known ns).notes

-- the walks along the nodes of a closed term give those of the converted term
abbrev pub WalksClose : Type 0
WalksClose = (t : KTm) → IsClosed t → walks (klin_t 0 0 [] t []) ≡ clin_t 0 (close_of t) []
