-- The walks in turn.
use Rattle.std.proofs.Common.{◌≡◌, ap, ap₂, ◌∙◌, refl, List, []}
use Rattle.k_terms.specs.K.{KTm}
use Rattle.k_terms.specs.Stream.{klin_t}
use Rattle.c_terms.specs.Stream.{clin_t}
use Rattle.c_rules.specs.Free.{IsClosed}
use Rattle.c_rules.specs.Close.{close_of}
use Rattle.c_rules.specs.Emit.{emit}
use Rattle.c_rules.specs.Know.{Known, Clue, know}
use Rattle.c_rules.specs.TSweep.{zipped}
use Rattle.c_laws.specs.Walks.{top_frame, top_side, walks}
use Rattle.c_laws.proofs.Fusion.{emit_is_close}
use Rattle.c_laws.proofs.Sweeping.{sweep_finds}
use Rattle.c_laws.proofs.TSweeping.{tsweep_finds, zip_is}
use Rattle.c_laws.proofs.Knows.{know_is}

pub walks_close : (t : KTm) → IsClosed t → walks (klin_t 0 0 [] t []) ≡ clin_t 0 (close_of t) []
walks_close t h =
    let ns = klin_t 0 0 [] t [] in
    ap (λ (k : Known). emit ns top_frame [] k.infos k.notes)
    (ap (λ (cs : List Clue). know ns [] top_side [] cs)
    (ap₂ zipped (sweep_finds t h.0) (tsweep_finds t h.1) ∙ zip_is t) ∙ know_is t h.1)
    ∙ emit_is_close t top_frame refl refl h.0
