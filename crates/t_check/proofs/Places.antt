-- A checker at its place, as the types grow.
use Rattle.std.proofs.Common.{◌≡◌, ℕ, zero, suc, ◌<◌, List, [], ◌∷◌, length, get_or, refl, arith}
use Rattle.t_types.specs.Tree.{Ty}
use Rattle.t_intern.specs.Grown.{Grown}
use Rattle.t_check.specs.Verdict.{KnowsByNumber}
use Rattle.t_check.specs.declared.checker.Checker.{Checker}
use Rattle.t_known.proofs.Noting.{sound_grown}
use Rattle.t_known.proofs.Numbering.{labels_grown}

pub place_grown : (ts us : List Ty) (c : Checker) → Grown ts us → KnowsByNumber ts c → KnowsByNumber us c
place_grown ts us c g h =
    record {
      sound = sound_grown ts us g c.registers h.sound;
      labels = labels_grown ts us c.program.now c.labels.now g h.labels;
    }

-- an item of a list
pub item_there : {A : Type 0} (xs : List A) (i : ℕ) → i < length xs → (x : A) × (x ≡ get_or xs i x)
item_there [] i l = absurd (omega (arith, l))
item_there (x ∷ xs) zero l = (x, refl)
item_there (x ∷ xs) (suc i) l = item_there xs i (omega (arith, l))
