-- The types that are computed are those of typing.
use Rattle.std.proofs.Common.{◌≡◌, ◌∙◌, ℕ, ap, sym}
use Rattle.calc_core.specs.Typing.{NoLabels}
use Rattle.calc_core.specs.TypeOf.{untold}
use Rattle.calc_core.proofs.TypeOf.{d_type}
use Rattle.c_terms.specs.C.{CTy}
use Rattle.h_terms.specs.H.{HBlks}
use Rattle.h_terms.specs.Typing.{BlockHas}
use Rattle.let_types.specs.Hoisted.{code_type, label_type}
use Rattle.let_types.specs.Laws.{ClosedTypes, CpsTypes, HoistedTypes}

pub cps_types : CpsTypes
cps_types n g x t h = d_type NoLabels untold (λ i u e. absurd e) x n g t h

pub closed_types : ClosedTypes
closed_types n g x t h = d_type NoLabels untold (λ i u e. absurd e) x n g t h

-- a label has the type of its block
told : (ks : HBlks) (l : ℕ) (t : CTy) → BlockHas ks l t → label_type ks l ≡ t
told ks l t h = ap code_type h.1 ∙ sym h.2

pub hoisted_types : HoistedTypes
hoisted_types ks n g x t h = d_type (BlockHas ks) (label_type ks) (told ks) x n g t h
