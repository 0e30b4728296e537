use Rattle.std.proofs.Common.{◌++◌, List, ℕ, ap₂, arith}
use Rattle.page_core.specs.declared.piece.Piece.TheVariants.{Joined}
use Rattle.page_core.proofs.Standing.{kept, stands_new}
use Rattle.page_core.proofs.pieces.Pieces.joined.Goals as goal

pub returns-clause-keeps : goal.returns-clause-keeps
returns-clause-keeps c = kept _ _ (Joined c.args.first c.args.second) c.in_ok-push.ensures.items

pub returns-clause-stands : goal.returns-clause-stands
returns-clause-stands c s t f g =
    stands_new c.args.self.now _ (Joined c.args.first c.args.second) c.len-number.result _ c.in_ok-push.ensures.items
    (omega (arith, c.args.self.now.pieces.ok.0)) (ap₂ (λ (v w : List ℕ). v ++ w) f.is g.is)
