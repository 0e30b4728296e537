use Rattle.std.proofs.Common.{refl, arith}
use Rattle.page_core.specs.declared.piece.Piece.TheVariants.{Bytes}
use Rattle.page_core.proofs.Standing.{kept, stands_new}
use Rattle.page_core.proofs.pieces.Pieces.bytes.Goals as goal

pub returns-clause-keeps : goal.returns-clause-keeps
returns-clause-keeps c = kept _ _ (Bytes c.args.bytes) c.in_ok-push.ensures.items

pub returns-clause-stands : goal.returns-clause-stands
returns-clause-stands c =
    stands_new c.args.self.now _ (Bytes c.args.bytes) c.len-number.result _ c.in_ok-push.ensures.items
    (omega (arith, c.args.self.now.pieces.ok.0)) refl
