use Rattle.std.proofs.Common.{get_or}
use Rattle.h_notation.proofs.Standing.{item, joining_end, joining_more}
use Rattle.h_notation.proofs.fields.join_fields.Goals as goal

pub loop-i-preserved : goal.loop-i-preserved
loop-i-preserved c =
    joining_more c.args.pieces.now c.loop-i.pieces c.join_field.new.pieces c.args.fields.now c.loop-i.i c.loop-i.piece
    (get_or c.args.fields.now c.loop-i.i 0) c.in_ok-piece-2.piece
    (item c.args.fields.now c.loop-i.i c.loop-i-test.true) c.loop-i-test.true c.loop-i.invariant
    c.in_ok-piece-2.ensures.keeps c.in_ok-piece-2.ensures.stands

pub returns-clause-keeps : goal.returns-clause-keeps
returns-clause-keeps c =
    λ x s h. c.in_ok-whole.ensures.keeps x s (c.in_ok-close.ensures.keeps x s (c.loop-i.invariant.keeps x s h))

pub returns-clause-stands : goal.returns-clause-stands
returns-clause-stands c =
    joining_end c.args.pieces.now c.loop-i.pieces c.bytes-2.new.self c.joined.new.self c.args.fields.now c.loop-i.i
    c.loop-i.piece c.in_ok-close.close c.in_ok-whole.whole c.in_ok-close_angle.close_angle.items c.loop-i-test.false
    c.loop-i.invariant c.in_ok-close_angle.ensures.items c.in_ok-close.ensures.keeps c.in_ok-close.ensures.stands
    c.in_ok-whole.ensures.stands
