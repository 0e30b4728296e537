use Rattle.t_gen.proofs.Gapped.{gap_from, gap_here, gap_next}
use Rattle.t_gen.proofs.registers.Registers.least.Goals as goal

pub first_from-requires : goal.first_from-requires
first_from-requires c =
    let room = c.requires.room in
    record {
      some = gap_from c.args.self.now.gaps room.0 c.args.from room.1 room.2.gaps c.requires.one
          (c.in-None.ensures.none room.0 room.2.gaps c.requires.one) room.3 room.4 room.5;
    }

pub returns-in-Some : goal.returns-in-Some
returns-in-Some c = λ h k.
    let i = c.in-Some.ensures.some in
    gap_here c.args.self.now.gaps h c.args.from c.in-Some.field-0.0 c.in-Some.field-0.1 k.gaps i.0 i.1 i.2

pub returns-in-None : goal.returns-in-None
returns-in-None c = λ h k.
    let i = c.first_from.ensures in
    gap_next c.args.self.now.gaps h c.args.from c.first_from.result i.1.0 k.gaps c.requires.one
    (c.in-None.ensures.none h k.gaps c.requires.one) i.0 i.1.1 i.2
