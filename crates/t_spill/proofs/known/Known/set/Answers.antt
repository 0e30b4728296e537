use Rattle.std.proofs.Common.{refl}
use Rattle.t_spill.specs.declared.known.Entry.{Entry}
use Rattle.t_spill.specs.declared.known.Known.{Known}
use Rattle.t_spill.proofs.Knowing.{knows_set}
use Rattle.t_spill.proofs.known.Known.set.Goals as goal

pub returns : goal.returns
returns c = λ n x s.
    let k = c.args.self.now in
    let h : Known = record k { entries = c.insert.new.self } in
    let e : Entry = record { ty = c.args.ty; names = k.names } in
    knows_set n k h x c.args.r e refl refl c.in_ok-insert.ensures.updates s
