use Rattle.std.proofs.Common.{◌+◌, refl}
use Rattle.t_spill.specs.declared.known.Known.{Known}
use Rattle.t_spill.proofs.Knowing.{knows_bound}
use Rattle.t_spill.proofs.known.Known.bind.Goals as goal

pub returns : goal.returns
returns c = λ n x s.
    let h : Known = record c.args.self.now { names = c.args.self.now.names + 1 } in
    knows_bound n c.args.self.now h x refl refl s
