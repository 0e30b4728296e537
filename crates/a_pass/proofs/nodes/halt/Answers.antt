use Rattle.std.proofs.Common.{refl}
use Rattle.a_pass.proofs.Stepping.{halt_stepped}
use Rattle.a_pass.proofs.nodes.halt.Goals as goal

pub returns : goal.returns
returns c = halt_stepped c.args.progress.now _ c.args.place c.args.run c.in_ok-values.values.items c.requires.names
    c.requires.bound c.in_ok-values.ensures refl refl c.in_ok-end.ensures
