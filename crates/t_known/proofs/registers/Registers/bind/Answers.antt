use Rattle.std.proofs.Common.{refl}
use Rattle.t_known.proofs.Noting.{bound_known, bound_sound}
use Rattle.t_known.proofs.registers.Registers.bind.Goals as goal

pub returns-clause-known : goal.returns-clause-known
returns-clause-known c = λ ts h. bound_known ts c.args.self.now _ refl refl refl refl h

pub returns-clause-sound : goal.returns-clause-sound
returns-clause-sound c = λ ts h. bound_sound ts c.args.self.now _ refl refl refl refl c.requires h
