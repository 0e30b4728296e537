use Rattle.std.proofs.lemmas.Result.{on_ok_weaker}
use Rattle.t_known.proofs.Noting.{noted}
use Rattle.t_known.proofs.registers.Registers.note.Goals as goal

pub returns : goal.returns
returns c = on_ok_weaker c.set.result
    (λ set ts h l b. noted ts c.args.self.now c.set.new.self c.args.r c.args.ty set h l b) c.set.ensures
