use Rattle.let_types.proofs.Stacking.{of_more}
use Rattle.let_types.proofs.hoisted.put.Goals as goal

pub returns : goal.returns
returns c = λ ks g vs v is h.
    of_more ks g c.args.stack.now.items c.push.new.self.items vs c.args.t v c.in_ok-push.ensures.items is h
