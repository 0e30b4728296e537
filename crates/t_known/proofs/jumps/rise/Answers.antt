use Rattle.std.proofs.Common.{rules, nat_lt}
use Rattle.std.proofs.lemmas.List.Sorted.{answers_always}
use Rattle.t_known.proofs.Rising.{rises_told}
use Rattle.t_known.proofs.jumps.rise.Goals as goal

pub returns : goal.returns
returns c = λ ts. rises_told ts c.args.regs.now c.is_sorted_by.result
    (c.is_sorted_by.ensures.cases (λ x y. nat_lt x.0 y.0) (answers_always _ _ _ (λ f a r g called. search rules)))
