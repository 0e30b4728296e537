use Rattle.std.proofs.Common.{◌-◌, sym, subst, arith}
use Rattle.t_gen.proofs.Sets.{Taken, taken_one, taken_all, nil_from, above_all}
use Rattle.t_gen.proofs.used.list.Goals as goal

pub loop-key-preserved-in-Continue-1 : goal.loop-key-preserved-in-Continue-1
loop-key-preserved-in-Continue-1 c =
    let o = c.args.used.offset in
    let k = c.in-Some.key in
    let all = c.args.used.keys.keys in
    let new = c.pop_first.new.self.keys in
    subst (Taken o all new) (sym c.in_ok-push.ensures.items)
    (taken_one o k (k - o) all c.loop-key.left.keys new c.loop-key.numbers.items
    (omega (arith, c.if-key-offset.true)) c.in-Some.ensures.removal (above_all k new c.in-Some.ensures.all_above)
    c.loop-key.invariant)

pub returns : goal.returns
returns c = λ u h. taken_all c.args.used.offset c.args.used.keys.keys c.loop-key.left.keys c.loop-key.numbers.items u
    (nil_from c.loop-key.left.keys c.in_default.ensures.variant.1) c.loop-key.invariant h
