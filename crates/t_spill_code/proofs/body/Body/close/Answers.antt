use Rattle.std.proofs.Common.{◌≡◌, [], ap, length}
use Rattle.t_spill_code.specs.Homes.{text}
use Rattle.t_spill_code.proofs.Texts.{closed}
use Rattle.t_spill_code.proofs.body.Body.close.Goals as goal

pub returns : goal.returns
returns c =
    let m = c.args.split.low in
    let b = c.make_slots.new.self in
    let k = c.in_ok-make_slots.ensures in
    let none : length c.append.new.other.items ≡ 0 = ap (λ xs. length xs) c.in_ok-append.ensures.other_items in
    let done = closed m b.done.items b.tail.items c.append.new.self.items c.append.new.other.items b.slots.items
    (λ rest. text m c.args.self.now [] rest) k.1 none c.in_ok-append.ensures.items k.2 in
    (k.1, done.0, done.1)
