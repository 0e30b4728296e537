use Rattle.std.proofs.Common.{◌≡◌, ◌≤◌, ◌-◌, ℕ, List, length, length-drop, drop, take, arith, ap, subst, sym, ◌∙◌}
use Rattle.std.proofs.lemmas.List.{take_all}
use Rattle.h_notation.specs.Values.{HaveValues}
use Rattle.h_notation.proofs.Standing.{tuple_done}
use Rattle.h_notation.proofs.fields.put_tuple.Goals as goal

-- the rest of a list has as many items as are left
rest_is : (k : ℕ) (xs : List ℕ) → drop k xs ≡ take (length xs - k) (drop k xs)
rest_is k xs =
    let many = length-drop k xs in
    let le : length (drop k xs) ≤ length xs - k = omega (arith, many) in sym (take_all (length xs - k) (drop k xs) le)

pub returns : goal.returns
returns c = λ n m vs h.
    let from = c.saturating_sub-from.result in
    let many : from ≡ length c.args.stack.now.items - c.args.count =
    omega (arith, c.saturating_sub-from.ensures, c.len.ensures, c.args.stack.now.ok.0) in
    tuple_done c.args.pieces.now c.join_fields.new.pieces n m from c.args.count c.args.stack.now.items
    c.truncate.new.self.items c.push.new.self.items c.in_ok-whole.whole vs c.in_ok-whole.ensures.keeps many
    (λ us s. c.in_ok-whole.ensures.stands n m us
    (subst (λ xs. HaveValues c.args.pieces.now n m xs us)
    (ap (drop from) (sym c.deref.ensures.value) ∙ rest_is from c.deref.result.now) s))
    c.truncate.ensures.items c.in_ok-push.ensures.items h
