use Rattle.std.proofs.Common.{◌≡◌, suc, ap, ap₂, ◌∙◌, length}
use Rattle.std.proofs.lemmas.Result.{on_ok_weaker}
use Rattle.t_terms.specs.Tree.{Then, St}
use Rattle.t_spill_code.proofs.Texts.{one_more, onto_none, first_filled}
use Rattle.t_spill_code.proofs.body.Body.fill_first.Goals as goal

pub returns : goal.returns
returns c =
    let b = c.args.self.now in
    let pushed = c.in_ok-push.ensures.items in
    let none : length c.append.new.other.items ≡ 0 = ap (λ xs. length xs) c.in_ok-append.ensures.other_items in
    on_ok_weaker c.put.result
    (λ h. (
      one_more b.slots.items c.push.new.self.items c.args.ty pushed ∙ ap suc c.requires,
      first_filled c.args.split.low b.done.items b.tail.items c.append.new.self.items c.put.new.code.items
          b.slots.items c.push.new.self.items c.args.ty c.requires c.in_ok-append.ensures.items pushed
          (λ rest. h rest ∙ onto_none c.append.new.other.items _ none
          ∙ ap₂ (λ r q. Then (St r 0 q) rest) c.slots.ensures c.first.ensures),
    )) c.put.ensures
