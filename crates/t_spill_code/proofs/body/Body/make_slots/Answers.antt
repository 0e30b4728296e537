use Rattle.std.proofs.Common.{◌≡◌, List, Vec, Global, refl, length, ap, ap₂, ◌∙◌, rules}
use Rattle.std.proofs.lemmas.Result.{on_ok_weaker}
use Rattle.t_types.specs.declared.types.TType.{TType}
use Rattle.t_types.specs.Read.{types}
use Rattle.t_terms.specs.Tree.{Then, Malloc}
use Rattle.t_spill_code.specs.Onto.{onto}
use Rattle.t_spill_code.proofs.Texts.{slots_made}
use Rattle.t_spill_code.proofs.body.Body.make_slots.Goals as goal

pub returns : goal.returns
returns c =
    let b = c.args.self.now in
    let none : length c.replace-types.new.dest.items ≡ 0 =
    ap (λ (v : Vec TType Global). length v.items) c.replace-types.ensures.after
    ∙ ap (λ (xs : List TType). length xs) c.new.ensures.items in
    let count : c.len.result ≡ length b.slots.items = search rules in
    on_ok_weaker c.put.result
    (λ h. (
      refl,
      none,
      slots_made c.args.split.low b.done.items b.tail.items c.put.new.code.items b.slots.items
          (λ z. c.if-len-eq0.false (count ∙ z))
          (λ rest. h rest ∙ ap₂ (λ r (v : Vec TType Global). onto b.done.items
          (Then (Malloc r (types v.items)) rest)) c.slots.ensures c.replace-types.ensures.value),
    )) c.put.ensures
