use Rattle.std.proofs.Common.{◌≡◌, List, ℕ, sym, ap, subst, ◌∙◌, length, rules}
use Rattle.std.specs.BTreeMap.{keys}
use Rattle.std.specs.Set.{is_member}
use Rattle.std.specs.Ordering.{nat_cmp, eq_by_cmp}
use Rattle.t_spill_rules.specs.Spill.{among}
use Rattle.t_spill_code.specs.Homes.{Ascending}
use Rattle.t_spill_code.proofs.Listed.{ascending, member_is, all_listed}
use Rattle.t_spill_code.proofs.homes.Homes.registers.Goals as goal

pub returns : goal.returns
returns c =
    let made = c.loop-r.made.items in
    let ks = keys c.args.self.now.places in
    let none : length c.loop-r.r-iterator ≡ 0 = search rules in
    let same = all_listed made c.loop-r.r-iterator ks none c.loop-r.invariant in (
      subst Ascending (sym same) (ascending ks c.keys-r-items.ensures.ordered),
      λ r. ap (among r) same ∙ sym (c.keys-r-items.ensures.has r
          ∙ ap (λ (qs : List ℕ). is_member (eq_by_cmp nat_cmp) qs r) c.keys-r-items.ensures.rest ∙ member_is ks r),
    )
