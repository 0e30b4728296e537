use Rattle.std.proofs.Common.{List, ap, sym, ◌∙◌, subst}
use Rattle.a_terms.specs.Tree as a
use Rattle.a_terms.specs.Read.{atrees}
use Rattle.a_terms.specs.Arity.{AArity}
use Rattle.a_terms.specs.NodeTrees.{a_values, a_build, no_value}
use Rattle.calc_core.specs.Row.{top, others}
use Rattle.a_terms.specs.declared.nodes.AForm.{AForm}
use Rattle.a_terms.specs.declared.nodes.AValue.{AValue}
use Rattle.t_gen_rules.specs.Gen.{uses_any}
use Rattle.t_gen.specs.Uses.{newest, AllHold, Leads, Tells}
use Rattle.t_gen.proofs.Telling.{call_uses}
use Rattle.t_gen.proofs.ahead.before.Goals as goal

pub returns-in_ok-made-in-Call-clause-told : goal.returns-in_ok-made-in-Call-clause-told
returns-in_ok-made-in-Call-clause-told c = λ ts h.
    let vs = a_values c.args.node.now.values.items in
    let us = atrees c.in-Call.field-0.items in
    let w = c.in_ok-made-in-Call.made in
    let same = c.as_slice-values.ensures.value in
    let some = subst (λ (f : AForm). AArity f vs) c.in-Call.is c.requires.arity in
    let leads = subst
    (λ (xs : List AValue). Leads c.in_ok-wants-in-Call.wants
    (a.Call (top no_value (a_values xs)) us (others (a_values xs)))) same (c.in_ok-wants-in-Call.ensures us) in
    subst (λ (f : AForm). Tells f vs ts w × AllHold (newest c.before_end.new.sets.items) (a_build f vs ts))
    (sym c.in-Call.is) (
      tt,
      c.in_ok-made-in-Call.ensures.told ts (a.Call (top no_value vs) us (others vs))
          (λ n. call_uses vs n some ∙ ap (λ (xs : List AValue). uses_any (a_values xs) n) (sym same)) leads h,
    )
