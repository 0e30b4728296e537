use Rattle.std.proofs.Common.{sym, subst, ◌∙◌, ap}
use Rattle.std.specs.Prelude.{◌||◌, ◌&&◌, not}
use Rattle.a_terms.specs.NodeTrees.{a_values, no_term, no_value}
use Rattle.calc_core.specs.Row.{top, others}
use Rattle.a_terms.specs.Tree as a
use Rattle.t_gen_rules.specs.Gen.{used, uses_any}
use Rattle.t_gen.specs.Uses.{has, mem, Listed}
use Rattle.t_gen.proofs.Telling.{popped, pushed, if_holds, if_gone}
use Rattle.t_gen.proofs.Sets.{listed_mem}
use Rattle.t_gen.proofs.ahead.before_if.Goals as goal

pub returns-clause-told : goal.returns-clause-told
returns-clause-told c = λ ts h.
    let vs = a_values c.args.values.now in
    let x = top no_term ts in
    let y = top no_term (others ts) in
    let p = popped c.args.sets.now.items c.pop.new.self.items c.in-Some.second ts c.in-Some.ensures.items h in
    let q = popped c.pop.new.self.items c.pop-2.new.self.items c.in-Some-pop.other
    (others ts) c.in-Some-pop.ensures.items p.2 in
    let listed = c.in_ok-third.ensures (used y) q.0 in
    let listed2 = subst (Listed (used y) 0) (sym c.deref-2.ensures.value) listed in (
      (
        listed,
        if_gone vs x c.in-Some.second.used (used y) (mem c.missing.new.numbers.items)
            (mem c.missing_of.new.numbers.items) (mem c.in_ok-third.third.items) c.requires.arity p.0
            (λ i. listed_mem c.in_ok-third.third.items (used y) i listed)
            (λ i. c.in_ok-missing.ensures i
            ∙ ap (λ xs. mem xs i || (uses_any vs i && not (has c.in-Some.second.used i))) c.new-gone.ensures.items)
            (λ i. c.in_ok-missing_of.ensures i
            ∙ ap (λ xs. mem c.missing.new.numbers.items i || (mem xs i && not (has c.in-Some.second.used i)))
            c.deref.ensures.value),
      ),
      pushed c.pop-2.new.self.items _ _ (a.If0 (top no_value vs) x y) (others (others ts)) c.in_ok-push.ensures.items
          (if_holds vs x y c.in-Some.second.used c.note_all.new.used (has c.add_all.new.used) c.requires.arity p.0
          (c.in_ok-add_all.ensures (used y) listed2) c.in_ok-note_all.ensures) p.1 q.2,
    )
