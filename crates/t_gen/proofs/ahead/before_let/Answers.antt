use Rattle.std.proofs.Common.{◌∙◌, ap}
use Rattle.std.specs.Prelude.{◌||◌, ◌&&◌, not}
use Rattle.t_gen_rules.specs.Gen.{uses_any}
use Rattle.a_terms.specs.NodeTrees.{a_values, a_decl, no_term}
use Rattle.calc_core.specs.Row.{top, others}
use Rattle.a_terms.specs.Tree as a
use Rattle.t_gen.specs.Uses.{has, mem}
use Rattle.t_gen.proofs.Telling.{popped, pushed, let_holds, let_gone}
use Rattle.t_gen.proofs.ahead.before_let.Goals as goal

pub returns-clause-told : goal.returns-clause-told
returns-clause-told c = λ ts h.
    let vs = a_values c.args.values.now in
    let f = c.args.form.now in
    let e = top no_term ts in
    let p = popped c.args.sets.now.items c.pop.new.self.items c.in-Some.rest ts c.in-Some.ensures.items h in (
      (
        c.in_ok-named.ensures e p.0,
        c.in_ok-new.ensures ∙ p.0 0,
        let_gone f vs e c.in-Some.rest.used c.outside.new.used (mem c.missing.new.numbers.items) c.requires.form
            c.requires.arity p.0 c.in_ok-outside.ensures
            (λ i. c.in_ok-missing.ensures i
            ∙ ap (λ xs. mem xs i || (uses_any vs i && not (has c.outside.new.used i))) c.new-gone.ensures.items),
        c.last_wanted-wanted.ensures ∙ p.1.1 0,
        p.1.0,
      ),
      pushed c.pop.new.self.items _ _ (a.Let (a_decl f vs) e) (others ts) c.in_ok-push.ensures.items
          (let_holds f vs e c.in-Some.rest.used c.note_all.new.used (has c.outside.new.used) c.requires.form
          c.requires.arity p.0 c.in_ok-outside.ensures c.in_ok-note_all.ensures)
          (c.in_ok-leave.ensures (a_decl f vs) e p.1) p.2,
    )
