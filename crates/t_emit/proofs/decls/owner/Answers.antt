use Rattle.std.proofs.Common.{◌∙◌, sym, ap, cond}
use Rattle.a_scope.specs.Scope.{homes}
use Rattle.a_terms.specs.NodeTrees.{a_value}
use Rattle.t_gen_rules.specs.Gen.{place, free}
use Rattle.t_emit.proofs.Emitted.{owner_none, owner_var}
use Rattle.t_emit.proofs.decls.owner.Goals as goal

pub returns-then-both : goal.returns-then-both
returns-then-both c = λ u e x y.
    let m = homes c.args.vars.now in
    let n = c.in-Some.n in
    y ∙ sym (ap (λ b. cond b (free m u e) (place m n)) c.if-both.true)
    ∙ owner_var m n (a_value c.args.v.now) u e c.args.both (sym c.in-Some.is ∙ c.bare_variable.ensures) x

pub returns-else-both : goal.returns-else-both
returns-else-both c = λ u e x y.
    let m = homes c.args.vars.now in
    let n = c.in-Some.n in
    c.register_now-own.ensures ∙ sym (ap (λ b. cond b (free m u e) (place m n)) c.if-both.false)
    ∙ owner_var m n (a_value c.args.v.now) u e c.args.both (sym c.in-Some.is ∙ c.bare_variable.ensures) x

pub returns-in-None : goal.returns-in-None
returns-in-None c =
    λ u e x y. y
    ∙ owner_none (homes c.args.vars.now) (a_value c.args.v.now) u e (sym c.in-None.is ∙ c.bare_variable.ensures)
