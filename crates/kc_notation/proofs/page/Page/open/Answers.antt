use Rattle.std.proofs.Common.{◌+◌, [], refl, ap, ◌∙◌, sym, subst}
use Rattle.kc_notation.specs.declared.page.Body.{Body}
use Rattle.kc_notation.specs.declared.page.Scope.{Scope}
use Rattle.kc_notation.specs.Standing.{IsBody, HaveTexts}
use Rattle.kc_notation.specs.ClosedWalk.{lines, scope_of}
use Rattle.kc_notation.proofs.Turns.{open_page}
use Rattle.kc_notation.proofs.page.Page.open.Goals as goal

pub returns : goal.returns
returns c = λ p h.
    let q = c.bytes.new.self in
    open_page c.args.self.now (record c.args.self.now { around = c.push_front.new.self }) c.replace-outer.new.dest
    c.replace-outer.result q c.args.head.items c.args.types p c.in_ok-text.ensures.keeps
    c.replace-outer.ensures.value
    c.in_ok-push_front.ensures.items
    (subst (λ (b : Body). IsBody q b (lines c.args.head.items (scope_of c.args.types (p.body.scope.indent + 1)) []))
    (sym c.replace-outer.ensures.after)
    (record {
      text = c.in_ok-text.ensures.stands;
      values = subst (λ is. HaveTexts q is []) (sym c.new.ensures.items) tt;
      called = refl;
      scope =
          ap (λ i. scope_of c.args.types i) (c.in_ok-indent.ensures ∙ ap (λ (s : Scope). s.indent + 1) h.body.scope);
      branches = c.new-2.ensures.items;
    }))
    h
