use Rattle.std.proofs.Common.{◌≡◌, ◌∷◌, rules, sym, subst}
use Rattle.std.proofs.lemmas.Result.{on_ok_weaker}
use Rattle.kc_notation.specs.declared.page.Body.{Body}
use Rattle.kc_notation.specs.Standing.{IsPage}
use Rattle.kc_notation.proofs.Turns.{leave_page}
use Rattle.kc_notation.proofs.page.Page.leave.Goals as goal

pub returns : goal.returns
returns c =
    let out : c.args.self.now.around.items ≡ c.in-Some.outer ∷ c.pop_front.new.self.items = search rules in
    on_ok_weaker c.push.result
    (λ f p h.
    leave_page c.args.self.now (record c.args.self.now { around = c.pop_front.new.self }) c.shut.new.self
    c.push.new.self
    c.in-Some.outer c.bytes.new.self c.joined.new.self c.in_ok-text.text c.in_ok-end.end c.in_ok-code.code _ p
    out c.in_ok-text.ensures.shut c.in_ok-text.ensures.keeps c.in_ok-line.ensures c.in_ok-end.ensures.keeps
    c.in_ok-end.ensures.stands c.in_ok-code.ensures.keeps c.in_ok-code.ensures.stands
    (λ r v g st.
    f r v
    (subst (λ (b : Body). IsPage (record c.shut.new.self { pieces = c.joined.new.self; body = b }) r)
    (sym c.replace.ensures.after) g)
    st)
    h)
    c.push.ensures
