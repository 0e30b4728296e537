use Rattle.std.proofs.Common.{◌≡◌, ◌∷◌, rules}
use Rattle.kc_notation.proofs.Turns.{turn_page}
use Rattle.kc_notation.proofs.page.Page.turn.Goals as goal

pub returns : goal.returns
returns c = λ p h.
    let g = c.args.self.now in
    let out : g.body.branches.items ≡ c.in-Some.scope ∷ c.pop_front.new.self.items = search rules in
    turn_page g (record g { body = record g.body { branches = c.pop_front.new.self } }) c.shut.new.self
    (record g { body = record g.body { values = c.new.result } }) c.in-Some.scope c.bytes.new.self c.joined.new.self
    c.in_ok-text.text c.in_ok-end.end c.in_ok-self.field-0 c.in_ok-indent.indent _ p
    out c.in_ok-text.ensures.shut c.in_ok-line.ensures c.in_ok-indent.ensures c.in_ok-end.ensures.keeps
    c.in_ok-end.ensures.stands c.in_ok-self.ensures.keeps c.in_ok-self.ensures.stands c.new.ensures.items h
