use Rattle.std.proofs.Common.{◌+◌, ◌≡◌, ◌∙◌, ap, ◌∷◌, rules, arith, suc, length, List, ℕ}
use Rattle.h_pass.specs.declared.state.Open.{Open}
use Rattle.h_pass.proofs.state.Walk.begin.Goals as goal
use Rattle.h_pass.proofs.Stepping.{begin_goes}

pub returns : goal.returns
returns c = λ rest p st.
    let label = c.len-label.result in
    let n = c.len.result + 1 in
    let count : n ≡ suc (length c.args.args.items) = omega (arith, c.len.ensures) in
    let after = c.replace-outer.ensures.after in
    begin_goes rest c.args.self.now c.args.owes c.args.args c.in_ok-body.body c.put.new.parts
    c.replace-outer.new.dest c.replace-outer.result c.push_front-2.new.self.items label n c.push.new.self.items p
    c.in_ok-push.ensures.items c.in_ok-body.ensures (search rules) count c.in_ok-put.ensures
    c.replace-outer.ensures.value c.in_ok-push_front-2.ensures.items
    (ap (λ (o : Open). o.own) after) (ap (λ (o : Open). o.nodes.items) after ∙ c.new.ensures.items)
    (ap (λ (o : Open). o.parts.items) after ∙ c.new-2.ensures.items) (ap (λ (o : Open). o.call) after)
    (ap (λ (o : Open). o.depths.items) after ∙ c.in_ok-push_front.ensures.items
    ∙ ap (λ (xs : List ℕ). n ∷ xs) c.new-depths.ensures.items) st
