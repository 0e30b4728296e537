use Rattle.std.proofs.Common.{◌≡◌, ◌∷◌, rules, refl}
use Rattle.h_pass.proofs.state.Walk.close.Goals as goal
use Rattle.h_pass.proofs.Stepping.{close_goes}

pub returns : goal.returns
returns c = λ none rest p st.
    let out : c.args.self.now.outer.items ≡ c.in-Some.around ∷ c.pop_front.new.self.items = search rules in
    close_goes rest c.args.self.now c.in-Some.around c.replace-code.new.dest c.replace-code.result
    c.pop_front.new.self.items c.pop_front.new.self.items c.put_body.new.blocks.items p
    none out c.replace-code.ensures.value c.replace-code.ensures.after refl c.put_body.ensures.count
    c.put_body.ensures.made c.put_body.ensures.rows st
