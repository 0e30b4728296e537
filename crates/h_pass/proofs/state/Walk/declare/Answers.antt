use Rattle.std.proofs.Common.{◌<◌, ap, ◌∙◌, sym, subst}
use Rattle.h_pass.specs.declared.state.Open.{Open}
use Rattle.calc_core.specs.Row.{top}
use Rattle.h_pass.proofs.state.Walk.declare.Goals as goal
use Rattle.h_pass.proofs.Stepping.{declared, emits, room_due, room_of}
use Rattle.h_pass.specs.Stream.{has_room}
use Rattle.h_pass.specs.Walk.{Walked, one_name}

pub returns : goal.returns
returns c = λ n d rest p st.
    let same = c.in_ok-emit.ensures.same in
    let room = room_of c.args.form n rest _ _ _ _ _ _ _ _ _ _ p d.1 st in
    let kept : top 0 c.emit.new.self.depths.items < 18446744073709551615 =
    subst (λ (x : Open). top 0 x.depths.items < 18446744073709551615) (sym same) room in
    let deep = c.in_ok-deepen.ensures kept ∙ ap (λ (x : Open). one_name x.depths.items) same in
    subst (λ (x : Open). Walked (record c.args.self.now { current = record x { depths = c.deepen.new.depths } }) rest
    p) (sym same)
    (emits c.args.form has_room c.args.self.now.current.parts n one_name rest _ _ _ _ _ _ _ _ _ _ _ _ p
    c.in_ok-emit.ensures.nodes c.in_ok-emit.ensures.parts deep room_due (declared c.args.form _ d.0) d.1 st)
