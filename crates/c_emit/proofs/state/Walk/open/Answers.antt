use Rattle.std.proofs.Common.{◌∷◌, List, ◌∙◌, ap, sym}
use Rattle.c_emit.specs.declared.parts.Frame.{Frame}
use Rattle.c_emit.specs.declared.parts.Info.{Info}
use Rattle.c_emit.specs.Read.{frame, info, frames_of, infos_of, notes_of}
use Rattle.c_emit.proofs.Writes.{code_step}
use Rattle.c_emit.proofs.state.Walk.open.Goals as goal

pub returns-in_ok-push_front-in-Some : goal.returns-in_ok-push_front-in-Some
returns-in_ok-push_front-in-Some c = λ rest depth owes args n.
    let w = c.args.self.now in
    code_step w.out.items c.enter.new.out.items (frame w.current) (frame c.replace-frame.new.dest)
    (frames_of w.outer.items) (frames_of c.push_front.new.self.items) (infos_of w.infos.items)
    (infos_of c.pop_front.new.self.items) (notes_of w.notes.items)
    (info c.in-Some.known) c.args.level depth owes args c.args.count rest
    (ap (λ (is : List Info). infos_of is) c.in-Some.ensures.items)
    (ap (λ (fs : List Frame). frames_of fs) c.in_ok-push_front-in-Some.ensures.items
    ∙ ap (λ f. frame f ∷ frames_of w.outer.items) c.replace-frame.ensures.value)
    (ap frame c.replace-frame.ensures.after ∙ c.in_ok-frame-in-Some.ensures.frame)
    (sym n)
    c.in_ok-frame-in-Some.ensures.nodes
