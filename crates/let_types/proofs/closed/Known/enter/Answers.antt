use Rattle.std.proofs.Common.{◌∙◌, ap, ap₂, map, refl}
use Rattle.calc_core.proofs.Trees.{tree_Code}
use Rattle.c_terms.specs.C.{TCCode}
use Rattle.c_terms.specs.Read.{ctys}
use Rattle.let_types.specs.Known.{own, put}
use Rattle.let_types.specs.KnownRead.{frame, known, seen}
use Rattle.let_types.proofs.Knowing.{entered, frame_with}
use Rattle.let_types.proofs.closed.Known.enter.Goals as goal

pub returns : goal.returns
returns c =
    let κ = known c.args.self.now in
    let owes = c.args.owes in
    entered κ (known c.put_own.new.self) c.args.types owes (ctys c.args.args.now) c.replace-outer.new.dest
    c.replace-outer.result c.push_front.new.self.items c.put_own.new.self.around.items
    (c.in_ok-put_own.ensures
    ∙ ap (λ t. put κ (own c.args.types t)) (tree_Code owes c.in_ok-args.args ∙ ap (TCCode owes) c.in_ok-args.ensures))
    (ap frame c.replace-outer.ensures.value) c.in_ok-push_front.ensures.items refl
    (ap frame c.replace-outer.ensures.after
    ∙ ap₂ (λ es vs. frame_with es (map seen vs)) c.in_ok-names.ensures c.new.ensures.items)
