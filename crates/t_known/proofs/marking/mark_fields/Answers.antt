use Rattle.std.proofs.Common.{◌+◌, ◌++◌, ◌∙◌, ap, sym, get_or, false, List, [], ◌∷◌, ℕ, Bool, append-nil}
use Rattle.std.proofs.lemmas.List.{drop_all}
use Rattle.t_intern.specs.Marks.{has}
use Rattle.t_intern.specs.Nodes.{at}
use Rattle.t_known.specs.Marks.{marked_list}
use Rattle.t_known.proofs.Sets.{marked_next}
use Rattle.t_known.proofs.marking.mark_fields.Goals as goal
use Rattle.idx_core.proofs.Lists.{item}

pub loop-i-preserved : goal.loop-i-preserved
loop-i-preserved c =
    let l = c.loop-i in
    let xs = c.args.fields.now in
    let set = has (at c.args.types.now c.args.set) in
    let lt = c.loop-i-test.true in
    let x = get_or xs l.i (0, false) in
    marked_next set xs l.i x l.made.items c.push.new.self.items _ lt (item xs l.i (0, false) lt) l.invariant
    (c.in_ok-push.ensures.items ∙ ap (λ (b : Bool). l.made.items ++ (x.0, b) ∷ []) c.flag_of-flag.ensures)

pub returns : goal.returns
returns c =
    let l = c.loop-i in
    let set = has (at c.args.types.now c.args.set) in
    sym (append-nil l.made.items) ∙ ap (λ (ys : List (ℕ × Bool)). l.made.items ++ marked_list set (l.i + 1) ys)
    (sym (drop_all l.i c.args.fields.now c.loop-i-test.false)) ∙ l.invariant
