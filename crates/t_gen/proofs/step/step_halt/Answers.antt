use Rattle.std.proofs.Common.{◌≡◌, List, ◌∙◌, ap}
use Rattle.t_terms.specs.Tree as T
use Rattle.t_terms.specs.Tree.{Ends}
use Rattle.t_terms.specs.Read.{blocks_of}
use Rattle.t_emit.specs.Code.{onto, fill}
use Rattle.t_gen.proofs.Filled.{halt_step}
use Rattle.t_gen_rules.specs.Gen.{used, uses, over, small, unnest, move}
use Rattle.a_terms.specs.Tree as a
use Rattle.a_terms.specs.NodeTrees.{a_values, no_value}
use Rattle.calc_core.specs.Row.{top}
use Rattle.a_scope.specs.Scope.{homes}
use Rattle.a_scope.specs.declared.scope.Entry.{Entry}
use Rattle.t_gen.proofs.Stepping.{end_stepped, keeps_first}
use Rattle.t_gen.specs.Pending.{tops}
use Rattle.t_gen.proofs.step.step_halt.Goals as goal

pub returns : goal.returns
returns c = λ bs rest f k.
    let v = top no_value (a_values c.args.values.now) in
    let es = c.args.walk.now.vars.items in
    let ps = c.args.walk.now.places.items in
    let o = blocks_of c.args.out.now.items in
    let p = c.args.place in
    let old = c.args.walk.now.code.items in
    let t = a.Halt v in
    let t0 = c.in_ok-spare.spare in
    let same : t0 ≡ over (homes es) (uses v) =
    c.in_ok-spare.ensures (homes es) (used t) (keeps_first p (tops ps) es t rest c.requires.vars k) in
    end_stepped bs p t rest es ps c.args.out.now.items c.close_block.new.out.items old c.close_block.new.code.items
    c.requires.vars c.close_block.ensures.empty
    (c.close_block.ensures.filled
    ∙ ap (λ x. fill p.block x o) (c.in_ok-emit_into.ensures (Ends T.Halt)
    ∙ ap (λ u. onto old
    (unnest t0 (homes c.deref.result.now) u (move 1 (small t0 (homes c.deref.result.now) u) (Ends T.Halt))))
    c.first.ensures
    ∙ ap (λ (xs : List Entry). onto old (unnest t0 (homes xs) v (move 1 (small t0 (homes xs) v) (Ends T.Halt))))
    c.deref.ensures.value
    ∙ ap (λ i. onto old (unnest i (homes es) v (move 1 (small i (homes es) v) (Ends T.Halt)))) same))
    f (λ out at k m g js. halt_step bs at out (onto old) p.block k m g v js) k
