use Rattle.std.proofs.Common.{◌≡◌, ◌∙◌, suc, List, ap, sym}
use Rattle.t_terms.specs.Read.{blocks_of}
use Rattle.t_emit.specs.Code.{onto, fill}
use Rattle.t_gen.proofs.Filled.{call_step}
use Rattle.t_gen_rules.specs.Gen.{used, top as greatest, above, tys, call_code}
use Rattle.a_terms.specs.Tree as a
use Rattle.a_terms.specs.Read.{atrees}
use Rattle.a_terms.specs.NodeTrees.{a_values, no_value}
use Rattle.calc_core.specs.Row.{top, others}
use Rattle.a_scope.specs.Scope.{homes}
use Rattle.a_scope.specs.declared.scope.Entry.{Entry}
use Rattle.t_gen.proofs.Stepping.{end_stepped, keeps_first, length_arguments}
use Rattle.t_gen.specs.Pending.{tops}
use Rattle.t_gen.proofs.step.step_call.Goals as goal

pub returns : goal.returns
returns c = λ bs rest f k.
    let vs = others (a_values c.args.values.now) in
    let v = top no_value (a_values c.args.values.now) in
    let ts = atrees c.args.types.now in
    let es = c.args.walk.now.vars.items in
    let ps = c.args.walk.now.places.items in
    let o = blocks_of c.args.out.now.items in
    let p = c.args.place in
    let old = c.args.walk.now.code.items in
    let t = a.Call v ts vs in
    let m = homes es in
    let k0 = keeps_first p (tops ps) es t rest c.requires.vars k in
    let free : c.in_ok-above.above ≡ above m v vs = c.in_ok-above.ensures m (used t) k0
    ∙ ap (λ b. suc (greatest b m (used t))) (sym (length_arguments c.args.values.now)) in
    end_stepped bs p t rest es ps c.args.out.now.items c.close_block.new.out.items old c.close_block.new.code.items
    c.requires.vars c.close_block.ensures.empty
    (c.close_block.ensures.filled
    ∙ ap (λ x. fill p.block x o)
    (c.in_ok-end.ensures
    ∙ ap (λ (xs : List Entry). onto old (call_code 1 c.in_ok-above.above (homes xs) vs v (tys ts)))
    c.deref.ensures.value ∙ ap (λ b. onto old (call_code 1 b m vs v (tys ts))) free))
    f (λ out at k m g js. call_step bs at out (onto old) p.block k m g v ts vs js) k
