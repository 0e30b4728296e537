use Rattle.std.proofs.Common.{[], ◌∙◌, ap}
use Rattle.t_terms.specs.Tree as T
use Rattle.t_terms.specs.Tree.{Ends}
use Rattle.t_emit.specs.Code.{onto, places}
use Rattle.t_gen_rules.specs.Gen.{applied_to, call_code, tys}
use Rattle.a_terms.specs.Read.{atrees}
use Rattle.a_terms.specs.NodeTrees.{a_value, a_values, no_value}
use Rattle.calc_core.specs.Row.{top}
use Rattle.t_emit.proofs.Emitted.{call_end}
use Rattle.t_emit.proofs.calls.emit_jump.Goals as goal

pub returns : goal.returns
returns c = λ i le.
    let es = c.args.call.now.vars.now in
    let vs = c.args.call.now.values.now in
    let k = top no_value (a_values vs) in
    let ts = tys (atrees c.args.call.now.types.now) in
    let b = c.args.saves.now.free in
    let old = c.args.code.now.items in
    ap (λ x. onto c.emit_small.new.code.items (Ends (T.Jmp x))) c.in_ok-goes.ensures
    ∙ ap (λ x. onto c.emit_small.new.code.items (Ends (T.Jmp (applied_to x ts)))) c.in_ok-held.ensures.value
    ∙ c.in_ok-held.ensures.code _
    ∙ ap (λ xs. onto old (call_code i b (places es xs) [] (a_value c.first.result.now) ts)) c.deref.ensures.value
    ∙ ap (λ v. onto old (call_code i b (places es c.args.saves.now.pairs.items) [] v ts)) c.first.ensures
    ∙ ap (onto old) (call_end i b (places es c.args.saves.now.pairs.items) vs k ts i le)
