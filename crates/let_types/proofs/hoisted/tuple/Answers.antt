use Rattle.std.proofs.Common.{◌≡◌, ◌-◌, ◌∙◌, length, drop, arith, ap}
use Rattle.std.proofs.lemmas.List.{take_rest}
use Rattle.c_terms.specs.C.{TCTuple}
use Rattle.c_terms.specs.Read.{ctys}
use Rattle.calc_core.proofs.Trees.{tree_Tuple}
use Rattle.let_types.proofs.Stacking.{of_fields, of_tuple}
use Rattle.let_types.proofs.hoisted.tuple.Goals as goal

pub returns : goal.returns
returns c = λ ks g vs h.
    let from = c.saturating_sub-from.result in
    let old = c.args.stack.now.items in
    let many : from ≡ length old - c.args.count =
    omega (arith, c.saturating_sub-from.ensures, c.len.ensures, c.args.stack.now.ok.0) in
    let copied : ctys c.in_ok-fields.fields.items ≡ ctys (drop from old) =
    c.in_ok-fields.ensures ∙ ap ctys (take_rest c.deref.result.now from ∙ ap (drop from) c.deref.ensures.value) in
    of_tuple ks g from c.args.count old c.truncate.new.self.items c.push.new.self.items c.in_ok-fields.fields.items _ vs
    many copied c.truncate.ensures.items c.in_ok-push.ensures.items
    (λ us e. tree_Tuple c.in_ok-fields.fields ∙ ap TCTuple (copied ∙ of_fields ks g from old vs h)) h
