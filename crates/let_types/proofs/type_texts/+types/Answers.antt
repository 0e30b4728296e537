use Rattle.std.proofs.Common.{◌≡◌, ◌++◌, sym, ap, ◌∙◌, subst, OnOk}
use Rattle.c_terms.specs.C.{CTy}
use Rattle.c_terms.specs.Read.{ctys}
use Rattle.calc_core.proofs.Trees.{tree_is_tuple, tree_is_code}
use Rattle.let_types.specs.TypeTexts.{text_of, closure_text, closure_code}
use Rattle.let_types.proofs.TypesListed.{type_more, types_done, from_start, tuple_done, code_done, closure_done}
use Rattle.let_types.proofs.type_texts.+types.Goals as goal

pub write_from-loop-i-init : goal.write_from-loop-i-init
write_from-loop-i-init t c = from_start c.args.closures c.args.depth c.args.from c.args.ts.now c.args.text.now.items

pub write_from-loop-i-preserved : goal.write_from-loop-i-preserved
write_from-loop-i-preserved t c =
    type_more c.args.closures c.args.depth c.args.ts.now c.args.from c.loop-i.i _ _ _ _ _ c.index-ts-i.is
    c.loop-i-test.true c.loop-i.auto.i c.loop-i.invariant c.in_ok-write_separator.ensures c.in_ok-write_any.ensures

pub write_from-returns : goal.write_from-returns
write_from-returns t c =
    types_done c.args.closures c.args.depth c.args.ts.now c.args.from c.loop-i.i _ _ c.loop-i-test.false
    c.loop-i.invariant

pub write_any-returns-in_ok-extend_from_slice-in-Tuple-2 : goal.write_any-returns-in_ok-extend_from_slice-in-Tuple-2
write_any-returns-in_ok-extend_from_slice-in-Tuple-2 t c =
    tuple_done c.args.closures c.args.depth (ctys c.deref.result.now) _ _ _ _
    c.in_ok-extend_from_slice-in-Tuple.ensures.items c.in_ok-write_from-in-Tuple.ensures
    c.in_ok-extend_from_slice-in-Tuple-2.ensures.items
    ∙ ap (λ (u : CTy). c.args.text.now.items ++ text_of c.args.closures c.args.depth u)
    (sym (tree_is_tuple _ _ _ c.in-Tuple.is c.deref.ensures.value))

pub write_any-returns-in_ok-extend_from_slice-in-Code : goal.write_any-returns-in_ok-extend_from_slice-in-Code
write_any-returns-in_ok-extend_from_slice-in-Code t c =
    code_done c.args.closures c.args.depth c.in-Code.owes _ (ctys c.deref-in-Code.result.now) _ _ _ _
    c.in_ok-inner-in-Code.ensures.inner c.in_ok-inner-in-Code.ensures.written c.in_ok-write_from-in-Code.ensures
    c.in_ok-extend_from_slice-in-Code.ensures.items
    ∙ ap (λ (u : CTy). c.args.text.now.items ++ text_of c.args.closures c.args.depth u)
    (sym (tree_is_code _ _ _ _ c.in-Code.is c.deref-in-Code.ensures.value))

pub write_closure-returns-in-Tuple : goal.write_closure-returns-in-Tuple
write_closure-returns-in-Tuple t c =
    subst (λ (u : CTy). OnOk c.write_closure_fields.result (c.write_closure_fields.new.text.items
    ≡ c.args.text.now.items ++ closure_text c.args.depth u)) (sym (tree_is_tuple _ _ _ c.in-Tuple.is
    c.deref.ensures.value)) c.write_closure_fields.ensures

pub write_closure_code-returns-in_ok-extend_from_slice-in-Code :
    goal.write_closure_code-returns-in_ok-extend_from_slice-in-Code
write_closure_code-returns-in_ok-extend_from_slice-in-Code t c =
    closure_done c.args.depth c.in-Code.owes _ c.deref.result.now _ _ _ _ c.in_ok-inner-in-Code.ensures.inner
    c.in_ok-inner-in-Code.ensures.written c.in_ok-write_from-in-Code.ensures
    c.in_ok-extend_from_slice-in-Code.ensures.items
    ∙ ap (λ (u : CTy). c.args.text.now.items ++ closure_code c.args.depth u) (sym (tree_is_code _ _ _ _ c.in-Code.is
    c.deref.ensures.value))
