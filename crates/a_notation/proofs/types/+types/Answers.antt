use Rattle.std.proofs.Common.{◌≡◌, ◌+◌, ◌++◌, List, ℕ, OnOk, codes, sym, ap, subst, ◌∙◌, append_assoc}
use Rattle.a_terms.specs.Read.{afields, atrees}
use Rattle.a_terms.specs.ReadLaws.{is_code, is_tuple}
use Rattle.page_core.specs.Names.{type_names}
use Rattle.a_notation.specs.Types.{closure_text, code_text, type_text, types_text}
use Rattle.a_notation.proofs.TypeTexts.{fields_done, others_are, tuple_done, types_done}
use Rattle.a_notation.proofs.types.+types.Goals as goal

pub write_closed_code-returns-in-Code : goal.write_closed_code-returns-in-Code
write_closed_code-returns-in-Code t c =
    subst (λ (s : List ℕ). OnOk c.write_code.result (c.write_code.new.text.items ≡ c.args.text.now.items ++ s))
    (ap (λ (s : List ℕ). type_names c.args.depth c.in-Code.owes ++ (codes "(" ++ (s ++ codes ")")))
    (sym (others_are (c.args.depth + c.in-Code.owes) c.deref.result.now))
    ∙ ap (code_text c.args.depth) (sym (is_code _ _ _ _ c.in-Code.is c.deref.ensures.value))) c.write_code.ensures

pub write_closure-returns-in-Tuple : goal.write_closure-returns-in-Tuple
write_closure-returns-in-Tuple t c =
    subst (λ (s : List ℕ). OnOk c.write_first.result (c.write_first.new.text.items ≡ c.args.text.now.items ++ s))
    (ap (closure_text c.args.depth) (sym (is_tuple _ _ _ c.in-Tuple.is c.deref.ensures.value))) c.write_first.ensures

pub write_fields-returns : goal.write_fields-returns
write_fields-returns t c =
    fields_done c.args.depth c.args.fields.now _ _ c.loop-i.i c.loop-i.i c.loop-i.invariant c.loop-i-test.false

pub write_type-returns-in_ok-extend_from_slice-in-Tuple-2 : goal.write_type-returns-in_ok-extend_from_slice-in-Tuple-2
write_type-returns-in_ok-extend_from_slice-in-Tuple-2 t c =
    tuple_done c.args.depth _ (afields c.deref.result.now) _ _ _ _ c.in_ok-extend_from_slice-in-Tuple.ensures.items
    c.in_ok-write_fields-in-Tuple.ensures c.in_ok-extend_from_slice-in-Tuple-2.ensures.items
    (is_tuple _ _ _ c.in-Tuple.is c.deref.ensures.value)

pub write_type-returns-in_ok-extend_from_slice-in-Code : goal.write_type-returns-in_ok-extend_from_slice-in-Code
write_type-returns-in_ok-extend_from_slice-in-Code t c =
    let code = type_names c.args.depth c.in-Code.owes ++ (codes "("
    ++ (types_text 0 (c.args.depth + c.in-Code.owes) (atrees c.deref-in-Code.result.now) ++ codes ")")) in
    subst (λ (s : List ℕ). OnOk c.write_code.result (c.write_code.new.text.items ≡ s))
    (ap (λ (s : List ℕ). s ++ code) c.in_ok-extend_from_slice-in-Code.ensures.items
    ∙ append_assoc c.args.text.now.items (codes "code") code
    ∙ ap (λ u. c.args.text.now.items ++ type_text c.args.depth u)
    (sym (is_code _ _ _ _ c.in-Code.is c.deref-in-Code.ensures.value))) c.write_code.ensures

pub write_types-returns : goal.write_types-returns
write_types-returns t c =
    types_done c.args.depth c.args.ts.now _ _ c.args.from _ c.loop-at.at c.loop-at.invariant.written
    c.loop-at-test.false
