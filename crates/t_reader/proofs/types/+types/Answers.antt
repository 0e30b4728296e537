use Rattle.std.proofs.Common.{refl, sym, ◌∙◌}
use Rattle.std.proofs.lemmas.Result.{err_from_is_err_and}
use Rattle.t_reader.proofs.Naming.{int_whole, name_stop, name_whole, code_stop, code_whole, some_stop, some_whole}
use Rattle.t_reader.proofs.Naming.{fields_start, fields_stop, fields_next, fields_whole, fields_stop_whole}
use Rattle.t_reader.proofs.Filing.{file_start, file_twice, file_stop, file_next, file_whole}
use Rattle.t_reader.proofs.types.+types.Goals as goal

pub type_in-returns-in-Int : goal.type_in-returns-in-Int
type_in-returns-in-Int t c =
    let text = c.args.text.now in
    let a = c.args.scope.now in
    let ty = c.args.ty.now in
    int_whole text a ty c.in-Int.is

pub type_in-returns-in-None : goal.type_in-returns-in-None
type_in-returns-in-None t c =
    let text = c.args.text.now in
    let a = c.args.scope.now in
    let ty = c.args.ty.now in
    rw c.refused.ensures (name_stop text a ty c.in-Name.span c.in-Name.is (rw c.spelling.ensures at c.in-None.ensures))

pub type_in-returns-in-Some-find : goal.type_in-returns-in-Some-find
type_in-returns-in-Some-find t c =
    let text = c.args.text.now in
    let a = c.args.scope.now in
    let ty = c.args.ty.now in
    name_whole text a ty c.in-Name.span c.in-Some-find.place c.in-Name.is
    (rw c.spelling.ensures at c.in-Some-find.ensures)

pub type_in-returns-in_err-regs-in-Code : goal.type_in-returns-in_err-regs-in-Code
type_in-returns-in_err-regs-in-Code t c =
    let text = c.args.text.now in
    let a = c.args.scope.now in
    let ty = c.args.ty.now in
    let p =
    err_from_is_err_and c.from_residual-in_err-regs-in-Code.result c.from_residual-in_err-regs-in-Code.ensures.1 in
    rw (p.1, p.2)
    (code_stop text a ty _ _ _ _ c.in-Code.is c.as_slice-names.ensures.value c.deref.ensures.value _
    c.in_ok-bind_all-in-Code.ensures.bound _ c.in_err-regs-in-Code.ensures)

pub type_in-returns-in_ok-regs-in-Code : goal.type_in-returns-in_ok-regs-in-Code
type_in-returns-in_ok-regs-in-Code t c =
    let text = c.args.text.now in
    let a = c.args.scope.now in
    let ty = c.args.ty.now in
    let r = c.in_ok-regs-in-Code.ensures in
    rw c.code.ensures
    (code_whole text a ty _ _ _ _ c.in-Code.is c.as_slice-names.ensures.value c.deref.ensures.value _
    c.in_ok-bind_all-in-Code.ensures.bound _ _ c.in_ok-regs-in-Code.regs _ refl r.0 c.release.ensures r.1 r.2)

pub type_in-returns-in_err-inner-in-Some : goal.type_in-returns-in_err-inner-in-Some
type_in-returns-in_err-inner-in-Some t c =
    let text = c.args.text.now in
    let a = c.args.scope.now in
    let ty = c.args.ty.now in
    let p = err_from_is_err_and c.from_residual-in_err-inner-in-Some.result
    c.from_residual-in_err-inner-in-Some.ensures.1 in
    rw (p.1, p.2)
    (some_stop text a ty _ _ c.deref-in-Some.result.now c.in-Some.is (sym c.deref-in-Some.ensures) _
    (rw c.spelling-in-Some.ensures at c.in_ok-push-in-Some.ensures.pushed) _ c.in_err-inner-in-Some.ensures)

pub type_in-returns-in_ok-whole-in-Some : goal.type_in-returns-in_ok-whole-in-Some
type_in-returns-in_ok-whole-in-Some t c =
    let text = c.args.text.now in
    let a = c.args.scope.now in
    let ty = c.args.ty.now in
    some_whole text a ty _ _ c.deref-in-Some.result.now c.in-Some.is (sym c.deref-in-Some.ensures) _
    (rw c.spelling-in-Some.ensures at c.in_ok-push-in-Some.ensures.pushed) _ _ c.in_ok-inner-in-Some.inner _
    c.in_ok-inner-in-Some.ensures c.pop.ensures c.in_ok-whole-in-Some.ensures

pub type_in-loop-field-init : goal.type_in-loop-field-init
type_in-loop-field-init t c =
    let text = c.args.text.now in
    let a = c.args.scope.now in
    let ty = c.args.ty.now in
    rw c.in_ok-made-in-Tuple.ensures.items (fields_start text a c.deref-field-items.result.now)

pub type_in-loop-field-preserved : goal.type_in-loop-field-preserved
type_in-loop-field-preserved t c =
    let text = c.args.text.now in
    let a = c.args.scope.now in
    let ty = c.args.ty.now in
    let l = c.loop-field in
    fields_next text a c.deref-field-items.result.now l.field-index _ l.made.items c.field-item.result
    c.loop-field-test.true c.field-item.is l.invariant _ c.in_ok-part-in-Tuple.part _ c.in_ok-part-in-Tuple.ensures
    c.in_ok-push-in-Tuple.ensures.items

pub type_in-returns-in_err-part-in-Tuple : goal.type_in-returns-in_err-part-in-Tuple
type_in-returns-in_err-part-in-Tuple t c =
    let text = c.args.text.now in
    let a = c.args.scope.now in
    let ty = c.args.ty.now in
    let l = c.loop-field in
    let p = err_from_is_err_and c.from_residual-in_err-part-in-Tuple.result
    c.from_residual-in_err-part-in-Tuple.ensures.1 in
    rw (p.1, p.2)
    (fields_stop_whole text a c.deref-field-items.result.now ty c.in-Tuple.fields _ c.in-Tuple.is
    c.deref-field-items.ensures.value
    (fields_stop text a c.deref-field-items.result.now l.field-index _ l.made.items c.field-item.result
    c.loop-field-test.true c.field-item.is l.invariant _ c.in_err-part-in-Tuple.ensures))

pub type_in-returns-after-loop-field : goal.type_in-returns-after-loop-field
type_in-returns-after-loop-field t c =
    let text = c.args.text.now in
    let a = c.args.scope.now in
    let ty = c.args.ty.now in
    let l = c.loop-field in
    fields_whole text a c.deref-field-items.result.now ty c.in-Tuple.fields l.field-index _ l.made c.in-Tuple.is
    c.deref-field-items.ensures.value c.loop-field-test.false l.invariant

pub file_in-loop-reg-init : goal.file_in-loop-reg-init
file_in-loop-reg-init t c =
    rw c.new-made.ensures.empty (file_start c.args.text.now c.args.scope.now c.args.regs.now)

pub file_in-loop-reg-preserved : goal.file_in-loop-reg-preserved
file_in-loop-reg-preserved t c =
    let l = c.loop-reg in
    file_next c.args.text.now c.args.scope.now c.args.regs.now l.reg-index _ l.made.entries c.reg-item.result
    c.loop-reg-test.true c.reg-item.is l.invariant (sym c.has_reg.ensures ∙ c.if-has_reg.false) _ c.in_ok-ty.ty _
    c.in_ok-ty.ensures c.in_ok-insert.ensures.entries

pub file_in-returns-then-has_reg : goal.file_in-returns-then-has_reg
file_in-returns-then-has_reg t c =
    let l = c.loop-reg in
    rw c.refused.ensures
    (file_twice c.args.text.now c.args.scope.now c.args.regs.now l.reg-index _ l.made.entries c.reg-item.result
    c.loop-reg-test.true c.reg-item.is l.invariant (sym c.has_reg.ensures ∙ c.if-has_reg.true))

pub file_in-returns-in_err-ty : goal.file_in-returns-in_err-ty
file_in-returns-in_err-ty t c =
    let l = c.loop-reg in
    let p = err_from_is_err_and c.from_residual.result c.from_residual.ensures.1 in
    rw (p.1, p.2)
    (file_stop c.args.text.now c.args.scope.now c.args.regs.now l.reg-index _ l.made.entries c.reg-item.result
    c.loop-reg-test.true c.reg-item.is l.invariant (sym c.has_reg.ensures ∙ c.if-has_reg.false) _
    c.in_err-ty.ensures)

pub file_in-returns : goal.file_in-returns
file_in-returns t c =
    let l = c.loop-reg in
    rw c.in_ok-made.ensures
    (file_whole c.args.text.now c.args.scope.now c.args.regs.now l.reg-index _ l.made.entries c.loop-reg-test.false
    l.invariant)
