use Rattle.std.proofs.Common.{refl, sym}
use Rattle.std.proofs.lemmas.Result.{err_from_is_err_and}
use Rattle.t_reader.proofs.Valuing.{plain_base_stop, plain_types_stop, plain_whole, pack_value, pack_1_stop}
use Rattle.t_reader.proofs.Valuing.{pack_2_stop, pack_3_stop, pack_whole}
use Rattle.t_reader.proofs.resolve.+values.Goals as goal

pub value_in-returns-in_err-base-in-Plain : goal.value_in-returns-in_err-base-in-Plain
value_in-returns-in_err-base-in-Plain t c =
    let p = err_from_is_err_and c.from_residual.result c.from_residual.ensures.1 in
    rw (p.1, p.2)
    (plain_base_stop c.args.text.now c.args.labels.now c.args.scope.now c.args.value.now c.in-Plain.base
    c.in-Plain.types c.in-Plain.types.items c.in-Plain.is refl _ c.in_err-base-in-Plain.ensures)

pub value_in-returns-in_err-types-in-Plain : goal.value_in-returns-in_err-types-in-Plain
value_in-returns-in_err-types-in-Plain t c =
    let p = err_from_is_err_and c.from_residual-in_err-types-in-Plain.result
    c.from_residual-in_err-types-in-Plain.ensures.1 in
    rw (p.1, p.2)
    (plain_types_stop c.args.text.now c.args.labels.now c.args.scope.now c.args.value.now c.in-Plain.base
    c.in-Plain.types c.deref.result.now c.in-Plain.is c.deref.ensures.value c.in_ok-base-in-Plain.base _
    c.in_ok-base-in-Plain.ensures c.in_err-types-in-Plain.ensures)

pub value_in-returns-in_ok-types-in-Plain : goal.value_in-returns-in_ok-types-in-Plain
value_in-returns-in_ok-types-in-Plain t c =
    plain_whole c.args.text.now c.args.labels.now c.args.scope.now c.args.value.now c.in-Plain.base c.in-Plain.types
    c.deref.result.now c.in-Plain.is c.deref.ensures.value c.in_ok-base-in-Plain.base c.in_ok-types-in-Plain.types
    _ c.in_ok-base-in-Plain.ensures c.in_ok-types-in-Plain.ensures

pub value_in-returns-in-Pack : goal.value_in-returns-in-Pack
value_in-returns-in-Pack t c =
    rw (pack_value c.args.value.now c.in-Pack.pack _ c.in-Pack.is (sym c.deref-in-Pack.ensures)) c.packed_in.ensures

pub packed_in-returns-in_err-hidden : goal.packed_in-returns-in_err-hidden
packed_in-returns-in_err-hidden t c =
    let p = err_from_is_err_and c.from_residual.result c.from_residual.ensures.1 in
    rw (p.1, p.2)
    (pack_1_stop c.args.text.now c.args.labels.now c.args.scope.now c.args.pack.now _ c.in_err-hidden.ensures)

pub packed_in-returns-in_err-inner : goal.packed_in-returns-in_err-inner
packed_in-returns-in_err-inner t c =
    let p = err_from_is_err_and c.from_residual-in_err-inner.result c.from_residual-in_err-inner.ensures.1 in
    rw (p.1, p.2)
    (pack_2_stop c.args.text.now c.args.labels.now c.args.scope.now c.args.pack.now _ c.in_ok-hidden.hidden
    c.in_ok-hidden.ensures _ c.in_err-inner.ensures)

pub packed_in-returns-in_err-shape : goal.packed_in-returns-in_err-shape
packed_in-returns-in_err-shape t c =
    let p = err_from_is_err_and c.from_residual-in_err-shape.result c.from_residual-in_err-shape.ensures.1 in
    rw (p.1, p.2)
    (pack_3_stop c.args.text.now c.args.labels.now c.args.scope.now c.args.pack.now _ c.in_ok-hidden.hidden
    c.in_ok-hidden.ensures _ c.in_ok-inner.inner c.in_ok-inner.ensures _ c.in_err-shape.ensures)

pub packed_in-returns : goal.packed_in-returns
packed_in-returns t c =
    pack_whole c.args.text.now c.args.labels.now c.args.scope.now c.args.pack.now _ c.in_ok-hidden.hidden
    c.in_ok-hidden.ensures _ c.in_ok-inner.inner c.in_ok-inner.ensures _ c.in_ok-shape.shape c.in_ok-shape.ensures _
    c.in_ok-whole.ensures
