use Rattle.std.proofs.lemmas.Result.{err_from_is_err_and}
use Rattle.t_reader.proofs.Dating.{datum_value_stop, datum_type_stop, datum_whole}
use Rattle.t_reader.proofs.resolve.datum_in.Goals as goal

pub returns-in_err-value : goal.returns-in_err-value
returns-in_err-value c =
    let p = err_from_is_err_and c.from_residual.result c.from_residual.ensures.1 in
    rw (p.1, p.2)
    (datum_value_stop c.args.text.now c.args.labels.now c.args.datum.now _ c.new-scope.ensures _
    c.in_err-value.ensures)

pub returns-in_err-ty : goal.returns-in_err-ty
returns-in_err-ty c =
    let p = err_from_is_err_and c.from_residual-in_err-ty.result c.from_residual-in_err-ty.ensures.1 in
    rw (p.1, p.2)
    (datum_type_stop c.args.text.now c.args.labels.now c.args.datum.now _ c.new-scope.ensures _ c.in_ok-value.value
    c.in_ok-value.ensures _ c.in_err-ty.ensures)

pub returns : goal.returns
returns c =
    datum_whole c.args.text.now c.args.labels.now c.args.datum.now _ c.new-scope.ensures _ c.in_ok-value.value
    c.in_ok-value.ensures _ c.in_ok-ty.ty c.in_ok-ty.ensures
