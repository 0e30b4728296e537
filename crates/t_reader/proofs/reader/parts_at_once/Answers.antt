use Rattle.t_text.specs.Kept.{tokens_of}
use Rattle.std.proofs.lemmas.Result.{err_from_is_err_and}
use Rattle.t_reader.proofs.Shaped.{named_fault}
use Rattle.t_reader.proofs.reader.parts_at_once.Goals as goal

pub returns-in_err-raw : goal.returns-in_err-raw
returns-in_err-raw c =
    let p = err_from_is_err_and c.from_residual.result c.from_residual.ensures.1 in
    rw (p.1, p.2) (c.in_err-raw.ensures)

pub returns-in_err-parts : goal.returns-in_err-parts
returns-in_err-parts c =
    let p = err_from_is_err_and c.from_residual-in_err-parts.result c.from_residual-in_err-parts.ensures.1 in
    rw (p.1, p.2) (named_fault c.args.text.now (tokens_of c.args.tokens.now) _ _ c.requires c.in_ok-raw.ensures
    c.in_err-parts.ensures)

pub returns : goal.returns
returns c =
    let h = c.in_ok-parts.ensures in
    record { raw = _; program = c.in_ok-raw.ensures; named = h.0; is = h.1 }
