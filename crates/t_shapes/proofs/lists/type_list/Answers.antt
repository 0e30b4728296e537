use Rattle.std.proofs.Common.{[], sym, ◌∙◌, arith}
use Rattle.std.proofs.lemmas.Result.{err_from_is_err_and}
use Rattle.t_shapes.proofs.Stepping.{by_call, after_moves}
use Rattle.t_shapes.proofs.Lines.{as_some}
use Rattle.t_shapes.proofs.Based.{types_empty}
use Rattle.t_text.specs.Kept.{tokens_of}
use Rattle.t_shapes.proofs.lists.type_list.Goals as goal

pub returns-in-Some : goal.returns-in-Some
returns-in-Some c =
    let ts = tokens_of c.args.tokens.now in
    let d = c.args.depth in
    let i = c.args.at in
    rw c.new.ensures.items (types_empty ts d i _ c.requires.depth (sym c.take.ensures ∙ c.in-Some.is))

pub returns-in_err-found : goal.returns-in_err-found
returns-in_err-found c =
    let ts = tokens_of c.args.tokens.now in
    let d = c.args.depth in
    let i = c.args.at in
    let p = err_from_is_err_and c.from_residual.result c.from_residual.ensures.1 in
    rw (p.1, p.2) (after_moves _ (as_some ts d i (sym c.take.ensures ∙ c.in_default.is)) c.in_err-found.ensures)

pub returns : goal.returns
returns c =
    let ts = tokens_of c.args.tokens.now in
    let d = c.args.depth in
    let i = c.args.at in
    let r = c.in_ok-found.ensures in
    record {
      forward = r.forward;
      in_range = r.in_range;
      same = by_call d [] [] (as_some ts d i (sym c.take.ensures ∙ c.in_default.is)) (omega arith) r.same;
    }
