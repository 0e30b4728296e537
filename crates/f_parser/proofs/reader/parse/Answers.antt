use Rattle.std.proofs.Common.{Ok, Err, arith}
use Rattle.std.proofs.lemmas.Result.{err_from_is_err_and}
use Rattle.f_grammar.proofs.Exact.{only_term, only_fault, passed_on, token_fault, long_fault}
use Rattle.f_parser.proofs.reader.parse.Goals as goal

pub returns-then-text-gt-BYTES : goal.returns-then-text-gt-BYTES
returns-then-text-gt-BYTES c =
    let h = long_fault c.args.text.now c.refused.result c.whole.result c.refused.ensures c.whole.ensures
    (omega (arith, c.if-text-gt-BYTES.true)) in
    record {
      right = h;
      term = only_term c.args.text.now (Err c.refused.result) h;
      refused = only_fault c.args.text.now (Err c.refused.result) h;
    }

pub returns-in_err-tokens : goal.returns-in_err-tokens
returns-in_err-tokens c =
    let p = err_from_is_err_and c.from_residual.result c.from_residual.ensures.1 in
    let f = token_fault c.args.text.now c.in_err-tokens.field-0.0 (omega (arith, c.if-text-gt-BYTES.false))
    c.in_err-tokens.ensures.right in
    let h = passed_on c.args.text.now c.from_residual.result c.in_err-tokens.field-0.0 p.0 p.1 p.2 f in
    record {
      right = h;
      term = only_term c.args.text.now c.from_residual.result h;
      refused = only_fault c.args.text.now c.from_residual.result h;
    }

pub returns-in_err-tree : goal.returns-in_err-tree
returns-in_err-tree c =
    let p = err_from_is_err_and c.from_residual-in_err-tree.result c.from_residual-in_err-tree.ensures.1 in
    let h = passed_on c.args.text.now c.from_residual-in_err-tree.result c.in_err-tree.field-0.0 p.0 p.1 p.2
    c.in_err-tree.ensures in
    record {
      right = h;
      term = only_term c.args.text.now c.from_residual-in_err-tree.result h;
      refused = only_fault c.args.text.now c.from_residual-in_err-tree.result h;
    }

pub returns-in_err-term : goal.returns-in_err-term
returns-in_err-term c =
    let p = err_from_is_err_and c.from_residual-in_err-term.result c.from_residual-in_err-term.ensures.1 in
    let h = passed_on c.args.text.now c.from_residual-in_err-term.result c.in_err-term.field-0.0 p.0 p.1 p.2
    c.in_err-term.ensures in
    record {
      right = h;
      term = only_term c.args.text.now c.from_residual-in_err-term.result h;
      refused = only_fault c.args.text.now c.from_residual-in_err-term.result h;
    }

pub returns : goal.returns
returns c =
    let h = c.in_ok-term.ensures in
    record {
      right = h;
      term = only_term c.args.text.now (Ok c.in_ok-term.term) h;
      refused = only_fault c.args.text.now (Ok c.in_ok-term.term) h;
    }
