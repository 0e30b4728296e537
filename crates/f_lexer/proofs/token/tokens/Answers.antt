use Rattle.text_core.proofs.Walk.{skip, read, finish}
use Rattle.f_lexer.specs.Source.{source}
use Rattle.f_lexer.proofs.Finding.{source_signs}
use Rattle.f_lexer.proofs.Exact.{one_cut, no_fault_where_cut, same_fault, is_bad, is_large}
use Rattle.f_lexer.proofs.token.tokens.Goals as goal

pub loop-at-preserved-in-Skip : goal.loop-at-preserved-in-Skip
loop-at-preserved-in-Skip c =
    let l = c.loop-at in
    let (w, e) = c.in-Skip.ensures in
    skip source source_signs c.args.text.now l.at l.out.items l.invariant c.loop-at-test.true c.in-Skip.end w e

pub loop-at-preserved : goal.loop-at-preserved
loop-at-preserved c =
    let l = c.loop-at in
    let (w, e, b) = c.in-Read.ensures in
    rw c.in-Ok.ensures.items
    (read source source_signs c.args.text.now l.at l.out.items l.invariant c.loop-at-test.true c.in-Read.end
    c.in-Read.kind w e b)

pub returns-in-Large-clause-right : goal.returns-in-Large-clause-right
returns-in-Large-clause-right c =
    let l = c.loop-at in
    rw c.refused.ensures
    (is_large c.args.text.now l.at l.out.items l.invariant c.loop-at-test.true c.in-Large.end c.in-Large.ensures)

pub returns-in-Large-clause-cut : goal.returns-in-Large-clause-cut
returns-in-Large-clause-cut c =
    let l = c.loop-at in
    let f =
    is_large c.args.text.now l.at l.out.items l.invariant c.loop-at-test.true c.in-Large.end c.in-Large.ensures in
    λ w x. absurd (no_fault_where_cut _ w _ _ x f)

pub returns-in-Large-clause-refused : goal.returns-in-Large-clause-refused
returns-in-Large-clause-refused c =
    let l = c.loop-at in
    let f =
    is_large c.args.text.now l.at l.out.items l.invariant c.loop-at-test.true c.in-Large.end c.in-Large.ensures in
    λ code span h n. rw c.refused.ensures (same_fault _ _ _ _ _ f h)

pub returns-in-Bad-clause-right : goal.returns-in-Bad-clause-right
returns-in-Bad-clause-right c =
    let l = c.loop-at in
    rw c.refused-in-Bad.ensures
    (is_bad c.args.text.now l.at l.out.items l.invariant c.loop-at-test.true c.in-Bad.ensures)

pub returns-in-Bad-clause-cut : goal.returns-in-Bad-clause-cut
returns-in-Bad-clause-cut c =
    let l = c.loop-at in
    let f = is_bad c.args.text.now l.at l.out.items l.invariant c.loop-at-test.true c.in-Bad.ensures in
    λ w x. absurd (no_fault_where_cut _ w _ _ x f)

pub returns-in-Bad-clause-refused : goal.returns-in-Bad-clause-refused
returns-in-Bad-clause-refused c =
    let l = c.loop-at in
    let f = is_bad c.args.text.now l.at l.out.items l.invariant c.loop-at-test.true c.in-Bad.ensures in
    λ code span h n. rw c.refused-in-Bad.ensures (same_fault _ _ _ _ _ f h)

pub returns-clause-right : goal.returns-clause-right
returns-clause-right c =
    let l = c.loop-at in finish source c.args.text.now l.at l.out.items l.invariant c.loop-at-test.false

pub returns-clause-cut : goal.returns-clause-cut
returns-clause-cut c =
    let l = c.loop-at in
    let x = finish source c.args.text.now l.at l.out.items l.invariant c.loop-at-test.false in λ w y. one_cut _ _ _ x y

pub returns-clause-refused : goal.returns-clause-refused
returns-clause-refused c =
    let l = c.loop-at in
    let x = finish source c.args.text.now l.at l.out.items l.invariant c.loop-at-test.false in
    λ code span f. absurd (no_fault_where_cut _ _ _ _ x f)
