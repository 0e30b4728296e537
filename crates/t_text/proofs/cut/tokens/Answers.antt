use Rattle.std.proofs.Common.{◌+◌}
use Rattle.text_core.proofs.Walk.{skip, read, finish}
use Rattle.t_text.specs.declared.token.Kind.TheVariants as k
use Rattle.t_text.specs.Tokens.{assembly}
use Rattle.t_text.proofs.TokenLaws.{assembly_signs}
use Rattle.t_text.specs.Kept.{kind_of, tokens_of}
use Rattle.t_text.proofs.Exact.{at_most_one_cut, no_token_fault_where_cut, same_fault, is_bad, is_large}
use Rattle.t_text.proofs.cut.tokens.Goals as goal

pub loop-at-preserved-in-Blank : goal.loop-at-preserved-in-Blank
loop-at-preserved-in-Blank c =
    let l = c.loop-at in
    let (w, e) = c.in-Blank.ensures in (
      skip assembly assembly_signs c.args.text.now l.at (tokens_of l.out) l.invariant.0 c.loop-at-test.true
          (l.at + 1) w e,
      l.invariant.1,
    )

pub loop-at-preserved-in-Sign : goal.loop-at-preserved-in-Sign
loop-at-preserved-in-Sign c =
    let l = c.loop-at in
    let (w, e, b) = c.in-Sign.ensures in
    let (h, s) = c.in_ok-push_short-in-Sign.ensures l.invariant.1 in (
      rw s (read assembly assembly_signs c.args.text.now l.at (tokens_of l.out) l.invariant.0 c.loop-at-test.true
          (l.at + 1) (kind_of c.in-Sign.tag 0) w e b),
      h,
    )

pub loop-at-preserved-in-Register : goal.loop-at-preserved-in-Register
loop-at-preserved-in-Register c =
    let l = c.loop-at in
    let (w, e, b) = c.in-Register.ensures in
    let (h, s) = c.in_ok-push_short-in-Register.ensures l.invariant.1 in (
      rw s (read assembly assembly_signs c.args.text.now l.at (tokens_of l.out) l.invariant.0 c.loop-at-test.true
          (l.at + 2) (k.Register c.in-Register.number) w e b),
      h,
    )

pub loop-at-preserved-in-Skip : goal.loop-at-preserved-in-Skip
loop-at-preserved-in-Skip c =
    let l = c.loop-at in
    let (w, e) = c.in-Skip.ensures in (
      skip assembly assembly_signs c.args.text.now l.at (tokens_of l.out) l.invariant.0 c.loop-at-test.true
          c.in-Skip.end w e,
      l.invariant.1,
    )

pub loop-at-preserved : goal.loop-at-preserved
loop-at-preserved c =
    let l = c.loop-at in
    let (w, e, b) = c.in-Read.ensures in
    let (h, s) = c.in_ok-push-in-Read.ensures l.invariant.1 in (
      rw s (read assembly assembly_signs c.args.text.now l.at (tokens_of l.out) l.invariant.0 c.loop-at-test.true
          c.in-Read.end c.in-Read.kind w e b),
      h,
    )

pub returns-in-Large-clause-right : goal.returns-in-Large-clause-right
returns-in-Large-clause-right c =
    let l = c.loop-at in
    rw c.refused.ensures
    (is_large c.args.text.now l.at (tokens_of l.out) l.invariant.0 c.loop-at-test.true c.in-Large.end
    c.in-Large.ensures)

pub returns-in-Large-clause-cut : goal.returns-in-Large-clause-cut
returns-in-Large-clause-cut c =
    let l = c.loop-at in
    let f = is_large c.args.text.now l.at (tokens_of l.out) l.invariant.0 c.loop-at-test.true c.in-Large.end
    c.in-Large.ensures in
    λ w x. absurd (no_token_fault_where_cut _ w _ _ x f)

pub returns-in-Large-clause-refused : goal.returns-in-Large-clause-refused
returns-in-Large-clause-refused c =
    let l = c.loop-at in
    let f = is_large c.args.text.now l.at (tokens_of l.out) l.invariant.0 c.loop-at-test.true c.in-Large.end
    c.in-Large.ensures in
    λ code span h n. rw c.refused.ensures (same_fault _ _ _ _ _ f h)

pub returns-in-Bad-clause-right : goal.returns-in-Bad-clause-right
returns-in-Bad-clause-right c =
    let l = c.loop-at in
    rw c.refused-in-Bad.ensures
    (is_bad c.args.text.now l.at (tokens_of l.out) l.invariant.0 c.loop-at-test.true c.in-Bad.ensures)

pub returns-in-Bad-clause-cut : goal.returns-in-Bad-clause-cut
returns-in-Bad-clause-cut c =
    let l = c.loop-at in
    let f = is_bad c.args.text.now l.at (tokens_of l.out) l.invariant.0 c.loop-at-test.true c.in-Bad.ensures in
    λ w x. absurd (no_token_fault_where_cut _ w _ _ x f)

pub returns-in-Bad-clause-refused : goal.returns-in-Bad-clause-refused
returns-in-Bad-clause-refused c =
    let l = c.loop-at in
    let f = is_bad c.args.text.now l.at (tokens_of l.out) l.invariant.0 c.loop-at-test.true c.in-Bad.ensures in
    λ code span h n. rw c.refused-in-Bad.ensures (same_fault _ _ _ _ _ f h)

pub returns-clause-right : goal.returns-clause-right
returns-clause-right c =
    let l = c.loop-at in finish assembly c.args.text.now l.at (tokens_of l.out) l.invariant.0 c.loop-at-test.false

pub returns-clause-cut : goal.returns-clause-cut
returns-clause-cut c =
    let l = c.loop-at in
    let x = finish assembly c.args.text.now l.at (tokens_of l.out) l.invariant.0 c.loop-at-test.false in
    λ w y. at_most_one_cut _ _ _ x y

pub returns-clause-refused : goal.returns-clause-refused
returns-clause-refused c =
    let l = c.loop-at in
    let x = finish assembly c.args.text.now l.at (tokens_of l.out) l.invariant.0 c.loop-at-test.false in
    λ code span f. absurd (no_token_fault_where_cut _ _ _ _ x f)
