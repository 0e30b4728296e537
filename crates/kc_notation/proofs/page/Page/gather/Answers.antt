use Rattle.std.proofs.Common.{sym, subst}
use Rattle.page_core.specs.Pieces.{HasText}
use Rattle.kc_notation.proofs.Pages.{gather_start, gather_more, gather_none, gather_end}
use Rattle.kc_notation.proofs.page.Page.gather.Goals as goal

pub loop-i-init : goal.loop-i-init
loop-i-init c = record {
  keeps = λ j s st. st;
  gathers = λ p s h st. gather_start c.args.self.now c.args.end c.args.count p s h st;
}

pub loop-i-preserved : goal.loop-i-preserved
loop-i-preserved c = record {
  keeps = λ j s st.
      c.in_ok-whole.ensures.keeps j s
      (subst (λ ps. HasText ps j s) (sym c.in-Some.ensures.pieces) (c.loop-i.invariant.keeps j s st));
  gathers = λ p s h st.
      gather_more c.loop-i.self c.take.new.self c.loop-i.whole c.args.count c.loop-i.i p _ _ c.loop-i-test.true
      c.in-Some.ensures.pieces (c.loop-i.invariant.gathers p s h st) c.listed.new.pieces c.in-Some.value _
      c.in-Some.ensures.taken c.in_ok-whole.ensures.keeps c.in_ok-whole.ensures.stands;
}

pub returns-in-None-clause-keeps : goal.returns-in-None-clause-keeps
returns-in-None-clause-keeps c = λ j s st.
    subst (λ ps. HasText ps j s) (sym c.in-None.ensures.pieces) (c.loop-i.invariant.keeps j s st)

pub returns-in-None-clause-gathered : goal.returns-in-None-clause-gathered
returns-in-None-clause-gathered c = λ p s h st.
    gather_none c.loop-i.self c.take.new.self c.loop-i.whole c.args.count c.loop-i.i p _ _ c.loop-i-test.true
    c.in-None.ensures.pieces (c.loop-i.invariant.gathers p s h st) c.in-None.ensures.taken

pub returns-clause-keeps : goal.returns-clause-keeps
returns-clause-keeps c = c.loop-i.invariant.keeps

pub returns-clause-gathered : goal.returns-clause-gathered
returns-clause-gathered c = λ p s h st.
    gather_end c.loop-i.self c.loop-i.whole c.args.count c.loop-i.i p _ _ c.loop-i-test.false
    (c.loop-i.invariant.gathers p s h st)
