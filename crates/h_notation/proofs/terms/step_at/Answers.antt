use Rattle.std.proofs.Common.{◌∙◌, sym}
use Rattle.h_notation.proofs.ScopeTexts.{let_built}
use Rattle.h_notation.proofs.terms.step_at.Goals as goal

pub step_let-requires : goal.step_let-requires
step_let-requires c = record {
  form = sym c.declares.ensures ∙ c.if-declares.true;
  arity = c.requires.arity;
  ready = c.requires.ready;
}

pub step_other-requires : goal.step_other-requires
step_other-requires c = record {
  form = sym c.declares.ensures ∙ c.if-declares.false;
  arity = c.requires.arity;
  ready = c.requires.ready;
}

pub returns-then-declares : goal.returns-then-declares
returns-then-declares c =
    let_built _ _ _ _ _ _ _ _ _ _ _ (sym c.declares.ensures ∙ c.if-declares.true) c.in_ok-step_let.ensures
