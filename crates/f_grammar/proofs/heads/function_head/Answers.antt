use Rattle.std.proofs.Common.{[], ◌∷◌, ◌+◌, refl, arith}
use Rattle.text_core.specs.Table.{Nt, Tm}
use Rattle.f_grammar.specs.Machine.{LParam, LT}
use Rattle.f_grammar.specs.Reads.{found_ty}
use Rattle.f_grammar.specs.declared.cursor.Wanted.TheVariants as want
use Rattle.f_grammar.proofs.Typing.{fails_after, fails_call, fails_expect, refused, within}
use Rattle.f_grammar.specs.ReadsTerms.{fix_body}
use Rattle.f_grammar.proofs.Heading.{fix_deep, fix_1, fix_2, fix_3, fix_4, fix_5, fix_6}
use Rattle.f_grammar.proofs.heads.function_head.Goals as goal

pub returns-in_err-inner : goal.returns-in_err-inner
returns-in_err-inner c =
    refused _ _ _ _ c.from_residual.ensures.1 (fix_deep _ _ _ c.args.word c.requires.word _ c.in_err-inner.ensures)

pub returns-in_err-name : goal.returns-in_err-name
returns-in_err-name c =
    refused _ _ _ _ c.from_residual-in_err-name.ensures.1 (fails_after _ _ _ _ _ _ _ _ _
    (fix_1 _ _ _ c.args.word c.requires.word c.in_ok-inner.ensures.1)
    (fails_expect _ _ _ want.Name _ _ _ c.in_err-name.ensures))

pub parameter-requires-clause-at : goal.parameter-requires-clause-at
parameter-requires-clause-at c =
    let l = within c.args.tokens.now (c.args.at + 1) want.Name _ c.in_ok-name.ensures in omega (arith, l)

pub returns-in_err-param : goal.returns-in_err-param
returns-in_err-param c =
    let q = c.in_ok-inner.ensures in
    refused _ _ _ _ c.from_residual-in_err-param.ensures.1 (fails_after _ _ _ _ _ _ _ _ _
    (fix_2 _ _ _ c.args.word c.requires.word q.1 _ c.in_ok-name.ensures)
    (fails_call _ _ _ _ (Nt LParam ∷ []) (Tm want.Colon ∷ (Nt LT ∷ (Tm want.Dot ∷ fix_body))) _ _ (omega (arith, q.0))
    c.in_err-param.ensures))

pub returns-in_err-expect : goal.returns-in_err-expect
returns-in_err-expect c =
    let q = c.in_ok-inner.ensures in
    let m = c.in_ok-param.param in
    refused _ _ _ _ c.from_residual-in_err-expect.ensures.1 (fails_after _ _ _ m.next _ _ _ _ _
    (fix_3 _ _ _ c.args.word c.requires.word q.1 _ c.in_ok-name.ensures _ q.0 m c.in_ok-param.ensures)
    (fails_expect _ _ m.next want.Colon _ _ _ c.in_err-expect.ensures))

pub whole_type-requires-clause-at : goal.whole_type-requires-clause-at
whole_type-requires-clause-at c =
    let l = within c.args.tokens.now c.in_ok-param.param.next want.Colon _ c.in_ok-expect.ensures in omega (arith, l)

pub returns-in_err-gives : goal.returns-in_err-gives
returns-in_err-gives c =
    let q = c.in_ok-inner.ensures in
    let m = c.in_ok-param.param in
    refused _ _ _ _ c.from_residual-in_err-gives.ensures.1 (fails_after _ _ _ _ _ _ _ _ _
    (fix_4 _ _ _ c.args.word c.requires.word q.1 _ c.in_ok-name.ensures _ q.0 m c.in_ok-param.ensures _
    c.in_ok-expect.ensures)
    (fails_call _ _ _ _ (Nt LT ∷ []) (Tm want.Dot ∷ fix_body) _ _ (omega (arith, q.0)) c.in_err-gives.ensures))

pub returns-in_err-expect-2 : goal.returns-in_err-expect-2
returns-in_err-expect-2 c =
    let q = c.in_ok-inner.ensures in
    let m = c.in_ok-param.param in
    let g = c.in_ok-gives.gives in
    refused _ _ _ _ c.from_residual-in_err-expect-2.ensures.1 (fails_after _ _ _ g.next _ _ _ _ _
    (fix_5 _ _ _ c.args.word c.requires.word q.1 _ c.in_ok-name.ensures _ q.0 m c.in_ok-param.ensures _
    c.in_ok-expect.ensures g.next (found_ty g) c.in_ok-gives.ensures)
    (fails_expect _ _ g.next want.Dot _ _ _ c.in_err-expect-2.ensures))

pub returns : goal.returns
returns c =
    let ts = c.args.tokens.now in
    let d = c.args.depth in
    let i = c.args.at in
    let q = c.in_ok-inner.ensures in
    let m = c.in_ok-param.param in
    let g = c.in_ok-gives.gives in
    let r = c.in_ok-param.ensures in
    let x = c.in_ok-gives.ensures in
    let l = within ts g.next want.Dot _ c.in_ok-expect-2.ensures in
    record {
      word = _;
      name = _;
      left = _;
      parameter = _;
      colon = _;
      right = _;
      colon_again = _;
      dot = _;
      takes_end = r.type_end;
      gives_end = g.end;
      word_is = refl;
      name_is = refl;
      parameter_is = refl;
      room = q.1;
      forward = omega (arith, r.reads.forward, x.forward);
      in_range = omega (arith, l);
      same = fix_6 ts d i c.args.word c.requires.word q.1 _ c.in_ok-name.ensures _ q.0 m r _ c.in_ok-expect.ensures
          g.next (found_ty g) x _ c.in_ok-expect-2.ensures;
    }
