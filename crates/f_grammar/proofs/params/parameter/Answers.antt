use Rattle.std.proofs.Common.{[], ◌∷◌, ◌+◌, arith}
use Rattle.text_core.specs.Table.{Nt, Tm, Mark}
use Rattle.f_grammar.specs.Machine.{LT}
use Rattle.f_grammar.specs.Reads.{found_ty}
use Rattle.f_grammar.specs.declared.cursor.Wanted.TheVariants as want
use Rattle.f_grammar.proofs.Typing.{within, fails_after, fails_call, fails_expect, refused}
use Rattle.f_grammar.proofs.Typing.{no_param, deep_param, param_1}
use Rattle.f_grammar.proofs.Typing.{param_2, param_3, param_4, param_whole}
use Rattle.f_grammar.proofs.params.parameter.Goals as goal

pub returns-in_err-expect : goal.returns-in_err-expect
returns-in_err-expect c =
    let h = c.in_err-expect.ensures in
    refused _ _ _ _ c.from_residual.ensures.1 (rw h.0 (no_param _ _ _ h.1))

pub returns-in_err-inner : goal.returns-in_err-inner
returns-in_err-inner c =
    refused _ _ _ _ c.from_residual-in_err-inner.ensures.1 (deep_param _ _ _ _ c.in_ok-expect.ensures _
    c.in_err-inner.ensures)

pub returns-in_err-name : goal.returns-in_err-name
returns-in_err-name c =
    let q = c.in_ok-inner.ensures in
    refused _ _ _ _ c.from_residual-in_err-name.ensures.1 (fails_after _ _ _ _ _ _ _ _ _
    (param_1 _ _ _ _ c.in_ok-expect.ensures q.1)
    (fails_expect _ _ _ want.Name _ _ _ c.in_err-name.ensures))

pub returns-in_err-expect-2 : goal.returns-in_err-expect-2
returns-in_err-expect-2 c =
    let q = c.in_ok-inner.ensures in
    refused _ _ _ _ c.from_residual-in_err-expect-2.ensures.1 (fails_after _ _ _ _ _ _ _ _ _
    (param_2 _ _ _ _ c.in_ok-expect.ensures q.1 _ c.in_ok-name.ensures)
    (fails_expect _ _ _ want.Colon _ _ _ c.in_err-expect-2.ensures))

pub whole_type-requires-clause-at : goal.whole_type-requires-clause-at
whole_type-requires-clause-at c =
    let l = within c.args.tokens.now (c.args.at + 2) want.Colon _ c.in_ok-expect-2.ensures in omega (arith, l)

pub returns-in_err-found : goal.returns-in_err-found
returns-in_err-found c =
    let q = c.in_ok-inner.ensures in
    refused _ _ _ _ c.from_residual-in_err-found.ensures.1 (fails_after _ _ _ _ _ _ _ _ _
    (param_3 _ _ _ _ c.in_ok-expect.ensures q.1 _ _ c.in_ok-name.ensures c.in_ok-expect-2.ensures)
    (fails_call _ _ _ _ (Nt LT ∷ []) (Tm want.RightParen ∷ (Mark ∷ [])) _ _ (omega (arith, q.0))
    c.in_err-found.ensures))

pub returns-in_err-expect-3 : goal.returns-in_err-expect-3
returns-in_err-expect-3 c =
    let q = c.in_ok-inner.ensures in
    let f = c.in_ok-found.found in
    refused _ _ _ _ c.from_residual-in_err-expect-3.ensures.1 (fails_after _ _ _ f.next _ _ _ _ _
    (param_4 _ _ _ _ c.in_ok-expect.ensures q.1 _ _ _ f.next (found_ty f) c.in_ok-name.ensures
    c.in_ok-expect-2.ensures q.0 c.in_ok-found.ensures)
    (fails_expect _ _ f.next want.RightParen _ _ _ c.in_err-expect-3.ensures))

pub returns : goal.returns
returns c =
    let q = c.in_ok-inner.ensures in
    let f = c.in_ok-found.found in
    record {
      open_paren = _;
      colon = _;
      close_paren = _;
      type_end = f.end;
      reads = param_whole c.args.tokens.now c.args.depth c.args.at _ c.in_ok-expect.ensures q.1 _ _ _ _ f.next
          (found_ty f) c.in_ok-name.ensures c.in_ok-expect-2.ensures q.0 c.in_ok-found.ensures
          c.in_ok-expect-3.ensures;
    }
