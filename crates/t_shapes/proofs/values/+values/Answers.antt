use Rattle.std.proofs.Common.{◌≡◌, [], ◌∷◌, slice_get, Some, refl, sym, ◌∙◌, arith}
use Rattle.std.proofs.lemmas.Option.{slice_get_within}
use Rattle.std.proofs.lemmas.Result.{err_from_is_err_and}
use Rattle.text_core.specs.Table.{Nt, Do, Mark}
use Rattle.text_core.specs.Going.{at_the_end, other}
use Rattle.t_text.specs.declared.wanted.Wanted.TheVariants as want
use Rattle.t_text.specs.GrammarTable.{LT, after}
use Rattle.t_shapes.proofs.Stepping.{within, start, begins, by_token, by_call, by_do, by_mark, stop_token, stop_call}
use Rattle.t_shapes.proofs.Stepping.{stop_lacks, opening, not_opening, too_deep}
use Rattle.t_shapes.specs.Reads.{value_line, packed_line}
use Rattle.t_shapes.proofs.Lines.{make_packed, make_pack, packed_left, comma_left, inner_left, close_left, pack_left}
use Rattle.t_shapes.proofs.Lines.{as_left, shape_left, opens_packed, pack_begins, no_value, value_ends, packed_ends}
use Rattle.t_shapes.proofs.Based.{packed_made, pack_made}
use Rattle.t_text.specs.Kept.{tokens_of}
use Rattle.t_shapes.proofs.values.+values.Goals as goal

pub packed-returns-in_err-expect : goal.packed-returns-in_err-expect
packed-returns-in_err-expect t c =
    let ts = tokens_of c.args.tokens.now in
    let d = c.args.depth in
    let i = c.args.at in
    let b = c.args.of_data in
    let p = err_from_is_err_and c.from_residual.result c.from_residual.ensures.1 in
    rw (p.1, p.2)
    (not_opening ts d i _ (packed_line b) want.LeftBracket _ (opens_packed b) (packed_ends b) c.in_err-expect.ensures)

pub packed-returns-in_err-inner : goal.packed-returns-in_err-inner
packed-returns-in_err-inner t c =
    let ts = tokens_of c.args.tokens.now in
    let d = c.args.depth in
    let i = c.args.at in
    let b = c.args.of_data in
    let p = err_from_is_err_and c.from_residual-in_err-inner.result c.from_residual-in_err-inner.ensures.1 in
    rw (p.1, p.2)
    (too_deep ts d i _ _ (packed_line b) want.LeftBracket _ (opens_packed b) c.in_ok-expect.ensures refl
    c.in_err-inner.ensures)

pub packed-whole_type-requires-clause-at : goal.packed-whole_type-requires-clause-at
packed-whole_type-requires-clause-at t c =
    let ts = tokens_of c.args.tokens.now in
    let d = c.args.depth in
    let i = c.args.at in
    let b = c.args.of_data in
    let l = within ts i want.LeftBracket _ c.in_ok-expect.ensures in omega (arith, l)

pub packed-returns-in_err-hidden : goal.packed-returns-in_err-hidden
packed-returns-in_err-hidden t c =
    let ts = tokens_of c.args.tokens.now in
    let d = c.args.depth in
    let i = c.args.at in
    let b = c.args.of_data in
    let q = c.in_ok-inner.ensures in
    let m1 = opening ts d i _ (packed_line b) want.LeftBracket (packed_left b) (opens_packed b)
    c.in_ok-expect.ensures (omega (arith, q.1)) in
    let p = err_from_is_err_and c.from_residual-in_err-hidden.result c.from_residual-in_err-hidden.ensures.1 in
    rw (p.1, p.2)
    (stop_call _ (Nt LT ∷ []) _ (comma_left b)
    _ m1 (omega (arith, q.0)) c.in_err-hidden.ensures)

pub packed-returns-in_err-expect-2 : goal.packed-returns-in_err-expect-2
packed-returns-in_err-expect-2 t c =
    let ts = tokens_of c.args.tokens.now in
    let d = c.args.depth in
    let i = c.args.at in
    let b = c.args.of_data in
    let q = c.in_ok-inner.ensures in
    let m1 = opening ts d i _ (packed_line b) want.LeftBracket (packed_left b) (opens_packed b)
    c.in_ok-expect.ensures (omega (arith, q.1)) in
    let m2 = by_call _ (comma_left b) _ m1
    (omega (arith, q.0)) c.in_ok-hidden.ensures.same in
    let p = err_from_is_err_and c.from_residual-in_err-expect-2.result c.from_residual-in_err-expect-2.ensures.1 in
    rw (p.1, p.2)
    (stop_token _ want.Comma (inner_left b) _ m2
    c.in_err-expect-2.ensures)

pub packed-value-requires : goal.packed-value-requires
packed-value-requires t c =
    let ts = tokens_of c.args.tokens.now in
    let d = c.args.depth in
    let i = c.args.at in
    let b = c.args.of_data in
    let q = c.in_ok-inner.ensures in
    let r = c.in_ok-hidden.ensures in
    let l = within ts c.in_ok-hidden.hidden.next want.Comma _ c.in_ok-expect-2.ensures in
    let b = within ts i want.LeftBracket _ c.in_ok-expect.ensures in
    (omega (arith, l, b, r.forward), (omega (arith, q.0, q.1), omega (arith, l)))

pub packed-returns-in_err-found : goal.packed-returns-in_err-found
packed-returns-in_err-found t c =
    let ts = tokens_of c.args.tokens.now in
    let d = c.args.depth in
    let i = c.args.at in
    let b = c.args.of_data in
    let q = c.in_ok-inner.ensures in
    let m1 = opening ts d i _ (packed_line b) want.LeftBracket (packed_left b) (opens_packed b)
    c.in_ok-expect.ensures (omega (arith, q.1)) in
    let m2 = by_call _ (comma_left b) _ m1
    (omega (arith, q.0)) c.in_ok-hidden.ensures.same in
    let m3 = by_token want.Comma _ (inner_left b) _ m2
    c.in_ok-expect-2.ensures (omega (arith, q.1)) in
    let p = err_from_is_err_and c.from_residual-in_err-found.result c.from_residual-in_err-found.ensures.1 in
    rw (p.1, p.2)
    (stop_call _ (Nt (value_line b) ∷ []) _ (close_left b) _ m3
    (omega (arith, q.0)) c.in_err-found.ensures)

pub packed-returns-in_err-expect-3 : goal.packed-returns-in_err-expect-3
packed-returns-in_err-expect-3 t c =
    let ts = tokens_of c.args.tokens.now in
    let d = c.args.depth in
    let i = c.args.at in
    let b = c.args.of_data in
    let q = c.in_ok-inner.ensures in
    let m1 = opening ts d i _ (packed_line b) want.LeftBracket (packed_left b) (opens_packed b)
    c.in_ok-expect.ensures (omega (arith, q.1)) in
    let m2 = by_call _ (comma_left b) _ m1
    (omega (arith, q.0)) c.in_ok-hidden.ensures.same in
    let m3 = by_token want.Comma _ (inner_left b) _ m2
    c.in_ok-expect-2.ensures (omega (arith, q.1)) in
    let m4 = by_call _ (close_left b) _ m3
    (omega (arith, q.0)) c.in_ok-found.ensures.same in
    let p = err_from_is_err_and c.from_residual-in_err-expect-3.result c.from_residual-in_err-expect-3.ensures.1 in
    rw (p.1, p.2) (stop_token _ want.RightBracket (Mark ∷ (Do (make_packed b) ∷ [])) _ m4 c.in_err-expect-3.ensures)

pub packed-returns : goal.packed-returns
packed-returns t c =
    let ts = tokens_of c.args.tokens.now in
    let d = c.args.depth in
    let i = c.args.at in
    let b = c.args.of_data in
    let q = c.in_ok-inner.ensures in
    let m1 = opening ts d i _ (packed_line b) want.LeftBracket (packed_left b) (opens_packed b)
    c.in_ok-expect.ensures (omega (arith, q.1)) in
    let m2 = by_call _ (comma_left b) _ m1
    (omega (arith, q.0)) c.in_ok-hidden.ensures.same in
    let m3 = by_token want.Comma _ (inner_left b) _ m2
    c.in_ok-expect-2.ensures (omega (arith, q.1)) in
    let m4 = by_call _ (close_left b) _ m3
    (omega (arith, q.0)) c.in_ok-found.ensures.same in
    let m5 = by_token want.RightBracket _ (Mark ∷ (Do (make_packed b) ∷ [])) _ m4 c.in_ok-expect-3.ensures
    (omega (arith, q.1)) in
    let l = within ts c.in_ok-found.found.next want.RightBracket _ c.in_ok-expect-3.ensures in
    record {
      forward = omega (arith, c.in_ok-hidden.ensures.forward, c.in_ok-found.ensures.forward);
      in_range = omega (arith, l);
      same = by_do (make_packed b) [] _ _ (by_mark (Do (make_packed b) ∷ []) _ m5)
          (λ below. packed_made b _ _ _ _ _ _ _ below);
    }

pub value-returns-in-None : goal.value-returns-in-None
value-returns-in-None t c =
    let ts = tokens_of c.args.tokens.now in
    let d = c.args.depth in
    let i = c.args.at in
    let b = c.args.of_data in
    stop_lacks _ (value_line b) [] [] (start ts d i (Nt (value_line b) ∷ [])) (value_ends b)
    (at_the_end (sym c.peek.ensures ∙ c.in-None.is)) refl

pub value-packed-requires : goal.value-packed-requires
value-packed-requires t c =
    let ts = tokens_of c.args.tokens.now in
    let d = c.args.depth in
    let i = c.args.at in
    let b = c.args.of_data in
    let e : slice_get ts i ≡ Some c.in-Some.token = sym c.peek.ensures ∙ c.in-Some.is in
    let l = slice_get_within ts i c.in-Some.token e in
    (omega (arith, l), (c.requires.depth, omega (arith, l)))

pub value-returns-in_err-packed-in-Pack : goal.value-returns-in_err-packed-in-Pack
value-returns-in_err-packed-in-Pack t c =
    let ts = tokens_of c.args.tokens.now in
    let d = c.args.depth in
    let i = c.args.at in
    let b = c.args.of_data in
    let e : slice_get ts i ≡ Some c.in-Some.token = sym c.peek.ensures ∙ c.in-Some.is in
    let a : after (value_line b) c.in-Some.token.kind ≡ Some (pack_left b) = pack_begins b _ c.in-Pack.is in
    let m1 = begins ts d i c.in-Some.token (value_line b) (pack_left b) e a (omega arith) in
    let p = err_from_is_err_and c.from_residual.result
    c.from_residual.ensures.1 in
    rw (p.1, p.2)
    (stop_call _ (Nt (packed_line b) ∷ []) d (as_left b) _ m1
    (omega arith) c.in_err-packed-in-Pack.ensures)

pub value-returns-in_err-expect-in-Pack : goal.value-returns-in_err-expect-in-Pack
value-returns-in_err-expect-in-Pack t c =
    let ts = tokens_of c.args.tokens.now in
    let d = c.args.depth in
    let i = c.args.at in
    let b = c.args.of_data in
    let e : slice_get ts i ≡ Some c.in-Some.token = sym c.peek.ensures ∙ c.in-Some.is in
    let a : after (value_line b) c.in-Some.token.kind ≡ Some (pack_left b) = pack_begins b _ c.in-Pack.is in
    let m1 = begins ts d i c.in-Some.token (value_line b) (pack_left b) e a (omega arith) in
    let m2 =
    by_call d (as_left b) _ m1 (omega arith) c.in_ok-packed-in-Pack.ensures.same in
    let p = err_from_is_err_and c.from_residual-in_err-expect-in-Pack.result
    c.from_residual-in_err-expect-in-Pack.ensures.1 in
    rw (p.1, p.2) (stop_token _ want.As (shape_left b) _ m2 c.in_err-expect-in-Pack.ensures)

pub value-whole_type-requires-clause-at : goal.value-whole_type-requires-clause-at
value-whole_type-requires-clause-at t c =
    let ts = tokens_of c.args.tokens.now in
    let d = c.args.depth in
    let i = c.args.at in
    let b = c.args.of_data in
    let l = within ts c.in_ok-packed-in-Pack.packed.next want.As _ c.in_ok-expect-in-Pack.ensures in omega (arith, l)

pub value-returns-in_err-shape-in-Pack : goal.value-returns-in_err-shape-in-Pack
value-returns-in_err-shape-in-Pack t c =
    let ts = tokens_of c.args.tokens.now in
    let d = c.args.depth in
    let i = c.args.at in
    let b = c.args.of_data in
    let e : slice_get ts i ≡ Some c.in-Some.token = sym c.peek.ensures ∙ c.in-Some.is in
    let a : after (value_line b) c.in-Some.token.kind ≡ Some (pack_left b) = pack_begins b _ c.in-Pack.is in
    let m1 = begins ts d i c.in-Some.token (value_line b) (pack_left b) e a (omega arith) in
    let m2 =
    by_call d (as_left b) _ m1 (omega arith) c.in_ok-packed-in-Pack.ensures.same in
    let m3 = by_token want.As _ (shape_left b) _ m2 c.in_ok-expect-in-Pack.ensures (omega arith) in
    let p = err_from_is_err_and c.from_residual-in_err-shape-in-Pack.result
    c.from_residual-in_err-shape-in-Pack.ensures.1 in
    rw (p.1, p.2) (stop_call _ (Nt LT ∷ []) d (Do (make_pack b) ∷ []) _ m3 (omega arith) c.in_err-shape-in-Pack.ensures)

pub value-returns-in_ok-value-in-Pack : goal.value-returns-in_ok-value-in-Pack
value-returns-in_ok-value-in-Pack t c =
    let ts = tokens_of c.args.tokens.now in
    let d = c.args.depth in
    let i = c.args.at in
    let b = c.args.of_data in
    let e : slice_get ts i ≡ Some c.in-Some.token = sym c.peek.ensures ∙ c.in-Some.is in
    let a : after (value_line b) c.in-Some.token.kind ≡ Some (pack_left b) = pack_begins b _ c.in-Pack.is in
    let m1 = begins ts d i c.in-Some.token (value_line b) (pack_left b) e a (omega arith) in
    let m2 =
    by_call d (as_left b) _ m1 (omega arith) c.in_ok-packed-in-Pack.ensures.same in
    let m3 = by_token want.As _ (shape_left b) _ m2 c.in_ok-expect-in-Pack.ensures (omega arith) in
    let r = c.in_ok-shape-in-Pack.ensures in
    rw (c.in_ok-value-in-Pack.ensures, c.up_to.ensures) (record {
      forward = omega (arith, c.in_ok-packed-in-Pack.ensures.forward, r.forward);
      in_range = r.in_range;
      same = by_do (make_pack b) [] _ _ (by_call d (Do (make_pack b) ∷ []) _ m3 (omega arith) r.same)
          (λ below. pack_made b _ _ _ _ below);
    })

pub value-returns-in_default-kind : goal.value-returns-in_default-kind
value-returns-in_default-kind t c =
    let ts = tokens_of c.args.tokens.now in
    let d = c.args.depth in
    let i = c.args.at in
    let b = c.args.of_data in
    let e : slice_get ts i ≡ Some c.in-Some.token = sym c.peek.ensures ∙ c.in-Some.is in
    stop_lacks _ (value_line b) [] [] (start ts d i (Nt (value_line b) ∷ [])) (value_ends b)
    (other c.in-Some.token e (no_value b c.in-Some.token.kind c.in_default.ensures c.in_default-kind.not-Pack)) refl
