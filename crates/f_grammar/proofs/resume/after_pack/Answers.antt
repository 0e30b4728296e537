use Rattle.std.proofs.Common.{[], ◌∷◌, ◌-◌, refl, arith}
use Rattle.std.proofs.lemmas.Result.{err_from_is_err_and}
use Rattle.text_core.specs.Table.{Nt, Do}
use Rattle.f_grammar.specs.Machine.{LT, MakePack}
use Rattle.f_grammar.specs.declared.cursor.Wanted.TheVariants as want
use Rattle.f_grammar.proofs.Reaching.{stops, stops_token}
use Rattle.f_grammar.proofs.Steps.{has_mark, got_are, one_child}
use Rattle.f_grammar.proofs.Resuming.{pack_closed, pack_as, pack_given}
use Rattle.f_grammar.proofs.resume.after_pack.Goals as goal

pub returns-in_err-expect : goal.returns-in_err-expect
returns-in_err-expect c =
    let p = err_from_is_err_and c.from_residual.result c.from_residual.ensures.1 in
    rw (p.1, p.2) (stops_token c.args.reader.now.tokens.now want.RightBracket _ c.in_err-expect.ensures c.requires.4)

pub overflow_sub-reader : goal.overflow_sub-reader
overflow_sub-reader c = let m = has_mark (omega arith) c.requires.4 in omega (arith, m)

pub returns-in_err-expect-2 : goal.returns-in_err-expect-2
returns-in_err-expect-2 c =
    let p = err_from_is_err_and c.from_residual-in_err-expect-2.result c.from_residual-in_err-expect-2.ensures.1 in
    let x = c.requires in
    let h = x.3 in
    let m = has_mark (omega arith) x.4 in
    rw (p.1, p.2)
    (stops_token c.args.reader.now.tokens.now want.As _ c.in_err-expect-2.ensures
    (pack_closed c.args.reader.now.tokens.now (c.args.reader.now.depth - 1) c.args.hidden h.3 x.0 h.0 h.1 h.2 _
    c.in_ok-expect.ensures (omega (arith, m)) (got_are x.0 x.1 _ h.5 x.4)))

pub whole_type-requires : goal.whole_type-requires
whole_type-requires c =
    let x = c.requires in
    let h = x.3 in
    let m = has_mark (omega arith) x.4 in
    let r = pack_as c.args.reader.now.tokens.now (c.args.reader.now.depth - 1) c.args.hidden h.3 x.0 h.0 h.1 h.2 _
    c.in_ok-expect.ensures (omega (arith, m)) (got_are x.0 x.1 _ h.5 x.4) _ c.in_ok-expect-2.ensures in
    record { depth = r.room; at = r.in_range }

pub returns-in_err-found : goal.returns-in_err-found
returns-in_err-found c =
    let p = err_from_is_err_and c.from_residual-in_err-found.result c.from_residual-in_err-found.ensures.1 in
    let x = c.requires in
    let h = x.3 in
    let m = has_mark (omega arith) x.4 in
    rw (p.1, p.2)
    (stops c.args.reader.now.tokens.now (Do MakePack ∷ []) (Nt LT ∷ []) _ refl c.in_err-found.ensures
    (pack_as c.args.reader.now.tokens.now (c.args.reader.now.depth - 1) c.args.hidden h.3 x.0 h.0 h.1 h.2 _
    c.in_ok-expect.ensures (omega (arith, m)) (got_are x.0 x.1 _ h.5 x.4) _ c.in_ok-expect-2.ensures))

pub put-requires : goal.put-requires
put-requires c = λ f. one_child c.requires.2 f

pub returns : goal.returns
returns c =
    let x = c.requires in
    let h = x.3 in
    let m = has_mark (omega arith) x.4 in
    let t = c.in_ok-found.ensures in
    let g = pack_given c.args.reader.now.tokens.now _ c.args.hidden h.3 x.0 h.0 h.1 h.2 _ c.in_ok-expect.ensures
    (omega (arith, m)) (got_are x.0 x.1 _ h.5 x.4) _ c.in_ok-expect-2.ensures c.in_ok-found.found h.4 x.2 t
    c.in_ok-part.ensures in
    (refl, (g.piece, g.stands, g.reached), omega (arith, t.forward, g.reached.in_range))
