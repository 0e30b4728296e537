use Rattle.std.proofs.Common.{◌≡◌, List, [], ◌∷◌, ◌++◌, refl, sym, ◌∙◌, ap, arith}
use Rattle.std.proofs.lemmas.Result.{err_from_is_err_and}
use Rattle.t_text.specs.declared.wanted.Wanted.TheVariants as want
use Rattle.t_text.specs.GrammarTable.{LDatums, LMoreDatums, MakeFirstDatum, MakeNextDatum, MakeClosedDatums}
use Rattle.t_shapes.proofs.Stepping.{within, list_first, list_first_stops, list_next, list_next_stops, list_whole}
use Rattle.t_shapes.proofs.Stepping.{list_close_stops}
use Rattle.t_shapes.specs.Reads.{datum_owed}
use Rattle.t_shapes.specs.declared.raw.RawDatum.{RawDatum}
use Rattle.t_shapes.proofs.Lines.{list_datums}
use Rattle.t_shapes.proofs.Worded.{datums_more, datums_empty}
use Rattle.t_text.specs.Kept.{tokens_of}
use Rattle.t_shapes.proofs.data.datums.Goals as goal

pub returns-in-Some : goal.returns-in-Some
returns-in-Some c =
    let ts = tokens_of c.args.tokens.now in
    let i = c.args.at in
    rw c.new-fields.ensures.items (datums_empty ts 1 i _ (omega arith) (sym c.take.ensures ∙ c.in-Some.is))

pub returns-in_err-first : goal.returns-in_err-first
returns-in_err-first c =
    let ts = tokens_of c.args.tokens.now in
    let i = c.args.at in
    let p = err_from_is_err_and c.from_residual.result c.from_residual.ensures.1 in
    rw (p.1, p.2)
    (list_first_stops LDatums LMoreDatums want.RightAngle datum_owed MakeFirstDatum MakeNextDatum MakeClosedDatums
    list_datums ts 1 i _ (sym c.take.ensures ∙ c.in_default.is) c.in_err-first.ensures)

pub loop-fields-init : goal.loop-fields-init
loop-fields-init c =
    let ts = tokens_of c.args.tokens.now in
    let i = c.args.at in
    let f = c.in_ok-first.first in
    let r = c.in_ok-first.ensures in
    let e : c.push.new.self.items ≡ f.datum ∷ [] =
    c.in_ok-push.ensures.items ∙ ap (λ (xs : List RawDatum). xs ++ f.datum ∷ []) c.new-fields.ensures.items in
    rw e (list_first LDatums LMoreDatums want.RightAngle datum_owed MakeFirstDatum MakeNextDatum MakeClosedDatums
    list_datums ts 1 i f.next _ _ (sym c.take.ensures ∙ c.in_default.is) r.reads (λ below. refl))

pub datum-requires-in-Some-take : goal.datum-requires-in-Some-take
datum-requires-in-Some-take c =
    let l = within (tokens_of c.args.tokens.now) c.loop-fields.next want.Comma _
    (sym c.take-in-loop-fields.ensures ∙ c.in-Some-take.is) in
    omega (arith, l)

pub returns-in_err-found : goal.returns-in_err-found
returns-in_err-found c =
    let ts = tokens_of c.args.tokens.now in
    let i = c.args.at in
    let p = err_from_is_err_and c.from_residual-in_err-found.result c.from_residual-in_err-found.ensures.1 in
    rw (p.1, p.2)
    (list_next_stops LDatums LMoreDatums want.RightAngle datum_owed MakeFirstDatum MakeNextDatum MakeClosedDatums
    list_datums ts 1 i c.loop-fields.next _ _ _ (omega arith) c.loop-fields.invariant
    (sym c.take-in-loop-fields.ensures ∙ c.in-Some-take.is) c.in_err-found.ensures)

pub loop-fields-smaller : goal.loop-fields-smaller
loop-fields-smaller c =
    let r = c.in_ok-found.ensures in omega (arith, r.reads.forward, r.reads.in_range)

pub loop-fields-preserved : goal.loop-fields-preserved
loop-fields-preserved c =
    let ts = tokens_of c.args.tokens.now in
    let i = c.args.at in
    let f = c.in_ok-found.found in
    let r = c.in_ok-found.ensures in
    rw (datums_more c.loop-fields.fields.items _ f.datum c.in_ok-push-2.ensures.items)
    (list_next LDatums LMoreDatums want.RightAngle datum_owed MakeFirstDatum MakeNextDatum MakeClosedDatums list_datums
    ts 1 i c.loop-fields.next f.next _ _ _ _ (omega arith) c.loop-fields.invariant
    (sym c.take-in-loop-fields.ensures ∙ c.in-Some-take.is) r.reads (λ below. refl))

pub returns-in_err-expect : goal.returns-in_err-expect
returns-in_err-expect c =
    let ts = tokens_of c.args.tokens.now in
    let i = c.args.at in
    let p = err_from_is_err_and c.from_residual-in_err-expect.result c.from_residual-in_err-expect.ensures.1 in
    rw (p.1, p.2)
    (list_close_stops LDatums LMoreDatums want.RightAngle datum_owed MakeFirstDatum MakeNextDatum MakeClosedDatums
    list_datums ts 1 i c.loop-fields.next _ _ c.loop-fields.invariant
    (sym c.take-in-loop-fields.ensures ∙ c.in_default-take.is) c.in_err-expect.ensures)

pub returns : goal.returns
returns c =
    let ts = tokens_of c.args.tokens.now in
    let i = c.args.at in
    list_whole LDatums LMoreDatums want.RightAngle datum_owed MakeFirstDatum MakeNextDatum MakeClosedDatums list_datums
    ts 1 i c.loop-fields.next _ _ _ (omega arith) c.loop-fields.invariant
    (sym c.take-in-loop-fields.ensures ∙ c.in_default-take.is) c.in_ok-expect.ensures (λ below. refl)
