use Rattle.std.proofs.Common.{◌≡◌, List, [], ◌∷◌, ◌++◌, refl, sym, ◌∙◌, ap, arith}
use Rattle.std.proofs.lemmas.Result.{err_from_is_err_and}
use Rattle.text_core.specs.Table.{Tm, Nt, Do}
use Rattle.t_text.specs.declared.wanted.Wanted.TheVariants as want
use Rattle.t_text.specs.GrammarTable.{LT, LSomeTypes, LMoreTypes, MakeFirstType, MakeNextType, MakeClosedTypes}
use Rattle.t_shapes.specs.declared.raw_types.RawType.{RawType}
use Rattle.t_shapes.proofs.Stepping.{within, stop_call, list_first_from, list_next, list_next_stops, list_whole}
use Rattle.t_shapes.proofs.Stepping.{list_close_stops}
use Rattle.t_shapes.proofs.Lines.{some_begin, list_types}
use Rattle.t_shapes.proofs.Based.{types_more}
use Rattle.t_text.specs.Kept.{tokens_of}
use Rattle.t_shapes.proofs.lists.some_types.Goals as goal

pub returns-in_err-first : goal.returns-in_err-first
returns-in_err-first c =
    let ts = tokens_of c.args.tokens.now in
    let d = c.args.depth in
    let i = c.args.at in
    let p = err_from_is_err_and c.from_residual.result c.from_residual.ensures.1 in
    rw (p.1, p.2)
    (stop_call _ (Nt LT ∷ []) d
    (Do MakeFirstType ∷ (Nt LMoreTypes ∷ (Tm want.RightBracket ∷ (Do MakeClosedTypes ∷ [])))) []
    (some_begin ts d i) (omega arith) c.in_err-first.ensures)

pub loop-types-init : goal.loop-types-init
loop-types-init c =
    let ts = tokens_of c.args.tokens.now in
    let d = c.args.depth in
    let i = c.args.at in
    let f = c.in_ok-first.first in
    let e : c.push.new.self.items ≡ f.ty ∷ [] =
    c.in_ok-push.ensures.items ∙ ap (λ (xs : List RawType). xs ++ f.ty ∷ []) c.new-types.ensures.items in
    rw e (list_first_from LSomeTypes LMoreTypes want.RightBracket (Nt LT ∷ []) MakeFirstType MakeNextType
    MakeClosedTypes list_types ts d i f.next _ _ (some_begin ts d i) c.in_ok-first.ensures (λ below. refl))

pub whole_type-requires-in-Some-clause-at : goal.whole_type-requires-in-Some-clause-at
whole_type-requires-in-Some-clause-at c =
    let ts = tokens_of c.args.tokens.now in
    let d = c.args.depth in
    let i = c.args.at in
    let l = within ts c.loop-types.next want.Comma _ (sym c.take.ensures ∙ c.in-Some.is) in omega (arith, l)

pub returns-in_err-found : goal.returns-in_err-found
returns-in_err-found c =
    let ts = tokens_of c.args.tokens.now in
    let d = c.args.depth in
    let i = c.args.at in
    let p = err_from_is_err_and c.from_residual-in_err-found.result c.from_residual-in_err-found.ensures.1 in
    rw (p.1, p.2)
    (list_next_stops LSomeTypes LMoreTypes want.RightBracket (Nt LT ∷ []) MakeFirstType MakeNextType
    MakeClosedTypes list_types ts d i c.loop-types.next _ _ _ c.requires.depth c.loop-types.invariant
    (sym c.take.ensures ∙ c.in-Some.is) c.in_err-found.ensures)

pub loop-types-preserved : goal.loop-types-preserved
loop-types-preserved c =
    let ts = tokens_of c.args.tokens.now in
    let d = c.args.depth in
    let i = c.args.at in
    let f = c.in_ok-found.found in
    rw (types_more c.loop-types.types.items _ f.ty c.in_ok-push-2.ensures.items)
    (list_next LSomeTypes LMoreTypes want.RightBracket (Nt LT ∷ []) MakeFirstType MakeNextType MakeClosedTypes
    list_types ts d i c.loop-types.next f.next _ _ _ _ c.requires.depth c.loop-types.invariant
    (sym c.take.ensures ∙ c.in-Some.is) c.in_ok-found.ensures (λ below. refl))

pub returns-in_err-close : goal.returns-in_err-close
returns-in_err-close c =
    let ts = tokens_of c.args.tokens.now in
    let d = c.args.depth in
    let i = c.args.at in
    let p = err_from_is_err_and c.from_residual-in_err-close.result c.from_residual-in_err-close.ensures.1 in
    rw (p.1, p.2)
    (list_close_stops LSomeTypes LMoreTypes want.RightBracket (Nt LT ∷ []) MakeFirstType MakeNextType
    MakeClosedTypes list_types ts d i c.loop-types.next _ _ c.loop-types.invariant
    (sym c.take.ensures ∙ c.in_default.is) c.in_err-close.ensures)

pub returns : goal.returns
returns c =
    let ts = tokens_of c.args.tokens.now in
    let d = c.args.depth in
    let i = c.args.at in
    list_whole LSomeTypes LMoreTypes want.RightBracket (Nt LT ∷ []) MakeFirstType MakeNextType MakeClosedTypes
    list_types ts d i c.loop-types.next _ _ _ c.requires.depth c.loop-types.invariant
    (sym c.take.ensures ∙ c.in_default.is) c.in_ok-close.ensures (λ below. refl)
