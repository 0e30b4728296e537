use Rattle.std.proofs.Common.{◌≡◌, [], ◌∷◌, ◌++◌, ◌+◌, List, refl, sym, ◌∙◌, ap, arith}
use Rattle.std.proofs.lemmas.Result.{err_from_is_err_and}
use Rattle.idx_core.specs.declared.span.Span.{Span}
use Rattle.text_core.specs.Table.{Tm}
use Rattle.t_text.specs.declared.wanted.Wanted.TheVariants as want
use Rattle.t_text.specs.GrammarTable.{LNames, LMoreNames, MakeFirstName, MakeNextName, MakeClosedNames, OfNames}
use Rattle.t_text.specs.GrammarTable.{OfToken}
use Rattle.t_shapes.proofs.Stepping.{within, list_first, list_first_stops, list_next, list_next_stops, list_whole}
use Rattle.t_shapes.proofs.Stepping.{list_close_stops, one_read, one_missed}
use Rattle.t_shapes.proofs.TypeLines.{list_names}
use Rattle.t_shapes.proofs.Empty.{names_empty}
use Rattle.t_text.specs.Kept.{tokens_of}
use Rattle.t_shapes.proofs.names.names.Goals as goal

pub returns-in-Some : goal.returns-in-Some
returns-in-Some c =
    rw c.new-names.ensures.items
    (names_empty (tokens_of c.args.tokens.now) c.args.depth c.args.at _ c.requires.depth
    (sym c.take.ensures ∙ c.in-Some.is))

pub returns-in_err-first : goal.returns-in_err-first
returns-in_err-first c =
    let p = err_from_is_err_and c.from_residual.result c.from_residual.ensures.1 in
    let ts = tokens_of c.args.tokens.now in
    let d = c.args.depth in
    let i = c.args.at in
    rw (p.1, p.2)
    (list_first_stops LNames LMoreNames want.RightBracket (Tm want.Name ∷ []) MakeFirstName MakeNextName
    MakeClosedNames list_names ts d i _ (sym c.take.ensures ∙ c.in_default.is)
    (one_missed ts d i want.Name _ c.in_err-first.ensures))

pub loop-names-init : goal.loop-names-init
loop-names-init c =
    let x = c.in_ok-first.first in
    let e : c.push.new.self.items ≡ x.span ∷ [] =
    c.in_ok-push.ensures.items ∙ ap (λ (ns : List Span). ns ++ x.span ∷ []) c.new-names.ensures.items in
    rw e (list_first LNames LMoreNames want.RightBracket (Tm want.Name ∷ []) MakeFirstName MakeNextName MakeClosedNames
    list_names (tokens_of c.args.tokens.now) c.args.depth c.args.at (c.args.at + 1) (OfToken x ∷ [])
    (OfNames (x.span ∷ [])) (sym c.take.ensures ∙ c.in_default.is)
    (one_read (tokens_of c.args.tokens.now) c.args.depth c.args.at _ want.Name x c.requires.depth c.in_ok-first.ensures
    refl) (λ below. refl))

pub returns-in_err-name : goal.returns-in_err-name
returns-in_err-name c =
    let p = err_from_is_err_and c.from_residual-in_err-name.result c.from_residual-in_err-name.ensures.1 in
    rw (p.1, p.2)
    (list_next_stops LNames LMoreNames want.RightBracket (Tm want.Name ∷ []) MakeFirstName MakeNextName
    MakeClosedNames list_names (tokens_of c.args.tokens.now) c.args.depth c.args.at c.loop-names.next _
    c.in-Some-take.field-0 _ c.requires.depth c.loop-names.invariant
    (sym c.take-in-loop-names.ensures ∙ c.in-Some-take.is)
    (one_missed (tokens_of c.args.tokens.now) c.args.depth (c.loop-names.next + 1) want.Name _ c.in_err-name.ensures))

pub loop-names-smaller : goal.loop-names-smaller
loop-names-smaller c =
    let l = within (tokens_of c.args.tokens.now) c.loop-names.next want.Comma _
    (sym c.take-in-loop-names.ensures ∙ c.in-Some-take.is) in
    omega (arith, l)

pub loop-names-preserved : goal.loop-names-preserved
loop-names-preserved c =
    let x = c.in_ok-name.name in
    rw c.in_ok-push-2.ensures.items
    (list_next LNames LMoreNames want.RightBracket (Tm want.Name ∷ []) MakeFirstName MakeNextName MakeClosedNames
    list_names (tokens_of c.args.tokens.now) c.args.depth c.args.at c.loop-names.next (c.loop-names.next + 2)
    (OfToken x ∷ []) _ _ c.in-Some-take.field-0 c.requires.depth c.loop-names.invariant
    (sym c.take-in-loop-names.ensures ∙ c.in-Some-take.is)
    (one_read (tokens_of c.args.tokens.now) c.args.depth (c.loop-names.next + 1) _ want.Name x c.requires.depth
    c.in_ok-name.ensures (omega arith)) (λ below. refl))

pub returns-in_err-expect : goal.returns-in_err-expect
returns-in_err-expect c =
    let p = err_from_is_err_and c.from_residual-in_err-expect.result c.from_residual-in_err-expect.ensures.1 in
    rw (p.1, p.2)
    (list_close_stops LNames LMoreNames want.RightBracket (Tm want.Name ∷ []) MakeFirstName MakeNextName
    MakeClosedNames list_names (tokens_of c.args.tokens.now) c.args.depth c.args.at c.loop-names.next _ _
    c.loop-names.invariant (sym c.take-in-loop-names.ensures ∙ c.in_default-take.is) c.in_err-expect.ensures)

pub returns : goal.returns
returns c =
    list_whole LNames LMoreNames want.RightBracket (Tm want.Name ∷ []) MakeFirstName MakeNextName MakeClosedNames
    list_names (tokens_of c.args.tokens.now) c.args.depth c.args.at c.loop-names.next _ _ _ c.requires.depth
    c.loop-names.invariant (sym c.take-in-loop-names.ensures ∙ c.in_default-take.is) c.in_ok-expect.ensures
    (λ below. refl)
