use Rattle.std.proofs.Common.{List, [], ◌∷◌, ◌++◌, ◌+◌, refl, sym, subst, ◌∙◌, ap, arith}
use Rattle.std.proofs.lemmas.Option.{slice_get_within}
use Rattle.f_grammar.specs.declared.cursor.Wanted.TheVariants as want
use Rattle.f_grammar.specs.Machine.{table, LT, LU, LTypes, MoreArrow, MoreTypes, TypeTuple}
use Rattle.f_grammar.specs.Machine.{TypeInt, TypeName, TypeBound, TypeArrow, TypeRef, TypeNext, bound_owed, types_tail}
use Rattle.text_core.specs.Table.{Tm, Nt, Do, Mark}
use Rattle.text_core.proofs.Going as step
use Rattle.f_grammar.specs.Reads.{found_ty, ReadsType}
use Rattle.f_grammar.proofs.Typing.{type_Tuple, types_more, fails_after, fails_call, fails_expect, fails_deep}
use Rattle.f_grammar.proofs.Typing.{refused, after_bound, after_arrow, none_of, tuple_owed, paren_owed, ref_owed}
use Rattle.f_grammar.proofs.Typing.{arrow_owed, within, token_of, closes, bound_1, bound_2, bound_3, left_1, left_2}
use Rattle.f_grammar.proofs.Typing.{left_whole, arrow_1, unit_1, word, paren_2, paren_whole, no_unit, no_unit_end}
use Rattle.f_grammar.proofs.Typing.{none_whole, first_1, first_whole, comma_1, comma_whole, list_1, list_whole}
use Rattle.f_grammar.proofs.types.+types.Goals as goal

pub part_type-returns-in_default : goal.part_type-returns-in_default
part_type-returns-in_default t c =
    no_unit_end _ _ _ (sym c.peek.ensures ∙ c.in_default.is)

pub part_type-returns-in_err-inner-in-LeftAngle : goal.part_type-returns-in_err-inner-in-LeftAngle
part_type-returns-in_err-inner-in-LeftAngle t c =
    refused _ _ _ _ c.from_residual.ensures.1 (fails_deep _ _ _ c.in-Some.token LU tuple_owed [] [] _
    c.in_err-inner-in-LeftAngle.ensures (sym c.peek.ensures ∙ c.in-Some.is) (rw c.in-LeftAngle.is refl) refl)

pub part_type-types-requires : goal.part_type-types-requires
part_type-types-requires t c =
    let l = slice_get_within c.args.tokens.now c.args.at c.in-Some.token (sym c.peek.ensures ∙ c.in-Some.is) in
    let q = c.in_ok-inner-in-LeftAngle.ensures in
    (omega (arith, l), (omega (arith, q.0, q.1), omega (arith, l)))

pub part_type-returns-in_err-found-in-LeftAngle : goal.part_type-returns-in_err-found-in-LeftAngle
part_type-returns-in_err-found-in-LeftAngle t c =
    let q = c.in_ok-inner-in-LeftAngle.ensures in
    refused _ _ _ _ c.from_residual-in_err-found-in-LeftAngle.ensures.1 (fails_after _ _ _ _ _ _ _ _ _
    (unit_1 _ _ _ c.in-Some.token tuple_owed (sym c.peek.ensures ∙ c.in-Some.is) (rw c.in-LeftAngle.is refl)
    (omega (arith, q.1)))
    (fails_call _ _ _ _ (Nt LTypes ∷ []) _ _ _ (omega (arith, q.0)) c.in_err-found-in-LeftAngle.ensures))

pub part_type-returns-in_err-inner-in-LeftParen : goal.part_type-returns-in_err-inner-in-LeftParen
part_type-returns-in_err-inner-in-LeftParen t c =
    refused _ _ _ _ c.from_residual-in_err-inner-in-LeftParen.ensures.1
    (fails_deep _ _ _ c.in-Some.token LU paren_owed [] [] _
    c.in_err-inner-in-LeftParen.ensures (sym c.peek.ensures ∙ c.in-Some.is) (rw c.in-LeftParen.is refl) refl)

pub part_type-whole_type-requires : goal.part_type-whole_type-requires
part_type-whole_type-requires t c =
    let l = slice_get_within c.args.tokens.now c.args.at c.in-Some.token (sym c.peek.ensures ∙ c.in-Some.is) in
    let q = c.in_ok-inner-in-LeftParen.ensures in
    (omega (arith, l), (omega (arith, q.0, q.1), omega (arith, l)))

pub part_type-returns-in_err-found-in-LeftParen : goal.part_type-returns-in_err-found-in-LeftParen
part_type-returns-in_err-found-in-LeftParen t c =
    let q = c.in_ok-inner-in-LeftParen.ensures in
    refused _ _ _ _ c.from_residual-in_err-found-in-LeftParen.ensures.1 (fails_after _ _ _ _ _ _ _ _ _
    (unit_1 _ _ _ c.in-Some.token paren_owed (sym c.peek.ensures ∙ c.in-Some.is) (rw c.in-LeftParen.is refl)
    (omega (arith, q.1)))
    (fails_call _ _ _ _ (Nt LT ∷ []) _ _ _ (omega (arith, q.0)) c.in_err-found-in-LeftParen.ensures))

pub part_type-returns-in_err-close-in-LeftParen : goal.part_type-returns-in_err-close-in-LeftParen
part_type-returns-in_err-close-in-LeftParen t c =
    let q = c.in_ok-inner-in-LeftParen.ensures in
    refused _ _ _ _ c.from_residual-in_err-close-in-LeftParen.ensures.1 (fails_after _ _ _ _ _ _ _ _ _
    (paren_2 _ _ _ c.in-Some.token _ _ _ (sym c.peek.ensures ∙ c.in-Some.is) c.in-LeftParen.is q.1 q.0
    c.in_ok-found-in-LeftParen.ensures)
    (fails_expect _ _ _ want.RightParen _ _ _ c.in_err-close-in-LeftParen.ensures))

pub part_type-returns-in_err-inner-in-Ref : goal.part_type-returns-in_err-inner-in-Ref
part_type-returns-in_err-inner-in-Ref t c =
    refused _ _ _ _ c.from_residual-in_err-inner-in-Ref.ensures.1 (fails_deep _ _ _ c.in-Some.token LU ref_owed [] [] _
    c.in_err-inner-in-Ref.ensures (sym c.peek.ensures ∙ c.in-Some.is) (rw c.in-Ref.is refl) refl)

pub part_type-part_type-requires : goal.part_type-part_type-requires
part_type-part_type-requires t c =
    let l = slice_get_within c.args.tokens.now c.args.at c.in-Some.token (sym c.peek.ensures ∙ c.in-Some.is) in
    let q = c.in_ok-inner-in-Ref.ensures in
    (omega (arith, l), (omega (arith, q.0, q.1), omega (arith, l)))

pub part_type-returns-in_err-held-in-Ref : goal.part_type-returns-in_err-held-in-Ref
part_type-returns-in_err-held-in-Ref t c =
    let q = c.in_ok-inner-in-Ref.ensures in
    refused _ _ _ _ c.from_residual-in_err-held-in-Ref.ensures.1 (fails_after _ _ _ _ _ _ _ _ _
    (unit_1 _ _ _ c.in-Some.token ref_owed (sym c.peek.ensures ∙ c.in-Some.is) (rw c.in-Ref.is refl)
    (omega (arith, q.1)))
    (fails_call _ _ _ _ (Nt LU ∷ []) _ _ _ (omega (arith, q.0)) c.in_err-held-in-Ref.ensures))

pub part_type-returns-in_ok-ty-in-Ref : goal.part_type-returns-in_ok-ty-in-Ref
part_type-returns-in_ok-ty-in-Ref t c =
    let q = c.in_ok-inner-in-Ref.ensures in
    closes _ _ _ LU LU TypeRef _ (unit_1 _ _ _ c.in-Some.token ref_owed (sym c.peek.ensures ∙ c.in-Some.is)
    (rw c.in-Ref.is refl) (omega (arith, q.1))) (omega arith) q.0 c.in_ok-held-in-Ref.ensures
    (λ below. rw c.in_ok-ty-in-Ref.ensures refl)

pub part_type-returns-in-Int : goal.part_type-returns-in-Int
part_type-returns-in-Int t c =
    subst (ReadsType LU c.args.tokens.now c.args.depth c.args.at) (sym c.one_token.ensures)
    (word _ _ _ c.in-Some.token TypeInt _ (sym c.peek.ensures ∙ c.in-Some.is) c.requires.depth (rw c.in-Int.is refl)
    (λ below. refl))

pub part_type-returns-in-Name : goal.part_type-returns-in-Name
part_type-returns-in-Name t c =
    subst (ReadsType LU c.args.tokens.now c.args.depth c.args.at) (sym c.one_token-in-Name.ensures)
    (word _ _ _ c.in-Some.token TypeName _ (sym c.peek.ensures ∙ c.in-Some.is) c.requires.depth
    (rw c.in-Name.is refl) (λ below. refl))

pub part_type-returns-in_ok-found-in-LeftAngle : goal.part_type-returns-in_ok-found-in-LeftAngle
part_type-returns-in_ok-found-in-LeftAngle t c =
    let q = c.in_ok-inner-in-LeftAngle.ensures in
    closes _ _ _ LU LTypes TypeTuple _ (unit_1 _ _ _ c.in-Some.token tuple_owed (sym c.peek.ensures ∙ c.in-Some.is)
    (rw c.in-LeftAngle.is refl) (omega (arith, q.1))) (omega arith) q.0 c.in_ok-found-in-LeftAngle.ensures
    (λ below. rw (type_Tuple c.in_ok-found-in-LeftAngle.found.types) refl)

pub part_type-returns-in_ok-close-in-LeftParen : goal.part_type-returns-in_ok-close-in-LeftParen
part_type-returns-in_ok-close-in-LeftParen t c =
    let q = c.in_ok-inner-in-LeftParen.ensures in
    paren_whole _ _ _ c.in-Some.token _ _ _ _ (sym c.peek.ensures ∙ c.in-Some.is) c.in-LeftParen.is q.1 q.0
    c.in_ok-found-in-LeftParen.ensures c.in_ok-close-in-LeftParen.ensures

pub part_type-returns-in_default-kind : goal.part_type-returns-in_default-kind
part_type-returns-in_default-kind t c =
    let o = c.in_default-kind in
    no_unit _ _ _ c.in-Some.token (sym c.peek.ensures ∙ c.in-Some.is)
    (none_of c.in-Some.token.kind o.not-Name o.not-LeftParen o.not-LeftAngle o.not-Int o.not-Ref)

pub types-returns-in_err-first-in-None : goal.types-returns-in_err-first-in-None
types-returns-in_err-first-in-None t c =
    refused _ _ _ _ c.from_residual.ensures.1 (fails_after _ _ _ _ _ _ _ _ _
    (first_1 _ _ _ (sym c.take.ensures ∙ c.in-None.is))
    (fails_call _ _ _ _ (Nt LT ∷ []) types_tail _ _ (omega arith) c.in_err-first-in-None.ensures))

pub types-loop-types-init : goal.types-loop-types-init
types-loop-types-init t c =
    let f = c.in_ok-first-in-None.first in
    first_whole _ _ _ _ (found_ty f) _ (sym c.take.ensures ∙ c.in-None.is) c.in_ok-first-in-None.ensures
    (types_more [] _ f.ty
    (c.in_ok-push-in-None.ensures.items ∙ ap (λ (x : List _). x ++ f.ty ∷ []) c.new-types.ensures.items))

pub types-whole_type-requires-in-Some-take : goal.types-whole_type-requires-in-Some-take
types-whole_type-requires-in-Some-take t c =
    let r = c.loop-types.invariant in
    let l = within c.args.tokens.now c.loop-types.next want.Comma _
    (sym c.take-in-loop-types.ensures ∙ c.in-Some-take.is) in
    (omega (arith, l, r.forward), (c.requires.depth, omega (arith, l)))

pub types-returns-in_err-found-in-None : goal.types-returns-in_err-found-in-None
types-returns-in_err-found-in-None t c =
    refused _ _ _ _ c.from_residual-in_err-found-in-None.ensures.1 (fails_after _ _ _ _ _ _ _ _ _
    (comma_1 _ _ _ _ _ _ c.requires.depth c.loop-types.invariant
    (sym c.take-in-loop-types.ensures ∙ c.in-Some-take.is))
    (fails_call _ _ _ _ (Nt LT ∷ []) (Do TypeNext ∷ (Nt MoreTypes ∷ (Tm want.RightAngle ∷ []))) _ _
    (omega arith) c.in_err-found-in-None.ensures))

pub types-loop-types-preserved : goal.types-loop-types-preserved
types-loop-types-preserved t c =
    let f = c.in_ok-found-in-None.found in
    comma_whole _ _ _ _ _ _ _ (found_ty f) _ c.requires.depth c.loop-types.invariant
    (sym c.take-in-loop-types.ensures ∙ c.in-Some-take.is)
    c.in_ok-found-in-None.ensures (types_more _ _ f.ty c.in_ok-push-in-None-2.ensures.items)

pub types-returns-in_err-close-in-None : goal.types-returns-in_err-close-in-None
types-returns-in_err-close-in-None t c =
    refused _ _ _ _ c.from_residual-in_err-close-in-None.ensures.1 (fails_after _ _ _ _ _ _ _ _ _
    (list_1 _ _ _ _ _ c.loop-types.invariant (sym c.take-in-loop-types.ensures ∙ c.in_default.is))
    (fails_expect _ _ _ want.RightAngle _ _ _ c.in_err-close-in-None.ensures))

pub types-returns-in-Some : goal.types-returns-in-Some
types-returns-in-Some t c =
    rw c.new-types.ensures.items
    (none_whole c.args.tokens.now c.args.depth c.args.at c.in-Some.close (sym c.take.ensures ∙ c.in-Some.is)
    c.requires.depth)

pub types-returns-in_ok-close-in-None : goal.types-returns-in_ok-close-in-None
types-returns-in_ok-close-in-None t c =
    list_whole _ _ _ _ _ _ c.requires.depth c.loop-types.invariant
    (sym c.take-in-loop-types.ensures ∙ c.in_default.is) c.in_ok-close-in-None.ensures

pub whole_type-returns-in_err-inner-in-Some : goal.whole_type-returns-in_err-inner-in-Some
whole_type-returns-in_err-inner-in-Some t c =
    let z = token_of _ c.in-Some.quantifier (sym c.next_binder.ensures ∙ c.in-Some.is) in
    refused _ _ _ _ c.from_residual.ensures.1 (fails_deep _ _ _ z.0 LT (bound_owed c.in-Some.quantifier) [] [] _
    c.in_err-inner-in-Some.ensures z.1 (after_bound z.0.kind c.in-Some.quantifier z.2) refl)

pub whole_type-returns-in_err-name-in-Some : goal.whole_type-returns-in_err-name-in-Some
whole_type-returns-in_err-name-in-Some t c =
    let z = token_of _ c.in-Some.quantifier (sym c.next_binder.ensures ∙ c.in-Some.is) in
    refused _ _ _ _ c.from_residual-in_err-name-in-Some.ensures.1 (fails_after _ _ _ _ _ _ _ _ _
    (bound_1 _ _ _ z.0 _ z.1 z.2 c.in_ok-inner-in-Some.ensures.1)
    (fails_expect _ _ _ want.Name _ _ _ c.in_err-name-in-Some.ensures))

pub whole_type-returns-in_err-expect-in-Some : goal.whole_type-returns-in_err-expect-in-Some
whole_type-returns-in_err-expect-in-Some t c =
    let z = token_of _ c.in-Some.quantifier (sym c.next_binder.ensures ∙ c.in-Some.is) in
    refused _ _ _ _ c.from_residual-in_err-expect-in-Some.ensures.1 (fails_after _ _ _ _ _ _ _ _ _
    (bound_2 _ _ _ z.0 _ z.1 z.2 c.in_ok-inner-in-Some.ensures.1 _ c.in_ok-name-in-Some.ensures)
    (fails_expect _ _ _ want.Dot _ _ _ c.in_err-expect-in-Some.ensures))

pub whole_type-whole_type-requires : goal.whole_type-whole_type-requires
whole_type-whole_type-requires t c =
    let q = c.in_ok-inner-in-Some.ensures in
    let l = within c.args.tokens.now (c.args.at + 2) want.Dot _ c.in_ok-expect-in-Some.ensures in
    (omega (arith, l), (omega (arith, q.0, q.1), omega (arith, l)))

pub whole_type-returns-in_err-body-in-Some : goal.whole_type-returns-in_err-body-in-Some
whole_type-returns-in_err-body-in-Some t c =
    let z = token_of _ c.in-Some.quantifier (sym c.next_binder.ensures ∙ c.in-Some.is) in
    let q = c.in_ok-inner-in-Some.ensures in
    refused _ _ _ _ c.from_residual-in_err-body-in-Some.ensures.1 (fails_after _ _ _ _ _ _ _ _ _
    (bound_3 _ _ _ z.0 _ z.1 z.2 q.1 _ _ c.in_ok-name-in-Some.ensures c.in_ok-expect-in-Some.ensures)
    (fails_call _ _ _ _ (Nt LT ∷ []) (Mark ∷ (Do (TypeBound c.in-Some.quantifier) ∷ [])) _ _ (omega (arith, q.0))
    c.in_err-body-in-Some.ensures))

pub whole_type-returns-in_err-left-in-None : goal.whole_type-returns-in_err-left-in-None
whole_type-returns-in_err-left-in-None t c =
    refused _ _ _ _ c.from_residual-in_err-left-in-None.ensures.1
    (fails_after _ _ _ _ _ _ _ _ _ (left_1 _ _ _ (sym c.next_binder.ensures ∙ c.in-None.is))
    (fails_call _ _ _ _ (Nt LU ∷ []) (Nt MoreArrow ∷ []) [] _ (omega arith) c.in_err-left-in-None.ensures))

pub whole_type-returns-in_err-inner-in-Some-take : goal.whole_type-returns-in_err-inner-in-Some-take
whole_type-returns-in_err-inner-in-Some-take t c =
    let ts = c.args.tokens.now in
    let j = c.in_ok-left-in-None.left.next in
    let a = c.in-Some-take.field-0 in
    let g = sym c.take.ensures ∙ c.in-Some-take.is in
    refused _ _ _ _ c.from_residual-in_err-inner-in-Some-take.ensures.1 (fails_after _ _ _ _ _ _ _ _ _
    (left_2 _ _ _ _ _ (sym c.next_binder.ensures ∙ c.in-None.is) c.in_ok-left-in-None.ensures)
    (fails_deep _ _ _ a MoreArrow arrow_owed [] _ _ c.in_err-inner-in-Some-take.ensures
    (step.is_next table ts j want.Arrow a g) (after_arrow a.kind (step.is_of table ts j want.Arrow a g)) refl))

pub whole_type-whole_type-requires-in-Some-take : goal.whole_type-whole_type-requires-in-Some-take
whole_type-whole_type-requires-in-Some-take t c =
    let f = c.in_ok-left-in-None in
    let q = c.in_ok-inner-in-Some-take.ensures in
    let l = within c.args.tokens.now f.left.next want.Arrow _ (sym c.take.ensures ∙ c.in-Some-take.is) in
    (omega (arith, l, f.ensures.forward), (omega (arith, q.0, q.1), omega (arith, l)))

pub whole_type-returns-in_err-right-in-Some-take : goal.whole_type-returns-in_err-right-in-Some-take
whole_type-returns-in_err-right-in-Some-take t c =
    let g = sym c.take.ensures ∙ c.in-Some-take.is in
    let q = c.in_ok-inner-in-Some-take.ensures in
    refused _ _ _ _ c.from_residual-in_err-right-in-Some-take.ensures.1 (fails_after _ _ _ _ _ _ _ _ _
    (arrow_1 _ _ _ _ _ _ (sym c.next_binder.ensures ∙ c.in-None.is) c.in_ok-left-in-None.ensures g q.1)
    (fails_call _ _ _ _ (Nt LT ∷ []) (Mark ∷ (Do TypeArrow ∷ [])) _ _ (omega (arith, q.0))
    c.in_err-right-in-Some-take.ensures))

pub whole_type-returns-in_ok-ty-in-Some : goal.whole_type-returns-in_ok-ty-in-Some
whole_type-returns-in_ok-ty-in-Some t c =
    let z = token_of _ c.in-Some.quantifier (sym c.next_binder.ensures ∙ c.in-Some.is) in
    let q = c.in_ok-inner-in-Some.ensures in
    closes _ _ _ LT LT (TypeBound c.in-Some.quantifier) _
    (bound_3 _ _ _ z.0 _ z.1 z.2 q.1 _ _ c.in_ok-name-in-Some.ensures c.in_ok-expect-in-Some.ensures)
    (omega arith) q.0 c.in_ok-body-in-Some.ensures (λ below. rw c.in_ok-ty-in-Some.ensures refl)

pub whole_type-returns-in-None-take : goal.whole_type-returns-in-None-take
whole_type-returns-in-None-take t c =
    left_whole _ _ _ _ _ (sym c.next_binder.ensures ∙ c.in-None.is) c.in_ok-left-in-None.ensures
    (sym c.take.ensures ∙ c.in-None-take.is)

pub whole_type-returns-in_ok-ty-in-Some-take : goal.whole_type-returns-in_ok-ty-in-Some-take
whole_type-returns-in_ok-ty-in-Some-take t c =
    let g = sym c.take.ensures ∙ c.in-Some-take.is in
    let q = c.in_ok-inner-in-Some-take.ensures in
    let f = c.in_ok-left-in-None.ensures in
    closes _ _ _ LT LT TypeArrow _ (arrow_1 _ _ _ _ _ _ (sym c.next_binder.ensures ∙ c.in-None.is) f g q.1)
    (omega (arith, f.forward)) q.0 c.in_ok-right-in-Some-take.ensures
    (λ below. rw c.in_ok-ty-in-Some-take.ensures refl)
