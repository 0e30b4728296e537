use Rattle.std.proofs.Common.{◌≡◌, ◌∙◌, ap, sym, drop, ◌+◌, List, [], ◌∷◌, ◌++◌, arith, suc}
use Rattle.calc_core.specs.Ends.{under, lift}
use Rattle.calc_core.specs.declared.types.CoreType.TheVariants as CT
use Rattle.c_terms.specs.C as C
use Rattle.c_rules.specs.Close as L
use Rattle.k_terms.specs.Read.{ktys}
use Rattle.calc_core.specs.Read.{joined}
use Rattle.c_emit.specs.Names.{renaming}
use Rattle.calc_core.specs.declared.types.CoreType.{CoreType as CType}
use Rattle.calc_core.proofs.Trees.{tree_Tuple, tree_is_tuple, tree_is_code, joined_push, joined_nil, trees_drop}
use Rattle.calc_core.proofs.Trees.{trees_end}
use Rattle.c_emit.proofs.close_type.+close.Goals as goal
use Rattle.calc_core.proofs.Lifts.{lift_add}

pub close_type-returns-in_ok-made-in-Tuple : goal.close_type-returns-in_ok-made-in-Tuple
close_type-returns-in_ok-made-in-Tuple t c =
    let r = renaming c.args.names.now in
    tree_Tuple c.in_ok-made-in-Tuple.made
    ∙ ap C.TCTuple
    (c.in_ok-made-in-Tuple.ensures
    ∙ ap (λ (xs : List CType). joined xs (L.ctypes r (ktys c.deref.result.now)))
    c.in_ok-room-in-Tuple.ensures.items)
    ∙ ap (L.ctype r) (sym (tree_is_tuple _ _ _ c.in-Tuple.is c.deref.ensures.value))

pub close_type-returns-in_ok-t-in-Code : goal.close_type-returns-in_ok-t-in-Code
close_type-returns-in_ok-t-in-Code t c =
    let r = renaming c.args.names.now in
    let owes = c.in-Code.owes in
    let inner = L.ctypes (under owes (λ i. suc (r i))) (ktys c.deref-in-Code.result.now) in
    c.in_ok-t-in-Code.ensures
    ∙ ap (λ x. C.TCExists (C.TCTuple (C.MoreCTys (C.TCCode owes x) (C.MoreCTys (C.TCVar 0) C.NoCTys))))
    (c.in_ok-made-in-Code.ensures
    ∙ ap (λ (xs : List CType). joined xs inner)
    (c.in_ok-push-in-Code.ensures.items
    ∙ ap (λ (xs : List CType). xs ++ CT.Var owes ∷ []) c.in_ok-own-in-Code.ensures.items)
    ∙ ap (λ n. C.MoreCTys (C.TCVar n) inner) (let q : owes ≡ lift owes 0 = omega (arith, lift_add owes 0) in q))
    ∙ ap (L.ctype r) (sym (tree_is_code _ _ _ _ c.in-Code.is c.deref-in-Code.ensures.value))

pub close_types-loop-t-preserved : goal.close_types-loop-t-preserved
close_types-loop-t-preserved t c =
    let r = renaming c.args.names.now in
    let rest = L.ctypes r (ktys (drop (c.loop-t.t-index + 1) c.args.ts.now)) in
    ap (λ (xs : List CType). joined xs rest) c.in_ok-push.ensures.items
    ∙ joined_push _ _ rest
    ∙ ap (λ x. joined c.loop-t.made.items (C.MoreCTys x rest)) c.in_ok-close_type.ensures
    ∙ ap (λ x. joined c.loop-t.made.items (L.ctypes r x))
    (sym (trees_drop c.args.ts.now c.loop-t.t-index c.t-item.result c.loop-t-test.true c.t-item.is))
    ∙ c.loop-t.invariant

pub close_types-returns : goal.close_types-returns
close_types-returns t c =
    sym (joined_nil c.loop-t.made.items)
    ∙ ap (λ x. joined c.loop-t.made.items (L.ctypes (renaming c.args.names.now) x))
    (sym (trees_end c.args.ts.now c.loop-t.t-index c.loop-t-test.false)) ∙ c.loop-t.invariant
