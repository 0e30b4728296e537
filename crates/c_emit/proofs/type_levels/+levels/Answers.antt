use Rattle.std.proofs.Common.{◌∙◌, ap, sym, ◌++◌, ◌∷◌, List, ℕ, []}
use Rattle.c_rules.specs.Know as W
use Rattle.k_terms.specs.Read.{ktree, ktys}
use Rattle.calc_core.proofs.Trees.{tree_is_tuple, tree_is_code}
use Rattle.c_emit.proofs.Places.{list_in, list_out}
use Rattle.c_emit.proofs.type_levels.+levels.Goals as goal
use Rattle.calc_core.proofs.Lifts.{lift_add}
use Rattle.std.proofs.lemmas.List.{append-nil as append_nil}

pub type_levels-returns-in_ok-push-in-Var : goal.type_levels-returns-in_ok-push-in-Var
type_levels-returns-in_ok-push-in-Var t c =
    c.in_ok-push-in-Var.ensures.items
    ∙ ap (λ (xs : List ℕ). c.args.out.now.items ++ xs)
    (ap (λ l. l ∷ []) c.level_of.ensures ∙ list_in c.args.depth c.args.under c.in-Var.i c.if-under-i.true
    ∙ ap (W.type_levels c.args.depth c.args.under) (sym (ap ktree c.in-Var.is)))

pub type_levels-returns-else-under-i : goal.type_levels-returns-else-under-i
type_levels-returns-else-under-i t c =
    sym (ap (λ (xs : List ℕ). c.args.out.now.items ++ xs)
    (ap (W.type_levels c.args.depth c.args.under) (ap ktree c.in-Var.is)
    ∙ list_out c.args.depth c.args.under c.in-Var.i c.if-under-i.false) ∙ append_nil c.args.out.now.items)

pub type_levels-returns-in_ok-types_levels-in-Tuple : goal.type_levels-returns-in_ok-types_levels-in-Tuple
type_levels-returns-in_ok-types_levels-in-Tuple t c =
    c.in_ok-types_levels-in-Tuple.ensures ∙ ap (λ x. c.args.out.now.items ++ W.type_levels c.args.depth c.args.under x)
    (sym (tree_is_tuple _ _ _ c.in-Tuple.is c.deref.ensures.value))

pub type_levels-returns-in_ok-types_levels-in-Code : goal.type_levels-returns-in_ok-types_levels-in-Code
type_levels-returns-in_ok-types_levels-in-Code t c =
    c.in_ok-types_levels-in-Code.ensures
    ∙ ap (λ u. c.args.out.now.items ++ W.types_levels c.args.depth u (ktys c.deref-in-Code.result.now))
    (c.in_ok-under-in-Code.ensures ∙ sym (lift_add c.in-Code.owes c.args.under))
    ∙ ap (λ x. c.args.out.now.items ++ W.type_levels c.args.depth c.args.under x)
    (sym (tree_is_code _ _ _ _ c.in-Code.is c.deref-in-Code.ensures.value))
