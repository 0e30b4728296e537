use Rattle.std.proofs.Common.{ℕ, List, ap, ◌∙◌, sym}
use Rattle.t_types.specs.Tree.{CodeTy, TupleTy, MoreRegs, NoRegs}
use Rattle.t_types.specs.Read.{tree}
use Rattle.t_types.specs.declared.types.TType.{TType}
use Rattle.t_types.specs.declared.types.TType.TheVariants.{Tuple}
use Rattle.t_types.proofs.Trees.{tree_Tuple, tree_Code, tree_is_tuple, tree_is_code}
use Rattle.t_spill_rules.specs.Spill.{sp}
use Rattle.t_spill_code.specs.Onto.{front}
use Rattle.t_spill_code.proofs.Made.{made_fields, divided_all, front_snoc, front_none}
use Rattle.t_spill_code.proofs.types.+spilled.Goals as goal

pub spilled_type-returns-in_ok-regs-in-Code : goal.spilled_type-returns-in_ok-regs-in-Code
spilled_type-returns-in_ok-regs-in-Code t c =
    tree_Code c.in-Code.owes c.in_ok-regs-in-Code.regs ∙ ap (CodeTy c.in-Code.owes) c.in_ok-regs-in-Code.ensures
    ∙ sym (ap (sp c.args.split.low) (tree_is_code _ _ _ _ c.in-Code.is c.deref.ensures.value))

pub spilled_file-returns : goal.spilled_file-returns
spilled_file-returns t c =
    let m = c.args.split.low in
    let lows = c.loop-reg.lows.items in
    let frame = c.loop-reg.frame in
    sym (front_none c.push.new.self.items) ∙ ap (λ (xs : List (ℕ × TType)). front xs NoRegs) c.in_ok-push.ensures.items
    ∙ front_snoc lows (c.frame.result, Tuple frame) NoRegs
    ∙ ap (λ q. front lows (MoreRegs q (tree (Tuple frame)) NoRegs)) c.frame.ensures
    ∙ divided_all m c.args.regs.now lows frame.items c.loop-reg.reg-index
    (tree (Tuple frame)) c.loop-reg-test.false (tree_Tuple frame) c.loop-reg.invariant

pub spilled_type-returns-in_ok-fs-in-Tuple : goal.spilled_type-returns-in_ok-fs-in-Tuple
spilled_type-returns-in_ok-fs-in-Tuple t c =
    tree_Tuple c.in_ok-fs-in-Tuple.fs ∙ ap TupleTy c.in_ok-fs-in-Tuple.ensures
    ∙ sym (ap (sp c.args.split.low) (tree_is_tuple _ _ _ c.in-Tuple.is c.deref-in-Tuple.ensures.value))

pub spilled_fields-returns : goal.spilled_fields-returns
spilled_fields-returns t c =
    made_fields c.args.split.low c.loop-field.made.items c.args.fs.now c.loop-field.field-index c.loop-field.invariant
    c.loop-field-test.false
