use Rattle.std.proofs.Common.{◌∙◌, ap, sym, subst, refl, Some, Result, true≢false, ◌-◌}
use Rattle.t_types.specs.Tree.{Ty, shift}
use Rattle.t_known.specs.declared.refusal.Refusal.{Refusal}
use Rattle.t_intern.specs.Nodes.{at}
use Rattle.t_known.specs.Known.{known, own}
use Rattle.t_check.specs.Verdict.{IsIntegerIn}
use Rattle.t_check.proofs.Loads.{no_int}
use Rattle.t_known.proofs.Sets.{int_marked, unmarked_int}
use Rattle.t_check.proofs.checker.Checker.check_int.Goals as goal

pub returns-then-is_int : goal.returns-then-is_int
returns-then-is_int c =
    let found = c.in-Some.ensures.found c.args.types.now c.requires in
    found.0 ∙ ap (λ (t : Ty). Some (shift (c.args.self.now.registers.names - c.in-Some.entry.names) 0 t))
    (int_marked c.args.types.now c.in-Some.entry.marks (at c.args.types.now c.in-Some.entry.ty)
    (c.if-is_int.ensures.0 refl))

pub returns-else-is_int : goal.returns-else-is_int
returns-else-is_int c =
    let ts = c.args.types.now in
    let k = c.args.self.now.registers in
    let e = c.in-Some.entry in
    let found = c.in-Some.ensures.found ts c.requires in
    subst (λ (r : Result (Unit {0}) Refusal). IsIntegerIn ts (known ts k) c.args.r c.args.span r)
    (sym c.refused.ensures)
    (no_int (known ts k) c.args.r (k.names - e.names) c.args.span (own ts e) found.0
    (λ h. true≢false (sym (c.if-is_int.ensures.1 (unmarked_int ts e.marks (at ts e.ty) h)))))
