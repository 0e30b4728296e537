use Rattle.std.proofs.Common.{ℕ, ◌-◌, length, ap, sym, subst, ◌∙◌}
use Rattle.std.proofs.lemmas.List.{length-map}
use Rattle.t_types.specs.Tree.{Ty, CodeTy}
use Rattle.t_types.specs.Read.{tree, file, types}
use Rattle.t_types.proofs.Trees.{tree_Code}
use Rattle.t_terms.specs.Registers.{inst_file}
use Rattle.t_spill_rules.specs.Spill.{applied_type}
use Rattle.t_spill.specs.Applying.{MayApply, CanApply}
use Rattle.t_spill.proofs.applied.applied.Goals as goal

can : (owes : ℕ) (x : _) (ts : _) → MayApply (CodeTy owes x) ts → CanApply owes x ts
can owes x ts h = (h.0, h.1, h.2.0, h.2.1, h.3, h.4)

pub instantiate-requires : goal.instantiate-requires
instantiate-requires c =
    can c.in-Code.owes (file c.in-Code.regs.regs.items) (types c.args.types.now)
    (subst (λ (t : Ty). MayApply t (types c.args.types.now))
    (ap tree c.in-Code.is ∙ tree_Code c.in-Code.owes c.in-Code.regs) c.requires)

pub returns-in-Code : goal.returns-in-Code
returns-in-Code c =
    let n = length-map c.args.types.now tree in
    let m = c.in-Code.owes in
    tree_Code (m - length c.args.types.now) (record { regs = c.in_ok-regs-in-Code.regs })
    ∙ ap (CodeTy (m - length c.args.types.now)) c.in_ok-regs-in-Code.ensures
    ∙ ap (λ i. CodeTy (m - i) (inst_file (types c.args.types.now) m (file c.in-Code.regs.regs.items))) (sym n)
    ∙ sym (ap (λ (t : Ty). applied_type t (types c.args.types.now))
    (ap tree c.in-Code.is ∙ tree_Code c.in-Code.owes c.in-Code.regs))
