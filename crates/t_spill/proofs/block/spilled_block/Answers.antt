use Rattle.std.proofs.Common.{ℕ, List, sym, ap, ap₂, ◌∙◌}
use Rattle.t_types.specs.declared.types.TType.{TType}
use Rattle.t_types.specs.Read.{file}
use Rattle.t_terms.specs.Tree.{TBlock}
use Rattle.t_terms.specs.Read.{end_of}
use Rattle.t_spill_rules.specs.Spill.{sp_file}
use Rattle.t_spill.proofs.Walk.{onto_body}
use Rattle.t_spill.proofs.block.spilled_block.Goals as goal

pub returns : goal.returns
returns c =
    let b = c.args.block.now in
    let m = c.args.split.low in
    let same = c.in_ok-regs.ensures ∙ ap (λ (xs : List (ℕ × TType)). sp_file m (file xs)) c.deref.ensures.value in
    let body = sym (onto_body c.in_ok-body.body.items (end_of c.in_ok-body.«end»)) ∙ c.in_ok-body.ensures in
    ap₂ (λ f s. (let q : TBlock = record { owes = b.owes; file = f; code = s } in q)) same body
