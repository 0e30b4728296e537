use Rattle.std.proofs.Common.{List, ap, sym, subst, ◌∙◌}
use Rattle.idx_core.specs.declared.span.Span.{Span}
use Rattle.t_types.specs.Read.{file_tree}
use Rattle.t_terms.specs.declared.instr.Instr.{Instr}
use Rattle.t_terms.specs.ReadProgram.{program}
use Rattle.t_spill_rules.specs.Spill.{code, layout}
use Rattle.t_spill.specs.Tails.{tail_of}
use Rattle.t_spill.specs.Ready.{Ready}
use Rattle.t_spill.proofs.Beside.{at_start, whole_start}
use Rattle.t_spill.proofs.block.spilled_code.Goals as goal

pub wants_of-requires : goal.wants_of-requires
wants_of-requires c =
    let P = program c.args.program.now in
    let b = c.args.block.now in (
      b.owes,
      subst (λ (xs : List (Instr × Span)). Ready P b.owes (file_tree b.regs) (tail_of xs b.«end» 0))
          (sym c.as_slice-body.ensures.value) c.requires.ready,
    )

pub spill_body-requires-clause-stands : goal.spill_body-requires-clause-stands
spill_body-requires-clause-stands c =
    let P = program c.args.program.now in
    let b = c.args.block.now in
    let x = file_tree b.regs in
    let s = tail_of c.as_slice-body.result.now b.«end» 0 in
    let ready = subst (λ (xs : List (Instr × Span)). Ready P b.owes (file_tree b.regs) (tail_of xs b.«end» 0))
    (sym c.as_slice-body.ensures.value) c.requires.ready in (
      b.owes,
      x,
      x,
      at_start P b.owes x s c.in_ok-walk.walk c.args.split.low c.deref.result.now
          (c.deref.ensures.value ∙ c.in_ok-wants.ensures) ready c.in_ok-walk.ensures,
    )

pub spill_end-requires-clause-stands : goal.spill_end-requires-clause-stands
spill_end-requires-clause-stands c =
    let P = program c.args.program.now in
    let b = c.args.block.now in
    let x = file_tree b.regs in
    let s = tail_of c.as_slice-body.result.now b.«end» 0 in
    let ready = subst (λ (xs : List (Instr × Span)). Ready P b.owes (file_tree b.regs) (tail_of xs b.«end» 0))
    (sym c.as_slice-body.ensures.value) c.requires.ready in
    let before = at_start P b.owes x s c.in_ok-walk.walk c.args.split.low c.deref.result.now
    (c.deref.ensures.value ∙ c.in_ok-wants.ensures) ready c.in_ok-walk.ensures in
    let k = c.in_ok-spill_body.ensures b.owes x x before in
    (k.0, k.1, k.2, k.3)

pub returns : goal.returns
returns c =
    let P = program c.args.program.now in
    let b = c.args.block.now in
    let m = c.args.split.low in
    let x = file_tree b.regs in
    let s = tail_of c.as_slice-body.result.now b.«end» 0 in
    let ready = subst (λ (xs : List (Instr × Span)). Ready P b.owes (file_tree b.regs) (tail_of xs b.«end» 0))
    (sym c.as_slice-body.ensures.value) c.requires.ready in
    let before = at_start P b.owes x s c.in_ok-walk.walk m c.deref.result.now (c.deref.ensures.value
    ∙ c.in_ok-wants.ensures) ready c.in_ok-walk.ensures in
    let k = c.in_ok-spill_body.ensures b.owes x x before in
    c.in_ok-end.ensures k.0 k.1 k.2 k.3 ∙ k.5
    ∙ whole_start P x s c.in_ok-walk.walk m c.deref.result.now c.in_ok-walk.ensures
    ∙ ap (λ (xs : List (Instr × Span)). code m P (layout m x) x (tail_of xs b.«end» 0)) c.as_slice-body.ensures.value
