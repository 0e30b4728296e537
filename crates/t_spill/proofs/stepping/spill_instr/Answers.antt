use Rattle.std.proofs.Common.{sym, ap, ◌∙◌, subst}
use Rattle.std.proofs.lemmas.Result.{on_ok_weaker}
use Rattle.t_terms.specs.Read.{instr}
use Rattle.t_terms.specs.ReadProgram.{program}
use Rattle.t_spill.specs.Known.{MayShow, alone}
use Rattle.t_spill.proofs.Knowing.{may_show}
use Rattle.t_spill.proofs.Onward.{fits_here}
use Rattle.t_spill.proofs.stepping.spill_instr.Goals as goal

pub part-requires : goal.part-requires
part-requires c =
    let h = c.requires.stands in
    let P = program c.args.program.now in
    let b = h.4 in (
      h.0,
      h.1,
      b.knows,
      subst (λ o. MayShow h.0 o h.1) (sym c.subject_of.ensures)
          (may_show P h.0 h.1 (instr c.args.i.now) b.ready.0),
    )

pub compute-requires-clause-fits : goal.compute-requires-clause-fits
compute-requires-clause-fits c =
    let h = c.requires.stands in
    let b = h.4 in fits_here (program c.args.program.now) h.0 h.1 (instr c.args.i.now) c.requires.few b.ready.0

pub compute-requires-clause-stands : goal.compute-requires-clause-stands
compute-requires-clause-stands c =
    let h = c.requires.stands in
    let b = h.4 in
    (h.0, h.1, h.2, h.3, b, c.in_ok-read.ensures h.0 h.1 b.knows ∙ ap (λ o. alone o h.1) c.subject_of.ensures)

pub settle-requires : goal.settle-requires
settle-requires c =
    let h = c.requires.stands in
    let b = h.4 in
    let read = c.in_ok-read.ensures h.0 h.1 b.knows ∙ ap (λ o. alone o h.1) c.subject_of.ensures in
    let k = c.in_ok-compute.ensures h.0 h.1 h.2 h.3 b read in
    (h.0, h.1, h.2, h.3, k.1, b.ready.0, read, h.5)

pub returns : goal.returns
returns c =
    on_ok_weaker c.settle.result
    (λ h n y x s b st.
    let read = c.in_ok-read.ensures n y b.knows ∙ ap (λ o. alone o y) c.subject_of.ensures in
    let k = c.in_ok-compute.ensures n y x s b read in
    let g = h n y x s k.1 read st in
    (g.0 ∙ k.0, g.1, g.2 ∙ k.2))
    c.settle.ensures
