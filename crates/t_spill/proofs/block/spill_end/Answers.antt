use Rattle.std.proofs.Common.{ℕ, List, [], sym, ap, subst, ◌∙◌}
use Rattle.t_types.specs.declared.types.TType.{TType}
use Rattle.t_types.specs.Read.{file, types}
use Rattle.t_terms.specs.Tree.{Ends}
use Rattle.t_terms.specs.Read.{end_of}
use Rattle.t_terms.specs.ReadProgram.{program}
use Rattle.t_spill_rules.specs.Spill.{end_target, high_part, ended}
use Rattle.t_spill_code.specs.Homes.{home_in, with_slots}
use Rattle.t_spill_code.specs.Onto.{onto}
use Rattle.t_spill.specs.Known.{MayShow, alone}
use Rattle.t_spill.specs.Ready.{ReadyEnd}
use Rattle.t_spill.proofs.Beside.{ends_agree}
use Rattle.t_spill.proofs.Knowing.{end_may_show, end_ready_alone, end_target_alone}
use Rattle.t_spill.proofs.Onward.{end_fits}
use Rattle.t_spill.proofs.block.spill_end.Goals as goal

pub part-requires : goal.part-requires
part-requires c =
    let h = c.requires.stands in
    let P = program c.args.program.now in
    let e = end_of c.args.«end».now in
    let b = h.3 in (
      h.0,
      h.1,
      b.knows,
      subst (λ o. MayShow h.0 o h.1) (sym c.subject_of_end.ensures)
          (end_may_show P h.0 h.1 e b.ready),
    )

pub target_of_end-requires : goal.target_of_end-requires
target_of_end-requires c =
    let h = c.requires.stands in
    let P = program c.args.program.now in
    let e = end_of c.args.«end».now in
    let b = h.3 in
    let read = c.in_ok-read.ensures h.0 h.1 b.knows ∙ ap (λ o. alone o h.1) c.subject_of_end.ensures in
    let ready = subst (λ z. ReadyEnd P h.0 z e) (sym read) (end_ready_alone P h.1 h.0 e b.ready) in
    (h.0, subst (λ (xs : List (ℕ × TType)). ReadyEnd P h.0 (file xs) e) (sym c.deref.ensures.value) ready)

pub emit_end-requires : goal.emit_end-requires
emit_end-requires c =
    let h = c.requires.stands in
    let b = h.3 in end_fits (program c.args.program.now) h.0 h.1 (end_of c.args.«end».now) c.requires.few b.ready

pub returns : goal.returns
returns c = λ n y x b.
    let P = program c.args.program.now in
    let e = end_of c.args.«end».now in
    let w = c.args.walk.now in
    let m = w.code.homes.split.low in
    let hs = home_in w.code.homes in
    let read = c.in_ok-read.ensures n y b.knows ∙ ap (λ o. alone o y) c.subject_of_end.ensures in
    let entered =
    c.in_ok-entered.ensures ∙ ap (λ (xs : List (ℕ × TType)). end_target P (file xs) e) c.deref.ensures.value
    ∙ ap (λ z. end_target P z e) read ∙ end_target_alone P y e ∙ ends_agree P x y e b.agrees in
    let high = ap file c.deref-2.ensures.value ∙ c.in_ok-high.ensures ∙ ap (high_part m) entered in
    c.in_ok-close.ensures.1 (Ends (end_of c.in_ok-last.last))
    ∙ ap (λ s. onto w.code.body.done.items (with_slots m (types w.code.body.slots.items) [] s))
    (c.in_ok-last.ensures ∙ ap (λ z. onto w.code.body.tail.items (ended m hs z e)) high)
