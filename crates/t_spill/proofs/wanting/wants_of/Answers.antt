use Rattle.std.proofs.Common.{◌≡◌, ℕ, List, refl, sym, ap, subst, ◌∙◌}
use Rattle.t_types.specs.Read.{file, file_tree}
use Rattle.t_types.specs.declared.types.TType.{TType}
use Rattle.t_terms.specs.Tree.{names_after}
use Rattle.t_terms.specs.Read.{instr, end_of}
use Rattle.t_terms.specs.ReadProgram.{program}
use Rattle.t_spill_rules.specs.Spill.{numbers, live, reads, target, end_target, next}
use Rattle.t_spill.specs.Known.{Knows, alone, subject, MayShow}
use Rattle.t_spill.specs.Ready.{ReadyEnd}
use Rattle.t_spill.specs.Tails.{tail_of}
use Rattle.t_spill.specs.Wants.{join}
use Rattle.t_spill.proofs.Walk.{ready_here, ready_end, wants_next, wants_all}
use Rattle.t_spill.proofs.Knowing.{may_show, end_may_show, typable_read, names_room, target_alone, end_target_alone}
use Rattle.t_spill.proofs.Knowing.{end_ready_alone}
use Rattle.t_spill.proofs.wanting.wants_of.Goals as goal

pub loop-entry-init : goal.loop-entry-init
loop-entry-init c =
    let P = program c.args.program.now in
    let k = c.requires in
    let x = file_tree c.args.start.now in
    let knows = λ (xs : List (ℕ × TType)). Knows k.0 c.in_ok-known.known (file xs) in (
      k.0,
      x,
      subst knows c.deref.ensures.value (c.in_ok-known.ensures k.0),
      k.1,
      ap (λ ws. join ws (live P x (tail_of c.args.body.now c.args.«end».now 0))) c.new-wants.ensures.items,
    )

pub part-requires : goal.part-requires
part-requires c =
    let P = program c.args.program.now in
    let v = c.loop-entry.invariant in
    let x = v.1 in
    let y = c.entry-item.result in
    let at = c.loop-entry.entry-index in
    let k = ready_here P v.0 x c.args.body.now c.args.«end».now at y c.loop-entry-test.true c.entry-item.is v.3 in
    (v.0, x, v.2, subst (λ o. MayShow v.0 o x) (sym c.subject_of.ensures) (may_show P v.0 x (instr y.0) k.0))

pub note_wants-requires : goal.note_wants-requires
note_wants-requires c =
    let P = program c.args.program.now in
    let v = c.loop-entry.invariant in
    let x = v.1 in
    let y = c.entry-item.result in
    let at = c.loop-entry.entry-index in
    let k = ready_here P v.0 x c.args.body.now c.args.«end».now at y c.loop-entry-test.true c.entry-item.is v.3 in
    let read = c.in_ok-read.ensures v.0 x v.2 ∙ ap (λ o. alone o x) c.subject_of.ensures in
    typable_read P v.0 x (file_tree c.in_ok-read.read) (instr y.0) read k.0

pub advance-requires-clause-typable : goal.advance-requires-clause-typable
advance-requires-clause-typable c =
    let P = program c.args.program.now in
    let v = c.loop-entry.invariant in
    let x = v.1 in
    let y = c.entry-item.result in
    let at = c.loop-entry.entry-index in
    let k = ready_here P v.0 x c.args.body.now c.args.«end».now at y c.loop-entry-test.true c.entry-item.is v.3 in
    let read = c.in_ok-read.ensures v.0 x v.2 ∙ ap (λ o. alone o x) c.subject_of.ensures in
    typable_read P v.0 x (file_tree c.in_ok-read.read) (instr y.0) read k.0

pub advance-requires-clause-room : goal.advance-requires-clause-room
advance-requires-clause-room c =
    let P = program c.args.program.now in
    let v = c.loop-entry.invariant in
    let y = c.entry-item.result in
    let at = c.loop-entry.entry-index in
    let k = ready_here P v.0 v.1 c.args.body.now c.args.«end».now at y c.loop-entry-test.true c.entry-item.is v.3 in
    names_room (instr y.0) c.loop-entry.known.names v.0 v.2.0 k.0.1

pub loop-entry-preserved : goal.loop-entry-preserved
loop-entry-preserved c =
    let P = program c.args.program.now in
    let v = c.loop-entry.invariant in
    let x = v.1 in
    let y = c.entry-item.result in
    let i = instr y.0 in
    let xs = c.args.body.now in
    let e = c.args.«end».now in
    let at = c.loop-entry.entry-index in
    let old = c.loop-entry.wants.items in
    let new = c.note_wants.new.wants.items in
    let lt = c.loop-entry-test.true in
    let k = ready_here P v.0 x xs e at y lt c.entry-item.is v.3 in
    let read : file_tree c.in_ok-read.read ≡ alone (subject i) x =
    c.in_ok-read.ensures v.0 x v.2 ∙ ap (λ o. alone o x) c.subject_of.ensures in
    let entered : target P (file_tree c.in_ok-read.read) i ≡ target P x i =
    ap (λ z. target P z i) read ∙ target_alone P x i in
    let noted = λ (rest : List ℕ).
    c.in_ok-note_wants.ensures rest ∙ ap (λ z. join old (join (reads i) (join (numbers z) rest))) entered in (
      names_after i v.0,
      next P x i,
      c.in_ok-advance.ensures v.0 x v.2 read,
      k.1,
      wants_next P x (next P x i) xs e at y old new _ lt c.entry-item.is refl noted v.4,
    )

pub part-requires-2 : goal.part-requires-2
part-requires-2 c =
    let P = program c.args.program.now in
    let v = c.loop-entry.invariant in
    let x = v.1 in
    let e = c.args.«end».now in
    let k = ready_end P v.0 x c.args.body.now e c.loop-entry.entry-index c.loop-entry-test.false v.3 in
    (v.0, x, v.2, subst (λ o. MayShow v.0 o x) (sym c.subject_of_end.ensures) (end_may_show P v.0 x (end_of e) k))

pub target_of_end-requires : goal.target_of_end-requires
target_of_end-requires c =
    let P = program c.args.program.now in
    let v = c.loop-entry.invariant in
    let x = v.1 in
    let e = c.args.«end».now in
    let last = end_of e in
    let k = ready_end P v.0 x c.args.body.now e c.loop-entry.entry-index c.loop-entry-test.false v.3 in
    let read = c.in_ok-read-2.ensures v.0 x v.2 ∙ ap (λ o. alone o x) c.subject_of_end.ensures in
    let ready = subst (λ z. ReadyEnd P v.0 z last) (sym read) (end_ready_alone P x v.0 last k) in
    (v.0, subst (λ (xs : List (ℕ × TType)). ReadyEnd P v.0 (file xs) last) (sym c.deref-2.ensures.value) ready)

pub returns : goal.returns
returns c =
    let P = program c.args.program.now in
    let v = c.loop-entry.invariant in
    let x = v.1 in
    let e = c.args.«end».now in
    let last = end_of e in
    let old = c.loop-entry.wants.items in
    let mid = c.note_end.new.wants.items in
    let new = c.note_file.new.wants.items in
    let read = c.in_ok-read-2.ensures v.0 x v.2 ∙ ap (λ o. alone o x) c.subject_of_end.ensures in
    let entered =
    c.in_ok-entered.ensures
    ∙ ap (λ (xs : List (ℕ × TType)). end_target P (file xs) last) c.deref-2.ensures.value
    ∙ ap (λ z. end_target P z last) read
    ∙ end_target_alone P x last in
    let noted = λ (rest : List ℕ).
    c.in_ok-note_file.ensures rest
    ∙ ap (λ (xs : List (ℕ × TType)). join mid (join (numbers (file xs)) rest)) c.deref-3.ensures.value in
    wants_all P x c.args.body.now e c.loop-entry.entry-index (file c.in_ok-entered.entered.items) old mid new _
    c.loop-entry-test.false entered c.in_ok-note_end.ensures noted v.4
