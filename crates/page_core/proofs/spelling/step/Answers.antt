use Rattle.std.proofs.Common.{◌++◌, List, ℕ, ap, ◌∙◌, sym, append_assoc}
use Rattle.page_core.specs.Texts.{texts, spelled}
use Rattle.page_core.proofs.Spelled.{none_spelled, bytes_spelled, pair_spelled, pair_work}
use Rattle.page_core.proofs.spelling.step.Goals as goal

pub returns-in-None-clause-is : goal.returns-in-None-clause-is
returns-in-None-clause-is c =
    let rest = spelled (texts c.args.pieces.now) c.args.pending.now.items in
    ap (λ (w : List ℕ). c.args.text.now.items ++ (w ++ rest))
    (sym (none_spelled c.args.pieces.now c.args.number c.in-None.ensures.lookup.3))

pub returns-in_ok-extend_from_slice-in-Some-Bytes-clause-is :
    goal.returns-in_ok-extend_from_slice-in-Some-Bytes-clause-is
returns-in_ok-extend_from_slice-in-Some-Bytes-clause-is c =
    let a = c.in-Some-Bytes in
    let rest = spelled (texts c.args.pieces.now) c.args.pending.now.items in
    let is = bytes_spelled c.args.pieces.now a.field-0.now c.args.number a.bytes a.ensures.lookup.3.0
    (sym a.ensures.lookup.1 ∙ a.field-0-is) in
    ap (λ (w : List ℕ). w ++ rest)
    (c.in_ok-extend_from_slice-in-Some-Bytes.ensures.items
    ∙ ap (λ (w : List ℕ). c.args.text.now.items ++ w) (c.deref.ensures.value ∙ sym is))
    ∙ append_assoc c.args.text.now.items _ rest

pub returns-in_ok-push_part-in-Some-Joined-2-clause-is :
    goal.returns-in_ok-push_part-in-Some-Joined-2-clause-is
returns-in_ok-push_part-in-Some-Joined-2-clause-is c =
    let a = c.in-Some-Joined in
    ap (λ (w : List ℕ). c.args.text.now.items ++ w)
    (pair_spelled c.args.pieces.now a.field-0.now a.field-0.now c.args.number a.first a.second _ _ _
    a.ensures.lookup.3.0 (sym a.ensures.lookup.1) a.field-0-is c.in_ok-push_part-in-Some-Joined.ensures
    c.in_ok-push_part-in-Some-Joined-2.ensures)

pub returns-in_ok-push_part-in-Some-Joined-2-clause-less :
    goal.returns-in_ok-push_part-in-Some-Joined-2-clause-less
returns-in_ok-push_part-in-Some-Joined-2-clause-less c =
    let a = c.in-Some-Joined in
    pair_work c.args.pieces.now a.field-0.now a.field-0.now c.args.number a.first a.second _ _ _
    a.ensures.lookup.3.0 (sym a.ensures.lookup.1) a.field-0-is c.in_ok-push_part-in-Some-Joined.ensures
    c.in_ok-push_part-in-Some-Joined-2.ensures
