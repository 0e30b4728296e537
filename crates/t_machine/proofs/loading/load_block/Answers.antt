use Rattle.std.proofs.Common.{◌≡◌, ℕ, suc, ◌+◌, List, [], ◌∷◌, ◌++◌, length, drop, refl, sym, ap, ◌∙◌, subst, arith}
use Rattle.std.proofs.Common.{inl, inr, ◌⊎◌, append_assoc, length-append}
use Rattle.std.proofs.lemmas.List.{append-nil, drop_more, drop_all}
use Rattle.idx_core.specs.declared.span.Span.{Span}
use Rattle.t_terms.specs.Spanned.{seq_of}
use Rattle.t_terms.specs.Read.{instr, body, end_of}
use Rattle.t_terms.specs.declared.instr.Instr.{Instr}
use Rattle.t_rules.specs.Erase.{erase_instr, erase_end, erase_seq}
use Rattle.t_machine.specs.Action.{action}
use Rattle.t_machine.specs.Code.{IsInstr, IsEnd, HoldsBlocks}
use Rattle.t_machine.specs.Laid.{size, sizes, begins, InInstruction, InBlock, Adds}
use Rattle.t_machine.specs.Lowering.{IsLoaded}
use Rattle.t_machine.specs.declared.code.Instruction.{Instruction}
use Rattle.t_machine.proofs.Laying.{size_of_end, adds_none, adds_both}
use Rattle.t_machine.proofs.Addresses.{moved_push, no_data}
use Rattle.t_machine.proofs.Loads.{extends_same, extends_both, filled_more, loaded_none, loaded_more, loaded_all}
use Rattle.t_terms.specs.Whole.{WellFormedSeq}
use Rattle.t_machine.proofs.There.{instr_there}
use Rattle.t_machine.proofs.loading.load_block.Goals as goal

pub load_instr-requires : goal.load_instr-requires
load_instr-requires c =
    let b = c.args.block.now in
    let q = length c.args.starts.now in
    let p = c.requires.0 in
    let xs = c.deref-step-items.result.now in
    let whole = subst (λ (ys : List (Instr × Span)). WellFormedSeq p q b.owes (seq_of (body ys) (end_of b.«end»)))
    (sym c.deref-step-items.ensures.value) c.requires.1.2 in
    let there = instr_there p q b.owes xs (end_of b.«end») c.loop-step.step-index c.step-item.result
    c.loop-step-test.true c.step-item.is whole in
    (p, there.0, there.1)

pub loop-step-init : goal.loop-step-init
loop-step-init c =
    let before = c.args.code.now in
    let all = erase_seq (seq_of (body c.deref-step-items.result.now) (end_of c.args.block.now.«end»)) in
    record {
      begun = record {
        kept = extends_same before.places;
        entries = refl;
        done = [];
        instructions = sym (append-nil before.instructions.items);
        loaded = loaded_none before.entries.items before.places all;
        counted = omega arith;
        part = λ r h. h;
        named = adds_none before.places (InBlock all);
      };
      started = λ all. all;
    }

pub loop-step-preserved : goal.loop-step-preserved
loop-step-preserved c =
    let l = c.loop-step in
    let inv = l.invariant.begun in
    let xs = c.deref-step-items.result.now in
    let x = c.step-item.result in
    let i = l.step-index in
    let e = end_of c.args.block.now.«end» in
    let o = c.in_ok-instruction.instruction in
    let es = c.args.code.now.entries.items in
    let p = c.load_instr.new.places in
    let all = erase_seq (seq_of (body xs) e) in
    let same = subst (λ ks. IsInstr p ks (action o) (erase_instr (instr x.0))) (c.deref.ensures.value ∙ inv.entries)
    c.in_ok-instruction.ensures.same in
    let next = drop_more xs i x c.loop-step-test.true
    ∙ ap (λ (y : Instr × Span). y ∷ drop (i + 1) xs) (sym c.step-item.is) in
    let left = subst (λ (ys : List (Instr × Span)). IsLoaded l.code.places es inv.done
    (erase_seq (seq_of (body ys) e)) all) next inv.loaded in
    let counts : size all ≡ length inv.done + suc (size (erase_seq (seq_of (body (drop (i + 1) xs)) e))) =
    subst (λ (ys : List (Instr × Span)). size all ≡ length inv.done + size (erase_seq (seq_of (body ys) e))) next
    inv.counted in
    let parts : (r : ℕ) → InInstruction (erase_instr (instr x.0)) r ⊎ InBlock
    (erase_seq (seq_of (body (drop (i + 1) xs)) e)) r → InBlock all r =
    subst (λ (ys : List (Instr × Span)). (r : ℕ) → InBlock (erase_seq (seq_of (body ys) e)) r →
    InBlock all r) next inv.part in
    record {
      begun = record {
        kept = extends_both _ _ _ inv.kept c.in_ok-instruction.ensures.kept;
        entries = inv.entries;
        done = inv.done ++ o ∷ [];
        instructions = c.in_ok-push.ensures.items ∙ ap (λ (os : List Instruction). os ++ o ∷ []) inv.instructions
            ∙ append_assoc c.args.code.now.instructions.items inv.done (o ∷ []);
        loaded = loaded_more es l.code.places p c.in_ok-instruction.ensures.kept inv.done o
            (erase_instr (instr x.0)) (erase_seq (seq_of (body (drop (i + 1) xs)) e)) all same left;
        counted = omega (arith, counts, length-append inv.done (o ∷ []));
        part = λ r h. parts r (inr h);
        named = adds_both c.args.code.now.places l.code.places p (InBlock all)
            (InInstruction (erase_instr (instr x.0))) (InBlock all) inv.named
            c.in_ok-instruction.ensures.named (λ r h. h)
            (λ r h. parts r (inl h));
      };
      started = λ before.
          moved_push c.args.starts.now l.code.instructions.items c.push.new.self.items o c.in_ok-push.ensures.items
          c.in_ok-instruction.ensures.started (l.invariant.started before);
    }

pub returns-clause-filled : goal.returns-clause-filled
returns-clause-filled c =
    let l = c.loop-step in
    let inv = l.invariant.begun in
    let xs = c.deref-step-items.result.now in
    let before = c.args.code.now in
    let es = before.entries.items in
    let e = end_of c.args.block.now.«end» in
    let o = c.in_ok-last.last in
    let p = c.load_end.new.places in
    let all = erase_seq (seq_of (body xs) e) in
    let ended = drop_all l.step-index xs c.loop-step-test.false in
    let left = subst (λ (ys : List (Instr × Span)). IsLoaded l.code.places es inv.done
    (erase_seq (seq_of (body ys) e)) all) ended inv.loaded in
    let is = subst (λ ks. IsEnd p ks (action o) (erase_end e)) (c.deref-2.ensures.value ∙ inv.entries)
    c.in_ok-last.ensures.same in
    let last = loaded_all es l.code.places p c.in_ok-last.ensures.kept inv.done o (erase_end e) all is left in
    let same = c.in_ok-push-2.ensures.items ∙ ap (λ (os : List Instruction). os ++ o ∷ []) inv.instructions
    ∙ append_assoc before.instructions.items inv.done (o ∷ []) in
    let counts : size all ≡ length inv.done + size (erase_end e) =
    subst (λ (ys : List (Instr × Span)). size all ≡ length inv.done + size (erase_seq (seq_of (body ys) e))) ended
    inv.counted in
    let one : size all ≡ length (inv.done ++ o ∷ []) =
    omega (arith, counts, size_of_end e, length-append inv.done (o ∷ [])) in
    λ cs h.
    let filled = filled_more before.places p es (extends_both _ _ _ inv.kept c.in_ok-last.ensures.kept)
    before.instructions.items (inv.done ++ o ∷ []) c.push-2.new.self.items cs all h.0 h.1 same last one in
    subst (λ (ys : List (Instr × Span)). HoldsBlocks p l.code.entries.items c.push-2.new.self.items
    (begins 0 (cs ++ erase_seq (seq_of (body ys) e) ∷ [])) (cs ++ erase_seq (seq_of (body ys) e) ∷ []) ×
    (length c.push-2.new.self.items ≡ sizes (cs ++ erase_seq (seq_of (body ys) e) ∷ [])))
    c.deref-step-items.ensures.value (
      subst (λ ks. HoldsBlocks p ks c.push-2.new.self.items (begins 0 (cs ++ all ∷ [])) (cs ++ all ∷ []))
          (sym inv.entries) filled.0,
      filled.1,
    )

pub returns-clause-entries : goal.returns-clause-entries
returns-clause-entries c = c.loop-step.invariant.begun.entries

pub returns-clause-named : goal.returns-clause-named
returns-clause-named c =
    let l = c.loop-step in
    let inv = l.invariant.begun in
    let xs = c.deref-step-items.result.now in
    let e = end_of c.args.block.now.«end» in
    let m = c.args.code.now.places in
    let all = erase_seq (seq_of (body xs) e) in
    let ended = drop_all l.step-index xs c.loop-step-test.false in
    let parts : (r : ℕ) → InBlock (erase_end e) r → InBlock all r =
    subst (λ (ys : List (Instr × Span)). (r : ℕ) → InBlock (erase_seq (seq_of (body ys) e)) r →
    InBlock all r) ended inv.part in
    subst (λ (ys : List (Instr × Span)). Adds m c.load_end.new.places (InBlock (erase_seq (seq_of (body ys) e))))
    c.deref-step-items.ensures.value (
    adds_both m l.code.places c.load_end.new.places (InBlock all) (InBlock (erase_end e)) (InBlock all) inv.named
    c.in_ok-last.ensures.named (λ r h. h) parts
    )

pub returns-clause-started : goal.returns-clause-started
returns-clause-started c =
    let l = c.loop-step in
    let o = c.in_ok-last.last in
    λ before.
    moved_push c.args.starts.now l.code.instructions.items c.push-2.new.self.items o c.in_ok-push-2.ensures.items
    (no_data c.args.starts.now (action o) c.in_ok-last.ensures.no_data) (l.invariant.started before)
