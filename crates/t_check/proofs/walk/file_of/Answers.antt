use Rattle.std.proofs.Common.{◌++◌, ◌∙◌, ap, refl, sym, subst, map, List, ℕ}
use Rattle.t_types.specs.Read.{reg}
use Rattle.t_types.specs.declared.types.TType.{TType}
use Rattle.t_known.specs.declared.registers.Entry.{Entry}
use Rattle.t_intern.proofs.Growing.{grown_next, grown_same}
use Rattle.t_known.proofs.Noting.{entry_grown, seen_grown}
use Rattle.t_check.proofs.Walking.{Entries, AreEntries, shown, are_entries, file_is, next_entry, entry_made, all_made}
use Rattle.t_check.proofs.walk.file_of.Goals as goal

pub loop-pair-init : goal.loop-pair-init
loop-pair-init c =
    let ts = c.args.types.now in
    let k = c.args.registers.now in
    let gives = c.into_iter-pair-iterator.ensures.into_iter_gives in
    record {
      grown = grown_same ts ts refl;
      valid = subst (AreEntries ts k.names) (sym gives.0) (are_entries ts k c.requires k.entries.entries gives.6);
      made = ap (λ (xs : List (ℕ × TType)). map reg xs ++ shown ts k.names c.into_iter-pair-iterator.result)
          c.new-regs.ensures.items
          ∙ ap (λ (es : Entries). shown ts k.names es) gives.0;
    }

pub shown-requires-clause-entry : goal.shown-requires-clause-entry
shown-requires-clause-entry c =
    let ts = c.args.types.now in
    let n = c.args.registers.now.names in
    let e : ℕ × Entry = (c.in-Some.pair.0.now, c.in-Some.pair.1.now) in
    entry_grown ts c.loop-pair.types c.loop-pair.invariant.grown n e.1
    (next_entry ts n c.loop-pair.pair-iterator c.next.new.self e c.in-Some.ensures.steps
    c.loop-pair.invariant.valid).0

pub loop-pair-preserved : goal.loop-pair-preserved
loop-pair-preserved c =
    let ts = c.args.types.now in
    let n = c.args.registers.now.names in
    let e : ℕ × Entry = (c.in-Some.pair.0.now, c.in-Some.pair.1.now) in
    let next = next_entry ts n c.loop-pair.pair-iterator c.next.new.self e c.in-Some.ensures.steps
    c.loop-pair.invariant.valid in
    record {
      grown = grown_next _ _ _ c.loop-pair.invariant.grown c.in_ok-n.ensures.grown;
      valid = next.1;
      made = entry_made ts n c.loop-pair.regs.items c.push.new.self.items c.loop-pair.pair-iterator c.next.new.self e
          c.in_ok-t.t _ c.in-Some.ensures.steps c.in_ok-push.ensures.items
          (c.in_ok-t.ensures ∙ c.in_ok-n.ensures.number.1
          ∙ seen_grown ts c.loop-pair.types c.loop-pair.invariant.grown n e.1 next.0) c.loop-pair.invariant.made;
    }

pub returns-clause-file : goal.returns-clause-file
returns-clause-file c =
    let ts = c.args.types.now in
    let k = c.args.registers.now in
    let gives = c.into_iter-pair-iterator.ensures.into_iter_gives in
    file_is ts k (map reg c.loop-pair.regs.items) c.requires gives.6 gives.5
    (all_made ts k.names c.loop-pair.regs.items c.loop-pair.pair-iterator _ c.in-None.ensures.steps.0
    c.loop-pair.invariant.made)
