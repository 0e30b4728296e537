use Rattle.std.proofs.Common.{◌≡◌, ◌-◌, ◌∙◌, ℕ, List, ap, sym, subst, arith, IfOk}
use Rattle.idx_core.specs.Laws.{shift_zero_law}
use Rattle.t_types.specs.Tree.{Ty, shift, ShiftFits}
use Rattle.t_types.specs.TreeLaws.{types_over}
use Rattle.t_intern.specs.Grown.{IsNumber}
use Rattle.t_intern.proofs.Growing.{grown_next}
use Rattle.t_known.specs.Known.{own, seen}
use Rattle.t_known.specs.declared.registers.Entry.{Entry}
use Rattle.t_rules.proofs.Depth.{shift_fits}
use Rattle.t_known.proofs.registers.Registers.shown.Goals as goal

-- an entry that was noted under the names in scope
seen_still : (ts : List Ty) (n : ℕ) (e : Entry) → e.names ≡ n → own ts e ≡ seen ts n e
seen_still ts n e same =
    let none : n - e.names ≡ 0 = omega arith in
    sym (ap (λ k. shift k 0 (own ts e)) none ∙ shift_zero_law types_over 0 (own ts e))

pub returns-then-entry-self-clause-number : goal.returns-then-entry-self-clause-number
returns-then-entry-self-clause-number c =
    subst (λ (t : Ty). IfOk c.whole.result (IsNumber c.whole.new.types t))
    (seen_still c.args.types.now c.args.self.now.names c.args.entry c.if-entry-self.true) c.whole.ensures.number

pub shift-requires-clause-fits : goal.shift-requires-clause-fits
shift-requires-clause-fits c =
    let e = c.args.entry in
    let by = c.args.self.now.names - e.names in
    let le = c.requires.entry.1 in
    let few = c.requires.few in
    subst (λ (t : Ty). ShiftFits by 0 t) (sym c.in_ok-ty.ensures.number.1)
    (shift_fits e.names by (own c.args.types.now e) (omega arith) c.requires.entry.2)

pub returns-clause-grown : goal.returns-clause-grown
returns-clause-grown c = grown_next _ _ _ c.in_ok-ty.ensures.grown c.shift.ensures.grown

pub returns-clause-number : goal.returns-clause-number
returns-clause-number c =
    subst (λ (t : Ty). IfOk c.shift.result (IsNumber c.shift.new.self t))
    (ap (shift (c.args.self.now.names - c.args.entry.names) 0) c.in_ok-ty.ensures.number.1) c.shift.ensures.number
