use Rattle.std.proofs.Common.{OnOk, length, ap, sym, subst}
use Rattle.t_terms.specs.Read.{instr as instr_tree}
use Rattle.t_rules.specs.Erase.{erase_instr}
use Rattle.t_terms.specs.declared.instr.Instr.{Instr}
use Rattle.t_machine.specs.Action.{Action}
use Rattle.t_machine.specs.Code.{IsInstr}
use Rattle.t_machine.specs.Laid.{InInstruction, Adds}
use Rattle.t_terms.specs.Whole.{WellFormedInstr}
use Rattle.t_machine.proofs.loading.load_instr.Goals as goal

pub load_move-requires : goal.load_move-requires
load_move-requires c =
    let p = c.requires.0 in
    let n = c.requires.1 in
    let whole = subst (λ (i : Instr). WellFormedInstr p (length c.args.starts.now) n (instr_tree i)) c.in-Mov.is
    c.requires.2 in
    (p, n, whole.1)

pub load_move-requires-in-Unpack : goal.load_move-requires-in-Unpack
load_move-requires-in-Unpack c =
    let p = c.requires.0 in
    let n = c.requires.1 in
    let whole = subst (λ (i : Instr). WellFormedInstr p (length c.args.starts.now) n (instr_tree i)) c.in-Unpack.is
    c.requires.2 in
    (p, n, whole.1)

pub returns-in_ok-v-in-Arith-clause-same : goal.returns-in_ok-v-in-Arith-clause-same
returns-in_ok-v-in-Arith-clause-same c =
    let kept = c.in_ok-v-in-Arith.ensures.kept in
    subst (λ (a : Action). IsInstr c.load_number.new.places c.args.entries.now a (erase_instr
    (instr_tree c.args.i.now)))
    (sym c.arith-arith.ensures) (
      c.in-Arith.rd,
      c.in-Arith.rs,
      _,
      kept c.in-Arith.rd _ (c.in_ok-rs-in-Arith.ensures.kept c.in-Arith.rd _ c.in_ok-rd-in-Arith.ensures.place),
      kept c.in-Arith.rs _ c.in_ok-rs-in-Arith.ensures.place,
      c.in_ok-v-in-Arith.ensures.same,
      ap (λ (i : Instr). erase_instr (instr_tree i)) c.in-Arith.is,
    )

pub returns-in-Mov-clause-named : goal.returns-in-Mov-clause-named
returns-in-Mov-clause-named c =
    subst (λ (i : Instr). OnOk c.load_move.result
    (Adds c.args.places.now c.load_move.new.places (InInstruction (erase_instr (instr_tree i))))) (sym c.in-Mov.is)
    c.load_move.ensures.named

pub returns-in-Unpack-clause-named : goal.returns-in-Unpack-clause-named
returns-in-Unpack-clause-named c =
    subst (λ (i : Instr). OnOk c.load_move-in-Unpack.result
    (Adds c.args.places.now c.load_move-in-Unpack.new.places (InInstruction (erase_instr (instr_tree i)))))
    (sym c.in-Unpack.is) c.load_move-in-Unpack.ensures.named

pub returns-in-Ld-clause-named : goal.returns-in-Ld-clause-named
returns-in-Ld-clause-named c =
    subst (λ (i : Instr). OnOk c.load_read.result
    (Adds c.args.places.now c.load_read.new.places (InInstruction (erase_instr (instr_tree i))))) (sym c.in-Ld.is)
    c.load_read.ensures.named

pub returns-in-St-clause-named : goal.returns-in-St-clause-named
returns-in-St-clause-named c =
    subst (λ (i : Instr). OnOk c.load_write.result
    (Adds c.args.places.now c.load_write.new.places (InInstruction (erase_instr (instr_tree i))))) (sym c.in-St.is)
    c.load_write.ensures.named
