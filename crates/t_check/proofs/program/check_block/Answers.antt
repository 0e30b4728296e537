use Rattle.std.proofs.Common.{◌≡◌, ◌<◌, ◌≤◌, List, length, drop, get_or, sym, subst, ap, refl, ◌∙◌}
use Rattle.std.proofs.lemmas.Result.{err_from_is_err_and}
use Rattle.idx_core.specs.declared.span.Span.{Span}
use Rattle.t_types.specs.Fits.{lookup}
use Rattle.t_types.specs.Read.{file}
use Rattle.t_types.proofs.Scope.{regs_below}
use Rattle.t_terms.specs.Spanned.{seq_of}
use Rattle.t_terms.specs.Read.{body, instr, end_of, spanned}
use Rattle.t_terms.specs.ReadProgram.{program}
use Rattle.t_terms.specs.Whole.{WellFormedSeq}
use Rattle.t_terms.specs.declared.instr.Instr.{Instr}
use Rattle.t_terms.specs.declared.program.TProgram.{TProgram}
use Rattle.t_rules.specs.Faults.{InstrFaultWith, BlockFaultWith}
use Rattle.t_intern.proofs.Growing.{grown_next, grown_same}
use Rattle.t_known.specs.declared.labels.Labels.{Labels}
use Rattle.t_known.specs.Known.{known}
use Rattle.t_known.specs.Labels.{AreLabels}
use Rattle.t_known.specs.Refusals.{SaysWith}
use Rattle.t_check.specs.Verdict.{FormedInstr, FormedEnd, IsEnd}
use Rattle.t_rules.specs.Rules.{Typed}
use Rattle.t_known.proofs.Numbering.{labels_grown}
use Rattle.t_check.proofs.Typing.{says_map}
use Rattle.t_check.proofs.Bodies.{IsLeft, left_all, left_fault, left_more, formed_more, formed_instr, formed_names}
use Rattle.t_check.proofs.Bodies.{end_formed, block_end}
use Rattle.t_check.proofs.program.check_block.Goals as goal

pub loop-step-init : goal.loop-step-init
loop-step-init c =
    let p = c.args.of.now.program.now in
    let P = program p in
    let b = c.args.block.now in
    let k = c.in_ok-registers.registers in
    let xs = c.deref-step-items.result.now in
    let formed = c.requires.formed.2 in
    record {
      grown = grown_same c.args.types.now c.args.types.now refl;
      sound = c.in_ok-registers.ensures.1;
      same = refl;
      labels = refl;
      formed = subst
          (λ (ys : List (Instr × Span)). WellFormedSeq (length p.blocks.items) (length p.heap.items) k.names
          (seq_of (body ys) (end_of b.«end»))) (sym c.deref-step-items.ensures.value)
          (subst (λ m. WellFormedSeq (length p.blocks.items) (length p.heap.items) m
          (seq_of (body b.body.items) (end_of b.«end»))) (sym c.in_ok-registers.ensures.2) formed);
      left = left_all P (end_of b.«end») b.end_span b.owes k.names (lookup (file b.regs.regs.items))
          (known c.args.types.now k) xs c.in_ok-registers.ensures.2 c.in_ok-registers.ensures.0;
    }

pub check_instr-requires : goal.check_instr-requires
check_instr-requires c =
    let p = c.args.of.now.program.now in
    let b = c.args.block.now in
    let l = c.loop-step in
    let k = l.checker.registers in
    let x = c.step-item.result in
    let e = end_of b.«end» in
    let g = lookup (file b.regs.regs.items) in
    let h = known l.types k in
    let labels = labels_grown c.args.types.now l.types p c.args.of.now.labels.now l.invariant.grown c.requires.labels in
    record {
      place = record {
        sound = l.invariant.sound;
        labels = subst (λ (q : TProgram). AreLabels l.types q l.checker.labels.now) (sym l.invariant.same)
            (subst (λ (z : Labels). AreLabels l.types p z) (sym l.invariant.labels) labels);
      };
      instr = subst (λ (q : TProgram). FormedInstr q k.names (instr x.0)) (sym l.invariant.same)
          (formed_instr (program p) e b.end_span b.owes k.names g h c.deref-step-items.result.now l.step-index x
          c.loop-step-test.true c.step-item.is (length p.blocks.items) (length p.heap.items) l.invariant.formed);
      few = formed_names (program p) e b.end_span b.owes k.names g h c.deref-step-items.result.now l.step-index x
          c.loop-step-test.true c.step-item.is (length p.blocks.items) (length p.heap.items) l.invariant.formed;
    }

pub returns-in_err-check_instr-clause-grown : goal.returns-in_err-check_instr-clause-grown
returns-in_err-check_instr-clause-grown c =
    grown_next _ _ _ c.loop-step.invariant.grown c.in_err-check_instr.ensures.grown

pub returns-in_err-check_instr-clause-block : goal.returns-in_err-check_instr-clause-block
returns-in_err-check_instr-clause-block c =
    let P = program c.args.of.now.program.now in
    let b = c.args.block.now in
    let l = c.loop-step in
    let k = l.checker.registers in
    let h = known l.types k in
    let x = c.step-item.result in
    let e = c.in_err-check_instr.field-0.0 in
    let q =
    err_from_is_err_and c.from_residual-in_err-check_instr.result c.from_residual-in_err-check_instr.ensures.1 in
    let items = subst
    (λ (ys : List (Instr × Span)). IsLeft P (end_of b.«end») b.end_span b.owes k.names
    (lookup (file b.regs.regs.items)) h ys (drop l.step-index ys)) c.deref-step-items.ensures.value
    l.invariant.left in
    let lt : l.step-index < length b.body.items =
    subst (λ (ys : List (Instr × Span)). l.step-index < length ys) c.deref-step-items.ensures.value
    c.loop-step-test.true in
    let us = c.check_instr.new.types in
    rw (q.1, q.2) (says_map us e _ (BlockFaultWith P (spanned b))
    (left_fault P (end_of b.«end») b.end_span b.owes k.names (lookup (file b.regs.regs.items)) h b.body.items
    l.step-index x lt
    (subst (λ (ys : List (Instr × Span)). x ≡ get_or ys l.step-index x) c.deref-step-items.ensures.value
    c.step-item.is) items)
    (subst (λ (p : TProgram). SaysWith us e (InstrFaultWith (program p) k.names h x.1 (instr x.0))) l.invariant.same
    c.in_err-check_instr.ensures.step))

pub loop-step-preserved : goal.loop-step-preserved
loop-step-preserved c =
    let p = c.args.of.now.program.now in
    let P = program p in
    let b = c.args.block.now in
    let l = c.loop-step in
    let k = l.checker.registers in
    let g0 = known l.types k in
    let h = c.check_instr.new.self.registers in
    let us = c.check_instr.new.types in
    let x = c.step-item.result in
    let xs = c.deref-step-items.result.now in
    let g = lookup (file b.regs.regs.items) in
    let step = c.in_ok-check_instr.ensures.step in
    let typed =
    subst (λ (q : TProgram). Typed (program q) k.names g0 (instr x.0) (known us h)) l.invariant.same step.0 in
    record {
      grown = grown_next _ _ _ l.invariant.grown c.in_ok-check_instr.ensures.grown;
      sound = step.1;
      same = ap (λ q. q.now) c.check_instr.ensures.program ∙ l.invariant.same;
      labels = ap (λ q. q.now) c.check_instr.ensures.labels ∙ l.invariant.labels;
      formed = formed_more P (end_of b.«end») b.end_span b.owes k.names g g0 xs l.step-index x c.loop-step-test.true
          c.step-item.is (length p.blocks.items) (length p.heap.items) l.invariant.formed h.names step.2;
      left = left_more P (end_of b.«end») b.end_span b.owes k.names g g0 xs l.step-index x c.loop-step-test.true
          c.step-item.is (known us h) h.names step.2 typed l.invariant.left;
    }

pub check_end-requires : goal.check_end-requires
check_end-requires c =
    let p = c.args.of.now.program.now in
    let b = c.args.block.now in
    let l = c.loop-step in
    let k = l.checker.registers in
    let labels = labels_grown c.args.types.now l.types p c.args.of.now.labels.now l.invariant.grown c.requires.labels in
    record {
      place = record {
        sound = l.invariant.sound;
        labels = subst (λ (q : TProgram). AreLabels l.types q l.checker.labels.now) (sym l.invariant.same)
            (subst (λ (z : Labels). AreLabels l.types p z) (sym l.invariant.labels) labels);
      };
      «end» = subst (λ (q : TProgram). FormedEnd q k.names (end_of b.«end»)) (sym l.invariant.same)
          (end_formed (program p) (end_of b.«end») b.end_span b.owes k.names (lookup (file b.regs.regs.items))
          (known l.types k) c.deref-step-items.result.now l.step-index c.loop-step-test.false
          (length p.blocks.items) (length p.heap.items) l.invariant.formed);
    }

pub returns-clause-grown : goal.returns-clause-grown
returns-clause-grown c = grown_next _ _ _ c.loop-step.invariant.grown c.check_end.ensures.grown

pub returns-clause-block : goal.returns-clause-block
returns-clause-block c =
    let P = program c.args.of.now.program.now in
    let b = c.args.block.now in
    let l = c.loop-step in
    let k = l.checker.registers in
    let h = known l.types k in
    let items = subst
    (λ (ys : List (Instr × Span)). IsLeft P (end_of b.«end») b.end_span b.owes k.names
    (lookup (file b.regs.regs.items)) h ys (drop l.step-index ys)) c.deref-step-items.ensures.value
    l.invariant.left in
    let us = c.check_end.new.types in
    let last = subst (λ (p : TProgram). IsEnd (program p) us k.names h b.end_span (end_of b.«end») c.check_end.result)
    l.invariant.same c.check_end.ensures.ended in
    block_end P b k.names h l.step-index
    (subst (λ (ys : List (Instr × Span)). length ys ≤ l.step-index) c.deref-step-items.ensures.value
    c.loop-step-test.false) (regs_below 0 b.owes (file b.regs.regs.items) c.requires.formed.1) items
    us c.check_end.result last
