use Rattle.std.proofs.Common.{◌≡◌, ◌<◌, ◌-◌, List, ℕ, length, get_or, drop, arith, subst, sym}
use Rattle.std.proofs.lemmas.List.{drop_all}
use Rattle.t_known.proofs.Noting.{IsHeader, header_none, header_step, of_block}
use Rattle.t_known.proofs.registers.Registers.of_block.Goals as goal
use Rattle.idx_core.proofs.Lists.{item}

pub loop-left-init : goal.loop-left-init
loop-left-init c =
    let xs = c.args.regs.now in
    record {
      within = omega arith;
      header = subst (λ (ys : List (ℕ × ℕ)). IsHeader c.args.owes ys c.none-made.result)
          (sym (drop_all (length xs) xs (omega arith)))
          (header_none c.args.owes c.none-made.result c.requires c.none-made.ensures.empty c.none-made.ensures.names);
    }

pub loop-left-preserved : goal.loop-left-preserved
loop-left-preserved c =
    let l = c.loop-left in
    let xs = c.args.regs.now in
    let within = l.invariant.within in
    let some = c.loop-left-test.true in
    let lt : l.left - 1 < length xs = omega arith in
    record {
      within = omega arith;
      header = header_step c.args.owes xs l.left (get_or xs (l.left - 1) (0, 0)) l.made c.set.new.self
          (omega arith) within (item xs (l.left - 1) (0, 0) lt) l.invariant.header c.in_ok-set.ensures;
    }

pub returns : goal.returns
returns c = λ ts f below is w.
    let l = c.loop-left in
    let none : l.left ≡ 0 = omega (arith, c.loop-left-test.false) in
    of_block ts c.args.owes f c.args.regs.now l.made
    (subst (λ (i : ℕ). IsHeader c.args.owes (drop i c.args.regs.now) l.made) none l.invariant.header) below is w
