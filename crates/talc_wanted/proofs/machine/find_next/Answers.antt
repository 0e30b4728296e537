use Rattle.std.proofs.Common.{◌≡◌, ◌+◌, ◌-◌, arith}
use Rattle.talc_wanted.proofs.Taking.{down_fits, down_misses, down_begins, down_ends, down_on}
use Rattle.talc_wanted.proofs.machine.find_next.Goals as goal

pub returns-then-fits : goal.returns-then-fits
returns-then-fits g c =
    let e : c.loop-at.at ≡ c.loop-at.at - 1 + 1 = let t = c.loop-at-test.true in omega arith in
    down_fits _ _ _ (c.loop-at.at - 1) c.loop-at.at c.truncate.new.self.items _ c.in-Token.class
    c.loop-at.invariant e c.in-Token.is c.if-fits.ensures c.truncate.ensures.items

pub returns-else-fits : goal.returns-else-fits
returns-else-fits g c =
    let e : c.loop-at.at ≡ c.loop-at.at - 1 + 1 = let t = c.loop-at-test.true in omega arith in
    down_misses _ _ _ (c.loop-at.at - 1) c.loop-at.at c.truncate.new.self.items _ c.in-Token.class
    c.loop-at.invariant e c.in-Token.is c.if-fits.ensures

pub returns-then-branch : goal.returns-then-branch
returns-then-branch g c =
    let e : c.loop-at.at ≡ c.loop-at.at - 1 + 1 = let t = c.loop-at-test.true in omega arith in
    down_begins _ _ _ (c.loop-at.at - 1) c.loop-at.at c.begin.new.row.items c.in_ok-begin-in-Line.field-0 _
    c.in-Line.line c.loop-at.invariant e c.in-Line.is c.if-branch.true c.in_ok-begin-in-Line.ensures

pub returns-then-not-may_end : goal.returns-then-not-may_end
returns-then-not-may_end g c =
    let e : c.loop-at.at ≡ c.loop-at.at - 1 + 1 = let t = c.loop-at-test.true in omega arith in
    down_ends _ _ _ (c.loop-at.at - 1) c.loop-at.at c.begin.new.row.items c.in_ok-begin-in-Line.field-0 _
    c.in-Line.line c.loop-at.invariant e c.in-Line.is c.if-branch.false c.in_ok-begin-in-Line.ensures
    c.if-not-may_end.ensures

pub loop-at-preserved : goal.loop-at-preserved
loop-at-preserved g c =
    let e : c.loop-at.at ≡ c.loop-at.at - 1 + 1 = let t = c.loop-at-test.true in omega arith in
    down_on _ _ _ (c.loop-at.at - 1) c.loop-at.at c.begin.new.row.items c.in_ok-begin-in-Line.field-0 _
    c.in-Line.line c.loop-at.invariant e c.in-Line.is c.if-branch.false c.in_ok-begin-in-Line.ensures
    c.if-not-may_end.ensures
