use Rattle.std.proofs.Common.{◌+◌, sym, ◌∙◌, ap, drop}
use Rattle.talc_wanted.specs.Listing.{shown}
use Rattle.talc_wanted.specs.Owing.{owing, from_top}
use Rattle.talc_wanted.specs.Wanted.{told, lent}
use Rattle.talc_wanted.proofs.Lines.{told_yes, told_not, told_last}
use Rattle.talc_wanted.proofs.line.put_kinds.Goals as goal
use Rattle.talc_wanted.proofs.line.put_kinds.Goals.{then-told+in_ok-put, else-told}

pub loop-one-preserved : goal.loop-one-preserved
loop-one-preserved g c =
    let m = owing g.G.Language.owes in
    let st = from_top c.args.owed.now in
    elim c.if-told.branch [
      | then-told+in_ok-put w ↦
          rw (w.line-is)
          (w.in_ok-put.ensures (told m g.G.Language.tells st (lent (drop (c.loop-one.one-index + 1) c.args.kinds.now)))
          ∙ (ap (λ ws. shown c.loop-one.line ws)
          (sym (told_yes m g.G.Language.tells st c.args.kinds.now c.loop-one.one-index c.one-item.result
          c.in_ok-told.told c.loop-one-test.true c.one-item.is c.in_ok-told.ensures w.if-told.true))
          ∙ c.loop-one.invariant))
      | else-told w ↦
          rw (w.line-is)
          (ap (λ ws. shown c.loop-one.line ws)
          (sym (told_not m g.G.Language.tells st c.args.kinds.now c.loop-one.one-index c.one-item.result
          c.in_ok-told.told c.loop-one-test.true c.one-item.is c.in_ok-told.ensures w.if-told.false))
          ∙ c.loop-one.invariant)
    ]

pub returns : goal.returns
returns g c =
    ap (λ ws. shown c.loop-one.line ws)
    (sym (told_last (owing g.G.Language.owes) g.G.Language.tells (from_top c.args.owed.now) c.args.kinds.now
    c.loop-one.one-index c.loop-one-test.false))
    ∙ c.loop-one.invariant
