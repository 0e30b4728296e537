use Rattle.std.proofs.Common.{sym, ◌∙◌}
use Rattle.text_core.proofs.Runs.{digits_more, digits_large}
use Rattle.text_core.proofs.lexeme.read_digits.Goals as goal
use Rattle.text_core.proofs.lexeme.read_digits.Goals.{then-fits+then-value-d, else-fits}
use Rattle.text_core.proofs.lexeme.read_digits.Goals.{else-fits-via-then-fits+else-value-d, else-fits-via-else-fits}

pub loop-i-preserved : goal.loop-i-preserved
loop-i-preserved c =
    let t = c.args.text.now in
    let l = c.loop-i in
    let n = sym c.is_digit.ensures ∙ c.if-is_digit.true in
    elim c.if-fits.branch [
      | then-fits+then-value-d w ↦
          rw (w.value-is, w.fits-is)
          (digits_more t c.args.at l.i l.value l.fits l.invariant c.loop-i-test.true n w.if-value-d.true)
      | else-fits w ↦
          rw (w.value-is, w.fits-is)
          (digits_large t c.args.at l.i l.value l.fits l.invariant c.loop-i-test.true n (elim w.else-fits.branch [
            | else-fits-via-then-fits+else-value-d v ↦ λ e. v.if-value-d.false
            | else-fits-via-else-fits v ↦ λ e. absurd (let f = v.if-fits.false in cc)
          ]))
    ]
