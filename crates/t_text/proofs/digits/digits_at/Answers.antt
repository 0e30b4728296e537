use Rattle.std.proofs.Common.{sym, ◌∙◌, arith, get_or}
use Rattle.std.specs.Prelude.{nat_lt}
use Rattle.std.proofs.lemmas.Bool.{ltb-true, and_parts}
use Rattle.text_core.proofs.Runs.{digits_more}
use Rattle.t_text.proofs.digits.digits_at.Goals as goal

pub loop-i-preserved : goal.loop-i-preserved
loop-i-preserved c =
    let t = c.args.text.now in
    let l = c.loop-i in
    let n = sym c.is_digit.ensures ∙ c.if-is_digit.true in
    let r = ltb-true (get_or t l.i 0) 58 (and_parts (nat_lt 47 (get_or t l.i 0)) (nat_lt (get_or t l.i 0) 58) n).1 in
    digits_more t c.args.at l.i l.value _ l.invariant c.loop-i-test.true n (omega (arith, r, c.if-value-ge-TENTH.false))
