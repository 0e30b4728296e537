use Rattle.std.proofs.Common.{◌<◌, ◌≤◌, arith, inl, inr, ⊎_elim}
use Rattle.std.proofs.lemmas.Bool.{cases_lt}
use Rattle.t_gen.proofs.Gapped.{gaps_put, gaps_same}
use Rattle.t_gen.proofs.registers.put_gap.Goals as goal

pub returns-in_ok-insert : goal.returns-in_ok-insert
returns-in_ok-insert c =
    λ h i. gaps_put c.args.gaps.now c.insert.new.self c.args.first c.args.end h i (omega (arith, c.if-first-end.true))
    (omega (arith, c.ranges.end.fits)) c.in_ok-insert.ensures.updates.0

pub returns-else-first-end : goal.returns-else-first-end
returns-else-first-end c =
    λ h i k one own rest. gaps_same c.args.gaps.now h i k
    (λ r le lt. rest r le
    (⊎_elim (λ (s : r < c.args.first). inl s) (λ (s : c.args.first ≤ r). inr (omega (arith, s, c.if-first-end.false)))
    (cases_lt r c.args.first)))
