use Rattle.std.proofs.Common.{refl, ap, ◌∙◌, subst, ◌+◌, get_or}
use Rattle.t_terms.specs.Read.{instr}
use Rattle.t_terms.specs.ReadProgram.{program}
use Rattle.t_spill_rules.specs.Spill.{stores}
use Rattle.t_spill.specs.Moving.{Before, Reaches}
use Rattle.t_spill.specs.Tails.{tail_of}
use Rattle.t_spill.proofs.Beside.{reach_more}
use Rattle.t_spill.proofs.Walk.{tail_at, tail_end}
use Rattle.t_spill.proofs.block.spill_body.Goals as goal

pub loop-k-init : goal.loop-k-init
loop-k-init c = λ n y x b. (n, y, x, b, refl, refl)

pub spill_instr-requires-clause-stands : goal.spill_instr-requires-clause-stands
spill_instr-requires-clause-stands c =
    let P = program c.args.program.now in
    let h = c.requires.stands in
    let at = c.loop-k.k in
    let xs = c.args.body.now in
    let e = c.args.«end».now in
    let k = c.loop-k.invariant h.0 h.1 h.2 h.3 in
    let here = tail_at xs e at c.index-body-k.result c.loop-k-test.true in (
      k.0,
      k.1,
      k.2,
      tail_of xs e (at + 1),
      subst (Before P k.0 k.1 k.2 c.loop-k.walk) here k.3,
      c.stores_at-stored.ensures e ∙ ap (λ r. stores r (tail_of xs e (at + 1))) c.defined.ensures,
    )

pub loop-k-preserved : goal.loop-k-preserved
loop-k-preserved c =
    let P = program c.args.program.now in
    let at = c.loop-k.k in
    let xs = c.args.body.now in
    let e = c.args.«end».now in
    let here = tail_at xs e at c.index-body-k.result c.loop-k-test.true in
    let told = c.stores_at-stored.ensures e ∙ ap (λ r. stores r (tail_of xs e (at + 1))) c.defined.ensures in
    reach_more P c.args.walk.now c.loop-k.walk c.spill_instr.new.walk _ _
    (instr (get_or xs at c.index-body-k.result).0) _ here c.loop-k.invariant
    (λ n y x b. c.in_ok-spill_instr.ensures n y x _ b told)

pub returns : goal.returns
returns c =
    let P = program c.args.program.now in
    let xs = c.args.body.now in
    let e = c.args.«end».now in
    subst (Reaches P c.args.walk.now (tail_of xs e 0) c.loop-k.walk)
    (tail_end xs e c.loop-k.k c.loop-k-test.false)
    c.loop-k.invariant
