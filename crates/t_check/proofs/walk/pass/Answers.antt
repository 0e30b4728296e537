use Rattle.std.proofs.Common.{◌<◌, suc, length, sym, subst, refl, arith, ap, ◌∙◌, add-one}
use Rattle.t_types.specs.Fits.{RegTypes}
use Rattle.t_terms.specs.Read.{instr}
use Rattle.t_terms.specs.ReadProgram.{program}
use Rattle.t_terms.specs.declared.program.TProgram.{TProgram}
use Rattle.t_rules.specs.Known.{KnownAt}
use Rattle.t_rules.specs.Rules.{Typed}
use Rattle.t_intern.proofs.Growing.{grown_next, grown_same}
use Rattle.t_known.specs.declared.labels.Labels.{Labels}
use Rattle.t_known.specs.Known.{known}
use Rattle.t_known.specs.Labels.{AreLabels}
use Rattle.t_check.specs.Verdict.{FormedInstr}
use Rattle.t_known.proofs.Numbering.{labels_grown}
use Rattle.t_check.proofs.Walking.{block_there, inside, formed_here, few_here, typed_here, code_here}
use Rattle.t_check.proofs.walk.pass.Goals as goal

pub index-requires : goal.index-requires
index-requires c =
    let p = c.args.of.now.program.now in
    omega (arith, block_there p c.args.stand.block c.args.index c.requires.there.0 c.requires.there.1, p.blocks.ok.0)

pub loop-i-init : goal.loop-i-init
loop-i-init c = record {
  grown = grown_same c.args.types.now c.args.types.now refl;
  sound = c.requires.stands.sound;
  same = refl;
  labels = refl;
  known = c.requires.stands.known;
}

pub index-step-requires : goal.index-step-requires
index-step-requires c =
    let p = c.args.of.now.program.now in
    let x = c.index.result.now in
    let b = c.args.stand.block in
    let there = block_there p b c.args.index c.requires.there.0 c.requires.there.1 in
    omega (
      arith,
      inside p b x there c.index.ensures c.args.index c.requires.there.0 c.requires.there.1,
      c.loop-i-test.true,
      x.body.ok.0,
    )

pub pass_instr-requires-clause-place : goal.pass_instr-requires-clause-place
pass_instr-requires-clause-place c =
    let p = c.args.of.now.program.now in
    let l = c.loop-i in
    let labels = labels_grown c.args.types.now l.types p c.args.of.now.labels.now l.invariant.grown c.requires.labels in
    record {
      sound = l.invariant.sound;
      labels = subst (λ (q : TProgram). AreLabels l.types q l.checker.labels.now) (sym l.invariant.same)
          (subst (λ (z : Labels). AreLabels l.types p z) (sym l.invariant.labels) labels);
    }

pub pass_instr-requires-clause-instr : goal.pass_instr-requires-clause-instr
pass_instr-requires-clause-instr c =
    let p = c.args.of.now.program.now in
    let x = c.index.result.now in
    let b = c.args.stand.block in
    let l = c.loop-i in
    let k = l.checker.registers in
    let y = c.index-step.result.now in
    let there = block_there p b c.args.index c.requires.there.0 c.requires.there.1 in
    let less : l.i < length x.body.items =
    omega (
      arith,
      inside p b x there c.index.ensures c.args.index c.requires.there.0 c.requires.there.1,
      c.loop-i-test.true,
    ) in
    subst (λ (q : TProgram). FormedInstr q k.names (instr y.0)) (sym l.invariant.same)
    (formed_here p b x there c.index.ensures l.i y less c.index-step.ensures k.names
    (known l.types k) l.invariant.known)

pub pass_instr-requires-clause-few : goal.pass_instr-requires-clause-few
pass_instr-requires-clause-few c =
    let p = c.args.of.now.program.now in
    let x = c.index.result.now in
    let b = c.args.stand.block in
    let l = c.loop-i in
    let k = l.checker.registers in
    let y = c.index-step.result.now in
    let there = block_there p b c.args.index c.requires.there.0 c.requires.there.1 in
    let less : l.i < length x.body.items =
    omega (
      arith,
      inside p b x there c.index.ensures c.args.index c.requires.there.0 c.requires.there.1,
      c.loop-i-test.true,
    ) in
    few_here p b x there c.index.ensures l.i y less c.index-step.ensures k.names (known l.types k) l.invariant.known

pub pass_instr-requires-clause-typed : goal.pass_instr-requires-clause-typed
pass_instr-requires-clause-typed c =
    let p = c.args.of.now.program.now in
    let x = c.index.result.now in
    let b = c.args.stand.block in
    let l = c.loop-i in
    let k = l.checker.registers in
    let y = c.index-step.result.now in
    let there = block_there p b c.args.index c.requires.there.0 c.requires.there.1 in
    let less : l.i < length x.body.items =
    omega (
      arith,
      inside p b x there c.index.ensures c.args.index c.requires.there.0 c.requires.there.1,
      c.loop-i-test.true,
    ) in
    subst (λ (q : TProgram). ∥ ((h : RegTypes) × Typed (program q) k.names (known l.types k) (instr y.0) h) ∥₁)
    (sym l.invariant.same)
    (typed_here p b x there c.index.ensures l.i y less c.index-step.ensures k.names (known l.types k) l.invariant.known
    c.places_go_on.ensures.typed c.requires.accepted)

pub loop-i-preserved : goal.loop-i-preserved
loop-i-preserved c =
    let p = c.args.of.now.program.now in
    let x = c.index.result.now in
    let b = c.args.stand.block in
    let l = c.loop-i in
    let k = l.checker.registers in
    let h = c.pass_instr.new.self.registers in
    let us = c.pass_instr.new.types in
    let y = c.index-step.result.now in
    let there = block_there p b c.args.index c.requires.there.0 c.requires.there.1 in
    let less : l.i < length x.body.items =
    omega (
      arith,
      inside p b x there c.index.ensures c.args.index c.requires.there.0 c.requires.there.1,
      c.loop-i-test.true,
    ) in
    let step = c.in_ok-pass_instr.ensures.step in
    let typed = subst (λ (q : TProgram). Typed (program q) k.names (known l.types k) (instr y.0) (known us h))
    l.invariant.same step.0 in
    let code = code_here p b x there c.index.ensures l.i y less c.index-step.ensures in
    let next = c.places_go_on.ensures.next (program p) b l.i k.names (known l.types k) (instr y.0) _
    (known us h) l.invariant.known code typed in
    record {
      grown = grown_next _ _ _ l.invariant.grown c.in_ok-pass_instr.ensures.grown;
      sound = step.1;
      same = ap (λ q. q.now) c.pass_instr.ensures.program ∙ l.invariant.same;
      labels = ap (λ q. q.now) c.pass_instr.ensures.labels ∙ l.invariant.labels;
      known = subst (λ i. KnownAt (program p) b i h.names (known us h)) (sym (add-one l.i))
          (subst (λ n. KnownAt (program p) b (suc l.i) n (known us h)) (sym step.2) next);
    }
