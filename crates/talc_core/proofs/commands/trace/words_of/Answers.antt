use Rattle.std.proofs.Common.{◌≡◌, ◌+◌, subst, sym, Option}
use Rattle.std.specs.Prelude.{option_map}
use Rattle.t_terms.specs.declared.shown.Shown.{Shown}
use Rattle.t_machine.specs.Words.{shown_word}
use Rattle.t_machine.specs.Runs.{words_in}
use Rattle.talc_core.proofs.TraceLemmas.{Words, Told, told_more, told_all, next_has, word_told, no_word}
use Rattle.talc_core.proofs.commands.trace.words_of.Goals as goal

pub loop-reg-init : goal.loop-reg-init
loop-reg-init c = record {
  left = c.requires;
  told = subst (λ (ws : Words). Told (words_in c.args.machine.now) c.args.regs.now ws 0)
      (sym c.new-words.ensures.items) (λ rest h. h);
}

pub unreachable-requires : goal.unreachable-requires
unreachable-requires c =
    let l = c.loop-reg in
    let x = c.reg-item.result in
    let next = next_has (words_in c.args.machine.now) c.args.regs.now l.reg-index x c.loop-reg-test.true c.reg-item.is
    l.invariant.left in
    no_word _ next.0
    (subst (λ (o : Option Shown). option_map shown_word o ≡ words_in c.args.machine.now x.0) c.in-None.is
    c.reg.ensures.word)

pub loop-reg-preserved : goal.loop-reg-preserved
loop-reg-preserved c =
    let l = c.loop-reg in
    let x = c.reg-item.result in
    let r = words_in c.args.machine.now in
    let next = next_has r c.args.regs.now l.reg-index x c.loop-reg-test.true c.reg-item.is l.invariant.left in
    let word = word_told (r x.0) c.in-Some.word
    (subst (λ (o : Option Shown). option_map shown_word o ≡ r x.0) c.in-Some.is c.reg.ensures.word) in
    record {
      left = next.1;
      told =
          subst (λ (ws : Words). Told r c.args.regs.now ws (l.reg-index + 1)) (sym c.in_ok-push-in-Some.ensures.items)
          (told_more r c.args.regs.now l.words.items l.reg-index x c.in-Some.word c.loop-reg-test.true c.reg-item.is
          word l.invariant.told);
    }

pub returns : goal.returns
returns c = told_all (words_in c.args.machine.now) c.args.regs.now c.loop-reg.words.items c.loop-reg.reg-index
    c.loop-reg-test.false c.loop-reg.invariant.told
