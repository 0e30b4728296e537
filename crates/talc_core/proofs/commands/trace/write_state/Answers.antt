use Rattle.std.proofs.Common.{◌≡◌, ◌++◌, subst, sym}
use Rattle.t_types.specs.Read.{file}
use Rattle.t_terms.specs.ReadProgram.{program}
use Rattle.t_machine.specs.Runs.{words_in}
use Rattle.t_trace.specs.Line.{AreWordsOf, line_text}
use Rattle.talc_core.specs.Traced.{HaveWords}
use Rattle.talc_core.specs.Tracing.{HaveAll}
use Rattle.talc_core.proofs.TraceLemmas.{Regs, Words, place_there, known_have, words_are, line_is}
use Rattle.talc_core.proofs.commands.trace.write_state.Goals as goal

pub to-requires-clause-there : goal.to-requires-clause-there
to-requires-clause-there c =
    let p = c.args.walk.now.program.now in
    let b = c.place-block.result.0 in
    let i = c.place-block.result.1 in
    let place = c.place-block.ensures (program p) c.args.m c.requires.stands in
    place_there (program p) p.whole.0 c.requires.accepted c.args.m c.args.machine.now c.requires.stands b i place
    c.states_are_typed.ensures

pub words_of-requires : goal.words_of-requires
words_of-requires c =
    let p = c.args.walk.now.program.now in
    let b = c.place-block.result.0 in
    let i = c.place-block.result.1 in
    let place = c.place-block.ensures (program p) c.args.m c.requires.stands in
    let f = file c.in_ok-vars.known.regs.items in
    let known = c.in_ok-vars.ensures.known in
    subst (λ (xs : Regs). HaveAll (words_in c.args.machine.now) (file xs)) (sym c.deref.ensures.value)
    (known_have (program p) p.whole.0 c.requires.accepted c.args.m c.args.machine.now c.requires.stands b i place
    c.in_ok-vars.vars f known c.erased_words_are_of_their_kind.ensures)

pub write_line-requires-clause-words : goal.write_line-requires-clause-words
write_line-requires-clause-words c =
    let f = file c.in_ok-vars.known.regs.items in
    let have = subst (λ (xs : Regs). HaveWords (words_in c.args.machine.now) c.in_ok-words.words.items (file xs))
    c.deref.ensures.value c.in_ok-words.ensures in
    subst (λ (ws : Words). AreWordsOf ws f) (sym c.deref-2.ensures.value)
    (words_are (words_in c.args.machine.now) c.in_ok-words.words.items f have)

pub returns-clause-line : goal.returns-clause-line
returns-clause-line c =
    let p = c.args.walk.now.program.now in
    let b = c.place-block.result.0 in
    let i = c.place-block.result.1 in
    let place = c.place-block.ensures (program p) c.args.m c.requires.stands in
    let f = file c.in_ok-vars.known.regs.items in
    let known = c.in_ok-vars.ensures.known in
    let have = subst (λ (xs : Regs). HaveWords (words_in c.args.machine.now) c.in_ok-words.words.items (file xs))
    c.deref.ensures.value c.in_ok-words.ensures in
    let line = subst
    (λ (ws : Words). c.write_line.new.text.items ≡ c.args.lines.now.items
    ++ line_text c.args.m b i c.in_ok-vars.vars ws f) c.deref-2.ensures.value c.in_ok-write_line.ensures in
    line_is (program p) p.whole.0 c.requires.accepted c.args.m c.args.machine.now c.requires.stands b i place
    c.in_ok-vars.vars f known c.in_ok-words.words.items have c.args.lines.now.items c.write_line.new.text.items
    line
