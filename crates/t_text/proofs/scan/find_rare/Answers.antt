use Rattle.t_text.proofs.Finding.{word_is_found, plain_is_found, negative_is_found}
use Rattle.t_text.proofs.scan.find_rare.Goals as goal

pub returns-in-Word : goal.returns-in-Word
returns-in-Word c =
    let (w, p) = c.in-Word.ensures in
    rw c.bare.ensures
    (word_is_found c.args.text.now c.args.at c.in-Word.end _ c.requires.at c.requires.register w p c.word.ensures)

pub returns-in-Plain : goal.returns-in-Plain
returns-in-Plain c =
    let (w, p, v) = c.in-Plain.ensures in
    rw c.plain.ensures (plain_is_found c.args.text.now c.args.at c.in-Plain.digits w p v)

pub returns-in-Negative : goal.returns-in-Negative
returns-in-Negative c =
    let (w, p, v) = c.in-Negative.ensures in
    rw c.negative.ensures (negative_is_found c.args.text.now c.args.at c.in-Negative.digits w p v)
