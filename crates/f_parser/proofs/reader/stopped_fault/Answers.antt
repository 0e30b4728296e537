use Rattle.std.proofs.Common.{◌∙◌, sym}
use Rattle.f_parser.proofs.Reading.{stops_at_token, stops_at_end, stops_at_opener, deep_at_end}
use Rattle.f_parser.proofs.reader.stopped_fault.Goals as goal

pub returns-in-Some : goal.returns-in-Some
returns-in-Some c =
    rw c.refused.ensures
    (stops_at_token c.args.text.now c.args.tokens.now c.requires.tokens c.in-Unexpected.at c.in-Some.token
    (rw c.in-Unexpected.is at c.requires.stopped) (sym c.peek.ensures ∙ c.in-Some.is))

pub returns-in-None : goal.returns-in-None
returns-in-None c =
    rw (c.refused-in-None.ensures, c.end.ensures)
    (stops_at_end c.args.text.now c.args.tokens.now c.requires.tokens c.in-Unexpected.at
    (rw c.in-Unexpected.is at c.requires.stopped) (sym c.peek.ensures ∙ c.in-None.is))

pub returns-in-Some-peek : goal.returns-in-Some-peek
returns-in-Some-peek c =
    rw c.refused-in-Some-peek.ensures
    (stops_at_opener c.args.text.now c.args.tokens.now c.requires.tokens c.in-TooDeep.at c.in-Some-peek.token
    (rw c.in-TooDeep.is at c.requires.stopped) (sym c.peek-in-TooDeep.ensures ∙ c.in-Some-peek.is))

pub unreachable-requires : goal.unreachable-requires
unreachable-requires c =
    deep_at_end c.args.text.now c.args.tokens.now c.requires.tokens c.in-TooDeep.at
    (rw c.in-TooDeep.is at c.requires.stopped) (sym c.peek-in-TooDeep.ensures ∙ c.in-None-peek.is)
