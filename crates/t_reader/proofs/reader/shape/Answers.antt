use Rattle.t_text.specs.Kept.{tokens_of}
use Rattle.t_reader.proofs.Shaped.{unexpected_fault, deep_fault}
use Rattle.t_reader.proofs.reader.shape.Goals as goal

pub returns-in-Err-Unexpected : goal.returns-in-Err-Unexpected
returns-in-Err-Unexpected c =
    rw (c.refused.ensures, c.place.ensures) (unexpected_fault c.args.text.now (tokens_of c.args.tokens.now) _ c.requires
    (rw c.in-Err-Unexpected.field-0-is at c.in-Err-Unexpected.ensures))

pub returns-in-Err-TooDeep : goal.returns-in-Err-TooDeep
returns-in-Err-TooDeep c =
    rw (c.refused-in-Err-TooDeep.ensures, c.place-in-Err-TooDeep.ensures) (deep_fault c.args.text.now
    (tokens_of c.args.tokens.now) _ c.requires (rw c.in-Err-TooDeep.field-0-is at c.in-Err-TooDeep.ensures))
