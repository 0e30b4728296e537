use Rattle.std.proofs.Common.{◌∙◌, arith}
use Rattle.t_terms.specs.Read.{body, spanned}
use Rattle.listing.specs.Writing.{program_of, text_of}
use Rattle.listing.proofs.Steps.{as_known, as_last, as_steps, begun_parts, has_places_in}
use Rattle.listing.proofs.lister.Lister.write_begun.Goals as goal

pub write_known-requires-clause-there : goal.write_known-requires-clause-there
write_known-requires-clause-there c =
    has_places_in (program_of c.args.self.now) _ c.args.number c.args.block.now 0 c.write_text.ensures.same.1
    c.requires.there (omega arith) 0 (omega arith)

pub write_steps-requires-clause-there : goal.write_steps-requires-clause-there
write_steps-requires-clause-there c =
    has_places_in (program_of c.args.self.now) _ c.args.number c.args.block.now _
    (c.write_known.ensures.same.1 ∙ c.write_text.ensures.same.1) c.requires.there c.requires.few

pub write_last-requires-clause-there : goal.write_last-requires-clause-there
write_last-requires-clause-there c =
    has_places_in (program_of c.args.self.now) _ c.args.number c.args.block.now _
    (c.write_steps.ensures.same.1 ∙ c.write_known.ensures.same.1 ∙ c.write_text.ensures.same.1) c.requires.there
    c.requires.few

pub returns-clause-rows : goal.returns-clause-rows
returns-clause-rows c =
    let text = text_of c.args.self.now in
    let P = program_of c.args.self.now in
    let before = c.args.before.now in
    let text_1 = c.write_known.ensures.same.0 ∙ c.write_text.ensures.same.0 in
    let program_1 = c.write_known.ensures.same.1 ∙ c.write_text.ensures.same.1 in
    let program_2 = c.write_steps.ensures.same.1 ∙ program_1 in
    begun_parts text P c.args.number (spanned c.args.block.now) (body before) _ _ _ _ _
    c.in_ok-write_text.ensures.row
    (as_known P _ c.args.number 0 _ _ c.write_text.ensures.same.1 c.in_ok-write_known.ensures.row)
    (as_steps text _ P _ c.args.number before _ _ text_1 program_1 c.in_ok-write_steps.ensures.rows)
    (as_last P _ c.args.number before _ _ program_2 c.in_ok-write_last.ensures.row)
