use Rattle.std.proofs.Common.{inl}
use Rattle.talc_core.proofs.commands.listed.no_rows.Goals as goal

pub returns-in-Refused : goal.returns-in-Refused
returns-in-Refused c =
    let first = rw c.in-Refused.is at c.requires in (inl first, inl (first, c.new-rows.ensures.items))
