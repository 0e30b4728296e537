use Rattle.std.proofs.Common.{inr}
use Rattle.t_terms.specs.ReadProgram.{spanned_program}
use Rattle.talc_core.proofs.commands.listed.rows_of_refused.Goals as goal

pub listing_to-requires : goal.listing_to-requires
listing_to-requires c = (c.in-Refused.code, rw c.in-Refused.is at c.requires.fault)

pub returns-in_ok-rows-in-Refused : goal.returns-in_ok-rows-in-Refused
returns-in_ok-rows-in-Refused c =
    let P = spanned_program c.args.refused.0 in
    let fault = rw c.in-Refused.is at c.requires.fault in (
      inr (record { program = P; read = c.requires.read; fault = fault }),
      inr (record {
        program = P;
        read = c.requires.read;
        fault = fault;
        listed = c.in_ok-rows-in-Refused.ensures;
      }),
    )
