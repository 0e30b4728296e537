use Rattle.std.proofs.Common.{Some, refl}
use Rattle.tal_c.proofs.GuestLemmas.{load_told}
use Rattle.tal_c.proofs.guest.load_into.Goals as goal

pub returns-in-Ok : goal.returns-in-Ok
returns-in-Ok c =
    load_told c.args.text.now (record { machine = Some c.in-Ok.machine }) c.in-Ok.machine c.bare.result
    c.in-Ok.ensures refl c.bare.ensures
