use Rattle.talc_core.proofs.ListedLemmas.{put_failed, put_ended}
use Rattle.talc_core.proofs.commands.listed.show_listing.Goals as goal

pub returns : goal.returns
returns g c =
    let told = g.O.Sink.state c.args.out.now in
    let read = c.in_ok-text.ensures in
    put_failed (g.F.Files.state c.args.files.now) (g.F.Files.state c.read_input.new.files) told
    (g.O.Sink.state c.put_listing.new.out) told told c.args.input.now c.in_ok-text.text.items c.in_ok-listed.listed
    read.0 read.1 read.2 c.in_ok-listed.ensures c.in-Err.failure c.in-Err.ensures

pub returns-in-Ok : goal.returns-in-Ok
returns-in-Ok g c =
    let told = g.O.Sink.state c.args.out.now in
    let read = c.in_ok-text.ensures in
    put_ended (g.F.Files.state c.args.files.now) (g.F.Files.state c.read_input.new.files) told
    (g.O.Sink.state c.put_listing.new.out) told told c.args.input.now c.in_ok-text.text.items c.in_ok-listed.listed
    read.0 read.1 read.2 c.in_ok-listed.ensures c.ended.result c.ended.ensures c.in-Ok.ensures
