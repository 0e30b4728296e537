use Rattle.std.proofs.Common.{arith}
use Rattle.io_core.proofs.FileMapLemmas.{file_map-insert}
use Rattle.io_core.proofs.mem_files.set_file.Goals as goal

pub returns-clause-ok : goal.returns-clause-ok
returns-clause-ok c =
    rw (file_map-insert c.args.files.now c.insert.new.self c.in_ok-key.key c.in_ok-content.content
    c.in_ok-insert.ensures.updates) (grind (arith, c.in_ok-key.ensures.ok, c.in_ok-content.ensures.items))
