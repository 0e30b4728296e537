use Rattle.std.proofs.Common.{arith}
use Rattle.std.proofs.lemmas.Grind.{common_steps}
use Rattle.io_core.proofs.FileMapLemmas.{SameBut-insert}
use Rattle.io_core.specs.MemFiles.{file_map}
use Rattle.io_core.proofs.mem_files.MemFilesFiles.write_all.Goals as goal

pub returns-in-Some-failing-clause-written : goal.returns-in-Some-failing-clause-written
returns-in-Some-failing-clause-written c =
    let same = SameBut-insert c.args.self.now.files (file_map c.set_file.new.files) c.args.name.now
    c.match-failing.kept.now (grind (arith, common_steps)) in (
      grind (arith, common_steps),
      same,
      grind (arith, common_steps),
      grind (arith, common_steps),
      grind (arith, common_steps),
    )
