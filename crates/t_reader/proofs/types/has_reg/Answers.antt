use Rattle.std.proofs.Common.{◌∙◌}
use Rattle.t_reader.proofs.Filing.{is_there}
use Rattle.t_reader.proofs.types.has_reg.Goals as goal

pub returns : goal.returns
returns c =
    c.contains_key.ensures ∙ is_there c.args.reg c.args.file.now.entries
