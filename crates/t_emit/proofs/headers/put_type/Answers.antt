use Rattle.std.proofs.Common.{◌∙◌, ap}
use Rattle.t_types.specs.Read.{file}
use Rattle.t_emit.proofs.Chosen.{inserted}
use Rattle.t_emit.proofs.headers.put_type.Goals as goal

pub returns : goal.returns
returns c = ap file c.in_ok-insert.ensures.entries ∙ inserted c.args.map.now.entries c.args.r c.args.t
