use Rattle.std.proofs.Common.{◌∙◌, ap, []}
use Rattle.h_pass.proofs.parts.put.Goals as goal
use Rattle.h_terms.specs.Nodes.{reads}
use Rattle.h_terms.proofs.Parts.{reads_push}

pub returns : goal.returns
returns c = ap (reads []) c.in_ok-push.ensures.items ∙ reads_push [] c.args.parts.now.items c.args.part
