use Rattle.f_parser.proofs.UseOrder as order
use Rattle.f_parser.proofs.order.uses_in_text_order.Goals as goal

pub returns : goal.returns
returns c = order.uses_in_text_order
