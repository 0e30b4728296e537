use Rattle.std.proofs.lemmas.Result.{on_ok_weaker}
use Rattle.x_code.proofs.Back.{stands}
use Rattle.x_code.proofs.encoding.encode.Goals as goal

pub returns-clause-decoded : goal.returns-clause-decoded
returns-clause-decoded c =
    on_ok_weaker c.put.result
    (λ e. stands c.args.instr c.read_numbers.ensures c.args.code.now.items c.put.new.code.items e)
    c.put.ensures
