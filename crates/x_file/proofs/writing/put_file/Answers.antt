use Rattle.std.proofs.lemmas.Result.{on_ok_weaker}
use Rattle.x_file.proofs.Whole.{joined}
use Rattle.x_file.proofs.writing.put_file.Goals as goal

pub returns : goal.returns
returns c =
    on_ok_weaker c.put_contents.result
    (λ e. joined c.args.file.now.items c.put_head.new.file.items c.put_contents.new.file.items c.args.code.now
    c.args.content.now c.args.heap c.offset_of.result c.offset_of.ensures c.in_ok-put_head.ensures e)
    c.put_contents.ensures
