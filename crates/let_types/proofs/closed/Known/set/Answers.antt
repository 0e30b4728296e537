use Rattle.std.proofs.Common.{◌∙◌, ap}
use Rattle.std.proofs.lemmas.Result.{on_ok_weaker}
use Rattle.calc_core.proofs.Trees.{tree_Tuple}
use Rattle.c_terms.specs.C.{TCTuple}
use Rattle.c_terms.specs.Read.{ctys}
use Rattle.let_types.specs.Known.{declare}
use Rattle.let_types.specs.KnownRead.{known}
use Rattle.let_types.proofs.closed.Known.set.Goals as goal

pub returns : goal.returns
returns c =
    let none = tree_Tuple c.new.result ∙ ap (λ us. TCTuple (ctys us)) c.new.ensures.items in
    on_ok_weaker c.declare.result
    (λ e. e ∙ ap (λ t. declare c.args.level c.args.types t (known c.args.self.now)) none) c.declare.ensures
