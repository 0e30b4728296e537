use Rattle.std.proofs.Common.{◌∙◌, ◌∷◌, [], ap, map}
use Rattle.std.proofs.lemmas.List.{take_all}
use Rattle.calc_core.proofs.Trees.{tree_Code}
use Rattle.c_terms.specs.C.{TCCode}
use Rattle.c_terms.specs.Read.{ctys}
use Rattle.let_types.specs.Known.{entry_of}
use Rattle.let_types.proofs.Knowing.{argument, arguments_are, one_entry}
use Rattle.let_types.proofs.closed.names_of_code.Goals as goal

pub loop-t-init : goal.loop-t-init
loop-t-init c =
    one_entry c.push.new.self.items c.new-names.result.items _ c.in_ok-push.ensures.items c.new-names.ensures.items
    ∙ ap (λ t. entry_of t c.args.owes ∷ [])
    (tree_Code c.args.owes c.in_ok-args_again.args_again ∙ ap (TCCode c.args.owes) c.in_ok-args_again.ensures)

pub returns : goal.returns
returns c =
    c.loop-t.invariant
    ∙ ap (λ es. entry_of (TCCode c.args.owes (ctys c.args.args.now)) c.args.owes ∷ es)
    (ap (λ ts. map (argument c.args.owes) ts) (take_all c.loop-t.t-index c.args.args.now c.loop-t-test.false)
    ∙ arguments_are c.args.owes c.args.args.now)
