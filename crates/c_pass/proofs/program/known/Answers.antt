use Rattle.std.proofs.Common.{◌≡◌, ◌∙◌, ap, ap₂, sym, List, [], map}
use Rattle.k_terms.specs.Read.{knode}
use Rattle.c_rules.specs.TSweep as T
use Rattle.c_rules.specs.Know as W
use Rattle.c_laws.specs.Walks.{top_side, all_known}
use Rattle.c_pass.specs.Read.{told_known, total}
use Rattle.c_pass.proofs.Joins.{infos_all, notes_all}
use Rattle.c_pass.proofs.program.known.Goals as goal

pub returns-clause-infos : goal.returns-clause-infos
returns-clause-infos c =
    let ns = map knode c.args.nodes.now in
    let all : total c.in_ok-walk.walk [] ≡ told_known (all_known ns) =
    c.in_ok-walk.ensures ∙ ap (λ (cs : List W.Clue). told_known (W.know ns [] top_side [] cs))
    (c.in_ok-clues.ensures ∙ ap₂ T.zipped c.in_ok-found.ensures c.in_ok-types.ensures) in
    sym (infos_all c.in_ok-walk.walk.infos.items) ∙ ap (λ k. k.infos) all

pub returns-clause-notes : goal.returns-clause-notes
returns-clause-notes c =
    let ns = map knode c.args.nodes.now in
    let all : total c.in_ok-walk.walk [] ≡ told_known (all_known ns) =
    c.in_ok-walk.ensures ∙ ap (λ (cs : List W.Clue). told_known (W.know ns [] top_side [] cs))
    (c.in_ok-clues.ensures ∙ ap₂ T.zipped c.in_ok-found.ensures c.in_ok-types.ensures) in
    sym (notes_all c.in_ok-walk.walk.notes.items) ∙ ap (λ k. k.notes) all
