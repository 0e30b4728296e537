use Rattle.std.proofs.Common.{◌∙◌, ap, ap₂, List, [], map}
use Rattle.k_terms.specs.Read.{knode}
use Rattle.c_rules.specs.Emit as E
use Rattle.c_laws.specs.Walks.{all_known, top_frame}
use Rattle.c_emit.specs.Read.{infos_of, notes_of}
use Rattle.c_pass.proofs.Telling.{emitted}
use Rattle.c_pass.proofs.program.converted.Goals as goal

pub returns : goal.returns
returns c =
    let ns = map knode c.args.nodes.now in
    let k = all_known ns in
    c.in_ok-out.ensures
    ∙ ap (λ f. E.emit ns f [] (infos_of c.in_ok-infos.infos.items) (notes_of c.in_ok-infos.notes.items)) c.top.ensures
    ∙ ap₂ (λ (is : List E.Info) (cs : List E.Note). E.emit ns top_frame [] is cs) c.in_ok-infos.ensures.infos
    c.in_ok-infos.ensures.notes
    ∙ emitted ns top_frame [] k.infos k.notes
