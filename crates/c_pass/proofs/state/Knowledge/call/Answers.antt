use Rattle.std.proofs.Common.{◌∙◌, ◌∷◌, ap, List, true}
use Rattle.c_rules.specs.Emit as E
use Rattle.c_rules.specs.Know as W
use Rattle.c_emit.specs.declared.parts.Note.{Note}
use Rattle.c_emit.specs.declared.parts.Note.TheVariants.{Calls}
use Rattle.c_emit.specs.Names.{side}
use Rattle.c_pass.specs.Read.{bounds, clues_of, sides, infos_with, notes_onto}
use Rattle.c_pass.proofs.Bounding.{notes_push}
use Rattle.c_pass.proofs.state.Knowledge.call.Goals as goal

abbrev known : List E.Info → List E.Note → W.Known
known is cs = record { infos = is; notes = cs }

pub returns : goal.returns
returns c = λ rest.
    let w = c.args.self.now in
    let f = W.side_with w.side.owes true (side w.side) in
    let k = W.know rest (bounds w.bounds.items) f (sides w.outer.items) (clues_of w.clues.items) in
    let is = infos_with w.infos.items k.infos in
    ap (λ (vs : List Note). known is (notes_onto vs k.notes)) c.in_ok-push_back.ensures.items
    ∙ ap (known is) (notes_push w.notes.items (Calls c.in_ok-made.made) k.notes)
    ∙ ap (λ x. known is (notes_onto w.notes.items (E.Calls x ∷ k.notes))) c.in_ok-made.ensures
