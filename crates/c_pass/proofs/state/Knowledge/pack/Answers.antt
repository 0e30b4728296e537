use Rattle.std.proofs.Common.{◌≡◌, ◌∙◌, ◌∷◌, ap, ap₂, List}
use Rattle.k_terms.specs.Read.{ktree}
use Rattle.c_rules.specs.Emit as E
use Rattle.c_rules.specs.Know as W
use Rattle.c_emit.specs.declared.parts.Note.{Note}
use Rattle.c_emit.specs.declared.parts.Note.TheVariants.{Packs}
use Rattle.c_emit.specs.Names.{side}
use Rattle.c_pass.specs.Read.{bounds, clues_of, sides, infos_with, notes_onto}
use Rattle.c_pass.proofs.Bounding.{notes_push}
use Rattle.c_pass.proofs.state.Knowledge.pack.Goals as goal

abbrev known : List E.Info → List E.Note → W.Known
known is cs = record { infos = is; notes = cs }

pub returns : goal.returns
returns c = λ rest depth.
    let w = c.args.self.now in
    let f = side w.side in
    let xs = bounds w.bounds.items in
    let fs = sides w.outer.items in
    let cs = clues_of w.clues.items in
    let ys = W.bind xs c.args.level (ktree c.args.shape.now) (W.side_depth f) in
    let k = W.know rest ys f fs cs in
    let is = infos_with w.infos.items k.infos in
    let be : bounds c.bind_now.new.xs.items ≡ ys =
    c.in_ok-bind_now.ensures ∙ ap (λ t. W.bind xs c.args.level t (W.side_depth f)) c.in_ok-copy.ensures in
    ap (λ (zs : List W.Bound). known (infos_with w.infos.items (W.know rest zs f fs cs).infos)
    (notes_onto c.push_back.new.self.items (W.know rest zs f fs cs).notes)) be
    ∙ ap (λ (vs : List Note). known is (notes_onto vs k.notes)) c.in_ok-push_back.ensures.items
    ∙ ap (known is) (notes_push w.notes.items (Packs c.in_ok-closed.field-0 c.in_ok-closed-2.field-0) k.notes)
    ∙ ap₂ (λ x y. known is (notes_onto w.notes.items (E.Packs x y ∷ k.notes))) c.in_ok-closed.ensures
    c.in_ok-closed-2.ensures
