use Rattle.std.proofs.Common.{◌∙◌, ap, sym, List}
use Rattle.c_rules.specs.Emit as E
use Rattle.c_rules.specs.Know as W
use Rattle.c_emit.specs.Names.{side}
use Rattle.c_pass.specs.Read.{bounds, clues_of, sides, infos_with, notes_onto}
use Rattle.c_pass.proofs.state.Knowledge.bind_made.Goals as goal

abbrev known : List E.Info → List E.Note → W.Known
known is cs = record { infos = is; notes = cs }

pub returns : goal.returns
returns c = λ rest n binds.
    let w = c.args.self.now in
    let f = side w.side in
    let fs = sides w.outer.items in
    let cs = clues_of w.clues.items in
    ap (λ (zs : List W.Bound). known (infos_with w.infos.items (W.know rest zs f fs cs).infos)
    (notes_onto w.notes.items (W.know rest zs f fs cs).notes)) c.in_ok-bind_now.ensures
    ∙ ap (λ (k : W.Known). known (infos_with w.infos.items k.infos) (notes_onto w.notes.items k.notes))
    (sym (binds rest (bounds w.bounds.items) f fs cs))
