use Rattle.std.proofs.Common.{◌≡◌, ◌∙◌, ◌++◌, ◌∷◌, [], ap, ap₂, List, ℕ, suc, arith}
use Rattle.calc_core.specs.Ends.{lift}
use Rattle.k_terms.specs.K as K
use Rattle.c_rules.specs.Emit as E
use Rattle.c_rules.specs.Know as W
use Rattle.c_emit.specs.declared.parts.Info.{Info}
use Rattle.c_emit.specs.declared.names.Side.{Side}
use Rattle.k_terms.specs.Read.{ktys}
use Rattle.c_emit.specs.Read.{info}
use Rattle.c_emit.specs.Names.{side}
use Rattle.calc_core.proofs.Trees.{tree_Code}
use Rattle.c_pass.specs.declared.state.Bound.{Bound}
use Rattle.c_pass.specs.Read.{all_told, bounds, clue, clues_of, sides, infos_onto, infos_with, notes_onto, side_from}
use Rattle.c_pass.specs.Read.{info_parts, told}
use Rattle.c_pass.proofs.Bounding.{infos_push}
use Rattle.c_pass.proofs.state.Knowledge.open.Goals as goal
use Rattle.calc_core.proofs.Lifts.{lift_add}

pub info_from-requires : goal.info_from-requires
info_from-requires c =
    let owes = c.args.node.now.owes in
    tree_Code owes c.in_ok-copy_all.field-0 ∙ ap (K.TKCode owes) c.in_ok-copy_all.ensures

abbrev known : List E.Info → List E.Note → W.Known
known is cs = record { infos = is; notes = cs }

opened_is : (old new : List Info) (i : Info) (j : E.Info) (notes : List E.Note → List E.Note) (k0 k1 : W.Known) →
    new ≡ old ++ i ∷ [] → info i ≡ told j → k0 ≡ k1 →
    known (infos_with new k0.infos) (notes k0.notes) ≡ known (infos_with old (j ∷ k1.infos)) (notes k1.notes)
opened_is old new i j notes k0 k1 e1 e2 e3 =
    ap (λ (is : List Info). known (infos_with is k0.infos) (notes k0.notes)) e1
    ∙ ap (λ (is : List E.Info). known is (notes k0.notes)) (infos_push old i (all_told k0.infos))
    ∙ ap (λ x. known (infos_onto old (x ∷ all_told k0.infos)) (notes k0.notes)) e2
    ∙ ap (λ k. known (infos_with old (j ∷ k.infos)) (notes k.notes)) e3

pub returns : goal.returns
returns c = λ rest.
    let w = c.args.self.now in
    let xs = bounds w.bounds.items in
    let f = side w.side in
    let level = c.args.node.now.level in
    let td = c.args.node.now.depth in
    let owes = c.args.node.now.owes in
    let args = ktys c.args.node.now.args.now in
    let cl = clue c.args.c in
    let g = W.side_of td owes cl xs in
    let cs = clues_of w.clues.items in
    let ge : side c.in_ok-g.g ≡ g =
    c.in_ok-g.ensures
    ∙ ap₂ (λ (ks : List ℕ) (ys : List Bound). side_from td owes c.args.c.types.list.items ks (bounds ys))
    c.deref-2.ensures.value c.deref.ensures.value in
    let ie : info c.in_ok-known.known ≡ told (W.info_from td owes args cl xs f g) =
    c.in_ok-known.ensures
    ∙ ap (λ (ys : List Bound). told (info_parts td owes args c.args.c.kept.list.items c.args.c.own (bounds ys) f
    (side c.in_ok-g.g))) c.deref-3.ensures.value
    ∙ ap (λ s. told (info_parts td owes args c.args.c.kept.list.items c.args.c.own xs f s)) ge in
    let own = tree_Code owes c.in_ok-copy_all.field-0 ∙ ap (K.TKCode owes) c.in_ok-copy_all.ensures in
    let n1 : c.in_ok-first.first ≡ suc level = omega (arith, c.in_ok-first.ensures) in
    let n2 : c.in_ok-inside.inside ≡ lift owes td = omega (arith, c.in_ok-inside.ensures, lift_add owes td) in
    let be : bounds c.bind_all.new.xs.items ≡ W.bind_all (W.bind xs level (K.TKCode owes args) td)
    (suc level) args (lift owes td) =
    c.in_ok-bind_all.ensures
    ∙ ap (λ (ys : List W.Bound). W.bind_all ys c.in_ok-first.first args c.in_ok-inside.inside)
    (c.in_ok-bind.ensures ∙ ap (λ t. W.bind xs level t td) own)
    ∙ ap₂ (λ n m. W.bind_all (W.bind xs level (K.TKCode owes args) td) n args m) n1 n2 in
    let se : side c.replace-around.new.dest ≡ g = ap side c.replace-around.ensures.after ∙ ge in
    let oe : sides c.push_front.new.self.items ≡ f ∷ sides w.outer.items =
    ap (λ (ss : List Side). sides ss) c.in_ok-push_front.ensures.items
    ∙ ap (λ s. side s ∷ sides w.outer.items) c.replace-around.ensures.value in
    opened_is w.infos.items c.push_back.new.self.items c.in_ok-known.known (W.info_from td owes args cl xs f g)
    (notes_onto w.notes.items)
    (W.know rest (bounds c.bind_all.new.xs.items) (side c.replace-around.new.dest) (sides c.push_front.new.self.items)
    cs)
    (W.know rest (W.bind_all (W.bind xs level (K.TKCode owes args) td) (suc level) args (lift owes td)) g
    (f ∷ sides w.outer.items) cs)
    c.in_ok-push_back.ensures.items ie
    (ap (λ (ys : List W.Bound). W.know rest ys (side c.replace-around.new.dest) (sides c.push_front.new.self.items) cs)
    be
    ∙ ap (λ s. W.know rest
    (W.bind_all (W.bind xs level (K.TKCode owes args) td) (suc level) args (lift owes td)) s
    (sides c.push_front.new.self.items) cs) se
    ∙ ap (λ (ss : List W.Side).
    W.know rest (W.bind_all (W.bind xs level (K.TKCode owes args) td) (suc level) args
    (lift owes td)) g ss cs) oe)
