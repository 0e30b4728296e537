use Rattle.std.proofs.Common.{◌≡◌, ◌-◌, ◌∙◌, ◌++◌, ◌∷◌, [], ap, ap₂, arith, drop, length}
use Rattle.std.proofs.Common.{map, refl}
use Rattle.std.proofs.lemmas.List.{take_rest}
use Rattle.std.proofs.lemmas.Result.{on_ok_weaker}
use Rattle.calc_core.proofs.Trees.{tree_Tuple}
use Rattle.c_terms.specs.Read.{ctys}
use Rattle.let_types.specs.Known.{own, types_in, with_values}
use Rattle.let_types.specs.KnownRead.{entry, known, seen}
use Rattle.let_types.proofs.Knowing.{gathered}
use Rattle.let_types.proofs.closed.Known.tuple.Goals as goal

pub returns : goal.returns
returns c =
    let κ = known c.args.self.now in
    let k = c.args.types in
    let from = c.saturating_sub-from.result in
    let vs = c.args.self.now.body.values.items in
    let fields = c.in_ok-fields.fields in
    let many : from ≡ length vs - c.args.count =
    omega (arith, c.saturating_sub-from.ensures, c.len.ensures, c.args.self.now.body.values.ok.0) in
    on_ok_weaker c.put_own.result
    (λ e. e
    ∙ ap (λ t. with_values κ (map seen c.truncate.new.self.items ++ own k t ∷ [])) (tree_Tuple fields)
    ∙ gathered k c.args.count from κ vs c.truncate.new.self.items (drop from vs) (ctys fields.items) refl many
    c.truncate.ensures.items refl
    (c.in_ok-fields.ensures
    ∙ ap₂ (λ es xs. types_in k (map entry es) (map seen xs)) c.deref.ensures.value
    (take_rest c.deref-2.result.now from ∙ ap (drop from) c.deref-2.ensures.value)))
    c.put_own.ensures
