use Rattle.std.proofs.Common.{rules, ◌≡◌, ◌∙◌, ◌-◌, ap, sym, ℕ}
use Rattle.calc_core.specs.Ends.{lift}
use Rattle.k_terms.specs.Read.{ktree}
use Rattle.c_rules.specs.Close as L
use Rattle.c_rules.specs.Know as W
use Rattle.c_emit.specs.Names.{side}
use Rattle.c_pass.specs.Read.{var_of}
use Rattle.c_pass.proofs.Bounding.{at_in, at_out}
use Rattle.c_pass.proofs.translate.type_at.Goals as goal

pub returns-in_ok-t : goal.returns-in_ok-t
returns-in_ok-t c =
    let r : ℕ → ℕ = var_of c.args.place.now.outside (side c.args.place.now.side.now) in
    let x = c.index-xs-l.result in
    let n : c.saturating_sub-raise.result ≡ c.args.place.now.depth - x.depth = search rules in
    c.in_ok-t.ensures
    ∙ ap (λ m. L.ctype (λ i. r (lift m i)) (ktree x.ty)) n
    ∙ ap (W.bound_type r c.args.place.now.depth) (sym (at_in c.args.xs.now c.args.l x c.if-l-xs.true c.index-xs-l.is))

pub returns-else-l-xs : goal.returns-else-l-xs
returns-else-l-xs c =
    ap (W.bound_type (var_of c.args.place.now.outside (side c.args.place.now.side.now)) c.args.place.now.depth)
    (sym (at_out c.args.xs.now c.args.l c.if-l-xs.false))
