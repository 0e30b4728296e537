use Rattle.std.proofs.Common.{◌≡◌, ◌∙◌, ◌-◌, ℕ, List, suc, sym, ap, arith}
use Rattle.k_laws.specs.Cps.{spot, type_level}
use Rattle.k_pass.specs.Machine.{levels as levels_of}
use Rattle.k_pass.proofs.TypeLists.{under_low, under_high}
use Rattle.k_pass.proofs.types.variable.Goals as goal

pub returns-then-i-bound : goal.returns-then-i-bound
returns-then-i-bound c =
    sym (under_low c.args.bound (spot c.args.types (levels_of c.args.levels.now.items)) c.args.i c.if-i-bound.true)

pub returns-in-Some : goal.returns-in-Some
returns-in-Some c =
    let r = spot c.args.types (levels_of c.args.levels.now.items) in
    let high = under_high c.args.bound r c.args.i c.if-i-bound.false in
    let level : c.level_of-level.result ≡ type_level (levels_of c.args.levels.now.items) (c.args.i - c.args.bound) =
    c.level_of-level.ensures
    ∙ ap (λ (ls : List ℕ). type_level (levels_of ls) (c.args.i - c.args.bound)) c.deref.ensures.value in
    let at : c.inside_of-inside.result ≡ r (c.args.i - c.args.bound) =
    c.inside_of-inside.ensures ∙ ap (λ l. c.args.types - suc l) level in
    omega (arith, high, at, c.in-Some.ensures)
