use Rattle.std.proofs.Common.{◌≡◌, ◌<◌, ℕ, List, length, reverse, sym, ap, ◌∙◌, arith, subst}
use Rattle.std.proofs.lemmas.List.{length-reverse}
use Rattle.idx_core.specs.Names.{Name, IsPlace}
use Rattle.idx_core.specs.Levels.{level_of}
use Rattle.idx_core.specs.Bounds.{names_at}
use Rattle.idx_core.specs.declared.names.Bound.{Bound}
use Rattle.idx_core.proofs.Kept.{count_names}
use Rattle.idx_core.proofs.Leveled.{absent_without_level, place_by_level, level_within}
use Rattle.idx_core.proofs.names.Names.find.Goals as goal

-- there are as many names as are bound
count : (bytes : List ℕ) (bs : List Bound) (ns : List Name) → names_at bytes (reverse bs) ≡ ns → length ns ≡ length bs
count bytes bs ns e = ap length (sym e) ∙ count_names bytes (reverse bs) ∙ length-reverse bs

pub returns-then-level-eq0 : goal.returns-then-level-eq0
returns-then-level-eq0 c =
    let e = sym (c.self.invariant.1 c.args.name.now) ∙ sym c.level-level.ensures ∙ c.if-level-eq0.true in
    absent_without_level c.args.name.now c.args.self.now (ap (level_of c.args.name.now) (sym c.self.view_is) ∙ e)

pub overflow_sub-result : goal.overflow_sub-result
overflow_sub-result c =
    let e =
    c.level-level.ensures ∙ c.self.invariant.1 c.args.name.now ∙ ap (level_of c.args.name.now) c.self.view_is in
    let n = count c.self.inside.bytes.items c.self.inside.bound.items c.args.self.now c.self.view_is in
    let w = level_within c.args.name.now c.args.self.now in
    omega (arith, c.self.inside.bound.ok.0)

pub returns : goal.returns
returns c =
    let e =
    c.level-level.ensures ∙ c.self.invariant.1 c.args.name.now ∙ ap (level_of c.args.name.now) c.self.view_is in
    let n = count c.self.inside.bytes.items c.self.inside.bound.items c.args.self.now c.self.view_is in
    let some : 0 < level_of c.args.name.now c.args.self.now = omega (arith, c.if-level-eq0.false) in
    subst (IsPlace c.args.name.now c.args.self.now) (omega (arith, c.self.inside.bound.ok.0))
    (place_by_level c.args.name.now c.args.self.now some)
