use Rattle.std.proofs.Common.{◌≡◌, ◌<◌, List, length, reverse, arith, ap, ◌∙◌, sym}
use Rattle.std.proofs.lemmas.List.{length-reverse, length-map}
use Rattle.idx_core.specs.Names.{Name}
use Rattle.idx_core.specs.Levels.{level_of}
use Rattle.idx_core.proofs.Leveled.{level_within}
use Rattle.t_reader.specs.Levels.{Bound, names_of}
use Rattle.t_reader.proofs.Leveled.{no_level, place_by_level}
use Rattle.t_reader.proofs.scope.Scope.find.Goals as goal

count : (bs : List Bound) (ns : List Name) → names_of (reverse bs) ≡ ns → length bs ≡ length ns
count bs ns e = sym (ap length (sym e) ∙ simp (length-map, length-reverse))

pub returns-then-level-eq0 : goal.returns-then-level-eq0
returns-then-level-eq0 c = no_level c.args.name.now c.args.self.now (sym c.level-level.ensures ∙ c.if-level-eq0.true)

pub overflow_sub-result : goal.overflow_sub-result
overflow_sub-result c =
    let n = count c.self.inside.bound.items c.args.self.now c.self.view_is in
    let w = level_within c.args.name.now c.args.self.now in
    omega (arith, n, w, c.self.inside.bound.ok.0)

pub returns : goal.returns
returns c =
    let n = count c.self.inside.bound.items c.args.self.now c.self.view_is in
    let w = level_within c.args.name.now c.args.self.now in
    let e = c.level-level.ensures in
    let z : 0 < level_of c.args.name.now c.args.self.now = omega (arith, e, c.if-level-eq0.false) in
    let p = place_by_level c.args.name.now c.args.self.now z in
    (p.0, omega (arith, n, w, e, p.1, c.self.inside.bound.ok.0))
