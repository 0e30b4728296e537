use Rattle.std.proofs.Common.{◌≡◌, ◌<◌, [], ◌∷◌, reverse, drop, take, ap, ◌∙◌, subst, unwrap_or}
use Rattle.std.proofs.lemmas.List.{reverse-append}
use Rattle.idx_core.specs.Names.{Name}
use Rattle.idx_core.specs.Levels.{SetsLevel}
use Rattle.idx_core.specs.Bounds.{names_at, kept_level}
use Rattle.idx_core.proofs.Kept.{bytes_from}
use Rattle.idx_core.proofs.Leveled.{levels_popped, bound_has_level}
use Rattle.idx_core.proofs.names.Names.pop.Goals as goal

pub invariant_of-self : goal.invariant_of-self
invariant_of-self c =
    let b = c.in-Some.bound in
    let bytes = c.self.inside.bytes.items in
    let left = reverse c.pop.new.self.items in
    let e : reverse c.self.inside.bound.items ≡ b ∷ left =
    ap reverse c.in-Some.ensures.items ∙ reverse-append c.pop.new.self.items (b ∷ []) in
    let are = rw e at c.self.invariant.0 in
    let has = rw e at c.self.invariant.1 in
    let names = names_at (take b.start bytes) left in
    let set =
    subst
    (λ (x : Name). 0 < unwrap_or (kept_level c.self.inside.levels x) 0 →
    SetsLevel (kept_level c.self.inside.levels) (kept_level c.change_level.new.levels) x b.hidden)
    (bytes_from c.deref.result.now bytes b.start c.deref.ensures.value) c.change_level.ensures in
    let name = drop b.start bytes in
    let before = kept_level c.self.inside.levels in
    rw c.truncate.ensures.items (
      are.2,
      levels_popped before (kept_level c.change_level.new.levels) names name b.hidden has are.1
          (set (bound_has_level before name names has)),
    )
