use Rattle.std.proofs.Common.{◌≡◌, [], ◌∷◌, reverse, ap, sym, ◌∙◌, rules, ℕ, Option, unwrap_or, arith}
use Rattle.std.proofs.lemmas.List.{reverse-append}
use Rattle.idx_core.specs.Levels.{HasLevels}
use Rattle.idx_core.proofs.Leveled.{levels_popped, bound_has_level}
use Rattle.t_reader.specs.Levels.{Bound, names_of, KeepsHidden, kept_level}
use Rattle.t_reader.proofs.Leveled.{level_set}
use Rattle.t_reader.proofs.scope.Scope.pop.Goals as goal

pub invariant_of-self : goal.invariant_of-self
invariant_of-self c =
    let b : Bound = (c.in-Some.name, c.in-Some.hidden) in
    let e : reverse c.self.inside.bound.items ≡ b ∷ reverse c.pop.new.self.items =
    ap reverse c.in-Some.ensures.items ∙ reverse-append c.pop.new.self.items (b ∷ []) in
    let i : HasLevels (kept_level c.self.inside.levels) (names_of (reverse c.self.inside.bound.items)) =
    c.self.invariant.0 in
    let h : KeepsHidden (reverse c.self.inside.bound.items) = c.self.invariant.1 in
    let j = rw e at i in
    let k = rw e at h in
    let before = c.self.inside.levels in
    let after = c.get_mut.follows.lender c.in-Some.hidden in
    let set =
    level_set before after c.in-Some.name c.in-Some.hidden
    ((c.get_mut.follows.holds c.in-Some.hidden).3 (search rules)) in
    let left = names_of (reverse c.pop.new.self.items) in (
      levels_popped (kept_level before) (kept_level after) left c.in-Some.name.now c.in-Some.hidden j k.0 set,
      k.1,
    )

pub invariant_of-self-in_default-get_mut : goal.invariant_of-self-in_default-get_mut
invariant_of-self-in_default-get_mut c =
    let b : Bound = (c.in-Some.name, c.in-Some.hidden) in
    let e : reverse c.self.inside.bound.items ≡ b ∷ reverse c.pop.new.self.items =
    ap reverse c.in-Some.ensures.items ∙ reverse-append c.pop.new.self.items (b ∷ []) in
    let i : HasLevels (kept_level c.self.inside.levels) (names_of (reverse c.self.inside.bound.items)) =
    c.self.invariant.0 in
    let j = rw e at i in
    let kept = kept_level c.self.inside.levels in
    let none = ap (λ (o : Option ℕ). unwrap_or o 0) (sym c.in_default-get_mut.ensures.value) in
    let some = bound_has_level kept c.in-Some.name.now (names_of (reverse c.pop.new.self.items)) j in
    absurd (omega (arith, none, some))
