use Rattle.std.proofs.Common.{◌≡◌, [], ◌∷◌, ◌++◌, ◌+◌, reverse, length, ap, ◌∙◌, sym, subst, arith}
use Rattle.std.proofs.lemmas.List.{reverse-append, length-reverse, length-append}
use Rattle.std.proofs.lemmas.Grind.{common_steps}
use Rattle.idx_core.specs.Levels.{level_of, HasLevels}
use Rattle.idx_core.specs.Bounds.{names_at, kept_level}
use Rattle.idx_core.specs.declared.names.Bound.{Bound}
use Rattle.idx_core.proofs.Leveled.{levels_pushed}
use Rattle.idx_core.proofs.Kept.{names_pushed, bound_pushed, count_names}
use Rattle.idx_core.proofs.names.Names.push.Goals as goal

pub invariant_of-self-in-Ok : goal.invariant_of-self-in-Ok
invariant_of-self-in-Ok c =
    let b : Bound = record { start = c.len-start.result; hidden = c.level-hidden.result } in
    let bytes = c.self.inside.bytes.items in
    let old = c.self.inside.bound.items in
    let name = c.args.name.now in
    let longer : c.extend_from_slice.new.self.items ≡ bytes ++ name = c.in_ok-extend_from_slice.ensures.items in
    let more : c.push.new.self.items ≡ old ++ b ∷ [] = grind (arith, common_steps) in
    let e : reverse c.push.new.self.items ≡ b ∷ reverse old = ap reverse more ∙ reverse-append old (b ∷ []) in
    let start : b.start ≡ length bytes = omega (arith, c.self.inside.bytes.ok.0) in
    let names = names_at bytes (reverse old) in
    let hides : b.hidden ≡ level_of name names = c.level-hidden.ensures ∙ c.self.invariant.1 name in
    let count : c.len-count.result ≡ 1 + length names =
    omega (
      arith,
      count_names bytes (reverse old),
      length-reverse old,
      ap length more,
      length-append old (b ∷ []),
      c.push.new.self.ok.0,
    ) in
    let kept = kept_level c.set_level.new.levels in
    rw (longer, e) (
      bound_pushed bytes name (reverse old) b start hides c.self.invariant.0,
      subst (HasLevels kept) (sym (names_pushed bytes name (reverse old) b start))
          (levels_pushed (kept_level c.self.inside.levels) kept names name c.len-count.result c.self.invariant.1 count
          c.in-Ok.ensures.set),
    )
