use Rattle.std.proofs.Common.{◌≡◌, ◌+◌, [], ◌∷◌, length, reverse, ap, sym, ◌∙◌, arith}
use Rattle.std.proofs.lemmas.List.{reverse-append, length-reverse, length-map}
use Rattle.idx_core.specs.Levels.{level_of}
use Rattle.idx_core.proofs.Leveled.{levels_pushed}
use Rattle.t_reader.specs.Levels.{Bound, names_of, kept_level}
use Rattle.t_reader.proofs.Leveled.{level_set}
use Rattle.t_reader.proofs.scope.Scope.push.Goals as goal

pub invariant_of-self-in-Ok : goal.invariant_of-self-in-Ok
invariant_of-self-in-Ok c =
    let old = reverse c.self.inside.bound.items in
    let b : Bound = (c.args.name, c.level-hidden.result) in
    let e : reverse c.push.new.self.items ≡ b ∷ old =
    ap reverse c.in_ok-push.ensures.items ∙ reverse-append c.self.inside.bound.items (b ∷ []) in
    let n : length (names_of old) ≡ length c.self.inside.bound.items = simp (length-map, length-reverse) in
    let a : c.len-level.result ≡ 1 + length (names_of old) =
    omega (arith, n, c.len-level.ensures, c.in_ok-push.ensures.len, c.self.inside.bound.ok.0) in
    let h : c.level-hidden.result ≡ level_of c.args.name.now (names_of old) =
    c.level-hidden.ensures ∙ ap (level_of c.args.name.now) (sym c.self.view_is) in
    let set = level_set c.self.inside.levels c.insert.new.self c.args.name c.len-level.result c.in-Ok.ensures.updates in
    rw e (
      levels_pushed (kept_level c.self.inside.levels) (kept_level c.insert.new.self) (names_of old) c.args.name.now
          c.len-level.result c.self.invariant.0 a set,
      (h, c.self.invariant.1),
    )
