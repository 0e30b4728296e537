use Rattle.a_terms.specs.Tree as a
use Rattle.std.proofs.Common.{◌≡◌, ℕ, suc, ◌+◌, List, subst, arith}
use Rattle.std.specs.Prelude.{Bool, ◌&&◌, not}
use Rattle.a_terms.specs.NodeTrees.{a_values, a_decl}
use Rattle.a_scope.specs.Scope.{homes}
use Rattle.t_gen_rules.specs.Gen.{busy, used}
use Rattle.t_emit.specs.Code.{kept}
use Rattle.t_gen.specs.Keeps.{among, each, is_one}
use Rattle.t_gen.specs.Registers.{Holds}
use Rattle.t_gen.specs.declared.registers.Registers.{Registers}
use Rattle.a_scope.proofs.Scopes.{length_homes}
use Rattle.t_gen.proofs.Rooms.{room_of}
use Rattle.t_gen.proofs.InUse.{first_gone, then_gone, free_is, chosen}
use Rattle.t_gen.proofs.choosing.choose.Goals as goal

pub pick-free-requires : goal.pick-free-requires
pick-free-requires c = record {
  one = omega arith;
  room = room_of c.release_all.new.registers (homes c.args.vars.now) c.requires.held.0
      (among (λ n. not (is_one c.stored.result n)) (homes c.args.vars.now) c.deref.result.now)
      (c.args.ahead.now.arguments + 1)
      (omega (arith, c.args.ahead.now.few, length_homes c.args.vars.now))
      (c.in_ok-release_all.ensures (λ r. busy r (homes c.args.vars.now) c.requires.held.0) c.requires.held.1.holds);
}

pub returns : goal.returns
returns c = λ e ending k.
    let d = a_decl c.args.form.now (a_values c.args.values.now) in
    let m = homes c.args.vars.now in
    let w = c.args.ahead.now in
    let gone = λ (s : Registers) (u p : ℕ → Bool) (xs ys : List ℕ) (same : xs ≡ ys)
    (h : Holds s (λ r. busy r m u && not (among p m xs r))).
    subst (λ zs. Holds s (λ r. busy r m u && not (among p m zs r))) same h in
    let one = first_gone d e w m ending k.own c.release_all.new.registers (is_one c.stored.result) c.stored.ensures
    (gone c.release_all.new.registers (used (a.Let d e)) (λ n. not (is_one c.stored.result n)) _ _
    c.deref.ensures.value (c.in_ok-release_all.ensures (λ r. busy r m (used (a.Let d e))) k.holds)) in
    let is = c.target-rd.ensures e ending.0
    (free_is d e w m ending k.own c.pick-free.result (w.arguments + 1) (omega arith)
    (c.pick-free.ensures m (kept d e) one)) in
    let two = then_gone d e w m ending k.own c.release_all-2.new.registers
    (gone c.release_all-2.new.registers (kept d e) each _ _ c.deref-2.ensures.value
    (c.in_ok-release_all-2.ensures (λ r. busy r m (kept d e)) one)) in (
      is,
      chosen d e w m ending k.own c.take_if.new.registers c.target-rd.result is
          (c.in_ok-take_if.ensures (λ r. busy r m (λ n. used e (suc n))) two),
    )
