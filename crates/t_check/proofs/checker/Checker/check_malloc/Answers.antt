use Rattle.std.proofs.Common.{◌<◌, ◌∙◌, ap, sym, subst, false, List, ℕ, All, length}
use Rattle.t_types.specs.Tree.{Ty, TupleTy}
use Rattle.t_types.specs.Read.{types}
use Rattle.t_terms.specs.Registers.{with_reg}
use Rattle.t_intern.specs.Nodes.{at}
use Rattle.t_intern.specs.Spread.{types_at}
use Rattle.t_intern.proofs.Growing.{grown_next}
use Rattle.t_types.specs.Bounds.{Bounded}
use Rattle.t_known.specs.Known.{known}
use Rattle.t_types.specs.Fields.{all_flagged}
use Rattle.t_check.proofs.Blocks.{types_below}
use Rattle.t_rules.proofs.Depth.{empty_shallow}
use Rattle.t_known.proofs.Noting.{noted_since, sound_grown}
use Rattle.t_check.proofs.checker.Checker.check_malloc.Goals as goal

pub tuple_of-requires : goal.tuple_of-requires
tuple_of-requires c =
    subst (λ (ns : List ℕ). All (λ n. n < length c.number_all.new.self) ns) (sym c.deref.ensures.value)
    c.in_ok-fields.ensures.numbers.1

pub returns-clause-step : goal.returns-clause-step
returns-clause-step c = λ s.
    let ts = c.args.types.now in
    let k = c.args.self.now.registers in
    let us = c.number_all.new.self in
    let vs = c.tuple_of.new.types in
    let fields = types c.args.fields.now in
    let sound = c.requires.place.sound in
    let grown = grown_next ts us vs c.in_ok-fields.ensures.grown c.in_ok-n.ensures.grown in
    let same = ap (λ (ns : List ℕ). types_at us ns) c.deref.ensures.value ∙ c.in_ok-fields.ensures.numbers.0 in
    let number = c.in_ok-n.ensures.number in
    let is = number.1 ∙ ap (λ (xs : List Ty). TupleTy (all_flagged false xs)) same in
    let noted = c.in_ok-note.ensures vs (sound_grown ts vs grown k sound) number.0
    (subst (Bounded k.names) (sym is) (empty_shallow k.names fields c.requires.fields)) in
    let since = noted_since ts vs k c.note.new.self c.args.rd (at vs c.in_ok-n.n) grown sound noted in (
      (
        since ∙ ap (λ (t : Ty). with_reg (known ts k) c.args.rd t) is,
        types_below k.names c.args.fields.now c.requires.fields,
      ),
      noted.1,
      noted.2,
    )

pub returns-clause-grown : goal.returns-clause-grown
returns-clause-grown c = grown_next _ _ _ c.in_ok-fields.ensures.grown c.in_ok-n.ensures.grown
