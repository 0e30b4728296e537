use Rattle.std.proofs.Common.{◌∙◌, ◌<◌, length, ap, sym, subst, List, arith}
use Rattle.t_types.specs.Read.{types}
use Rattle.t_types.specs.Tree.{Ty}
use Rattle.t_intern.specs.Applied.{with_types}
use Rattle.t_intern.specs.Grown.{IsNumber}
use Rattle.t_intern.specs.Nodes.{at}
use Rattle.t_intern.proofs.Growing.{grown_at, grown_length}
use Rattle.t_types.specs.Bounds.{Bounded}
use Rattle.t_check.proofs.Applying.{applied_row}
use Rattle.t_check.proofs.checker.Checker.applied.Goals as goal

pub apply_anew-requires-clause-found : goal.apply_anew-requires-clause-found
apply_anew-requires-clause-found c =
    omega (arith, c.requires.found, grown_length c.args.types.now c.number_row.new.self c.in_ok-row.ensures.grown)

pub apply_anew-requires-clause-bounded : goal.apply_anew-requires-clause-bounded
apply_anew-requires-clause-bounded c =
    subst (Bounded c.args.self.now.registers.names)
    (sym (grown_at c.args.types.now c.number_row.new.self c.in_ok-row.ensures.grown c.args.found c.requires.found))
    c.requires.bounded

pub apply_anew-requires-clause-enough : goal.apply_anew-requires-clause-enough
apply_anew-requires-clause-enough c = λ owes f e.
    c.requires.enough owes f
    (sym (grown_at c.args.types.now c.number_row.new.self c.in_ok-row.ensures.grown c.args.found c.requires.found)
    ∙ e)

pub note_applied-requires-clause-there : goal.note_applied-requires-clause-there
note_applied-requires-clause-there c =
    let ts = c.args.types.now in
    let us = c.number_row.new.self in
    let vs = c.apply_anew.new.types in
    omega (
      arith,
      c.requires.found,
      grown_length ts us c.in_ok-row.ensures.grown,
      grown_length us vs c.in_ok-made.ensures.grown,
    )

pub note_applied-requires-clause-args : goal.note_applied-requires-clause-args
note_applied-requires-clause-args c =
    omega (
      arith,
      c.in_ok-row.ensures.number.0,
      grown_length c.number_row.new.self c.apply_anew.new.types c.in_ok-made.ensures.grown,
    )

pub note_applied-requires-clause-number : goal.note_applied-requires-clause-number
note_applied-requires-clause-number c =
    let ts = c.args.types.now in
    let us = c.number_row.new.self in
    let vs = c.apply_anew.new.types in
    let args = types c.args.args.now in
    let n = c.args.found in
    let row = c.in_ok-row.ensures.number in
    let grown = c.in_ok-made.ensures.grown in
    let there : n < length us = omega (arith, c.requires.found, grown_length ts us c.in_ok-row.ensures.grown) in
    let same = applied_row args (at vs c.in_ok-row.row) (at vs n) (grown_at us vs grown c.in_ok-row.row row.0 ∙ row.1)
    ∙ ap (with_types args) (grown_at us vs grown n there) in
    subst (λ (t : Ty). IsNumber vs t c.in_ok-made.made) (sym same) c.in_ok-made.ensures.number

pub returns-in-Some-clause-number : goal.returns-in-Some-clause-number
returns-in-Some-clause-number c =
    let ts = c.args.types.now in
    let us = c.number_row.new.self in
    let args = types c.args.args.now in
    let n = c.args.found in
    let same = applied_row args (at us c.in_ok-row.row) (at us n) c.in_ok-row.ensures.number.1
    ∙ ap (with_types args) (grown_at ts us c.in_ok-row.ensures.grown n c.requires.found) in
    subst (λ (t : Ty). IsNumber us t c.in-Some.made) same c.in-Some.ensures

pub returns-clause-number : goal.returns-clause-number
returns-clause-number c =
    let ts = c.args.types.now in
    let us = c.number_row.new.self in
    let vs = c.apply_anew.new.types in
    let args = types c.args.args.now in
    let same = ap (with_types args) (grown_at ts us c.in_ok-row.ensures.grown c.args.found c.requires.found) in
    subst (λ (ws : List Ty). IsNumber ws (with_types args (at ts c.args.found)) c.in_ok-made.made)
    (sym c.note_applied.ensures)
    (subst (λ (t : Ty). IsNumber vs t c.in_ok-made.made) same c.in_ok-made.ensures.number)
