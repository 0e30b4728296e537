use Rattle.t_terms.specs.Read.{base}
use Rattle.t_intern.proofs.Growing.{grown_next}
use Rattle.t_known.specs.Known.{known}
use Rattle.t_check.proofs.Places.{place_grown}
use Rattle.t_check.proofs.checker.Checker.type_of_plain.Goals as goal

pub apply-requires-clause-place : goal.apply-requires-clause-place
apply-requires-clause-place c =
    place_grown c.args.types.now c.type_of_base.new.types c.args.self.now c.in_ok-found.ensures.grown c.requires.place

pub returns-clause-grown : goal.returns-clause-grown
returns-clause-grown c = grown_next _ _ _ c.in_ok-found.ensures.grown c.apply.ensures.grown

pub returns-clause-typed : goal.returns-clause-typed
returns-clause-typed c =
    c.apply.ensures.applied (known c.args.types.now c.args.self.now.registers)
    (base c.args.base) c.in_ok-found.ensures.typed.1
