use Rattle.std.proofs.Common.{◌∙◌, ap, ◌||◌, nat_eq, ◌+◌, Bool}
use Rattle.std.proofs.lemmas.Result.{on_ok_weaker}
use Rattle.t_intern.proofs.Growing.{grown_next}
use Rattle.t_known.proofs.Filling.{is_filled}
use Rattle.t_known.proofs.registers.Registers.fill.Goals as goal

pub unreachable-requires : goal.unreachable-requires
unreachable-requires c =
    let none = c.in-None.ensures.found c.args.types.now c.requires.sound in
    let some = c.requires.there.1 in cc

pub set_of-requires : goal.set_of-requires
set_of-requires c = (c.in-Some.ensures.found c.args.types.now c.requires.sound).1.3

pub returns-clause-filled : goal.returns-clause-filled
returns-clause-filled c =
    let ts = c.args.types.now in
    let found = c.in-Some.ensures.found ts c.requires.sound in
    on_ok_weaker c.set.result
    (λ set. is_filled ts c.with.new.types c.args.self.now c.set.new.self c.args.r c.args.field c.in-Some.entry
    c.in_ok-set-in-Some-2.set
    (grown_next _ _ _ c.in_ok-set-in-Some.ensures.grown c.in_ok-set-in-Some-2.ensures.grown) c.requires.sound found
    c.requires.there c.in_ok-set-in-Some-2.ensures.number.0
    (λ q some. c.in_ok-set-in-Some-2.ensures.number.1 q some
    ∙ ap (λ (b : Bool). nat_eq q (c.args.field + 1) || b) (c.in_ok-set-in-Some.ensures.same q)) set)
    c.set.ensures

pub returns-clause-grown : goal.returns-clause-grown
returns-clause-grown c = grown_next _ _ _ c.in_ok-set-in-Some.ensures.grown c.in_ok-set-in-Some-2.ensures.grown
