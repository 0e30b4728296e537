use Rattle.std.proofs.Common.{List, Bor, subst, sym}
use Rattle.t_types.specs.Tree.{Ty}
use Rattle.t_terms.specs.ReadProgram.{program}
use Rattle.t_terms.specs.declared.program.TProgram.{TProgram}
use Rattle.t_rules.specs.Rules.{Accepted}
use Rattle.t_intern.specs.Grown.{Grown}
use Rattle.t_intern.proofs.Growing.{grown_same}
use Rattle.t_check.proofs.Walking.{still_walks}
use Rattle.t_check.proofs.walk.Walk.go.Goals as goal

pub pass-requires-clause-accepted : goal.pass-requires-clause-accepted
pass-requires-clause-accepted c =
    subst (λ (p : Bor TProgram). ∥ Accepted (program p.now) ∥₁) (sym c.start.ensures.program) c.requires.walk.accepted

pub returns-in_err-stand-clause-walk : goal.returns-in_err-stand-clause-walk
returns-in_err-stand-clause-walk c =
    still_walks c.args.self.now _ c.requires.walk c.start.ensures.program c.start.ensures.labels
    (grown_same _ _ c.start.ensures.types) c.start.ensures.stand

pub returns-in_err-stand-2-clause-walk : goal.returns-in_err-stand-2-clause-walk
returns-in_err-stand-2-clause-walk c =
    let grown =
    subst (λ (ts : List Ty). Grown ts c.pass.new.types) c.start.ensures.types c.in_err-stand-2.ensures.grown in
    still_walks c.args.self.now _ c.requires.walk c.start.ensures.program c.start.ensures.labels grown
    c.start.ensures.stand

pub returns-clause-walk : goal.returns-clause-walk
returns-clause-walk c =
    let grown =
    subst (λ (ts : List Ty). Grown ts c.pass.new.types) c.start.ensures.types c.in_ok-stand-2.ensures.grown in
    still_walks c.args.self.now _ c.requires.walk c.start.ensures.program c.start.ensures.labels grown
    c.start.ensures.stand
