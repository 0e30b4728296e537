use Rattle.std.proofs.Common.{◌≡◌, ◌-◌, ◌≤◌, length, arith, refl, subst}
use Rattle.std.proofs.lemmas.List.{length-map}
use Rattle.t_types.specs.Read.{tree, types}
use Rattle.t_types.specs.Tree.{Ty}
use Rattle.t_types.specs.WellFormed.{max_names}
use Rattle.t_terms.specs.ReadProgram.{program}
use Rattle.t_terms.specs.Registers.{inst_file}
use Rattle.t_intern.specs.Grown.{IsNumber}
use Rattle.t_intern.specs.Nodes.{at}
use Rattle.t_types.specs.Bounds.{Bounded}
use Rattle.t_check.proofs.Applying.{with_file}
use Rattle.t_check.proofs.Blocks.{types_below}
use Rattle.t_rules.proofs.Depth.{inst_owed}
use Rattle.t_check.proofs.Typing.{plain_ok}
use Rattle.t_check.proofs.checker.Checker.apply.Goals as goal

pub returns-clause-applied : goal.returns-clause-applied
returns-clause-applied c = λ g b h.
    let P = program c.args.self.now.program.now in
    let n = c.args.self.now.registers.names in
    let ts = c.args.types.now in
    let us = c.applied.new.types in
    let args = types c.args.args.now in
    let t = at ts c.args.found in
    let owes = c.in-Some.owes in
    let code = c.in-Some.ensures in
    let file = code.0 in
    let len : length args ≡ length c.args.args.now = length-map c.args.args.now tree in
    let le : length args ≤ owes = omega (arith, len, c.if-count-owes.false) in
    let small = subst (Bounded n) code.1 c.requires.bounded in
    let few : n ≤ max_names = search in
    let owed = inst_owed n owes args file le small.0 few c.requires.args small.1 in
    let number =
    subst (λ (u : Ty). IsNumber us u c.in_ok-n.n) (with_file args t owes file code.1 le) c.in_ok-n.ensures.number in
    plain_ok P n g c.args.span b us args t owes (owes - length args) c.in_ok-n.n file (inst_file args owes file)
    (omega (arith, len, c.requires.some)) h c.requires.bounded code.1 le refl refl
    (types_below n c.args.args.now c.requires.args) owed number
