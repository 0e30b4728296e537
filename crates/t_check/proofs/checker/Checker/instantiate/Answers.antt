use Rattle.std.proofs.Common.{◌≡◌, ◌≤◌, ◌<◌, ◌-◌, All, List, ℕ, length, arith, ap, sym, subst, ◌∙◌}
use Rattle.std.proofs.lemmas.List.{length-map}
use Rattle.std.proofs.lemmas.Result.{IfOk-weaker}
use Rattle.idx_core.specs.Over.{IsWord}
use Rattle.t_types.specs.Read.{tree, types}
use Rattle.t_types.specs.Tree.{Ty, TFile, each_file, over_file}
use Rattle.t_intern.specs.Grown.{AreRegs}
use Rattle.t_intern.specs.Nodes.{regs_at}
use Rattle.t_intern.specs.Spread.{types_at, spread, SpreadFitsAt}
use Rattle.t_intern.proofs.Growing.{grown_length, grown_regs}
use Rattle.t_intern.proofs.Lists.{regs_below_more}
use Rattle.t_rules.proofs.Depth.{inst_owed}
use Rattle.t_known.proofs.Depth.{spread_fits}
use Rattle.t_check.proofs.Turns.{in_one}
use Rattle.t_check.proofs.checker.Checker.instantiate.Goals as goal

pub put_file-requires-clause-parts : goal.put_file-requires-clause-parts
put_file-requires-clause-parts c =
    regs_below_more (length c.args.types.now) (length c.number_all.new.self)
    (grown_length c.args.types.now c.number_all.new.self c.in_ok-args.ensures.grown) c.args.regs.now
    c.requires.regs

pub put_file-requires-clause-args : goal.put_file-requires-clause-args
put_file-requires-clause-args c =
    subst (λ (ns : List ℕ). All (λ a. a < length c.number_all.new.self) ns) (sym c.deref.ensures.value)
    c.in_ok-args.ensures.numbers.1

pub put_file-requires-clause-fits : goal.put_file-requires-clause-fits
put_file-requires-clause-fits c =
    let ts = c.args.types.now in
    let us = c.number_all.new.self in
    let args = c.args.args.now in
    let owes = c.args.owes in
    let regs = c.args.regs.now in
    let n = c.args.self.now.registers.names in
    let len : length (types args) ≡ length args = length-map args tree in
    let enough : length (types args) ≤ owes = omega (arith, len, c.requires.enough) in
    let same = ap (λ (ns : List ℕ). types_at us ns) c.deref.ensures.value ∙ c.in_ok-args.ensures.numbers.0 in
    let fits = spread_fits n owes (types args) (regs_at ts regs) enough c.requires.owes c.requires.few c.requires.args
    c.requires.file in
    subst (λ (xs : List Ty). each_file (SpreadFitsAt 0 xs) IsWord (owes - length args) (regs_at us regs)) (sym same)
    (subst (λ (m : ℕ). each_file (SpreadFitsAt 0 (types args)) IsWord (owes - m) (regs_at us regs)) len
    (subst (λ (f : TFile). each_file (SpreadFitsAt 0 (types args)) IsWord (owes - length (types args)) f)
    (sym (grown_regs ts us c.in_ok-args.ensures.grown regs c.requires.regs)) fits))

pub returns-clause-made : goal.returns-clause-made
returns-clause-made c =
    let ts = c.args.types.now in
    let us = c.number_all.new.self in
    let args = c.args.args.now in
    let owes = c.args.owes in
    let regs = c.args.regs.now in
    let n = c.args.self.now.registers.names in
    let len : length (types args) ≡ length args = length-map args tree in
    let enough : length (types args) ≤ owes = omega (arith, len, c.requires.enough) in
    let same = ap (λ (ns : List ℕ). types_at us ns) c.deref.ensures.value ∙ c.in_ok-args.ensures.numbers.0 in
    let eq = ap (λ (xs : List Ty). over_file (spread 0 xs) (owes - length args) (regs_at us regs)) same
    ∙ ap (λ (m : ℕ). over_file (spread 0 (types args)) (owes - m) (regs_at us regs)) (sym len)
    ∙ ap (over_file (spread 0 (types args)) (owes - length (types args)))
    (grown_regs ts us c.in_ok-args.ensures.grown regs c.requires.regs)
    ∙ sym (in_one (types args) owes (regs_at ts regs) enough) in
    let owed = inst_owed n owes (types args) (regs_at ts regs) enough c.requires.owes c.requires.few c.requires.args
    c.requires.file in
    IfOk-weaker c.put_file.result _ _
    (λ made k. (subst (λ (f : TFile). AreRegs c.put_file.new.self f made.items) eq k, owed))
    c.put_file.ensures.numbers
