use Rattle.std.proofs.Common.{◌≡◌, refl, ap}
use Rattle.t_reader.proofs.Valuing.{label_stop, label_whole}
use Rattle.std.proofs.Common.{rules, w64, to_z, of_z}
use Rattle.t_terms.specs.Tree.{Int}
use Rattle.t_reader.specs.Labelled.{target_base}
use Rattle.t_reader.proofs.resolve.base_in.Goals as goal

pub returns-in-Reg : goal.returns-in-Reg
returns-in-Reg c =
    rw c.in-Reg.is (refl, refl)

pub returns-in-Num : goal.returns-in-Num
returns-in-Num c =
    let same : to_z w64 (of_z w64 c.in-Num.value) ≡ c.in-Num.value = search rules in
    rw c.in-Num.is (refl, ap Int same)

pub returns-in-None : goal.returns-in-None
returns-in-None c =
    rw c.refused.ensures
    (label_stop c.args.text.now c.args.labels.now c.args.base.now c.in-Label.span c.in-Label.is
    (rw c.spelling.ensures at c.in-None.ensures))

pub returns-in-Some : goal.returns-in-Some
returns-in-Some c =
    label_whole c.args.text.now c.args.labels.now c.args.base.now c.in-Label.span (target_base c.in-Some.target)
    c.named.result c.in-Label.is (rw c.spelling.ensures at c.in-Some.ensures) c.named.ensures
