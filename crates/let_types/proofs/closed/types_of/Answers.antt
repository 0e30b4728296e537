use Rattle.std.proofs.Common.{◌∙◌, ap, map}
use Rattle.std.proofs.lemmas.List.{take_all}
use Rattle.let_types.specs.KnownRead.{entry}
use Rattle.let_types.proofs.Knowing.{all_types, type_of}
use Rattle.let_types.proofs.closed.types_of.Goals as goal

pub returns : goal.returns
returns c =
    let es = map entry c.args.names.now in
    all_types c.args.types es c.loop-value.made.items c.args.values.now
    (c.loop-value.invariant
    ∙ ap (map (type_of c.args.types es)) (take_all c.loop-value.value-index c.args.values.now c.loop-value-test.false))
