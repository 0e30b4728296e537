use Rattle.std.proofs.Common.{◌≡◌, refl, sym, true, false, ◌∙◌}
use Rattle.t_text.specs.Names.{spelled}
use Rattle.t_text.specs.NameFaults.{data_faults}
use Rattle.t_shapes.specs.Raw.{raw_data}
use Rattle.t_reader.specs.Resolve.{stands_before}
use Rattle.t_terms.specs.Tree.{Data}
use Rattle.t_reader.proofs.reader.numbered_data.Goals as goal

pub returns-then-stood_before : goal.returns-then-stood_before
returns-then-stood_before c =
    let before : stands_before (spelled c.args.text.now c.args.tuple.now.name) c.args.labels.now (Data c.args.number)
    ≡ true = rw c.spelling.ensures at (sym c.stood_before.ensures ∙ c.if-stood_before.true) in
    rw c.refused.ensures (
      data_faults c.args.text.now c.args.labels.now (raw_data c.args.tuple.now).fields,
      rw before refl,
    )

pub returns : goal.returns
returns c =
    let new : stands_before (spelled c.args.text.now c.args.tuple.now.name) c.args.labels.now (Data c.args.number)
    ≡ false = rw c.spelling.ensures at (sym c.stood_before.ensures ∙ c.if-stood_before.false) in
    rw new c.data_in.ensures
