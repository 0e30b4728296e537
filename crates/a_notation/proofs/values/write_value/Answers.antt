use Rattle.a_notation.proofs.ValueTexts.{value_done}
use Rattle.a_notation.proofs.values.write_value.Goals as goal

pub returns : goal.returns
returns c =
    value_done c.args.types c.args.names c.args.value.now _ _ _ _ _ _ c.deref.ensures.value c.deref-2.ensures.value
    c.in_ok-write_before.ensures (c.in_ok-write_base.ensures c.args.types) c.in_ok-write_after.ensures
