use Rattle.std.proofs.Common.{◌≡◌, ◌∙◌, ◌-◌, arith, true, length, rules}
use Rattle.std.specs.Vec.{with_item}
use Rattle.a_terms.specs.ReadLaws.{a_tuple}
use Rattle.a_terms.proofs.Fields.{filled_in, filled_out}
use Rattle.a_terms.proofs.parts.fill_at.Goals as goal

pub returns-then-i-len : goal.returns-then-i-len
returns-then-i-len c =
    let long : c.len.result ≡ length c.args.fields.items = search rules in
    a_tuple c.args.fields ∙ filled_out c.args.fields.items c.args.i (c.args.i - 1) (omega (arith, c.if-i-eq0.false))
    (omega (arith, c.if-i-len.true, long))

pub returns : goal.returns
returns c =
    let long : c.len.result ≡ length c.args.fields.items = search rules in
    a_tuple (with_item c.args.fields (c.args.i - 1) (c.index_mut.result.now.0, true))
    ∙ filled_in c.args.fields.items c.args.i (c.args.i - 1) c.index_mut.result.now (omega (arith, c.if-i-eq0.false))
    (omega (arith, c.if-i-len.false, long)) c.index_mut.ensures.value
