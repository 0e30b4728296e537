use Rattle.std.proofs.Common.{true, sym, ap, ◌∙◌}
use Rattle.std.proofs.lemmas.Bool.{lt-ltb, le-ltb}
use Rattle.t_types.specs.Read.{tree}
use Rattle.t_spill_rules.specs.Spill.{without_if}
use Rattle.t_spill_code.specs.Onto.{front, fields_onto, field_if}
use Rattle.t_spill_code.proofs.Made.{front_snoc, fields_snoc}
use Rattle.t_spill_code.proofs.types.divide.Goals as goal

pub returns-in_ok-push-clause-frame : goal.returns-in_ok-push-clause-frame
returns-in_ok-push-clause-frame c = λ rest.
    ap (λ xs. fields_onto xs rest) c.in_ok-push.ensures.items
    ∙ fields_snoc c.args.frame.now.items (c.args.t, true) rest
    ∙ ap (λ b. fields_onto c.args.frame.now.items (field_if b (tree c.args.t) rest))
    (sym (lt-ltb c.args.split.low c.args.r c.if-split-r.true))

pub returns-in_ok-push-2-clause-lows : goal.returns-in_ok-push-2-clause-lows
returns-in_ok-push-2-clause-lows c = λ last.
    ap (λ xs. front xs last) c.in_ok-push-2.ensures.items ∙ front_snoc c.args.lows.now.items (c.args.r, c.args.t) last
    ∙ ap (λ b. front c.args.lows.now.items (without_if b c.args.r (tree c.args.t) last))
    (sym (le-ltb c.args.split.low c.args.r c.if-split-r.false))
