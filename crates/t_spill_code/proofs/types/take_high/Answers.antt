use Rattle.std.proofs.Common.{sym, ap, ◌∙◌}
use Rattle.std.proofs.lemmas.Bool.{lt-ltb}
use Rattle.t_types.specs.Read.{tree}
use Rattle.t_spill_rules.specs.Spill.{with_if}
use Rattle.t_spill_code.specs.Onto.{front}
use Rattle.t_spill_code.proofs.Made.{front_snoc}
use Rattle.t_spill_code.proofs.types.take_high.Goals as goal

pub returns-in_ok-push : goal.returns-in_ok-push
returns-in_ok-push c = λ rest.
    ap (λ xs. front xs rest) c.in_ok-push.ensures.items ∙ front_snoc c.args.made.now.items c.args.entry rest
    ∙ ap (λ b. front c.args.made.now.items (with_if b c.args.entry.0 (tree c.args.entry.1) rest))
    (sym (lt-ltb c.args.split.low c.args.entry.0 c.if-split-entry.true))
