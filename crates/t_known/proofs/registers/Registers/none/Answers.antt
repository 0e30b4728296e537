use Rattle.std.proofs.Common.{List, ap, ℕ}
use Rattle.std.specs.BTreeMap.{is_at}
use Rattle.std.specs.Map.{lookup}
use Rattle.std.specs.Ordering.{nat_cmp}
use Rattle.t_known.specs.declared.registers.Entry.{Entry}
use Rattle.t_known.specs.declared.registers.Moment.{Moment}
use Rattle.t_known.proofs.Noting.{empty_sound}
use Rattle.t_known.proofs.registers.Registers.none.Goals as goal

pub returns-clause-sound : goal.returns-clause-sound
returns-clause-sound c = λ ts.
    empty_sound ts _ c.requires (
      (λ r. ap (λ (es : List (ℕ × Entry)). lookup (is_at (nat_cmp r)) es) c.new-entries.ensures.empty),
      λ f. ap (λ (ms : List (ℕ × Moment)). lookup (is_at (nat_cmp f)) ms) c.new-fitted.ensures.empty,
    )

pub returns-clause-empty : goal.returns-clause-empty
returns-clause-empty c = (
  (λ r. ap (λ (es : List (ℕ × Entry)). lookup (is_at (nat_cmp r)) es) c.new-entries.ensures.empty),
  λ f. ap (λ (ms : List (ℕ × Moment)). lookup (is_at (nat_cmp f)) ms) c.new-fitted.ensures.empty,
)
