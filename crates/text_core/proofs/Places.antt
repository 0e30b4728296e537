-- Equal places in a text.
use Rattle.std.proofs.Common.{◌≡◌}
use Rattle.idx_core.specs.declared.span.Span.{Span}

pub same_span : (a b : Span) → a.start ≡ b.start → a.end ≡ b.end → a ≡ b
same_span a b p q =
    let e : ◌≡◌ {A = Span} (record { start = a.start; end = a.end }) (record { start = b.start; end = b.end }) = cc in
    e
