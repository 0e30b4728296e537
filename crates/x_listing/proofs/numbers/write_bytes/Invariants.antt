use Rattle.std.proofs.Common.{◌≡◌, ◌++◌, drop}
use Rattle.x_listing.specs.Text.{bytes_text}
use Rattle.x_listing.proofs.numbers.write_bytes.Given as goal

abbrev pub invariant-loop-byte : goal.invariant-loop-byte
invariant-loop-byte l =
    l.page.items ++ bytes_text (drop l.byte-index l.bytes) ≡ l.initial.page.items ++ bytes_text l.bytes
