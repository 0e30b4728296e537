-- A number of a file is read as it was written.
use Rattle.std.proofs.Common.{◌≡◌, ℕ, ◌+◌, ◌*◌, ◌<◌, ◌^◌, arith}
use Rattle.std.specs.Int.{w64, to_le_bytes}
use Rattle.std.proofs.lemmas.Nat.{from_le_bytes-to_le_bytes_8}
use Rattle.x_terms.specs.Elf.{le}

eight : (a b c d e f g h n : ℕ) →
    a + b * 256 + c * 65536 + d * 16777216 + e * 4294967296 + f * 1099511627776 + g * 281474976710656
    + h * 72057594037927936 ≡ n →
    a + 256 * (b + 256 * (c + 256 * (d + 256 * (e + 256 * (f + 256 * (g + 256 * (h + 256 * 0))))))) ≡ n
eight a b c d e f g h n e0 = omega (arith, e0)

pub le_back : (n : ℕ) → n < 2 ^ 64 → le (to_le_bytes w64 n) ≡ n
le_back n f = eight _ _ _ _ _ _ _ _ n (from_le_bytes-to_le_bytes_8 n f)
