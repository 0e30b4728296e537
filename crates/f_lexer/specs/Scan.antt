-- What the code finds at a place of a source text.
use Rattle.std.specs.Prelude.{ℕ, pos, neg_ℤ, ◌==◌, ◌&&◌, nat_le, if◌then◌else◌, Bool, false, List, [], ◌∷◌}
use Rattle.text_core.specs.declared.lexeme.Digits.{Digits}
use Rattle.text_core.specs.declared.lexeme.Found.{Found}
use Rattle.text_core.specs.declared.lexeme.Found.TheVariants.{Read, Large}
use Rattle.f_lexer.specs.declared.kind.Kind.{Kind}
use Rattle.f_lexer.specs.declared.kind.Kind.TheVariants as k

-- whether a text begins with two bytes
abbrev pub at_pair : ℕ → ℕ → List ℕ → Bool
at_pair a b [] = false
at_pair a b (c ∷ []) = false
at_pair a b (c ∷ (d ∷ s)) = c == a && d == b

abbrev pub plain_found : Digits → Found Kind
plain_found d = if d.fits && nat_le d.value 9223372036854775807 then Read (k.Plain (pos d.value)) d.end else Large d.end

abbrev pub negative_found : Digits → Found Kind
negative_found d = if d.fits then Read (k.Negative (neg_ℤ (pos d.value))) d.end else Large d.end
