-- What the tokens of assembly show of their signs.
use Rattle.std.proofs.Common.{refl}
use Rattle.text_core.specs.Tokens.{HasSigns}
use Rattle.text_core.proofs.Signs.{look_marked}
use Rattle.t_text.specs.Tokens.{assembly, signs}

-- no sign begins as a word or a number
pub assembly_signs : HasSigns assembly
assembly_signs = record { of_sign = λ b x e. look_marked signs refl b x e; of_pair = λ b c x e. absurd (cc) }
