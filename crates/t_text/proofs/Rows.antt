-- Texts that are taken for assembly, and others.
use Rattle.std.proofs.Common.{◌≡◌, refl, true, false, codes}
use Rattle.t_text.specs.Kind.{begins_with_tal}

an_assembly : begins_with_tal (codes "tal 1") ≡ true
an_assembly = refl

after_a_comment : begins_with_tal (codes "-- a loop\n\ttal\n1 L0: code[]{}. jmp L0") ≡ true
after_a_comment = refl

a_longer_word : begins_with_tal (codes "tall 1") ≡ false
a_longer_word = refl

a_source : begins_with_tal (codes "-- tal 1\n1 + 2") ≡ false
a_source = refl

nothing : begins_with_tal (codes "") ≡ false
nothing = refl
