-- Texts put together.
use Rattle.std.proofs.Common.{◌≡◌, ◌++◌, ℕ, List}
use Rattle.std.proofs.lemmas.List.{append_assoc}

pub if_parts : (a c t e f u r : List ℕ) → e ≡ f →
    a ++ ((c ++ (t ++ (e ++ u))) ++ r) ≡ (a ++ c) ++ (t ++ (f ++ (u ++ r)))
if_parts a c t e f u r is = rw is (simp append_assoc)
