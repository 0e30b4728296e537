-- A table of signs that all begin with marks.
use Rattle.std.proofs.Common.{◌≡◌, ◌==◌, ℕ, List, [], ◌∷◌, Bool, true, false, if◌then◌else◌, refl, Some}
use Rattle.std.specs.List.{list_all}
use Rattle.std.proofs.lemmas.Bool.{eqb-true, and_parts}
use Rattle.text_core.specs.Byte.{mark}
use Rattle.text_core.specs.Tokens.{look}

pub look_marked : {K : Type 0} (t : List (ℕ × K)) → list_all (λ e. mark e.0) t ≡ true → (b : ℕ) (k : K) →
    look t b ≡ Some k → mark b ≡ true
look_marked [] h b k e = absurd (cc)
look_marked {K} (x ∷ t) h b k e =
    let p = and_parts (mark x.0) (list_all (λ e. mark e.0) t) h in go (b == x.0) refl p.0 (look_marked t p.1 b k) e
  where
    go : (y : Bool) → (b == x.0) ≡ y → mark x.0 ≡ true → (look t b ≡ Some k → mark b ≡ true) →
        (if y then Some x.1 else look t b) ≡ Some k → mark b ≡ true
    go true p m f q = rw (eqb-true b x.0 p) m
    go false p m f q = f q
