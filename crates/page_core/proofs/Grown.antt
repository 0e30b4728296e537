-- Texts by those before them.
use Rattle.std.proofs.Common.{◌≡◌, ◌<◌, ℕ, zero, suc, ◌+◌, List, [], ◌∷◌, ◌++◌, length, get_or, take, refl, ap, ◌∙◌}
use Rattle.std.proofs.Common.{sym, arith}
use Rattle.std.proofs.lemmas.List.{append_assoc, length-append, append-nil}
use Rattle.std.proofs.Math.Seq.{get_or-append_seam, take-append_seam}
use Rattle.page_core.specs.Texts.{grown}
use Rattle.page_core.specs.declared.piece.Piece.{Piece}

-- one piece more
pub grown_push : {T : Type 0} (make : List T → Piece → T) (made : List T) (ps : List Piece) (p : Piece) →
    grown make made (ps ++ p ∷ []) ≡ grown make made ps ++ make (grown make made ps) p ∷ []
grown_push make made [] p = refl
grown_push make made (q ∷ ps) p = grown_push make (made ++ make made q ∷ []) ps p

pub grown_length : {T : Type 0} (make : List T → Piece → T) (made : List T) (ps : List Piece) →
    length (grown make made ps) ≡ length made + length ps
grown_length make made [] = omega arith
grown_length make made (q ∷ ps) =
    let h = grown_length make (made ++ make made q ∷ []) ps in
    omega (arith, h, length-append made (make made q ∷ []))

grown_after : {T : Type 0} (make : List T → Piece → T) (made : List T) (ps : List Piece) →
    (more : List T) × (grown make made ps ≡ made ++ more)
grown_after make made [] = ([], sym (append-nil made))
grown_after make made (q ∷ ps) =
    let h = grown_after make (made ++ make made q ∷ []) ps in
    (make made q ∷ h.0, h.1 ∙ append_assoc made (make made q ∷ []) h.0)

seam : {T : Type 0} (make : List T → Piece → T) (made : List T) (q : Piece) (d : T) (n : ℕ) (all more : List T) →
    n ≡ length made → all ≡ made ++ (make made q ∷ more) → get_or all n d ≡ make (take n all) q
seam make made q d n all more e a =
    let at : get_or (made ++ (make made q ∷ more)) (length made) d ≡ make made q =
    get_or-append_seam made (make made q) more d in
    let front : take (length made) (made ++ (make made q ∷ more)) ≡ made = take-append_seam made (make made q ∷ more)
    in
    rw (e, a) (at ∙ ap (λ m. make m q) (sym front))

-- what is made of a piece, by what was made of those before it
made_at : {T : Type 0} (make : List T → Piece → T) (made : List T) (ps : List Piece) (i : ℕ) (d : T) (p : Piece) →
    i < length ps → (n : ℕ) → n ≡ length made + i →
    get_or (grown make made ps) n d ≡ make (take n (grown make made ps)) (get_or ps i p)
made_at make made [] i d p lt n e = absurd (omega (arith, lt))
made_at make made (q ∷ ps) zero d p lt n e =
    let h = grown_after make (made ++ make made q ∷ []) ps in
    seam make made q d n (grown make (made ++ make made q ∷ []) ps) h.0 (omega (arith, e))
    (h.1 ∙ append_assoc made (make made q ∷ []) h.0)
made_at make made (q ∷ ps) (suc i) d p lt n e =
    made_at make (made ++ make made q ∷ []) ps i d p (omega (arith, lt)) n
    (omega (arith, e, length-append made (make made q ∷ [])))

pub part_at : {T : Type 0} (make : List T → Piece → T) (ps : List Piece) (i : ℕ) (d : T) (p : Piece) →
    i < length ps → get_or (grown make [] ps) i d ≡ make (take i (grown make [] ps)) (get_or ps i p)
part_at make ps i d p lt = made_at make [] ps i d p lt i (omega arith)
