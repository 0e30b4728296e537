-- The text of a tuple's fields, field by field.
use Rattle.std.proofs.Common.{◌≡◌, ℕ, ◌+◌, ◌<◌, List, [], ◌∷◌, ◌++◌, map, take, length, get_or, codes, sym, ap, ◌∙◌}
use Rattle.std.proofs.Common.{arith}
use Rattle.std.proofs.lemmas.List.{map_more, append_assoc, append-nil, length-map, length-take}
use Rattle.f_terms.specs.declared.types.FType.{FType}
use Rattle.f_terms.specs.Ty.{Ty, TTuple, tys}
use Rattle.idx_core.specs.Separator.{separator}
use Rattle.f_terms.specs.Text.{text_at, texts_at}
use Rattle.f_terms.specs.Read.{tree}

push : (d k : ℕ) (us : List Ty) (u : Ty) → texts_at d k (tys (us ++ u ∷ [])) ≡ texts_at d k (tys us) ++
    (separator (k + length us) ++ text_at d u)
push d k [] u = append-nil (separator k ++ text_at d u) ∙ ap (λ j. separator j ++ text_at d u) (omega arith)
push d k (x ∷ us) u =
    ap (λ (w : List ℕ). (separator k ++ text_at d x) ++ w) (push d (k + 1) us u)
    ∙ sym (append_assoc (separator k ++ text_at d x) (texts_at d (k + 1) (tys us)) _)
    ∙ ap (λ j. texts_at d k (tys (x ∷ us)) ++ (separator j ++ text_at d u)) (omega arith)

-- the fields that a loop has gone over, and one more
texts_more : (d : ℕ) (xs : List FType) (i : ℕ) (x : FType) → x ≡ get_or xs i x → i < length xs →
    texts_at d 0 (tys (map tree (take (i + 1) xs))) ≡ texts_at d 0 (tys (map tree (take i xs))) ++
    (separator i ++ text_at d (tree x))
texts_more d xs i x is lt =
    ap (λ (us : List Ty). texts_at d 0 (tys us)) (map_more tree xs i x lt ∙ ap
    (λ (u : FType). map tree (take i xs) ++ tree u ∷ []) (sym is))
    ∙ push d 0 (map tree (take i xs)) (tree x)
    ∙ ap (λ k. texts_at d 0 (tys (map tree (take i xs))) ++ (separator k ++ text_at d (tree x)))
    (omega (arith, length-map (take i xs) tree, length-take i xs))

-- a tuple, by its opening sign, its fields and its closing sign
pub text_of_tuple : (d : ℕ) (t : Ty) (xs : List FType) (before opened filled closed : List ℕ) →
    t ≡ TTuple (tys (map tree xs)) → opened ≡ before ++ codes "<" →
    filled ≡ opened ++ texts_at d 0 (tys (map tree xs)) → closed ≡ filled ++ codes ">" →
    closed ≡ before ++ text_at d t
text_of_tuple d t xs before opened filled closed is o f c =
    c ∙ ap (λ (w : List ℕ). w ++ codes ">") (f ∙ ap (λ (w : List ℕ). w ++ texts_at d 0 (tys (map tree xs))) o)
    ∙ ap (λ (w : List ℕ). w ++ codes ">") (append_assoc before (codes "<") (texts_at d 0 (tys (map tree xs))))
    ∙ append_assoc before (codes "<" ++ texts_at d 0 (tys (map tree xs))) (codes ">")
    ∙ ap (λ u. before ++ text_at d u) (sym is)

-- the text after one more field
pub field_written : (d : ℕ) (xs : List FType) (i : ℕ) (x : FType) (start before separated after : List ℕ) →
    x ≡ get_or xs i x → i < length xs →
    before ≡ start ++ texts_at d 0 (tys (map tree (take i xs))) → separated ≡ before ++ separator i →
    after ≡ separated ++ text_at d (tree x) →
    after ≡ start ++ texts_at d 0 (tys (map tree (take (i + 1) xs)))
field_written d xs i x start before separated after is lt b s a =
    a ∙ ap (λ (w : List ℕ). w ++ text_at d (tree x)) (s ∙ ap (λ (w : List ℕ). w ++ separator i) b)
    ∙ append_assoc (start ++ texts_at d 0 (tys (map tree (take i xs)))) (separator i) (text_at d (tree x))
    ∙ append_assoc start (texts_at d 0 (tys (map tree (take i xs)))) (separator i ++ text_at d (tree x))
    ∙ ap (λ (w : List ℕ). start ++ w) (sym (texts_more d xs i x is lt))
