-- Types as the fields of a tuple that are not filled, and back.
use Rattle.std.proofs.Common.{◌≡◌, ℕ, ◌+◌, ◌<◌, All, Bool, false, List, [], ◌∷◌, ◌++◌, length, map, drop, get_or, refl}
use Rattle.std.proofs.Common.{sym, ◌∙◌, ap}
use Rattle.std.proofs.lemmas.List.{drop_more, append_assoc}
use Rattle.std.proofs.lemmas.List.Elements.{All-head, All-tail}
use Rattle.t_types.specs.Tree.{Ty, MoreFields}
use Rattle.t_intern.specs.Applied.{row, row_types, unfilled}
use Rattle.t_intern.specs.Nodes.{at, fields_at, FieldsBelow}

pub row_is : (ts : List Ty) → row_types (row ts) ≡ ts
row_is [] = refl
row_is (t ∷ ts) = ap (λ (us : List Ty). t ∷ us) (row_is ts)

pub row_at : (ts : List Ty) (ns : List ℕ) → fields_at ts (unfilled ns) ≡ row (map (at ts) ns)
row_at ts [] = refl
row_at ts (n ∷ ns) = ap (MoreFields (at ts n) false) (row_at ts ns)

pub row_below : (m : ℕ) (ns : List ℕ) → All (λ n. n < m) ns → FieldsBelow m (unfilled ns)
row_below m [] h = tt
row_below m (n ∷ ns) h = (All-head (λ k. k < m) n ns h, row_below m ns (All-tail (λ k. k < m) n ns h))

pub unfilled_next : (xs : List ℕ) (i x : ℕ) (made made' whole : List (ℕ × Bool)) → i < length xs → x ≡ get_or xs i x →
    made ++ unfilled (drop i xs) ≡ whole → made' ≡ made ++ (x, false) ∷ [] →
    made' ++ unfilled (drop (i + 1) xs) ≡ whole
unfilled_next xs i x made made' whole l is h e =
    let step : drop i xs ≡ x ∷ drop (i + 1) xs = drop_more xs i x l ∙ ap (λ (y : ℕ). y ∷ drop (i + 1) xs) (sym is) in
    ap (λ ys. ys ++ unfilled (drop (i + 1) xs)) e
    ∙ append_assoc made ((x, false) ∷ []) (unfilled (drop (i + 1) xs))
    ∙ ap (λ ys. made ++ unfilled ys) (sym step)
    ∙ h
