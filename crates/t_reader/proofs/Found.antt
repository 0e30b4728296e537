-- Names that are bound and taken away, and stops in a part.
use Rattle.std.proofs.Common.{◌≡◌, ℕ, ◌+◌, ◌<◌, ◌≤◌, List, [], ◌∷◌, ◌++◌, length, drop, get_or, refl, sym, ◌∙◌, arith}
use Rattle.std.proofs.Common.{drop-cons, add-one}
use Rattle.std.proofs.lemmas.List.{drop-drop}
use Rattle.std.proofs.Math.ListN.{drop_of_length-le}
use Rattle.idx_core.specs.declared.span.Span.{Span}
use Rattle.idx_core.specs.Names.{Name}
use Rattle.t_terms.specs.declared.fault.TCode.{TCode}
use Rattle.t_text.specs.Names.{spelled, bind}
use Rattle.t_reader.specs.Resolve.{StopsAt}
use Rattle.t_terms.specs.declared.fault.TFault.{TFault}
use Rattle.t_terms.specs.declared.fault.TFault.TheVariants.{Memory, Refused}

pub here_is : {A : Type 0} (xs : List A) (k : ℕ) (d x : A) → k < length xs → get_or xs k d ≡ x →
    drop k xs ≡ x ∷ drop (k + 1) xs
here_is xs k d x l e = rw (drop-cons xs k d l, e, ← add-one k) refl

-- names that are bound, and taken away
pub drop_bind : (text : List ℕ) (ns : List Span) (a : List Name) → drop (length ns) (bind text ns a) ≡ a
drop_bind text [] a = refl
drop_bind text (n ∷ ns) a =
    let q : length (n ∷ ns) ≡ length ns + 1 = omega arith in
    rw (q, ← drop-drop 1 (length ns) (bind text ns (spelled text n ∷ a)), drop_bind text ns (spelled text n ∷ a)) refl

-- a stop in a part
pub stop_left : (a b : List (TCode × Span)) (e : TFault) → StopsAt a e → StopsAt (a ++ b) e
stop_left a b Memory h = tt
stop_left a b (Refused code span) h = (h.0 ++ b, rw h.1 refl)

pub stop_right : (a b : List (TCode × Span)) (e : TFault) → a ≡ [] → StopsAt b e → StopsAt (a ++ b) e
stop_right a b e q h = rw q h

pub none_both : (a b : List (TCode × Span)) → a ≡ [] → b ≡ [] → a ++ b ≡ []
none_both a b p q = rw (p, q) refl

-- names that are bound in turn
pub bind_next : (text : List ℕ) (ns : List Span) (k : ℕ) (a b c : List Name) →
    bind text ns a ≡ bind text (drop k ns) b → k < length ns →
    c ≡ spelled text (get_or ns k (record { start = 0; end = 0 })) ∷ b → bind text ns a ≡ bind text (drop (k + 1) ns) c
bind_next text ns k a b c h l e = h ∙ rw (drop-cons ns k (record { start = 0; end = 0 }) l, ← add-one k, e) refl

pub bind_done : (text : List ℕ) (ns : List Span) (k : ℕ) (a b : List Name) → bind text ns a ≡ bind text (drop k ns) b →
    length ns ≤ k → b ≡ bind text ns a
bind_done text ns k a b h l = let n : drop k ns ≡ [] = drop_of_length-le ns l in sym (h ∙ rw n refl)
