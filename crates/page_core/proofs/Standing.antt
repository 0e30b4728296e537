-- What a new piece stands for, and that the others stay.
use Rattle.std.proofs.Common.{◌≡◌, ℕ, List, [], ◌∷◌, ◌++◌, length, get_or, ap, ap₂, ◌∙◌, arith}
use Rattle.std.proofs.lemmas.List.{length-append, get_or_append_left}
use Rattle.std.proofs.Math.Seq.{get_or-append_seam}
use Rattle.page_core.specs.Pieces.{HasText, Keeps, texts_of}
use Rattle.page_core.specs.Texts.{text_in, texts}
use Rattle.page_core.specs.declared.piece.Piece.{Piece}
use Rattle.page_core.specs.declared.pieces.Pieces.{Pieces}
use Rattle.page_core.proofs.Grown.{grown_push, grown_length}

more : (old new : List Piece) (p : Piece) → new ≡ old ++ p ∷ [] →
    texts new ≡ texts old ++ text_in (texts old) p ∷ []
more old new p e = ap texts e ∙ grown_push text_in [] old p

pub kept : (p q : Pieces) (x : Piece) → q.pieces.items ≡ p.pieces.items ++ x ∷ [] → Keeps p q
kept p q x e i s h =
    let m = more p.pieces.items q.pieces.items x e in
    record {
      inside = let a = h.inside in omega (
        arith,
        a,
        ap length m,
        length-append (texts_of p) (text_in (texts_of p) x ∷ []),
      );
      is = ap (λ (ts : List (List ℕ)). get_or ts i []) m
          ∙ get_or_append_left (texts_of p) (text_in (texts_of p) x ∷ []) [] i h.inside ∙ h.is;
    }

pub stands_new : (p q : Pieces) (x : Piece) (n : ℕ) (s : List ℕ) → q.pieces.items ≡ p.pieces.items ++ x ∷ [] →
    n ≡ length p.pieces.items → text_in (texts_of p) x ≡ s → HasText q n s
stands_new p q x n s e at is =
    let m = more p.pieces.items q.pieces.items x e in
    let l : n ≡ length (texts_of p) = omega (arith, at, grown_length text_in [] p.pieces.items) in
    record {
      inside = omega (arith, l, ap length m, length-append (texts_of p) (text_in (texts_of p) x ∷ []));
      is = ap₂ (λ (ts : List (List ℕ)) k. get_or ts k []) m l
          ∙ get_or-append_seam (texts_of p) (text_in (texts_of p) x) [] [] ∙ is;
    }
