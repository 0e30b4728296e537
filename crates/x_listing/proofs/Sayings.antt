-- What is said of blocks, one after the other.
use Rattle.std.proofs.Common.{◌≡◌, ℕ, ◌+◌, List, [], ◌∷◌, ◌++◌, map, refl, ap, ◌∙◌}
use Rattle.std.proofs.Common.{append_assoc, Vec, Global}
use Rattle.idx_core.specs.declared.span.Span.{Span}
use Rattle.t_terms.specs.Tree.{TEnd}
use Rattle.t_terms.specs.Spanned.{seq_of}
use Rattle.t_terms.specs.Read.{body, blocks_of}
use Rattle.t_terms.specs.declared.instr.Instr.{Instr}
use Rattle.t_terms.specs.declared.block.Block.{Block}
use Rattle.t_rules.specs.Erase.{erase_seq, erase_block}
use Rattle.x_listing.specs.Notes.{Work, walked, all_walked}
use Rattle.x_listing.specs.Remarks as remarks
use Rattle.x_listing.specs.Read.{note, notes_of, texts}
use Rattle.x_listing.specs.declared.note.Note.{Note}

pub notes_push : (xs : List Note) (x : Note) → notes_of (xs ++ x ∷ []) ≡ notes_of xs ++ note x ∷ []
notes_push [] x = refl
notes_push (y ∷ xs) x = ap (λ z. note y ∷ z) (notes_push xs x)

pub notes_both : (xs ys : List Note) → notes_of (xs ++ ys) ≡ notes_of xs ++ notes_of ys
notes_both [] ys = refl
notes_both (x ∷ xs) ys = ap (λ z. note x ∷ z) (notes_both xs ys)

pub texts_push : (xs : List (Vec ℕ Global)) (x : Vec ℕ Global) → texts (xs ++ x ∷ []) ≡ texts xs ++ x.items ∷ []
texts_push [] x = refl
texts_push (y ∷ xs) x = ap (λ z. y.items ∷ z) (texts_push xs x)

-- one name, and then others
pub first : (old now new : List remarks.Note) (x : remarks.Note) (xs : List remarks.Note) → now ≡ old ++ x ∷ [] →
    new ≡ now ++ xs → new ≡ old ++ (x ∷ xs)
first old now new x xs e f = f ∙ ap (λ s. s ++ xs) e ∙ append_assoc old (x ∷ []) xs

pub behind : (old now new xs ys : List remarks.Note) → now ≡ old ++ xs → new ≡ now ++ ys → new ≡ old ++ (xs ++ ys)
behind old now new xs ys e f = f ∙ ap (λ s. s ++ ys) e ∙ append_assoc old xs ys

pub from_none : (none : List Note) (new xs : List remarks.Note) → none ≡ [] → new ≡ notes_of none ++ xs → new ≡ xs
from_none none new xs e f = f ∙ ap (λ (ns : List Note). notes_of ns ++ xs) e

-- what comes of the instructions of block b from number i on
abbrev pub left : (b i : ℕ) → List (Instr × Span) → TEnd → Work → Work
left b i xs e w = walked b i (erase_seq (seq_of (body xs) e)) w

-- what comes of blocks from number b on
abbrev pub blocks_left : ℕ → List Block → Work → Work
blocks_left b bs w = all_walked b (map erase_block (blocks_of bs)) w
