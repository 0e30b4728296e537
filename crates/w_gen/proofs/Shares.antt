-- The pieces of one block after the other.
use Rattle.std.proofs.Common.{◌≡◌, ℕ, suc, ◌+◌, ◌<◌, List, [], ◌∷◌, ◌++◌, length, map, take, drop, refl, sym, ap}
use Rattle.std.proofs.Common.{◌∙◌, arith, append_assoc, length-append}
use Rattle.std.specs.Prelude.{slice_index_or}
use Rattle.std.proofs.lemmas.List.{length-map}
use Rattle.t_terms.specs.Read.{blocks_of as trees_of}
use Rattle.t_terms.specs.declared.block.Block.{Block}
use Rattle.t_rules.specs.Erase.{ESeq, erase_block}
use Rattle.w_terms.specs.Tree.{WSeq}
use Rattle.w_terms.specs.Read.{block}
use Rattle.w_terms.specs.declared.program.WBlock.{WBlock}
use Rattle.w_laws.specs.Translate.{Code, code_of, codes_of}

pub some : (xs : List WBlock) (c : Code) → map block xs ≡ c.seq ∷ c.more → 0 < length xs
some [] c e = cc
some (x ∷ xs) c e = omega arith

-- the first one, and the others
pub first_is : (xs : List WBlock) (x : WBlock) (c : Code) → x ≡ slice_index_or xs 0 x → map block xs ≡ c.seq ∷ c.more →
    block x ≡ c.seq
first_is [] x c is e = cc
first_is (y ∷ xs) x c is e = let same : block y ≡ c.seq = cc in ap block is ∙ same

pub others_are : (xs ys : List WBlock) (c : Code) → ys ≡ take 0 xs ++ drop (0 + 1) xs →
    map block xs ≡ c.seq ∷ c.more → map block ys ≡ c.more
others_are [] ys c is e = cc
others_are (y ∷ xs) ys c is e = let same : map block xs ≡ c.more = cc in ap (map block) is ∙ same

pub map_push : (xs : List WBlock) (x : WBlock) → map block (xs ++ x ∷ []) ≡ map block xs ++ block x ∷ []
map_push [] x = refl
map_push (y ∷ xs) x = ap (λ z. block y ∷ z) (map_push xs x)

pub map_both : (xs ys : List WBlock) → map block (xs ++ ys) ≡ map block xs ++ map block ys
map_both [] ys = refl
map_both (x ∷ xs) ys = ap (λ z. block x ∷ z) (map_both xs ys)

-- the blocks of a program, erased
abbrev pub erased : List Block → List ESeq
erased bs = map erase_block (trees_of bs)

pub count : (bs : List Block) → length (erased bs) ≡ length bs
count [] = refl
count (b ∷ bs) = ap suc (count bs)

module _ (at : ℕ → ℕ) (from : ℕ) (f r g s : List WBlock) (e : ESeq) (es : List ESeq)
    (firsts : map block g ≡ map block f ++ (code_of at (from + length r) e).seq ∷ [])
    (rest : map block s ≡ map block r ++ (code_of at (from + length r) e).more) where
  abbrev c : Code
  c = code_of at (from + length r) e

  more : from + length r + length c.more ≡ from + length s
  more =
      let long = ap (λ (x : List WSeq). length x) rest ∙ length-append (map block r) c.more in
      let a = length-map s block in
      let b = length-map r block in
      omega (arith, long, a, b)

  pub firsts_go : (all : List WSeq) → map block f ++ (codes_of at (from + length r) (e ∷ es)).firsts ≡ all →
      map block g ++ (codes_of at (from + length s) es).firsts ≡ all
  firsts_go all inv =
      ap (λ x. x ++ (codes_of at (from + length s) es).firsts) firsts
      ∙ append_assoc (map block f) (c.seq ∷ []) (codes_of at (from + length s) es).firsts
      ∙ ap (λ n. map block f ++ c.seq ∷ (codes_of at n es).firsts) (sym more) ∙ inv

  pub rest_goes : (all : List WSeq) → map block r ++ (codes_of at (from + length r) (e ∷ es)).rest ≡ all →
      map block s ++ (codes_of at (from + length s) es).rest ≡ all
  rest_goes all inv =
      ap (λ x. x ++ (codes_of at (from + length s) es).rest) rest
      ∙ append_assoc (map block r) c.more (codes_of at (from + length s) es).rest
      ∙ ap (λ n. map block r ++ (c.more ++ (codes_of at n es).rest)) (sym more) ∙ inv
