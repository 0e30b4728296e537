-- The page on what a run of an assembly program made. All of it is our own choice.
use Rattle.std.specs.Prelude.{ℕ, ◌+◌, ◌-◌, ◌*◌, ◌==◌, nat_lt, min, List, [], ◌∷◌, ◌++◌, take, drop}
use Rattle.std.specs.Prelude.{sum_by, insert, if◌then◌else◌, codes, decimal}
use Rattle.page_core.specs.Spot.{line_number}
use Rattle.t_terms.specs.Spanned.{SProg}
use Rattle.cost_page.specs.Places.{number, places}
use Rattle.cost_page.specs.declared.places.Kind.{Kind}
use Rattle.cost_page.specs.declared.places.Kind.TheVariants.{Add, Sub, Mul, Bnz, Ld, Malloc, Mov, St, Unpack, Jmp}
use Rattle.cost_page.specs.declared.places.Place.{Place}
use Rattle.cost_page.specs.declared.totals.Measure.{Measure}
use Rattle.cost_page.specs.declared.totals.Measure.TheVariants.{Of, Entries, Fields}

-- ---- numbers

-- what a place counts for: how often it was executed, where it is of this kind, or is the first of its block; or how
-- many fields were made there
abbrev pub weight : Measure → Place → ℕ
weight (Of k) p = if number p.kind == number k then p.count else 0
weight Entries p = if p.index == 0 then p.count else 0
weight Fields p = p.count * p.fields

-- of a number that 64 bits do not hold, the greatest that they do
abbrev pub capped : ℕ → ℕ
capped n = min 18446744073709551615 n

abbrev pub total : Measure → List Place → ℕ
total m ps = capped (sum_by (weight m) ps)

abbrev pub row : (words : List ℕ) → ℕ → List ℕ
row words n = words ++ (decimal n ++ codes "\n")

-- ---- steps by their kinds

abbrev pub word : Kind → List ℕ
word Add = codes "  add "
word Sub = codes "  sub "
word Mul = codes "  mul "
word Bnz = codes "  bnz "
word Ld = codes "  ld "
word Malloc = codes "  malloc "
word Mov = codes "  mov "
word St = codes "  st "
word Unpack = codes "  unpack "
word Jmp = codes "  jmp "
word other = codes "  halt "

-- the kinds in the order in which they are shown
abbrev pub kinds : List Kind
kinds = Add ∷ Sub ∷ Mul ∷ Bnz ∷ Ld ∷ Malloc ∷ Mov ∷ St ∷ Unpack ∷ Jmp ∷ []

-- one that was not executed has no row
abbrev pub kind_row : List Place → Kind → List ℕ
kind_row ps k = if total (Of k) ps == 0 then [] else row (word k) (total (Of k) ps)

abbrev pub kind_rows : List Place → List Kind → List ℕ
kind_rows ps [] = []
kind_rows ps (k ∷ ks) = kind_row ps k ++ kind_rows ps ks

-- ---- the places that were executed most

-- how many of these stand before a place: those before the first that was executed less often
abbrev pub rank : Place → List Place → ℕ
rank p [] = 0
rank p (q ∷ qs) = if nat_lt q.count p.count then 0 else 1 + rank p qs

-- with one place more, the first ten
abbrev pub placed : List Place → Place → List Place
placed top p = if p.count == 0 then top else take 10 (insert top (rank p top) p)

-- the ten that were executed most, of these and those: the most executed first, and of two that were executed as often
-- the one that comes first in the program; none that was not executed
abbrev pub most : List Place → List Place → List Place
most top [] = top
most top (p ∷ ps) = most (placed top p) ps

-- the bytes from one place of a text up to another
abbrev pub bytes_at : List ℕ → (start end : ℕ) → List ℕ
bytes_at text start end = take (end - start) (drop start text)

-- the label of a place's block and its number in the block; and the row: its count, its name and its line in the text
abbrev pub name_text : List ℕ → Place → List ℕ
name_text text p = bytes_at text p.label.start p.label.end ++ (codes "." ++ decimal p.index)

abbrev pub place_row : List ℕ → Place → List ℕ
place_row text p =
    codes "  " ++ (decimal p.count ++ (codes " " ++ (name_text text p
    ++ row (codes ", line ") (line_number text p.start))))

abbrev pub place_rows : List ℕ → List Place → List ℕ
place_rows text [] = []
place_rows text (p ∷ ps) = place_row text p ++ place_rows text ps

abbrev pub most_text : List ℕ → List Place → List ℕ
most_text text top = codes "most executed\n" ++ place_rows text top

-- ---- the whole

-- how many blocks were entered, the first one at the start too, where the run ends at the place of this index: each
-- entry is a step from the block's first place, or is the last thing that was done
abbrev pub entered : List Place → ℕ → ℕ
entered ps index = capped (total Entries ps + (if index == 0 then 1 else 0))

abbrev pub totals_text : List Place → ℕ → List ℕ
totals_text ps index =
    row (codes "blocks entered ") (entered ps index)
    ++ (row (codes "tuples ") (total (Of Malloc) ps) ++ row (codes "fields ") (total Fields ps))

abbrev pub page_from : List ℕ → (steps index : ℕ) → List Place → List ℕ
page_from text steps index ps =
    row (codes "instructions ") steps
    ++ (kind_rows ps kinds ++ (totals_text ps index ++ most_text text (most [] ps)))

-- What a run of so many steps made, which ends at a place of this index in its block, and executed the places of the
-- program this often.
abbrev pub page : List ℕ → SProg → (steps index : ℕ) → (counts : List ℕ) → List ℕ
page text P steps index counts = page_from text steps index (places counts 0 P.blocks)
