-- The source of a number: 64 items joined by ` + `, and a line end.
use Rattle.std.specs.Prelude.{ℕ, zero, suc, ◌+◌, ◌*◌, ◌%◌, ◌==◌, if◌then◌else◌, List, [], ◌∷◌, ◌++◌, codes, decimal}
use Rattle.f_seeds.specs.declared.item.Kind.{Kind}
use Rattle.f_seeds.specs.declared.item.Kind.TheVariants.{Number, Factorial, Field, Identity, Branch, Twice}

-- the kinds in turn
abbrev pub kind_in_turn : ℕ → Kind
kind_in_turn k =
    if k == 0 then Number else if k == 1 then Factorial else if k == 2 then Field else if k == 3 then Identity
    else if k == 4 then Branch else Twice

-- the kind of the item at the place j in the source of n
abbrev pub kind_of : ℕ → ℕ → Kind
kind_of n j = kind_in_turn ((n + j) % 6)

-- and its number
abbrev pub number_of : ℕ → ℕ → ℕ
number_of n j = (n + 7 * j) % 20

-- the text of an item with the number c
abbrev pub item : Kind → ℕ → List ℕ
item Number c = decimal c
item Factorial c = codes "(fix f(n:int):int. if0(n, 1, n * f(n - 1))) " ++ decimal c
item Field c = codes "#2 <" ++ decimal c ++ codes ", " ++ decimal c ++ codes " + 1, <>>"
item Identity c = codes "(gen a. fix i(x:a):a. x)[int] " ++ decimal c
item Branch c = codes "if0(" ++ decimal c ++ codes ", 1, 2)"
item Twice c = codes "(fix t(g:int -> int):int. g (g " ++ decimal c ++ codes ")) (fix s(y:int):int. y * 3)"

-- the item at the place j in the source of n
abbrev pub item_at : ℕ → ℕ → List ℕ
item_at n j = item (kind_of n j) (number_of n j)

-- the items at the places 0 to j, joined by ` + `
unfoldable pub items_to : ℕ → ℕ → List ℕ
items_to n zero = item_at n 0
items_to n (suc j) = items_to n j ++ codes " + " ++ item_at n (suc j)

-- 64 items, and a line end
abbrev pub source : ℕ → List ℕ
source n = items_to n 63 ++ 10 ∷ []
