-- Worked rows: items of each kind, the beginning of a source, its length, and that 60 sources are all.
use Rattle.std.proofs.Common.{◌≡◌, ℕ, zero, suc, ◌+◌, ◌%◌, List, ◌++◌, length, take, refl, ap, ap₂, arith}
use Rattle.std.specs.Prelude.{codes}
use Rattle.std.specs.Fmt.{digits}
use Rattle.f_seeds.specs.Source.{kind_in_turn, number_of, item, item_at, items_to, source}

-- the items at the places 0 to 5 of the source of 0
number : item_at 0 0 ≡ codes "0"
unfolding digits
number = refl

factorial : item_at 0 1 ≡ codes "(fix f(n:int):int. if0(n, 1, n * f(n - 1))) 7"
unfolding digits
factorial = refl

field : item_at 0 2 ≡ codes "#2 <14, 14 + 1, <>>"
unfolding digits
field = refl

identity : item_at 0 3 ≡ codes "(gen a. fix i(x:a):a. x)[int] 1"
unfolding digits
identity = refl

branch : item_at 0 4 ≡ codes "if0(8, 1, 2)"
unfolding digits
branch = refl

twice : item_at 0 5 ≡ codes "(fix t(g:int -> int):int. g (g 15)) (fix s(y:int):int. y * 3)"
unfolding digits
twice = refl

-- how the source of 0 begins
beginning : take 50 (source 0) ≡ codes "0 + (fix f(n:int):int. if0(n, 1, n * f(n - 1))) 7 "
unfolding digits items_to
beginning = refl

-- the sums don't wrap: the source of 2 ^ 64 - 1 begins with an item of the kind 3, and goes on with one of the kind 4
last_seed : (item_at 18446744073709551615 0 ≡ codes "(gen a. fix i(x:a):a. x)[int] 15")
    × (item_at 18446744073709551615 1 ≡ codes "if0(2, 1, 2)")
unfolding digits
last_seed = (refl, refl)

length_of_the_first : length (source 0) ≡ 1981
unfolding digits items_to
length_of_the_first = refl

-- the source depends on the seed modulo 60 alone

same_kind : (n j : ℕ) → (n % 60 + j) % 6 ≡ (n + j) % 6
same_kind n j = omega arith

same_number : (n j : ℕ) → number_of (n % 60) j ≡ number_of n j
same_number n j = omega arith

same_item : (n j : ℕ) → item_at (n % 60) j ≡ item_at n j
same_item n j = ap₂ (λ (k c : ℕ). item (kind_in_turn k) c) (same_kind n j) (same_number n j)

same_items : (n j : ℕ) → items_to (n % 60) j ≡ items_to n j
unfolding items_to
same_items n zero = same_item n 0
same_items n (suc j) = ap₂ (λ (s t : List ℕ). s ++ codes " + " ++ t) (same_items n j) (same_item n (suc j))

sixty : (n : ℕ) → source (n % 60) ≡ source n
sixty n = ap (λ (s : List ℕ). s ++ codes "\n") (same_items n 63)
