-- How long a line is.
use Rattle.std.proofs.Common.{◌≡◌, ◌≤◌, ℕ, ◌+◌, ◌-◌, List, [], ◌∷◌, ◌++◌, take, length, codes, refl, arith, nat_lt}
use Rattle.std.proofs.Common.{Bool, true, false, if◌then◌else◌, ◌&&◌, not}
use Rattle.std.proofs.lemmas.List.{length-append, length-take}
use Rattle.std.proofs.lemmas.Bool.{ltb-false}
use Rattle.idx_core.specs.declared.span.Span.{Span}
use Rattle.text_core.specs.Table.{Table, State}
use Rattle.talc_wanted.specs.Wanted.{listed, heading, found_end, found_token, Kinds, told_of, line_at}
use Rattle.talc_wanted.specs.Wanted.{machine_of, stop, same_place, end_of, bytes_at, FewBytes}

by_room : (w : List ℕ) (ws : List (List ℕ)) (room : ℕ) → ((r : ℕ) → length (listed r ws) ≤ r + 3) → (b : Bool) →
    nat_lt room (1 + length w) ≡ b →
    length (if b then codes " .." else codes " " ++ w ++ listed (room - (1 + length w)) ws) ≤ room + 3
by_room w ws room rest true e = omega arith
by_room w ws room rest false e =
    let few = rest (room - (1 + length w)) in
    let fits : 1 + length w ≤ room = ltb-false room (1 + length w) e in
    let long = length-append (codes " " ++ w) (listed (room - (1 + length w)) ws) in
    let first = length-append (codes " ") w in
    omega arith

listed_short : (ws : List (List ℕ)) (room : ℕ) → length (listed room ws) ≤ room + 3
listed_short [] room = omega arith
listed_short (w ∷ ws) room = by_room w ws room (λ r. listed_short ws r) (nat_lt room (1 + length w)) refl

heading_short : (ws : List (List ℕ)) → length (heading ws) ≤ 77
heading_short ws =
    let few = listed_short ws 60 in let long = length-append (codes "wanted one of:") (listed 60 ws) in omega arith

dots_short : (b : Bool) → length (if b then codes ".." else []) ≤ 2
dots_short true = omega arith
dots_short false = omega arith

found_short : (bytes : List ℕ) → length (found_token bytes) ≤ 23
found_short bytes =
    let dots = if nat_lt 11 (length bytes) then codes ".." else [] in
    let few = dots_short (nat_lt 11 (length bytes)) in
    let taken = length-take 11 bytes in
    let one = length-append (codes "; found `") (take 11 bytes) in
    let two = length-append (codes "; found `" ++ take 11 bytes) dots in
    let three = length-append (codes "; found `" ++ take 11 bytes ++ dots) (codes "`") in
    omega arith

by_place : (b : Bool) (ws : List (List ℕ)) (found : List ℕ) → length found ≤ 23 →
    length (if b then heading ws ++ found else []) ≤ 100
by_place true ws found few = let h = heading_short ws in let long = length-append (heading ws) found in omega arith
by_place false ws found few = omega arith

module _ {K : Type 0} (g : Table) (k : Kinds K g.Tok) where
  by_stop : (text : List ℕ) (at : Span) (x : State g × List g.Tok) → length (line_at (machine_of g) k text at x) ≤ 100
  by_stop text at (st, []) =
      by_place (same_place at (end_of text) && not ((machine_of g).ends st)) (told_of (machine_of g) k st) found_end
      (omega arith)
  by_stop text at (st, c ∷ w) =
      by_place (same_place at (k.place c)) (told_of (machine_of g) k st) (found_token (bytes_at text at))
      (found_short (bytes_at text at))

  pub few_bytes : FewBytes g k
  few_bytes text at w = by_stop text at (stop (machine_of g) w (machine_of g).start)
