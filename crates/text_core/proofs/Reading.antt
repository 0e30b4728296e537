-- How the machine of any table reads.
use Rattle.std.proofs.Common.{◌≡◌, ℕ, List, [], ◌∷◌, ◌++◌, refl, ◌∙◌, ap, append_assoc, Some}
use Rattle.text_core.specs.Table.{Nt, Do, Mark, Table, Stack, Outcome, Seen, seen, exec}

pub do_now : (g : Table) (w : List g.Tok) (a : g.Act) (s : Stack g) (vs : List g.Val) →
    exec g w (Do a ∷ s) vs ≡ exec g w s (g.act a vs)
do_now g [] a s vs = refl
do_now g (c ∷ w) a s vs = refl

pub mark_now : (g : Table) (w : List g.Tok) (s : Stack g) (vs : List g.Val) → exec g w (Mark ∷ s) vs ≡ exec g w s vs
mark_now g [] s vs = refl
mark_now g (c ∷ w) s vs = refl

pub marked : (g : Table) (w : List g.Tok) (a : g.Act) (s : Stack g) (vs : List g.Val) →
    exec g w (Mark ∷ (Do a ∷ s)) vs ≡ exec g w s (g.act a vs)
marked g w a s vs = mark_now g w (Do a ∷ s) vs ∙ do_now g w a s vs

pub seen_append : (g : Table) (a b : List ℕ) (o : Outcome g) → seen g (a ++ b) o ≡ seen g a (seen g b o)
seen_append g [] b o = refl
seen_append g (n ∷ a) b o = ap (λ (x : Outcome g). Seen n x) (seen_append g a b o)

pub under : (g : Table) (a : List ℕ) {x y : Outcome g} → x ≡ y → seen g a x ≡ seen g a y
under g a e = ap (λ (o : Outcome g). seen g a o) e

pub next : (g : Table) (n : ℕ) {x y : Outcome g} → x ≡ y → Seen n x ≡ Seen n y
next g n e = ap (λ (o : Outcome g). Seen n o) e

-- what follows does not go on with the line
abbrev pub Leaves : (g : Table) → g.Line → List g.Tok → Type 0
Leaves g n w = (s : Stack g) (vs : List g.Val) → exec g w (Nt n ∷ s) vs ≡ exec g w s vs

-- the line begins here
pub data Opens (g : Table) (n : g.Line) : List g.Tok → Type 0 where
  opens : (c : g.Tok) (w : List g.Tok) (r : Stack g) → g.after n c ≡ Some r → Opens g n (c ∷ w)

pub opens_more : (g : Table) (n : g.Line) {u : List g.Tok} (w : List g.Tok) → Opens g n u → Opens g n (u ++ w)
opens_more g n w (opens c u r e) = opens c (u ++ w) r e

-- where n begins, so does m
pub opens_as : (g : Table) (n m : g.Line) (k : Stack g) →
    ((c : g.Tok) (r : Stack g) → g.after n c ≡ Some r → g.after m c ≡ Some (r ++ k)) →
    {w : List g.Tok} → Opens g n w → Opens g m w
opens_as g n m k f (opens c w r e) = opens c w (r ++ k) (f c r e)

-- a line m that goes on as the line n does, and then with k
pub as_line : (g : Table) (n m : g.Line) (k : Stack g) →
    ((c : g.Tok) (r : Stack g) → g.after n c ≡ Some r → g.after m c ≡ Some (r ++ k)) →
    {w : List g.Tok} → Opens g n w → (s : Stack g) (vs : List g.Val) →
    exec g w (Nt m ∷ s) vs ≡ exec g w (Nt n ∷ (k ++ s)) vs
as_line g n m k f (opens c w r e) s vs = rw (f c r e, e) (rw (append_assoc r k s) refl)
