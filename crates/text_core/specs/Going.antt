-- What a reading function does, for any stack of what is owed after it and any values below.
use Rattle.std.specs.Prelude.{◌≡◌, ◌<◌, ◌≤◌, ℕ, List, ◌++◌, length, drop, slice_get, Option, Some, None, if◌then◌else◌}
use Rattle.text_core.specs.Table.{Table, Stack, Verdict, exec, bounded, marks}

abbrev pub verdict : (g : Table) → ℕ → List g.Tok → Stack g → List g.Val → Verdict g
verdict g limit w s vs = bounded g limit w (exec g w s vs)

-- where d constructs are open around: what is owed at i, over these values, is what is left at j, over those
pub record Goes (g : Table) (limit : ℕ) (ts : List g.Tok) (d i : ℕ) (owed : Stack g) (vs : List g.Val) (j : ℕ)
    (left : Stack g) (us : List g.Val) : Type 0 where
  pub leads : (s : Stack g) (below : List g.Val) → marks g s ≡ d →
      verdict g limit (drop i ts) (owed ++ s) (vs ++ below) ≡ verdict g limit (drop j ts) (left ++ s) (us ++ below)

-- and where it comes to this verdict
pub record Stops (g : Table) (limit : ℕ) (ts : List g.Tok) (d i : ℕ) (owed : Stack g) (vs : List g.Val)
    (v : Verdict g) : Type 0 where
  pub leads : (s : Stack g) (below : List g.Val) → marks g s ≡ d →
      verdict g limit (drop i ts) (owed ++ s) (vs ++ below) ≡ v

-- what was owed at i has been read up to `next`, over these values
pub record Reads (g : Table) (limit : ℕ) (ts : List g.Tok) (d i : ℕ) (owed : Stack g) (vs : List g.Val) (next : ℕ)
    (left : Stack g) (us : List g.Val) : Type 0 where
  pub forward : i < next
  pub in_range : next ≤ length ts
  pub same : Goes g limit ts d i owed vs next left us

-- the next token is not one of the line n, or there is none
pub data Lacks (g : Table) (ts : List g.Tok) (i : ℕ) (n : g.Line) : Type 0 where
  at_the_end : slice_get ts i ≡ None → Lacks g ts i n
  other : (c : g.Tok) → slice_get ts i ≡ Some c → g.after n c ≡ None → Lacks g ts i n

-- the next token, where it is of the class k
abbrev pub next_of : (g : Table) → g.Class → Option g.Tok → Option g.Tok
next_of g k None = None
next_of g k (Some c) = if g.fits k c then Some c else None
