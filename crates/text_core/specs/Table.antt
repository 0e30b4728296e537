-- A table of a predictive grammar, and the machine that reads tokens by it, one token ahead.
use Rattle.std.specs.Prelude.{ℕ, suc, nat_lt, List, [], ◌∷◌, ◌++◌, Option, Some, None, Bool, if◌then◌else◌}

-- what may be owed: a token of a class, a line of the grammar, an action on the values made so far;
-- a mark stands where a construct that is open ends
pub data Sym (C N A : Type 0) : Type 0 where
  Tm : C → Sym C N A
  Nt : N → Sym C N A
  Do : A → Sym C N A
  Mark : Sym C N A

pub record Table : Type 1 where
  -- the grammar: its tokens and trees, which tokens are a shape for which tree, and, for each token of a shape,
  -- how many constructs are open at it
  pub Tok : Type 0
  pub Tree : Type 0
  pub Shape : List Tok → Tree → Type 0
  pub opens : (w : List Tok) (t : Tree) → Shape w t → List ℕ
  -- the classes of tokens that may be owed, the lines, the actions and the values that they make
  pub Class : Type 0
  pub Line : Type 0
  pub Act : Type 0
  pub Val : Type 0
  pub fits : Class → Tok → Bool
  pub value : Tok → Val
  -- what is still owed of a line after its first token, or none where it cannot begin with it
  pub after : Line → Tok → Option (List (Sym Class Line Act))
  -- the line may be of no tokens
  pub may_end : Line → Bool
  pub act : Act → List Val → List Val
  pub tree : Tree → Val
  -- the line of a whole shape
  pub first : Line

-- what is owed, the next first
abbrev pub Stack : Table → Type 0
Stack g = List (Sym g.Class g.Line g.Act)

pub record State (g : Table) : Type 0 where
  pub owed : Stack g
  pub made : List g.Val

abbrev pub on_line : (g : Table) → Option (Stack g) → Stack g → List g.Val → g.Tok → Option (State g) → Option (State g)
on_line g (Some r) s vs t other = Some (record { owed = r ++ s; made = g.value t ∷ vs })
on_line g None s vs t other = other

-- the state after one more token, or none where no token of this kind may stand here
abbrev pub step : (g : Table) → Stack g → List g.Val → g.Tok → Option (State g)
step g [] vs t = None
step g (Tm k ∷ s) vs t = if g.fits k t then Some (record { owed = s; made = g.value t ∷ vs }) else None
step g (Nt n ∷ s) vs t = on_line g (g.after n t) s vs t (if g.may_end n then step g s vs t else None)
step g (Do a ∷ s) vs t = step g s (g.act a vs) t
step g (Mark ∷ s) vs t = step g s vs t

-- the values where the tokens end, or none where something is still owed
abbrev pub finish : (g : Table) → Stack g → List g.Val → Option (List g.Val)
finish g [] vs = Some vs
finish g (Tm k ∷ s) vs = None
finish g (Nt n ∷ s) vs = if g.may_end n then finish g s vs else None
finish g (Do a ∷ s) vs = finish g s (g.act a vs)
finish g (Mark ∷ s) vs = finish g s vs

-- what comes of the tokens: values, or a stop before these; each token that was read shows how many constructs are open
-- at it
pub data Outcome (g : Table) : Type 0 where
  Done : List g.Val → Outcome g
  Stop : List g.Tok → Outcome g
  Seen : ℕ → Outcome g → Outcome g

abbrev pub marks : (g : Table) → Stack g → ℕ
marks g [] = 0
marks g (Mark ∷ s) = suc (marks g s)
marks g (_ ∷ s) = marks g s

abbrev pub seen : (g : Table) → List ℕ → Outcome g → Outcome g
seen g [] o = o
seen g (n ∷ ns) o = Seen n (seen g ns o)

abbrev pub at_end : (g : Table) → Option (List g.Val) → Outcome g
at_end g (Some vs) = Done vs
at_end g None = Stop []

abbrev pub go : (g : Table) → (Stack g → List g.Val → Outcome g) → List g.Tok → Option (State g) → Outcome g
go g next w None = Stop w
go g next w (Some st) = Seen (marks g st.owed) (next st.owed st.made)

abbrev pub exec : (g : Table) → List g.Tok → Stack g → List g.Val → Outcome g
exec g [] s vs = at_end g (finish g s vs)
exec g (c ∷ w) s vs = go g (exec g w) (c ∷ w) (step g s vs c)

abbrev pub whole : (g : Table) → List g.Tok → Outcome g
whole g w = exec g w (Nt g.first ∷ []) []

-- the outcome under a limit on open constructs: values, or the tokens from the first that is unexpected or passes the
-- limit
pub data Verdict (g : Table) : Type 0 where
  Fine : List g.Val → Verdict g
  Unexpected : List g.Tok → Verdict g
  Passed : List g.Tok → Verdict g

abbrev pub bounded : (g : Table) → ℕ → List g.Tok → Outcome g → Verdict g
bounded g limit w (Done t) = Fine t
bounded g limit w (Stop r) = Unexpected r
bounded g limit [] (Seen n o) = Unexpected []
bounded g limit (c ∷ w) (Seen n o) = if nat_lt limit n then Passed (c ∷ w) else bounded g limit w o

-- what a line that goes on as another one does owes after its first token
abbrev pub then_more : {S : Type 0} → Option (List S) → List S → Option (List S)
then_more None k = None
then_more (Some s) k = Some (s ++ k)
