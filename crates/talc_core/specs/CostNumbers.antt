-- What the numbers on a page of `cost` are: steps of its run, counted. All of it before 64 bits cap the numbers.
use Rattle.std.specs.Prelude.{◌≡◌, ℕ, zero, suc, ◌+◌, ◌==◌, Bool, List, [], ◌∷◌, ◌++◌, length, sum_by, count_by}
use Rattle.std.specs.Prelude.{if◌then◌else◌}
use Rattle.idx_core.specs.declared.span.Span.{Span}
use Rattle.t_terms.specs.Tree.{TInstr, TEnd}
use Rattle.t_terms.specs.Spanned.{SBlock, SProg, plain_program}
use Rattle.t_rules.specs.Machine.{State, Place, Spot, After}
use Rattle.t_rules.specs.Times.{places, entries, Times}
use Rattle.t_machine.specs.Tables.{table}
use Rattle.t_machine.specs.Room.{tuples_made, fields_made}
use Rattle.cost_page.specs.Places as own
use Rattle.cost_page.specs.Places.{kind_of, end_kind, fields_of, number}
use Rattle.cost_page.specs.Page.{weight, kinds, capped, entered, page_from}
use Rattle.cost_page.specs.declared.places.Kind.{Kind}
use Rattle.cost_page.specs.declared.places.Kind.TheVariants.{Malloc, Halt}
use Rattle.cost_page.specs.declared.places.Place as row
use Rattle.talc_core.specs.Costed.{IsCost}
use Rattle.cost_page.specs.declared.totals.Measure.TheVariants.{Of, Entries, Fields}

-- ---- the places of a program

-- the places of block b from index i on, each with what f is at it as its count
abbrev pub timed_rest : (ℕ → ℕ → ℕ) → ℕ → Span → ℕ → List (TInstr × Span) → TEnd → Span → List row.Place
timed_rest f b label i [] e s =
    record { label = label; index = i; kind = end_kind e; fields = 0; start = s.start; count = f b i } ∷ []
timed_rest f b label i (x ∷ xs) e s =
    record {
      label = label;
      index = i;
      kind = kind_of x.0;
      fields = fields_of x.0;
      start = x.1.start;
      count = f b i;
    }
    ∷ timed_rest f b label (i + 1) xs e s

-- the places of blocks, of which the first has the number b
abbrev pub timed : (ℕ → ℕ → ℕ) → ℕ → List SBlock → List row.Place
timed f b [] = []
timed f b (c ∷ cs) = timed_rest f b c.name 0 c.body c.last c.last_span ++ timed f (b + 1) cs

-- what stands at the index of a body with an end, and at the index of a block
abbrev pub kind_in : List (TInstr × Span) → TEnd → ℕ → Kind
kind_in [] e i = end_kind e
kind_in (x ∷ xs) e zero = kind_of x.0
kind_in (x ∷ xs) e (suc i) = kind_in xs e i

abbrev pub kind_at : List SBlock → ℕ → ℕ → Kind
kind_at [] b i = Halt
kind_at (c ∷ cs) zero i = kind_in c.body c.last i
kind_at (c ∷ cs) (suc b) i = kind_at cs b i

-- an instruction of this kind stands at the place
abbrev pub is_of : List SBlock → Kind → Place → Bool
is_of blocks k (Spot b i) = number (kind_at blocks b i) == number k

-- ---- the places on the page of a run

abbrev pub executed : (program : SProg) (m : ℕ) (s : State) (p : Place) → After (plain_program program) m s p →
    List row.Place
executed program m s p run =
    own.places (table (Times (plain_program program) m s p run) (plain_program program)) 0 program.blocks

-- ---- laws

-- the page of `cost` is made of these places alone, the number of steps and the index at which they end
abbrev pub PageIsOfExecuted : Type 0
PageIsOfExecuted =
    (text : List ℕ) (program : SProg) (m : ℕ) (lines : List ℕ) (cost : IsCost text program m lines) →
    lines ≡ page_from text m cost.index (executed program m cost.state (Spot cost.block cost.index) cost.run)

-- the count of each place is how many steps of the run start there
abbrev pub CountsAreTimes : Type 0
CountsAreTimes =
    (program : SProg) (m : ℕ) (s : State) (p : Place) (run : After (plain_program program) m s p) →
    executed program m s p run ≡ timed (Times (plain_program program) m s p run) 0 program.blocks

-- the sum of a kind is how many steps start where an instruction of this kind stands
abbrev pub KindsAreSteps : Type 0
KindsAreSteps =
    (program : SProg) (m : ℕ) (s : State) (p : Place) (run : After (plain_program program) m s p) (k : Kind) →
    sum_by (weight (Of k)) (executed program m s p run)
    ≡ count_by (is_of program.blocks k) (places (plain_program program) m s p run)

-- the sums of the kinds that have rows are all steps together
abbrev pub RowsAddUp : Type 0
RowsAddUp =
    (program : SProg) (m : ℕ) (s : State) (p : Place) (run : After (plain_program program) m s p) →
    sum_by (λ k. sum_by (weight (Of k)) (executed program m s p run)) kinds ≡ m

-- the sum of `malloc`s is how many tuples the run allocates
abbrev pub MallocsAreTuples : Type 0
MallocsAreTuples =
    (program : SProg) (m : ℕ) (s : State) (p : Place) (run : After (plain_program program) m s p) →
    sum_by (weight (Of Malloc)) (executed program m s p run) ≡ tuples_made (plain_program program) m m s p run

-- the sum of fields is how many fields these have
abbrev pub FieldsAreMade : Type 0
FieldsAreMade =
    (program : SProg) (m : ℕ) (s : State) (p : Place) (run : After (plain_program program) m s p) →
    sum_by (weight Fields) (executed program m s p run) ≡ fields_made (plain_program program) m m s p run

-- The steps from first places of blocks, and one more where the run ends at such a place, are the blocks that it
-- enters. The number of the page is that one, capped.
abbrev pub EnteredIsEntries : Type 0
EnteredIsEntries =
    (program : SProg) (m : ℕ) (s : State) (block index : ℕ)
    (run : After (plain_program program) m s (Spot block index)) →
    (sum_by (weight Entries) (executed program m s (Spot block index) run) + (if index == 0 then 1 else 0)
    ≡ length (entries (plain_program program) m s (Spot block index) run))
    × (entered (executed program m s (Spot block index) run) index
    ≡ capped (length (entries (plain_program program) m s (Spot block index) run)))
