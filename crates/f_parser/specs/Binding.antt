-- The binding of names by a list of tasks.
use Rattle.std.specs.Prelude.{◌≡◌, ℕ, ◌+◌, ◌-◌, ◌*◌, ◌<◌, ◌≤◌, List, [], ◌∷◌, ◌++◌, length, drop, Result, MatchResult}
use Rattle.idx_core.specs.declared.span.Span.{Span}
use Rattle.idx_core.specs.Names.{Name}
use Rattle.f_terms.specs.Tm.{Tm, tms}
use Rattle.f_terms.specs.Read.{tree, place}
use Rattle.f_terms.specs.Stacked.{arity, stacked, trees_of}
use Rattle.f_terms.specs.declared.types.FType.{FType}
use Rattle.f_terms.specs.declared.stack.FStep.{FStep}
use Rattle.f_terms.specs.declared.stack.FStep.TheVariants as form
use Rattle.f_grammar.specs.Raw.{RawTy, RawTm, RVar, RNum, RFix, RGen, RLet, RPack, ROpen, RawTms, NoRawTms, MoreRawTms}
use Rattle.f_grammar.specs.Raw.{nodes}
use Rattle.f_grammar.specs.Read.{type_of}
use Rattle.f_parser.specs.Parts.{part_tree, part_trees}
use Rattle.f_grammar.specs.Scope.{spelled, TypeOf, TermOf, TermsOf, Use, type_uses, uses, all_uses}
use Rattle.f_parser.specs.Resolve.{StopsAt}
use Rattle.f_parser.specs.declared.resolve.Unresolved.{Unresolved}
use Rattle.f_parser.specs.declared.state.State.{State}
use Rattle.f_parser.specs.declared.task.Leaves.{Leaves}
use Rattle.f_parser.specs.declared.task.Leaves.TheVariants.{Nothing, Function, Abstraction, Binding, Opening}
use Rattle.f_parser.specs.declared.task.Task.{Task}
use Rattle.f_parser.specs.declared.task.Task.TheVariants as task

-- a term is bound, or terms; a value name, or a type name and a value name, come into scope; the term that was made
-- last is used at a type, or packed with a type that it hides; or a form is put, whose names are left
pub data Todo : Type 0 where
  Bind : RawTm → Todo
  BindAll : RawTms → Todo
  NameIt : Span → Todo
  NameBoth : Span → Span → Todo
  UseAt : Span → RawTy → Todo
  PackAt : Span → FType → RawTy → Todo
  Put : Span → FStep → Leaves → Todo

abbrev pub todo : Task → Todo
todo (task.Term e) = Bind (part_tree e)
todo (task.Fields es) = BindAll (part_trees es)
todo (task.Name n) = NameIt n
todo (task.Names t n) = NameBoth t n
todo (task.Inst s t) = UseAt s (type_of t.now)
todo (task.Pack s h t) = PackAt s h (type_of t.now)
todo (task.Form s step names) = Put s step names

-- a form with parts that binds no names, and has no types before them
abbrev pub HasParts : RawTm → Type 0
HasParts (RVar s) = ⊥
HasParts (RNum s z) = ⊥
HasParts (RFix s f x t r e) = ⊥
HasParts (RGen s n e) = ⊥
HasParts (RLet s x d e) = ⊥
HasParts (RPack s t e r) = ⊥
HasParts (ROpen s n x d e) = ⊥
HasParts _ = Unit {0}

-- what is to be done, the next first: the last of a stack of tasks
abbrev pub todos_before : List Todo → List Task → List Todo
todos_before tds [] = tds
todos_before tds (t ∷ ts) = todos_before (todo t ∷ tds) ts

abbrev pub todos : List Task → List Todo
todos ts = todos_before [] ts

-- what is to be done, the names in scope, and the terms made so far
pub record Stand : Type 0 where
  pub todo : List Todo
  pub values : List Name
  pub types : List Name
  pub made : List Tm

-- the value names and the type names that are in scope where a form's names are left, and after a task
abbrev pub outer_values : Leaves → List Name → List Name
outer_values Nothing v = v
outer_values Function v = drop 2 v
outer_values Abstraction v = v
outer_values Binding v = drop 1 v
outer_values Opening v = drop 1 v

abbrev pub outer_types : Leaves → List Name → List Name
outer_types Nothing a = a
outer_types Function a = a
outer_types Abstraction a = drop 1 a
outer_types Binding a = a
outer_types Opening a = drop 1 a

abbrev pub values_left : List ℕ → Todo → List Name → List Name
values_left text (NameIt n) v = spelled text n ∷ v
values_left text (NameBoth t n) v = spelled text n ∷ v
values_left text (Put s step names) v = outer_values names v
values_left text _ v = v

abbrev pub types_left : List ℕ → Todo → List Name → List Name
types_left text (NameBoth t n) a = spelled text t ∷ a
types_left text (Put s step names) a = outer_types names a
types_left text _ a = a

-- what one task makes of the terms ts
abbrev pub Does : List ℕ → Todo → List Name → List Name → List Tm → List Tm → Type 0
Does text (Bind e) v a ts us = (d : Tm) × TermOf text v a e d × (us ≡ ts ++ d ∷ [])
Does text (BindAll es) v a ts us = (ds : List Tm) × TermsOf text v a es (tms ds) × (us ≡ ts ++ ds)
Does text (NameIt n) v a ts us = us ≡ ts
Does text (NameBoth t n) v a ts us = us ≡ ts
Does text (UseAt s t) v a ts us = (ty : FType) × TypeOf text a t (tree ty) × (us ≡ stacked (place s) (form.Inst ty) ts)
Does text (PackAt s h t) v a ts us =
    (ty : FType) × TypeOf text a t (tree ty) × (us ≡ stacked (place s) (form.Pack h ty) ts)
Does text (Put s step names) v a ts us = us ≡ stacked (place s) step ts

-- and what all do
abbrev pub DoAll : List ℕ → List Todo → List Name → List Name → List Tm → List Tm → Type 0
DoAll text [] v a ts us = ts ≡ us
DoAll text (t ∷ tds) v a ts us = (ms : List Tm) × Does text t v a ts ms
    × DoAll text tds (values_left text t v) (types_left text t a) ms us

-- the uses of names that are still to come, in text order
abbrev pub uses_of : List ℕ → Todo → List Name → List Name → List Use
uses_of text (Bind e) v a = uses text v a e
uses_of text (BindAll es) v a = all_uses text v a es
uses_of text (UseAt s t) v a = type_uses text a t
uses_of text (PackAt s h t) v a = type_uses text a t
uses_of text _ v a = []

abbrev pub uses_left : List ℕ → List Todo → List Name → List Name → List Use
uses_left text [] v a = []
uses_left text (t ∷ tds) v a = uses_of text t v a ++ uses_left text tds (values_left text t v) (types_left text t a)

-- how many terms there are
abbrev pub count : RawTms → ℕ
count NoRawTms = 0
count (MoreRawTms e es) = 1 + count es

-- n terms are enough for the forms that are to be put, and one is left at the end
abbrev pub Enough : List Todo → ℕ → Type 0
Enough [] n = n ≡ 1
Enough (Bind e ∷ tds) n = Enough tds (n + 1)
Enough (BindAll es ∷ tds) n = Enough tds (n + count es)
Enough (NameIt x ∷ tds) n = Enough tds n
Enough (NameBoth t x ∷ tds) n = Enough tds n
Enough (UseAt s t ∷ tds) n = (1 ≤ n) × Enough tds n
Enough (PackAt s h t ∷ tds) n = (1 ≤ n) × Enough tds n
Enough (Put s step names ∷ tds) n = (arity step ≤ n) × Enough tds (n - arity step + 1)

-- the steps that are left, at most
abbrev pub field_steps : RawTms → ℕ
field_steps NoRawTms = 1
field_steps (MoreRawTms e es) = 4 * nodes e + field_steps es

abbrev pub steps : List Todo → ℕ
steps [] = 0
steps (Bind e ∷ tds) = 4 * nodes e - 1 + steps tds
steps (BindAll es ∷ tds) = field_steps es + steps tds
steps (NameIt x ∷ tds) = 1 + steps tds
steps (NameBoth t x ∷ tds) = 1 + steps tds
steps (UseAt s t ∷ tds) = 1 + steps tds
steps (PackAt s h t ∷ tds) = 1 + steps tds
steps (Put s step names ∷ tds) = 1 + steps tds

abbrev pub stand : List Todo → List Name → List Name → List Tm → Stand
stand tds v a ts = record { todo = tds; values = v; types = a; made = ts }

-- y follows x: what y comes to x comes to, and where y stops x stops
pub record Follows (text : List ℕ) (x y : Stand) : Type 0 where
  pub comes : (us : List Tm) → DoAll text y.todo y.values y.types y.made us →
      DoAll text x.todo x.values x.types x.made us
  pub stops : (e : Unresolved) → StopsAt text (uses_left text y.todo y.values y.types) e →
      StopsAt text (uses_left text x.todo x.values x.types) e
  pub enough : Enough x.todo (length x.made) → Enough y.todo (length y.made)

-- and less is left to do
abbrev pub Steps : List ℕ → Stand → Stand → Type 0
Steps text x y = Follows text x y × (steps y.todo < steps x.todo)

-- the task is done next: a state follows the one before, or the binding stops at a name that the task uses
abbrev pub Goes : List ℕ → Todo → State → State → Result (Unit {0}) Unresolved → Type 0
Goes text t old new r =
    MatchResult r
    (λ u. Steps text (stand (t ∷ todos old.tasks.items) old.values old.types (trees_of old.stack))
    (stand (todos new.tasks.items) new.values new.types (trees_of new.stack)))
    (λ e. StopsAt text (uses_of text t old.values old.types) e)
