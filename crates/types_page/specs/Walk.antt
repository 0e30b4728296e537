-- The walk over a term that finds what its forms bind: what is there, what is still to be done, and what that does.
use Rattle.std.specs.Prelude.{◌≡◌, ◌≤◌, ◌<◌, ℕ, ◌+◌, ◌-◌, List, [], ◌∷◌, ◌++◌, map, slice_set}
use Rattle.f_terms.specs.Ty.{Ty, TInt, TArrow, TAll, TTuple, TRef, Tys, NoTys, MoreTys, shift, put, Below, PutFits}
use Rattle.f_terms.specs.Tm.{Tm, SVar, SNum, SFix, SApp, SGen, SInst, STuple, SProj, SArith, SIf0, SLet, SPack}
use Rattle.f_terms.specs.Tm.{SOpen, SRef, SDeref, SAssign, Tms, NoTms, MoreTms, plain, plain_all, tms}
use Rattle.f_terms.specs.Limits.{Within, nodes, nodes_all}
use Rattle.f_terms.specs.Faults.{Passes, PassAll}
use Rattle.f_terms.specs.Typing.{ty_at, field_ty, raised, in_fix, in_open}
use Rattle.f_terms.specs.Noted.{or_int, result_of, body_of, fields_of, opened_of, held_of, outside, type_of}
use Rattle.f_terms.specs.Read.{tree}
use Rattle.f_terms.specs.ReadTerm.{node_at}
use Rattle.types_page.specs.Binders.{Kind, Value, Function, TypeName, Opened, Binder, binder}
use Rattle.types_page.specs.declared.bound.Bound.{Bound}
use Rattle.types_page.specs.declared.bound.Bound.TheVariants as bound
use Rattle.types_page.specs.declared.bound.Found.{Found}
use Rattle.types_page.specs.declared.part.Part.{Part}
use Rattle.types_page.specs.declared.part.Parts.{Parts}
use Rattle.types_page.specs.declared.task.Task.{Task}
use Rattle.types_page.specs.declared.task.Task.TheVariants as task
use Rattle.types_page.specs.declared.state.Name.{Name}
use Rattle.types_page.specs.declared.state.State.{State}

-- ---- what the forms of a term bind, as a function

abbrev mutual
  pub binders : Tm → ℕ → Tys → List Binder
  binders (SVar s i) n g = []
  binders (SNum s z) n g = []
  binders (SFix s arg res e) n g = binder s n (Function arg res) ∷ binders e n (in_fix arg res g)
  binders (SApp s f x) n g = binders f n g ++ binders x n g
  binders (SGen s e) n g = binder s n TypeName ∷ binders e (n + 1) (raised g)
  binders (SInst s e t) n g = binders e n g
  binders (STuple s es) n g = all_binders es n g
  binders (SProj s i e) n g = binders e n g
  binders (SArith s op a b) n g = binders a n g ++ binders b n g
  binders (SIf0 s c a b) n g = binders c n g ++ (binders a n g ++ binders b n g)
  binders (SLet s a b) n g =
      binder s n (Value (type_of (plain a) g)) ∷ (binders a n g ++ binders b n (MoreTys (type_of (plain a) g) g))
  binders (SPack s h e r) n g = binders e n g
  binders (SOpen s a b) n g =
      binder s n (Opened (opened_of (type_of (plain a) g)))
      ∷ (binders a n g ++ binders b (n + 1) (in_open (opened_of (type_of (plain a) g)) g))
  binders (SRef s e) n g = binders e n g
  binders (SDeref s e) n g = binders e n g
  binders (SAssign s a b) n g = binders a n g ++ binders b n g

  pub all_binders : Tms → ℕ → Tys → List Binder
  all_binders NoTms n g = []
  all_binders (MoreTms e es) n g = binders e n g ++ all_binders es n g

-- ---- what is there

-- the items of a stack, the last one first
abbrev pub back_on : {A B : Type 0} → (A → B) → List B → List A → List B
back_on f bs [] = bs
back_on f bs (a ∷ others) = back_on f (f a ∷ bs) others

abbrev pub back : {A B : Type 0} → (A → B) → List A → List B
back f items = back_on f [] items

-- the first type, or `int`; all but the first
abbrev pub first : List Ty → Ty
first [] = TInt
first (t ∷ ts) = t

abbrev pub rest : {A : Type 0} → List A → List A
rest [] = []
rest (x ∷ xs) = xs

-- a value name: its type, under so many type names
pub record Named : Type 0 where
  pub ty : Ty
  pub at : ℕ

-- the types of the value names as they stand under n type names, the innermost name first
abbrev pub context : ℕ → List Named → Tys
context n [] = NoTys
context n (b ∷ bs) = MoreTys (shift (n - b.at) 0 b.ty) (context n bs)

-- each was bound under no more type names than are around, where its type is in scope, and the type keeps the limits
abbrev pub IsScope : ℕ → List Named → Type 0
IsScope n [] = Unit {0}
IsScope n (b ∷ bs) = (b.at ≤ n) × Below b.at b.ty × Within b.ty × IsScope n bs

-- what was found; the value names in scope, the innermost first; the types of the parts that wait for their form, the
-- last first; how many type names are around
pub record Now : Type 0 where
  pub found : List Binder
  pub scope : List Named
  pub types : List Ty
  pub around : ℕ

abbrev pub names_of : Now → Tys
names_of x = context x.around x.scope

abbrev pub HasScope : Now → Type 0
HasScope x = IsScope x.around x.scope

-- other types
abbrev pub typed : Now → List Ty → Now
typed x ts = record { found = x.found; scope = x.scope; types = ts; around = x.around }

-- one binder more
abbrev pub finds : Now → Binder → Now
finds x b = record { found = x.found ++ b ∷ []; scope = x.scope; types = x.types; around = x.around }

-- ---- what is to be done

-- a term is to be gone through; fields of the tuple whose type is the last; the last type is that of one more field of
-- it; the first part of a `let` or an `open` is done, whose binder has this number; all parts of a form are done
pub data Todo : Type 0 where
  Visit : Tm → Todo
  VisitAll : Tms → Todo
  Add : Todo
  Bind : Tm → ℕ → Todo
  Join : Tm → Todo

-- a field more
abbrev pub with_field : Tys → Ty → Tys
with_field NoTys t = MoreTys t NoTys
with_field (MoreTys u us) t = MoreTys u (with_field us t)

abbrev pub added : Now → Now
added x = typed x (TTuple (with_field (fields_of (first (rest x.types))) (first x.types)) ∷ rest (rest x.types))

-- a term that was gone through: what it binds was found, and its type is the last
abbrev pub visited : Tm → Now → Now
visited e x = record {
  found = x.found ++ binders e x.around (names_of x);
  scope = x.scope;
  types = type_of (plain e) (names_of x) ∷ x.types;
  around = x.around;
}

abbrev pub all_visited : Tms → Now → Now
all_visited NoTms x = x
all_visited (MoreTms e es) x = all_visited es (added (visited e x))

-- the type of the first part is known, and the name of its value is in scope
abbrev pub bind : Tm → ℕ → Now → Now
bind (SLet s a b) k x = record {
  found = slice_set x.found k (binder s x.around (Value (first x.types)));
  scope = record { ty = first x.types; at = x.around } ∷ x.scope;
  types = rest x.types;
  around = x.around;
}
bind (SOpen s a b) k x = record {
  found = slice_set x.found k (binder s x.around (Opened (opened_of (first x.types))));
  scope = record { ty = opened_of (first x.types); at = x.around + 1 } ∷ x.scope;
  types = rest x.types;
  around = x.around + 1;
}
bind other k x = x

-- the form's type stands for those of its parts, and what it has bound is left
abbrev pub join : Tm → Now → Now
join (SFix s arg res e) x = record {
  found = x.found;
  scope = rest (rest x.scope);
  types = TArrow arg res ∷ rest x.types;
  around = x.around;
}
join (SApp s f e) x = typed x (result_of (first (rest x.types)) ∷ rest (rest x.types))
join (SGen s e) x = record {
  found = x.found;
  scope = x.scope;
  types = TAll (first x.types) ∷ rest x.types;
  around = x.around - 1;
}
join (SInst s e t) x = typed x (put 0 t (body_of (first x.types)) ∷ rest x.types)
join (SProj s i e) x = typed x (or_int (field_ty (fields_of (first x.types)) i) ∷ rest x.types)
join (SArith s op a b) x = typed x (TInt ∷ rest (rest x.types))
join (SIf0 s c a b) x = typed x (first (rest x.types) ∷ rest (rest (rest x.types)))
join (SLet s a b) x = record { found = x.found; scope = rest x.scope; types = x.types; around = x.around }
join (SPack s h e r) x = typed x (r ∷ rest x.types)
join (SOpen s a b) x = record {
  found = x.found;
  scope = rest x.scope;
  types = outside (first x.types) ∷ rest x.types;
  around = x.around - 1;
}
join (SRef s e) x = typed x (TRef (first x.types) ∷ rest x.types)
join (SDeref s e) x = typed x (held_of (first x.types) ∷ rest x.types)
join (SAssign s a b) x = typed x (TTuple NoTys ∷ rest (rest x.types))
join other x = x

abbrev pub done : Todo → Now → Now
done (Visit e) x = visited e x
done (VisitAll es) x = all_visited es x
done Add x = added x
done (Bind e k) x = bind e k x
done (Join e) x = join e x

abbrev pub all_done : List Todo → Now → Now
all_done [] x = x
all_done (t ∷ ts) x = all_done ts (done t x)

-- a term, or several, pass every check where they stand, and there is room for the numbers of their type names
abbrev pub Checked : Tm → Now → Type 0
Checked e x = (t : Ty) × Passes e x.around (names_of x) t × (x.around + nodes (plain e) ≤ 4294967296)

abbrev pub AllChecked : Tms → Now → Type 0
AllChecked es x = (ts : Tys) × PassAll es x.around (names_of x) ts
    × (x.around + nodes_all (plain_all es) ≤ 4294967296)

-- the sums of the put that a form's type takes are numbers of 64 bits
abbrev pub HasRoom : Tm → Now → Type 0
HasRoom (SInst s e t) x = PutFits 0 t 0 (body_of (first x.types))
HasRoom (SOpen s a b) x = PutFits 0 TInt 0 (first x.types)
HasRoom other x = Unit {0}

-- so it can be done: a name more can be counted where a form binds one
abbrev pub Ready : Todo → Now → Type 0
Ready (Visit e) x = Checked e x
Ready (VisitAll es) x = AllChecked es x
Ready (Bind e k) x = x.around ≤ 4294967296
Ready (Join e) x = HasRoom e x
Ready Add x = Unit {0}

-- each of them can be done in its turn, and after it the value names are as they have to be
abbrev pub AreReady : List Todo → Now → Type 0
AreReady [] x = Unit {0}
AreReady (t ∷ ts) x = Ready t x × HasScope (done t x) × AreReady ts (done t x)

-- ---- the first step of a form

-- a function is found, and its names are in scope
abbrev pub begun_fix : ℕ → (arg res : Ty) → Now → Now
begun_fix at arg res x = record {
  found = x.found ++ record { at = at; names = x.around; kind = Function arg res } ∷ [];
  scope = record { ty = arg; at = x.around } ∷ record { ty = TArrow arg res; at = x.around } ∷ x.scope;
  types = x.types;
  around = x.around;
}

-- what it does at once
abbrev pub begun : Tm → Now → Now
begun (SVar s i) x = typed x (or_int (ty_at (names_of x) i) ∷ x.types)
begun (SNum s z) x = typed x (TInt ∷ x.types)
begun (SFix s arg res e) x = begun_fix s.0 arg res x
begun (SGen s e) x = record {
  found = x.found ++ binder s x.around TypeName ∷ [];
  scope = x.scope;
  types = x.types;
  around = x.around + 1;
}
begun (STuple s es) x = typed x (TTuple NoTys ∷ x.types)
begun (SLet s a b) x = finds x (binder s x.around (Value TInt))
begun (SOpen s a b) x = finds x (binder s x.around (Opened TInt))
begun other x = x

-- and what it leaves to be done, where so many binders were found before
abbrev pub left : Tm → ℕ → List Todo → List Todo
left (SVar s i) k ts = ts
left (SNum s z) k ts = ts
left (SFix s a r e) k ts = Visit e ∷ Join (SFix s a r e) ∷ ts
left (SApp s f x) k ts = Visit f ∷ Visit x ∷ Join (SApp s f x) ∷ ts
left (SGen s e) k ts = Visit e ∷ Join (SGen s e) ∷ ts
left (SInst s e t) k ts = Visit e ∷ Join (SInst s e t) ∷ ts
left (STuple s es) k ts = VisitAll es ∷ ts
left (SProj s i e) k ts = Visit e ∷ Join (SProj s i e) ∷ ts
left (SArith s op a b) k ts = Visit a ∷ Visit b ∷ Join (SArith s op a b) ∷ ts
left (SIf0 s c a b) k ts = Visit c ∷ Visit a ∷ Visit b ∷ Join (SIf0 s c a b) ∷ ts
left (SLet s a b) k ts = Visit a ∷ Bind (SLet s a b) k ∷ Visit b ∷ Join (SLet s a b) ∷ ts
left (SPack s h e r) k ts = Visit e ∷ Join (SPack s h e r) ∷ ts
left (SOpen s a b) k ts = Visit a ∷ Bind (SOpen s a b) k ∷ Visit b ∷ Join (SOpen s a b) ∷ ts
left (SRef s e) k ts = Visit e ∷ Join (SRef s e) ∷ ts
left (SDeref s e) k ts = Visit e ∷ Join (SDeref s e) ∷ ts
left (SAssign s a b) k ts = Visit a ∷ Visit b ∷ Join (SAssign s a b) ∷ ts

-- what fields leave to be done
abbrev pub left_fields : Tms → List Todo → List Todo
left_fields NoTms ts = ts
left_fields (MoreTms e es) ts = Visit e ∷ Add ∷ VisitAll es ∷ ts

-- nothing is found yet
abbrev pub start : Now
start = record { found = []; scope = []; types = []; around = 0 }

-- more than the steps that a term takes
abbrev mutual
  pub weight : Tm → ℕ
  weight (SVar s i) = 1
  weight (SNum s z) = 1
  weight (SFix s a r e) = 4 + weight e
  weight (SApp s f x) = 4 + weight f + weight x
  weight (SGen s e) = 4 + weight e
  weight (SInst s e t) = 4 + weight e
  weight (STuple s es) = 4 + weight_all es
  weight (SProj s i e) = 4 + weight e
  weight (SArith s op a b) = 4 + weight a + weight b
  weight (SIf0 s c a b) = 4 + weight c + weight a + weight b
  weight (SLet s a b) = 4 + weight a + weight b
  weight (SPack s h e r) = 4 + weight e
  weight (SOpen s a b) = 4 + weight a + weight b
  weight (SRef s e) = 4 + weight e
  weight (SDeref s e) = 4 + weight e
  weight (SAssign s a b) = 4 + weight a + weight b

  pub weight_all : Tms → ℕ
  weight_all NoTms = 1
  weight_all (MoreTms e es) = 2 + weight e + weight_all es

abbrev pub steps : List Todo → ℕ
steps [] = 0
steps (Visit e ∷ ts) = weight e + steps ts
steps (VisitAll es ∷ ts) = weight_all es + steps ts
steps (Add ∷ ts) = 1 + steps ts
steps (Bind e k ∷ ts) = 1 + steps ts
steps (Join e ∷ ts) = 1 + steps ts

-- what is there and what is to be done come to the same as before, and less is to be done
pub record Steps (old : List Todo) (was : Now) (new : List Todo) (now : Now) : Type 0 where
  pub same : all_done new now ≡ all_done old was
  pub scope : HasScope now
  pub ready : AreReady new now
  pub less : steps new < steps old

-- ---- how the code keeps it

abbrev pub kind : Bound → Kind
kind (bound.Value t) = Value (tree t)
kind (bound.Function a r) = Function (tree a.now) (tree r.now)
kind bound.TypeName = TypeName
kind (bound.Opened t) = Opened (tree t)

abbrev pub binder_of : Found → Binder
binder_of f = record { at = f.at; names = f.names; kind = kind f.bound }

abbrev pub named : Name → Named
named n = record { ty = tree n.ty; at = n.around }

abbrev pub now : State → Now
now s = record {
  found = map binder_of s.found.items;
  scope = back named s.scope.items;
  types = back tree s.types.items;
  around = s.around;
}

abbrev pub part_tree : Part → Tm
part_tree p = node_at p.term.now p.at

abbrev pub part_trees : Parts → Tms
part_trees ps = tms (map (node_at ps.term.now) ps.numbers.now)

abbrev pub todo : Task → Todo
todo (task.Visit p) = Visit (part_tree p)
todo (task.Fields ps) = VisitAll (part_trees ps)
todo task.Add = Add
todo (task.Bind p k) = Bind (part_tree p) k
todo (task.Join p) = Join (part_tree p)

-- the last of a stack is the next
abbrev pub todos : List Task → List Todo
todos ts = back todo ts
