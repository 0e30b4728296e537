-- The trees of what holds a vector, by the vector's items.
use Rattle.std.proofs.Common.{◌≡◌, ℕ, List, [], ◌∷◌, Vec, Global, refl, ap, ap₂, ◌∙◌, sym, Bool, ◌++◌, ◌<◌, ◌+◌, length}
use Rattle.std.proofs.Common.{take, get_or}
use mathlib.Core.Former.{Count}
use Rattle.std.proofs.lemmas.List.{take_more}
use Rattle.idx_core.specs.Over.{At}
use Rattle.a_terms.specs.Tree as a
use Rattle.a_terms.specs.Tree.{over, over_types, over_fields}
use Rattle.a_terms.specs.Read.{atree, atrees, afields, arow, afield_row}
use Rattle.a_terms.specs.declared.types.AType.{AType, Row_of-AType-Tuple-0-2 as FieldRow}
use Rattle.a_terms.specs.declared.types.AType.{end_of-AType-Tuple-0-2 as end_of_fields}
use Rattle.a_terms.specs.declared.types.AType.{more_of-AType-Tuple-0-2 as more_of_fields, Row_of-AType, end_of-AType}
use Rattle.a_terms.specs.declared.types.AType.{more_of-AType, items-the_row-AType, items_hidden-the_row-AType-1}
use Rattle.a_terms.specs.declared.types.AType.{items-the_row-AType-Tuple-0-2, items_hidden-the_row-AType-Tuple-0-2-0}
use Rattle.a_terms.specs.declared.types.AType.TheVariants as A

abbrev a_row : AType → (n : Count) × Row_of-AType n
a_row (A.Code' _ _ row) = (_, row)
a_row _ = (_, end_of-AType)

abbrev field_row : AType → (n : Count) × FieldRow n
field_row (A.Tuple' _ row) = (_, row)
field_row _ = (_, end_of_fields)

a_items : (n : Count) (row : Row_of-AType n) → arow row ≡ atrees (items-the_row-AType n row)
a_items n end_of-AType = refl
a_items n (more_of-AType t rest) = ap (a.MoreATys (atree t)) (a_items _ rest)

field_items : (n : Count) (row : FieldRow n) → afield_row row ≡ afields (items-the_row-AType-Tuple-0-2 n row)
field_items n end_of_fields = refl
field_items n (more_of_fields t b rest) = ap (a.MoreAFields (atree t) b) (field_items _ rest)

pub a_tuple : (v : Vec (AType × Bool) Global) → atree (A.Tuple v) ≡ a.ATuple (afields v.items)
a_tuple v =
    let row = field_row (A.Tuple v) in
    ap a.ATuple (field_items row.0 row.1 ∙ ap afields (items_hidden-the_row-AType-Tuple-0-2-0 v))

pub a_code : (owes : ℕ) (v : Vec AType Global) → atree (A.Code owes v) ≡ a.ACode owes (atrees v.items)
a_code owes v =
    let row = a_row (A.Code owes v) in
    ap (a.ACode owes) (a_items row.0 row.1 ∙ ap atrees (items_hidden-the_row-AType-1 v))

pub is_tuple : (self : AType) (v : Vec (AType × Bool) Global) (xs : List (AType × Bool)) → self ≡ A.Tuple v →
    xs ≡ v.items → atree self ≡ a.ATuple (afields xs)
is_tuple self v xs is same = ap atree is ∙ a_tuple v ∙ ap (λ ys. a.ATuple (afields ys)) (sym same)

pub is_code : (self : AType) (owes : ℕ) (v : Vec AType Global) (xs : List AType) → self ≡ A.Code owes v →
    xs ≡ v.items → atree self ≡ a.ACode owes (atrees xs)
is_code self owes v xs is same = ap atree is ∙ a_code owes v ∙ ap (λ ys. a.ACode owes (atrees ys)) (sym same)

-- one more type at the end
abbrev pub asnoc : a.ATys → a.ATy → a.ATys
asnoc a.NoATys t = a.MoreATys t a.NoATys
asnoc (a.MoreATys u us) t = a.MoreATys u (asnoc us t)

abbrev pub fsnoc : a.AFields → a.ATy → Bool → a.AFields
fsnoc a.NoAFields t b = a.MoreAFields t b a.NoAFields
fsnoc (a.MoreAFields u c us) t b = a.MoreAFields u c (fsnoc us t b)

pub atrees_snoc : (xs : List AType) (x : AType) → atrees (xs ++ x ∷ []) ≡ asnoc (atrees xs) (atree x)
atrees_snoc [] x = refl
atrees_snoc (y ∷ ys) x = ap (a.MoreATys (atree y)) (atrees_snoc ys x)

pub afields_snoc : (xs : List (AType × Bool)) (x : AType × Bool) →
    afields (xs ++ x ∷ []) ≡ fsnoc (afields xs) (atree x.0) x.1
afields_snoc [] x = refl
afields_snoc (y ∷ ys) x = ap (a.MoreAFields (atree y.0) y.1) (afields_snoc ys x)

over_snoc : (f : At a.ATy) (d : ℕ) (us : a.ATys) (t : a.ATy) →
    over_types f d (asnoc us t) ≡ asnoc (over_types f d us) (over f d t)
over_snoc f d a.NoATys t = refl
over_snoc f d (a.MoreATys u us) t = ap (a.MoreATys (over f d u)) (over_snoc f d us t)

over_fsnoc : (f : At a.ATy) (d : ℕ) (us : a.AFields) (t : a.ATy) (b : Bool) →
    over_fields f d (fsnoc us t b) ≡ fsnoc (over_fields f d us) (over f d t) b
over_fsnoc f d a.NoAFields t b = refl
over_fsnoc f d (a.MoreAFields u c us) t b = ap (a.MoreAFields (over f d u) c) (over_fsnoc f d us t b)

pub took : {T : Type 0} (ts : List T) (i : ℕ) (t : T) → i < length ts → t ≡ get_or ts i t →
    take (i + 1) ts ≡ take i ts ++ t ∷ []
took ts i t lt is = take_more ts i t lt ∙ ap (λ y. take i ts ++ y ∷ []) (sym is)

-- lists that are made one by one
pub all_push : (f : At a.ATy) (d : ℕ) (xs : List AType) (x : AType) (ts : List AType) (i : ℕ) (t : AType)
    (new : List AType) → i < length ts → t ≡ get_or ts i t → new ≡ xs ++ x ∷ [] → atree x ≡ over f d (atree t) →
    atrees xs ≡ over_types f d (atrees (take i ts)) → atrees new ≡ over_types f d (atrees (take (i + 1) ts))
all_push f d xs x ts i t new lt is n same h =
    ap atrees n ∙ atrees_snoc xs x ∙ ap₂ asnoc h same ∙ sym (over_snoc f d (atrees (take i ts)) (atree t)) ∙ ap
    (over_types f d) (sym (ap atrees (took ts i t lt is) ∙ atrees_snoc (take i ts) t))

pub fields_push : (f : At a.ATy) (d : ℕ) (xs : List (AType × Bool)) (x : AType) (ts : List (AType × Bool)) (i : ℕ)
    (t : AType × Bool) (new : List (AType × Bool)) → i < length ts → t ≡ get_or ts i t → new ≡ xs ++ (x, t.1) ∷ [] →
    atree x ≡ over f d (atree t.0) → afields xs ≡ over_fields f d (afields (take i ts)) →
    afields new ≡ over_fields f d (afields (take (i + 1) ts))
fields_push f d xs x ts i t new lt is n same h =
    ap afields n ∙ afields_snoc xs (x, t.1) ∙ ap₂ (λ us u. fsnoc us u t.1) h same ∙ sym
    (over_fsnoc f d (afields (take i ts)) (atree t.0) t.1) ∙ ap (over_fields f d)
    (sym (ap afields (took ts i t lt is) ∙ afields_snoc (take i ts) t))

-- at another depth
pub at_types : (f : At a.ATy) (us : a.ATys) (d e : ℕ) → d ≡ e → over_types f d us ≡ over_types f e us
at_types f us d e same = ap (λ i. over_types f i us) same

pub at_type : (f : At a.ATy) (u : a.ATy) (d e : ℕ) → d ≡ e → over f d u ≡ over f e u
at_type f u d e same = ap (λ i. over f i u) same
