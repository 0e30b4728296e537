-- The trees of types that are made only where they are needed, by the items of lists of them.
use Rattle.std.proofs.Common.{◌≡◌, ◌<◌, ℕ, ◌+◌, List, [], ◌∷◌, ◌++◌, Vec, Global, Bool, true, refl, sym, ap, ap₂}
use Rattle.std.proofs.Common.{◌∙◌, arith}
use Rattle.std.proofs.Common.{length, take, get_or, map}
use mathlib.Core.Former.{Count}
use Rattle.a_terms.specs.ReadLaws.{took, asnoc, fsnoc, atrees_snoc, afields_snoc}
use Rattle.a_terms.specs.Tree as a
use Rattle.a_terms.specs.Typing.{aset}
use Rattle.a_terms.specs.Read.{atree, atrees, afields}
use Rattle.a_terms.specs.declared.types.AType.{AType}
use Rattle.a_pass.specs.declared.state.Seen.{Seen}
use Rattle.a_pass.specs.declared.state.TypeOf.{TypeOf, Row_of-TypeOf, end_of-TypeOf, more_of-TypeOf}
use Rattle.a_pass.specs.declared.state.TypeOf.{items-the_row-TypeOf, items_hidden-the_row-TypeOf-0}
use Rattle.a_pass.specs.declared.state.TypeOf.TheVariants as T
use Rattle.a_pass.specs.Scope.{all_of, row_types, type_in, type_of, types_in}

abbrev kind_row : TypeOf → (n : Count) × Row_of-TypeOf n
kind_row (T.Tuple' _ row) = (_, row)
kind_row _ = (_, end_of-TypeOf)

row_items : (g : List a.ATy) (n : Count) (row : Row_of-TypeOf n) → row_types g row ≡ all_of g (items-the_row-TypeOf n
    row)
row_items g n end_of-TypeOf = refl
row_items g n (more_of-TypeOf t rest) = ap (a.MoreATys (type_of g t)) (row_items g _ rest)

pub tuple_kind : (g : List a.ATy) (v : Vec TypeOf Global) → type_of g (T.Tuple v) ≡ a.ATuple (aset (all_of g v.items))
tuple_kind g v =
    let row = kind_row (T.Tuple v) in
    ap (λ ts. a.ATuple (aset ts)) (row_items g row.0 row.1 ∙ ap (all_of g) (items_hidden-the_row-TypeOf-0 v))

pub is_kinds : (g : List a.ATy) (self : TypeOf) (v : Vec TypeOf Global) (xs : List TypeOf) → self ≡ T.Tuple v →
    xs ≡ v.items → type_of g self ≡ a.ATuple (aset (all_of g xs))
is_kinds g self v xs is same =
    ap (type_of g) is ∙ tuple_kind g v ∙ ap (λ ys. a.ATuple (aset (all_of g ys))) (sym same)

pub kinds_types : (g : List a.ATy) (ts : List TypeOf) (ss : List Seen) → map (type_of g) ts ≡ map (type_in g) ss →
    all_of g ts ≡ types_in g ss
kinds_types g [] [] h = refl
kinds_types g [] (s ∷ ss) h = absurd (omega (arith, ap length h))
kinds_types g (t ∷ ts) [] h = absurd (omega (arith, ap length h))
kinds_types g (t ∷ ts) (s ∷ ss) h = ap₂ a.MoreATys (cc h) (kinds_types g ts ss (cc h))

all_snoc : (g : List a.ATy) (ts : List TypeOf) (t : TypeOf) → all_of g (ts ++ t ∷ []) ≡ asnoc (all_of g ts) (type_of
    g t)
all_snoc g [] t = refl
all_snoc g (u ∷ ts) t = ap (a.MoreATys (type_of g u)) (all_snoc g ts t)

full_snoc : (g : List a.ATy) (ts : List TypeOf) (t : TypeOf) →
    aset (all_of g (ts ++ t ∷ [])) ≡ fsnoc (aset (all_of g ts)) (type_of g t) true
full_snoc g [] t = refl
full_snoc g (u ∷ ts) t = ap (a.MoreAFields (type_of g u) true) (full_snoc g ts t)

-- lists that are made one by one
pub all_push : (g : List a.ATy) (xs : List AType) (x : AType) (ts : List TypeOf) (i : ℕ) (t : TypeOf) (new : List
    AType) →
    i < length ts → t ≡ get_or ts i t → new ≡ xs ++ x ∷ [] → atree x ≡ type_of g t →
    atrees xs ≡ all_of g (take i ts) → atrees new ≡ all_of g (take (i + 1) ts)
all_push g xs x ts i t new lt is n same h =
    ap atrees n ∙ atrees_snoc xs x ∙ ap₂ asnoc h same
    ∙ sym (ap (all_of g) (took ts i t lt is) ∙ all_snoc g (take i ts) t)

pub full_push : (g : List a.ATy) (xs : List (AType × Bool)) (x : AType) (ts : List TypeOf) (i : ℕ) (t : TypeOf)
    (new : List (AType × Bool)) → i < length ts → t ≡ get_or ts i t → new ≡ xs ++ (x, true) ∷ [] →
    atree x ≡ type_of g t → afields xs ≡ aset (all_of g (take i ts)) → afields new ≡ aset (all_of g (take (i + 1) ts))
full_push g xs x ts i t new lt is n same h =
    ap afields n ∙ afields_snoc xs (x, true) ∙ ap₂ (λ us u. fsnoc us u true) h same
    ∙ sym (ap (λ ys. aset (all_of g ys)) (took ts i t lt is) ∙ full_snoc g (take i ts) t)
