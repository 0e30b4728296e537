-- How the resolving of a whole follows from that of its parts.
use Rattle.std.proofs.Common.{◌≡◌, ◌<◌, ◌≤◌, ◌+◌, ℕ, ℤ, List, [], ◌∷◌, ◌++◌, map, take, drop, length, get_or, Vec}
use Rattle.std.proofs.Common.{Global, refl, sym, ◌∙◌, ap, subst, append_assoc, true, false}
use Rattle.std.proofs.lemmas.List.{map-append, take_more, take-append-drop, drop_more, take_all}
use mathlib.Core.Former.{Count}
use Rattle.idx_core.specs.declared.span.Span.{Span}
use Rattle.idx_core.specs.Names.{Name, IsAbsent}
use Rattle.f_terms.specs.declared.types.FType.{FType, Row_of-FType, end_of-FType}
use Rattle.f_terms.specs.declared.types.FType.TheVariants as ftype
use Rattle.f_terms.specs.Ty.{Ty, tys}
use Rattle.f_terms.specs.Tm.{SNum}
use Rattle.f_terms.specs.Read.{tree, place}
use Rattle.f_grammar.specs.Raw.{RawTy, RTuple, raw_tys, RawTm, RVar, RNum}
use Rattle.f_grammar.specs.Read.{type_of}
use Rattle.f_grammar.specs.declared.raw.RawType.{RawType}
use Rattle.f_grammar.specs.declared.raw.RawType.TheVariants as rtype
use Rattle.f_grammar.proofs.Typing.{type_Tuple}
use Rattle.f_grammar.specs.Scope.{spelled, use_at, TypeOf, of_tuple, TypesOf, of_no_types, of_more_types, TermOf}
use Rattle.f_grammar.specs.Scope.{of_num, Use, type_uses, types_uses, uses, AllBound}
use Rattle.f_parser.specs.Resolve.{StopsAt}
use Rattle.f_parser.specs.declared.resolve.Unresolved.{Unresolved}
use Rattle.f_parser.specs.declared.resolve.Unresolved.TheVariants.{Memory, Value, «Type»}
use Rattle.f_grammar.proofs.Bound.{types_bound, first_left, first_right}
use Rattle.f_terms.proofs.Trees.{tree_Tuple as tuple_type}

-- a stop in a part
pub stops_left : (text : List ℕ) (a b : List Use) (e : Unresolved) → StopsAt text a e → StopsAt text (a ++ b) e
stops_left text a b Memory h = tt
stops_left text a b (Value s) h = (h.0, first_left text a b h.0 h.1, h.2, h.3)
stops_left text a b («Type» s) h = (h.0, first_left text a b h.0 h.1, h.2, h.3)

pub stops_right : (text : List ℕ) (a b : List Use) (e : Unresolved) → AllBound text a → StopsAt text b e →
    StopsAt text (a ++ b) e
stops_right text a b Memory g h = tt
stops_right text a b (Value s) g h = (h.0, first_right text a b h.0 g h.1, h.2, h.3)
stops_right text a b («Type» s) g h = (h.0, first_right text a b h.0 g h.1, h.2, h.3)

-- the tree of a tuple type, and of a tuple
abbrev type_row : FType → (n : Count) × Row_of-FType n
type_row (ftype.Tuple' _ row) = (_, row)
type_row _ = (_, end_of-FType)

-- types one after the other
module _ (text : List ℕ) (a : List Name) where
  pub types_push : (us : List RawTy) (ws : List Ty) (u : RawTy) (w : Ty) → TypesOf text a (raw_tys us) (tys ws) →
      TypeOf text a u w → TypesOf text a (raw_tys (us ++ u ∷ [])) (tys (ws ++ w ∷ []))
  types_push [] [] u w h g = of_more_types g of_no_types
  types_push [] (x ∷ ws) u w h g = absurd (elim h [ ])
  types_push (x ∷ us) [] u w h g = absurd (elim h [ ])
  types_push (x ∷ us) (y ∷ ws) u w (of_more_types p h) g = of_more_types p (types_push us ws u w h g)

  pub types_uses_append : (us vs : List RawTy) →
      types_uses text a (raw_tys (us ++ vs)) ≡ types_uses text a (raw_tys us) ++ types_uses text a (raw_tys vs)
  types_uses_append [] vs = refl
  types_uses_append (u ∷ us) vs = ap (λ (x : List Use). type_uses text a u ++ x) (types_uses_append us vs)
      ∙ sym (append_assoc (type_uses text a u) (types_uses text a (raw_tys us)) (types_uses text a (raw_tys vs)))

  -- a stop at one of them
  pub types_stop : (us vs : List RawTy) (u : RawTy) (ws : List Ty) (e : Unresolved) →
      TypesOf text a (raw_tys us) (tys ws) → StopsAt text (type_uses text a u) e →
      StopsAt text (types_uses text a (raw_tys (us ++ u ∷ vs))) e
  types_stop us vs u ws e h g = rw types_uses_append
      (stops_right text (types_uses text a (raw_tys us)) (type_uses text a u ++ types_uses text a (raw_tys vs)) e
      (types_bound h) (stops_left text (type_uses text a u) (types_uses text a (raw_tys vs)) e g))

-- a list by an item that a loop reads
split_at : {X Y : Type 0} (f : X → Y) (xs : List X) (i : ℕ) (x : X) → x ≡ get_or xs i x → i < length xs →
    map f xs ≡ map f (take i xs) ++ f x ∷ map f (drop (i + 1) xs)
split_at {X} f xs i x e l =
    let d : drop i xs ≡ x ∷ drop (i + 1) xs = drop_more xs i x l ∙ ap (λ (y : X). y ∷ drop (i + 1) xs) (sym e) in
    ap (λ (ys : List X). map f ys) (sym (take-append-drop i xs)) ∙ (map-append f (take i xs) (drop i xs) ∙ rw d refl)

map_take : {X Y : Type 0} (f : X → Y) (xs : List X) (i : ℕ) (x : X) → x ≡ get_or xs i x → i < length xs →
    map f (take (i + 1) xs) ≡ map f (take i xs) ++ f x ∷ []
map_take {X} f xs i x e l =
    ap (λ (ys : List X). map f ys) (take_more xs i x l ∙ ap (λ (y : X). take i xs ++ y ∷ []) (sym e))
    ∙ map-append f (take i xs) (x ∷ [])

-- the loop over the parts of a tuple type
module _ (text : List ℕ) (a : List Name) (self : RawType) (parts : Vec RawType Global) (xs : List RawType)
    (is : self ≡ rtype.Tuple parts) (same : xs ≡ parts.items) where
  type_tree : type_of self ≡ RTuple (raw_tys (map type_of xs))
  type_tree =
      ap type_of is ∙ (type_Tuple parts ∙ ap (λ (ys : List RawType). RTuple (raw_tys (map type_of ys))) (sym same))

  pub type_parts_stop : (i : ℕ) (x : RawType) (ws : List Ty) (e : Unresolved) → x ≡ get_or xs i x → i < length xs →
      TypesOf text a (raw_tys (map type_of (take i xs))) (tys ws) →
      StopsAt text (type_uses text a (type_of x)) e → StopsAt text (type_uses text a (type_of self)) e
  type_parts_stop i x ws e g l h s = rw (type_tree, split_at type_of xs i x g l)
      (types_stop text a (map type_of (take i xs)) (map type_of (drop (i + 1) xs)) (type_of x) ws e h s)

  pub type_parts_whole : (n : ℕ) (made : Vec FType Global) → length xs ≤ n →
      TypesOf text a (raw_tys (map type_of (take n xs))) (tys (map tree made.items)) →
      TypeOf text a (type_of self) (tree (ftype.Tuple made))
  type_parts_whole n made l h =
      rw (type_tree, tuple_type made)
      (of_tuple (subst (λ (ys : List RawType). TypesOf text a (raw_tys (map type_of ys)) (tys (map tree made.items)))
      (take_all n xs l) h))

pub type_parts_more : (text : List ℕ) (a : List Name) (xs : List RawType) (i : ℕ) (x : RawType) (old new : List FType)
    (t : FType) → x ≡ get_or xs i x → i < length xs → new ≡ old ++ t ∷ [] →
    TypesOf text a (raw_tys (map type_of (take i xs))) (tys (map tree old)) → TypeOf text a (type_of x) (tree t) →
    TypesOf text a (raw_tys (map type_of (take (i + 1) xs))) (tys (map tree new))
type_parts_more text a xs i x old new t g l e h s =
    rw (map_take type_of xs i x g l, e, map-append tree old (t ∷ []))
    (types_push text a (map type_of (take i xs)) (map tree old) (type_of x) (tree t) h s)

-- a name that has no binder
pub type_name_stop : (text : List ℕ) (a : List Name) (self : RawType) (s : Span) → self ≡ rtype.Name s →
    IsAbsent (spelled text s) a → StopsAt text (type_uses text a (type_of self)) («Type» s)
type_name_stop text a self s is h =
    rw is (use_at s true a, record { before = []; after = []; place = refl; bound = tt; unbound = h }, refl, refl)

pub name_stop : (text : List ℕ) (v a : List Name) (raw : RawTm) (s : Span) → raw ≡ RVar s →
    IsAbsent (spelled text s) v → StopsAt text (uses text v a raw) (Value s)
name_stop text v a raw s is h =
    rw is (use_at s false v, record { before = []; after = []; place = refl; bound = tt; unbound = h }, refl, refl)

-- a number, which the code keeps in 64 bits
pub number_bound : (text : List ℕ) (v a : List Name) (raw : RawTm) (s : Span) (n m : ℤ) → raw ≡ RNum s n → m ≡ n →
    TermOf text v a raw (SNum (place s) m)
number_bound text v a raw s n m is e = rw (is, e) (of_num s n)
