-- What is known of names and of the values that wait.
use Rattle.std.proofs.Common.{◌≡◌, ◌∙◌, ◌<◌, ◌≤◌, ◌-◌, ℕ, zero, suc, List, [], ◌∷◌, ◌++◌, Some, length}
use Rattle.std.proofs.Common.{get_or, map, take, drop, refl, sym, ap, ap₂, arith}
use Rattle.std.proofs.lemmas.List.{drop-map, length-map, map-append, take-map}
use Rattle.calc_core.specs.Read.{tree, all_trees}
use Rattle.calc_core.specs.declared.types.CoreType.{CoreType}
use Rattle.c_terms.specs.C.{CTy, CTys, MoreCTys, NoCTys, TCCode, TCTuple}
use Rattle.let_types.specs.Known.{arguments, but_last, chosen, entry_in, entry_of, last, name_or, seen_at, types_in}
use Rattle.let_types.specs.Known.{Entry, Known, enter, nothing, own, put, tuple, tuple_from, with_values}
use Rattle.let_types.specs.Known as k
use Rattle.let_types.specs.KnownRead.{entry, frame, seen}
use Rattle.let_types.specs.declared.closed.Frame.{Frame}
use Rattle.let_types.specs.declared.closed.Seen.{Seen}
use Rattle.let_types.specs.declared.named.Named.{Named}

-- names by level
name_here : (es : List Named) (other : Entry) (l : ℕ) (e : Named) → l < length es → e ≡ get_or es l e →
    entry e ≡ name_or other (map entry es) l
name_here [] other l e lt is = absurd (omega arith)
name_here (x ∷ es) other zero e lt is = ap entry is
name_here (x ∷ es) other (suc l) e lt is = name_here es other l e (omega arith) is

name_none : (es : List Named) (other : Entry) (l : ℕ) → length es ≤ l → other ≡ name_or other (map entry es) l
name_none [] other l le = refl
name_none (x ∷ es) other zero le = absurd (omega arith)
name_none (x ∷ es) other (suc l) le = name_none es other l (omega arith)

pub name_in : (es : List Named) (s : Seen) (l : ℕ) (e : Named) → s.level ≡ Some l → l < length es →
    e ≡ get_or es l e → entry e ≡ entry_in (map entry es) (seen s)
name_in es s l e is lt at = name_here es (entry s.own) l e lt at ∙ ap (chosen (map entry es) (entry s.own)) (sym is)

pub name_out : (es : List Named) (s : Seen) (l : ℕ) → s.level ≡ Some l → length es ≤ l →
    entry s.own ≡ entry_in (map entry es) (seen s)
name_out es s l is le = name_none es (entry s.own) l le ∙ ap (chosen (map entry es) (entry s.own)) (sym is)

-- the last value
pub last_snoc : (ss : List k.Seen) (s : k.Seen) → last (ss ++ s ∷ []) ≡ s
last_snoc [] s = refl
last_snoc (u ∷ []) s = refl
last_snoc (u ∷ w ∷ ss) s = last_snoc (w ∷ ss) s

pub but_last_snoc : (ss : List k.Seen) (s : k.Seen) → but_last (ss ++ s ∷ []) ≡ ss
but_last_snoc [] s = refl
but_last_snoc (u ∷ []) s = refl
but_last_snoc (u ∷ w ∷ ss) s = ap (λ vs. u ∷ vs) (but_last_snoc (w ∷ ss) s)

seen_snoc : (old mid : List Seen) (s : Seen) → old ≡ mid ++ s ∷ [] → map seen old ≡ map seen mid ++ seen s ∷ []
seen_snoc old mid s is = ap (map seen) is ∙ map-append seen mid (s ∷ [])

pub last_seen : (old mid : List Seen) (s : Seen) → old ≡ mid ++ s ∷ [] → seen s ≡ last (map seen old)
last_seen old mid s is = sym (ap last (seen_snoc old mid s is) ∙ last_snoc (map seen mid) (seen s))

pub others_seen : (old mid : List Seen) (s : Seen) → old ≡ mid ++ s ∷ [] → map seen mid ≡ but_last (map seen old)
others_seen old mid s is = sym (ap but_last (seen_snoc old mid s is) ∙ but_last_snoc (map seen mid) (seen s))

-- one more name
abbrev pub with_names : List Entry → List k.Seen → List k.Frame → Known
with_names es vs fs = record { body = record { names = es; values = vs }; around = fs }

pub names_more : (l : ℕ) (old mid new : List Named) (e : Named) → mid ≡ take l old → new ≡ mid ++ e ∷ [] →
    map entry new ≡ take l (map entry old) ++ entry e ∷ []
names_more l old mid new e cut is =
    ap (map entry) (is ∙ ap (λ (es : List Named). es ++ e ∷ []) cut) ∙ map-append entry (take l old) (e ∷ [])
    ∙ ap (λ es. es ++ entry e ∷ []) (sym (take-map entry l old))

pub one_entry : (new old : List Named) (e : Named) → new ≡ old ++ e ∷ [] → old ≡ [] → map entry new ≡ entry e ∷ []
one_entry new old e is none = ap (map entry) (is ∙ ap (λ (es : List Named). es ++ e ∷ []) none)

-- the types of values
abbrev of_types : List CTy → CTys
of_types [] = NoCTys
of_types (t ∷ ts) = MoreCTys t (of_types ts)

trees_are : (ts : List CoreType) → all_trees ts ≡ of_types (map tree ts)
trees_are [] = refl
trees_are (t ∷ ts) = ap (MoreCTys (tree t)) (trees_are ts)

module _ (k : ℕ) (es : List Entry) where
  abbrev pub type_of : Seen → CTy
  type_of s = seen_at k (entry_in es (seen s))

  types_are : (ss : List Seen) → types_in k es (map seen ss) ≡ of_types (map type_of ss)
  types_are [] = refl
  types_are (s ∷ ss) = ap (MoreCTys (type_of s)) (types_are ss)

  pub all_types : (ts : List CoreType) (ss : List Seen) → map tree ts ≡ map type_of ss →
      all_trees ts ≡ types_in k es (map seen ss)
  all_types ts ss e = trees_are ts ∙ ap of_types e ∙ sym (types_are ss)

-- the names of arguments
abbrev pub argument : ℕ → CoreType → Entry
argument n t = entry_of (tree t) n

pub arguments_are : (n : ℕ) (ts : List CoreType) → map (argument n) ts ≡ arguments n (all_trees ts)
arguments_are n [] = refl
arguments_are n (t ∷ ts) = ap (λ es. argument n t ∷ es) (arguments_are n ts)

-- the body of a code begins
abbrev pub frame_with : List Entry → List k.Seen → k.Frame
frame_with es vs = record { names = es; values = vs }

abbrev pub with_frames : k.Frame → List k.Frame → Known
with_frames f fs = record { body = f; around = fs }

pub entered : (κ mid : Known) (k owes : ℕ) (args : CTys) (inner outer : Frame) (fs rest : List Frame) →
    mid ≡ put κ (own k (TCCode owes args)) → frame outer ≡ mid.body → fs ≡ outer ∷ rest →
    map frame rest ≡ mid.around → frame inner ≡ (enter 0 owes args nothing).body →
    with_frames (frame inner) (map frame fs) ≡ enter k owes args κ
entered κ mid k owes args inner outer fs rest m o f r i =
    ap₂ with_frames i
    (ap (map frame) f ∙ ap₂ (λ x xs. x ∷ xs) (o ∙ ap (λ (n : Known). n.body) m) (r ∙ ap (λ (n : Known). n.around) m))

-- the last values become a tuple
pub gathered : (k n from : ℕ) (κ : Known) (vs cut part : List Seen) (fields : CTys) → κ.body.values ≡ map seen vs →
    from ≡ length vs - n → cut ≡ take from vs → part ≡ drop from vs →
    fields ≡ types_in k κ.body.names (map seen part) →
    with_values κ (map seen cut ++ own k (TCTuple fields) ∷ []) ≡ tuple k n κ
gathered k n from κ vs cut part fields are many c d is =
    let at : from ≡ length κ.body.values - n = many ∙ ap (λ l. l - n) (sym (ap length are ∙ length-map vs seen)) in
    let front : map seen cut ≡ take from κ.body.values =
    ap (map seen) c ∙ sym (take-map seen from vs) ∙ ap (take from) (sym are) in
    let back : map seen part ≡ drop from κ.body.values =
    ap (map seen) d ∙ sym (drop-map seen from vs) ∙ ap (drop from) (sym are) in
    ap₂ (λ xs ts. with_values κ (xs ++ own k (TCTuple ts) ∷ [])) front (is ∙ ap (types_in k κ.body.names) back)
    ∙ ap (λ j. tuple_from k j κ) at
