-- What is known of the names along the walk are the types of the names in scope.
use Rattle.std.proofs.Common.{◌≡◌, ◌≤◌, ◌<◌, ◌∙◌, ℕ, zero, suc, ◌+◌, ◌-◌, Bool, true, false, List, [], ◌∷◌, ◌++◌}
use Rattle.std.proofs.Common.{length, take, refl, sym, ap, ap₂, subst, arith, append_assoc, length-append}
use Rattle.std.proofs.lemmas.List.{append-nil, take_all, take-append-le}
use Rattle.std.proofs.Math.Seq.{drop-append_seam}
use Rattle.calc_core.specs.Calculus.{opens, scope_more}
use Rattle.calc_core.specs.Ends.{after_one, lift}
use Rattle.calc_core.specs.Levels.{level_of}
use Rattle.calc_core.specs.TyLaws.{types_part, types_over}
use Rattle.calc_core.specs.Walks.{shift}
use Rattle.calc_core.proofs.Bridge.{ren_lift}
use Rattle.calc_core.proofs.Lifts.{lift_suc}
use Rattle.idx_core.specs.Laws.{shift_add_law, shift_zero_law}
use Rattle.c_terms.specs.C.{CTy, CTys, NoCTys, MoreCTys, TCInt, TCCode, TCTuple, CVal, CVar, CInt, CTuple, CCode}
use Rattle.c_terms.specs.C.{CApply, CPack, CVals, NoCVals, MoreCVals, CDecl}
use Rattle.c_terms.specs.C.{ccount}
use Rattle.c_terms.specs.Scope.{CScoped_v, CScoped_vs}
use Rattle.c_terms.specs.Typing.{cargs_onto, crens_scope}
use Rattle.let_types.specs.Closed.{decl_type, names_behind, types_behind, value_type, value_types}
use Rattle.let_types.specs.Known.{Entry, Frame, Seen, arguments, entry_in, entry_of, last, name_or, named, own}
use Rattle.let_types.specs.Known.{seen_at, tuple, tuple_from, types_in}
use Rattle.let_types.specs.Parts.{type_at}
use Rattle.let_types.proofs.Knowing.{last_snoc, with_names}
use Rattle.let_types.specs.TypeTexts.{note_text}
use Rattle.kc_notation.specs.ClosedWalk.{name_note}

-- a type, where as many type names are in scope as where it was noted, and where one more is
own_shown : (n : ℕ) (t : CTy) → seen_at n (entry_of t n) ≡ t
own_shown n t = let z : n - n ≡ 0 = omega arith in ap (λ k. shift k 0 t) z ∙ shift_zero_law types_over 0 t

shown_more : (n : ℕ) (e : Entry) → e.types ≤ n → seen_at (suc n) e ≡ shift 1 0 (seen_at n e)
shown_more n e le =
    let s : suc n - e.types ≡ n - e.types + 1 = omega (arith, le) in
    ap (λ k. shift k 0 e.ty) s ∙ sym (shift_add_law types_part types_over (n - e.types) 1 0 e.ty)

type_at_more : (g : List CTy) (i : ℕ) → shift 1 0 (type_at g i) ≡ type_at (crens_scope suc g) i
type_at_more [] i = refl
type_at_more (t ∷ g) zero = sym (ren_lift 1 t)
type_at_more (t ∷ g) (suc i) = type_at_more g i

-- names by level
abbrev at : List Entry → ℕ → Entry
at es l = name_or (entry_of TCInt 0) es l

at_front : (m l : ℕ) (es : List Entry) (e : Entry) → m ≤ length es → l < m → at (take m es ++ e ∷ []) l ≡ at es l
at_front zero l es e le lt = absurd (omega arith)
at_front (suc m) l [] e le lt = absurd (omega arith)
at_front (suc m) zero (x ∷ es) e le lt = refl
at_front (suc m) (suc l) (x ∷ es) e le lt = at_front m l es e (omega arith) (omega arith)

at_new : (m : ℕ) (es : List Entry) (e : Entry) → m ≤ length es → at (take m es ++ e ∷ []) m ≡ e
at_new zero es e le = refl
at_new (suc m) [] e le = absurd (omega arith)
at_new (suc m) (x ∷ es) e le = at_new m es e (omega arith)

pub note_new : (b : Bool) (m : ℕ) (es : List Entry) (e : Entry) → m ≤ length es →
    name_note b (take m es ++ e ∷ []) m ≡ note_text b e.types e.ty
note_new b zero es e le = refl
note_new b (suc m) [] e le = absurd (omega arith)
note_new b (suc m) (x ∷ es) e le = note_new b m es e (omega arith)

long_more : (m : ℕ) (es : List Entry) (e : Entry) → m ≤ length es → length (take m es ++ e ∷ []) ≡ suc m
long_more zero es e le = refl
long_more (suc m) [] e le = absurd (omega arith)
long_more (suc m) (x ∷ es) e le = ap suc (long_more m es e (omega arith))

level_low : (m i : ℕ) → i < m → level_of m i < m
level_low zero i lt = absurd (omega arith)
level_low (suc m) zero lt = omega arith
level_low (suc m) (suc i) lt = let h = level_low m i (omega arith) in omega (arith, h)

-- the first m names have the types g under n type names
pub record Holds (es : List Entry) (m n : ℕ) (g : List CTy) : Type 0 where
  pub long : m ≤ length es
  pub types : (i : ℕ) → i < m → seen_at n (at es (level_of m i)) ≡ type_at g i
  pub under : (i : ℕ) → i < m → (at es (level_of m i)).types ≤ n

-- the first m names are the same
pub record Kept (m : ℕ) (es fs : List Entry) : Type 0 where
  pub long : m ≤ length fs
  pub same : (l : ℕ) → l < m → at fs l ≡ at es l

pub kept_holds : (es fs : List Entry) (m n : ℕ) (g : List CTy) → Kept m es fs → Holds es m n g → Holds fs m n g
kept_holds es fs m n g k h = record {
  long = k.long;
  types = λ i lt. ap (seen_at n) (k.same (level_of m i) (level_low m i lt)) ∙ h.types i lt;
  under = λ i lt. subst (λ (e : Entry). e.types ≤ n) (sym (k.same (level_of m i) (level_low m i lt))) (h.under i lt);
}

pub kept_same : (es : List Entry) (m n : ℕ) (g : List CTy) → Holds es m n g → Kept m es es
kept_same es m n g h = record { long = h.long; same = λ l lt. refl }

pub kept_twice : (es fs gs : List Entry) (m : ℕ) → Kept m es fs → Kept m fs gs → Kept m es gs
kept_twice es fs gs m k j = record { long = j.long; same = λ l lt. j.same l lt ∙ k.same l lt }

pub kept_behind : (es fs : List Entry) (m : ℕ) (e : Entry) → m ≤ length es → Kept (suc m) (take m es ++ e ∷ []) fs →
    Kept m es fs
kept_behind es fs m e le k = record {
  long = let h = k.long in omega (arith, h);
  same = λ l lt. k.same l (omega arith) ∙ at_front m l es e le lt;
}

-- one more name, under n type names, or under one more than those before it
module _ (es : List Entry) (m n : ℕ) (g : List CTy) (t : CTy) (h : Holds es m n g) where
  front : (e : Entry) (i : ℕ) → i < m → at (take m es ++ e ∷ []) (level_of m i) ≡ at es (level_of m i)
  front e i lt = at_front m (level_of m i) es e h.long (level_low m i lt)

  pub holds_more : Holds (take m es ++ entry_of t n ∷ []) (suc m) n (t ∷ g)
  holds_more = record { long = long; types = types; under = under }
    where
      e : Entry
      e = entry_of t n

      long : suc m ≤ length (take m es ++ entry_of t n ∷ [])
      long = let k = long_more m es (entry_of t n) h.long in omega (arith, k)

      types : (i : ℕ) → i < suc m →
          seen_at n (at (take m es ++ entry_of t n ∷ []) (level_of (suc m) i)) ≡ type_at (t ∷ g) i
      types zero lt = ap (seen_at n) (at_new m es (entry_of t n) h.long) ∙ own_shown n t
      types (suc i) lt = ap (seen_at n) (front (entry_of t n) i (omega arith)) ∙ h.types i (omega arith)

      under : (i : ℕ) → i < suc m → (at (take m es ++ entry_of t n ∷ []) (level_of (suc m) i)).types ≤ n
      under zero lt = subst (λ (x : Entry). x.types ≤ n) (sym (at_new m es (entry_of t n) h.long)) (omega arith)
      under (suc i) lt =
          subst (λ (x : Entry). x.types ≤ n) (sym (front (entry_of t n) i (omega arith))) (h.under i (omega arith))

  pub holds_unpacked : Holds (take m es ++ entry_of t (suc n) ∷ []) (suc m) (suc n) (t ∷ crens_scope suc g)
  holds_unpacked = record { long = long; types = types; under = under }
    where
      long : suc m ≤ length (take m es ++ entry_of t (suc n) ∷ [])
      long = let k = long_more m es (entry_of t (suc n)) h.long in omega (arith, k)

      types : (i : ℕ) → i < suc m →
          seen_at (suc n) (at (take m es ++ entry_of t (suc n) ∷ []) (level_of (suc m) i))
          ≡ type_at (t ∷ crens_scope suc g) i
      types zero lt = ap (seen_at (suc n)) (at_new m es (entry_of t (suc n)) h.long) ∙ own_shown (suc n) t
      types (suc i) lt =
          ap (seen_at (suc n)) (front (entry_of t (suc n)) i (omega arith))
          ∙ shown_more n (at es (level_of m i)) (h.under i (omega arith))
          ∙ ap (shift 1 0) (h.types i (omega arith)) ∙ type_at_more g i

      under : (i : ℕ) → i < suc m → (at (take m es ++ entry_of t (suc n) ∷ []) (level_of (suc m) i)).types ≤ suc n
      under zero lt =
          subst (λ (x : Entry). x.types ≤ suc n) (sym (at_new m es (entry_of t (suc n)) h.long)) (omega arith)
      under (suc i) lt =
          let k = h.under i (omega arith) in
          subst (λ (x : Entry). x.types ≤ suc n) (sym (front (entry_of t (suc n)) i (omega arith))) (omega (arith, k))

  pub holds_one : (b : Bool) →
      Holds (take m es ++ entry_of t (after_one b n) ∷ []) (suc m) (after_one b n) (t ∷ scope_more b g)
  holds_one true = holds_unpacked
  holds_one false = holds_more

pub holds_none : (es : List Entry) (n : ℕ) → Holds es 0 n []
holds_none es n =
    record { long = omega arith; types = λ i lt. absurd (omega arith); under = λ i lt. absurd (omega arith) }

-- the names behind a declaration
pub holds_behind : (es : List Entry) (m n : ℕ) (g : List CTy) (d : CDecl) → Holds es m n g →
    Holds (take m es ++ entry_of (decl_type g d) (types_behind n d) ∷ []) (suc m) (types_behind n d) (names_behind g d)
holds_behind es m n g d h = holds_one es m n g (decl_type g d) h (opens d)

-- the names of a code's arguments
holds_args : (args : CTys) (es : List Entry) (m n : ℕ) (g : List CTy) → length es ≡ m → Holds es m n g →
    Holds (es ++ arguments n args) (lift (ccount args) m) n (cargs_onto args g)
holds_args NoCTys es m n g e h = subst (λ fs. Holds fs m n g) (sym (append-nil es)) h
holds_args (MoreCTys t ts) es m n g e h =
    let all : take m es ≡ es = take_all m es (omega (arith, e)) in
    let long : length (es ++ entry_of t n ∷ []) ≡ suc m =
    let k = length-append es (entry_of t n ∷ []) in omega (arith, k, e) in
    let one : Holds (es ++ entry_of t n ∷ []) (suc m) n (t ∷ g) =
    subst (λ (fs : List Entry). Holds (fs ++ entry_of t n ∷ []) (suc m) n (t ∷ g)) all (holds_more es m n g t h) in
    let rest = holds_args ts (es ++ entry_of t n ∷ []) (suc m) n (t ∷ g) long one in
    subst (λ fs. Holds fs (suc (lift (ccount ts) m)) n (cargs_onto ts (t ∷ g)))
    (append_assoc es (entry_of t n ∷ []) (arguments n ts))
    (subst (λ j. Holds ((es ++ entry_of t n ∷ []) ++ arguments n ts) j n (cargs_onto ts (t ∷ g)))
    (lift_suc (ccount ts) m) rest)

pub holds_code : (owes : ℕ) (args : CTys) →
    Holds (entry_of (TCCode owes args) owes ∷ arguments owes args) (lift (ccount args) 1) owes
    (cargs_onto args (TCCode owes args ∷ []))
holds_code owes args =
    holds_args args (entry_of (TCCode owes args) owes ∷ []) 1 owes (TCCode owes args ∷ []) refl
    (holds_more [] 0 owes [] (TCCode owes args) (holds_none [] owes))

-- the values as they wait
abbrev pub seen : ℕ → ℕ → List CTy → CVal → Seen
seen m n g (CVar i) = named (level_of m i)
seen m n g (CInt z) = own n TCInt
seen m n g (CTuple vs) = own n (TCTuple (value_types g vs))
seen m n g (CCode owes args body) = own n (TCCode owes args)
seen m n g (CApply v ts) = own n (value_type g (CApply v ts))
seen m n g (CPack h v s) = own n s

abbrev pub seens : ℕ → ℕ → List CTy → CVals → List Seen
seens m n g NoCVals = []
seens m n g (MoreCVals v vs) = seen m n g v ∷ seens m n g vs

module _ (es : List Entry) (m n : ℕ) (g : List CTy) (h : Holds es m n g) where
  seen_is : (v : CVal) → CScoped_v m v → seen_at n (entry_in es (seen m n g v)) ≡ value_type g v
  seen_is (CVar i) s = h.types i s
  seen_is (CInt z) s = own_shown n TCInt
  seen_is (CTuple vs) s = own_shown n (TCTuple (value_types g vs))
  seen_is (CCode owes args body) s = own_shown n (TCCode owes args)
  seen_is (CApply v ts) s = own_shown n (value_type g (CApply v ts))
  seen_is (CPack a v t) s = own_shown n t

  seens_are : (vs : CVals) → CScoped_vs m vs → types_in n es (seens m n g vs) ≡ value_types g vs
  seens_are NoCVals s = refl
  seens_are (MoreCVals v vs) s = ap₂ MoreCTys (seen_is v s.0) (seens_are vs s.1)

  pub last_is : (ss : List Seen) (v : CVal) → CScoped_v m v →
      seen_at n (entry_in es (last (ss ++ seen m n g v ∷ []))) ≡ value_type g v
  last_is ss v s = ap (λ x. seen_at n (entry_in es x)) (last_snoc ss (seen m n g v)) ∙ seen_is v s

  pub tuple_is : (ss : List Seen) (vs : CVals) (c : ℕ) (fs : List Frame) → CScoped_vs m vs →
      c ≡ length (seens m n g vs) →
      tuple n c (with_names es (ss ++ seens m n g vs) fs)
      ≡ with_names es (ss ++ own n (TCTuple (value_types g vs)) ∷ []) fs
  tuple_is ss vs c fs s many =
      let us = seens m n g vs in
      let from : length (ss ++ us) - c ≡ length ss = let k = length-append ss us in omega (arith, k, many) in
      let front : take (length ss) (ss ++ us) ≡ ss =
      take-append-le (length ss) ss us (omega arith) ∙ take_all (length ss) ss (omega arith) in
      ap (λ j. tuple_from n j (with_names es (ss ++ us) fs)) from
      ∙ ap₂ (λ xs ys. with_names es (xs ++ own n (TCTuple (types_in n es ys)) ∷ []) fs) front (drop-append_seam ss us)
      ∙ ap (λ ts. with_names es (ss ++ own n (TCTuple ts) ∷ []) fs) (seens_are vs s)
