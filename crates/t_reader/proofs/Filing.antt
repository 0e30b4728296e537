-- Register files in ascending order: how one grows by an entry.
use Rattle.std.proofs.Common.{◌≡◌, ◌≢◌, ℕ, ◌+◌, ◌<◌, ◌≤◌, List, [], ◌∷◌, ◌++◌, length, map, drop, get_or, refl, sym}
use Rattle.std.proofs.Common.{◌∙◌, ap, Bool, true, false, ◌||◌, if◌then◌else◌, arith, cond, is_some, Some, ◌⊎◌, inl}
use Rattle.std.proofs.Common.{inr, ⊎_elim, Less, Equal, Greater}
use Rattle.std.specs.Prelude.{nat_lt, nat_eq}
use Rattle.std.specs.List.{list_any}
use Rattle.std.proofs.lemmas.Bool.{eqb-true, eqb-false, eq-eqb, lt-ltb, le-ltb, ltb-true, ltb-false}
use Rattle.std.specs.BTreeMap.{insert_entry}
use Rattle.std.specs.Map.{lookup}
use Rattle.std.specs.Ordering.{nat_cmp, is_eq, match_ordering}
use Rattle.std.proofs.Math.ListN.{drop_of_length-le}
use Rattle.idx_core.specs.declared.span.Span.{Span}
use Rattle.idx_core.specs.Names.{Name}
use Rattle.t_types.specs.declared.types.TType.{TType}
use Rattle.t_types.specs.Tree.{Ty, TFile, NoRegs, MoreRegs}
use Rattle.t_types.specs.Read.{tree, file}
use Rattle.t_text.specs.Raw.{raw_regs}
use Rattle.t_text.specs.Names.{insert_reg, file_of, type_of}
use Rattle.t_text.specs.NameFaults.{regs_faults, type_faults}
use Rattle.t_shapes.specs.declared.raw_types.RawType.{RawType}
use Rattle.t_shapes.specs.RawTypes.{raw, raw_reg}
use Rattle.t_terms.specs.declared.fault.TCode.TheVariants.{T07}
use Rattle.t_reader.specs.Resolve.{StopsAt, has}
use Rattle.t_terms.specs.declared.fault.TFault.{TFault}
use Rattle.t_terms.specs.declared.fault.TFault.TheVariants.{Refused}
use Rattle.t_reader.proofs.Found.{stop_left}
use Rattle.t_reader.proofs.Naming.{Done}
use Rattle.idx_core.proofs.Lists.{next_item}

-- the registers rise from above a number
abbrev pub Rises : ℕ → List (ℕ × TType) → Type 0
Rises low [] = Unit {0}
Rises low (x ∷ xs) = (low < x.0) × Rises x.0 xs

-- each register is less than the next
abbrev pub Sorted : List (ℕ × TType) → Type 0
Sorted [] = Unit {0}
Sorted (x ∷ xs) = Rises x.0 xs

-- the entries put into a file
abbrev pub merged : List (ℕ × TType) → TFile → TFile
merged [] f = f
merged (x ∷ xs) f = insert_reg x.0 (tree x.1) (merged xs f)

abbrev pub Entries : Type 0
Entries = List (ℕ × TType)

swap_or : (a b c : Bool) → (a || (b || c)) ≡ (b || (a || c))
swap_or true true c = refl
swap_or true false c = refl
swap_or false b c = refl

pub differs : (r q : ℕ) → r ≢ q → nat_eq r q ≡ false
differs r q n = by_test (nat_eq r q) refl
  where
    by_test : (b : Bool) → nat_eq r q ≡ b → nat_eq r q ≡ false
    by_test true e = absurd (n (eqb-true r q e))
    by_test false e = e

-- a register with its type in the entries
abbrev put : ℕ → TType → Entries → Entries
put r t xs = insert_entry nat_cmp xs r t

-- whether a register is there, as the map tells it
pub is_there : (r : ℕ) (xs : Entries) → is_some (lookup (λ k. is_eq (nat_cmp r k)) xs) ≡ has r xs
is_there r [] = refl
is_there r (x ∷ xs) = by_tests (nat_lt r x.0) (nat_eq r x.0) refl refl (is_there r xs)
  where
    by_tests : (a b : Bool) → nat_lt r x.0 ≡ a → nat_eq r x.0 ≡ b →
        is_some (lookup (λ k. is_eq (nat_cmp r k)) xs) ≡ has r xs →
        is_some (cond (is_eq (cond a Less (cond b Equal Greater))) (Some x.1) (lookup (λ k. is_eq (nat_cmp r k)) xs))
        ≡ (b || has r xs)
    by_tests true true p q h = absurd (let l = ltb-true r x.0 p in let e = eqb-true r x.0 q in omega (arith, l, e))
    by_tests true false p q h = h
    by_tests false true p q h = refl
    by_tests false false p q h = h

-- a new register goes in front of a greater one, and behind a smaller one
put_at : (r : ℕ) (t : TType) (x : ℕ × TType) (xs : Entries) → has r (x ∷ xs) ≡ false →
    ((r < x.0) × (put r t (x ∷ xs) ≡ (r, t) ∷ (x ∷ xs)))
    ⊎ ((x.0 < r) × (has r xs ≡ false) × (put r t (x ∷ xs) ≡ x ∷ put r t xs))
put_at r t x xs n = by_tests (nat_lt r x.0) (nat_eq r x.0) refl refl n
  where
    by_tests : (a b : Bool) → nat_lt r x.0 ≡ a → nat_eq r x.0 ≡ b → (b || has r xs) ≡ false →
        ((r < x.0) × (match_ordering (cond a Less (cond b Equal Greater)) ((r, t) ∷ (x ∷ xs)) ((x.0, t) ∷ xs)
        (x ∷ put r t xs) ≡ (r, t) ∷ (x ∷ xs)))
        ⊎ ((x.0 < r) × (has r xs ≡ false)
        × (match_ordering (cond a Less (cond b Equal Greater)) ((r, t) ∷ (x ∷ xs)) ((x.0, t) ∷ xs) (x ∷ put r t xs)
        ≡ x ∷ put r t xs))
    by_tests true b p q m = inl (ltb-true r x.0 p, refl)
    by_tests false true p q m = absurd (cc)
    by_tests false false p q m =
        inr (let l = ltb-false r x.0 p in let u = eqb-false r x.0 q in omega (arith, l, u), m, refl)

has_put : (q r : ℕ) (t : TType) (xs : Entries) → has r xs ≡ false → has q (put r t xs) ≡ (nat_eq q r || has q xs)
has_put q r t [] n = refl
has_put q r t (x ∷ xs) n =
    ⊎_elim
    (λ f. rw f.1 refl)
    (λ f. rw f.2
    (ap (λ (b : Bool). nat_eq q x.0 || b) (has_put q r t xs f.1) ∙ swap_or (nat_eq q x.0) (nat_eq q r) (has q xs)))
    (put_at r t x xs n)

rises_put : (low r : ℕ) (t : TType) (xs : Entries) → Rises low xs → has r xs ≡ false → low < r → Rises low (put r t xs)
rises_put low r t [] h n l = (l, tt)
rises_put low r t (x ∷ xs) h n l =
    ⊎_elim
    (λ f. rw f.1 (l, (f.0, h.1)))
    (λ f. rw f.2 (h.0, rises_put x.0 r t xs h.1 f.1 f.0))
    (put_at r t x xs n)

sorted_put : (r : ℕ) (t : TType) (xs : Entries) → Sorted xs → has r xs ≡ false → Sorted (put r t xs)
sorted_put r t [] h n = tt
sorted_put r t (x ∷ xs) h n =
    ⊎_elim
    (λ f. rw f.1 (f.0, h))
    (λ f. rw f.2 (rises_put x.0 r t xs h f.1 f.0))
    (put_at r t x xs n)

-- two entries may be put in either order
swap_lt : (r q : ℕ) (t u : Ty) (f : TFile) → q < r →
    insert_reg r t (insert_reg q u f) ≡ insert_reg q u (insert_reg r t f)
swap_lt r q t u NoRegs l = let x = lt-ltb q r l in let y = le-ltb r q (omega arith) in simp (x, y)
swap_lt r q t u (MoreRegs p v f) l = by_tests (nat_lt p q) (nat_lt p r) refl refl (swap_lt r q t u f l)
  where
    by_tests : (x y : Bool) → nat_lt p q ≡ x → nat_lt p r ≡ y →
        insert_reg r t (insert_reg q u f) ≡ insert_reg q u (insert_reg r t f) →
        insert_reg r t (insert_reg q u (MoreRegs p v f)) ≡ insert_reg q u (insert_reg r t (MoreRegs p v f))
    by_tests true true a b h = simp (a, b) (ap (MoreRegs p v) h)
    by_tests true false a b h = absurd (let m = ltb-true p q a in let n = ltb-false p r b in omega (arith, m, n, l))
    by_tests false true a b h = let x = lt-ltb q r l in simp (a, b, x)
    by_tests false false a b h = let x = lt-ltb q r l in let y = le-ltb r q (omega (arith, l)) in simp (a, b, x, y)

swap : (r q : ℕ) (t u : Ty) (f : TFile) → r ≢ q → insert_reg r t (insert_reg q u f) ≡ insert_reg q u (insert_reg r t f)
swap r q t u f n = by_test (nat_lt q r) refl
  where
    by_test : (b : Bool) → nat_lt q r ≡ b → insert_reg r t (insert_reg q u f) ≡ insert_reg q u (insert_reg r t f)
    by_test true e = swap_lt r q t u f (ltb-true q r e)
    by_test false e = let m = ltb-false q r e in sym (swap_lt q r u t f (omega (arith, m, n)))

pushed : (v : Entries) (y : ℕ × TType) (f : TFile) → has y.0 v ≡ false →
    merged v (insert_reg y.0 (tree y.1) f) ≡ insert_reg y.0 (tree y.1) (merged v f)
pushed [] y f h = refl
pushed (x ∷ v) y f h = by_test (nat_eq y.0 x.0) refl h (λ g. pushed v y f g)
  where
    by_test : (b : Bool) → nat_eq y.0 x.0 ≡ b → (b || has y.0 v) ≡ false →
        (has y.0 v ≡ false → merged v (insert_reg y.0 (tree y.1) f) ≡ insert_reg y.0 (tree y.1) (merged v f)) →
        insert_reg x.0 (tree x.1) (merged v (insert_reg y.0 (tree y.1) f))
        ≡ insert_reg y.0 (tree y.1) (insert_reg x.0 (tree x.1) (merged v f))
    by_test true e g i = absurd (cc)
    by_test false e g i = ap (insert_reg x.0 (tree x.1)) (i g)
        ∙ swap x.0 y.0 (tree x.1) (tree y.1) (merged v f) (λ q. absurd (let z = eq-eqb y.0 x.0 (sym q) in cc))

merged_put : (r : ℕ) (t : TType) (xs : Entries) (f : TFile) → has r xs ≡ false →
    merged (put r t xs) f ≡ merged xs (insert_reg r (tree t) f)
merged_put r t [] f n = refl
merged_put r t (x ∷ xs) f n =
    ⊎_elim
    (λ g. rw g.1 (sym (pushed (x ∷ xs) (r, t) f n)))
    (λ g. rw g.2 (ap (insert_reg x.0 (tree x.1)) (merged_put r t xs f g.1)))
    (put_at r t x xs n)

in_front : (x : ℕ × TType) (xs : Entries) → Rises x.0 xs → insert_reg x.0 (tree x.1) (file xs) ≡ file (x ∷ xs)
in_front x [] h = refl
in_front x (y ∷ xs) h = rw (le-ltb y.0 x.0 (omega (arith, h.0))) refl

rising_file : (low : ℕ) (xs : Entries) → Rises low xs → merged xs NoRegs ≡ file xs
rising_file low [] h = refl
rising_file low (x ∷ xs) h = ap (insert_reg x.0 (tree x.1)) (rising_file x.0 xs h.1) ∙ in_front x xs h.1

sorted_file : (xs : Entries) → Sorted xs → merged xs NoRegs ≡ file xs
sorted_file [] h = refl
sorted_file (x ∷ xs) h = ap (insert_reg x.0 (tree x.1)) (rising_file x.0 xs h) ∙ in_front x xs h

-- a file, of which the entries from k on are left
pub record FileLeft (text : List ℕ) (a : List Name) (xs : List (ℕ × Span × RawType)) (k : ℕ) (b : List Name)
    (made : Entries) : Type 0 where
  pub kept : b ≡ a
  pub before : List ℕ
  pub known : (r : ℕ) → list_any (nat_eq r) before ≡ has r made
  pub sorted : Sorted made
  pub faults : regs_faults text a [] (raw_regs (map raw_reg xs))
      ≡ regs_faults text a before (raw_regs (map raw_reg (drop k xs)))
  pub trees : file_of text a (raw_regs (map raw_reg xs))
      ≡ merged made (file_of text a (raw_regs (map raw_reg (drop k xs))))

module _ (text : List ℕ) (a : List Name) (xs : List (ℕ × Span × RawType)) where
  pub file_start : FileLeft text a xs 0 a []
  file_start = record { kept = refl; before = []; known = λ r. refl; sorted = tt; faults = refl; trees = refl }

  module _ (k : ℕ) (b : List Name) (made : Entries) (x : ℕ × Span × RawType) (l : k < length xs)
      (i : x ≡ get_or xs k x) (h : FileLeft text a xs k b made) where
    at_entry : regs_faults text a [] (raw_regs (map raw_reg xs)) ≡
        (if has x.0 made then (T07, x.1) ∷ [] else [])
        ++ (type_faults text a (raw x.2)
        ++ regs_faults text a (x.0 ∷ h.before) (raw_regs (map raw_reg (drop (k + 1) xs))))
    at_entry = h.faults ∙ rw (next_item xs k x i l, h.known x.0) refl

    pub file_twice : has x.0 made ≡ true → StopsAt (regs_faults text a [] (raw_regs (map raw_reg xs))) (Refused T07 x.1)
    file_twice t = (
      type_faults text a (raw x.2)
          ++ regs_faults text a (x.0 ∷ h.before) (raw_regs (map raw_reg (drop (k + 1) xs))),
      at_entry ∙ rw t refl,
    )

    module _ (once : has x.0 made ≡ false) where
      pub file_stop : (s : TFault) → StopsAt (type_faults text b (raw x.2)) s →
          StopsAt (regs_faults text a [] (raw_regs (map raw_reg xs))) s
      file_stop s g = rw (at_entry, once) (stop_left _ _ s (rw h.kept at g))

      pub file_next : (c : List Name) (t : TType) (more : Entries) → Done text b x.2 c t →
          more ≡ insert_entry nat_cmp made x.0 t → FileLeft text a xs (k + 1) c more
      file_next c t more d m =
          let e : tree t ≡ type_of text a (raw x.2) = d.2 ∙ ap (λ (z : List Name). type_of text z (raw x.2)) h.kept in
          record {
            kept = d.0 ∙ h.kept;
            before = x.0 ∷ h.before;
            known = λ r. rw (m, has_put r x.0 t made once, h.known r) refl;
            sorted = rw m (sorted_put x.0 t made h.sorted once);
            faults = at_entry ∙ rw (once, rw h.kept at d.1) refl;
            trees = h.trees
                ∙ rw (
                  m,
                  merged_put x.0 t made (file_of text a (raw_regs (map raw_reg (drop (k + 1) xs)))) once,
                  next_item xs k x i l,
                  e,
                ) refl;
          }

  pub file_whole : (k : ℕ) (b : List Name) (made : Entries) → length xs ≤ k → FileLeft text a xs k b made →
      (b ≡ a) × (regs_faults text a [] (raw_regs (map raw_reg xs)) ≡ [])
      × (file made ≡ file_of text a (raw_regs (map raw_reg xs)))
  file_whole k b made l h =
      let n : drop k xs ≡ [] = drop_of_length-le xs l in
      (h.kept, h.faults ∙ rw n refl, sym (h.trees ∙ (rw n refl ∙ sorted_file made h.sorted)))
