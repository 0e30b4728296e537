-- Labels in a map: what they name, and how the map grows by an item.
use Rattle.std.proofs.Common.{◌≡◌, ℕ, List, [], ◌∷◌, ◌++◌, map, refl, Option, Some, None, Bool, true, false, cond}
use Rattle.std.proofs.Common.{if◌then◌else◌, Bor, is_some}
use Rattle.std.specs.Prelude.{bytes_eq}
use Rattle.std.specs.Option.{option_or}
use Rattle.std.specs.Cmp.Lexicographic.{bytes_decides, nat_list_eq_equiv}
use Rattle.std.specs.Map.{lookup}
use Rattle.std.proofs.lemmas.Map.Text.{hash_map_updates_str}
use Rattle.idx_core.specs.Names.{Name}
use Rattle.indexmap.specs.IndexMap.{IndexMap, get_by, UpdatesBy}
use Rattle.t_text.specs.Names.{Labels, named_by}
use Rattle.t_reader.specs.Labelled.{target_base, named_base, labels_in_map, HasFirsts}
use Rattle.t_reader.specs.declared.target.Target.{Target}

-- what a label names by a list and more
pub named_append : (x : Name) (u v : Labels) → named_by x (u ++ v) ≡ option_or (named_by x u) (named_by x v)
named_append x [] v = refl
named_append x (l ∷ u) v = by_test (bytes_eq x l.0) (named_append x u v)
  where
    by_test : (b : Bool) → named_by x (u ++ v) ≡ option_or (named_by x u) (named_by x v) →
        (if b then Some l.1 else named_by x (u ++ v)) ≡ option_or (if b then Some l.1 else named_by x u) (named_by x v)
    by_test true h = refl
    by_test false h = h

-- the labels of entries
abbrev map_labels : List (Bor (List ℕ) × Target) → Labels
map_labels es = map (λ e. (e.0.now, target_base e.1)) es

-- what it names by the list of a map is what it has there
in_entries : (x : Name) (es : List (Bor (List ℕ) × Target)) →
    named_by x (map_labels es) ≡ named_base (lookup (λ (k : Bor (List ℕ)). bytes_eq x k.now) es)
in_entries x [] = refl
in_entries x (e ∷ es) = by_test (bytes_eq x e.0.now) (in_entries x es)
  where
    by_test : (b : Bool) →
        named_by x (map_labels es) ≡ named_base (lookup (λ (k : Bor (List ℕ)). bytes_eq x k.now) es) →
        (if b then Some (target_base e.1) else named_by x (map_labels es))
        ≡ named_base (cond b (Some e.1) (lookup (λ (k : Bor (List ℕ)). bytes_eq x k.now) es))
    by_test true h = refl
    by_test false h = h

pub named_in_map : {S : Type 0} (x : Name) (m : IndexMap (Bor (List ℕ)) Target S) →
    named_by x (labels_in_map m) ≡ named_base (get_by (λ k. bytes_eq x k.now) m)
named_in_map x m = in_entries x m.entries

module _ {S : Type 0} (targets : IndexMap (Bor (List ℕ)) Target S) (ls : Labels) (name : Bor (List ℕ))
    (target : Target) (h : HasFirsts targets ls) where
  -- a label that an item before has keeps what it names
  pub first_kept : is_some (get_by (λ k. bytes_eq name.now k.now) targets) ≡ true →
      HasFirsts targets (ls ++ (name.now, target_base target) ∷ [])
  first_kept there x =
      rw (named_append x ls ((name.now, target_base target) ∷ []))
      (by_found (get_by (λ k. bytes_eq x k.now) targets) (bytes_eq x name.now) refl refl (h x))
    where
      by_found : (o : Option Target) (b : Bool) → get_by (λ k. bytes_eq x k.now) targets ≡ o →
          bytes_eq x name.now ≡ b → named_base o ≡ named_by x ls →
          named_base o ≡ option_or (named_by x ls) (if b then Some (target_base target) else None)
      by_found (Some i) b e q f = rw (← f) refl
      by_found None true e q f =
          absurd (let same = (bytes_decides x name.now).0 q in let t = rw (← same, e) at there in cc)
      by_found None false e q f = rw (← f) refl

  -- a new label names its item
  pub first_added : (after : IndexMap (Bor (List ℕ)) Target S) →
      is_some (get_by (λ k. bytes_eq name.now k.now) targets) ≡ false →
      UpdatesBy (λ x y. bytes_eq x.now y.now) (λ k. bytes_eq name.now k.now) targets after (Some target) →
      HasFirsts after (ls ++ (name.now, target_base target) ∷ [])
  first_added after none u x =
      let put : get_by (λ k. bytes_eq x k.now) after
      ≡ cond (bytes_eq name.now x) (Some target) (get_by (λ k. bytes_eq x k.now) targets) =
      hash_map_updates_str name.now targets after (Some target) u x in
      rw (named_append x ls ((name.now, target_base target) ∷ []), put, ← nat_list_eq_equiv.symm x name.now)
      (by_found (get_by (λ k. bytes_eq x k.now) targets) (bytes_eq x name.now) refl refl (h x))
    where
      by_found : (o : Option Target) (b : Bool) → get_by (λ k. bytes_eq x k.now) targets ≡ o →
          bytes_eq x name.now ≡ b → named_base o ≡ named_by x ls →
          named_base (cond b (Some target) o)
          ≡ option_or (named_by x ls) (if b then Some (target_base target) else None)
      by_found (Some i) true p q f =
          absurd (let same = (bytes_decides x name.now).0 q in let t = rw (← same, p) at none in cc)
      by_found None true p q f = rw (← f) refl
      by_found (Some i) false p q f = rw (← f) refl
      by_found None false p q f = rw (← f) refl
