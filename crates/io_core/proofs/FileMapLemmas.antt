-- The finite map of an ordered map of texts: what it has at a name, and after a change.
use Rattle.std.proofs.Common.{◌≡◌, ◌≢◌, ℕ, Bool, true, false, cond, List, [], ◌∷◌, ◌++◌, map, Option, Some, String}
use Rattle.std.proofs.Common.{Vec, string_bytes, take, drop, refl, sym, ap, ◌∙◌}
use Rattle.std.specs.Option.{option_map}
use Rattle.std.specs.Ordering.{nat_cmp, is_eq, eq_by_cmp}
use Rattle.std.specs.Str.{bytes_eq}
use Rattle.std.specs.String.{string_cmp}
use Rattle.std.specs.Map.{lookup}
use Rattle.std.specs.BTreeMap as tree
use Rattle.std.specs.BTreeMap.{BTreeMap, is_at, get_by_text}
use Rattle.std.specs.Cmp.{eq_by_cmp_equiv}
use Rattle.std.specs.Cmp.Lexicographic.{slice_cmp, nat_list_cmp_total}
use Rattle.std.specs.FinMap.{get, insert, find, get-from_entries, get-insert, same_map, nat_cmp-IsAntisymmetric}
use Rattle.std.specs.FinMap.{slice_cmp-IsAntisymmetric}
use Rattle.std.specs.declared.alloc.Global.{Global}
use Rattle.std.proofs.lemmas.List.{take-append-drop}
use Rattle.std.proofs.lemmas.Map.Text.{btree_map_updates_text, is_eq-slice_cmp, text_cmp}
use Rattle.std.specs.declared.cmp.Ordering.{Ordering}
use Rattle.std.specs.declared.cmp.Ordering.TheVariants.{Less, Equal, Greater}
use Rattle.io_core.specs.Outside.{FileMap, SameBut, GainedPart}
use Rattle.io_core.specs.MemFiles.{file_map}

-- a scan of the finite map's entries finds what a scan of the ordered map's finds
find-map : (q : List ℕ) (es : List (String Global × Vec ℕ Global)) →
    find (slice_cmp nat_cmp) q (map (λ e. (string_bytes e.0, e.1.items)) es)
    ≡ option_map (λ v. v.items) (lookup (is_at (text_cmp q)) es)
find-map q [] = refl
find-map q (e ∷ es) =
    elim (is_eq (slice_cmp nat_cmp q (string_bytes e.0))) as
    (λ b. cond b (Some e.1.items)
    (find (slice_cmp nat_cmp) q (map (λ (e : String Global × Vec ℕ Global). (string_bytes e.0, e.1.items)) es))
    ≡ option_map (λ (v : Vec ℕ Global). v.items) (cond b (Some e.1) (lookup (is_at (text_cmp q)) es))) [
      | true ↦ refl
      | false ↦ find-map q es
    ]

-- what the finite map has at a name
pub get-file_map : (files : BTreeMap (String Global) (Vec ℕ Global)) (q : List ℕ) →
    get (file_map files) q ≡ option_map (λ v. v.items) (get_by_text files q)
get-file_map files q =
    get-from_entries nat_list_cmp_total
    (map (λ (e : String Global × Vec ℕ Global). (string_bytes e.0, e.1.items)) files.entries) q
    ∙ find-map q files.entries

-- the content of a choice is the choice of the contents
picked : (b : Bool) (v : Vec ℕ Global) (o : Option (Vec ℕ Global)) →
    option_map (λ v. v.items) (cond b (Some v) o) ≡ cond b (Some v.items) (option_map (λ v. v.items) o)
picked true v o = refl
picked false v o = refl

-- two tests of equal names agree
same_test : (k q : List ℕ) → bytes_eq k q ≡ eq_by_cmp (slice_cmp nat_cmp) q k
same_test k q = sym (is_eq-slice_cmp k q) ∙ (eq_by_cmp_equiv nat_list_cmp_total).symm k q

-- the finite map after a name was set in the ordered one
pub file_map-insert : (old new : BTreeMap (String Global) (Vec ℕ Global)) (name : String Global) (v : Vec ℕ Global) →
    tree.Updates string_cmp old new name (Some v) → file_map new ≡ insert (file_map old) (string_bytes name) v.items
file_map-insert old new name v updates =
    same_map nat_list_cmp_total (slice_cmp-IsAntisymmetric nat_cmp-IsAntisymmetric) _ _ (λ q.
    get-file_map new q
    ∙ ap (option_map (λ (v : Vec ℕ Global). v.items))
    (btree_map_updates_text (string_bytes name) old new (Some v) updates q)
    ∙ picked (bytes_eq (string_bytes name) q) v (get_by_text old q)
    ∙ ap (λ b. cond b (Some v.items) (option_map (λ (v : Vec ℕ Global). v.items) (get_by_text old q)))
    (same_test (string_bytes name) q)
    ∙ ap (cond (eq_by_cmp (slice_cmp nat_cmp) q (string_bytes name)) (Some v.items)) (sym (get-file_map old q))
    ∙ sym (get-insert nat_list_cmp_total (file_map old) (string_bytes name) v.items q))

-- an order that is no tie tests false
not_tied : (o : Ordering) → (o ≡ Equal → ⊥) → is_eq o ≡ false
not_tied Less h = refl
not_tied Equal h = absurd (h refl)
not_tied Greater h = refl

-- after a change at a name, every other name has what it had
pub get-insert_other : (files : FileMap) (name : List ℕ) (bytes other : List ℕ) → other ≢ name →
    get (insert files name bytes) other ≡ get files other
get-insert_other files name bytes other apart =
    get-insert nat_list_cmp_total files name bytes other
    ∙ ap (λ b. cond b (Some bytes) (get files other))
    (not_tied (slice_cmp nat_cmp other name)
    (λ e. apart (slice_cmp-IsAntisymmetric nat_cmp-IsAntisymmetric other name e)))

-- a name set to other bytes leaves every other name as before
pub SameBut-insert : (files changed : FileMap) (name bytes : List ℕ) → changed ≡ insert files name bytes →
    SameBut name (Some files) (Some changed)
SameBut-insert files changed name bytes is =
    (changed, refl, λ other apart. rw is (get-insert_other files name bytes other apart))

-- the first bytes, as many as n, are a first part of the bytes
pub GainedPart-take : (before bytes after : List ℕ) (n : ℕ) → after ≡ before ++ take n bytes →
    GainedPart (Some before) bytes (Some after)
GainedPart-take before bytes after n is = (take n bytes, drop n bytes, take-append-drop n bytes, ap (λ b. Some b) is)
