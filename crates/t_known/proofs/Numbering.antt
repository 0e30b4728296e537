-- Labels and tuples by the numbers of their types.
use Rattle.std.proofs.Common.{◌≡◌, ℕ, zero, suc, arith, ◌<◌, List, [], ◌∷◌, length, map, Bool, true, refl, sym}
use Rattle.std.proofs.Common.{ap, ◌∙◌, get_or, subst, All}
use Rattle.std.proofs.lemmas.List.{length-map}
use Rattle.std.proofs.lemmas.List.Elements.{All-head, All-tail}
use Rattle.t_types.specs.Tree.{Ty, IntTy, MoreFields}
use Rattle.t_types.specs.Fields.{all_flagged}
use Rattle.t_types.specs.Read.{tree}
use Rattle.t_terms.specs.Read.{data_fields as data_of}
use Rattle.t_terms.specs.Spanned.{plain_fields}
use Rattle.t_terms.specs.declared.program.TProgram.{TProgram}
use Rattle.t_terms.specs.Labels.{data_fields}
use Rattle.t_intern.specs.Grown.{Grown, IsNumber, AreNumbers}
use Rattle.t_intern.specs.Nodes.{at, fields_at, FieldsBelow}
use Rattle.t_intern.proofs.Growing.{grown_number, numbers_grown, number_at}
use Rattle.t_known.specs.Labels.{Field, field_types, AreLabels}
use Rattle.t_known.specs.declared.labels.Labels.{Labels}

-- fields that have all the same flag
pub all_at : (ts : List Ty) (flag : Bool) (ns : List ℕ) →
    fields_at ts (map (λ n. (n, flag)) ns) ≡ all_flagged flag (map (at ts) ns)
all_at ts flag [] = refl
all_at ts flag (n ∷ ns) = ap (MoreFields (at ts n) flag) (all_at ts flag ns)

pub all_below : (m : ℕ) (flag : Bool) (ns : List ℕ) → All (λ n. n < m) ns → FieldsBelow m (map (λ n. (n, flag)) ns)
all_below m flag [] h = tt
all_below m flag (n ∷ ns) h = (All-head (λ n. n < m) n ns h, all_below m flag ns (All-tail (λ n. n < m) n ns h))

pub data_flagged : (xs : List Field) → all_flagged true (field_types xs) ≡ data_fields (plain_fields (data_of xs))
data_flagged [] = refl
data_flagged (x ∷ xs) = ap (MoreFields (tree x.1) true) (data_flagged xs)

-- the labels of a program
pub labels_grown : (ts us : List Ty) (p : TProgram) (l : Labels) → Grown ts us → AreLabels ts p l → AreLabels us p l
labels_grown ts us p l g h =
    record {
      int = grown_number ts us g IntTy l.int h.int;
      blocks = numbers_grown ts us _ l.blocks.items g h.blocks;
      tuples = numbers_grown ts us _ l.tuples.items g h.tuples;
    }

pub as_many : (ts us : List Ty) (ns : List ℕ) → AreNumbers ts us ns → length ns ≡ length us
as_many ts us ns h = sym (length-map ns (at ts)) ∙ ap length h.0

get_map : {A : Type 0} (f : A → Ty) (xs : List A) (i : ℕ) (x : A) → i < length xs → x ≡ get_or xs i x →
    get_or (map f xs) i IntTy ≡ f x
get_map f [] i x l is = absurd (omega (arith, l))
get_map f (y ∷ xs) zero x l is = ap f (sym is)
get_map f (y ∷ xs) (suc i) x l is = get_map f xs i x (omega (arith, l)) is

module _ (ts : List Ty) {A : Type 0} (f : A → Ty) (xs : List A) (ns : List ℕ) (h : AreNumbers ts (map f xs) ns) where
  pub many : length ns ≡ length xs
  many = as_many ts (map f xs) ns h ∙ length-map xs f

  pub numbered_at : (i : ℕ) (x : A) (n : ℕ) → i < length xs → x ≡ get_or xs i x → n ≡ get_or ns i n →
      IsNumber ts (f x) n
  numbered_at i x n l is e =
      let same = many in
      subst (λ t. IsNumber ts t n) (get_map f xs i x l is) (number_at ts (map f xs) ns i n h (omega (arith, l, same)) e)
