-- The types of data tuples.
use Rattle.std.proofs.Common.{◌≡◌, ℕ, ◌≤◌, true, Bool, List, [], ◌∷◌, map, refl, ap, ◌∙◌, take, length}
use Rattle.std.proofs.lemmas.List.{take_all}
use Rattle.idx_core.specs.declared.span.Span.{Span}
use Rattle.t_types.specs.declared.types.TType.{TType}
use Rattle.t_types.specs.Tree.{Ty, MoreFields, flagged}
use Rattle.t_types.specs.Read.{tree, flag, fields}
use Rattle.t_terms.specs.declared.value.Value.{Value}
use Rattle.t_terms.specs.Read.{data_fields as data_items}
use Rattle.t_terms.specs.Spanned.{plain_fields}
use Rattle.t_terms.specs.Labels.{data_fields}

abbrev pub filled_flag : Value × TType × Span → Ty × Bool
filled_flag x = (tree x.1, true)

fields_are : (xs : List (Value × TType × Span)) →
    flagged (map filled_flag xs) ≡ data_fields (plain_fields (data_items xs))
fields_are [] = refl
fields_are (x ∷ xs) = ap (MoreFields (tree x.1) true) (fields_are xs)

pub made_data : (ys : List (TType × Bool)) (xs : List (Value × TType × Span)) (n : ℕ) →
    map flag ys ≡ map filled_flag (take n xs) → length xs ≤ n → fields ys ≡ data_fields (plain_fields (data_items xs))
made_data ys xs n done all =
    ap flagged (done ∙ ap (λ (zs : List (Value × TType × Span)). map filled_flag zs) (take_all n xs all))
    ∙ fields_are xs
