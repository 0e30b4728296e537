-- Data tuples that are made one by one.
use Rattle.std.proofs.Common.{◌≡◌, ℕ, ◌+◌, ◌<◌, ◌++◌, List, [], ◌∷◌, length, take, get_or, refl, sym, ap, ap₂, ◌∙◌}
use Rattle.idx_core.specs.declared.span.Span.{Span}
use Rattle.t_types.specs.Read.{tree}
use Rattle.t_types.specs.declared.types.TType.{TType}
use Rattle.t_terms.specs.Tree.{TData}
use Rattle.t_terms.specs.Spanned.{plain_fields}
use Rattle.t_terms.specs.Read.{value, data_fields, data_of as data_trees}
use Rattle.t_terms.specs.declared.value.Value.{Value}
use Rattle.t_terms.specs.declared.data.Data.{Data}
use Rattle.a_terms.specs.Read.{atree}
use Rattle.a_terms.specs.NodeTrees.{a_value, a_consts, a_data}
use Rattle.a_terms.specs.declared.types.AType.{AType}
use Rattle.a_terms.specs.declared.nodes.AValue.{AValue}
use Rattle.a_terms.specs.declared.nodes.AData.{AData}
use Rattle.a_terms.specs.ReadLaws.{took}
use Rattle.t_gen_rules.specs.Gen.{ty, constant, data_of, generated_heap}

fields_snoc : (xs : List (Value × TType × Span)) (x : Value × TType × Span) →
    plain_fields (data_fields (xs ++ x ∷ [])) ≡ plain_fields (data_fields xs)
    ++ record { value = value x.0; ty = tree x.1 } ∷ []
fields_snoc [] x = refl
fields_snoc (y ∷ xs) x = ap (λ (zs : TData). record { value = value y.0; ty = tree y.1 } ∷ zs) (fields_snoc xs x)

consts_snoc : (cs : List (AValue × AType)) (c : AValue × AType) →
    data_of (a_consts (cs ++ c ∷ [])) ≡ data_of (a_consts cs)
    ++ record { value = constant (a_value c.0); ty = ty (atree c.1) } ∷ []
consts_snoc [] c = refl
consts_snoc (x ∷ cs) c =
    ap (λ (zs : TData). record { value = constant (a_value x.0); ty = ty (atree x.1) } ∷ zs) (consts_snoc cs c)

pub const_push : (xs new : List (Value × TType × Span)) (x : Value × TType × Span) (cs : List (AValue × AType)) (i : ℕ)
    (c : AValue × AType) → i < length cs → c ≡ get_or cs i c → new ≡ xs ++ x ∷ [] →
    value x.0 ≡ constant (a_value c.0) → tree x.1 ≡ ty (atree c.1) →
    plain_fields (data_fields xs) ≡ data_of (a_consts (take i cs)) →
    plain_fields (data_fields new) ≡ data_of (a_consts (take (i + 1) cs))
const_push xs new x cs i c lt is n v t h =
    ap (λ ys. plain_fields (data_fields ys)) n ∙ fields_snoc xs x
    ∙ ap₂ (λ u s. plain_fields (data_fields xs) ++ record { value = u; ty = s } ∷ []) v t
    ∙ ap (λ (us : TData). us ++ record { value = constant (a_value c.0); ty = ty (atree c.1) } ∷ []) h
    ∙ sym (ap (λ ds. data_of (a_consts ds)) (took cs i c lt is) ∙ consts_snoc (take i cs) c)

heap_snoc : (xs : List Data) (x : Data) →
    data_trees (xs ++ x ∷ []) ≡ data_trees xs ++ plain_fields (data_fields x.fields.items) ∷ []
heap_snoc [] x = refl
heap_snoc (y ∷ xs) x = ap (λ (zs : List TData). plain_fields (data_fields y.fields.items) ∷ zs) (heap_snoc xs x)

tuples_snoc : (ds : List AData) (d : AData) → generated_heap (a_data (ds ++ d ∷ [])) ≡ generated_heap (a_data ds)
    ++ data_of (a_consts d.fields.items) ∷ []
tuples_snoc [] d = refl
tuples_snoc (x ∷ ds) d = ap (λ (zs : List TData). data_of (a_consts x.fields.items) ∷ zs) (tuples_snoc ds d)

pub heap_push : (xs new : List Data) (x : Data) (ds : List AData) (i : ℕ) (d : AData) → i < length ds →
    d ≡ get_or ds i d → new ≡ xs ++ x ∷ [] →
    plain_fields (data_fields x.fields.items) ≡ data_of (a_consts d.fields.items) →
    data_trees xs ≡ generated_heap (a_data (take i ds)) → data_trees new ≡ generated_heap (a_data (take (i + 1) ds))
heap_push xs new x ds i d lt is n f h =
    ap data_trees n ∙ heap_snoc xs x ∙ ap₂ (λ (us : List TData) (u : TData). us ++ u ∷ []) h f
    ∙ sym (ap (λ es. generated_heap (a_data es)) (took ds i d lt is) ∙ tuples_snoc (take i ds) d)
