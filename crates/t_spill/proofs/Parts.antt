-- Blocks and data made one by one.
use Rattle.std.proofs.Common.{◌≡◌, ℕ, zero, suc, ◌+◌, ◌<◌, ◌≤◌, List, [], ◌∷◌, ◌++◌, map, refl, sym, ap, ◌∙◌, take}
use Rattle.std.proofs.Common.{drop, length, get_or, arith, subst}
use Rattle.idx_core.specs.declared.span.Span.{Span}
use Rattle.t_types.specs.declared.types.TType.{TType}
use Rattle.t_terms.specs.Tree.{TBlock, TDatum, TData, TProg}
use Rattle.t_terms.specs.Read.{value, block, blocks_of, data_of, data_fields as data_items}
use Rattle.t_types.specs.Read.{tree}
use Rattle.t_terms.specs.Spanned.{plain_fields}
use Rattle.t_terms.specs.declared.block.Block.{Block}
use Rattle.t_terms.specs.declared.data.Data.{Data}
use Rattle.t_terms.specs.declared.value.Value.{Value}
use Rattle.t_spill_rules.specs.Spill.{sp_block, sp_blocks, sp_datum, sp_data, entry}
use Rattle.t_spill_code.specs.Onto.{HasNext}
use Rattle.t_terms.specs.Values.{DataValues, HeapValues}
use Rattle.t_spill.specs.Ready.{BlockReady, BlocksReady}
use Rattle.t_terms.proofs.Items.{blocks_more}
use Rattle.std.proofs.lemmas.List.{append-nil as no_more, take_all}

-- blocks
blocks_suc : (m : ℕ) (P : TProg) (bs : List Block) (i : ℕ) (b : Block) → i < length bs → b ≡ get_or bs i b →
    sp_blocks m P (blocks_of (drop i bs)) ≡ sp_block m P (block b) ∷ sp_blocks m P (blocks_of (drop (suc i) bs))
blocks_suc m P [] i b lt is = absurd (omega arith)
blocks_suc m P (x ∷ bs) zero b lt is = ap (λ (y : Block). sp_block m P (block y) ∷ sp_blocks m P (blocks_of bs))
    (sym is)
blocks_suc m P (x ∷ bs) (suc i) b lt is = blocks_suc m P bs i b (omega arith) is

block_there : (P : TProg) (bs : List Block) (i : ℕ) (b : Block) → i < length bs → b ≡ get_or bs i b →
    BlocksReady P (blocks_of bs) → BlockReady P (block b)
block_there P [] i b lt is h = absurd (omega arith)
block_there P (x ∷ bs) zero b lt is h = subst (λ (y : Block). BlockReady P (block y)) (sym is) h.0
block_there P (x ∷ bs) (suc i) b lt is h = block_there P bs i b (omega arith) is h.1

pub block_ready : (P : TProg) (bs : List Block) (i : ℕ) (b : Block) → i < length bs → b ≡ get_or bs i b →
    BlocksReady P (blocks_of bs) → BlockReady P (block b)
block_ready P bs i b lt is h = block_there P bs i b lt is h

longer : (xs : List TBlock) (y : TBlock) (ys : List TBlock) → (xs ++ y ∷ []) ++ ys ≡ xs ++ (y ∷ ys)
longer [] y ys = refl
longer (x ∷ xs) y ys = ap (λ (zs : List TBlock). x ∷ zs) (longer xs y ys)

pub one_block : (m : ℕ) (P : TProg) (bs : List Block) (i : ℕ) (b : Block) (old new : List Block) (made : Block)
    (all : List TBlock) → i < length bs → b ≡ get_or bs i b → new ≡ old ++ made ∷ [] → block made
    ≡ sp_block m P (block b) →
    blocks_of old ++ sp_blocks m P (blocks_of (drop i bs)) ≡ all →
    blocks_of new ++ sp_blocks m P (blocks_of (drop (i + 1) bs)) ≡ all
one_block m P bs i b old new made all lt is put same h =
    let one : suc i ≡ i + 1 = omega arith in
    ap (λ (xs : List Block). blocks_of xs ++ sp_blocks m P (blocks_of (drop (i + 1) bs))) put
    ∙ ap (λ (ys : List TBlock). ys ++ sp_blocks m P (blocks_of (drop (i + 1) bs)))
    (blocks_more old made ∙ ap (λ y. blocks_of old ++ y ∷ []) same)
    ∙ longer (blocks_of old) (sp_block m P (block b)) (sp_blocks m P (blocks_of (drop (i + 1) bs)))
    ∙ ap (λ n. blocks_of old ++ (sp_block m P (block b) ∷ sp_blocks m P (blocks_of (drop n bs)))) (sym one)
    ∙ ap (λ ys. blocks_of old ++ ys) (sym (blocks_suc m P bs i b lt is)) ∙ h

none_after : (m : ℕ) (P : TProg) (bs : List Block) (i : ℕ) → length bs ≤ i → sp_blocks m P (blocks_of (drop i bs)) ≡ []
none_after m P [] zero le = refl
none_after m P [] (suc i) le = refl
none_after m P (x ∷ bs) zero le = absurd (omega arith)
none_after m P (x ∷ bs) (suc i) le = none_after m P bs i (omega arith)

pub all_blocks : (m : ℕ) (P : TProg) (bs made : List Block) (i : ℕ) (all : List TBlock) → length bs ≤ i →
    blocks_of made ++ sp_blocks m P (blocks_of (drop i bs)) ≡ all → blocks_of made ≡ all
all_blocks m P bs made i all le h = sym (no_more (blocks_of made)) ∙ ap (λ ys. blocks_of made ++ ys)
    (sym (none_after m P bs i le)) ∙ h

pub first_block : (m : ℕ) (xs : List Block) (b : Block) (ys : List TBlock) → xs ≡ b ∷ [] → block b ≡ entry m →
    blocks_of xs ++ ys ≡ entry m ∷ ys
first_block m xs b ys e same = ap (λ (zs : List Block). blocks_of zs ++ ys) e ∙ ap (λ y. y ∷ ys) same

-- fields of data
abbrev pub spilled_field : ℕ → Value × TType × Span → TDatum
spilled_field m x = sp_datum m (record { value = value x.0; ty = tree x.1 })

abbrev pub plain_field : Value × TType × Span → TDatum
plain_field x = record { value = value x.0; ty = tree x.1 }

plain_are : (xs : List (Value × TType × Span)) → plain_fields (data_items xs) ≡ map plain_field xs
plain_are [] = refl
plain_are (x ∷ xs) = ap (λ (ys : TData). plain_field x ∷ ys) (plain_are xs)

spilled_are : (m : ℕ) (xs : List (Value × TType × Span)) → sp_data m (plain_fields (data_items xs))
    ≡ map (spilled_field m) xs
spilled_are m [] = refl
spilled_are m (x ∷ xs) = ap (λ (ys : TData). spilled_field m x ∷ ys) (spilled_are m xs)

pub all_fields : (m : ℕ) (ys xs : List (Value × TType × Span)) (n : ℕ) → map plain_field ys ≡ map (spilled_field m)
    (take n xs) → length xs ≤ n → plain_fields (data_items ys) ≡ sp_data m (plain_fields (data_items xs))
all_fields m ys xs n done le = plain_are ys ∙ done
    ∙ ap (λ (zs : List (Value × TType × Span)). map (spilled_field m) zs) (take_all n xs le) ∙ sym (spilled_are m xs)

pub field_ready : (xs : List (Value × TType × Span)) (i : ℕ) (x : Value × TType × Span) → i < length xs → x
    ≡ get_or xs i x → DataValues HasNext (plain_fields (data_items xs)) → HasNext (value x.0)
field_ready [] i x lt is h = absurd (omega arith)
field_ready (y ∷ xs) zero x lt is h = subst (λ (z : Value × TType × Span). HasNext (value z.0)) (sym is) h.0
field_ready (y ∷ xs) (suc i) x lt is h = field_ready xs i x (omega arith) is h.1

-- data tuples
abbrev pub plain_tuple : Data → TData
plain_tuple x = plain_fields (data_items x.fields.items)

abbrev pub spilled_tuple : ℕ → Data → TData
spilled_tuple m x = sp_data m (plain_tuple x)

tuples_are : (xs : List Data) → data_of xs ≡ map plain_tuple xs
tuples_are [] = refl
tuples_are (x ∷ xs) = ap (λ (ys : List TData). plain_tuple x ∷ ys) (tuples_are xs)

spilled_tuples_are : (m : ℕ) (xs : List Data) → map (sp_data m) (data_of xs) ≡ map (spilled_tuple m) xs
spilled_tuples_are m [] = refl
spilled_tuples_are m (x ∷ xs) = ap (λ (ys : List TData). spilled_tuple m x ∷ ys) (spilled_tuples_are m xs)

pub all_tuples : (m : ℕ) (ys xs : List Data) (n : ℕ) → map plain_tuple ys ≡ map (spilled_tuple m) (take n xs) →
    length xs ≤ n → data_of ys ≡ map (sp_data m) (data_of xs)
all_tuples m ys xs n done le = tuples_are ys ∙ done ∙ ap (λ (zs : List Data). map (spilled_tuple m) zs)
    (take_all n xs le) ∙ sym (spilled_tuples_are m xs)

pub tuple_ready : (xs : List Data) (i : ℕ) (x : Data) → i < length xs → x ≡ get_or xs i x →
    HeapValues HasNext (data_of xs) →
    DataValues HasNext (plain_tuple x)
tuple_ready [] i x lt is h = absurd (omega arith)
tuple_ready (y ∷ xs) zero x lt is h = subst (λ (z : Data). DataValues HasNext (plain_tuple z)) (sym is) h.0
tuple_ready (y ∷ xs) (suc i) x lt is h = tuple_ready xs i x (omega arith) is h.1
