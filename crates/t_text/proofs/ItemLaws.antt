-- Items, their blocks and their data; and that no register stands in the values of data.
use Rattle.std.proofs.Common.{◌≡◌, ℕ, suc, ◌+◌, ◌<◌, List, [], ◌∷◌, ◌++◌, length, refl, ap, arith, Bool, true, false}
use Rattle.std.proofs.Common.{if◌then◌else◌, bytes_eq, Option, Some, None}
use Rattle.idx_core.specs.declared.span.Span.{Span}
use Rattle.idx_core.specs.Names.{Name}
use Rattle.t_text.specs.declared.token.Token.{Token}
use Rattle.t_terms.specs.Tree.{TBase, Reg, Int, Label, Data, Plain}
use Rattle.t_terms.specs.Whole.{HasNoRegister}
use Rattle.t_text.specs.Raw.{RawTy, RawBase, RawValue, RPlain, RawBlock, RawData, RawItem, BlockItem, DataItem}
use Rattle.t_text.specs.Raw.{blocks_in, data_in, block_items, ending}
use Rattle.t_text.specs.Grammar.{N, n_plain, n_negative, n_label, V, v_base, v_apply, v_pack, Q, q_plain, q_negative}
use Rattle.t_text.specs.Grammar.{q_label, W, w_base, w_apply, w_pack}
use Rattle.t_text.specs.Names.{spelled, named_by, or_first, types_of, value_of, item_labels, labels_of}

pub blocks_in-append : (xs ys : List RawItem) → blocks_in (xs ++ ys) ≡ blocks_in xs ++ blocks_in ys
blocks_in-append [] ys = refl
blocks_in-append (BlockItem b ∷ xs) ys = ap (λ (bs : List RawBlock). b ∷ bs) (blocks_in-append xs ys)
blocks_in-append (DataItem x ∷ xs) ys = blocks_in-append xs ys

pub data_in-append : (xs ys : List RawItem) → data_in (xs ++ ys) ≡ data_in xs ++ data_in ys
data_in-append [] ys = refl
data_in-append (BlockItem b ∷ xs) ys = data_in-append xs ys
data_in-append (DataItem x ∷ xs) ys = ap (λ (bs : List RawData). x ∷ bs) (data_in-append xs ys)

-- blocks alone
pub blocks_alone : (bs : List RawBlock) → blocks_in (block_items bs) ≡ bs
blocks_alone [] = refl
blocks_alone (b ∷ bs) = ap (λ (xs : List RawBlock). b ∷ xs) (blocks_alone bs)

pub no_data_alone : (bs : List RawBlock) → data_in (block_items bs) ≡ []
no_data_alone [] = refl
no_data_alone (b ∷ bs) = no_data_alone bs

-- the value of a data field is a value
as_base : {b : Token} {base : RawBase} → Q b base → N b base
as_base (q_plain z s) = n_plain z s
as_base (q_negative z s) = n_negative z s
as_base (q_label s) = n_label s

pub as_value : {w : List Token} {x : RawValue × Span} → W w x → V w (ending x.0 x.1.end)
as_value (w_base n) = v_base (as_base n)
as_value (w_apply o c n x) = v_apply o c (as_base n) x
as_value (w_pack p o m c a x y z) = v_pack p o m c a x (as_value y) z

-- a label names a block or a data tuple that is there
abbrev pub IsTarget : ℕ → ℕ → Option TBase → Type 0
IsTarget p q None = Unit {0}
IsTarget p q (Some (Reg r)) = ⊥
IsTarget p q (Some (Int i)) = ⊥
IsTarget p q (Some (Label l)) = l < p
IsTarget p q (Some (Data d)) = d < q

pub labels_named : (text : List ℕ) (k d : ℕ) (xs : List RawItem) (x : Name) →
    IsTarget (k + length (blocks_in xs)) (d + length (data_in xs)) (named_by x (item_labels text k d xs))
labels_named text k d [] x = tt
labels_named text k d (BlockItem b ∷ xs) x =
    by_test (bytes_eq x (spelled text b.name)) (labels_named text (suc k) d xs x)
  where
    more : (o : Option TBase) → IsTarget (suc k + length (blocks_in xs)) (d + length (data_in xs)) o →
        IsTarget (k + suc (length (blocks_in xs))) (d + length (data_in xs)) o
    more None h = tt
    more (Some (Reg r)) h = absurd h
    more (Some (Int i)) h = absurd h
    more (Some (Label l)) h = omega (arith, h)
    more (Some (Data e)) h = h

    by_test : (t : Bool) →
        IsTarget (suc k + length (blocks_in xs)) (d + length (data_in xs))
        (named_by x (item_labels text (suc k) d xs)) →
        IsTarget (k + suc (length (blocks_in xs))) (d + length (data_in xs))
        (if t then Some (Label k) else named_by x (item_labels text (suc k) d xs))
    by_test true h = omega arith
    by_test false h = more (named_by x (item_labels text (suc k) d xs)) h
labels_named text k d (DataItem y ∷ xs) x =
    by_test (bytes_eq x (spelled text y.name)) (labels_named text k (suc d) xs x)
  where
    more : (o : Option TBase) → IsTarget (k + length (blocks_in xs)) (suc d + length (data_in xs)) o →
        IsTarget (k + length (blocks_in xs)) (d + suc (length (data_in xs))) o
    more None h = tt
    more (Some (Reg r)) h = absurd h
    more (Some (Int i)) h = absurd h
    more (Some (Label l)) h = h
    more (Some (Data e)) h = omega (arith, h)

    by_test : (t : Bool) →
        IsTarget (k + length (blocks_in xs)) (suc d + length (data_in xs))
        (named_by x (item_labels text k (suc d) xs)) →
        IsTarget (k + length (blocks_in xs)) (d + suc (length (data_in xs)))
        (if t then Some (Data d) else named_by x (item_labels text k (suc d) xs))
    by_test true h = omega arith
    by_test false h = more (named_by x (item_labels text k (suc d) xs)) h

-- no register stands in the value of a data field
module _ (text : List ℕ) (xs : List RawItem) where
  no_register_in_base : {b : Token} {base : RawBase} → Q b base → (a : List Name) (ts : List RawTy) →
      HasNoRegister (value_of text (labels_of text xs) a (RPlain base ts))
  no_register_in_base (q_plain z s) a ts = tt
  no_register_in_base (q_negative z s) a ts = tt
  no_register_in_base (q_label s) a ts =
      by_name (named_by (spelled text s) (labels_of text xs)) (labels_named text 0 0 xs (spelled text s))
    where
      by_name : (o : Option TBase) → IsTarget (0 + length (blocks_in xs)) (0 + length (data_in xs)) o →
          HasNoRegister (Plain (or_first o) (types_of text a ts))
      by_name None h = tt
      by_name (Some (Reg r)) h = absurd h
      by_name (Some (Int i)) h = absurd h
      by_name (Some (Label l)) h = tt
      by_name (Some (Data d)) h = tt

  pub no_register : {w : List Token} {x : RawValue × Span} → W w x → (a : List Name) →
      HasNoRegister (value_of text (labels_of text xs) a x.0)
  no_register (w_base n) a = no_register_in_base n a []
  no_register (w_apply {ts} o c n x) a = no_register_in_base n a ts
  no_register (w_pack p o m c b x y z) a = no_register y a
