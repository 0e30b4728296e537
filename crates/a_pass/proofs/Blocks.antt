-- The blocks of a program.
use Rattle.std.proofs.Common.{◌≡◌, ◌<◌, ◌≤◌, ℕ, zero, suc, ◌+◌, List, [], ◌∷◌, ◌++◌, refl, sym, ap, ap₂, ◌∙◌, subst}
use Rattle.std.proofs.Common.{append_assoc, length, take, arith, get_or, Vec, Global}
use Rattle.std.proofs.lemmas.List.{take_more, take_all, append-nil}
use Rattle.h_terms.specs.H as pure
use Rattle.a_terms.specs.Tree as a
use Rattle.a_laws.specs.Allocate.{alloc_all, alloc_block, alloc_t, atypes, arg_levels, arg_depth, data_all, data_block}
use Rattle.a_laws.specs.Allocate.{data_t, n_all, n_block}
use Rattle.h_terms.specs.Nodes.{h_block, h_blocks, h_tree, HRow, HRows}
use Rattle.a_terms.specs.NodeTrees.{a_block, a_blocks, a_data, a_tree}
use Rattle.a_terms.specs.Arity.{ARow, ARows}
use Rattle.a_terms.specs.Typing.{types_of}
use Rattle.c_terms.specs.Read.{ctys}
use Rattle.a_terms.specs.Read.{atrees}
use Rattle.calc_core.specs.declared.types.CoreType.{CoreType as CType}
use Rattle.a_terms.specs.declared.types.AType.{AType}
use Rattle.h_terms.specs.declared.node.HNode.{HNode}
use Rattle.a_terms.specs.declared.nodes.ANode.{ANode}
use Rattle.h_terms.specs.declared.node.HBlock.{HBlock}
use Rattle.a_terms.specs.declared.nodes.ABlock.{ABlock}
use Rattle.a_terms.specs.declared.nodes.AData.{AData}
use Rattle.a_laws.proofs.Consts.{len_all}
use Rattle.a_terms.proofs.Lists.{length_data}

pub record BlocksMade (ks : pure.HBlks) (xs : List HBlock) (ys : List ABlock) (tuples : List AData) : Type 0 where
  pub made : a_blocks ys ≡ alloc_all ks 0 (h_blocks xs)
  pub keeps : a_data tuples ≡ data_all ks 0 (h_blocks xs)
  pub right : ARows ys

blocks_push : (ys : List ABlock) (y : ABlock) → a_blocks (ys ++ y ∷ []) ≡ a_blocks ys ++ a_block y ∷ []
blocks_push [] y = refl
blocks_push (x ∷ ys) y = ap (λ zs. a_block x ∷ zs) (blocks_push ys y)

all_push : (ks : pure.HBlks) (c : ℕ) (xs : List HBlock) (x : HBlock) →
    (alloc_all ks c (h_blocks (xs ++ x ∷ [])) ≡ alloc_all ks c (h_blocks xs)
    ++ alloc_block ks (n_all c (h_blocks xs)) (h_block x) ∷ [])
    × (data_all ks c (h_blocks (xs ++ x ∷ [])) ≡ data_all ks c (h_blocks xs)
    ++ data_block ks (n_all c (h_blocks xs)) (h_block x))
all_push ks c [] x = (refl, append-nil (data_block ks c (h_block x)))
all_push ks c (z ∷ xs) x =
    let r = all_push ks (n_block c (h_block z)) xs x in (
      ap (λ zs. alloc_block ks c (h_block z) ∷ zs) r.0,
      ap (λ zs. data_block ks c (h_block z) ++ zs) r.1
          ∙ sym (append_assoc (data_block ks c (h_block z)) (data_all ks (n_block c (h_block z)) (h_blocks xs))
          (data_block ks (n_all (n_block c (h_block z)) (h_blocks xs)) (h_block x))),
    )

rows_push : (ys : List ABlock) (y : ABlock) → ARows ys → ARow y.body.items 1 → ARows (ys ++ y ∷ [])
rows_push [] y h r = (r, tt)
rows_push (x ∷ ys) y h r = (h.0, rows_push ys y h.1 r)

pub made_none : (ks : pure.HBlks) (ys : List ABlock) (tuples : List AData) → ys ≡ [] → tuples ≡ [] →
    BlocksMade ks [] ys tuples
made_none ks ys tuples e f = record { made = ap a_blocks e; keeps = ap a_data f; right = subst ARows (sym e) tt }

-- the data so far are those of the blocks so far
pub number_is : (ks : pure.HBlks) (xs : List HBlock) (ys : List ABlock) (tuples : List AData) →
    BlocksMade ks xs ys tuples → length tuples ≡ n_all 0 (h_blocks xs)
number_is ks xs ys tuples made =
    let a = length_data tuples in
    let b = len_all ks (h_blocks xs) 0 in
    omega (arith, a, b, ap length made.keeps)

pub made_next : (ks : pure.HBlks) (xs : List HBlock) (i : ℕ) (x : HBlock) (ys zs : List ABlock) (y : ABlock)
    (tuples more : List AData) → i < length xs → x ≡ get_or xs i x → zs ≡ ys ++ y ∷ [] →
    a_block y ≡ alloc_block ks (length tuples) (h_block x) →
    a_data more ≡ a_data tuples ++ data_block ks (length tuples) (h_block x) → ARow y.body.items 1 →
    BlocksMade ks (take i xs) ys tuples → BlocksMade ks (take (i + 1) xs) zs more
made_next ks xs i x ys zs y tuples more lt is zs_is same keeps right made =
    let n = number_is ks (take i xs) ys tuples made in
    let next : take (i + 1) xs ≡ take i xs ++ x ∷ [] = take_more xs i x lt ∙ ap (λ v. take i xs ++ v ∷ []) (sym is) in
    let both = all_push ks 0 (take i xs) x in
    record {
      made = ap a_blocks zs_is ∙ blocks_push ys y
          ∙ ap₂ (λ us v. us ++ v ∷ []) made.made (same ∙ ap (λ k. alloc_block ks k (h_block x)) n)
          ∙ sym (ap (λ us. alloc_all ks 0 (h_blocks us)) next ∙ both.0);
      keeps = keeps ∙ ap₂ (λ us v. us ++ v) made.keeps (ap (λ k. data_block ks k (h_block x)) n)
          ∙ sym (ap (λ us. data_all ks 0 (h_blocks us)) next ∙ both.1);
      right = subst ARows (sym zs_is) (rows_push ys y made.right right);
    }

pub made_all : (ks : pure.HBlks) (xs : List HBlock) (i : ℕ) (ys : List ABlock) (tuples : List AData) → length xs ≤ i →
    BlocksMade ks (take i xs) ys tuples → BlocksMade ks xs ys tuples
made_all ks xs i ys tuples le made = subst (λ us. BlocksMade ks us ys tuples) (take_all i xs le) made

pub row_at : (xs : List HBlock) (i : ℕ) (x : HBlock) → i < length xs → x ≡ get_or xs i x → HRows xs →
    HRow x.body.items 1
row_at xs i x lt is rows = subst (λ (k : HBlock). HRow k.body.items 1) (sym is) (here xs i rows lt)
  where
    here : (ys : List HBlock) (j : ℕ) → HRows ys → j < length ys → HRow (get_or ys j x).body.items 1
    here [] j h lt2 = absurd (omega (arith, lt2))
    here (y ∷ ys) zero h lt2 = h.0
    here (y ∷ ys) (suc j) h lt2 = here ys j h.1 (omega (arith, lt2))

pub block_is : (ks : pure.HBlks) (c : ℕ) (k : HBlock) (ts us : List CType) (ns : List HNode) (args : Vec AType Global)
    (made : Vec ANode Global) → ts ≡ k.args.items → ns ≡ k.body.items → us ≡ k.args.items →
    a_tree made.items ≡ alloc_t ks (types_of (atypes (ctys ts)) []) (arg_levels 0 [] (ctys ts)) c
    (arg_depth 0 (ctys ts)) (h_tree ns) → atrees args.items ≡ atypes (ctys us) →
    a_block (record { owes = k.owes; args = args; body = made }) ≡ alloc_block ks c (h_block k)
block_is ks c k ts us ns args made t n u body types =
    ap₂ (λ xs y. (let b : a.ABlk = record { owes = k.owes; args = xs; body = y } in b))
    (types ∙ ap (λ vs. atypes (ctys vs)) u)
    (body ∙ ap₂ (λ vs xs. alloc_t ks (types_of (atypes (ctys vs)) []) (arg_levels 0 [] (ctys vs)) c
    (arg_depth 0 (ctys vs)) (h_tree xs)) t n)

pub block_keeps : (ks : pure.HBlks) (c : ℕ) (k : HBlock) (ts : List CType) (ns : List HNode) (us ws : List a.AConsts) →
    ts ≡ k.args.items → ns ≡ k.body.items →
    ws ≡ us ++ data_t ks (types_of (atypes (ctys ts)) []) (arg_levels 0 [] (ctys ts)) c (arg_depth 0 (ctys ts))
    (h_tree ns) → ws ≡ us ++ data_block ks c (h_block k)
block_keeps ks c k ts ns us ws t n is =
    is ∙ ap₂ (λ vs xs. us ++ data_t ks (types_of (atypes (ctys vs)) []) (arg_levels 0 [] (ctys vs)) c
    (arg_depth 0 (ctys vs)) (h_tree xs)) t n

-- how many data tuples the blocks have
pub count_is : (ks : pure.HBlks) (tuples : List AData) → a_data tuples ≡ data_all ks 0 ks → length tuples ≡ n_all 0 ks
count_is ks tuples e =
    let a = length_data tuples in
    let b = len_all ks ks 0 in
    omega (arith, a, b, ap length e)
