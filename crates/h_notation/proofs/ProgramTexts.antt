-- Programs by their parts, and what loops write item by item.
use Rattle.std.proofs.Common.{◌≡◌, ◌≤◌, ◌<◌, ◌+◌, ℕ, suc, List, [], ◌∷◌, ◌++◌, length, take, get_or, refl, sym}
use Rattle.std.proofs.Common.{◌∙◌, ap, ap₂, append_assoc, codes, arith, length-append}
use Rattle.std.specs.Prelude.{Bool, true}
use Rattle.std.proofs.lemmas.List.{take_more}
use Rattle.page_core.specs.Names.{separator, value_name}
use Rattle.page_core.proofs.Listed.{Left, left_none, listed}
use Rattle.c_terms.specs.C.{CTy, ccount}
use Rattle.c_terms.specs.Read.{ctree, ctys}
use Rattle.c_terms.specs.Typing.{cargs_onto}
use Rattle.calc_core.specs.declared.types.CoreType.{CoreType as CType}
use Rattle.let_types.specs.TypeTexts.{type_text}
use Rattle.h_terms.specs.H.{HBlks}
use Rattle.h_terms.specs.Nodes.{h_block, h_blocks, h_tree}
use Rattle.h_terms.specs.declared.node.HBlock.{HBlock}
use Rattle.h_terms.specs.declared.node.HNode.{HNode}
use Rattle.let_types.specs.Names.{scope, shown}
use Rattle.let_types.specs.declared.named.Named.{Named}
use Rattle.let_types.proofs.OneMore.{scope_snoc}
use Rattle.h_notation.specs.Notation.{args_text, block_text, blocks_text, head_text, term_text}
use Rattle.h_notation.proofs.ScopeTexts.{same_text}

abbrev pub arg_item : ℕ → ℕ → CType → List ℕ
arg_item n i t = separator i ++ (value_name i ++ (codes ": " ++ type_text n (ctree t)))

args_listed : (i n : ℕ) (xs : List CType) → args_text i n (ctys xs) ≡ listed (arg_item n) i xs
args_listed i n [] = refl
args_listed i n (x ∷ xs) = rw (args_listed (suc i) n xs) (simp append_assoc)

pub args_done : (n : ℕ) (xs : List CType) (old new : List ℕ) (i : ℕ) →
    Left (arg_item n) new i i xs (old ++ listed (arg_item n) 0 xs) → length xs ≤ i →
    new ≡ old ++ args_text 0 n (ctys xs)
args_done n xs old new i h le =
    left_none (arg_item n) new i i xs _ h le ∙ ap (λ (s : List ℕ). old ++ s) (sym (args_listed 0 n xs))

pub arity_is : (xs : List CType) → length xs ≡ ccount (ctys xs)
arity_is [] = refl
arity_is (x ∷ xs) = ap suc (arity_is xs)

three_parts : (a b c t0 t1 t2 t3 : List ℕ) → t1 ≡ t0 ++ a → t2 ≡ t1 ++ b → t3 ≡ t2 ++ c → t3 ≡ t0 ++ (a ++ (b ++ c))
three_parts a b c t0 t1 t2 t3 e1 e2 e3 = rw (e3, e2, e1) (simp append_assoc)

-- ---- the names of arguments

args_snoc : (xs : List CType) (t : CType) (g : List CTy) →
    cargs_onto (ctys (xs ++ t ∷ [])) g ≡ ctree t ∷ cargs_onto (ctys xs) g
args_snoc [] t g = refl
args_snoc (x ∷ xs) t g = args_snoc xs t (ctree x ∷ g)

taken : (ts : List CType) (i : ℕ) (t : CType) → i < length ts → t ≡ get_or ts i t →
    take (i + 1) ts ≡ take i ts ++ t ∷ []
taken ts i t lt is = take_more ts i t lt ∙ ap (λ (u : CType). take i ts ++ u ∷ []) (sym is)

pub taken_length : (ts : List CType) (i : ℕ) (t : CType) → i < length ts → t ≡ get_or ts i t →
    length (take (i + 1) ts) ≡ length (take i ts) + 1
taken_length ts i t lt is =
    let one : length (t ∷ []) ≡ 1 = refl in
    omega (arith, ap length (taken ts i t lt is), length-append (take i ts) (t ∷ []), one)

pub argument_push : (k : ℕ) (es new : List Named) (e : Named) (ts : List CType) (i : ℕ) (t : CType) → i < length ts →
    t ≡ get_or ts i t → new ≡ es ++ e ∷ [] → shown k e ≡ ctree t →
    scope k es ≡ cargs_onto (ctys (take i ts)) [] → scope k new ≡ cargs_onto (ctys (take (i + 1) ts)) []
argument_push k es new e ts i t lt is n same h =
    ap (scope k) n ∙ scope_snoc k es e ∙ ap₂ (λ u g. u ∷ g) same h
    ∙ sym (ap (λ (us : List CType). cargs_onto (ctys us) []) (taken ts i t lt is) ∙ args_snoc (take i ts) t [])

pub block_done : (types : Bool) (ks : HBlks) (l : ℕ) (b : HBlock) (args : List CType) (nodes : List HNode)
    (g : List CTy) (n : ℕ) (t0 t1 t2 t3 : List ℕ) → args ≡ b.args.items → nodes ≡ b.body.items →
    (types ≡ true → g ≡ cargs_onto (ctys b.args.items) []) → n ≡ ccount (ctys b.args.items) →
    t1 ≡ t0 ++ head_text l b.owes (ctys args) → t2 ≡ t1 ++ term_text types ks g b.owes n 1 (h_tree nodes) →
    t3 ≡ t2 ++ codes "\n" → t3 ≡ t0 ++ block_text types ks l (h_block b)
block_done types ks l b args nodes g n t0 t1 t2 t3 same also kinds many e1 e2 e3 =
    let us = ctys b.args.items in
    let own = cargs_onto us [] in
    three_parts (head_text l b.owes us)
    (term_text types ks own b.owes (ccount us) 1 (h_tree b.body.items)) (codes "\n") t0 t1 t2 t3
    (e1 ∙ ap (λ (xs : List CType). t0 ++ head_text l b.owes (ctys xs)) same)
    (e2 ∙ ap (λ (s : List ℕ). t1 ++ s) (same_text types ks g own b.owes n 1 (h_tree nodes) kinds)
    ∙ ap (λ (k : ℕ). t1 ++ term_text types ks own b.owes k 1 (h_tree nodes)) many
    ∙ ap (λ (xs : List HNode). t1 ++ term_text types ks own b.owes (ccount us) 1 (h_tree xs)) also) e3

abbrev pub block_item : Bool → HBlks → ℕ → HBlock → List ℕ
block_item types ks l b = block_text types ks l (h_block b)

blocks_listed : (types : Bool) (ks : HBlks) (l : ℕ) (xs : List HBlock) →
    blocks_text types ks l (h_blocks xs) ≡ listed (block_item types ks) l xs
blocks_listed types ks l [] = refl
blocks_listed types ks l (x ∷ xs) =
    ap (λ (s : List ℕ). block_item types ks l x ++ s) (blocks_listed types ks (suc l) xs)

pub blocks_done : (types : Bool) (ks : HBlks) (xs : List HBlock) (old new : List ℕ) (i : ℕ) →
    Left (block_item types ks) new i i xs (old ++ listed (block_item types ks) 0 xs) → length xs ≤ i →
    new ≡ old ++ blocks_text types ks 0 (h_blocks xs)
blocks_done types ks xs old new i h le =
    left_none (block_item types ks) new i i xs _ h le
    ∙ ap (λ (s : List ℕ). old ++ s) (sym (blocks_listed types ks 0 xs))
