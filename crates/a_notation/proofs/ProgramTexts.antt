-- Programs by their parts, and what loops write item by item.
use Rattle.std.proofs.Common.{◌≡◌, ◌≤◌, ◌<◌, ℕ, suc, List, [], ◌∷◌, ◌++◌, length, refl, sym}
use Rattle.std.proofs.Common.{◌+◌, get_or, take, ◌∙◌, ap, ap₂, append_assoc, codes, arith}
use Rattle.std.specs.Prelude.{Bool}
use Rattle.page_core.specs.Names.{separator, value_name}
use Rattle.page_core.proofs.Listed.{Left, left_none, listed}
use Rattle.a_terms.specs.NodeTrees.{a_block, a_blocks, a_consts, a_data, a_tree}
use Rattle.a_terms.specs.Read.{atree, atrees}
use Rattle.a_terms.specs.ReadLaws.{asnoc, atrees_snoc, took}
use Rattle.a_terms.specs.Tree.{AProg, ATy, ATys, NoATys, MoreATys, arity}
use Rattle.a_terms.specs.Typing.{types_of}
use Rattle.a_scope.specs.Scope.{noted, scope}
use Rattle.a_scope.specs.declared.scope.Entry.{Entry}
use Rattle.a_scope.proofs.Scopes.{scope_snoc, shown_own}
use Rattle.a_terms.specs.declared.types.AType.{AType}
use Rattle.a_terms.specs.declared.nodes.ABlock.{ABlock}
use Rattle.a_terms.specs.declared.nodes.AData.{AData}
use Rattle.a_terms.specs.declared.nodes.ANode.{ANode}
use Rattle.a_notation.specs.Types.{type_text}
use Rattle.a_notation.specs.Notation.{args_text, block_text, blocks_text, data_text, head_text, term_text}
use Rattle.a_notation.specs.Notation.{tuple_text}
use Rattle.a_notation.specs.Notation.{tuples_text}

abbrev pub arg_item : ℕ → ℕ → AType → List ℕ
arg_item n i t = separator i ++ (value_name i ++ (codes ": " ++ type_text n (atree t)))

args_listed : (i n : ℕ) (xs : List AType) → args_text i n (atrees xs) ≡ listed (arg_item n) i xs
args_listed i n [] = refl
args_listed i n (x ∷ xs) = rw (args_listed (suc i) n xs) (simp append_assoc)

pub args_done : (n : ℕ) (xs : List AType) (old new : List ℕ) (i : ℕ) →
    Left (arg_item n) new i i xs (old ++ listed (arg_item n) 0 xs) → length xs ≤ i →
    new ≡ old ++ args_text 0 n (atrees xs)
args_done n xs old new i h le =
    left_none (arg_item n) new i i xs _ h le ∙ ap (λ (s : List ℕ). old ++ s) (sym (args_listed 0 n xs))

pub arity_is : (xs : List AType) → length xs ≡ arity (atrees xs)
arity_is [] = refl
arity_is (x ∷ xs) = ap suc (arity_is xs)

-- ---- the variables of arguments

types_snoc : (ts : ATys) (t : ATy) (g : List ATy) → types_of (asnoc ts t) g ≡ t ∷ types_of ts g
types_snoc NoATys t g = refl
types_snoc (MoreATys u us) t g = types_snoc us t (u ∷ g)

pub argument_push : (k : ℕ) (es new : List Entry) (e : Entry) (ts : List AType) (i : ℕ) (t : AType) → i < length ts →
    t ≡ get_or ts i t → new ≡ es ++ e ∷ [] → e.names ≡ k → noted e ≡ atree t →
    scope k es ≡ types_of (atrees (take i ts)) [] → scope k new ≡ types_of (atrees (take (i + 1) ts)) []
argument_push k es new e ts i t lt is n names same h =
    ap (scope k) n ∙ scope_snoc k es e ∙ ap₂ (λ u g. u ∷ g) (shown_own k e names ∙ same) h
    ∙ sym (ap (λ (us : ATys). types_of us []) (ap atrees (took ts i t lt is) ∙ atrees_snoc (take i ts) t)
    ∙ types_snoc (atrees (take i ts)) (atree t) [])

three_parts : (a b c t0 t1 t2 t3 : List ℕ) → t1 ≡ t0 ++ a → t2 ≡ t1 ++ b → t3 ≡ t2 ++ c → t3 ≡ t0 ++ (a ++ (b ++ c))
three_parts a b c t0 t1 t2 t3 e1 e2 e3 = rw (e3, e2, e1) (simp append_assoc)

pub block_done : (types : Bool) (p : AProg) (l : ℕ) (b : ABlock) (args : List AType) (nodes : List ANode)
    (g : List ATy) (n : ℕ) (t0 t1 t2 t3 : List ℕ) → args ≡ b.args.items → nodes ≡ b.body.items →
    g ≡ types_of (atrees b.args.items) [] → n ≡ arity (atrees b.args.items) →
    t1 ≡ t0 ++ head_text l b.owes (atrees args) → t2 ≡ t1 ++ term_text types p g b.owes n 1 (a_tree nodes) →
    t3 ≡ t2 ++ codes "\n" → t3 ≡ t0 ++ block_text types p l (a_block b)
block_done types p l b args nodes g n t0 t1 t2 t3 same also kinds many e1 e2 e3 =
    let us = atrees b.args.items in
    three_parts (head_text l b.owes us)
    (term_text types p (types_of us []) b.owes (arity us) 1 (a_tree b.body.items)) (codes "\n") t0 t1 t2 t3
    (e1 ∙ ap (λ (xs : List AType). t0 ++ head_text l b.owes (atrees xs)) same)
    (e2 ∙ ap (λ (h : List ATy). t1 ++ term_text types p h b.owes n 1 (a_tree nodes)) kinds
    ∙ ap (λ (k : ℕ). t1 ++ term_text types p (types_of us []) b.owes k 1 (a_tree nodes)) many
    ∙ ap (λ (xs : List ANode). t1 ++ term_text types p (types_of us []) b.owes (arity us) 1 (a_tree xs)) also) e3

abbrev pub block_item : Bool → AProg → ℕ → ABlock → List ℕ
block_item types p l b = block_text types p l (a_block b)

abbrev pub tuple_item : ℕ → AData → List ℕ
tuple_item d x = tuple_text d (a_consts x.fields.items)

blocks_listed : (types : Bool) (p : AProg) (l : ℕ) (xs : List ABlock) →
    blocks_text types p l (a_blocks xs) ≡ listed (block_item types p) l xs
blocks_listed types p l [] = refl
blocks_listed types p l (x ∷ xs) = ap (λ (s : List ℕ). block_item types p l x ++ s) (blocks_listed types p (suc l) xs)

tuples_listed : (d : ℕ) (xs : List AData) → tuples_text d (a_data xs) ≡ listed tuple_item d xs
tuples_listed d [] = refl
tuples_listed d (x ∷ xs) = ap (λ (s : List ℕ). tuple_item d x ++ s) (tuples_listed (suc d) xs)

pub blocks_done : (types : Bool) (p : AProg) (xs : List ABlock) (old new : List ℕ) (i : ℕ) →
    Left (block_item types p) new i i xs (old ++ listed (block_item types p) 0 xs) → length xs ≤ i →
    new ≡ old ++ blocks_text types p 0 (a_blocks xs)
blocks_done types p xs old new i h le =
    left_none (block_item types p) new i i xs _ h le ∙ ap (λ (s : List ℕ). old ++ s) (sym (blocks_listed types p 0 xs))

pub tuples_done : (xs : List AData) (old new : List ℕ) (i : ℕ) →
    Left tuple_item new i i xs (old ++ listed tuple_item 0 xs) → length xs ≤ i → new ≡ old ++ tuples_text 0 (a_data xs)
tuples_done xs old new i h le =
    left_none tuple_item new i i xs _ h le ∙ ap (λ (s : List ℕ). old ++ s) (sym (tuples_listed 0 xs))

pub data_is : (xs : List AData) → 0 < length xs → tuples_text 0 (a_data xs) ++ codes "\n" ≡ data_text (a_data xs)
data_is [] lt = absurd (omega (arith, lt))
data_is (x ∷ xs) lt = refl

pub data_done : (xs : List AData) (t0 t1 t2 : List ℕ) → 0 < length xs → t1 ≡ t0 ++ tuples_text 0 (a_data xs) →
    t2 ≡ t1 ++ codes "\n" → t2 ≡ t0 ++ data_text (a_data xs)
data_done xs t0 t1 t2 lt e1 e2 =
    e2 ∙ ap (λ (s : List ℕ). s ++ codes "\n") e1 ∙ append_assoc t0 (tuples_text 0 (a_data xs)) (codes "\n")
    ∙ ap (λ (s : List ℕ). t0 ++ s) (data_is xs lt)
