-- What is counted node by node is enough, and lists that are counted item by item.
use Rattle.std.proofs.Common.{Vec, Global, ◌≡◌, ◌<◌, ◌≤◌, ℕ, suc, ◌+◌, ◌*◌, max, List, [], ◌∷◌, ◌++◌, length, take}
use Rattle.std.proofs.Common.{get_or, Bool, refl, sym, ap, ◌∙◌, arith}
use Rattle.std.proofs.lemmas.List.{take_all}
use Rattle.a_terms.specs.Tree as a
use Rattle.a_terms.specs.Tree.{arity}
use Rattle.a_terms.specs.Sizes.{bulk, bulk_types, bulk_fields, bulk_sum, value_weight, values_weight, weight}
use Rattle.a_terms.specs.Sizes.{Blocks-fit, Data-fit, Fits-in, Tuples-fit}
use Rattle.a_terms.specs.Weights.{form_size, node_size, nodes_size, wrap_weight, wraps_weight, label_size, body_size}
use Rattle.a_terms.specs.Weights.{blocks_size, fields_size, data_size}
use Rattle.a_terms.specs.Read.{atree, atrees, afields}
use Rattle.a_terms.specs.ReadLaws.{took, is_code}
use Rattle.calc_core.specs.Row.{top, others}
use Rattle.a_terms.specs.NodeTrees.{a_build, a_consts, a_data, a_value, a_values, a_onto, a_tree, a_blocks, a_prog}
use Rattle.a_terms.specs.NodeTrees.{no_term, no_value, base, wrap, wrapped}
use Rattle.a_terms.specs.declared.types.AType.{AType}
use Rattle.a_terms.specs.declared.types.AType.TheVariants as A
use Rattle.a_terms.specs.declared.nodes.ABase.{ABase}
use Rattle.a_terms.specs.declared.nodes.ABase.TheVariants as B
use Rattle.a_terms.specs.declared.nodes.AForm.{AForm}
use Rattle.a_terms.specs.declared.nodes.AForm.TheVariants.{Value, Proj, Arith, Unpack, Malloc, Init, Call, If0, Halt}
use Rattle.a_terms.specs.declared.nodes.AWrap.{AWrap}
use Rattle.a_terms.specs.declared.nodes.AWrap.TheVariants.{Apply, Pack}
use Rattle.a_terms.specs.declared.nodes.AValue.{AValue}
use Rattle.a_terms.specs.declared.nodes.ANode.{ANode}
use Rattle.a_terms.specs.declared.nodes.ABlock.{ABlock}
use Rattle.a_terms.specs.declared.nodes.AData.{AData}

-- a sum over a list, and the greatest of a list
abbrev pub sum_of : {T : Type 0} → (T → ℕ) → List T → ℕ
sum_of f [] = 0
sum_of f (x ∷ xs) = f x + sum_of f xs

abbrev pub most_of : {T : Type 0} → (T → ℕ) → List T → ℕ
most_of f [] = 0
most_of f (x ∷ xs) = max (f x) (most_of f xs)

sum_snoc : {T : Type 0} (f : T → ℕ) (xs : List T) (x : T) → sum_of f (xs ++ x ∷ []) ≡ sum_of f xs + f x
sum_snoc f [] x = omega arith
sum_snoc f (y ∷ xs) x = let r = sum_snoc f xs x in omega (arith, r)

most_snoc : {T : Type 0} (f : T → ℕ) (xs : List T) (x : T) → most_of f (xs ++ x ∷ []) ≡ max (most_of f xs) (f x)
most_snoc f [] x = omega arith
most_snoc f (y ∷ xs) x = let r = most_snoc f xs x in omega (arith, r)

pub sum_next : {T : Type 0} (f : T → ℕ) (xs : List T) (i : ℕ) (x : T) (n new old : ℕ) → i < length xs →
    x ≡ get_or xs i x → n ≡ f x → new ≡ old + n → old ≡ sum_of f (take i xs) → new ≡ sum_of f (take (i + 1) xs)
sum_next f xs i x n new old lt is e s h =
    let r = sum_snoc f (take i xs) x in s ∙ omega (arith, e, h, r) ∙ sym (ap (sum_of f) (took xs i x lt is))

pub most_next : {T : Type 0} (f : T → ℕ) (xs : List T) (i : ℕ) (x : T) (n new old : ℕ) → i < length xs →
    x ≡ get_or xs i x → n ≡ f x → new ≡ max old n → old ≡ most_of f (take i xs) → new ≡ most_of f (take (i + 1) xs)
most_next f xs i x n new old lt is e s h =
    let r = most_snoc f (take i xs) x in s ∙ omega (arith, e, h, r) ∙ sym (ap (most_of f) (took xs i x lt is))

pub sum_all : {T : Type 0} (f : T → ℕ) (xs : List T) (i old : ℕ) → length xs ≤ i → old ≡ sum_of f (take i xs) →
    old ≡ sum_of f xs
sum_all f xs i old le h = h ∙ ap (sum_of f) (take_all i xs le)

pub most_all : {T : Type 0} (f : T → ℕ) (xs : List T) (i old : ℕ) → length xs ≤ i → old ≡ most_of f (take i xs) →
    old ≡ most_of f xs
most_all f xs i old le h = h ∙ ap (most_of f) (take_all i xs le)

abbrev pub type_bulk : AType → ℕ
type_bulk t = bulk (atree t)

abbrev pub field_bulk : AType × Bool → ℕ
field_bulk x = bulk (atree x.0)

abbrev pub weighed : AValue → ℕ
weighed v = value_weight (a_value v)

abbrev pub block_sum : ABlock → ℕ
block_sum k = label_size k + body_size k

pub types_most : (ts : List AType) → most_of type_bulk ts ≡ bulk_types (atrees ts)
types_most [] = refl
types_most (t ∷ ts) = ap (max (type_bulk t)) (types_most ts)

pub fields_most : (ts : List (AType × Bool)) → most_of field_bulk ts ≡ bulk_fields (afields ts)
fields_most [] = refl
fields_most (t ∷ ts) = ap (max (field_bulk t)) (fields_most ts)

pub types_sum : (ts : List AType) → sum_of type_bulk ts ≡ bulk_sum (atrees ts)
types_sum [] = refl
types_sum (t ∷ ts) = ap (λ n. type_bulk t + n) (types_sum ts)

pub values_sum : (vs : List AValue) → sum_of weighed vs ≡ values_weight (a_values vs)
values_sum [] = refl
values_sum (v ∷ vs) = ap (λ n. weighed v + n) (values_sum vs)

pub nodes_sum : (ns : List ANode) → sum_of node_size ns ≡ nodes_size ns
nodes_sum [] = refl
nodes_sum (n ∷ ns) = ap (λ k. node_size n + k) (nodes_sum ns)

pub blocks_sum : (ks : List ABlock) → sum_of block_sum ks ≡ blocks_size ks
blocks_sum [] = refl
blocks_sum (k ∷ ks) = ap (λ n. block_sum k + n) (blocks_sum ks)

pub arity_is : (ts : List AType) → arity (atrees ts) ≡ length ts
arity_is [] = refl
arity_is (t ∷ ts) = ap suc (arity_is ts)

wrap_adds : (w : AWrap) (v : a.AVal) → value_weight (wrap w v) ≡ value_weight v + wrap_weight w
wrap_adds (Apply ts) v = refl
wrap_adds (Pack h s) v = omega arith

wraps_add : (ws : List AWrap) (v : a.AVal) → value_weight (wrapped v ws) ≡ value_weight v + wraps_weight ws
wraps_add [] v = omega arith
wraps_add (w ∷ ws) v = let r = wraps_add ws (wrap w v) in let s = wrap_adds w v in omega (arith, r, s)

base_none : (b : ABase) → value_weight (base b) ≡ 0
base_none (B.Var i) = refl
base_none (B.Int n) = refl
base_none (B.Label l) = refl
base_none (B.Data n) = refl

pub value_sum : (v : AValue) (ws : List AWrap) → ws ≡ v.wraps.items → wraps_weight ws ≡ value_weight (a_value v)
value_sum v ws same =
    ap wraps_weight same
    ∙ (let r = wraps_add v.wraps.items (base v.base) in let s = base_none v.base in omega (arith, r, s))

pub wraps_sum : (ws : List AWrap) → sum_of wrap_weight ws ≡ wraps_weight ws
wraps_sum [] = refl
wraps_sum (w ∷ ws) = ap (λ n. wrap_weight w + n) (wraps_sum ws)

-- what is counted of a type, of a node and of a block, summand by summand
pub code_bulk : (self : AType) (owes : ℕ) (v : Vec AType Global) (xs : List AType) (most n all : ℕ) →
    self ≡ A.Code owes v → xs ≡ v.items → most ≡ bulk_types (atrees xs) → n ≡ length xs + most → all ≡ owes + n →
    all ≡ bulk (atree self)
code_bulk self owes v xs most n all is same m s a =
    let r = arity_is xs in omega (arith, m, s, a, r) ∙ ap bulk (sym (is_code self owes v xs is same))

pub node_total : (n : ANode) (vs : List AValue) (form types twice more all : ℕ) → vs ≡ n.values.items →
    form ≡ form_size n.form → types ≡ values_weight (a_values vs) → twice ≡ length vs + length vs →
    more ≡ twice + types → all ≡ form + more → all ≡ node_size n
node_total n vs form types twice more all same f t w m a =
    omega (arith, f, t, w, m, a) ∙ ap (λ us. form_size n.form + (2 * length us + values_weight (a_values us))) same

pub block_total : (k : ABlock) (us : List AType) (ns : List ANode) (most types label nodes term body all : ℕ) →
    us ≡ k.args.items → ns ≡ k.body.items → most ≡ bulk_types (atrees us) → types ≡ length us + most →
    label ≡ k.owes + types → nodes ≡ nodes_size ns → term ≡ nodes + 2 → body ≡ k.owes + term → all ≡ label + body →
    all ≡ block_sum k
block_total k us ns most types label nodes term body all u n m t l s e b a =
    let r = arity_is us in
    omega (arith, m, t, l, s, e, b, a, r)
    ∙ ap (λ ws. (k.owes + (arity (atrees ws) + bulk_types (atrees ws))) + (k.owes + (2 + nodes_size ns))) u
    ∙ ap (λ ws. label_size k + (k.owes + (2 + nodes_size ws))) n

-- the terms that nodes build weigh no more than the nodes
abbrev totals : List a.ATm → ℕ
totals [] = 0
totals (t ∷ ts) = weight t + totals ts

term_tops : (ts : List a.ATm) → weight (top no_term ts) + totals (others ts) ≤ 2 + totals ts
term_tops [] = omega arith
term_tops (t ∷ ts) = omega arith

value_tops : (vs : List a.AVal) → value_weight (top no_value vs) + values_weight (others vs) ≤ values_weight vs
value_tops [] = omega arith
value_tops (v ∷ vs) = omega arith

others_shorter : (vs : List a.AVal) → length (others vs) ≤ length vs
others_shorter [] = omega arith
others_shorter (v ∷ vs) = omega arith

build_size : (f : AForm) (vs : List a.AVal) (ts : List a.ATm) →
    totals (a_build f vs ts) ≤ (form_size f + (2 * length vs + values_weight vs)) + totals ts
build_size Value vs ts = omega (arith, term_tops ts, value_tops vs)
build_size (Proj i) vs ts = omega (arith, term_tops ts, value_tops vs)
build_size (Arith o) vs ts = omega (arith, term_tops ts, value_tops vs, value_tops (others vs))
build_size Unpack vs ts = omega (arith, term_tops ts, value_tops vs)
build_size (Malloc us) vs ts = omega (arith, term_tops ts, value_tops vs)
build_size (Init i) vs ts = omega (arith, term_tops ts, value_tops vs, value_tops (others vs))
build_size (Call us) vs ts = omega (arith, value_tops vs, others_shorter vs)
build_size If0 vs ts = omega (arith, term_tops ts, term_tops (others ts), value_tops vs)
build_size Halt vs ts = omega (arith, value_tops vs)

pub length_values : (vs : List AValue) → length (a_values vs) ≡ length vs
length_values [] = refl
length_values (v ∷ vs) = ap suc (length_values vs)

onto_size : (ns : List ANode) → totals (a_onto ns []) ≤ nodes_size ns
onto_size [] = omega arith
onto_size (n ∷ ns) =
    omega (
      arith,
      build_size n.form (a_values n.values.items) (a_onto ns []),
      onto_size ns,
      length_values n.values.items,
    )

tree_size : (ns : List ANode) → weight (a_tree ns) ≤ 2 + nodes_size ns
tree_size ns = omega (arith, term_tops (a_onto ns []), onto_size ns)

-- the labels' and the bodies' parts
abbrev labels : List ABlock → ℕ
labels [] = 0
labels (k ∷ ks) = label_size k + labels ks

abbrev bodies : List ABlock → ℕ
bodies [] = 0
bodies (k ∷ ks) = body_size k + bodies ks

both_parts : (ks : List ABlock) → blocks_size ks ≡ labels ks + bodies ks
both_parts [] = refl
both_parts (k ∷ ks) = let r = both_parts ks in omega (arith, r)

blocks_fit : (l m : ℕ) (ks : List ABlock) → labels ks ≤ l → l + bodies ks ≤ m → Blocks-fit l m (a_blocks ks)
blocks_fit l m [] a b = tt
blocks_fit l m (k ∷ ks) a b =
    let t = tree_size k.body.items in
    ((omega (arith, a), omega (arith, b, t)), blocks_fit l m ks (omega (arith, a)) (omega (arith, b)))

-- data
abbrev pub field_sum : AValue × AType → ℕ
field_sum c = bulk (atree c.1) + value_weight (a_value c.0)

abbrev pub tuple_sum : AData → ℕ
tuple_sum d = fields_size d.fields.items

pub fields_sum : (cs : List (AValue × AType)) → sum_of field_sum cs ≡ fields_size cs
fields_sum [] = refl
fields_sum (c ∷ cs) = ap (λ n. field_sum c + n) (fields_sum cs)

pub data_sum : (ds : List AData) → sum_of tuple_sum ds ≡ data_size ds
data_sum [] = refl
data_sum (d ∷ ds) = ap (λ n. tuple_sum d + n) (data_sum ds)

fields_fit : (l m : ℕ) (cs : List (AValue × AType)) → fields_size cs ≤ l → fields_size cs ≤ m →
    Data-fit l m (a_consts cs)
fields_fit l m [] a b = tt
fields_fit l m (c ∷ cs) a b =
    ((omega (arith, a), omega (arith, b)), fields_fit l m cs (omega (arith, a)) (omega (arith, b)))

data_fit : (l m : ℕ) (ds : List AData) → data_size ds ≤ l → data_size ds ≤ m → Tuples-fit l m (a_data ds)
data_fit l m [] a b = tt
data_fit l m (d ∷ ds) a b = (
  fields_fit l m d.fields.items (omega (arith, a)) (omega (arith, b)),
  data_fit l m ds (omega (arith, a)) (omega (arith, b)),
)

pub program_fits : (m : ℕ) (ks : List ABlock) (main : List ANode) (ds : List AData) →
    (blocks_size ks + data_size ds) + (nodes_size main + 2) ≤ m → Fits-in m (a_prog ks ds) (a_tree main)
program_fits m ks main ds le =
    let p = both_parts ks in
    let t = tree_size main in
    let l = labels ks + data_size ds in (
      l,
      blocks_fit l m ks (omega arith) (omega (arith, p, le)),
      data_fit l m ds (omega arith) (omega (arith, le)),
      omega (arith, p, t, le),
    )
