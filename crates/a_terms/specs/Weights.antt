-- A number that is counted node by node, and is no less than what a program needs of names and registers.
use Rattle.std.specs.Prelude.{ℕ, ◌+◌, ◌*◌, List, [], ◌∷◌, length}
use Rattle.a_terms.specs.Tree.{arity}
use Rattle.a_terms.specs.Sizes.{bulk, bulk_sum, bulk_types, value_weight, values_weight}
use Rattle.a_terms.specs.Read.{atree, atrees}
use Rattle.a_terms.specs.NodeTrees.{a_value, a_values}
use Rattle.a_terms.specs.declared.nodes.AForm.{AForm}
use Rattle.a_terms.specs.declared.nodes.AForm.TheVariants.{Value, Proj, Arith, Unpack, Malloc, Init, Call, If0, Halt}
use Rattle.a_terms.specs.declared.nodes.AWrap.{AWrap}
use Rattle.a_terms.specs.declared.nodes.AWrap.TheVariants.{Apply, Pack}
use Rattle.a_terms.specs.declared.nodes.ANode.{ANode}
use Rattle.a_terms.specs.declared.nodes.ABlock.{ABlock}
use Rattle.a_terms.specs.declared.nodes.AData.{AData}
use Rattle.a_terms.specs.declared.nodes.AValue.{AValue}
use Rattle.a_terms.specs.declared.types.AType.{AType}

abbrev pub form_size : AForm → ℕ
form_size Value = 7
form_size (Proj i) = 7 + i
form_size (Arith o) = 7
form_size Unpack = 7
form_size (Malloc us) = 7 + bulk_types (atrees us.items)
form_size (Init i) = 7 + i
form_size (Call us) = 7 + bulk_types (atrees us.items)
form_size If0 = 7
form_size Halt = 7

-- of the types that a value is written with
abbrev pub wrap_weight : AWrap → ℕ
wrap_weight (Apply ts) = bulk_sum (atrees ts.items)
wrap_weight (Pack h s) = bulk (atree h) + bulk (atree s)

abbrev pub wraps_weight : List AWrap → ℕ
wraps_weight [] = 0
wraps_weight (w ∷ ws) = wrap_weight w + wraps_weight ws

abbrev pub node_size : ANode → ℕ
node_size n = form_size n.form + (2 * length n.values.items + values_weight (a_values n.values.items))

abbrev pub nodes_size : List ANode → ℕ
nodes_size [] = 0
nodes_size (n ∷ ns) = node_size n + nodes_size ns

-- what the type of a block's label needs, and what its body needs beside it
abbrev pub label_size : ABlock → ℕ
label_size k = k.owes + (arity (atrees k.args.items) + bulk_types (atrees k.args.items))

abbrev pub body_size : ABlock → ℕ
body_size k = k.owes + (2 + nodes_size k.body.items)

abbrev pub blocks_size : List ABlock → ℕ
blocks_size [] = 0
blocks_size (k ∷ ks) = (label_size k + body_size k) + blocks_size ks

-- what the types of data need, and their values beside these
abbrev pub fields_size : List (AValue × AType) → ℕ
fields_size [] = 0
fields_size (c ∷ cs) = (bulk (atree c.1) + value_weight (a_value c.0)) + fields_size cs

abbrev pub data_size : List AData → ℕ
data_size [] = 0
data_size (d ∷ ds) = fields_size d.fields.items + data_size ds
