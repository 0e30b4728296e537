-- The plain trees of nodes, blocks and data.
use Rattle.std.specs.Prelude.{List, [], ◌∷◌, map, Bool, true, false}
use Rattle.a_terms.specs.Tree as a
use Rattle.a_terms.specs.Read.{atree, atrees}
use Rattle.a_terms.specs.declared.nodes.ABase.{ABase}
use Rattle.a_terms.specs.declared.nodes.ABase.TheVariants.{Var, Int, Label, Data}
use Rattle.a_terms.specs.declared.nodes.AWrap.{AWrap}
use Rattle.a_terms.specs.declared.nodes.AWrap.TheVariants.{Apply, Pack}
use Rattle.a_terms.specs.declared.nodes.AValue.{AValue}
use Rattle.a_terms.specs.declared.nodes.AForm.{AForm}
use Rattle.a_terms.specs.declared.nodes.AForm.TheVariants.{Value, Proj, Arith, Unpack, Malloc, Init, Call, If0, Halt}
use Rattle.a_terms.specs.declared.nodes.ANode.{ANode}
use Rattle.a_terms.specs.declared.nodes.ABlock.{ABlock}
use Rattle.a_terms.specs.declared.nodes.AData.{AData}
use Rattle.a_terms.specs.declared.types.AType.{AType}
use Rattle.calc_core.specs.Row.{top, others}

abbrev pub base : ABase → a.AVal
base (Var i) = a.Var i
base (Int n) = a.Num n
base (Label l) = a.Lab l
base (Data n) = a.Data n

abbrev pub wrap : AWrap → a.AVal → a.AVal
wrap (Apply ts) v = a.Apply v (atrees ts.items)
wrap (Pack h s) v = a.Pack (atree h) v (atree s)

abbrev pub wrapped : a.AVal → List AWrap → a.AVal
wrapped v [] = v
wrapped v (w ∷ ws) = wrapped (wrap w v) ws

abbrev pub a_value : AValue → a.AVal
a_value v = wrapped (base v.base) v.wraps.items

abbrev pub a_values : List AValue → List a.AVal
a_values vs = map a_value vs

abbrev pub no_value : a.AVal
no_value = a.Var 0

abbrev pub no_term : a.ATm
no_term = a.Halt no_value

-- the forms of declarations
abbrev pub is_decl : AForm → Bool
is_decl Value = true
is_decl (Proj i) = true
is_decl (Arith o) = true
is_decl Unpack = true
is_decl (Malloc us) = true
is_decl (Init i) = true
is_decl (Call us) = false
is_decl If0 = false
is_decl Halt = false

abbrev pub a_decl : AForm → List a.AVal → a.ADecl
a_decl Value vs = a.Value (top no_value vs)
a_decl (Proj i) vs = a.Proj i (top no_value vs)
a_decl (Arith o) vs = a.Arith o (top no_value vs) (top no_value (others vs))
a_decl Unpack vs = a.Unpack (top no_value vs)
a_decl (Malloc us) vs = a.Malloc (atrees us.items)
a_decl (Init i) vs = a.Init (top no_value vs) i (top no_value (others vs))
a_decl (Call us) vs = a.Value no_value
a_decl If0 vs = a.Value no_value
a_decl Halt vs = a.Value no_value

abbrev pub a_let : a.ADecl → List a.ATm → List a.ATm
a_let d ts = a.Let d (top no_term ts) ∷ others ts

-- one more node before terms
abbrev pub a_build : AForm → List a.AVal → List a.ATm → List a.ATm
a_build Value vs ts = a_let (a_decl Value vs) ts
a_build (Proj i) vs ts = a_let (a_decl (Proj i) vs) ts
a_build (Arith o) vs ts = a_let (a_decl (Arith o) vs) ts
a_build Unpack vs ts = a_let (a_decl Unpack vs) ts
a_build (Malloc us) vs ts = a_let (a_decl (Malloc us) vs) ts
a_build (Init i) vs ts = a_let (a_decl (Init i) vs) ts
a_build (Call us) vs ts = a.Call (top no_value vs) (atrees us.items) (others vs) ∷ ts
a_build If0 vs ts = a.If0 (top no_value vs) (top no_term ts) (top no_term (others ts)) ∷ others (others ts)
a_build Halt vs ts = a.Halt (top no_value vs) ∷ ts

-- nodes before terms
abbrev pub a_onto : List ANode → List a.ATm → List a.ATm
a_onto [] ts = ts
a_onto (n ∷ ns) ts = a_build n.form (a_values n.values.items) (a_onto ns ts)

-- the tree of a term
abbrev pub a_tree : List ANode → a.ATm
a_tree ns = top no_term (a_onto ns [])

abbrev pub a_block : ABlock → a.ABlk
a_block k = record { owes = k.owes; args = atrees k.args.items; body = a_tree k.body.items }

abbrev pub a_blocks : List ABlock → List a.ABlk
a_blocks [] = []
a_blocks (k ∷ ks) = a_block k ∷ a_blocks ks

-- the fields of a data tuple
abbrev pub a_consts : List (AValue × AType) → a.AConsts
a_consts [] = []
a_consts (c ∷ cs) = record { value = a_value c.0; kind = atree c.1 } ∷ a_consts cs

abbrev pub a_data : List AData → List a.AConsts
a_data [] = []
a_data (d ∷ ds) = a_consts d.fields.items ∷ a_data ds

-- the blocks and the data of a program
abbrev pub a_prog : List ABlock → List AData → a.AProg
a_prog bs ds = record { blocks = a_blocks bs; tuples = a_data ds }
