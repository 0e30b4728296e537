-- The code's types and nodes as plain ones.
use Rattle.std.specs.Prelude.{List, [], ◌∷◌}
pub use Rattle.calc_core.specs.Read.{tree as ctree, trees as ctrees, all_trees as ctys}
use Rattle.c_terms.specs.Stream.{CNd, MVar, MInt, MTuple, MCode, MEnd, MApply, MPack, MName, MProj, MArith, MUnpack}
use Rattle.c_terms.specs.Stream.{MCell, MGet, MSet, MCall, MIf, MElse, MHalt}
use Rattle.c_terms.specs.declared.node.CNode.{CNode}
use Rattle.c_terms.specs.declared.node.CNode.TheVariants as M

-- the plain node
abbrev pub cnode : CNode → CNd
cnode (M.Var level) = MVar level
cnode (M.Int n) = MInt n
cnode (M.Tuple count) = MTuple count
cnode (M.Code owes args) = MCode owes (ctys args.items)
cnode M.End = MEnd
cnode (M.Apply types) = MApply (ctys types.items)
cnode (M.Pack hidden shape) = MPack (ctree hidden) (ctree shape)
cnode (M.Name level) = MName level
cnode (M.Proj level field) = MProj level field
cnode (M.Arith level op) = MArith level op
cnode (M.Unpack level) = MUnpack level
cnode (M.Cell level) = MCell level
cnode (M.Get level) = MGet level
cnode (M.Set level) = MSet level
cnode (M.Call types count) = MCall (ctys types.items) count
cnode M.If0 = MIf
cnode M.Else = MElse
cnode M.Halt = MHalt

-- nodes, before others
abbrev pub written : List CNode → List CNd → List CNd
written [] rest = rest
written (n ∷ ns) rest = cnode n ∷ written ns rest
