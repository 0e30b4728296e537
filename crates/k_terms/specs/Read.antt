-- The code's types and nodes as plain ones.
pub use Rattle.calc_core.specs.Read.{tree as ktree, trees as ktrees, all_trees as ktys}
use Rattle.k_terms.specs.Stream.{KNd, NVar, NInt, NTuple, NCode, NEnd, NName, NProj, NArith, NPack, NUnpack, NCell}
use Rattle.k_terms.specs.Stream.{NGet, NSet, NCall, NIf, NElse, NHalt}
use Rattle.k_terms.specs.declared.node.KNode.{KNode}
use Rattle.k_terms.specs.declared.node.KNode.TheVariants as N

-- the plain node
abbrev pub knode : KNode → KNd
knode (N.Var level) = NVar level
knode (N.Int n) = NInt n
knode (N.Tuple count) = NTuple count
knode (N.Code level depth owes args) = NCode level depth owes (ktys args.items)
knode N.End = NEnd
knode (N.Name level ty) = NName level (ktree ty)
knode (N.Proj level field ty) = NProj level field (ktree ty)
knode (N.Arith level op) = NArith level op
knode (N.Pack level depth hidden shape) = NPack level depth (ktree hidden) (ktree shape)
knode (N.Unpack level depth ty) = NUnpack level depth (ktree ty)
knode (N.Cell level ty) = NCell level (ktree ty)
knode (N.Get level ty) = NGet level (ktree ty)
knode (N.Set level) = NSet level
knode (N.Call level depth types count) = NCall level depth (ktys types.items) count
knode N.If0 = NIf
knode (N.Else depth) = NElse depth
knode N.Halt = NHalt
