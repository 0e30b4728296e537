-- The heads of items, and the labels that they give.
use Rattle.std.specs.Prelude.{◌≡◌, ℕ, suc, List, [], ◌∷◌, map}
use Rattle.t_text.specs.declared.token.Token.{Token}
use Rattle.t_terms.specs.declared.block.Block.{Block}
use Rattle.t_terms.specs.declared.data.Data as heap_of
use Rattle.t_terms.specs.Tree.{Label, Data}
use Rattle.t_terms.specs.Read.{spanned_parts}
use Rattle.t_text.specs.Raw.{RawItem, BlockItem, DataItem}
use Rattle.t_text.specs.Names.{Labels, spelled, program_of}
use Rattle.t_text.specs.NameFaults.{program_faults}
use Rattle.t_shapes.specs.Reads.{AreProgram}
use Rattle.t_reader.specs.declared.heads.Head.{Head}
use Rattle.t_reader.specs.declared.heads.Head.TheVariants as H

-- what an item is, and the place of its label
abbrev pub head_of : RawItem → Head
head_of (BlockItem b) = H.Block b.name
head_of (DataItem x) = H.Data x.name

abbrev pub heads_of : List RawItem → List Head
heads_of xs = map head_of xs

-- the labels of items with these heads, with k blocks and d data tuples before them
abbrev pub labels_from : List ℕ → ℕ → ℕ → List Head → Labels
labels_from text k d [] = []
labels_from text k d (H.Block s ∷ hs) = (spelled text s, Label k) ∷ labels_from text (suc k) d hs
labels_from text k d (H.Data s ∷ hs) = (spelled text s, Data d) ∷ labels_from text k (suc d) hs

abbrev pub head_labels : List ℕ → List Head → Labels
head_labels text hs = labels_from text 0 0 hs

-- tokens that are a program without faults of names, of which these are the blocks and the data
pub record AreParts (text : List ℕ) (tokens : List Token) (blocks : List Block)
    (heap : List heap_of.Data) : Type 0 where
  pub raw : List RawItem
  pub program : AreProgram tokens raw
  pub named : program_faults text raw ≡ []
  pub is : spanned_parts blocks heap ≡ program_of text raw
