use Rattle.t_text.specs.Kept.{tokens_of}
use Rattle.t_reader.proofs.Turning.{InTurn}
use Rattle.t_reader.proofs.reader.parts_by_heads.Given as goal

abbrev pub invariant-loop-head : goal.invariant-loop-head
invariant-loop-head l =
    InTurn l.text l.labels (tokens_of l.tokens) l.heads l.head-index l.so_far l.blocks.items l.heap.items
