use Rattle.std.proofs.Common.{◌≡◌, ◌+◌, ◌++◌, length, map, drop}
use Rattle.std.specs.Prelude.{slice_index}
use Rattle.w_terms.specs.Read.{block}
use Rattle.w_laws.specs.Translate.{codes_of}
use Rattle.w_gen.proofs.Shares.{erased}
use Rattle.w_gen.proofs.blocks.all_pieces.Given as goal

abbrev pub invariant-loop-one : goal.invariant-loop-one
invariant-loop-one l = record {
  firsts : map block l.firsts.items
      ++ (codes_of (slice_index l.places) (l.from + length l.rest.items) (erased (drop l.one-index l.blocks))).firsts
      ≡ (codes_of (slice_index l.places) l.from (erased l.blocks)).firsts;
  rest : map block l.rest.items
      ++ (codes_of (slice_index l.places) (l.from + length l.rest.items) (erased (drop l.one-index l.blocks))).rest
      ≡ (codes_of (slice_index l.places) l.from (erased l.blocks)).rest;
}
