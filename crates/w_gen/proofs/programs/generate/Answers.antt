use Rattle.std.proofs.Common.{List, ◌+◌, ◌-◌, ◌/◌, ◌++◌, ℕ, map, ap, ap₂, ◌∙◌}
use Rattle.std.specs.Prelude.{slice_index}
use Rattle.t_terms.specs.Read.{blocks_of as trees_of, data_of}
use Rattle.t_terms.specs.ReadProgram.{program as tree}
use Rattle.t_terms.specs.declared.block.Block.{Block}
use Rattle.t_terms.specs.declared.data.Data.{Data}
use Rattle.t_rules.specs.Erase.{erase_block, erase_datum}
use Rattle.w_terms.specs.Tree.{WSeq}
use Rattle.w_terms.specs.Read.{block}
use Rattle.w_laws.specs.Code.{data_words}
use Rattle.w_laws.specs.Translate.{blocks_of}
use Rattle.w_blocks.specs.Read.{layout}
use Rattle.w_laws.specs.Built.{runtime_words, runtime_blocks as runtime_trees}
use Rattle.w_gen.specs.Data.{addresses_of}
use Rattle.w_gen.proofs.Building.{joined}
use Rattle.w_gen.proofs.programs.generate.Goals as goal

pub returns : goal.returns
returns c =
    let p = c.args.plan in
    let P = tree c.args.program.now in
    let places = c.in_ok-places.places.items in
    let start = c.in_ok-start.start in
    joined P p.base ((p.parts.top - p.base) / 8) p.many start
    (runtime_trees (layout p.parts) p.base p.heap p.many) (map block c.in_ok-blocks.blocks.items) (runtime_words p.many)
    c.words.new.image.items places c.in_ok-start.ensures
    (c.in_ok-places.ensures ∙ ap (λ (xs : List Data). addresses_of start (data_of xs)) c.deref.ensures.value)
    (c.in_ok-blocks.ensures
    ∙ ap₂ (λ (ps : List ℕ) (xs : List Block). blocks_of (slice_index ps) (map block c.in_ok-runtime.runtime.items)
    (map erase_block (trees_of xs))) c.deref-3.ensures.value c.deref-2.ensures.value
    ∙ ap (λ (r : List WSeq). blocks_of (slice_index places) r
    (map erase_block (trees_of c.args.program.now.blocks.items)))
    c.in_ok-runtime.ensures)
    (c.in_ok-words.ensures
    ∙ ap₂ (λ (ps : List ℕ) (xs : List Data). c.in_ok-image.image.items
    ++ data_words (slice_index ps) (map (map erase_datum) (data_of xs))) c.deref-5.ensures.value c.deref-4.ensures.value
    ∙ ap (λ ws. ws ++ data_words (slice_index places) (map (map erase_datum) (data_of c.args.program.now.heap.items)))
    c.in_ok-image.ensures)
