use Rattle.std.proofs.Common.{◌≡◌, ◌<◌, ◌^◌, ℕ, List, ◌∷◌, map, length, sym, ap, ap₂, subst, ◌∙◌, rules, arith}
use Rattle.std.proofs.Math.Logic.{∥∥₁_elim}
use Rattle.t_terms.specs.Tree.{TBlock, TData, TProg}
use Rattle.t_terms.specs.Spanned.{plain_program}
use Rattle.t_terms.specs.Whole.{WellFormedProgram, program_prop}
use Rattle.t_terms.specs.Read.{blocks_of, data_of, parts}
use Rattle.t_terms.specs.ReadProgram.{program}
use Rattle.t_terms.specs.declared.block.Block.{Block}
use Rattle.t_terms.specs.declared.data.Data.{Data}
use Rattle.t_terms.proofs.Blocks.{blocks_count}
use Rattle.t_spill_rules.specs.Spill.{lows, sp_blocks, sp_data, entry, spilled, spilled_above}
use Rattle.t_terms.specs.Values.{HeapValues}
use Rattle.t_spill.specs.Ready.{BlocksReady}
use Rattle.t_spill_code.specs.Onto.{HasNext}
use Rattle.t_spill.proofs.Readying.{blocks_ready, heap_ready}
use Rattle.t_spill.proofs.Props.{blocks_prop}
use Rattle.t_spill.proofs.program.spilled_program.Goals as goal

pub spilled_blocks-requires-clause-ready : goal.spilled_blocks-requires-clause-ready
spilled_blocks-requires-clause-ready c =
    let P = program c.args.program.now in
    subst (λ (bs : List Block). BlocksReady P (blocks_of bs)) (sym c.deref.ensures.value)
    (∥∥₁_elim c.requires.accepted (blocks_prop P P.blocks)
    (λ a. ∥∥₁_elim c.requires.names (blocks_prop P P.blocks) (λ f. blocks_ready P c.args.program.now.whole.0 a f)))

pub spilled_blocks-requires-clause-few : goal.spilled_blocks-requires-clause-few
spilled_blocks-requires-clause-few c =
    let n : length c.args.program.now.blocks.items < 2 ^ 64 = search rules in
    omega (arith, n, blocks_count c.args.program.now.blocks.items)

pub spilled_heap-requires : goal.spilled_heap-requires
spilled_heap-requires c =
    let n : length c.args.program.now.blocks.items < 2 ^ 64 = search rules in
    subst (λ (xs : List Data). HeapValues HasNext (data_of xs)) (sym c.deref-2.ensures.value)
    (heap_ready (program c.args.program.now)
    (omega (arith, n, blocks_count c.args.program.now.blocks.items)) c.args.program.now.whole.0)

made : (m k : ℕ) (P : TProg) (bs : List Block) (ds : List Data) → m ≡ lows k →
    blocks_of bs ≡ entry m ∷ sp_blocks m P P.blocks → data_of ds ≡ map (sp_data m) P.heap → parts bs ds ≡ spilled k P
made m k P bs ds e b d =
    ap₂ (λ (x : List TBlock) (y : List TData). (let q : TProg = record { blocks = x; heap = y } in q)) b d
    ∙ ap (λ z. spilled_above z P) e

pub new-requires : goal.new-requires
new-requires c =
    let P = program c.args.program.now in
    let k = c.args.k in
    let m = c.within-split.result.low in
    let same = made m k P c.in_ok-blocks.blocks.items c.in_ok-heap.heap.items c.within-split.ensures
    (c.in_ok-blocks.ensures ∙ ap (λ (bs : List Block). entry m ∷ sp_blocks m P (blocks_of bs)) c.deref.ensures.value)
    (c.in_ok-heap.ensures ∙ ap (λ (xs : List Data). map (sp_data m) (data_of xs)) c.deref-2.ensures.value) in
    let goal_prop = program_prop (spilled k P) in
    let whole : WellFormedProgram (spilled k P) = ∥∥₁_elim c.requires.accepted goal_prop
    (λ a. ∥∥₁_elim c.requires.names goal_prop
    (λ f. c.programs_are_whole.ensures k P c.requires.least c.args.program.now.whole.0 a f)) in
    subst WellFormedProgram (sym same) whole

pub returns : goal.returns
returns c =
    let P = program c.args.program.now in
    let m = c.within-split.result.low in
    ap plain_program c.new.ensures
    ∙ made m c.args.k P c.in_ok-blocks.blocks.items c.in_ok-heap.heap.items c.within-split.ensures
    (c.in_ok-blocks.ensures ∙ ap (λ (bs : List Block). entry m ∷ sp_blocks m P (blocks_of bs)) c.deref.ensures.value)
    (c.in_ok-heap.ensures ∙ ap (λ (xs : List Data). map (sp_data m) (data_of xs)) c.deref-2.ensures.value)
