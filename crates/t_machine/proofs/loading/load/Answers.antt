use Rattle.std.proofs.Common.{ℕ, List, length, ◌∙◌, ap, sym, subst, map}
use Rattle.std.proofs.Math.Logic.{∥∥₁_map}
use Rattle.t_terms.specs.ReadProgram.{program}
use Rattle.t_terms.specs.declared.program.TProgram.{TProgram}
use Rattle.t_terms.specs.declared.data.Data.{Data}
use Rattle.t_terms.specs.Read.{blocks_of, data_of}
use Rattle.t_rules.specs.Erase.{erase_block, erase_blocks}
use Rattle.t_collect.specs.Cells.{cells_of}
use Rattle.t_machine.specs.Code.{all_moved}
use Rattle.t_collect.specs.Tuples.{starts_from}
use Rattle.t_machine.specs.Heap.{AllStarted}
use Rattle.t_machine.specs.Laid.{IsLaid, IsNamed}
use Rattle.t_machine.specs.State.{Represents}
use Rattle.t_machine.proofs.Starting.{tuples_of, starts}
use Rattle.t_terms.specs.Whole.{WellFormedBlocks, WellFormedHeap}
use Rattle.t_machine.proofs.There.{data_count}
use Rattle.t_machine.proofs.loading.load.Goals as goal

pub load_code-requires : goal.load_code-requires
load_code-requires c =
    let p = c.program-program.result.now in
    let P = program p in
    let count = data_count p.heap.items c.in_ok-starts.starts.items (c.in_ok-starts.ensures
    ∙ ap (λ (ds : List Data). starts_from 0 (tuples_of ds)) c.deref.ensures.value)
    ∙ ap (λ (ss : List ℕ). length ss) (sym c.deref-3.ensures.value) in (
      length P.blocks,
      subst (λ q. WellFormedBlocks (length P.blocks) q (blocks_of c.deref-2.result.now)) count
          (subst (λ bs. WellFormedBlocks (length P.blocks) (length P.heap) (blocks_of bs))
          (sym c.deref-2.ensures.value) p.whole.0.1),
    )

pub load_heap-requires : goal.load_heap-requires
load_heap-requires c =
    let p = c.program-program.result.now in
    let P = program p in
    let count = data_count p.heap.items c.in_ok-starts.starts.items (c.in_ok-starts.ensures
    ∙ ap (λ (ds : List Data). starts_from 0 (tuples_of ds)) c.deref.ensures.value)
    ∙ ap (λ (ss : List ℕ). length ss) (sym c.deref-5.ensures.value) in (
      length P.blocks,
      subst (λ q. WellFormedHeap (length P.blocks) q (data_of c.deref-4.result.now)) count
          (subst (λ xs. WellFormedHeap (length P.blocks) (length P.heap) (data_of xs))
          (sym c.deref-4.ensures.value) p.whole.0.2),
    )

pub invariant_of-result : goal.invariant_of-result
invariant_of-result c =
    let p = c.program-program.result.now in
    let ss = c.in_ok-starts.starts.items in
    let starts_are = c.in_ok-starts.ensures
    ∙ ap (λ (ds : List Data). starts_from 0 (tuples_of ds)) (c.deref.ensures.value ∙ sym c.deref-4.ensures.value) in
    let shows = starts c.programs_keep_laws.ensures p p.whole.0.0 c.deref-2.result.now
    c.deref-2.ensures.value c.in_ok-code.code c.in_ok-code.ensures.code c.in_ok-code.ensures.laid
    c.in_ok-code.ensures.paired
    c.len-count.ensures.places
    c.len-count.result c.len-count.ensures.len c.in_ok-heap.heap c.deref-4.result.now c.deref-4.ensures.value
    c.in_ok-heap.ensures.heap c.in_ok-heap.ensures.fresh ss starts_are
    (subst (λ zs. AllStarted zs (cells_of c.in_ok-heap.heap.cells)) c.deref-5.ensures.value
    c.in_ok-heap.ensures.started)
    (subst (λ zs. AllStarted zs (all_moved c.in_ok-code.code.instructions.items)) c.deref-3.ensures.value
    c.in_ok-code.ensures.started)
    c.new-registers.result.items c.new-registers.ensures.items _
    c.new-registers.ensures.len c.resize.new.self.items c.in_ok-resize.ensures.items c.index-at.result.now
    c.index-at.ensures in
    record {
      stands = ∥∥₁_map c.program-program.ensures.accepted (λ a. record {
        program = program p;
        steps = 0;
        whole = p.whole.0;
        accepted = a;
        shows = shows;
      });
    }

pub returns-clause-stands : goal.returns-clause-stands
returns-clause-stands c =
    let p = c.program-program.result.now in
    let ss = c.in_ok-starts.starts.items in
    let starts_are = c.in_ok-starts.ensures
    ∙ ap (λ (ds : List Data). starts_from 0 (tuples_of ds)) (c.deref.ensures.value ∙ sym c.deref-4.ensures.value) in
    let shows = starts c.programs_keep_laws.ensures p p.whole.0.0 c.deref-2.result.now
    c.deref-2.ensures.value c.in_ok-code.code c.in_ok-code.ensures.code c.in_ok-code.ensures.laid
    c.in_ok-code.ensures.paired
    c.len-count.ensures.places
    c.len-count.result c.len-count.ensures.len c.in_ok-heap.heap c.deref-4.result.now c.deref-4.ensures.value
    c.in_ok-heap.ensures.heap c.in_ok-heap.ensures.fresh ss starts_are
    (subst (λ zs. AllStarted zs (cells_of c.in_ok-heap.heap.cells)) c.deref-5.ensures.value
    c.in_ok-heap.ensures.started)
    (subst (λ zs. AllStarted zs (all_moved c.in_ok-code.code.instructions.items)) c.deref-3.ensures.value
    c.in_ok-code.ensures.started)
    c.new-registers.result.items c.new-registers.ensures.items _
    c.new-registers.ensures.len c.resize.new.self.items c.in_ok-resize.ensures.items c.index-at.result.now
    c.index-at.ensures in
    subst (λ (q : TProgram). Represents (program q) 0 c.in_ok-heap.heap c.resize.new.self.items c.in_ok-code.code
    c.index-at.result.now) c.program-program.ensures.same shows

pub returns-clause-laid : goal.returns-clause-laid
returns-clause-laid c =
    subst (IsLaid c.in_ok-code.code) (ap (λ bs. map erase_block (blocks_of bs)) c.deref-2.ensures.value
    ∙ ap (λ (q : TProgram). erase_blocks (program q)) c.program-program.ensures.same) c.in_ok-code.ensures.laid

pub returns-clause-named : goal.returns-clause-named
returns-clause-named c =
    subst (IsNamed c.in_ok-code.code) (ap (λ bs. map erase_block (blocks_of bs)) c.deref-2.ensures.value
    ∙ ap (λ (q : TProgram). erase_blocks (program q)) c.program-program.ensures.same) c.in_ok-code.ensures.named
