use Rattle.std.proofs.Common.{◌++◌, [], length, ap, ◌∙◌}
use Rattle.std.proofs.Math.Logic.{∥∥₁_map}
use Rattle.a_laws.specs.Allocate.{data_t}
use Rattle.h_terms.specs.Nodes.{h_blocks, h_tree}
use Rattle.h_terms.specs.Program.{blocks_in, main_in}
use Rattle.a_pass.proofs.Blocks.{count_is}
use Rattle.a_pass.proofs.Bounded.{bounded, main_is, program_is}
use Rattle.a_pass.proofs.program.allocated.Goals as goal

pub all_blocks-requires : goal.all_blocks-requires
all_blocks-requires c = record { rows = c.blocks-given.ensures.rows; first = c.new-tuples.ensures.items }

pub new-requires-clause-bound : goal.new-requires-clause-bound
new-requires-clause-bound c =
    let g = h_blocks c.blocks-given.result.now in
    let m = h_tree c.main.result.now in
    let n = count_is g c.all_blocks.new.tuples.items c.in_ok-blocks.ensures.keeps in
    let ed = c.in_ok-main.ensures.keeps
    ∙ ap (λ z. z ++ data_t g [] [] (length c.all_blocks.new.tuples.items) 0 m) c.in_ok-blocks.ensures.keeps in
    ∥∥₁_map c.blocks-given.ensures.bound
    (λ h. bounded (blocks_in c.args.program.now) (main_in c.args.program.now) c.in_ok-blocks.blocks.items _
    c.main_term.new.tuples.items _ c.in_ok-main.main.items _ c.bounds_are_kept.ensures h
    (program_is g _ m _ c.in_ok-blocks.blocks.items c.main_term.new.tuples.items _ c.blocks-given.ensures.same
    c.main.ensures.same c.in_ok-blocks.ensures.made ed n)
    (main_is g _ m _ _ _ c.blocks-given.ensures.same c.main.ensures.same c.in_ok-main.ensures.tree n)
    c.deref.ensures.value c.deref-2.ensures.value c.deref-3.ensures.value c.in_ok-keeps_bound.ensures)

pub returns-clause-program : goal.returns-clause-program
returns-clause-program c =
    let g = h_blocks c.blocks-given.result.now in
    let m = h_tree c.main.result.now in
    let n = count_is g c.all_blocks.new.tuples.items c.in_ok-blocks.ensures.keeps in
    let ed = c.in_ok-main.ensures.keeps
    ∙ ap (λ z. z ++ data_t g [] [] (length c.all_blocks.new.tuples.items) 0 m) c.in_ok-blocks.ensures.keeps in
    c.new.ensures.program
    ∙ program_is g _ m _ c.in_ok-blocks.blocks.items c.main_term.new.tuples.items _ c.blocks-given.ensures.same
    c.main.ensures.same c.in_ok-blocks.ensures.made ed n

pub returns-clause-main : goal.returns-clause-main
returns-clause-main c =
    let g = h_blocks c.blocks-given.result.now in
    let m = h_tree c.main.result.now in
    let n = count_is g c.all_blocks.new.tuples.items c.in_ok-blocks.ensures.keeps in
    c.new.ensures.main ∙ main_is g _ m _ _ _ c.blocks-given.ensures.same c.main.ensures.same c.in_ok-main.ensures.tree n
