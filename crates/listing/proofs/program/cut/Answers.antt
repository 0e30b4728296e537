use Rattle.std.proofs.Common.{◌≡◌, List, sym, ap, subst, ◌∙◌}
use Rattle.idx_core.specs.declared.span.Span.{Span}
use Rattle.t_terms.specs.Spanned.{SBlock, SProg, plain_program}
use Rattle.t_terms.specs.Whole.{WellFormedProgram}
use Rattle.t_terms.specs.Read.{spanned_blocks, spanned_heap}
use Rattle.t_terms.specs.ReadProgram.{spanned_program}
use Rattle.t_terms.specs.declared.block.Block.{Block}
use Rattle.t_terms.specs.declared.program.TProgram.{TProgram}
use Rattle.listing.specs.Cut.{cut, cut_blocks}
use Rattle.listing.proofs.Bounds.{cut_whole}
use Rattle.listing.proofs.program.cut.Goals as goal

-- blocks beside the data of a program
abbrev beside : TProgram → List SBlock → SProg
beside p bs = record { blocks = bs; heap = spanned_heap p.heap.items }

made : (p : TProgram) (place : Span) (bs : List Block) →
    spanned_blocks bs ≡ cut_blocks place (spanned_blocks p.blocks.items) →
    beside p (spanned_blocks bs) ≡ cut place (spanned_program p)
made p place bs is = ap (beside p) is

pub new-requires : goal.new-requires
new-requires c =
    let p = c.args.program in
    let is = made p c.args.place c.in_ok-made.made.items c.in_ok-made.ensures in
    subst (λ (Q : SProg). WellFormedProgram (plain_program Q)) (sym is)
    (cut_whole c.args.place (spanned_program p) p.whole.0)

pub returns : goal.returns
returns c = c.new.ensures ∙ made c.args.program c.args.place c.in_ok-made.made.items c.in_ok-made.ensures
