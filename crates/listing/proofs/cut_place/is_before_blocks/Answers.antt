use Rattle.std.proofs.Common.{◌∙◌, ◌||◌, List, Bool, sym, ap}
use Rattle.idx_core.specs.declared.span.Span.{Span}
use Rattle.t_terms.specs.declared.block.Block.{Block}
use Rattle.t_terms.specs.declared.data.Data.{Data}
use Rattle.t_terms.specs.Read.{spanned_blocks, spanned_heap}
use Rattle.listing.specs.Before.{in_first, in_heap}
use Rattle.listing.proofs.cut_place.is_before_blocks.Goals as goal

abbrev first : Span → List Block → Bool
first place xs = in_first place (spanned_blocks xs)

abbrev data_at : Span → List Data → Bool
data_at place xs = in_heap place (spanned_heap xs)

pub returns-then-in_first : goal.returns-then-in_first
returns-then-in_first c =
    sym
    (ap (λ (b : Bool). b || data_at c.args.place c.args.program.now.heap.items)
    (ap (first c.args.place) (sym c.deref.ensures.value) ∙ sym c.if-in_first.ensures))

pub returns : goal.returns
returns c =
    c.in_heap.ensures
    ∙ ap (data_at c.args.place) c.deref-2.ensures.value
    ∙ sym
    (ap (λ (b : Bool). b || data_at c.args.place c.args.program.now.heap.items)
    (ap (first c.args.place) (sym c.deref.ensures.value) ∙ sym c.in_first.ensures ∙ c.if-in_first.false))
