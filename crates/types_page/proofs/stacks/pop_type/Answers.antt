use Rattle.std.proofs.Common.{◌∙◌, List, [], ap, sym}
use Rattle.f_terms.specs.Ty.{Ty}
use Rattle.f_terms.specs.Read.{tree}
use Rattle.types_page.specs.Walk.{back, first, rest}
use Rattle.types_page.proofs.Stacking.{back_push}
use Rattle.types_page.proofs.stacks.pop_type.Goals as goal

pub returns-in-Some-clause-last : goal.returns-in-Some-clause-last
returns-in-Some-clause-last c =
    sym (ap first (ap (back tree) c.in-Some.ensures.items ∙ back_push tree [] c.pop.new.self.items c.in-Some.ty))

pub returns-in-Some-clause-others : goal.returns-in-Some-clause-others
returns-in-Some-clause-others c =
    sym (ap (λ (ts : List Ty). rest ts)
    (ap (back tree) c.in-Some.ensures.items ∙ back_push tree [] c.pop.new.self.items c.in-Some.ty))
