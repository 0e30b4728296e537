use Rattle.std.proofs.Common.{List, [], ◌∷◌, ◌++◌, ap, ◌∙◌}
use Rattle.idx_core.specs.declared.span.Span.{Span}
use Rattle.t_types.specs.Read.{file}
use Rattle.t_terms.specs.Tree as T
use Rattle.t_terms.specs.Tree.{TBlock}
use Rattle.t_terms.specs.Spanned.{seq_of}
use Rattle.t_terms.specs.Read.{body, blocks_of}
use Rattle.t_terms.specs.declared.instr.Instr.{Instr}
use Rattle.t_emit.proofs.blocks.reserve.Goals as goal
use Rattle.t_terms.proofs.Items.{blocks_more as blocks_snoc}

pub returns : goal.returns
returns c =
    ap blocks_of c.in_ok-push.ensures.items ∙ blocks_snoc c.args.out.now.items _
    ∙ ap (λ (xs : List (Instr × Span)). blocks_of c.args.out.now.items ++ (made (seq_of (body xs) T.Halt)) ∷ [])
    c.new.ensures.items
  where
    made : T.TSeq → TBlock
    made s = record { owes = c.args.owes; file = file c.args.file_regs.items; code = s }
