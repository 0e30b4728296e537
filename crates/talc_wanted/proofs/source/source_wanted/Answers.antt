use Rattle.std.proofs.Common.{◌∙◌, inl, inr}
use Rattle.f_lexer.proofs.Exact.{no_fault_where_cut}
use Rattle.f_grammar.specs.Machine.{table}
use Rattle.talc_wanted.proofs.Keeping.{keeps_line}
use Rattle.talc_wanted.specs.SourceTable.{source_owes, kept_line}
use Rattle.talc_wanted.specs.SourceWords.{source_kinds}
use Rattle.talc_wanted.proofs.SourceRows.{kept_is}
use Rattle.talc_wanted.proofs.source.source_wanted.Goals as goal

pub returns-in_ok-line-in-Ok : goal.returns-in_ok-line-in-Ok
returns-in_ok-line-in-Ok c =
    inl (
      c.in-Ok.tokens.items,
      c.in-Ok.ensures.right,
      c.in_ok-line-in-Ok.ensures
          ∙ keeps_line table source_owes kept_line kept_is source_kinds c.args.text.now c.args.at c.in-Ok.tokens.items,
    )

pub returns-in-Err-Refused : goal.returns-in-Err-Refused
returns-in-Err-Refused c =
    inr (
      λ w x. no_fault_where_cut _ w _ _ x (rw c.in-Err-Refused.field-0-is at c.in-Err-Refused.ensures.right),
      c.new.ensures.items,
    )
