use Rattle.std.proofs.Common.{◌∙◌, inl, inr}
use Rattle.t_text.proofs.Exact.{no_token_fault_where_cut}
use Rattle.t_text.specs.Kept.{tokens_of}
use Rattle.t_text.specs.GrammarTable.{table}
use Rattle.talc_wanted.proofs.Keeping.{keeps_line}
use Rattle.talc_wanted.specs.AssemblyTable.{assembly_owes, kept_line}
use Rattle.talc_wanted.specs.AssemblyWords.{assembly_kinds}
use Rattle.talc_wanted.proofs.AssemblyRows.{kept_is}
use Rattle.talc_wanted.proofs.assembly.tal_wanted.Goals as goal

pub returns-in_ok-line-in-Ok : goal.returns-in_ok-line-in-Ok
returns-in_ok-line-in-Ok c =
    inl (
      tokens_of c.in-Ok.tokens,
      c.in-Ok.ensures.right,
      c.in_ok-line-in-Ok.ensures
          ∙ keeps_line table assembly_owes kept_line kept_is assembly_kinds c.args.text.now c.args.at
          (tokens_of c.in-Ok.tokens),
    )

pub returns-in-Err-Refused : goal.returns-in-Err-Refused
returns-in-Err-Refused c =
    inr (
      λ w x. no_token_fault_where_cut _ w _ _ x (rw c.in-Err-Refused.field-0-is at c.in-Err-Refused.ensures.right),
      c.new.ensures.items,
    )
