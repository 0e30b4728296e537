use Rattle.f_terms.specs.Read.{tree}
use Rattle.f_terms.specs.ReadTerm.{spanned}
use Rattle.f_check.specs.Typed.{typed_term, typed_type}
use Rattle.talc_core.proofs.commands.types.types_text.Goals as goal

pub page_of-requires : goal.page_of-requires
page_of-requires c =
    let read = c.in_ok-typed.ensures.0 in
    (read.source.tokens, read.source.cut)

pub returns : goal.returns
returns c = record {
  term = spanned (typed_term c.in_ok-typed.typed);
  type = tree (typed_type c.in_ok-typed.typed);
  checked = c.in_ok-typed.ensures;
  page = c.in_ok-line.ensures;
}
