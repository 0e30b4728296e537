-- The table as data says what the grammar's table says.
use Rattle.std.proofs.Common.{◌≡◌, refl}
use Rattle.idx_core.specs.declared.span.Span.{Span}
use Rattle.f_lexer.specs.declared.kind.Kind.{Kind}
use Rattle.f_lexer.specs.declared.kind.Kind.TheVariants as k
use Rattle.f_grammar.specs.Grammar.{tok}
use Rattle.f_grammar.specs.Machine as m
use Rattle.f_grammar.specs.Machine.{table}
use Rattle.talc_wanted.specs.Owing.{IsKept, after, may_end, kept_row}
use Rattle.talc_wanted.specs.SourceTable.{kept_line, source_owes}

rows_are : (n : m.Line) (kind : Kind) (s : Span) →
    after source_owes (kept_line n) (tok kind s) ≡ kept_row table kept_line (m.after n kind)
rows_are m.LE k.Name s = refl
rows_are m.LP k.Name s = refl
rows_are m.LParam k.Name s = refl
rows_are m.LBranches k.Name s = refl
rows_are m.LFields k.Name s = refl
rows_are m.LHidden k.Name s = refl
rows_are m.LNames k.Name s = refl
rows_are m.MoreParts k.Name s = refl
rows_are m.MoreFactors k.Name s = refl
rows_are m.MoreSums k.Name s = refl
rows_are m.MoreAssign k.Name s = refl
rows_are m.MoreFields k.Name s = refl
rows_are m.LT k.Name s = refl
rows_are m.LU k.Name s = refl
rows_are m.LTypes k.Name s = refl
rows_are m.MoreArrow k.Name s = refl
rows_are m.MoreTypes k.Name s = refl
rows_are _ _ s = refl

ends_are : (n : m.Line) → may_end source_owes (kept_line n) ≡ m.may_end n
ends_are m.LE = refl
ends_are _ = refl

pub kept_is : IsKept table source_owes kept_line
kept_is = record {
  same_fits = λ k c. refl;
  same_after = λ n c. rows_are n c.kind c.span;
  same_ends = ends_are;
  same_first = refl;
}
