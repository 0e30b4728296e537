-- The table of the source's grammar with its values aside.
use Rattle.std.specs.Prelude.{map, Bool, true, false}
use Rattle.f_lexer.specs.declared.token.Token.{Token}
use Rattle.f_lexer.specs.declared.kind.Kind.{Kind}
use Rattle.f_lexer.specs.declared.kind.Kind.TheVariants as k
use Rattle.f_lexer.specs.contracts.kind.KindPartialEq.TheImpl as same_kind
use Rattle.f_grammar.specs.declared.cursor.Wanted.{Wanted}
use Rattle.f_grammar.specs.declared.cursor.Wanted.TheVariants as want
use Rattle.f_grammar.specs.Machine as m
use Rattle.talc_wanted.specs.Owing.{Owes}
use Rattle.talc_wanted.specs.declared.source_table.Line.{Line}
use Rattle.talc_wanted.specs.declared.source_table.Line.TheVariants as line
use Rattle.talc_wanted.specs.declared.source_table.TheConstants.{ROWS, OTHERS, ENDS}
use Rattle.talc_wanted.specs.contracts.source_table.LinePartialEq.TheImpl as same_line

-- the lines of the grammar, as the table here has them
abbrev pub kept_line : m.Line → Line
kept_line m.LE = line.Expr
kept_line m.LP = line.Part
kept_line m.LParam = line.Param
kept_line m.LBranches = line.Branches
kept_line m.LFields = line.Fields
kept_line m.LHidden = line.Hidden
kept_line m.LNames = line.Names
kept_line m.MoreParts = line.MoreParts
kept_line m.MoreFactors = line.MoreFactors
kept_line m.MoreSums = line.MoreSums
kept_line m.MoreAssign = line.MoreAssign
kept_line m.MoreFields = line.MoreFields
kept_line m.LT = line.Type
kept_line m.LU = line.Unit
kept_line m.LTypes = line.Types
kept_line m.MoreArrow = line.MoreArrow
kept_line m.MoreTypes = line.MoreTypes

abbrev pub is_negative : Kind → Bool
is_negative (k.Negative z) = true
is_negative _ = false

-- the row of a number is for all of its sign
abbrev pub starts : Kind → Kind → Bool
starts (k.Plain z) kind = m.fits want.Number kind
starts (k.Negative z) kind = is_negative kind
starts first kind = same_kind.ghosts.eq first kind

abbrev pub source_owes : Owes Wanted Line Kind Token
source_owes = record {
  fits = λ c t. m.fits c t.kind;
  starts = λ first t. starts first t.kind;
  same = same_line.ghosts.eq;
  first = line.Expr;
  rows = map (λ r. (r.0, r.1, r.2.now)) ROWS;
  others = map (λ r. (r.0, r.1, r.2.now)) OTHERS;
  ends = ENDS;
}
