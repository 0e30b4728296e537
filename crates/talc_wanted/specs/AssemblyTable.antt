-- The table of the assembly grammar with its values aside.
use Rattle.std.specs.Prelude.{pos, ◌==◌, ◌&&◌, ◌||◌, map, Bool, true, false}
use Rattle.t_text.specs.declared.token.Token.{Token}
use Rattle.t_text.specs.declared.token.Kind.{Kind}
use Rattle.t_text.specs.declared.token.Kind.TheVariants as k
use Rattle.t_text.specs.contracts.token.KindPartialEq.TheImpl as same_kind
use Rattle.t_text.specs.declared.wanted.Wanted.{Wanted}
use Rattle.t_text.specs.declared.wanted.Wanted.TheVariants as want
use Rattle.t_text.specs.GrammarTable as m
use Rattle.talc_wanted.specs.Owing.{Owes}
use Rattle.talc_wanted.specs.declared.assembly_table.Line.{Line}
use Rattle.talc_wanted.specs.declared.assembly_table.Line.TheVariants as line
use Rattle.talc_wanted.specs.declared.assembly_table.TheConstants.{ROWS, OTHERS, ENDS}
use Rattle.talc_wanted.specs.contracts.assembly_table.LinePartialEq.TheImpl as same_line

-- the lines of the grammar, as the table here has them
abbrev pub kept_line : m.Line → Line
kept_line m.LProgram = line.Program
kept_line m.LHeader = line.Header
kept_line m.LBlock = line.Block
kept_line m.LMoreBlocks = line.MoreBlocks
kept_line m.LSomeItems = line.SomeItems
kept_line m.LFirst = line.First
kept_line m.LMoreItems = line.MoreItems
kept_line m.LItem = line.Item
kept_line m.LTuple = line.Tuple
kept_line m.LDatums = line.Datums
kept_line m.LMoreDatums = line.MoreDatums
kept_line m.LBinds = line.Binds
kept_line m.LNames = line.Names
kept_line m.LMoreNames = line.MoreNames
kept_line m.LFile = line.File
kept_line m.LRegs = line.Regs
kept_line m.LMoreRegs = line.MoreRegs
kept_line m.LT = line.Type
kept_line m.LFields = line.Fields
kept_line m.LMoreFields = line.MoreFields
kept_line m.LTypes = line.Types
kept_line m.LTypeList = line.TypeList
kept_line m.LSomeTypes = line.SomeTypes
kept_line m.LMoreTypes = line.MoreTypes
kept_line m.LV = line.Value
kept_line m.LArgs = line.Args
kept_line m.LPacked = line.Packed
kept_line m.LW = line.Word
kept_line m.LWordArgs = line.WordArgs
kept_line m.LWordPacked = line.WordPacked
kept_line m.LTo = line.To
kept_line m.LAt = line.At
kept_line m.LIndex = line.Index
kept_line m.LTarget = line.Target
kept_line m.LInt = line.IntOnly
kept_line m.LI = line.Instr
kept_line m.LMoreSteps = line.MoreSteps
kept_line m.LEnd = line.End

-- a kind that stands for all that are like this one: 3 for numbers, -1 for negative ones, a register for registers
abbrev pub is_negative : Kind → Bool
is_negative (k.Negative z) = true
is_negative _ = false

abbrev pub is_for_all : Kind → Kind → Bool
is_for_all (k.Plain (pos n)) kind = n == 3 && m.fits want.Number kind
is_for_all (k.Negative z) kind = is_negative kind
is_for_all (k.Register n) kind = m.fits want.Register kind
is_for_all _ kind = false

abbrev pub assembly_owes : Owes Wanted Line Kind Token
assembly_owes = record {
  fits = λ c t. m.fits c t.kind;
  starts = λ first t. is_for_all first t.kind || same_kind.ghosts.eq t.kind first;
  same = same_line.ghosts.eq;
  first = line.Program;
  rows = map (λ r. (r.0, r.1, r.2.now)) ROWS;
  others = map (λ r. (r.0, r.1, r.2.now)) OTHERS;
  ends = ENDS;
}
