-- The description of the command line, as `clap` reads it.
use Rattle.std.specs.Prelude.{true, [], ◌∷◌, Some, codes, fold}
use Rattle.clap.specs.Words.{App, Rule, Text, new_app, new_rule, with_rule, with_subcommand}
use Rattle.clap.specs.Simple.{on_top}
use Rattle.clap.specs.declared.builder.action.ArgAction.TheVariants.{Set, SetTrue}
use Rattle.clap.specs.declared.builder.value_parser.ValueParser.{ValueParser}
use Rattle.clap.specs.declared.builder.value_parser.ValueParser.TheVariants.{Unsigned}

-- a required text of one value
abbrev pub file_rule : Text → Rule
file_rule name = record (new_rule name) { required = true; action = Some Set }

-- a text of one value that may be left out
abbrev pub optional_file_rule : Text → Rule
optional_file_rule name = record (new_rule name) { action = Some Set }

-- the reader of whole numbers below 2 ^ 64
abbrev pub whole_number : ValueParser
whole_number = Unsigned 0 18446744073709551615

-- a required option of one such number, called by its name, with N for its value in the help
abbrev pub number_rule : Text → Rule
number_rule name =
    record (new_rule name) {
      long = Some name;
      value_names = 1;
      required = true;
      action = Some Set;
      parser = Some whole_number;
    }

-- the reader of whole numbers from 8 on and below 2 ^ 64
abbrev pub register_number : ValueParser
register_number = Unsigned 8 18446744073709551615

-- the option of one such number, called `registers`, which may be left out
abbrev pub registers_rule : Rule
registers_rule =
    record (new_rule (codes "registers")) {
      long = Some (codes "registers");
      value_names = 1;
      action = Some Set;
      parser = Some register_number;
    }

-- the reader of numbers of bytes of a heap: from 64 KiB to 1 TiB; that they are whole pages is said by `in_pages` of
-- Command
abbrev pub heap_number : ValueParser
heap_number = Unsigned 65536 1099511627776

-- the option of one such number, called `heap`, with BYTES for its value in the help, which may be left out
abbrev pub heap_rule : Rule
heap_rule =
    record (new_rule (codes "heap")) {
      long = Some (codes "heap");
      value_names = 1;
      action = Some Set;
      parser = Some heap_number;
    }

-- the required option of a form, called `form`, with F for its value in the help; which texts are forms is said by
-- `form_named` of Command
abbrev pub form_rule : Rule
form_rule =
    record (new_rule (codes "form")) {
      long = Some (codes "form");
      value_names = 1;
      required = true;
      action = Some Set;
    }

-- a flag, called by its name
abbrev pub flag_rule : Text → Rule
flag_rule name = record (new_rule name) { long = Some name; action = Some SetTrue }

-- compile IN OUT, perhaps with --registers K
abbrev pub compile_app : App
compile_app =
    with_rule (with_rule (with_rule (new_app (codes "compile")) (file_rule (codes "IN"))) (file_rule (codes "OUT")))
    registers_rule

-- check IN
abbrev pub check_app : App
check_app = with_rule (new_app (codes "check")) (file_rule (codes "IN"))

-- run IN --fuel N
abbrev pub run_app : App
run_app = with_rule (with_rule (new_app (codes "run")) (file_rule (codes "IN"))) (number_rule (codes "fuel"))

-- typeof IN
abbrev pub typeof_app : App
typeof_app = with_rule (new_app (codes "typeof")) (file_rule (codes "IN"))

-- eval IN --turns N
abbrev pub eval_app : App
eval_app = with_rule (with_rule (new_app (codes "eval")) (file_rule (codes "IN"))) (number_rule (codes "turns"))

-- gen --seed N OUT
abbrev pub gen_app : App
gen_app = with_rule (with_rule (new_app (codes "gen")) (file_rule (codes "OUT"))) (number_rule (codes "seed"))

-- upgrade IN OUT
abbrev pub upgrade_app : App
upgrade_app = with_rule (with_rule (new_app (codes "upgrade")) (file_rule (codes "IN"))) (file_rule (codes "OUT"))

-- trace IN --from N --to N
abbrev pub trace_app : App
trace_app =
    with_rule (with_rule (with_rule (new_app (codes "trace")) (file_rule (codes "IN"))) (number_rule (codes "from")))
    (number_rule (codes "to"))

-- show IN --form F, perhaps with --types
abbrev pub show_app : App
show_app = with_rule (with_rule (with_rule (new_app (codes "show")) (file_rule (codes "IN"))) form_rule)
    (flag_rule (codes "types"))

-- explain IN
abbrev pub explain_app : App
explain_app = with_rule (new_app (codes "explain")) (file_rule (codes "IN"))

-- cost IN --fuel N
abbrev pub cost_app : App
cost_app = with_rule (with_rule (new_app (codes "cost")) (file_rule (codes "IN"))) (number_rule (codes "fuel"))

-- listing IN
abbrev pub listing_app : App
listing_app = with_rule (new_app (codes "listing")) (file_rule (codes "IN"))

-- types IN
abbrev pub types_app : App
types_app = with_rule (new_app (codes "types")) (file_rule (codes "IN"))

-- native IN OUT or native --listing IN, perhaps with --heap BYTES; that it is one of the two is said by
-- `asked_to_build` of Command
abbrev pub native_app : App
native_app =
    with_rule (with_rule (with_rule (with_rule (new_app (codes "native")) (file_rule (codes "IN")))
    (optional_file_rule (codes "OUT"))) (flag_rule (codes "listing"))) heap_rule

-- the command line without its subcommands: one must be given, and there is no `help` among them
abbrev pub bare_app : App
bare_app =
    on_top (λ s. record s { subcommand_required = true; disable_help_subcommand = true }) (new_app (codes "talc"))

-- the whole: one subcommand for each command
abbrev pub talc_app : App
talc_app =
    fold with_subcommand bare_app
    (compile_app.top ∷ check_app.top ∷ run_app.top ∷ typeof_app.top ∷ eval_app.top ∷ gen_app.top ∷ upgrade_app.top
    ∷ trace_app.top ∷ show_app.top ∷ explain_app.top ∷ cost_app.top ∷ listing_app.top
    ∷ types_app.top ∷ native_app.top ∷ [])
