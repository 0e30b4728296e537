-- Examples of command lines.
use Rattle.std.proofs.Common.{◌≡◌, [], ◌∷◌, Some, None, false, true, refl}
use Rattle.std.specs.Prelude.{codes}
use Rattle.clap.proofs.OnLiterals.{clap_on_literals}
use Rattle.talc_words.specs.Command.{Builds, Checks, Compiles, CompilesWithin, Disassembles, Evaluates, Generates}
use Rattle.talc_words.specs.Command.{Runs, Shows, Traces, Types, Upgrades, command_of}
use Rattle.talc_words.specs.declared.form.Form.TheVariants as form

-- talc compile x.f x.tal
compile_words : command_of (codes "talc" ∷ codes "compile" ∷ codes "x.f" ∷ codes "x.tal" ∷ [])
    ≡ Some (Compiles (codes "x.f") (codes "x.tal"))
unfolding command_of clap_on_literals
compile_words = refl

-- the same within registers, 8 at least
within_words :
    command_of (codes "talc" ∷ codes "compile" ∷ codes "--registers" ∷ codes "8" ∷ codes "x.f" ∷ codes "x.tal" ∷ [])
    ≡ Some (CompilesWithin (codes "x.f") (codes "x.tal") 8)
unfolding command_of clap_on_literals
within_words = refl

within_few :
    command_of (codes "talc" ∷ codes "compile" ∷ codes "--registers" ∷ codes "7" ∷ codes "x.f" ∷ codes "x.tal" ∷ [])
    ≡ None
unfolding command_of clap_on_literals
within_few = refl

within_no_number :
    command_of (codes "talc" ∷ codes "compile" ∷ codes "--registers" ∷ codes "x" ∷ codes "x.f" ∷ codes "x.tal" ∷ [])
    ≡ None
unfolding command_of clap_on_literals
within_no_number = refl

within_twice :
    command_of (codes "talc" ∷ codes "compile" ∷ codes "--registers" ∷ codes "8" ∷ codes "--registers" ∷ codes "8"
    ∷ codes "x.f" ∷ codes "x.tal" ∷ []) ≡ None
unfolding command_of clap_on_literals
within_twice = refl

-- the option on another command
within_elsewhere : command_of (codes "talc" ∷ codes "check" ∷ codes "--registers" ∷ codes "8" ∷ codes "x.tal" ∷ [])
    ≡ None
unfolding command_of clap_on_literals
within_elsewhere = refl

-- talc check x.tal
check_words : command_of (codes "talc" ∷ codes "check" ∷ codes "x.tal" ∷ []) ≡ Some (Checks (codes "x.tal"))
unfolding command_of clap_on_literals
check_words = refl

-- talc run x.tal --fuel 100
run_words : command_of (codes "talc" ∷ codes "run" ∷ codes "x.tal" ∷ codes "--fuel" ∷ codes "100" ∷ [])
    ≡ Some (Runs (codes "x.tal") 100)
unfolding command_of clap_on_literals
run_words = refl

-- the same with the option first and in one word
run_equals : command_of (codes "talc" ∷ codes "run" ∷ codes "--fuel=100" ∷ codes "x.tal" ∷ [])
    ≡ Some (Runs (codes "x.tal") 100)
unfolding command_of clap_on_literals
run_equals = refl

run_most : command_of (codes "talc" ∷ codes "run" ∷ codes "x.tal" ∷ codes "--fuel" ∷ codes "18446744073709551615" ∷ [])
    ≡ Some (Runs (codes "x.tal") 18446744073709551615)
unfolding command_of clap_on_literals
run_most = refl

run_more : command_of (codes "talc" ∷ codes "run" ∷ codes "x.tal" ∷ codes "--fuel" ∷ codes "18446744073709551616" ∷ [])
    ≡ None
unfolding command_of clap_on_literals
run_more = refl

-- the option of another command
run_turns : command_of (codes "talc" ∷ codes "run" ∷ codes "x.tal" ∷ codes "--turns" ∷ codes "100" ∷ []) ≡ None
unfolding command_of clap_on_literals
run_turns = refl

run_missing_number : command_of (codes "talc" ∷ codes "run" ∷ codes "x.tal" ∷ codes "--fuel" ∷ []) ≡ None
unfolding command_of clap_on_literals
run_missing_number = refl

-- talc typeof x.f
typeof_words : command_of (codes "talc" ∷ codes "typeof" ∷ codes "x.f" ∷ []) ≡ Some (Types (codes "x.f"))
unfolding command_of clap_on_literals
typeof_words = refl

-- after `--` a word that begins with a dash is a name of a file
dashed_name : command_of (codes "talc" ∷ codes "typeof" ∷ codes "--" ∷ codes "-x.f" ∷ []) ≡ Some (Types (codes "-x.f"))
unfolding command_of clap_on_literals
dashed_name = refl

-- talc eval x.f --turns 6
eval_words : command_of (codes "talc" ∷ codes "eval" ∷ codes "x.f" ∷ codes "--turns" ∷ codes "6" ∷ [])
    ≡ Some (Evaluates (codes "x.f") 6)
unfolding command_of clap_on_literals
eval_words = refl

-- the option may be one word, stand before the file's name, and its number after a plus or zeros
eval_equals : command_of (codes "talc" ∷ codes "eval" ∷ codes "x.f" ∷ codes "--turns=6" ∷ [])
    ≡ Some (Evaluates (codes "x.f") 6)
unfolding command_of clap_on_literals
eval_equals = refl

eval_option_first : command_of (codes "talc" ∷ codes "eval" ∷ codes "--turns" ∷ codes "6" ∷ codes "x.f" ∷ [])
    ≡ Some (Evaluates (codes "x.f") 6)
unfolding command_of clap_on_literals
eval_option_first = refl

eval_plus : command_of (codes "talc" ∷ codes "eval" ∷ codes "x.f" ∷ codes "--turns" ∷ codes "+6" ∷ [])
    ≡ Some (Evaluates (codes "x.f") 6)
unfolding command_of clap_on_literals
eval_plus = refl

eval_zeros : command_of (codes "talc" ∷ codes "eval" ∷ codes "x.f" ∷ codes "--turns" ∷ codes "006" ∷ [])
    ≡ Some (Evaluates (codes "x.f") 6)
unfolding command_of clap_on_literals
eval_zeros = refl

-- the most turns
eval_most : command_of
    (codes "talc" ∷ codes "eval" ∷ codes "x.f" ∷ codes "--turns" ∷ codes "18446744073709551615" ∷ [])
    ≡ Some (Evaluates (codes "x.f") 18446744073709551615)
unfolding command_of clap_on_literals
eval_most = refl

-- more than the most
eval_more : command_of
    (codes "talc" ∷ codes "eval" ∷ codes "x.f" ∷ codes "--turns" ∷ codes "18446744073709551616" ∷ []) ≡ None
unfolding command_of clap_on_literals
eval_more = refl

-- a text that is no number
eval_negative : command_of (codes "talc" ∷ codes "eval" ∷ codes "x.f" ∷ codes "--turns" ∷ codes "~1" ∷ []) ≡ None
unfolding command_of clap_on_literals
eval_negative = refl

eval_minus : command_of (codes "talc" ∷ codes "eval" ∷ codes "x.f" ∷ codes "--turns" ∷ codes "-1" ∷ []) ≡ None
unfolding command_of clap_on_literals
eval_minus = refl

eval_no_digits : command_of (codes "talc" ∷ codes "eval" ∷ codes "x.f" ∷ codes "--turns=" ∷ []) ≡ None
unfolding command_of clap_on_literals
eval_no_digits = refl

-- without the option, its value, or the file's name, or with the option twice
eval_missing_option : command_of (codes "talc" ∷ codes "eval" ∷ codes "x.f" ∷ []) ≡ None
unfolding command_of clap_on_literals
eval_missing_option = refl

eval_missing_number : command_of (codes "talc" ∷ codes "eval" ∷ codes "x.f" ∷ codes "--turns" ∷ []) ≡ None
unfolding command_of clap_on_literals
eval_missing_number = refl

eval_missing_file : command_of (codes "talc" ∷ codes "eval" ∷ codes "--turns" ∷ codes "6" ∷ []) ≡ None
unfolding command_of clap_on_literals
eval_missing_file = refl

eval_twice :
    command_of (codes "talc" ∷ codes "eval" ∷ codes "x.f" ∷ codes "--turns" ∷ codes "6" ∷ codes "--turns" ∷ codes "6"
    ∷ []) ≡ None
unfolding command_of clap_on_literals
eval_twice = refl

-- there is no short name, no beginning of a name, and no other option
eval_short : command_of (codes "talc" ∷ codes "eval" ∷ codes "x.f" ∷ codes "-t" ∷ codes "6" ∷ []) ≡ None
unfolding command_of clap_on_literals
eval_short = refl

eval_beginning : command_of (codes "talc" ∷ codes "eval" ∷ codes "x.f" ∷ codes "--turn" ∷ codes "6" ∷ []) ≡ None
unfolding command_of clap_on_literals
eval_beginning = refl

eval_other : command_of (codes "talc" ∷ codes "eval" ∷ codes "x.f" ∷ codes "--fuel" ∷ codes "6" ∷ []) ≡ None
unfolding command_of clap_on_literals
eval_other = refl

-- no words at all
no_name : command_of [] ≡ None
unfolding command_of clap_on_literals
no_name = refl

-- talc
no_words : command_of (codes "talc" ∷ []) ≡ None
unfolding command_of clap_on_literals
no_words = refl

-- talc run x.tal, without the option
missing_fuel : command_of (codes "talc" ∷ codes "run" ∷ codes "x.tal" ∷ []) ≡ None
unfolding command_of clap_on_literals
missing_fuel = refl

-- talc gen --seed 0 g.f, and the same with the option last
gen_words : command_of (codes "talc" ∷ codes "gen" ∷ codes "--seed" ∷ codes "0" ∷ codes "g.f" ∷ [])
    ≡ Some (Generates 0 (codes "g.f"))
unfolding command_of clap_on_literals
gen_words = refl

gen_last : command_of (codes "talc" ∷ codes "gen" ∷ codes "g.f" ∷ codes "--seed=18446744073709551615" ∷ [])
    ≡ Some (Generates 18446744073709551615 (codes "g.f"))
unfolding command_of clap_on_literals
gen_last = refl

-- without the seed, and without the file
gen_missing_seed : command_of (codes "talc" ∷ codes "gen" ∷ codes "g.f" ∷ []) ≡ None
unfolding command_of clap_on_literals
gen_missing_seed = refl

gen_missing_file : command_of (codes "talc" ∷ codes "gen" ∷ codes "--seed" ∷ codes "0" ∷ []) ≡ None
unfolding command_of clap_on_literals
gen_missing_file = refl

-- talc upgrade x.tal y.tal, and without the second file
upgrade_words : command_of (codes "talc" ∷ codes "upgrade" ∷ codes "x.tal" ∷ codes "y.tal" ∷ [])
    ≡ Some (Upgrades (codes "x.tal") (codes "y.tal"))
unfolding command_of clap_on_literals
upgrade_words = refl

upgrade_missing_file : command_of (codes "talc" ∷ codes "upgrade" ∷ codes "x.tal" ∷ []) ≡ None
unfolding command_of clap_on_literals
upgrade_missing_file = refl

-- talc trace x.tal --from 3 --to 4, the same with the options first, and without one of the numbers
trace_words :
    command_of (codes "talc" ∷ codes "trace" ∷ codes "x.tal" ∷ codes "--from" ∷ codes "3" ∷ codes "--to" ∷ codes "4"
    ∷ []) ≡ Some (Traces (codes "x.tal") 3 4)
unfolding command_of clap_on_literals
trace_words = refl

trace_first : command_of (codes "talc" ∷ codes "trace" ∷ codes "--to=4" ∷ codes "--from=3" ∷ codes "x.tal" ∷ [])
    ≡ Some (Traces (codes "x.tal") 3 4)
unfolding command_of clap_on_literals
trace_first = refl

trace_missing_from : command_of (codes "talc" ∷ codes "trace" ∷ codes "x.tal" ∷ codes "--to" ∷ codes "4" ∷ []) ≡ None
unfolding command_of clap_on_literals
trace_missing_from = refl

trace_missing_to : command_of (codes "talc" ∷ codes "trace" ∷ codes "x.tal" ∷ codes "--from" ∷ codes "3" ∷ []) ≡ None
unfolding command_of clap_on_literals
trace_missing_to = refl

trace_no_number :
    command_of (codes "talc" ∷ codes "trace" ∷ codes "x.tal" ∷ codes "--from" ∷ codes "3" ∷ codes "--to" ∷ codes "x"
    ∷ []) ≡ None
unfolding command_of clap_on_literals
trace_no_number = refl

trace_twice :
    command_of (codes "talc" ∷ codes "trace" ∷ codes "x.tal" ∷ codes "--from" ∷ codes "3" ∷ codes "--to" ∷ codes "4"
    ∷ codes "--to" ∷ codes "4" ∷ []) ≡ None
unfolding command_of clap_on_literals
trace_twice = refl

-- talc show x.f --form F, for each of the six forms
show_source : command_of (codes "talc" ∷ codes "show" ∷ codes "x.f" ∷ codes "--form" ∷ codes "source" ∷ [])
    ≡ Some (Shows (codes "x.f") form.Source)
unfolding command_of clap_on_literals
show_source = refl

show_cps : command_of (codes "talc" ∷ codes "show" ∷ codes "x.f" ∷ codes "--form" ∷ codes "cps" ∷ [])
    ≡ Some (Shows (codes "x.f") (form.Cps false))
unfolding command_of clap_on_literals
show_cps = refl

show_closed : command_of (codes "talc" ∷ codes "show" ∷ codes "x.f" ∷ codes "--form" ∷ codes "closed" ∷ [])
    ≡ Some (Shows (codes "x.f") (form.Closed false))
unfolding command_of clap_on_literals
show_closed = refl

show_hoisted : command_of (codes "talc" ∷ codes "show" ∷ codes "x.f" ∷ codes "--form" ∷ codes "hoisted" ∷ [])
    ≡ Some (Shows (codes "x.f") (form.Hoisted false))
unfolding command_of clap_on_literals
show_hoisted = refl

show_allocated : command_of (codes "talc" ∷ codes "show" ∷ codes "x.f" ∷ codes "--form" ∷ codes "allocated" ∷ [])
    ≡ Some (Shows (codes "x.f") (form.Allocated false))
unfolding command_of clap_on_literals
show_allocated = refl

show_assembly : command_of (codes "talc" ∷ codes "show" ∷ codes "x.f" ∷ codes "--form" ∷ codes "assembly" ∷ [])
    ≡ Some (Shows (codes "x.f") form.Assembly)
unfolding command_of clap_on_literals
show_assembly = refl

-- the same with the option first and in one word
show_first : command_of (codes "talc" ∷ codes "show" ∷ codes "--form=cps" ∷ codes "x.f" ∷ [])
    ≡ Some (Shows (codes "x.f") (form.Cps false))
unfolding command_of clap_on_literals
show_first = refl

-- no form, its beginning, another case, none, and two
show_other : command_of (codes "talc" ∷ codes "show" ∷ codes "x.f" ∷ codes "--form" ∷ codes "tal" ∷ []) ≡ None
unfolding command_of clap_on_literals
show_other = refl

show_beginning : command_of (codes "talc" ∷ codes "show" ∷ codes "x.f" ∷ codes "--form" ∷ codes "cp" ∷ []) ≡ None
unfolding command_of clap_on_literals
show_beginning = refl

show_case : command_of (codes "talc" ∷ codes "show" ∷ codes "x.f" ∷ codes "--form" ∷ codes "CPS" ∷ []) ≡ None
unfolding command_of clap_on_literals
show_case = refl

show_none : command_of (codes "talc" ∷ codes "show" ∷ codes "x.f" ∷ []) ≡ None
unfolding command_of clap_on_literals
show_none = refl

show_empty : command_of (codes "talc" ∷ codes "show" ∷ codes "x.f" ∷ codes "--form=" ∷ []) ≡ None
unfolding command_of clap_on_literals
show_empty = refl

show_twice :
    command_of (codes "talc" ∷ codes "show" ∷ codes "x.f" ∷ codes "--form" ∷ codes "cps" ∷ codes "--form" ∷ codes "cps"
    ∷ []) ≡ None
unfolding command_of clap_on_literals
show_twice = refl

show_missing_file : command_of (codes "talc" ∷ codes "show" ∷ codes "--form" ∷ codes "cps" ∷ []) ≡ None
unfolding command_of clap_on_literals
show_missing_file = refl

-- and with types, before and behind the rest, twice, with a value, and of forms that are not shown with types
show_types :
    command_of (codes "talc" ∷ codes "show" ∷ codes "x.f" ∷ codes "--form" ∷ codes "hoisted" ∷ codes "--types" ∷ [])
    ≡ Some (Shows (codes "x.f") (form.Hoisted true))
unfolding command_of clap_on_literals
show_types = refl

show_types_first :
    command_of (codes "talc" ∷ codes "show" ∷ codes "--types" ∷ codes "--form=allocated" ∷ codes "x.f" ∷ [])
    ≡ Some (Shows (codes "x.f") (form.Allocated true))
unfolding command_of clap_on_literals
show_types_first = refl

show_types_twice :
    command_of (codes "talc" ∷ codes "show" ∷ codes "x.f" ∷ codes "--form=hoisted" ∷ codes "--types"
    ∷ codes "--types" ∷ []) ≡ None
unfolding command_of clap_on_literals
show_types_twice = refl

show_types_value :
    command_of (codes "talc" ∷ codes "show" ∷ codes "x.f" ∷ codes "--form=hoisted" ∷ codes "--types=true" ∷ []) ≡ None
unfolding command_of clap_on_literals
show_types_value = refl

show_types_source :
    command_of (codes "talc" ∷ codes "show" ∷ codes "x.f" ∷ codes "--form=source" ∷ codes "--types" ∷ []) ≡ None
unfolding command_of clap_on_literals
show_types_source = refl

show_types_cps :
    command_of (codes "talc" ∷ codes "show" ∷ codes "x.f" ∷ codes "--form=cps" ∷ codes "--types" ∷ [])
    ≡ Some (Shows (codes "x.f") (form.Cps true))
unfolding command_of clap_on_literals
show_types_cps = refl

show_types_closed :
    command_of (codes "talc" ∷ codes "show" ∷ codes "x.f" ∷ codes "--form=closed" ∷ codes "--types" ∷ [])
    ≡ Some (Shows (codes "x.f") (form.Closed true))
unfolding command_of clap_on_literals
show_types_closed = refl

show_types_assembly :
    command_of (codes "talc" ∷ codes "show" ∷ codes "x.f" ∷ codes "--form=assembly" ∷ codes "--types" ∷ []) ≡ None
unfolding command_of clap_on_literals
show_types_assembly = refl

-- talc native x.tal x, with a heap of 1 GiB
native_words :
    command_of (codes "talc" ∷ codes "native" ∷ codes "x.tal" ∷ codes "x" ∷ [])
    ≡ Some (Builds (codes "x.tal") (codes "x") 1073741824)
unfolding command_of clap_on_literals
native_words = refl

-- the same with a heap of the smallest and of the greatest size, before and behind the files
native_heap :
    command_of (codes "talc" ∷ codes "native" ∷ codes "--heap" ∷ codes "65536" ∷ codes "x.tal" ∷ codes "x" ∷ [])
    ≡ Some (Builds (codes "x.tal") (codes "x") 65536)
unfolding command_of clap_on_literals
native_heap = refl

native_most :
    command_of (codes "talc" ∷ codes "native" ∷ codes "x.tal" ∷ codes "x" ∷ codes "--heap=1099511627776" ∷ [])
    ≡ Some (Builds (codes "x.tal") (codes "x") 1099511627776)
unfolding command_of clap_on_literals
native_most = refl

-- a heap that is too small, too large, no multiple of 4096, and no number; one that is given twice
native_few :
    command_of (codes "talc" ∷ codes "native" ∷ codes "--heap" ∷ codes "61440" ∷ codes "x.tal" ∷ codes "x" ∷ [])
    ≡ None
unfolding command_of clap_on_literals
native_few = refl

native_more :
    command_of (codes "talc" ∷ codes "native" ∷ codes "--heap" ∷ codes "1099511631872" ∷ codes "x.tal" ∷ codes "x"
    ∷ []) ≡ None
unfolding command_of clap_on_literals
native_more = refl

native_pages :
    command_of (codes "talc" ∷ codes "native" ∷ codes "--heap" ∷ codes "65537" ∷ codes "x.tal" ∷ codes "x" ∷ [])
    ≡ None
unfolding command_of clap_on_literals
native_pages = refl

native_no_number :
    command_of (codes "talc" ∷ codes "native" ∷ codes "--heap" ∷ codes "64K" ∷ codes "x.tal" ∷ codes "x" ∷ [])
    ≡ None
unfolding command_of clap_on_literals
native_no_number = refl

native_twice :
    command_of (codes "talc" ∷ codes "native" ∷ codes "--heap" ∷ codes "65536" ∷ codes "--heap" ∷ codes "65536"
    ∷ codes "x.tal" ∷ codes "x" ∷ []) ≡ None
unfolding command_of clap_on_literals
native_twice = refl

-- its instructions, with a heap of 1 GiB and of the smallest size
native_listing :
    command_of (codes "talc" ∷ codes "native" ∷ codes "--listing" ∷ codes "x.tal" ∷ [])
    ≡ Some (Disassembles (codes "x.tal") 1073741824)
unfolding command_of clap_on_literals
native_listing = refl

native_listing_heap :
    command_of (codes "talc" ∷ codes "native" ∷ codes "x.tal" ∷ codes "--heap" ∷ codes "65536" ∷ codes "--listing"
    ∷ []) ≡ Some (Disassembles (codes "x.tal") 65536)
unfolding command_of clap_on_literals
native_listing_heap = refl

-- with a heap that is no multiple of 4096, with a second file, and without a file
native_listing_pages :
    command_of (codes "talc" ∷ codes "native" ∷ codes "--listing" ∷ codes "--heap=65537" ∷ codes "x.tal" ∷ [])
    ≡ None
unfolding command_of clap_on_literals
native_listing_pages = refl

native_listing_file :
    command_of (codes "talc" ∷ codes "native" ∷ codes "--listing" ∷ codes "x.tal" ∷ codes "x" ∷ []) ≡ None
unfolding command_of clap_on_literals
native_listing_file = refl

native_listing_nothing : command_of (codes "talc" ∷ codes "native" ∷ codes "--listing" ∷ []) ≡ None
unfolding command_of clap_on_literals
native_listing_nothing = refl

-- neither the second file nor the flag, and the options on another command
native_missing_file : command_of (codes "talc" ∷ codes "native" ∷ codes "x.tal" ∷ []) ≡ None
unfolding command_of clap_on_literals
native_missing_file = refl

heap_elsewhere :
    command_of (codes "talc" ∷ codes "upgrade" ∷ codes "--heap" ∷ codes "65536" ∷ codes "x.tal" ∷ codes "y.tal" ∷ [])
    ≡ None
unfolding command_of clap_on_literals
heap_elsewhere = refl

listing_elsewhere :
    command_of (codes "talc" ∷ codes "upgrade" ∷ codes "--listing" ∷ codes "x.tal" ∷ codes "y.tal" ∷ []) ≡ None
unfolding command_of clap_on_literals
listing_elsewhere = refl
