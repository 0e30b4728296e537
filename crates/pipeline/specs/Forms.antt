-- The text of each form of a term of the source: the notations of the programs that the passes make of it in turn.
use Rattle.std.specs.Prelude.{ℕ, List}
use Rattle.talc_words.specs.declared.form.Form.{Form}
use Rattle.talc_words.specs.declared.form.Form.TheVariants.{Source, Cps, Closed, Hoisted, Allocated, Assembly}
use Rattle.f_terms.specs.Tm.{Term}
use Rattle.f_writer.specs.Notation.{term_text}
use Rattle.k_laws.specs.Annotate.{cps_term}
use Rattle.kc_notation.specs.Notation.{c_text, k_text}
use Rattle.c_terms.specs.C.{CTm}
use Rattle.c_rules.specs.Close.{close_of}
use Rattle.h_pass.specs.Hoist.{blocks_of, main_of}
use Rattle.h_notation.specs.Notation.{h_text}
use Rattle.a_terms.specs.Tree.{AProg, ATm}
use Rattle.a_laws.specs.Allocate.{alloc_prog, alloc_main}
use Rattle.a_notation.specs.Notation.{a_text}
use Rattle.t_terms.specs.Tree.{TProg}
use Rattle.t_writer.specs.Lexeme.{render}
use Rattle.t_writer.specs.Written.{second_written}
use Rattle.pipeline.specs.Made.{compiled_program}

-- closure conversion of the term in continuation-passing style
abbrev pub closed_term : Term → CTm
closed_term e = close_of (cps_term e)

-- allocation of a closed term's hoisted program: its blocks and data, and its main term
abbrev pub allocated_program : CTm → AProg
allocated_program c = alloc_prog (blocks_of c) (main_of c)

abbrev pub allocated_main : CTm → ATm
allocated_main c = alloc_main (blocks_of c) (main_of c)

-- the bytes that are written of an assembly program
abbrev pub assembly_text : TProg → List ℕ
assembly_text P = render (second_written P)

abbrev pub form_text : Form → Term → List ℕ
form_text Source e = term_text e
form_text (Cps typed) e = k_text typed (cps_term e)
form_text (Closed typed) e = c_text typed (closed_term e)
form_text (Hoisted typed) e = h_text typed (blocks_of (closed_term e)) (main_of (closed_term e))
form_text (Allocated typed) e = a_text typed (allocated_program (closed_term e)) (allocated_main (closed_term e))
form_text Assembly e = assembly_text (compiled_program e)
