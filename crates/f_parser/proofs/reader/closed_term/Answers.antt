use Rattle.f_terms.specs.ReadTerm.{spanned}
use Rattle.f_grammar.specs.Term.{tree_of}
use Rattle.f_parser.proofs.Reading.{bound, value_unbound, type_unbound}
use Rattle.f_parser.proofs.reader.closed_term.Goals as goal

pub returns-in-Ok : goal.returns-in-Ok
returns-in-Ok c = bound c.args.text.now (tree_of c.args.tree.now) c.requires (spanned c.in-Ok.term) c.in-Ok.ensures

pub returns-in-Err-Value : goal.returns-in-Err-Value
returns-in-Err-Value c =
    rw c.refused.ensures
    (value_unbound c.args.text.now (tree_of c.args.tree.now) c.requires c.in-Err-Value.span
    (rw c.in-Err-Value.field-0-is at c.in-Err-Value.ensures))

pub returns-in-Err-Type : goal.returns-in-Err-Type
returns-in-Err-Type c =
    rw c.refused-in-Err-Type.ensures
    (type_unbound c.args.text.now (tree_of c.args.tree.now) c.requires c.in-Err-Type.span
    (rw c.in-Err-Type.field-0-is at c.in-Err-Type.ensures))
