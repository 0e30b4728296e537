use Rattle.t_reader.proofs.Answered.{by_program, by_fault}
use Rattle.t_reader.proofs.reader.read_salted.Goals as goal

pub returns-clause-program : goal.returns-clause-program
returns-clause-program c =
    λ P h. by_program c.at_most_one_program.ensures c.no_fault_where_read.ensures c.args.text.now P c.reading.result
    c.reading.ensures h

pub returns-clause-refused : goal.returns-clause-refused
returns-clause-refused c =
    λ code span h. by_fault c.at_most_one_fault.ensures c.no_fault_where_read.ensures c.args.text.now code span
    c.reading.result c.reading.ensures h
