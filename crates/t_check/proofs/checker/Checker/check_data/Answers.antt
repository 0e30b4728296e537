use Rattle.std.proofs.Common.{length}
use Rattle.std.proofs.lemmas.Result.{err_from_is_err_and}
use Rattle.t_terms.specs.ReadProgram.{program}
use Rattle.t_terms.specs.Read.{datum, data_fields}
use Rattle.t_rules.specs.Faults.{DatumFaultWith, DataFaultWith}
use Rattle.t_intern.proofs.Growing.{grown_next}
use Rattle.t_check.proofs.Places.{place_grown}
use Rattle.t_check.proofs.Typing.{says_map}
use Rattle.t_check.proofs.Bodies.{formed_word, word_fault, word_more, words_end}
use Rattle.t_check.proofs.checker.Checker.check_data.Goals as goal

pub check_datum-requires-clause-formed : goal.check_datum-requires-clause-formed
check_datum-requires-clause-formed c =
    formed_word (length c.args.self.now.program.now.blocks.items) (length c.args.self.now.program.now.heap.items)
    c.args.fields.now c.loop-field.field-index c.field-item.result c.loop-field-test.true c.field-item.is
    c.requires.formed

pub check_datum-requires-clause-place : goal.check_datum-requires-clause-place
check_datum-requires-clause-place c =
    place_grown c.args.types.now c.loop-field.types c.args.self.now c.loop-field.invariant.grown c.requires.place

pub returns-in_err-check_datum-clause-words : goal.returns-in_err-check_datum-clause-words
returns-in_err-check_datum-clause-words c =
    let P = program c.args.self.now.program.now in
    let p = err_from_is_err_and c.from_residual.result c.from_residual.ensures.1 in
    rw (p.1, p.2)
    (says_map c.check_datum.new.types c.in_err-check_datum.field-0.0 (DatumFaultWith P (datum c.field-item.result))
    (DataFaultWith P (data_fields c.args.fields.now))
    (word_fault P c.args.fields.now c.loop-field.field-index c.field-item.result c.loop-field-test.true c.field-item.is
    c.loop-field.invariant.left) c.in_err-check_datum.ensures.word)

pub returns-in_err-check_datum-clause-grown : goal.returns-in_err-check_datum-clause-grown
returns-in_err-check_datum-clause-grown c =
    grown_next _ _ _ c.loop-field.invariant.grown c.in_err-check_datum.ensures.grown

pub loop-field-preserved : goal.loop-field-preserved
loop-field-preserved c =
    record {
      grown = grown_next _ _ _ c.loop-field.invariant.grown c.in_ok-check_datum.ensures.grown;
      left = word_more (program c.args.self.now.program.now) c.args.fields.now c.loop-field.field-index
          c.field-item.result c.loop-field-test.true c.field-item.is c.in_ok-check_datum.ensures.word
          c.loop-field.invariant.left;
    }

pub returns-clause-words : goal.returns-clause-words
returns-clause-words c =
    words_end (program c.args.self.now.program.now) c.args.fields.now c.loop-field.field-index c.loop-field-test.false
    c.loop-field.invariant.left
