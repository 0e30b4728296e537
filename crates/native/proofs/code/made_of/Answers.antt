use Rattle.std.proofs.Common.{Err, ap, inl}
use Rattle.std.proofs.lemmas.Result.{err_from_is_err_and}
use Rattle.t_terms.specs.ReadProgram.{program as program_tree}
use Rattle.w_terms.specs.Read.{program as word_program}
use Rattle.native.proofs.Composing.{made_of, not_coded, no_room, words_of}
use Rattle.native.proofs.code.made_of.Goals as goal

pub returns-clause-made : goal.returns-clause-made
returns-clause-made c =
    made_of c.args.heap c.in_ok-named.named (program_tree c.args.program.now) c.in_ok-named.ensures.count
    (word_program c.in_ok-words.words) _ c.in_ok-words.ensures.fits c.in_ok-words.ensures.code
    c.in_ok-words.ensures.built c.in_ok-file.ensures.made

pub returns-clause-words : goal.returns-clause-words
returns-clause-words c =
    words_of c.args.heap c.in_ok-named.named (program_tree c.args.program.now) (word_program c.in_ok-words.words)
    c.in_ok-named.ensures.count c.in_ok-words.ensures.code

pub returns-in_err-file-clause-large : goal.returns-in_err-file-clause-large
returns-in_err-file-clause-large c =
    let r = err_from_is_err_and c.from_residual-in_err-file.result c.from_residual-in_err-file.ensures.1 in
    rw r.1 (λ is. no_room c.args.heap c.in_ok-named.named (program_tree c.args.program.now) c.in_ok-named.ensures.count
    c.args.program.now.whole (word_program c.in_ok-words.words) c.in_ok-words.ensures.code
    (c.in_err-file.ensures.large (r.2 is)))

pub returns-in_err-named-clause-large : goal.returns-in_err-named-clause-large
returns-in_err-named-clause-large c =
    let r = err_from_is_err_and c.from_residual.result c.from_residual.ensures.1 in
    rw r.1 (λ is bounds. bounds.small (inl c.in_err-named.ensures.wide))

pub returns-in_err-words-clause-large : goal.returns-in_err-words-clause-large
returns-in_err-words-clause-large c =
    let r = err_from_is_err_and c.from_residual-in_err-words.result c.from_residual-in_err-words.ensures.1 in
    rw r.1 (λ is. not_coded c.args.heap c.in_ok-named.named (program_tree c.args.program.now)
    c.in_ok-named.ensures.count (c.in_err-words.ensures.large (ap Err (r.2 is))))
