use Rattle.std.proofs.Common.{subst}
use Rattle.f_terms.specs.ReadTerm.{spanned, term_of}
use Rattle.f_check.specs.Typed.{program_term}
use Rattle.f_eval.specs.Ends.{IsEnd}
use Rattle.f_eval.specs.declared.evaluator.Ended.{Ended}
use Rattle.talc_core.proofs.SeedLemmas.{no_cells, not_spent}
use Rattle.talc_core.proofs.commands.seed.evaluate_seed.Goals as goal

-- the source of a seed is never spent
pub unreachable-requires : goal.unreachable-requires
unreachable-requires c =
    let program = program_term c.in_ok-program.program in
    let value = c.in_ok-value.ensures in
    not_spent c.texts_keep_laws.ensures c.sources_are_programs.ensures c.more_turns_keep_the_value.ensures c.args.seed
    (spanned program) c.in_ok-program.ensures
    (subst (λ (e : Ended). IsEnd (term_of program) 1000000 e) c.in-Spent.is value.right)

-- and has no cells
pub eval-requires : goal.eval-requires
eval-requires c =
    no_cells c.texts_keep_laws.ensures c.sources_are_programs.ensures c.args.seed
    (spanned (program_term c.in_ok-program.program)) c.in_ok-program.ensures
