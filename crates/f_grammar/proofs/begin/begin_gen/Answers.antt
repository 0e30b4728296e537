use Rattle.std.proofs.Common.{[], ◌∷◌, refl, arith}
use Rattle.std.proofs.lemmas.Result.{err_from_is_err_and}
use Rattle.text_core.specs.Table.{Nt}
use Rattle.f_grammar.specs.Machine.{LE}
use Rattle.f_grammar.proofs.Reaching.{stops}
use Rattle.f_grammar.proofs.Steps.{one_more}
use Rattle.f_grammar.proofs.Beginning.{gen_begun}
use Rattle.f_grammar.proofs.begin.begin_gen.Goals as goal

pub returns-in_err-name : goal.returns-in_err-name
returns-in_err-name c =
    let p = err_from_is_err_and c.from_residual.result c.from_residual.ensures.1 in
    rw (p.1, p.2) (stops c.args.reader.now.tokens.now [] (Nt LE ∷ []) _ refl c.in_err-name.ensures c.requires.stays)

pub returns : goal.returns
returns c =
    let e = c.in_ok-push.ensures in
    let r =
    gen_begun c.args.reader.now.tokens.now c.args.word c.in_ok-name.name e c.in_ok-name.ensures c.requires.stays in
    (refl, r, omega (arith, one_more _ _ _ e, r.in_range))
