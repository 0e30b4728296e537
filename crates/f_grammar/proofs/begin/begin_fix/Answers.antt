use Rattle.std.proofs.Common.{[], ◌∷◌, refl, arith}
use Rattle.std.proofs.lemmas.Result.{err_from_is_err_and}
use Rattle.text_core.specs.Table.{Nt}
use Rattle.f_grammar.specs.Machine.{LE}
use Rattle.f_grammar.proofs.Reaching.{stops}
use Rattle.f_grammar.proofs.Steps.{one_more}
use Rattle.f_grammar.proofs.Beginning.{fix_begun}
use Rattle.f_grammar.proofs.begin.begin_fix.Goals as goal

pub returns-in_err-found : goal.returns-in_err-found
returns-in_err-found c =
    let p = err_from_is_err_and c.from_residual.result c.from_residual.ensures.1 in
    rw (p.1, p.2) (stops c.args.reader.now.tokens.now [] (Nt LE ∷ []) _ refl c.in_err-found.ensures c.requires.stays)

pub returns : goal.returns
returns c =
    let e = c.in_ok-push.ensures in
    let h = c.in_ok-found.ensures in
    let r = fix_begun c.args.reader.now.tokens.now c.in_ok-found.found e h c.requires.stays in
    (refl, r, omega (arith, one_more _ _ _ e, h.forward, r.in_range))
