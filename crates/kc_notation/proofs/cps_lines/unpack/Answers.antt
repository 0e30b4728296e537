use Rattle.std.proofs.Common.{List, ℕ, ◌+◌, ap, ◌∙◌, subst}
use Rattle.std.proofs.lemmas.Result.{on_ok_weaker}
use Rattle.k_terms.specs.Read.{ktree}
use Rattle.kc_notation.specs.declared.page.Scope.{Scope}
use Rattle.kc_notation.specs.CpsNotation.{note_text}
use Rattle.kc_notation.specs.Standing.{IsPage}
use Rattle.kc_notation.specs.ClosedWalk.{unpack}
use Rattle.kc_notation.proofs.cps_lines.unpack.Goals as goal

pub returns : goal.returns
returns c = on_ok_weaker c.unpack.result
    (λ f p h.
    subst (λ (s : List ℕ). IsPage c.unpack.new.self (unpack p c.args.level s))
    (c.deref.ensures.value ∙ c.in_ok-note.ensures
    ∙ ap (λ n. note_text c.args.typed n (ktree c.args.ty.now))
    (c.in_ok-types.ensures ∙ ap (λ (s : Scope). s.types + 1) h.body.scope))
    (f p h))
    c.unpack.ensures
