use Rattle.std.proofs.Common.{List, ℕ, ap, ◌∙◌, subst}
use Rattle.std.proofs.lemmas.Result.{on_ok_weaker}
use Rattle.k_terms.specs.Read.{ktree}
use Rattle.kc_notation.specs.declared.page.Scope.{Scope}
use Rattle.kc_notation.specs.CpsNotation.{note_text}
use Rattle.kc_notation.specs.Standing.{IsPage}
use Rattle.kc_notation.specs.ClosedWalk.{declare}
use Rattle.kc_notation.proofs.cps_lines.declare.Goals as goal

pub returns : goal.returns
returns c = on_ok_weaker c.declare.result
    (λ f p h.
    subst (λ (s : List ℕ). IsPage c.declare.new.self (declare p c.args.level s c.args.word.now))
    (c.deref.ensures.value ∙ c.in_ok-note.ensures
    ∙ ap (λ (s : Scope). note_text c.args.typed s.types (ktree c.args.ty.now)) h.body.scope)
    (f p h))
    c.declare.ensures
