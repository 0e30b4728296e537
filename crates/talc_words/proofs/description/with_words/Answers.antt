use Rattle.std.proofs.Common.{◌≡◌, ◌&&◌, ◌∙◌, Bool, true, false, not, Result, Ok, Err, IfOk, ap, ap₂, refl, subst}
use Rattle.clap.specs.Words.{App, AddsSubcommand, app_of, with_subcommand}
use Rattle.clap.specs.declared.builder.command.Command.{Command}
use Rattle.talc_words.proofs.description.with_words.Goals as goal

-- a plain command has no global argument
local : (a b g rest : Bool) → (a && (b && (not g && rest))) ≡ true → g ≡ false
local true true true rest e = cc
local true false g rest e = cc
local false b g rest e = cc
local true true false rest e = refl

added : {E : Type 0} (all sub : Command) (new : Result Command E) (above below : App) →
    IfOk new (λ r. AddsSubcommand all sub r) → app_of all ≡ above → app_of sub ≡ below → below.top.is_plain ≡ true →
    IfOk new (λ r. app_of r ≡ with_subcommand above below.top)
added all sub (Ok r) above below adds above_is below_is plain =
    adds.shape (local _ _ _ _ (ap (λ (a : App). a.top.is_plain) below_is ∙ plain))
    ∙ ap₂ with_subcommand above_is (ap (λ (a : App). a.top) below_is)
added all sub (Err e) above below adds above_is below_is plain = tt

pub returns : goal.returns
returns c above below above_is below_is plain =
    added _ _ _ above below c.subcommand.ensures
    (subst (λ r. IfOk r (λ x. app_of x ≡ above)) c.in_ok-all.was above_is)
    (subst (λ r. IfOk r (λ x. app_of x ≡ below)) c.in_ok-sub.was below_is) plain
