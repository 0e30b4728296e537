-- A translation by the rules alone means the same, and no place of it is executed often.
use Rattle.std.proofs.Common.{◌≡◌, ◌↔◌, ℕ, ℤ, List, [], sym, ap, subst, ◌∙◌, arith}
use Rattle.f_terms.specs.Tm.{Term}
use Rattle.calc_core.specs.Ends.{End, Halted, Spent, Stuck}
use Rattle.k_terms.specs.Meaning.{krun}
use Rattle.k_terms.specs.Typing.{KTyped}
use Rattle.k_laws.specs.Correct.{KeepsMeaning, KeepsTypes, Kept}
use Rattle.c_terms.specs.Meaning.{crun}
use Rattle.c_terms.specs.Typing.{CTyped}
use Rattle.c_rules.specs.Close.{close_of}
use Rattle.c_laws.specs.Laws as closes
use Rattle.h_terms.specs.Laws.{HNeverStuck}
use Rattle.h_terms.specs.Meaning.{hrun}
use Rattle.h_terms.specs.Typing.{HProgramGood}
use Rattle.h_pass.specs.Statements.{HoistedMeansTheSame}
use Rattle.a_terms.specs.Meaning as A
use Rattle.a_laws.specs.Statements.{StandingMeansTheSame, ends, finish, onto_log}
use Rattle.t_terms.specs.Tree.{TProg}
use Rattle.t_terms.specs.Whole.{WellFormedProgram}
use Rattle.t_rules.specs.LawsErased.{StandsAt}
use Rattle.t_rules.specs.LawsTimes.{RunsWithinTimes}
use Rattle.t_rules.specs.Rules.{Accepted}
use Rattle.t_gen_laws.specs.Correct.{Keeps}
use Rattle.t_gen_laws.specs.Rules.{RulesMeanTheSame}
use Rattle.pipeline.specs.Compilation.{IsTranslation}
use Rattle.pipeline.specs.Meaning.{SameMeaning, RunsSeldom, HaltsSoon}
use Rattle.pipeline.proofs.Chain.{same_meaning, seldom, soon}
use Rattle.pipeline.proofs.OneClosing.{one_closing}

-- a run that is wrong was stuck
finish_wrong : (e : End) (log other : List ℕ) → finish e log ≡ A.Wrong other → e ≡ Stuck
finish_wrong (Halted i) log other e = cc
finish_wrong Spent log other e = cc
finish_wrong Stuck log other e = cc

module _ (converts : KeepsMeaning) (types : KeepsTypes) (scope : closes.TypedIsClosed)
    (translates : closes.CloseTranslates) (closed_means : closes.MeaningKept) (closed_typed : closes.TypesKept)
    (hoists : HoistedMeansTheSame) (never_stuck : HNeverStuck) (stands : StandingMeansTheSame)
    (rules : RulesMeanTheSame) (at_place : StandsAt) (within : RunsWithinTimes) (e : Term) (P : TProg)
    (t : IsTranslation e P) (whole : WellFormedProgram P) (accepted : Accepted P) where
  k_good : KTyped 0 [] t.converted
  k_good = types e t.converted t.to_converted

  kept : Kept e t.converted
  kept = converts e t.converted t.to_converted

  closed_is : t.closed ≡ close_of t.converted
  closed_is =
      one_closing t.converted t.closed (close_of t.converted) t.to_closed
      (translates t.converted (scope t.converted k_good))

  c_good : CTyped 0 [] t.closed
  c_good = subst (CTyped 0 []) (sym closed_is) (closed_typed t.converted k_good)

  closed : (n : ℕ) → crun n t.closed ≡ krun n t.converted
  closed n = ap (crun n) closed_is ∙ closed_means t.converted k_good n

  ends_alike : (n : ℕ) (i : ℤ) → (crun n t.closed).end ≡ Halted i ↔ (krun n t.converted).end ≡ Halted i
  ends_alike n i = let same = ap (λ r. r.end) (closed n) in (λ ended. sym same ∙ ended, λ ended. same ∙ ended)

  codes : (n : ℕ) → (crun n t.closed).entered ≡ (krun n t.converted).entered
  codes n = ap (λ r. r.entered) (closed n)

  hoisted : HProgramGood t.blocks t.main × ((n : ℕ) → hrun n t.blocks t.main ≡ crun n t.closed)
  hoisted = hoists t.blocks t.main t.closed c_good t.to_hoisted

  means : (n : ℕ) → A.meaning t.allocated t.start n ≡ ends [] (hrun n t.blocks t.main)
  means = stands t.allocated t.start t.blocks t.main hoisted.0 t.to_allocated

  never_wrong : A.NeverWrong t.allocated t.start
  never_wrong n log wrong =
      let r = hrun n t.blocks t.main in
      never_stuck t.blocks t.main hoisted.0 n
      (finish_wrong r.end (onto_log r.entered []) log (sym (means n) ∙ wrong))

  keeps : Keeps t.allocated t.start P
  keeps = rules t.allocated t.start P never_wrong t.to_assembly whole accepted

  same : SameMeaning e P
  same =
      same_meaning e t.converted t.closed t.blocks t.main t.allocated t.start P kept ends_alike codes hoisted.1 means
      keeps

  runs_seldom : RunsSeldom e P
  runs_seldom =
      let count = (t.to_assembly).count in
      seldom e t.converted t.closed t.blocks t.main t.allocated t.start P kept ends_alike codes hoisted.1 means keeps
      at_place (omega (arith, count))

  pub means_the_same : SameMeaning e P × RunsSeldom e P × HaltsSoon e P
  means_the_same = (same, runs_seldom, soon e P within same runs_seldom)
