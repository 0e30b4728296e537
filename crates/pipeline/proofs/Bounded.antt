-- A program that is compiled, and then spilled.
use Rattle.std.proofs.Common.{◌≡◌, ℕ, ◌+◌}
use Rattle.f_terms.specs.Tm.{Term}
use Rattle.t_terms.specs.Tree.{TProg}
use Rattle.t_rules.specs.LawsTimes.{RunsWithinTimes}
use Rattle.t_rules.specs.Machine.{Place}
use Rattle.t_spill_laws.specs.Bound.{RegistersUpTo}
use Rattle.t_spill_rules.specs.Spill.{spilled}
use Rattle.t_spill_laws.specs.Bounded.{Spills}
use Rattle.t_spill_laws.specs.Laws.{SpilledRunSeldom}
use Rattle.pipeline.specs.Meaning.{SameMeaning, RunsSeldom, EntersSeldom}
use Rattle.pipeline.specs.Compilation.{IsCompilation, IsCompilationWithin}
use Rattle.pipeline.specs.Work.{WorkByBound}
use Rattle.pipeline.proofs.Chain.{soon}

module _ (k : ℕ) (e : Term) (P Q : TProg) (from : Place → Place) (within : RunsWithinTimes) (seldom : SpilledRunSeldom)
    (made : IsCompilation e P) (entered : EntersSeldom e P) (spills : Spills k P Q from)
    (stays : RegistersUpTo k P → Q ≡ P) (framed : (RegistersUpTo k P → ⊥) → Q ≡ spilled k P)
    (work : WorkByBound k e P Q) where
  means : SameMeaning e Q
  means = record {
    forth = λ n i ev. spills.alike.forth i (made.meaning.forth n i ev);
    back = λ n i h. made.meaning.back n i (spills.alike.back n i h);
  }

  runs : RunsSeldom e Q
  runs n i ev m s q run block index =
      seldom P Q from spills.counts (n + 1) (λ m2 s2 p2 run2 b. entered n i ev m2 s2 p2 run2 b) m s q run block index

  pub bounded : IsCompilationWithin k e Q
  bounded = record {
    translated = P;
    translation = made.translation;
    made = made.made;
    whole = spills.whole;
    accepted = spills.accepted;
    meaning = means;
    seldom = runs;
    soon = soon e Q within means runs;
    few = spills.few;
    stays = stays;
    framed = framed;
    work = work;
  }
