-- What `compile` makes of a source text, from what its program is compiled to and how that is written.
use Rattle.std.proofs.Common.{ℕ, List}
use Rattle.std.proofs.Math.Bridge.{le_prop}
use Rattle.std.proofs.Math.Logic.{∥∥₁_map, ∥∥₁_elim}
use Rattle.f_terms.specs.Ty.{TInt}
use Rattle.f_terms.specs.Tm.{Tm, plain}
use Rattle.t_terms.specs.ReadProgram.{program}
use Rattle.t_terms.specs.declared.program.TProgram.{TProgram}
use Rattle.t_rules.specs.Rules.{Accepted}
use Rattle.t_rules.proofs.Once.{accepted_prop}
use Rattle.pipeline.specs.Meaning.{SameMeaning, RunsSeldom, HaltsSoon}
use Rattle.pipeline.specs.Compilation.{IsCompilation, IsCompilationWithin}
use Rattle.pipeline.specs.Made.{IsMade}
use Rattle.pipeline.specs.Work.{HasBlocks, SameWeights, WorkWithin}
use Rattle.talc_core.specs.FirstFault.{IsChecked}
use Rattle.talc_core.specs.Written.{IsWritten}
use Rattle.talc_core.specs.Compiled.{IsCompiled}
use Rattle.talc_core.specs.Translated.{IsTranslationWithin}
use Rattle.talc_core.specs.CompiledText.{CompiledText, CompiledTextWithin}

module _ (source target : List ℕ) (term : Tm) (p : TProgram) (checked : IsChecked source term TInt)
    (written : IsWritten (program p) target) where
  abbrev means : ∥ Accepted (program p) ∥₁ → ∥ SameMeaning (plain term) (program p) ∥₁ →
      ∥ RunsSeldom (plain term) (program p) ∥₁ → ∥ HaltsSoon (plain term) (program p) ∥₁ → IsCompiled source target
  means accepted meaning seldom soon = record {
    term = term;
    program = program p;
    checked = checked;
    reads = written.reads;
    whole = p.whole;
    accepted = ∥∥₁_elim accepted (accepted_prop (program p)) (λ is. is);
    meaning = meaning;
    seldom = λ n i ev m s q run block index. ∥∥₁_elim seldom le_prop (λ few. few n i ev m s q run block index);
    soon = soon;
  }

  pub compiled_text : ∥ IsCompilation (plain term) (program p) ∥₁ → IsMade (plain term) (program p) →
      HasBlocks (plain term) (program p) → SameWeights (plain term) (program p) → CompiledText source target
  compiled_text compiled made blocks weights = record {
    compiled = means (∥∥₁_map compiled (λ c. c.accepted)) (∥∥₁_map compiled (λ c. c.meaning))
        (∥∥₁_map compiled (λ c. c.seldom)) (∥∥₁_map compiled (λ c. c.soon));
    translated = record {
      term = term;
      program = program p;
      checked = checked;
      written = written;
      translation = ∥∥₁_map compiled (λ c. c.translation);
    };
    made = record { term = term; program = program p; checked = checked; written = written; made = made };
    blocks = blocks;
    weights = weights;
  }

  abbrev by_rules : (k : ℕ) → IsCompilationWithin k (plain term) (program p) →
      IsTranslationWithin k (plain term) (program p)
  by_rules k c = record {
    translated = c.translated;
    translation = c.translation;
    stays = c.stays;
    framed = c.framed;
    work = c.work;
  }

  pub compiled_text_within : (k : ℕ) → ∥ IsCompilationWithin k (plain term) (program p) ∥₁ →
      WorkWithin (plain term) (program p) → CompiledTextWithin k source target
  compiled_text_within k compiled work = record {
    compiled = record {
      compiled = means (∥∥₁_map compiled (λ c. c.accepted)) (∥∥₁_map compiled (λ c. c.meaning))
          (∥∥₁_map compiled (λ c. c.seldom)) (∥∥₁_map compiled (λ c. c.soon));
      few = ∥∥₁_map compiled (λ c. c.few);
    };
    translated = record {
      term = term;
      program = program p;
      checked = checked;
      written = written;
      translation = ∥∥₁_map compiled (λ c. by_rules k c);
    };
    made = record {
      term = term;
      program = program p;
      checked = checked;
      written = written;
      made = ∥∥₁_map compiled (λ c. record { by_rules = by_rules k c; made = c.made });
    };
    work = work;
  }
