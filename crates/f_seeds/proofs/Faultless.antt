-- A source has no first fault.
use Rattle.std.proofs.Common.{◌≡◌, subst}
use Rattle.f_terms.specs.Ty.{TInt, NoTys}
use Rattle.f_terms.specs.Tm.{Tm}
use Rattle.f_terms.specs.Read.{place}
use Rattle.f_terms.specs.Faults.{Passes}
use Rattle.f_terms.specs.Laws.{PassesWhereTyped, NoFaultBesideAPass}
use Rattle.f_grammar.specs.Text.{NoFaultWhereRead, OneTerm}
use Rattle.f_seeds.specs.Source.{source}
use Rattle.f_seeds.specs.Laws.{SourcesArePrograms, SourcesHaveNoFault}

pub faultless : SourcesArePrograms → NoFaultWhereRead → OneTerm → PassesWhereTyped → NoFaultBesideAPass →
    SourcesHaveNoFault
faultless programs reads one typing beside n =
    let p = programs n in (
      λ code span fault. reads (source n) p.0 code span p.1 fault,
      λ term code span read fault.
          let same : p.0 ≡ term = one (source n) p.0 term p.1.source read.source in
          let passes : Passes p.0 0 NoTys TInt = (typing p.0 0 NoTys TInt tt).1 p.2 in
          beside term 0 NoTys TInt code (place span) (subst (λ (t : Tm). Passes t 0 NoTys TInt) same passes) fault,
    )
