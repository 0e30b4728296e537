-- What the passes say of their results, put together.
use Rattle.std.proofs.Common.{◌≡◌, ◌↔◌, ℕ, ℤ, suc, ◌+◌, [], length, ap, ap₂, ◌∙◌, arith}
use Rattle.f_terms.specs.Tm.{Term}
use Rattle.calc_core.specs.Ends.{Halted}
use Rattle.k_terms.specs.K.{KTm}
use Rattle.k_terms.specs.Meaning.{krun}
use Rattle.k_laws.specs.Annotate.{cps_term}
use Rattle.k_pass.specs.Converted.{Converted}
use Rattle.c_terms.specs.C.{CTm}
use Rattle.c_terms.specs.Meaning.{crun}
use Rattle.c_rules.specs.Close.{close_of}
use Rattle.c_laws.specs.Row as closing
use Rattle.h_terms.specs.H.{HBlks, HTm}
use Rattle.h_terms.specs.Meaning.{hrun}
use Rattle.h_pass.specs.Back.{IsHoisted}
use Rattle.h_pass.specs.Hoist.{blocks_of, main_of}
use Rattle.a_terms.specs.Tree.{ATm, AProg}
use Rattle.a_terms.specs.Bound.{thirds, all_thirds}
use Rattle.a_terms.specs.Meaning as A
use Rattle.a_laws.specs.Allocate.{alloc_prog, alloc_main}
use Rattle.a_laws.specs.Stands.{Stands}
use Rattle.a_laws.specs.Statements.{ends}
use Rattle.t_terms.specs.Tree.{TProg}
use Rattle.t_terms.specs.Whole.{WellFormedProgram}
use Rattle.t_rules.specs.Rules.{Accepted}
use Rattle.t_rules.specs.LawsErased.{StandsAt}
use Rattle.t_rules.specs.LawsTimes.{RunsWithinTimes}
use Rattle.t_gen_rules.specs.Gen.{generated}
use Rattle.t_gen_laws.specs.Correct.{Keeps}
use Rattle.t_gen_laws.specs.Layout.{LaidOut}
use Rattle.t_gen_laws.specs.Rules.{Generates}
use Rattle.pipeline.specs.Made.{IsMade, assembled, hoisted_and_assembled}
use Rattle.pipeline.specs.Meaning.{SameMeaning, RunsSeldom, EntersSeldom}
use Rattle.pipeline.specs.Compilation.{IsCompilation}
use Rattle.pipeline.proofs.Chain.{same_meaning, seldom, entered, soon}

-- the passes' equations in turn
pub is_made : (e : Term) (k : KTm) (c : CTm) (ks : HBlks) (t : HTm) (p : AProg) (main : ATm) (P : TProg) →
    k ≡ cps_term e → c ≡ close_of k → ks ≡ blocks_of c → t ≡ main_of c → p ≡ alloc_prog ks t →
    main ≡ alloc_main ks t → P ≡ generated p main → IsMade e P
is_made e k c ks t p main P converted closed blocks is_main allocated start made = record {
  is = made ∙ ap₂ generated allocated start ∙ ap₂ assembled blocks is_main
      ∙ ap hoisted_and_assembled (closed ∙ ap close_of converted);
}

module _ (e : Term) (k : KTm) (c : CTm) (ks : HBlks) (t : HTm) (p : AProg) (main : ATm) (P : TProg)
    (stands : StandsAt) (within : RunsWithinTimes) (laid : LaidOut) (converted : Converted e k)
    (closed : closing.IsTranslation k c)
    (halts : (n : ℕ) (i : ℤ) → (crun n c).end ≡ Halted i ↔ (krun n k).end ≡ Halted i)
    (codes : (n : ℕ) → (crun n c).entered ≡ (krun n k).entered) (hoisted : IsHoisted ks t c)
    (runs : (n : ℕ) → hrun n ks t ≡ crun n c) (allocated : Stands p main ks t)
    (means : (n : ℕ) → A.meaning p main n ≡ ends [] (hrun n ks t)) (is_generated : P ≡ generated p main)
    (by_rules : Generates p main P) (made : IsMade e P) (accepted : Accepted P) (keeps : Keeps p main P)
    (whole : WellFormedProgram P) where
  means_same : SameMeaning e P
  means_same = same_meaning e k c ks t p main P converted.meaning halts codes runs means keeps

  long : length P.blocks ≡ suc (length p.blocks) + thirds main + all_thirds p.blocks
  long =
      let same = ap (λ (x : TProg). length x.blocks) is_generated in
      let count = (laid p main).count in
      omega (arith, same, count)

  runs_seldom : RunsSeldom e P
  runs_seldom = seldom e k c ks t p main P converted.meaning halts codes runs means keeps stands long

  pub enters_seldom : EntersSeldom e P
  enters_seldom = entered e k c ks t p main P converted.meaning halts codes runs means keeps stands long

  pub compilation : IsCompilation e P
  compilation = record {
    whole = whole;
    accepted = accepted;
    meaning = means_same;
    translation = record {
      converted = k;
      closed = c;
      blocks = ks;
      main = t;
      allocated = p;
      start = main;
      to_converted = converted.translation;
      to_closed = closed;
      to_hoisted = hoisted;
      to_allocated = allocated;
      to_assembly = by_rules;
    };
    made = made;
    seldom = runs_seldom;
    soon = soon e P within means_same runs_seldom;
  }
