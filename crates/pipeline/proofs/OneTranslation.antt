-- The passes give one program.
use Rattle.std.proofs.Common.{⊎_elim, refl, sym, ap, subst, ◌∙◌}
use Rattle.k_laws.specs.Annotate.{cps_term}
use Rattle.k_laws.specs.Correct.{IsTranslated, CpsKeepsTypes}
use Rattle.c_rules.specs.Close.{close_of}
use Rattle.c_laws.specs.Laws.{TypedIsClosed, CloseTranslates, TypesKept}
use Rattle.c_laws.specs.Row as closing
use Rattle.h_pass.specs.Hoist.{blocks_of, main_of}
use Rattle.h_pass.specs.Statements.{HoistIsBack, HoistTypesKept}
use Rattle.a_laws.specs.Allocate.{alloc_prog, alloc_main}
use Rattle.a_laws.specs.Stands.{AllocStands}
use Rattle.a_laws.specs.Statements.{AllocTypesKept}
use Rattle.t_gen_laws.specs.Rules.{Generates, GeneratedIsByRules}
use Rattle.t_spill_laws.specs.Bound.{RegistersUpTo}
use Rattle.t_spill_rules.specs.Spill.{spilled}
use Rattle.pipeline.specs.OneProgram.{MadeIsTranslated, OneClosedTerm, OneProgram, OneProgramWithin}
use Rattle.pipeline.proofs.Deciding.{few_or_not}
use Rattle.pipeline.proofs.OneClosing.{one_closing}

pub one_closed_term : OneClosedTerm
one_closed_term e P Q a b converted =
    let from = subst (λ k. closing.IsTranslation k a.closed) converted a.to_closed in
    one_closing b.converted a.closed b.closed from b.to_closed

pub one_program : OneProgram
one_program e P Q a b = a.made.is ∙ sym b.made.is

pub one_program_within : OneProgramWithin
one_program_within k e P Q a b =
    let T = a.translated in
    let U = b.translated in
    let same = a.made.is ∙ sym b.made.is in
    ⊎_elim
    (λ (few : RegistersUpTo k T). a.stays few ∙ same ∙ sym (b.stays (subst (RegistersUpTo k) same few)))
    (λ (many : RegistersUpTo k T → ⊥).
    a.framed many ∙ ap (spilled k) same ∙ sym (b.framed (λ few. many (subst (RegistersUpTo k) (sym same) few))))
    (few_or_not k T)

-- the laws of the passes in turn
pub made_is_translated : IsTranslated → CpsKeepsTypes → TypedIsClosed → CloseTranslates → TypesKept → HoistIsBack →
    HoistTypesKept → AllocStands → AllocTypesKept → GeneratedIsByRules → MadeIsTranslated
made_is_translated converts keeps closed closes types back hoists stands allocates rules e P program made =
    let k = cps_term e in
    let c = close_of k in
    let ks = blocks_of c in
    let t = main_of c in
    let p = alloc_prog ks t in
    let main = alloc_main ks t in
    let k_good = keeps e program in
    let c_good = types k k_good in
    let h_good = hoists c c_good in (
      record {
        converted = k;
        closed = c;
        blocks = ks;
        main = t;
        allocated = p;
        start = main;
        to_converted = converts e program;
        to_closed = closes k (closed k k_good);
        to_hoisted = back c c_good;
        to_allocated = stands ks t h_good;
        to_assembly = subst (Generates p main) (sym made.is) (rules p main (allocates ks t h_good));
      },
      record {
        converted = refl;
        closed = refl;
        blocks = refl;
        main = refl;
        allocated = refl;
        start = refl;
        program = made.is;
      },
    )
