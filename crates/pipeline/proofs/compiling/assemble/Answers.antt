use Rattle.std.proofs.Common.{sym, subst}
use Rattle.std.proofs.Math.Logic.{∥∥₁_elim, ∥∥₁_map₂, ∥∥₁_prop}
use Rattle.f_check.specs.Typed.{program_term}
use Rattle.f_terms.specs.ReadTerm as source
use Rattle.k_terms.specs.Whole as K
use Rattle.c_terms.specs.Term as C
use Rattle.h_terms.specs.Program as H
use Rattle.a_terms.specs.Program as A
use Rattle.t_terms.specs.ReadProgram.{program}
use Rattle.t_gen_laws.specs.Rules.{Generates}
use Rattle.pipeline.proofs.Compiled.{compilation, enters_seldom, is_made}
use Rattle.pipeline.proofs.Weighing.{blocks_counted, same_weights}
use Rattle.pipeline.proofs.compiling.assemble.Goals as goal

pub returns-clause-compiled : goal.returns-clause-compiled
returns-clause-compiled c =
    let e = source.term_of (program_term c.args.program.now) in
    let k = K.term_of c.in_ok-converted.converted in
    let d = C.term_of c.in_ok-closed.closed in
    let h = c.in_ok-hoisted.hoisted in
    let a = c.in_ok-allocated.allocated in
    let closed = c.in_ok-closed.ensures in
    let hoisted = c.in_ok-hoisted.ensures in
    let allocated = c.in_ok-allocated.ensures in
    let made = c.in_ok-generated.ensures in
    (∥∥₁_elim allocated.stands ∥∥₁_prop (λ stands.
    ∥∥₁_elim allocated.meaning ∥∥₁_prop (λ means.
    ∥∥₁_elim a.bound ∥∥₁_prop (λ bound.
    ∥∥₁_map₂ made.accepted made.keeps (λ accepted keeps.
    compilation e k d (H.blocks_in h) (H.main_in h) (A.program_in a) (A.main_in a) (program c.in_ok-generated.generated)
    c.erased_code_stands_at_its_place.ensures c.runs_stay_within_times.ensures c.programs_are_laid_out.ensures
    c.in_ok-converted.ensures closed.rules closed.halts closed.codes hoisted.back hoisted.meaning stands means made.is
    (subst (Generates (A.program_in a) (A.main_in a)) (sym made.is)
    (c.generated_programs_are_by_rules.ensures (A.program_in a) (A.main_in a) bound.0.0))
    (is_made e k d (H.blocks_in h) (H.main_in h) (A.program_in a) (A.main_in a) (program c.in_ok-generated.generated)
    c.in_ok-converted.ensures.tree closed.same hoisted.blocks hoisted.main allocated.program allocated.main made.is)
    accepted keeps c.in_ok-generated.generated.whole.0)))))

pub returns-clause-entered : goal.returns-clause-entered
returns-clause-entered c =
    let e = source.term_of (program_term c.args.program.now) in
    let k = K.term_of c.in_ok-converted.converted in
    let d = C.term_of c.in_ok-closed.closed in
    let h = c.in_ok-hoisted.hoisted in
    let a = c.in_ok-allocated.allocated in
    let closed = c.in_ok-closed.ensures in
    let hoisted = c.in_ok-hoisted.ensures in
    let allocated = c.in_ok-allocated.ensures in
    let made = c.in_ok-generated.ensures in
    (∥∥₁_elim allocated.stands ∥∥₁_prop (λ stands.
    ∥∥₁_elim allocated.meaning ∥∥₁_prop (λ means.
    ∥∥₁_elim a.bound ∥∥₁_prop (λ bound.
    ∥∥₁_map₂ made.accepted made.keeps (λ accepted keeps.
    enters_seldom e k d (H.blocks_in h) (H.main_in h) (A.program_in a) (A.main_in a)
    (program c.in_ok-generated.generated)
    c.erased_code_stands_at_its_place.ensures c.runs_stay_within_times.ensures c.programs_are_laid_out.ensures
    c.in_ok-converted.ensures closed.rules closed.halts closed.codes hoisted.back hoisted.meaning stands means made.is
    (subst (Generates (A.program_in a) (A.main_in a)) (sym made.is)
    (c.generated_programs_are_by_rules.ensures (A.program_in a) (A.main_in a) bound.0.0))
    (is_made e k d (H.blocks_in h) (H.main_in h) (A.program_in a) (A.main_in a) (program c.in_ok-generated.generated)
    c.in_ok-converted.ensures.tree closed.same hoisted.blocks hoisted.main allocated.program allocated.main made.is)
    accepted keeps c.in_ok-generated.generated.whole.0)))))

pub returns-clause-made : goal.returns-clause-made
returns-clause-made c =
    let e = source.term_of (program_term c.args.program.now) in
    let k = K.term_of c.in_ok-converted.converted in
    let d = C.term_of c.in_ok-closed.closed in
    let h = c.in_ok-hoisted.hoisted in
    let a = c.in_ok-allocated.allocated in
    let hoisted = c.in_ok-hoisted.ensures in
    let allocated = c.in_ok-allocated.ensures in
    is_made e k d (H.blocks_in h) (H.main_in h) (A.program_in a) (A.main_in a) (program c.in_ok-generated.generated)
    c.in_ok-converted.ensures.tree c.in_ok-closed.ensures.same hoisted.blocks hoisted.main allocated.program
    allocated.main c.in_ok-generated.ensures.is

pub returns-clause-work : goal.returns-clause-work
returns-clause-work c =
    let e = source.term_of (program_term c.args.program.now) in
    let k = K.term_of c.in_ok-converted.converted in
    let d = C.term_of c.in_ok-closed.closed in
    let h = c.in_ok-hoisted.hoisted in
    let a = c.in_ok-allocated.allocated in
    let converted = c.in_ok-converted.ensures in
    let closed = c.in_ok-closed.ensures in
    let hoisted = c.in_ok-hoisted.ensures in
    let allocated = c.in_ok-allocated.ensures in
    let made = c.in_ok-generated.ensures in
    let P = program c.in_ok-generated.generated in
    blocks_counted e k d (H.blocks_in h) (H.main_in h) (A.program_in a) (A.main_in a) P
    converted.tree closed.same hoisted.blocks hoisted.main allocated.program allocated.main made.is
    c.programs_are_laid_out.ensures converted.codes

pub returns-clause-weights : goal.returns-clause-weights
returns-clause-weights c =
    let e = source.term_of (program_term c.args.program.now) in
    let k = K.term_of c.in_ok-converted.converted in
    let d = C.term_of c.in_ok-closed.closed in
    let h = c.in_ok-hoisted.hoisted in
    let a = c.in_ok-allocated.allocated in
    let converted = c.in_ok-converted.ensures in
    let closed = c.in_ok-closed.ensures in
    let hoisted = c.in_ok-hoisted.ensures in
    let allocated = c.in_ok-allocated.ensures in
    let made = c.in_ok-generated.ensures in
    let P = program c.in_ok-generated.generated in
    same_weights e k d (H.blocks_in h) (H.main_in h) (A.program_in a) (A.main_in a) P
    converted.tree closed.same hoisted.blocks hoisted.main allocated.program allocated.main made.is
