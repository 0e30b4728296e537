use Rattle.std.proofs.Common.{◌≡◌, ◌≢◌, ◌∙◌, refl, sym, subst}
use Rattle.f_terms.specs.Ty.{NoTys}
use Rattle.f_terms.specs.Faults.{Fault}
use Rattle.f_terms.specs.declared.fault.FFault.TheVariants as fault
use Rattle.f_check.specs.Verdict.{Says}
use Rattle.f_check.specs.Told.{fault_of}
use Rattle.f_terms.specs.Read.{tree, place}
use Rattle.f_terms.specs.ReadTerm.{spanned, term_of}
use Rattle.f_check.proofs.Exact.{alone, accepted, no_fault, same_fault}
use Rattle.f_check.proofs.checker.check.Goals as goal

pub invariant_of-result : goal.invariant_of-result
invariant_of-result c = record {
  closed = c.requires.closed;
  closed_type = c.in-Ok.ensures.0.1;
  few = c.requires.nodes;
  accepted = accepted c.passes_where_typed.ensures (spanned c.args.term) (tree c.in-Ok.ty) c.in-Ok.ensures.0.0;
  table = c.in-Ok.ensures.1;
  noted = c.in-Ok.ensures.2;
}

pub returns-in-Ok-clause-typed : goal.returns-in-Ok-clause-typed
returns-in-Ok-clause-typed c = λ t h.
    c.one_type.ensures (term_of c.args.term) 0 NoTys (tree c.in-Ok.ty) t
    (accepted c.passes_where_typed.ensures (spanned c.args.term) (tree c.in-Ok.ty) c.in-Ok.ensures.0.0).0 h.0

pub returns-in-Ok-clause-refused : goal.returns-in-Ok-clause-refused
returns-in-Ok-clause-refused c = λ code span h.
    c.no_fault_beside_a_pass.ensures (spanned c.args.term) 0 NoTys (tree c.in-Ok.ty) code
    (place span) c.in-Ok.ensures.0.0 h

pub returns-in-Err-clause-right : goal.returns-in-Err-clause-right
returns-in-Err-clause-right c = (
  refl,
  subst (λ f. Says f (Fault (spanned c.args.term) 0 NoTys)) (sym c.fault_alone.ensures)
      (alone (spanned c.args.term) c.in-Err.e c.in-Err.ensures),
)

pub returns-in-Err-clause-typed : goal.returns-in-Err-clause-typed
returns-in-Err-clause-typed c = λ t h.
    let e = spanned c.args.term in
    c.fault_alone.ensures
    ∙ no_fault c.passes_where_typed.ensures c.no_fault_beside_a_pass.ensures c.one_fault.ensures e t h
    (fault_of c.in-Err.e)
    (alone e c.in-Err.e c.in-Err.ensures)

pub returns-in-Err-clause-refused : goal.returns-in-Err-clause-refused
returns-in-Err-clause-refused c = λ code span h.
    let e = spanned c.args.term in
    subst (λ f. f ≢ fault.Memory → f ≡ fault.Refused code span) (sym c.fault_alone.ensures)
    (same_fault c.passes_where_typed.ensures c.no_fault_beside_a_pass.ensures c.one_fault.ensures e code span h
    (fault_of c.in-Err.e) (alone e c.in-Err.e c.in-Err.ensures))
