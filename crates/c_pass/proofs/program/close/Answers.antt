use Rattle.std.proofs.Common.{◌∙◌, ◌+◌, ◌*◌, ap, sym, subst, []}
use Rattle.std.proofs.Math.Logic.{∥∥₁_map}
use Rattle.k_terms.specs.Whole as K
use Rattle.c_terms.specs.Bound.{CFits}
use Rattle.c_terms.specs.Each.{CTypedWith}
use Rattle.c_terms.specs.Meaning.{crun}
use Rattle.c_terms.specs.Reach.{CWithin}
use Rattle.c_terms.specs.Typing.{CTyped}
use Rattle.c_pass.proofs.Meant.{same_run}
use Rattle.c_pass.proofs.program.close.Goals as goal

pub returns-clause-types : goal.returns-clause-types
returns-clause-types c =
    let p = c.args.program.now in
    let t = K.term_of p in
    ∥∥₁_map p.fits
    (λ b. subst (CTyped 0 []) (sym c.in_ok-made.ensures.same)
    (c.types_law.ensures.typed t (c.within_is_typed_law.ensures 1099511627776 1600 1099511627776 t b.0)))

pub returns-clause-reach : goal.returns-clause-reach
returns-clause-reach c = λ N R B h.
    subst (CTypedWith (CWithin (N + 1) (R + 4) (N + B + 1)) 0 []) (sym c.in_ok-made.ensures.same)
    (c.types_law.ensures.reach N R B (K.term_of c.args.program.now) h)

pub returns-clause-bound : goal.returns-clause-bound
returns-clause-bound c = λ N R h.
    subst (CFits (10 * N + 1) (R + 4)) (sym c.in_ok-made.ensures.same)
    (c.bound_law.ensures.fits N R (K.term_of c.args.program.now) h)

pub returns-clause-halts : goal.returns-clause-halts
returns-clause-halts c = λ n i.
    let p = c.args.program.now in
    let e = same_run c.within_is_typed_law.ensures c.meaning_law.ensures (K.term_of p) p.fits n in
    let f = ap (λ t. (crun n t).end) c.in_ok-made.ensures.same ∙ ap (λ r. r.end) e in
    (λ h. sym f ∙ h, λ h. f ∙ h)

pub returns-clause-codes : goal.returns-clause-codes
returns-clause-codes c = λ n.
    let p = c.args.program.now in
    let e = same_run c.within_is_typed_law.ensures c.meaning_law.ensures (K.term_of p) p.fits n in
    ap (λ t. (crun n t).entered) c.in_ok-made.ensures.same ∙ ap (λ r. r.entered) e
