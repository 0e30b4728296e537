-- The bound of programs is kept.
use Rattle.std.proofs.Common.{ℕ, ◌+◌, ◌*◌, arith}
use Rattle.k_terms.specs.K.{KTm}
use Rattle.k_terms.specs.Bound.{KFits, KBound}
use Rattle.k_terms.specs.Size.{ksize_t}
use Rattle.c_terms.specs.Bound.{CFits, CBound}
use Rattle.c_terms.proofs.Mono.{within_more, small_t, fits_more}
use Rattle.c_rules.specs.Close.{close_of, no_scope}
use Rattle.c_laws.proofs.BothTypings.{reach_kept}
use Rattle.c_laws.proofs.BodySizes.{close_small}
use Rattle.c_laws.proofs.HowMany.{close_counts, few}
use Rattle.c_laws.proofs.Numbers.{t_next}

pub fits_kept : (N R : ℕ) (t : KTm) → KFits N R t → CFits (10 * N + 1) (R + 4) (close_of t)
fits_kept N R t h =
    let small = close_small t in
    let codes = t_next t no_scope 0 in
    let ifs = close_counts t in
    let all = few t in (
      within_more (N + 1) (10 * N + 1) (R + 4) (R + 4) (N + N + 1) (10 * N + 1) (close_of t) (omega arith)
          (omega arith) (omega arith) (reach_kept N R N t h.0),
      (omega (arith, small.0, h.1), small_t (10 * ksize_t t) (10 * N + 1) (omega (arith, h.1)) (close_of t) small.1),
      omega (arith, codes, ifs, all, h.1),
    )

pub bound_kept : (t : KTm) → KBound t → CBound (close_of t)
bound_kept t h =
    fits_more (10 * 1099511627776 + 1) 17592186044416 1604 1604 (close_of t) (omega arith) (omega arith)
    (fits_kept 1099511627776 1600 t h)
