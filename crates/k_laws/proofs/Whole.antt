-- The conversion keeps what every translation keeps.
use Rattle.std.proofs.Common.{◌+◌, ◌*◌, arith}
use Rattle.f_terms.specs.Laws.{NeverStuck}
use Rattle.f_terms.specs.Limits.{nodes}
use Rattle.k_terms.proofs.Mono.{within_more, fits_more}
use Rattle.k_laws.specs.Annotate.{cps_term}
use Rattle.k_laws.specs.Correct.{CpsKeepsMeaning, CpsKeepsTypes, CpsKeepsReach, CpsFits, CpsKeepsBound}
use Rattle.k_laws.proofs.Kept.{kept}
use Rattle.k_laws.proofs.Typed.{types_kept}
use Rattle.k_laws.proofs.Reach.{reach_kept}
use Rattle.k_laws.proofs.Size.{size_is}
use Rattle.k_laws.proofs.Types.{translated}

pub meaning : NeverStuck → CpsKeepsMeaning
meaning never e h = kept never e (cps_term e) (translated e h)

pub types : CpsKeepsTypes
types e h = types_kept e (cps_term e) (translated e h)

pub reach : CpsKeepsReach
reach e h = reach_kept e (cps_term e) h (translated e h.0)

pub fits : CpsFits
fits e h =
    let x = size_is e in (
      within_more (nodes e) (7 * nodes e + 598) 1600 1600 598 (7 * nodes e + 598) (cps_term e) (omega arith)
          (omega arith) (omega arith) (reach e h),
      omega (arith, x),
    )

pub bound : CpsKeepsBound
bound e h le = fits_more (7 * nodes e + 598) 1099511627776 1600 (cps_term e) (omega (arith, le)) (fits e h)
