-- Allocation adds nothing to the reach of types, nor names to them, and keeps within three times the bounds of the
-- hoisted program.
use Rattle.std.proofs.Common.{◌≡◌, suc, ◌+◌, [], refl, ap, ap₂, arith}
use Rattle.std.specs.Prelude.{Bool, true, false, max}
use Rattle.a_laws.proofs.CLaws.{CLaws}
use Rattle.a_laws.proofs.Regs.{alloc_small}
use Rattle.a_laws.proofs.Thirds.{length_all, thirds_all, thirds_t}
use Rattle.a_laws.proofs.Agree.{all_of, mixed}
use Rattle.a_laws.proofs.Typing.{program_typed}
use Rattle.h_terms.specs.Laws.{HTypedIsAny}
use Rattle.a_laws.specs.Statements.{AllocFits, AllocTypesKept}
use Rattle.a_laws.specs.Allocate.{atype, atypes, n_all}
use Rattle.a_terms.specs.Each.{AWithin, abinds, abinds_all, abinds_fields, areach, areach_fields, areaches}
use Rattle.a_terms.specs.Typing.{aflagged}
use Rattle.c_terms.specs.C.{CTy, CTys, MoreCTys, NoCTys, TCCode, TCInt, TCRef, TCExists, TCTuple, TCVar}
use Rattle.c_terms.specs.Reach.{CWithin, cbinds, cbinds_all, creach, creaches}

-- the reach of types whatever the flags
mutual
  reach_atype : (t : CTy) → areach (atype t) ≡ creach t
  reach_atype TCInt = refl
  reach_atype (TCVar i) = refl
  reach_atype (TCTuple ts) = ap suc (reach_flagged true ts)
  reach_atype (TCCode n ts) = ap (λ k. suc (suc k)) (reach_atypes ts)
  reach_atype (TCExists t) = ap suc (reach_atype t)
  reach_atype (TCRef t) = let x = reach_atype t in omega (arith, x)

  reach_atypes : (ts : CTys) → areaches (atypes ts) ≡ creaches ts
  reach_atypes NoCTys = refl
  reach_atypes (MoreCTys t ts) = ap₂ max (reach_atype t) (reach_atypes ts)

  reach_flagged : (b : Bool) (ts : CTys) → areach_fields (aflagged b (atypes ts)) ≡ creaches ts
  reach_flagged b NoCTys = refl
  reach_flagged b (MoreCTys t ts) = ap₂ max (reach_atype t) (reach_flagged b ts)

mutual
  binds_atype : (t : CTy) → abinds (atype t) ≡ cbinds t
  binds_atype TCInt = refl
  binds_atype (TCVar i) = refl
  binds_atype (TCTuple ts) = binds_flagged true ts
  binds_atype (TCCode n ts) = ap (λ k. n + k) (binds_atypes ts)
  binds_atype (TCExists t) = ap suc (binds_atype t)
  binds_atype (TCRef t) = let x = binds_atype t in omega (arith, x)

  binds_atypes : (ts : CTys) → abinds_all (atypes ts) ≡ cbinds_all ts
  binds_atypes NoCTys = refl
  binds_atypes (MoreCTys t ts) = ap₂ max (binds_atype t) (binds_atypes ts)

  binds_flagged : (b : Bool) (ts : CTys) → abinds_fields (aflagged b (atypes ts)) ≡ cbinds_all ts
  binds_flagged b NoCTys = refl
  binds_flagged b (MoreCTys t ts) = ap₂ max (binds_atype t) (binds_flagged b ts)

reach_mixed : (ts us : CTys) → areach_fields (mixed ts us) ≡ creaches (all_of ts us)
reach_mixed NoCTys us = reach_flagged false us
reach_mixed (MoreCTys t ts) us = ap₂ max (reach_atype t) (reach_mixed ts us)

binds_mixed : (ts us : CTys) → abinds_fields (mixed ts us) ≡ cbinds_all (all_of ts us)
binds_mixed NoCTys us = binds_flagged false us
binds_mixed (MoreCTys t ts) us = ap₂ max (binds_atype t) (binds_mixed ts us)

-- what is within bounds of a hoisted type is within them of its allocation
pub alloc_fits : CLaws → AllocFits
alloc_fits law N M R le ks t h =
    let typed = program_typed (AWithin M R M) (CWithin N R N) law
    (λ n u q. (let x = reach_atype u in let y = binds_atype u in
    (omega (arith, q.0), omega (arith, x, q.1), omega (arith, y, q.2))))
    (λ n us vs q.
    (let x = reach_mixed us vs in let y = binds_mixed us vs in
    (omega (arith, q.0), omega (arith, x, q.1), omega (arith, y, q.2))))
    (λ n u q. (let x = reach_atype u in let y = binds_atype u in
    (omega (arith, q.0), omega (arith, x, q.1), omega (arith, y, q.2))))
    (λ n u q. (let x = reach_atype u in let y = binds_atype u in
    (omega arith, omega (arith, x, q.1), omega (arith, y, q.2)))) ks t h.0 in
    let small = alloc_small N M le ks t h.1 in
    let many = length_all ks ks 0 in
    let one = thirds_t t ks [] [] (n_all 0 ks) 0 in
    let all = thirds_all ks ks 0 in
    (typed.0, typed.1, small, omega (arith, many, one, all, h.2))

-- typing alone
pub alloc_types : CLaws → HTypedIsAny → AllocTypesKept
alloc_types law any ks t h =
    (program_typed (λ n u. Unit {0}) (λ n u. Unit {0}) law (λ n u q. tt) (λ n us vs q. tt) (λ n u q. tt)
    (λ n u q. tt) ks t ((any ks t).0 h)).0
