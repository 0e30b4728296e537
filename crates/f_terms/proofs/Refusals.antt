-- Refusals by the limits and by the form of a type: those that don't come, and those that come in one way at most.
use Rattle.std.proofs.Common.{◌≡◌, ℕ, sym, subst, Option, Some, None}
use Rattle.text_core.specs.Refusals.{Refusal}
use Rattle.text_core.proofs.Refusals.{Clear, clear_nothing, clear_check, One, one_nothing, one_refuse, one_check}
use Rattle.f_terms.specs.Ty.{Ty, TArrow, TAll, TTuple, TSome, TRef, Tys}
use Rattle.f_terms.specs.Tm.{Spn}
use Rattle.f_terms.specs.Limits.{Within}
use Rattle.f_terms.specs.Faults.{Note, limits, if_arrow, if_all, if_tuple, if_some, if_ref, if_none, fitting}

pub clear_limits : (t : Ty) (s : Spn) {r : Refusal Note Spn} → Within t → Clear r → Clear (limits t s r)
clear_limits t s w k = clear_check w.0 (clear_check w.1 k)

pub clear_package : {t u : Ty} (other : Refusal Note Spn) (go : Ty → Refusal Note Spn) → t ≡ TSome u →
    Clear (go u) → Clear (if_some t other go)
clear_package other go e k = subst (λ x. Clear (if_some x other go)) (sym e) k

pub clear_some : {o : Option Ty} {t : Ty} (r : Refusal Note Spn) → o ≡ Some t → Clear (if_none o r)
clear_some {t = t} r e = subst (λ o. Clear (if_none o r)) (sym e) clear_nothing

pub one_limits : (t : Ty) (s : Spn) {r : Refusal Note Spn} → One r → One (limits t s r)
one_limits t s k = one_check one_refuse (one_check one_refuse k)

pub one_fitting : (n : ℕ) (w t : Ty) (s : Spn) → One (fitting n w t s)
one_fitting n w t s = one_check one_refuse one_refuse

pub one_arrow : {other : Refusal Note Spn} {go : Ty → Ty → Refusal Note Spn} (t : Ty) → One other →
    ((a b : Ty) → One (go a b)) → One (if_arrow t other go)
one_arrow (TArrow a b) x y = y a b
one_arrow _ x y = x

pub one_all : {other : Refusal Note Spn} {go : Ty → Refusal Note Spn} (t : Ty) → One other →
    ((b : Ty) → One (go b)) → One (if_all t other go)
one_all (TAll b) x y = y b
one_all _ x y = x

pub one_tuple : {other : Refusal Note Spn} {go : Tys → Refusal Note Spn} (t : Ty) → One other →
    ((ts : Tys) → One (go ts)) → One (if_tuple t other go)
one_tuple (TTuple ts) x y = y ts
one_tuple _ x y = x

pub one_some : {other : Refusal Note Spn} {go : Ty → Refusal Note Spn} (t : Ty) → One other →
    ((b : Ty) → One (go b)) → One (if_some t other go)
one_some (TSome b) x y = y b
one_some _ x y = x

pub one_ref : {other : Refusal Note Spn} {go : Ty → Refusal Note Spn} (t : Ty) → One other →
    ((b : Ty) → One (go b)) → One (if_ref t other go)
one_ref (TRef b) x y = y b
one_ref _ x y = x

pub one_none : (fault : Refusal Note Spn) (o : Option Ty) → One fault → One (if_none o fault)
one_none fault None x = x
one_none fault (Some t) x = one_nothing
