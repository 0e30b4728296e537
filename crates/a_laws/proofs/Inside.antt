-- Equal hoisted values have equal parts.
use Rattle.std.proofs.Common.{◌≡◌, ℕ, ℤ, ap}
use Rattle.c_terms.specs.C.{CTy, CTys, TCInt, NoCTys}
use Rattle.h_terms.specs.H.{HVal, HInt, HLabel, HTuple, HApply, HPack, HVals, NoHVals, MoreHVals}

-- the value inside a value, the values inside, and the types that stand beside them
abbrev value_in : HVal → HVal
value_in (HApply v ts) = v
value_in (HPack h v s) = v
value_in v = v

abbrev values_in : HVal → HVals
values_in (HTuple vs) = vs
values_in v = NoHVals

abbrev types_in : HVal → CTys
types_in (HApply v ts) = ts
types_in v = NoCTys

abbrev hidden_in : HVal → CTy
hidden_in (HPack h v s) = h
hidden_in v = TCInt

abbrev shape_in : HVal → CTy
shape_in (HPack h v s) = s
shape_in v = TCInt

abbrev head : HVal → HVals → HVal
head d NoHVals = d
head d (MoreHVals v vs) = v

abbrev tail : HVals → HVals
tail NoHVals = NoHVals
tail (MoreHVals v vs) = vs

pub integer : {m n : ℤ} → ◌≡◌ {A = HVal} (HInt m) (HInt n) → m ≡ n
integer e = cc

pub label : {l m : ℕ} → ◌≡◌ {A = HVal} (HLabel l) (HLabel m) → l ≡ m
label e = cc

pub applied : {v w : HVal} {ts us : CTys} → HApply v ts ≡ HApply w us → v ≡ w
applied e = ap value_in e

pub types : {v w : HVal} {ts us : CTys} → HApply v ts ≡ HApply w us → ts ≡ us
types e = ap types_in e

pub hidden : {v w : HVal} {a b c d : CTy} → HPack a v b ≡ HPack c w d → a ≡ c
hidden e = ap hidden_in e

pub content : {v w : HVal} {a b c d : CTy} → HPack a v b ≡ HPack c w d → v ≡ w
content e = ap value_in e

pub shape : {v w : HVal} {a b c d : CTy} → HPack a v b ≡ HPack c w d → b ≡ d
shape e = ap shape_in e

pub inside : {vs ws : HVals} → HTuple vs ≡ HTuple ws → vs ≡ ws
inside e = ap values_in e

pub first_value : {v w : HVal} {vs ws : HVals} → MoreHVals v vs ≡ MoreHVals w ws → v ≡ w
first_value {v = v} e = ap (head v) e

pub more_values : {v w : HVal} {vs ws : HVals} → MoreHVals v vs ≡ MoreHVals w ws → vs ≡ ws
more_values e = ap tail e

pub no_values : {v : HVal} {vs : HVals} → NoHVals ≡ MoreHVals v vs → ⊥
no_values e = cc
