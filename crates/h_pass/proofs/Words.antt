-- Words that stand for others, code by code: as labels do for the codes of a closed program.
use Rattle.std.proofs.Common.{◌≡◌, ℕ, zero, suc, Option, Some, None, refl, sym, ap, ap₂, ◌∙◌, subst, subst₂}
use Rattle.idx_core.specs.declared.arith.Op.{Op}
use Rattle.idx_core.specs.Arith.{is_zero}
use Rattle.calc_core.specs.Ends.{Result, pick}
use Rattle.calc_core.specs.Words.{Word, WInt, WTuple, WCode, WCell, Words, NoWords, MoreWords, size, field, project}
use Rattle.calc_core.specs.Words.{operate, held, hold, one_more, Made, Makes, Fails, given, get, set, with_value}
use Rattle.calc_core.specs.Words.{at_zero, halt_with}

module _ {C D : Type 0} (Is : C → D → Type 0) where
  -- values
  abbrev mutual
    pub HoistsTo : Word C → Word D → Type 0
    HoistsTo (WInt n) y = y ≡ WInt n
    HoistsTo (WTuple vs) y = (ys : Words D) × (y ≡ WTuple ys) × AllHoistTo vs ys
    HoistsTo (WCell p) y = y ≡ WCell p
    HoistsTo (WCode c env) y = (l : D) × (y ≡ WCode l NoWords) × Is c l

    pub AllHoistTo : Words C → Words D → Type 0
    AllHoistTo NoWords ys = ys ≡ NoWords
    AllHoistTo (MoreWords v vs) ys =
        (z : Word D) × (zs : Words D) × (ys ≡ MoreWords z zs) × HoistsTo v z × AllHoistTo vs zs

  abbrev pub OptionHoistsTo : Option (Word C) → Option (Word D) → Type 0
  OptionHoistsTo None None = Unit {0}
  OptionHoistsTo None (Some y) = ⊥
  OptionHoistsTo (Some w) None = ⊥
  OptionHoistsTo (Some w) (Some y) = HoistsTo w y

  pub field_hoists : (i : ℕ) (vs : Words C) (ys : Words D) → AllHoistTo vs ys →
      OptionHoistsTo (field i vs) (field i ys)
  field_hoists i NoWords ys r = subst (λ z. OptionHoistsTo None (field i z)) (sym r) tt
  field_hoists zero (MoreWords v vs) ys r = subst (λ z. OptionHoistsTo None (field 0 z)) (sym r.2) tt
  field_hoists (suc zero) (MoreWords v vs) ys r = subst (λ z. OptionHoistsTo (Some v) (field 1 z)) (sym r.2) r.3
  field_hoists (suc (suc i)) (MoreWords v vs) ys r =
      subst (λ z. OptionHoistsTo (field (suc i) vs) (field (suc (suc i)) z)) (sym r.2)
      (field_hoists (suc i) vs r.1 r.4)

  pub project_hoists : (i : ℕ) (v : Word C) (y : Word D) → HoistsTo v y →
      OptionHoistsTo (project i v) (project i y)
  project_hoists i (WInt n) y r = subst (λ z. OptionHoistsTo None (project i z)) (sym r) tt
  project_hoists i (WTuple vs) y r =
      subst (λ z. OptionHoistsTo (field i vs) (project i z)) (sym r.1) (field_hoists i vs r.0 r.2)
  project_hoists i (WCode c env) y r = subst (λ z. OptionHoistsTo None (project i z)) (sym r.1) tt
  project_hoists i (WCell p) y r = subst (λ z. OptionHoistsTo None (project i z)) (sym r) tt

  pub compute_hoists : (op : Op) (v w : Word C) (y z : Word D) → HoistsTo v y → HoistsTo w z →
      OptionHoistsTo (operate op v w) (operate op y z)
  compute_hoists op (WInt x) (WInt u) y z r q =
      subst₂ (λ a c. OptionHoistsTo (operate op (WInt x) (WInt u)) (operate op a c)) (sym r) (sym q) refl
  compute_hoists op (WInt x) (WTuple ws) y z r q =
      subst₂ (λ a c. OptionHoistsTo None (operate op a c)) (sym r) (sym q.1) tt
  compute_hoists op (WInt x) (WCode c env) y z r q =
      subst₂ (λ a c. OptionHoistsTo None (operate op a c)) (sym r) (sym q.1) tt
  compute_hoists op (WInt x) (WCell p) y z r q =
      subst₂ (λ a c. OptionHoistsTo None (operate op a c)) (sym r) (sym q) tt
  compute_hoists op (WCell p) w y z r q = subst (λ a. OptionHoistsTo None (operate op a z)) (sym r) tt
  compute_hoists op (WTuple vs) w y z r q = subst (λ a. OptionHoistsTo None (operate op a z)) (sym r.1) tt
  compute_hoists op (WCode c env) w y z r q = subst (λ a. OptionHoistsTo None (operate op a z)) (sym r.1) tt

  pub all_size : (vs : Words C) (ys : Words D) → AllHoistTo vs ys → size ys ≡ size vs
  all_size NoWords ys r = ap size r
  all_size (MoreWords v vs) ys r = ap size r.2 ∙ ap suc (all_size vs r.1 r.4)

  -- stores, place by place
  pub held_hoists : (p : ℕ) (st : Words C) (hst : Words D) → AllHoistTo st hst →
      OptionHoistsTo (held p st) (held p hst)
  held_hoists p NoWords hst r = subst (λ z. OptionHoistsTo None (held p z)) (sym r) tt
  held_hoists zero (MoreWords v st) hst r = subst (λ z. OptionHoistsTo (Some v) (held 0 z)) (sym r.2) r.3
  held_hoists (suc p) (MoreWords v st) hst r =
      subst (λ z. OptionHoistsTo (held p st) (held (suc p) z)) (sym r.2) (held_hoists p st r.1 r.4)

  pub hold_hoists : (p : ℕ) (st : Words C) (hst : Words D) (w : Word C) (y : Word D) → AllHoistTo st hst →
      HoistsTo w y → AllHoistTo (hold p w st) (hold p y hst)
  hold_hoists p NoWords hst w y r q = ap (hold p y) r
  hold_hoists zero (MoreWords v st) hst w y r q = (y, r.1, ap (hold 0 y) r.2, q, r.4)
  hold_hoists (suc p) (MoreWords v st) hst w y r q =
      (r.0, hold p y r.1, ap (hold (suc p) y) r.2, r.3, hold_hoists p st r.1 w y r.4 q)

  pub more_hoists : (st : Words C) (hst : Words D) (w : Word C) (y : Word D) → AllHoistTo st hst → HoistsTo w y →
      AllHoistTo (one_more st w) (one_more hst y)
  more_hoists NoWords hst w y r q = (y, NoWords, ap (λ z. one_more z y) r, q, refl)
  more_hoists (MoreWords v st) hst w y r q =
      (r.0, one_more r.1 y, ap (λ z. one_more z y) r.2, r.3, more_hoists st r.1 w y r.4 q)

  abbrev pub MadeHoistsTo : Made C → Made D → Type 0
  MadeHoistsTo Fails Fails = Unit {0}
  MadeHoistsTo Fails (Makes y hst) = ⊥
  MadeHoistsTo (Makes w st) Fails = ⊥
  MadeHoistsTo (Makes w st) (Makes y hst) = HoistsTo w y × AllHoistTo st hst

  pub given_hoists : (o : Option (Word C)) (p : Option (Word D)) (st : Words C) (hst : Words D) → OptionHoistsTo o p →
      AllHoistTo st hst → MadeHoistsTo (given o st) (given p hst)
  given_hoists None None st hst h r = tt
  given_hoists None (Some y) st hst h r = absurd h
  given_hoists (Some v) None st hst h r = absurd h
  given_hoists (Some v) (Some y) st hst h r = (h, r)

  pub get_hoists : (v : Word C) (y : Word D) (st : Words C) (hst : Words D) → HoistsTo v y → AllHoistTo st hst →
      MadeHoistsTo (get v st) (get y hst)
  get_hoists (WInt n) y st hst h r = subst (λ z. MadeHoistsTo Fails (get z hst)) (sym h) tt
  get_hoists (WTuple vs) y st hst h r = subst (λ z. MadeHoistsTo Fails (get z hst)) (sym h.1) tt
  get_hoists (WCode c env) y st hst h r = subst (λ z. MadeHoistsTo Fails (get z hst)) (sym h.1) tt
  get_hoists (WCell p) y st hst h r =
      subst (λ z. MadeHoistsTo (given (held p st) st) (get z hst)) (sym h)
      (given_hoists (held p st) (held p hst) st hst (held_hoists p st hst r) r)

  pub set_hoists : (v w : Word C) (y z : Word D) (st : Words C) (hst : Words D) → HoistsTo v y → HoistsTo w z →
      AllHoistTo st hst → MadeHoistsTo (set v w st) (set y z hst)
  set_hoists (WInt n) w y z st hst h q r = subst (λ x. MadeHoistsTo Fails (set x z hst)) (sym h) tt
  set_hoists (WTuple vs) w y z st hst h q r = subst (λ x. MadeHoistsTo Fails (set x z hst)) (sym h.1) tt
  set_hoists (WCode c env) w y z st hst h q r = subst (λ x. MadeHoistsTo Fails (set x z hst)) (sym h.1) tt
  set_hoists (WCell p) w y z st hst h q r =
      subst (λ x. MadeHoistsTo (set (WCell p) w st) (set x z hst)) (sym h)
      ((NoWords, refl, refl), hold_hoists p st hst w z r q)

  pub zero_hoists : (v : Word C) (y : Word D) (r q s t : Result) → HoistsTo v y → s ≡ r → t ≡ q →
      at_zero y s t ≡ at_zero v r q
  zero_hoists (WInt n) y r q s t h d e = ap (λ z. at_zero z s t) h ∙ ap₂ (pick (is_zero n)) d e
  zero_hoists (WTuple ws) y r q s t h d e = ap (λ z. at_zero z s t) h.1
  zero_hoists (WCode c env) y r q s t h d e = ap (λ z. at_zero z s t) h.1
  zero_hoists (WCell p) y r q s t h d e = ap (λ z. at_zero z s t) h

  pub halt_hoists : (v : Word C) (y : Word D) → HoistsTo v y → halt_with y ≡ halt_with v
  halt_hoists (WInt n) y h = ap halt_with h
  halt_hoists (WTuple ws) y h = ap halt_with h.1
  halt_hoists (WCode c env) y h = ap halt_with h.1
  halt_hoists (WCell p) y h = ap halt_with h

  pub value_hoists : (o : Made C) (p : Made D) (f : Word C → Words C → Result) (g : Word D → Words D → Result) →
      MadeHoistsTo o p →
      ((v : Word C) (y : Word D) (st : Words C) (hst : Words D) → HoistsTo v y → AllHoistTo st hst →
      g y hst ≡ f v st) → with_value p g ≡ with_value o f
  value_hoists Fails Fails f g h k = refl
  value_hoists Fails (Makes y hst) f g h k = absurd h
  value_hoists (Makes v st) Fails f g h k = absurd h
  value_hoists (Makes v st) (Makes y hst) f g h k = k v y st hst h.0 h.1
