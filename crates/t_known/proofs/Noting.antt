-- What is known of the registers, by their entries: looking up, noting, one more type name, and more types.
use Rattle.std.proofs.Common.{◌≡◌, ℕ, ◌+◌, ◌-◌, ◌<◌, ◌≤◌, List, [], ◌∷◌, length, Bool, true, false, Some, None, refl}
use Rattle.std.proofs.Common.{sym, ap, ap₂, ◌∙◌, arith, subst, cond, nat_eq, Option, get_or, drop, IsTrue, ◌↔◌}
use Rattle.std.specs.Prelude.{option_map}
use Rattle.std.specs.BTreeMap.{BTreeMap, get}
use Rattle.std.specs.Ordering.{nat_cmp}
use Rattle.std.proofs.Math.Path.{fun_ext}
use Rattle.std.proofs.lemmas.List.{drop_more}
use Rattle.idx_core.specs.Laws.{shift_zero_law, shift_add_law}
use Rattle.t_types.specs.Tree.{Ty, CodeTy, TFile, shift}
use Rattle.t_types.specs.TreeLaws.{types_part, types_over}
use Rattle.t_types.specs.Fits.{RegTypes, lookup}
use Rattle.t_types.specs.WellFormed.{max_names, RegsAbove, WellFormedFile}
use Rattle.t_terms.specs.Registers.{with_reg, raised, no_types}
use Rattle.t_intern.specs.Grown.{Grown}
use Rattle.t_intern.specs.Nodes.{at, regs_at, RegsBelow}
use Rattle.t_intern.proofs.Growing.{grown_length, grown_at}
use Rattle.t_known.specs.declared.registers.Entry.{Entry}
use Rattle.t_known.specs.declared.registers.Moment.{Moment}
use Rattle.t_known.specs.declared.registers.Registers.{Registers}
use Rattle.t_types.specs.Bounds.{Bounded}
use Rattle.t_known.specs.Known.{own, seen, entry_of, known, IsEntry, IsSound, IsFound, IsSet, IsNoted, IsOfBlock}
use Rattle.t_known.specs.Known.{IsEmpty}
use Rattle.t_rules.proofs.Depth.{shallow, bounded}
use Rattle.t_known.proofs.Fitted.{fitted_same, fitted_set, fitted_bound}
use Rattle.t_known.proofs.Sets.{marks_grown, own_marks_grown}

pub found_is : (ts : List Ty) (k : Registers) (r : ℕ) (o : Option Entry) → o ≡ entry_of k r → IsSound ts k →
    IsFound ts k r o
found_is ts k r None e h = ap (option_map (seen ts k.names)) (sym e)
found_is ts k r (Some x) e h = (ap (option_map (seen ts k.names)) (sym e), h.entries r x (sym e))

-- more types
module _ (ts us : List Ty) (g : Grown ts us) where
  pub own_grown : (n : ℕ) (e : Entry) → IsEntry ts n e → own us e ≡ own ts e
  own_grown n e h = own_marks_grown ts us g e.marks e.ty h.0 h.3

  pub seen_grown : (n : ℕ) (e : Entry) → IsEntry ts n e → seen us n e ≡ seen ts n e
  seen_grown n e h = ap (shift (n - e.names) 0) (own_grown n e h)

  pub entry_grown : (n : ℕ) (e : Entry) → IsEntry ts n e → IsEntry us n e
  entry_grown n e h =
      let l = grown_length ts us g in
      (omega (arith, l, h.0), h.1, subst (Bounded e.names) (sym (own_grown n e h)) h.2, marks_grown ts us g e.marks h.3)

  pub known_grown : (k : Registers) → IsSound ts k → known us k ≡ known ts k
  known_grown k h = fun_ext (λ r. go r (entry_of k r) h (refl))
    where
      go : (r : ℕ) (o : Option Entry) → IsSound ts k → entry_of k r ≡ o →
          option_map (seen us k.names) o ≡ option_map (seen ts k.names) o
      go r None h e = refl
      go r (Some x) h e = ap Some (seen_grown k.names x (h.entries r x e))

  pub sound_grown : (k : Registers) → IsSound ts k → IsSound us k
  sound_grown k h = record {
    few = h.few;
    entries = λ r e is. entry_grown k.names e (h.entries r e is);
    fitted = λ f m is.
        let x = h.fitted f m is in
        let l = grown_length ts us g in
        fitted_same ts us k k f m (omega (arith, l, x.there)) (grown_at ts us g f x.there) (known_grown k h) refl refl
        x;
  }

-- what is told of a file by more types
pub file_told : (Q : RegTypes → TFile → Type 0) (ts us : List Ty) → Grown ts us → (k : Registers) → IsSound ts k →
    (f : TFile) (code : ℕ) (b : Bool) → code < length ts → at ts code ≡ CodeTy 0 f →
    ((x : TFile) → at us code ≡ CodeTy 0 x → IsTrue b ↔ Q (known us k) x) → IsTrue b ↔ Q (known ts k) f
file_told Q ts us g k s f code b lt e h =
    subst (λ (x : RegTypes). IsTrue b ↔ Q x f) (known_grown ts us g k s) (h f (grown_at ts us g code lt ∙ e))

pub grown_there : (ts us : List Ty) → Grown ts us → (n : ℕ) → n < length ts → n < length us
grown_there ts us g n lt = let l = grown_length ts us g in omega arith

-- an entry that is noted now
pub seen_now : (ts : List Ty) (n : ℕ) (e : Entry) → e.names ≡ n → seen ts n e ≡ own ts e
seen_now ts n e is =
    let z : n - e.names ≡ 0 = omega arith in ap (λ k. shift k 0 (own ts e)) z ∙ shift_zero_law types_over 0 (own ts e)

module _ (ts : List Ty) (k h : Registers) (r : ℕ) (e : Entry) (set : IsSet k h r e) where
  pub set_known : known ts h ≡ with_reg (known ts k) r (seen ts k.names e)
  set_known = fun_ext (λ q. ap₂ (λ (n : ℕ) (o : Option Entry). option_map (seen ts n) o) set.1 (set.0 q)
      ∙ pick (nat_eq r q) (entry_of k q))
    where
      pick : (b : Bool) (o : Option Entry) → option_map (seen ts k.names) (cond b (Some e) o)
          ≡ cond b (Some (seen ts k.names e)) (option_map (seen ts k.names) o)
      pick true o = refl
      pick false o = refl

  pub set_sound : IsEntry ts k.names e → IsSound ts k → IsSound ts h
  set_sound mine s = record {
    few = subst (λ n. n ≤ max_names) (sym set.1) s.few;
    entries = λ q x is. subst (λ n. IsEntry ts n x) (sym set.1) (pick (nat_eq r q) q x mine s (sym (set.0 q) ∙ is));
    fitted = λ f m is. fitted_set ts k h r e (seen ts k.names e) set set_known f m
        (s.fitted f m (ap (λ (x : BTreeMap ℕ Moment). get nat_cmp x f) (sym set.3) ∙ is));
  }
    where
      pick : (b : Bool) (q : ℕ) (x : Entry) → IsEntry ts k.names e → IsSound ts k →
          cond b (Some e) (entry_of k q) ≡ Some x → IsEntry ts k.names x
      pick true q x mine s is = let same : e ≡ x = cc in subst (IsEntry ts k.names) same mine
      pick false q x mine s is = s.entries q x is

pub noted : (ts : List Ty) (k h : Registers) (r ty : ℕ) →
    IsSet k h r (record { ty = ty; marks = None; names = k.names }) → IsSound ts k → ty < length ts →
    Bounded k.names (at ts ty) → IsNoted ts k h r (at ts ty)
noted ts k h r ty set s l b =
    let e : Entry = record { ty = ty; marks = None; names = k.names } in (
      set_known ts k h r e set ∙ ap (with_reg (known ts k) r) (seen_now ts k.names e refl),
      set_sound ts k h r e set (l, omega arith, b, tt) s,
      set.1,
    )

-- the same where the types have grown since
pub noted_since : (ts us : List Ty) (k h : Registers) (r : ℕ) (t : Ty) → Grown ts us → IsSound ts k →
    IsNoted us k h r t → known us h ≡ with_reg (known ts k) r t
noted_since ts us k h r t g s n = n.0 ∙ ap (λ x. with_reg x r t) (known_grown ts us g k s)

-- one more type name
entry_more : (ts : List Ty) (n : ℕ) (e : Entry) → IsEntry ts n e → IsEntry ts (n + 1) e
entry_more ts n e h = let le = h.1 in (h.0, omega arith, h.2, h.3)

seen_more : (ts : List Ty) (n : ℕ) (e : Entry) → e.names ≤ n → seen ts (n + 1) e ≡ shift 1 0 (seen ts n e)
seen_more ts n e le =
    let by : n - e.names + 1 ≡ n + 1 - e.names = omega arith in
    sym (shift_add_law types_part types_over (n - e.names) 1 0 (own ts e) ∙ ap (λ k. shift k 0 (own ts e)) by)

module _ (ts : List Ty) (k h : Registers) (same : h.entries ≡ k.entries) (names : h.names ≡ k.names + 1)
    (changed : h.changed ≡ k.changed) (fitted : h.fitted ≡ k.fitted) where
  pub bound_known : IsSound ts k → known ts h ≡ raised (known ts k)
  bound_known s =
      fun_ext (λ r. ap₂ (λ (n : ℕ) (m : BTreeMap ℕ Entry). option_map (seen ts n) (get nat_cmp m r)) names same
      ∙ go r (entry_of k r) s refl)
    where
      go : (r : ℕ) (o : Option Entry) → IsSound ts k → entry_of k r ≡ o →
          option_map (seen ts (k.names + 1)) o ≡ option_map (shift 1 0) (option_map (seen ts k.names) o)
      go r None s e = refl
      go r (Some x) s e = ap Some (seen_more ts k.names x (s.entries r x e).1)

  pub bound_sound : k.names + 1 ≤ max_names → IsSound ts k → IsSound ts h
  bound_sound few s = record {
    few = subst (λ n. n ≤ max_names) (sym names) few;
    entries = λ r e is. subst (λ n. IsEntry ts n e) (sym names)
        (entry_more ts k.names e (s.entries r e (ap (λ (m : BTreeMap ℕ Entry). get nat_cmp m r) (sym same) ∙ is)));
    fitted = λ f m is. fitted_bound ts k h f m names (ap (λ v. v.items) changed) (bound_known s)
        (s.fitted f m (ap (λ (x : BTreeMap ℕ Moment). get nat_cmp x f) (sym fitted) ∙ is));
  }

-- no registers
pub empty_known : (ts : List Ty) (k : Registers) → IsEmpty k → known ts k ≡ no_types
empty_known ts k e = fun_ext (λ r. ap (option_map (seen ts k.names)) (e.0 r))

pub empty_sound : (ts : List Ty) (k : Registers) → k.names ≤ max_names → IsEmpty k → IsSound ts k
empty_sound ts k few e =
    record {
      few = few;
      entries = λ r x is. absurd (let none = e.0 r in cc);
      fitted = λ f m is. absurd (let none = e.1 f in cc);
    }

-- the registers of a header, the last first: xs are those that are noted
abbrev pub IsHeader : ℕ → List (ℕ × ℕ) → Registers → Type 0
IsHeader n xs k =
    (k.names ≡ n)
    × ((ts : List Ty) (low : ℕ) → RegsBelow (length ts) xs → RegsAbove low n (regs_at ts xs) →
    (known ts k ≡ lookup (regs_at ts xs)) × IsSound ts k)

pub header_none : (n : ℕ) (k : Registers) → n ≤ max_names → IsEmpty k → k.names ≡ n → IsHeader n [] k
header_none n k few e names =
    (names, λ ts low l w. (empty_known ts k e, empty_sound ts k (subst (λ m. m ≤ max_names) (sym names) few) e))

pub header_more : (n : ℕ) (xs : List (ℕ × ℕ)) (r t : ℕ) (k h : Registers) → IsHeader n xs k →
    IsSet k h r (record { ty = t; marks = None; names = n }) → IsHeader n ((r, t) ∷ xs) h
header_more n xs r t k h head set = (set.1 ∙ head.0, λ ts low l w. go ts low l w (head.1 ts r l.1 w.3))
  where
    go : (ts : List Ty) (low : ℕ) → RegsBelow (length ts) ((r, t) ∷ xs) → RegsAbove low n (regs_at ts ((r, t) ∷ xs)) →
        (known ts k ≡ lookup (regs_at ts xs)) × IsSound ts k → (known ts h ≡ lookup (regs_at ts ((r, t) ∷ xs)))
        × IsSound ts h
    go ts low l w is =
        let e : Entry = record { ty = t; marks = None; names = n } in
        let mine = bounded n (at ts t) (shallow n (at ts t) w.2) in
        let names = head.0 in (
          set_known ts k h r e set ∙ ap₂ (λ x y. with_reg x r y) is.0 (seen_now ts k.names e (sym head.0)),
          set_sound ts k h r e set (l.0, omega arith, mine, tt) is.1,
        )

pub header_step : (n : ℕ) (xs : List (ℕ × ℕ)) (i : ℕ) (x : ℕ × ℕ) (k h : Registers) → 0 < i → i ≤ length xs →
    x ≡ get_or xs (i - 1) x → IsHeader n (drop i xs) k → IsSet k h x.0 (record { ty = x.1; marks = None; names = n }) →
    IsHeader n (drop (i - 1) xs) h
header_step n xs i x k h some le is head set =
    let lt : i - 1 < length xs = omega (arith, some, le) in
    let same : i - 1 + 1 ≡ i = omega (arith, some) in
    let e : drop (i - 1) xs ≡ x ∷ drop i xs =
    drop_more xs (i - 1) x lt ∙ ap₂ (λ (y : ℕ × ℕ) (j : ℕ). y ∷ drop j xs) (sym is) same in
    subst (λ ys. IsHeader n ys h) (sym e) (header_more n (drop i xs) x.0 x.1 k h head set)

pub of_block : (ts : List Ty) (n : ℕ) (f : TFile) (xs : List (ℕ × ℕ)) (k : Registers) → IsHeader n xs k →
    RegsBelow (length ts) xs → regs_at ts xs ≡ f → WellFormedFile n f → IsOfBlock ts n f k
of_block ts n f xs k head l e w =
    let is = head.1 ts 0 l (subst (RegsAbove 0 n) (sym e) w) in
    (is.0 ∙ ap lookup e, is.1, head.0)
