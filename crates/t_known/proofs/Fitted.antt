-- What was seen to fit is remembered, and fits still: by more types, with a register set, and under one more name.
use Rattle.std.proofs.Common.{◌≡◌, ◌≢◌, ℕ, ◌+◌, ◌<◌, ◌≤◌, ◌⊎◌, inl, inr, true, false, cond, nat_eq, List, [], ◌∷◌, ◌++◌}
use Rattle.std.proofs.Common.{length, length-append, Some, refl, sym, ap, ap₂, ◌∙◌, arith, subst}
use Rattle.std.specs.Prelude.{option_map}
use Rattle.std.specs.BTreeMap.{BTreeMap, get}
use Rattle.std.specs.Ordering.{nat_cmp}
use Rattle.std.proofs.Math.Path.{fun_ext}
use Rattle.std.proofs.lemmas.Bool.Decides.{eqb_tells}
use Rattle.std.proofs.lemmas.List.{get_or_append_left}
use Rattle.std.proofs.Math.Seq.{get_or-append_seam}
use Rattle.idx_core.specs.Over.{shifted}
use Rattle.t_types.specs.Tree.{Ty, VarTy, CodeTy, TFile, Below, shift}
use Rattle.t_types.specs.TreeLaws.{type_is_below}
use Rattle.t_types.specs.Fits.{Fits, FitsFile, RegTypes}
use Rattle.t_types.specs.WellFormed.{max_names}
use Rattle.t_types.proofs.FitsLaws.{fits_over}
use Rattle.t_terms.specs.Registers.{with_reg, raised}
use Rattle.t_intern.specs.Nodes.{at}
use Rattle.t_known.specs.Fitted.{Rises, IsSince, FitsBut}
use Rattle.t_rules.specs.Faults.{KnownFits}
use Rattle.t_known.specs.Known.{seen, known, moment_of, now_of, IsEntry, IsSound, IsSet, IsSame, IsRemembered}
use Rattle.t_known.specs.Known.{IsFitted}
use Rattle.t_known.specs.declared.registers.Entry.{Entry}
use Rattle.t_known.specs.declared.registers.Moment.{Moment}
use Rattle.t_known.specs.declared.registers.Registers.{Registers}
use Rattle.t_known.proofs.Rising.{lookup_below, fits_all}

-- by other types, where all that counts is as it was
pub fitted_same : (ts us : List Ty) (k h : Registers) (f : ℕ) (m : Moment) → f < length us → at us f ≡ at ts f →
    known us h ≡ known ts k → h.names ≡ k.names → h.changed.items ≡ k.changed.items → IsFitted ts k f m →
    IsFitted us h f m
fitted_same ts us k h f m there same is names changed x = record {
  there = there;
  set = subst (λ rs. m.set ≤ length rs) (sym changed) x.set;
  names = subst (λ n. m.names ≤ n) (sym names) x.names;
  rises = λ file e. x.rises file (sym same ∙ e);
  fits = λ c file e. subst (λ (g : RegTypes). FitsBut g file h.changed.items m.set) (sym is)
      (subst (λ (rs : List ℕ). FitsBut (known ts k) file rs m.set) (sym changed)
      (x.fits (before c) file (sym same ∙ e)));
}
  where
    before : (m.names ≡ h.names) ⊎ Below 0 (at us f) → (m.names ≡ k.names) ⊎ Below 0 (at ts f)
    before (inl e) = inl (e ∙ names)
    before (inr b) = inr (subst (Below 0) same b)

-- a list with one register more
since_more : (rs : List ℕ) (q i r : ℕ) → IsSince rs i r → IsSince (rs ++ q ∷ []) i r
since_more rs q i r h =
    let long = length-append rs (q ∷ []) in
    (h.0, h.1, omega (arith, long, h.2), get_or_append_left rs (q ∷ []) 0 h.0 h.2 ∙ h.3)

since_last : (rs : List ℕ) (q i : ℕ) → i ≤ length rs → IsSince (rs ++ q ∷ []) i q
since_last rs q i le =
    let long = length-append rs (q ∷ []) in
    (length rs, le, omega (arith, long), get_or-append_seam rs q [] 0)

-- a register that is set
module _ (ts : List Ty) (k h : Registers) (r : ℕ) (e : Entry) (u : Ty) (done : IsSet k h r e)
    (is : known ts h ≡ with_reg (known ts k) r u) where
  still : (q i : ℕ) (t : Ty) → i ≤ length k.changed.items → IsSince k.changed.items i q ⊎ KnownFits (known ts k) q t →
      IsSince (k.changed.items ++ r ∷ []) i q ⊎ KnownFits (with_reg (known ts k) r u) q t
  still q i t le (inl s) = inl (since_more k.changed.items r i q s)
  still q i t le (inr f) = pick (eqb_tells r q)
    where
      pick : ((nat_eq r q ≡ true) × (r ≡ q)) ⊎ ((nat_eq r q ≡ false) × (r ≢ q)) →
          IsSince (k.changed.items ++ r ∷ []) i q ⊎ KnownFits (with_reg (known ts k) r u) q t
      pick (inl x) = inl (subst (IsSince (k.changed.items ++ r ∷ []) i) x.1 (since_last k.changed.items r i le))
      pick (inr x) = inr (f.0, ap (λ b. cond b (Some u) (known ts k q)) x.0 ∙ f.1, f.2)

  pub fitted_set : (f : ℕ) (m : Moment) → IsFitted ts k f m → IsFitted ts h f m
  fitted_set f m x =
      let long = length-append k.changed.items (r ∷ []) in
      record {
        there = x.there;
        set = subst (λ (rs : List ℕ). m.set ≤ length rs) (sym done.2) (omega (arith, x.set, long));
        names = subst (λ n. m.names ≤ n) (sym done.1) x.names;
        rises = x.rises;
        fits = λ c file code q t named.
            subst (λ (g : RegTypes). IsSince h.changed.items m.set q ⊎ KnownFits g q t) (sym is)
            (subst (λ (rs : List ℕ). IsSince rs m.set q ⊎ KnownFits (with_reg (known ts k) r u) q t) (sym done.2)
            (still q m.set t x.set (x.fits (before c) file code q t named)));
      }
    where
      before : (m.names ≡ h.names) ⊎ Below 0 (at ts f) → (m.names ≡ k.names) ⊎ Below 0 (at ts f)
      before (inl c) = inl (c ∙ done.1)
      before (inr b) = inr b

-- one more name: what was known of the types is raised, and a closed file stays
raised_fits : (g : RegTypes) (rs : List ℕ) (i q : ℕ) (t : Ty) → Below 0 t → IsSince rs i q ⊎ KnownFits g q t →
    IsSince rs i q ⊎ KnownFits (raised g) q t
raised_fits g rs i q t below (inl s) = inl s
raised_fits g rs i q t below (inr y) =
    inr (
      shift 1 0 y.0,
      ap (option_map (shift 1 0)) y.1,
      subst (Fits (shift 1 0 y.0)) ((type_is_below 0 t).0 below) (fits_over (shifted VarTy 1) 0 y.0 t y.2),
    )

pub fitted_bound : (ts : List Ty) (k h : Registers) (f : ℕ) (m : Moment) → h.names ≡ k.names + 1 →
    h.changed.items ≡ k.changed.items → known ts h ≡ raised (known ts k) → IsFitted ts k f m → IsFitted ts h f m
fitted_bound ts k h f m names changed is x = record {
  there = x.there;
  set = subst (λ (rs : List ℕ). m.set ≤ length rs) (sym changed) x.set;
  names = omega (arith, x.names, names);
  rises = x.rises;
  fits = λ c file code q t named.
      let b = subst (Below 0) code (closed c) in
      subst (λ (g : RegTypes). IsSince h.changed.items m.set q ⊎ KnownFits g q t) (sym is)
      (subst (λ (rs : List ℕ). IsSince rs m.set q ⊎ KnownFits (raised (known ts k)) q t) (sym changed)
      (raised_fits (known ts k) k.changed.items m.set q t (lookup_below file 0 q t b.1 named)
      (x.fits (inr (closed c)) file code q t named)));
}
  where
    closed : (m.names ≡ h.names) ⊎ Below 0 (at ts f) → Below 0 (at ts f)
    closed (inl e) = absurd (omega (arith, x.names, names, e))
    closed (inr b) = b

-- what is remembered now
pub same_known : (ts : List Ty) (k h : Registers) → IsSame k h → known ts h ≡ known ts k
same_known ts k h s =
    fun_ext (λ r. ap₂ (λ (m : BTreeMap ℕ Entry) (n : ℕ). option_map (seen ts n) (get nat_cmp m r)) s.0 s.1)

module _ (ts : List Ty) (k h : Registers) (f : ℕ) (sound : IsSound ts k) (there : f < length ts)
    (done : IsRemembered k h f)
    (fit : (file : TFile) → at ts f ≡ CodeTy 0 file → Rises file × FitsFile (known ts k) file) where
  now : IsFitted ts k f (now_of k)
  now = record {
    there = there;
    set = omega arith;
    names = omega arith;
    rises = λ file e. (fit file e).0;
    fits = λ c file e q t named. inr (fits_all (known ts k) file (fit file e).1 q t named);
  }

  before : (q : ℕ) (m : Moment) → moment_of h q ≡ Some m → IsFitted ts k q m
  before q m e = pick (eqb_tells f q)
    where
      pick : ((nat_eq f q ≡ true) × (f ≡ q)) ⊎ ((nat_eq f q ≡ false) × (f ≢ q)) → IsFitted ts k q m
      pick (inl x) =
          let here : Some (now_of k) ≡ Some m =
          sym (done.0 q ∙ ap (λ b. cond b (Some (now_of k)) (moment_of k q)) x.0) ∙ e in
          let same : now_of k ≡ m = cc in
          subst (IsFitted ts k q) same (subst (λ p. IsFitted ts k p (now_of k)) x.1 now)
      pick (inr x) = sound.fitted q m (sym (done.0 q ∙ ap (λ b. cond b (Some (now_of k)) (moment_of k q)) x.0) ∙ e)

  pub remembered_sound : IsSound ts h
  remembered_sound =
      let s = done.1 in
      record {
        few = subst (λ n. n ≤ max_names) (sym s.1) sound.few;
        entries = λ r e is. subst (λ n. IsEntry ts n e) (sym s.1)
            (sound.entries r e (ap (λ (m : BTreeMap ℕ Entry). get nat_cmp m r) (sym s.0) ∙ is));
        fitted = λ q m e. let x = before q m e in
            fitted_same ts ts k h q m x.there refl (same_known ts k h s) s.1 (ap (λ v. v.items) s.2) x;
      }
