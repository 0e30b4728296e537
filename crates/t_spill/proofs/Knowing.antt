-- What is known along a block: a register set, a type name bound, and what an instruction needs of it.
use Rattle.std.proofs.Common.{◌≡◌, ℕ, ◌+◌, ◌-◌, ◌<◌, ◌≤◌, cond, Option, Some, None, List, [], ◌∷◌, drop, length}
use Rattle.std.proofs.Common.{get_or, refl, sym, ap, ap₂, ◌∙◌, subst, arith}
use Rattle.std.specs.Prelude.{option_map, unwrap_or}
use Rattle.std.specs.BTreeMap.{BTreeMap, get, Updates}
use Rattle.std.specs.Ordering.{nat_cmp}
use Rattle.std.proofs.Math.Logic.{⊎_elim}
use Rattle.std.proofs.lemmas.Bool.{cases_eq, eq-eqb, ne_eqb}
use Rattle.idx_core.specs.Over.{shifted, IsWord, ShiftFitsAt}
use Rattle.idx_core.specs.Laws.{shift_zero_law, shift_add_law, shifted_ge}
use Rattle.t_types.specs.Tree.{Ty, IntTy, VarTy, CodeTy, ExistsTy, TupleTy, TFile, NoRegs, MoreRegs, TFields}
use Rattle.t_types.specs.Tree.{NoFields, MoreFields, over, over_file, over_fields, each, each_file, each_fields}
use Rattle.t_types.specs.Tree.{shift, shift_file}
use Rattle.t_types.specs.TreeLaws.{types_part, types_over}
use Rattle.t_types.specs.Read.{tree, file}
use Rattle.t_types.specs.declared.types.TType.{TType}
use Rattle.std.proofs.lemmas.List.{drop_more}
use Rattle.t_types.specs.Fits.{lookup}
use Rattle.t_types.specs.WellFormed.{max_names, max_number, WellFormed, RegsAbove, WellFormedFile, WellFormedFields}
use Rattle.t_terms.specs.Tree.{Reg, Int, Label, Data, TBase, TValue, Plain, Pack, TInstr, Arith, Bnz, Ld, Mov}
use Rattle.t_terms.specs.Tree.{St, Unpack, TEnd, Jmp, Halt, TProg, names_after}
use Rattle.t_spill_rules.specs.Spill.{or_int, ins, base_type, applied_type, type_of, field_type, filled_type}
use Rattle.t_spill_rules.specs.Spill.{hidden_type}
use Rattle.t_spill_rules.specs.Spill.{target_file, target, end_target, next}
use Rattle.t_spill_laws.proofs.Files.{lookup_ins, raised_lookup, look_same, look_other}
use Rattle.t_spill_code.proofs.Gathered.{other_at}
use Rattle.t_spill.specs.Known.{seen, Knows, FitsNow, MayShow, one, alone, base_subject, value_subject, subject}
use Rattle.t_spill.specs.Known.{end_subject, given}
use Rattle.t_spill.specs.Ready.{Enough, Applies, InstrApplies, ReadyInstr, ReadyEnd, InstrTypable}
use Rattle.t_spill.specs.declared.known.Entry.{Entry}
use Rattle.t_spill.specs.declared.known.Known.{Known}

-- a type that is given now
seen_now : (e : Entry) → seen e.names e ≡ tree e.ty
seen_now e = let z : e.names - e.names ≡ 0 = omega arith in ap (λ k. shift k 0 (tree e.ty)) z
    ∙ shift_zero_law types_over 0 (tree e.ty)

-- and under one more name
seen_more : (n : ℕ) (e : Entry) → e.names ≤ n → seen (n + 1) e ≡ shift 1 0 (seen n e)
seen_more n e le =
    let by : n - e.names + 1 ≡ n + 1 - e.names = omega arith in
    sym (shift_add_law types_part types_over (n - e.names) 1 0 (tree e.ty) ∙ ap (λ k. shift k 0 (tree e.ty)) by)

abbrev KnownAt : Known → TFile → ℕ → Type 0
KnownAt k x r = option_map (seen k.names) (get nat_cmp k.entries r) ≡ lookup x r

names_same : (e f : Entry) → Some e ≡ Some f → e.names ≡ f.names
names_same e f is = ap (λ (o : Option Entry). unwrap_or (option_map (λ (y : Entry). y.names) o) 0) is

pub knows_set : (n : ℕ) (k h : Known) (x : TFile) (r : ℕ) (e : Entry) → h.names ≡ k.names → e.names ≡ k.names →
    Updates nat_cmp k.entries h.entries r (Some e) → Knows n k x → Knows n h (ins r (tree e.ty) x)
knows_set n k h x r e same now u s = (omega (arith, s.0, same), all, under)
  where
    given_now : seen h.names e ≡ tree e.ty
    given_now = ap (λ m. seen m e) (same ∙ sym now) ∙ seen_now e

    here : KnownAt h (ins r (tree e.ty) x) r
    here =
        ap (option_map (seen h.names)) u.1 ∙ ap (λ t. Some t) given_now
        ∙ sym (ap (λ g. g r) (lookup_ins r (tree e.ty) x) ∙ look_same (lookup x) r (tree e.ty))

    elsewhere : (q : ℕ) → (r ≡ q → ⊥) → KnownAt h (ins r (tree e.ty) x) q
    elsewhere q ne =
        ap (option_map (seen h.names)) (u.2 q (other_at r q ne))
        ∙ ap (λ m. option_map (seen m) (get nat_cmp k.entries q)) same
        ∙ s.1 q
        ∙ sym (ap (λ g. g q) (lookup_ins r (tree e.ty) x) ∙ look_other (lookup x) r q (tree e.ty) (λ is. ne (sym is)))

    all : (q : ℕ) → KnownAt h (ins r (tree e.ty) x) q
    all q =
        ⊎_elim
        (λ (is : r ≡ q). subst (KnownAt h (ins r (tree e.ty) x)) is here)
        (λ (ne : r ≡ q → ⊥). elsewhere q ne)
        (cases_eq r q)

    under : (q : ℕ) (f : Entry) → get nat_cmp h.entries q ≡ Some f → f.names ≤ h.names
    under q f is =
        ⊎_elim
        (λ (at : r ≡ q).
        let eq = names_same e f (sym u.1 ∙ ap (get nat_cmp h.entries) at ∙ is) in omega (arith, eq, now, same))
        (λ (ne : r ≡ q → ⊥). let old = s.2 q f (sym (u.2 q (other_at r q ne)) ∙ is) in omega (arith, old, same))
        (cases_eq r q)

-- a register in front of those that are known
pub knows_front : (n : ℕ) (k : Known) (xs : List (ℕ × TType)) (i j : ℕ) (y : ℕ × TType) (t : Ty) → i < length xs →
    i + 1 ≡ j → y ≡ get_or xs i y → t ≡ tree y.1 → Knows n k (ins y.0 t (file (drop j xs))) →
    Knows n k (file (drop i xs))
knows_front n k xs i j y t lt one is same s =
    let x = file (drop j xs) in
    let front : drop i xs ≡ y ∷ drop j xs =
    drop_more xs i y lt ∙ ap₂ (λ (z : ℕ × TType) m. z ∷ drop m xs) (sym is) one in
    let more : Knows n k (MoreRegs y.0 t x) = (s.0, λ q. s.1 q ∙ ap (λ g. g q) (lookup_ins y.0 t x), s.2) in
    subst (λ (zs : List (ℕ × TType)). Knows n k (file zs)) (sym front) (subst (λ u. Knows n k
    (MoreRegs y.0 u x)) same more)

pub knows_bound : (n : ℕ) (k h : Known) (x : TFile) → h.names ≡ k.names + 1 → h.entries ≡ k.entries → Knows n k x →
    Knows (n + 1) h (shift_file 1 0 x)
knows_bound n k h x names same s = (omega (arith, s.0, names), all, under)
  where
    go : (r : ℕ) (o : Option Entry) → get nat_cmp k.entries r ≡ o →
        option_map (seen (k.names + 1)) o ≡ option_map (shift 1 0) (option_map (seen k.names) o)
    go r None e = refl
    go r (Some y) e = ap Some (seen_more k.names y (s.2 r y e))

    all : (r : ℕ) → option_map (seen h.names) (get nat_cmp h.entries r) ≡ lookup (shift_file 1 0 x) r
    all r =
        ap₂ (λ m (es : BTreeMap ℕ Entry). option_map (seen m) (get nat_cmp es r)) names same
        ∙ go r (get nat_cmp k.entries r) refl
        ∙ ap (option_map (shift 1 0)) (s.1 r)
        ∙ ap (λ g. g r) (raised_lookup x)

    under : (r : ℕ) (e : Entry) → get nat_cmp h.entries r ≡ Some e → e.names ≤ h.names
    under r e is = let old = s.2 r e (ap (λ (es : BTreeMap ℕ Entry). get nat_cmp es r) (sym same)
        ∙ is) in omega (arith, old, names)

-- sums of the shift of a type that is well formed afterwards
mutual
  unshift : (d c n : ℕ) (t : Ty) → n ≤ max_names → c ≤ n → WellFormed n (over (shifted VarTy d) c t) →
      each (ShiftFitsAt d) IsWord c t
  unshift d c n IntTy few le h = tt
  unshift d c n (VarTy i) few le h = λ ge.
      let lt : i + d < n = subst (WellFormed n) (shifted_ge VarTy d c i ge) h in omega arith
  unshift d c n (CodeTy k x) few le h =
      let few2 = h.0 in (omega arith, unshift_file d (c + k) 0 (n + k) x few2 (omega arith) h.1)
  unshift d c n (ExistsTy t) few le h =
      let few2 = h.0 in (omega arith, unshift d (c + 1) (n + 1) t few2 (omega arith) h.1)
  unshift d c n (TupleTy fs) few le h = unshift_fields d c n fs few le h

  unshift_file : (d c low n : ℕ) (x : TFile) → n ≤ max_names → c ≤ n →
      RegsAbove low n (over_file (shifted VarTy d) c x) → each_file (ShiftFitsAt d) IsWord c x
  unshift_file d c low n NoRegs few le h = tt
  unshift_file d c low n (MoreRegs r t x) few le h = (unshift d c n t few le h.2, unshift_file d c r n x few le h.3)

  unshift_fields : (d c n : ℕ) (fs : TFields) → n ≤ max_names → c ≤ n →
      WellFormedFields n (over_fields (shifted VarTy d) c fs) → each_fields (ShiftFitsAt d) IsWord c fs
  unshift_fields d c n NoFields few le h = tt
  unshift_fields d c n (MoreFields t flag fs) few le h =
      (unshift d c n t few le h.0, unshift_fields d c n fs few le h.1)

-- a register of a file that is well formed
abbrev OneFormed : ℕ → ℕ → Option Ty → Type 0
OneFormed n r None = Unit {0}
OneFormed n r (Some t) = (0 < r) × (r ≤ max_number) × WellFormed n t

found_formed : (n low : ℕ) (x : TFile) (r : ℕ) → RegsAbove low n x → OneFormed n r (lookup x r)
found_formed n low NoRegs r h = tt
found_formed n low (MoreRegs q t x) r h =
    ⊎_elim
    (λ (e : q ≡ r).
    let lt = h.0 in
    let few = h.1 in
    let here : OneFormed n r (Some t) = (omega (arith, lt, e), omega (arith, few, e), h.2) in
    subst (λ b. OneFormed n r (cond b (Some t) (lookup x r))) (sym (eq-eqb q r e)) here)
    (λ (ne : q ≡ r → ⊥). subst (λ b. OneFormed n r (cond b (Some t) (lookup x r))) (sym (ne_eqb q r ne))
    (found_formed n q x r h.3))
    (cases_eq q r)

pub fits_now : (n : ℕ) (k : Known) (x : TFile) (r : ℕ) (e : Entry) → Knows n k x → n ≤ max_names →
    WellFormedFile n x → get nat_cmp k.entries r ≡ Some e → FitsNow k e
fits_now n k x r e s few formed is =
    let here : lookup x r ≡ Some (seen k.names e) = sym (s.1 r) ∙ ap (option_map (seen k.names)) is in
    unshift (k.names - e.names) 0 n (tree e.ty) few (omega arith) (subst (OneFormed n r) here
    (found_formed n 0 x r formed)).2

-- what an instruction needs of a file is the same of that register alone
one_same : (r : ℕ) (o : Option Ty) → lookup (one r o) r ≡ o
one_same r None = refl
one_same r (Some t) = ap (λ b. cond b (Some t) None) (eq-eqb r r refl)

one_formed : (n r : ℕ) (o : Option Ty) → OneFormed n r o → WellFormedFile n (one r o)
one_formed n r None h = tt
one_formed n r (Some t) h = (h.0, h.1, h.2, tt)

alone_formed : (n : ℕ) (o : Option ℕ) (x : TFile) → WellFormedFile n x → WellFormedFile n (alone o x)
alone_formed n None x h = tt
alone_formed n (Some r) x h = one_formed n r (lookup x r) (found_formed n 0 x r h)

module _ (P : TProg) (x : TFile) where
  base_alone : (b : TBase) → base_type P (alone (base_subject b) x) b ≡ base_type P x b
  base_alone (Reg r) = ap or_int (one_same r (lookup x r))
  base_alone (Int i) = refl
  base_alone (Label l) = refl
  base_alone (Data d) = refl

  type_alone : (v : TValue) → type_of P (alone (value_subject v) x) v ≡ type_of P x v
  type_alone (Plain b []) = base_alone b
  type_alone (Plain b (u ∷ us)) = ap (λ t. applied_type t (u ∷ us)) (base_alone b)
  type_alone (Pack t v s) = refl

  pub given_alone : (i : TInstr) → given P (alone (subject i) x) i ≡ given P x i
  given_alone (Ld rd rs i) = ap (λ o. field_type (or_int o) i) (one_same rs (lookup x rs))
  given_alone (Mov rd v) = type_alone v
  given_alone (St rd i rs) = ap (λ o. filled_type (or_int o) i) (one_same rd (lookup x rd))
  given_alone (Unpack rd v) = ap hidden_type (type_alone v)
  given_alone _ = refl

  pub target_alone : (i : TInstr) → target P (alone (subject i) x) i ≡ target P x i
  target_alone (Bnz r v) = ap target_file (type_alone v)
  target_alone _ = refl

  pub end_target_alone : (e : TEnd) → end_target P (alone (end_subject e) x) e ≡ end_target P x e
  end_target_alone (Jmp v) = ap target_file (type_alone v)
  end_target_alone Halt = refl

  applies_alone : (v : TValue) → Applies P x v → Applies P (alone (value_subject v) x) v
  applies_alone (Plain b []) h = tt
  applies_alone (Plain b (u ∷ us)) h = subst (λ t. Enough t (u ∷ us)) (sym (base_alone b)) h
  applies_alone (Pack t v s) h = tt

  -- no register has a type, so types go to none
  none_applies : (v : TValue) → Applies P x v → Applies P NoRegs v
  none_applies (Plain b []) h = tt
  none_applies (Plain (Reg r) (u ∷ us)) h = tt
  none_applies (Plain (Int i) (u ∷ us)) h = h
  none_applies (Plain (Label l) (u ∷ us)) h = h
  none_applies (Plain (Data d) (u ∷ us)) h = h
  none_applies (Pack t v s) h = tt

  instr_applies_alone : (i : TInstr) → InstrApplies P x i → InstrApplies P (alone (subject i) x) i
  instr_applies_alone (Arith op rd rs v) h = none_applies v h
  instr_applies_alone (Bnz r v) h = applies_alone v h
  instr_applies_alone (Mov rd v) h = applies_alone v h
  instr_applies_alone (Unpack rd v) h = applies_alone v h
  instr_applies_alone _ h = tt

  pub ready_alone : (n : ℕ) (i : TInstr) → ReadyInstr P n x i → ReadyInstr P n (alone (subject i) x) i
  ready_alone n i h = (h.0, h.1, alone_formed n (subject i) x h.2, h.3, instr_applies_alone i h.4)

  pub end_ready_alone : (n : ℕ) (e : TEnd) → ReadyEnd P n x e → ReadyEnd P n (alone (end_subject e) x) e
  end_ready_alone n (Jmp v) h = (h.0, alone_formed n (value_subject v) x h.1, h.2, applies_alone v h.3)
  end_ready_alone n Halt h = (h.0, tt)

-- an instruction that gives a register a type, under as many names as before, and under one more
abbrev pub Sets : TProg → TInstr → ℕ → Type 0
Sets P i rd = ((x : TFile) → next P x i ≡ ins rd (given P x i) x) × ((n : ℕ) → names_after i n ≡ n)

abbrev pub SetsUnder : TProg → TInstr → ℕ → Type 0
SetsUnder P i rd = ((x : TFile) → next P x i ≡ ins rd (given P x i) (shift_file 1 0 x)) × ((n : ℕ) →
    names_after i n ≡ n + 1)

abbrev pub Advances : TProg → Known → Known → TFile → TInstr → Type 0
Advances P k h y i = (n : ℕ) (x : TFile) → Knows n k x → y ≡ alone (subject i) x →
    Knows (names_after i n) h (next P x i)

given_read : (P : TProg) (x y : TFile) (i : TInstr) (t : Ty) → t ≡ given P y i → y ≡ alone (subject i) x →
    t ≡ given P x i
given_read P x y i t e is = e ∙ ap (λ z. given P z i) is ∙ given_alone P x i

pub moved : (P : TProg) (k h : Known) (y : TFile) (i : TInstr) (rd : ℕ) (t : Ty) → Sets P i rd → t ≡ given P y i →
    ((n : ℕ) (x : TFile) → Knows n k x → Knows n h (ins rd t x)) → Advances P k h y i
moved P k h y i rd t sets e f n x s is =
    subst (λ m. Knows m h (next P x i)) (sym (sets.1 n))
    (subst (Knows n h) (ap (λ u. ins rd u x) (given_read P x y i t e is) ∙ sym (sets.0 x)) (f n x s))

pub moved_under : (P : TProg) (k b h : Known) (y : TFile) (i : TInstr) (rd : ℕ) (t : Ty) → SetsUnder P i rd →
    t ≡ given P y i → ((n : ℕ) (x : TFile) → Knows n k x → Knows (n + 1) b (shift_file 1 0 x)) →
    ((n : ℕ) (x : TFile) → Knows n b x → Knows n h (ins rd t x)) → Advances P k h y i
moved_under P k b h y i rd t sets e g f n x s is =
    subst (λ m. Knows m h (next P x i)) (sym (sets.1 n))
    (subst (Knows (n + 1) h) (ap (λ u. ins rd u (shift_file 1 0 x)) (given_read P x y i t e is)
    ∙ sym (sets.0 x)) (f (n + 1) (shift_file 1 0 x) (g n x s)))

-- along a block that is ready
pub may_show : (P : TProg) (n : ℕ) (x : TFile) (i : TInstr) → ReadyInstr P n x i → MayShow n (subject i) x
may_show P n x i h = go (subject i)
  where
    go : (o : Option ℕ) → MayShow n o x
    go None = tt
    go (Some r) = (h.0, h.2)

pub end_may_show : (P : TProg) (n : ℕ) (x : TFile) (e : TEnd) → ReadyEnd P n x e → MayShow n (end_subject e) x
end_may_show P n x Halt h = tt
end_may_show P n x (Jmp v) h = go (value_subject v)
  where
    go : (o : Option ℕ) → MayShow n o x
    go None = tt
    go (Some r) = (h.0, h.1)

pub typable_read : (P : TProg) (n : ℕ) (x y : TFile) (i : TInstr) → y ≡ alone (subject i) x → ReadyInstr P n x i →
    InstrTypable P y i
typable_read P n x y i is h = (n, subst (λ z. ReadyInstr P n z i) (sym is) (ready_alone P x n i h))

pub names_room : (i : TInstr) (m n : ℕ) → m ≤ n → names_after i n ≤ max_names → names_after i m ≤ max_names
names_room (Unpack rd v) m n le h = omega (arith, le, h)
names_room _ m n le h = omega (arith, le, h)
