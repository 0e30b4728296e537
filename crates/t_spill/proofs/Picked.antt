-- The registers of a new frame are those above m that are known and wanted, in the order of the file.
use Rattle.std.proofs.Common.{◌≡◌, ℕ, ◌<◌, ◌≤◌, cond, Bool, true, false, List, [], ◌∷◌, ◌++◌, refl, sym, ap, ap₂, ◌∙◌}
use Rattle.std.proofs.Common.{arith, nat_eq, nat_lt, Option, Some, None, inl, inr}
use Rattle.std.proofs.Math.Logic.{⊎_elim}
use Rattle.std.proofs.lemmas.Bool.{cases_eq, cases_lt, eq-eqb, ne_eqb, lt-ltb, le-ltb}
use Rattle.std.proofs.lemmas.Option.{same_Some}
use Rattle.t_types.specs.Tree.{Ty, TFile, NoRegs, MoreRegs}
use Rattle.t_types.specs.Fits.{lookup}
use Rattle.t_types.specs.Read.{tree, file}
use Rattle.t_types.specs.declared.types.TType.{TType}
use Rattle.t_spill_rules.specs.Spill.{among, keep, numbers, high_part, with_if}
use Rattle.t_spill_laws.proofs.Files.{RisesFrom, Ascends, rises_ascends, CaseOf, case_of}
use Rattle.t_spill_laws.proofs.Live.{Agree, keep_at, ascends_keep, nothing as no_type, rises_less as less}
use Rattle.t_spill_code.specs.Homes.{Lists, Above, Ascending}
use Rattle.t_spill_code.specs.Onto.{front}
use Rattle.t_spill_code.specs.declared.homes.Homes.{Homes}
use Rattle.t_spill.specs.Known.{one}
use Rattle.t_spill.specs.Picking.{wanted, picked_one, picked, Homed}

-- files in order that know the same are the same
none_below : (low : ℕ) (x : TFile) (r : ℕ) → RisesFrom low x → r ≤ low → lookup x r ≡ None
none_below low NoRegs r h le = refl
none_below low (MoreRegs q t x) r h le =
    let lt = h.0 in
    ap (λ b. cond b (Some t) (lookup x r)) (ne_eqb q r (λ e. absurd (omega (arith, lt, le, e))))
    ∙ none_below q x r h.1 (omega (arith, lt, le))

look_first : (r : ℕ) (t : Ty) (x : TFile) → lookup (MoreRegs r t x) r ≡ Some t
look_first r t x = ap (λ b. cond b (Some t) (lookup x r)) (eq-eqb r r refl)

look_past : (r q : ℕ) (t : Ty) (x : TFile) → (r ≡ q → ⊥) → lookup (MoreRegs r t x) q ≡ lookup x q
look_past r q t x ne = ap (λ b. cond b (Some t) (lookup x q)) (ne_eqb r q ne)

pub same_file : (x z : TFile) → Ascends x → Ascends z → ((r : ℕ) → lookup x r ≡ lookup z r) → x ≡ z
same_file NoRegs NoRegs a b e = refl
same_file NoRegs (MoreRegs q u z) a b e = let no : None ≡ Some u = e q ∙ look_first q u z in cc
same_file (MoreRegs r t x) NoRegs a b e = let no : Some t ≡ None = sym (look_first r t x) ∙ e r in cc
same_file (MoreRegs r t x) (MoreRegs q u z) a b e =
    go (λ is. same_file x z (rises_ascends r x a) (rises_ascends q z b) (tails is)) (case_of r q)
  where
    tails : r ≡ q → (p : ℕ) → lookup x p ≡ lookup z p
    tails is p =
        ⊎_elim
        (λ (lt : r < p). sym (look_past r p t x (λ k. absurd (omega (arith, lt, k)))) ∙ e p
        ∙ look_past q p u z (λ k. absurd (omega (arith, lt, k, is))))
        (λ (le : p ≤ r). none_below r x p a le ∙ sym (none_below q z p b (omega (arith, le, is))))
        (cases_lt r p)

    go : (r ≡ q → x ≡ z) → CaseOf r q → MoreRegs r t x ≡ MoreRegs q u z
    go f (inl lt) =
        let no : Some t ≡ None = sym (look_first r t x) ∙ e r
        ∙ none_below r (MoreRegs q u z) r (lt, b) (omega arith) in cc
    go f (inr (inl is)) =
        let same : t ≡ u = same_Some t u (sym (look_first r t x) ∙ e r ∙ ap (lookup (MoreRegs q u z)) is
        ∙ look_first q u z) in
        ap₂ (λ p v. MoreRegs p v x) is same ∙ ap (MoreRegs q u) (f is)
    go f (inr (inr gt)) =
        let no : None ≡ Some u = sym (none_below q (MoreRegs r t x) q (gt, a) (omega arith)) ∙ e q
        ∙ look_first q u z in cc

-- what is above m
if_above : (b : Bool) (q : ℕ) (t : Ty) (x : TFile) (r : ℕ) (o : Option Ty) (c : Bool) → lookup x r ≡ cond c o None →
    (q ≡ r → b ≡ c) → lookup (with_if b q t x) r ≡ cond c (cond (nat_eq q r) (Some t) o) None
if_above b q t x r o c h same =
    ⊎_elim
    (λ (is : q ≡ r).
    ap (λ d. lookup (with_if d q t x) r) (same is) ∙ here c h is
    ∙ ap (λ d. cond c (cond d (Some t) o) None) (sym (eq-eqb q r is)))
    (λ (ne : q ≡ r → ⊥). there b ne ∙ h ∙ ap (λ d. cond c (cond d (Some t) o) None) (sym (ne_eqb q r ne)))
    (cases_eq q r)
  where
    here : (c : Bool) → lookup x r ≡ cond c o None → q ≡ r → lookup (with_if c q t x) r ≡ cond c (Some t) None
    here true h is = ap (λ d. cond d (Some t) (lookup x r)) (eq-eqb q r is)
    here false h is = h

    there : (b : Bool) → (q ≡ r → ⊥) → lookup (with_if b q t x) r ≡ lookup x r
    there true ne = look_past q r t x ne
    there false ne = refl

pub look_high : (m : ℕ) (x : TFile) (r : ℕ) → lookup (high_part m x) r ≡ cond (nat_lt m r) (lookup x r) None
look_high m NoRegs r = no_type (nat_lt m r) None refl
look_high m (MoreRegs q t x) r =
    if_above (nat_lt m q) q t (high_part m x) r (lookup x r) (nat_lt m r) (look_high m x r) (λ e. ap (nat_lt m) e)

rises_high : (m low : ℕ) (x : TFile) → RisesFrom low x → RisesFrom low (high_part m x)
rises_high m low NoRegs h = tt
rises_high m low (MoreRegs r t x) h = go (nat_lt m r) (rises_high m r x h.1)
  where
    go : (b : Bool) → RisesFrom r (high_part m x) → RisesFrom low (with_if b r t (high_part m x))
    go true k = (h.0, k)
    go false k = less low r (high_part m x) h.0 k

ascends_high : (m : ℕ) (x : TFile) → Ascends x → Ascends (high_part m x)
ascends_high m NoRegs h = tt
ascends_high m (MoreRegs r t x) h = go (nat_lt m r) (rises_high m r x h)
  where
    go : (b : Bool) → RisesFrom r (high_part m x) → Ascends (with_if b r t (high_part m x))
    go true k = k
    go false k = rises_ascends r (high_part m x) k

-- what is picked
look_one : (q : ℕ) (o : Option Ty) (x : TFile) (r : ℕ) → (q ≡ r → ⊥) → lookup (picked_one q o x) r ≡ lookup x r
look_one q None x r ne = refl
look_one q (Some t) x r ne = look_past q r t x ne

look_same : (q : ℕ) (o : Option Ty) (x : TFile) (r : ℕ) → q ≡ r → (o ≡ None → lookup x r ≡ None) →
    lookup (picked_one q o x) r ≡ o
look_same q None x r is h = h refl
look_same q (Some t) x r is h = ap (λ b. cond b (Some t) (lookup x r)) (eq-eqb q r is)

module _ (m : ℕ) (ws : List ℕ) (x : TFile) where
  other_picked : (q r : ℕ) (z : TFile) (b : Bool) → (q ≡ r → ⊥) →
      lookup (cond b (picked_one q (lookup x q) z) z) r ≡ lookup z r
  other_picked q r z true ne = look_one q (lookup x q) z r ne
  other_picked q r z false ne = refl

  none_here : (q r : ℕ) (z : TFile) (b : Bool) → q ≡ r → lookup x r ≡ None → lookup z r ≡ None →
      lookup (cond b (picked_one q (lookup x q) z) z) r ≡ None
  none_here q r z true is h k = ap (λ o. lookup (picked_one q o z) r) (ap (lookup x) is ∙ h) ∙ k
  none_here q r z false is h k = k

  none_picked : (qs : List ℕ) (r : ℕ) → wanted m ws r ≡ false → lookup (picked m ws x qs) r ≡ None
  none_picked [] r h = refl
  none_picked (q ∷ qs) r h =
      let rest = none_picked qs r h in
      ⊎_elim
      (λ (is : q ≡ r). ap (λ b. lookup (cond b (picked_one q (lookup x q) (picked m ws x qs)) (picked m ws x qs)) r)
      (ap (wanted m ws) is ∙ h) ∙ rest)
      (λ (ne : q ≡ r → ⊥). other_picked q r (picked m ws x qs) (wanted m ws q) ne ∙ rest)
      (cases_eq q r)

  unknown_picked : (qs : List ℕ) (r : ℕ) → lookup x r ≡ None → lookup (picked m ws x qs) r ≡ None
  unknown_picked [] r h = refl
  unknown_picked (q ∷ qs) r h =
      let rest = unknown_picked qs r h in
      ⊎_elim
      (λ (is : q ≡ r). none_here q r (picked m ws x qs) (wanted m ws q) is h rest)
      (λ (ne : q ≡ r → ⊥). other_picked q r (picked m ws x qs) (wanted m ws q) ne ∙ rest)
      (cases_eq q r)

  all_picked : (qs : List ℕ) (r : ℕ) → wanted m ws r ≡ true → among r qs ≡ true → lookup (picked m ws x qs) r
      ≡ lookup x r
  all_picked [] r w h = cc
  all_picked (q ∷ qs) r w h =
      ⊎_elim
      (λ (is : q ≡ r).
      ap (λ b. lookup (cond b (picked_one q (lookup x q) (picked m ws x qs)) (picked m ws x qs)) r)
      (ap (wanted m ws) is ∙ w)
      ∙ look_same q (lookup x q) (picked m ws x qs) r is
      (λ none. unknown_picked qs r (sym (ap (lookup x) is) ∙ none)) ∙ ap (lookup x) is)
      (λ (ne : q ≡ r → ⊥). other_picked q r (picked m ws x qs) (wanted m ws q) ne
      ∙ all_picked qs r w (sym (ap (λ b. cond b true (among r qs)) (ne_eqb q r ne)) ∙ h))
      (cases_eq q r)

  rises_one : (low q : ℕ) (o : Option Ty) (z : TFile) → low < q → RisesFrom q z → RisesFrom low (picked_one q o z)
  rises_one low q None z lt h = less low q z lt h
  rises_one low q (Some t) z lt h = (lt, h)

  rises_picked : (low : ℕ) (qs : List ℕ) → Above low qs → RisesFrom low (picked m ws x qs)
  rises_picked low [] h = tt
  rises_picked low (q ∷ qs) h = go (wanted m ws q) (rises_picked q qs h.1)
    where
      go : (b : Bool) → RisesFrom q (picked m ws x qs) →
          RisesFrom low (cond b (picked_one q (lookup x q) (picked m ws x qs)) (picked m ws x qs))
      go true k = rises_one low q (lookup x q) (picked m ws x qs) h.0 k
      go false k = less low q (picked m ws x qs) h.0 k

  ascends_one : (q : ℕ) (o : Option Ty) (z : TFile) → RisesFrom q z → Ascends (picked_one q o z)
  ascends_one q None z h = rises_ascends q z h
  ascends_one q (Some t) z h = h

  ascends_picked : (qs : List ℕ) → Ascending qs → Ascends (picked m ws x qs)
  ascends_picked [] h = tt
  ascends_picked (q ∷ qs) h = go (wanted m ws q) (rises_picked q qs h)
    where
      go : (b : Bool) → RisesFrom q (picked m ws x qs) →
          Ascends (cond b (picked_one q (lookup x q) (picked m ws x qs)) (picked m ws x qs))
      go true k = ascends_one q (lookup x q) (picked m ws x qs) k
      go false k = rises_ascends q (picked m ws x qs) k

-- the frame of what a file keeps
pub picked_is : (m : ℕ) (ws : List ℕ) (y x : TFile) (qs : List ℕ) (hs : Homes) → Ascends x → Agree ws x y →
    Homed m ws x hs → Lists hs qs → picked m ws y qs ≡ high_part m (keep ws x)
picked_is m ws y x qs hs rises agrees homed lists =
    same_file (picked m ws y qs) (high_part m (keep ws x)) (ascends_picked m ws y qs lists.0)
    (ascends_high m (keep ws x) (ascends_keep ws x rises))
    (λ r. at r ∙ sym (look_high m (keep ws x) r ∙ ap (λ o. cond (nat_lt m r) o None) (keep_at ws x r)))
  where
    known : (r : ℕ) (o : Option Ty) → m < r → nat_lt m r ≡ true → among r ws ≡ true → lookup x r ≡ o →
        lookup (picked m ws y qs) r ≡ lookup x r
    known r None lt above is e =
        unknown_picked m ws y qs r (agrees r is ∙ e) ∙ sym e
    known r (Some t) lt above is e =
        all_picked m ws y qs r (ap (λ b. cond b (among r ws) false) above ∙ is)
        (lists.1 r ∙ homed r t lt is e) ∙ agrees r is

    high : (r : ℕ) (b : Bool) → m < r → nat_lt m r ≡ true → among r ws ≡ b →
        lookup (picked m ws y qs) r ≡ cond b (lookup x r) None
    high r true lt above is = known r (lookup x r) lt above is refl
    high r false lt above is = none_picked m ws y qs r (ap (λ b. cond b (among r ws) false) above ∙ is)

    at : (r : ℕ) → lookup (picked m ws y qs) r ≡ cond (nat_lt m r) (cond (among r ws) (lookup x r) None) None
    at r =
        ⊎_elim
        (λ (lt : m < r).
        let above = lt-ltb m r lt in
        high r (among r ws) lt above refl ∙ ap (λ b. cond b (cond (among r ws) (lookup x r) None) None) (sym above))
        (λ (le : r ≤ m).
        let below = le-ltb m r le in
        none_picked m ws y qs r (ap (λ b. cond b (among r ws) false) below)
        ∙ ap (λ b. cond b (cond (among r ws) (lookup x r) None) None) (sym below))
        (cases_lt m r)

-- a register that a file knows is one of its numbers
pub listed : (x : TFile) (r : ℕ) (t : Ty) → lookup x r ≡ Some t → among r (numbers x) ≡ true
listed NoRegs r t e = cc
listed (MoreRegs q u x) r t e = go (λ k. listed x r t k) (nat_eq q r) e
  where
    go : (lookup x r ≡ Some t → among r (numbers x) ≡ true) → (b : Bool) → cond b (Some u) (lookup x r) ≡ Some t →
        cond b true (among r (numbers x)) ≡ true
    go f true k = refl
    go f false k = f k

pub high_listed : (m : ℕ) (x : TFile) (r : ℕ) (t : Ty) → m < r → lookup x r ≡ Some t →
    among r (numbers (high_part m x)) ≡ true
high_listed m x r t lt e =
    listed (high_part m x) r t (look_high m x r ∙ ap (λ b. cond b (lookup x r) None) (lt-ltb m r lt) ∙ e)

-- a register put in front, as it is shown
front_both : (xs ys : List (ℕ × TType)) (rest : TFile) → front (xs ++ ys) rest ≡ front xs (front ys rest)
front_both [] ys rest = refl
front_both (x ∷ xs) ys rest = ap (MoreRegs x.0 (tree x.1)) (front_both xs ys rest)

abbrev joined : TFile → TFile → TFile
joined NoRegs z = z
joined (MoreRegs q u x) z = MoreRegs q u z

front_one : (ys : List (ℕ × TType)) (r : ℕ) (o : Option Ty) (rest : TFile) → file ys ≡ one r o →
    front ys rest ≡ picked_one r o rest
front_one [] r None rest e = refl
front_one [] r (Some t) rest e = cc
front_one (y ∷ ys) r None rest e = cc
front_one (y ∷ []) r (Some t) rest e = ap (λ x. joined x rest) e
front_one (y ∷ (z ∷ ys)) r (Some t) rest e = cc

pub put_shown : (old new shown : List (ℕ × TType)) (r : ℕ) (o : Option Ty) (rest : TFile) → new ≡ old ++ shown →
    file shown ≡ one r o → front new rest ≡ front old (picked_one r o rest)
put_shown old new shown r o rest e is =
    ap (λ (xs : List (ℕ × TType)). front xs rest) e ∙ front_both old shown rest ∙ ap (front old)
    (front_one shown r o rest is)
