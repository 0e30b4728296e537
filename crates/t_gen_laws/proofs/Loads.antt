-- What code generation puts before an instruction brings its operands.
use Rattle.std.proofs.Common.{◌≡◌, ◌⊎◌, ◌<◌, ◌≤◌, ℕ, zero, suc, ◌+◌, List, [], ◌∷◌, ◌++◌, length, map, Some, refl, sym}
use Rattle.std.proofs.Common.{ap, ◌∙◌, subst, arith, ⊎_elim, inl, inr, length-append}
use Rattle.std.specs.Prelude.{◌≢◌, ◌==◌, Bool, true, false, cond, not, ◌&&◌, ◌||◌}
use Rattle.std.proofs.lemmas.Bool.{eq-eqb, ne_eqb, eqb-true, cases_eq, cond_both, or_cases, or_parts, or_left, or_right}
use Rattle.std.proofs.lemmas.Bool.{and_parts, and_cases, true≢false as true_false, not-false as true_from_not}
use Rattle.a_terms.specs.Tree.{ATys, AVal, Var, Num, Lab, Data, Apply, Pack, ATm}
use Rattle.t_types.specs.Tree.{Ty}
use Rattle.t_terms.specs.Tree as T
use Rattle.t_terms.specs.Tree.{TValue, TSeq, Then, Ends}
use Rattle.t_terms.specs.Registers.{with_reg}
use Rattle.t_rules.specs.Erase.{erase_value}
use Rattle.t_gen_rules.specs.Gen.{tys, reg, applied_to, place, inside, small, boxed, unnest, stands, move, home, settle}
use Rattle.t_gen_rules.specs.Gen.{uses, uses_any, used, free, owner, reads, later, owns, saved, above_saved, instead}
use Rattle.t_gen_rules.specs.Gen.{places_saved, call_code}
use Rattle.t_gen_laws.specs.Rules.{Held, InRegister, IsPlain, Reads, Move, before, IsPart, IsPartOf, Brings, packages}
use Rattle.t_gen_laws.specs.Rules.{all_packages, InOrder}
use Rattle.t_gen_laws.proofs.Free.{free_apart}
use Rattle.t_gen_laws.proofs.Words.{get_same, get_other}
use Rattle.t_gen_laws.proofs.Decls.{applied_base}

-- each variable that u tells is in its register, which is below b
abbrev pub Known : Held → List ℕ → ℕ → (ℕ → Bool) → Type 0
Known c m b u = (n : ℕ) → u n ≡ true → (c (place m n) ≡ Some (Var n)) × (place m n < b)

pub known_kept : (c d : Held) (m : List ℕ) (b : ℕ) (u : ℕ → Bool) → ((q : ℕ) → q < b → d q ≡ c q) → Known c m b u →
    Known d m b u
known_kept c d m b u k a = λ n y. let x = a n y in (k (place m n) x.1 ∙ x.0, x.1)

pub known_fewer : (c : Held) (m : List ℕ) (b : ℕ) (u v : ℕ → Bool) → ((n : ℕ) → v n ≡ true → u n ≡ true) →
    Known c m b u → Known c m b v
known_fewer c m b u v k a = λ n y. a n (k n y)

pub known_above : (c : Held) (m : List ℕ) (b d : ℕ) (u : ℕ → Bool) → b ≤ d → Known c m b u → Known c m d u
known_above c m b d u le a = λ n y. let x = a n y in (x.0, omega (arith, x.1, le))

-- moves one after the other
pub brings_on : (ws : List AVal) (ms ns : List Move) (c d e : Held) → Brings ws c ms d → Brings ws d ns e →
    Brings ws c (ms ++ ns) e
brings_on ws [] ns c d e a b = subst (λ z. Brings ws z ns e) (sym a) b
brings_on ws (x ∷ ms) ns c d e a b = (a.0, a.1, a.2, brings_on ws ms ns (with_reg c x.to a.0) d e a.3 b)

-- a value is a part of itself
pub whole_part : (v : AVal) → IsPart v v
whole_part (Var n) = refl
whole_part (Num i) = refl
whole_part (Lab l) = refl
whole_part (Data n) = refl
whole_part (Apply v ts) = inl refl
whole_part (Pack h v s) = inl refl

-- each part of v is one of the operands
abbrev pub AllOf : AVal → List AVal → Type 0
AllOf v ws = (x : AVal) → IsPart x v → IsPartOf x ws

-- and so is each part of these
abbrev pub EachOf : List AVal → List AVal → Type 0
EachOf vs ws = (x : AVal) → IsPartOf x vs → IsPartOf x ws

pub before_on : (ms ns : List Move) (rest : TSeq) → before (ms ++ ns) rest ≡ before ms (before ns rest)
before_on [] ns rest = refl
before_on (x ∷ ms) ns rest = ap (λ z. Then (T.Mov x.to x.value) z) (before_on ms ns rest)

-- a register that holds a value
pub in_register : (c : Held) (r : ℕ) (v : AVal) → c r ≡ Some v → Reads c v (reg r)
in_register c r (Var n) e = (r, refl, e)
in_register c r (Num i) e = inl (r, refl, e)
in_register c r (Lab l) e = inl (r, refl, e)
in_register c r (Data n) e = inl (r, refl, e)
in_register c r (Apply v ts) e = inl (r, refl, e)
in_register c r (Pack h v s) e = inl (r, refl, e)

same_reg : {r q : ℕ} → reg r ≡ reg q → r ≡ q
same_reg e = cc

pub base_reg : {r q : ℕ} → T.Reg r ≡ T.Reg q → r ≡ q
base_reg e = cc

-- what names only registers that keep what they hold reads as before
pub reads_same : (c d : Held) (v : AVal) (y : TValue) → ((q : ℕ) → erase_value y ≡ T.Reg q → d q ≡ c q) → Reads c v y →
    Reads d v y
reads_same c d v y same x = go v y same x
  where
    register : (v : AVal) (y : TValue) → ((q : ℕ) → erase_value y ≡ T.Reg q → d q ≡ c q) → InRegister c v y →
        InRegister d v y
    register v y k x = (x.0, x.1, k x.0 (ap erase_value x.1) ∙ x.2)

    go : (v : AVal) (y : TValue) → ((q : ℕ) → erase_value y ≡ T.Reg q → d q ≡ c q) → Reads c v y → Reads d v y
    go (Var n) y k x = register (Var n) y k x
    go (Num i) y k (inl x) = inl (register (Num i) y k x)
    go (Num i) y k (inr x) = inr x
    go (Lab l) y k (inl x) = inl (register (Lab l) y k x)
    go (Lab l) y k (inr x) = inr x
    go (Data n) y k (inl x) = inl (register (Data n) y k x)
    go (Data n) y k (inr x) = inr x
    go (Apply v ts) y k (inl x) = inl (register (Apply v ts) y k x)
    go (Apply v ts) y k (inr (z, x, e)) =
        inr (z, go v z (λ q s. k q (ap erase_value e ∙ applied_base z (tys ts) ∙ s)) x, e)
    go (Pack h v b) y k (inl x) = inl (register (Pack h v b) y k x)
    go (Pack h v b) y k (inr (z, x, plain, e)) = inr (z, go v z (λ q s. k q (ap erase_value e ∙ s)) x, plain, e)

-- n moves at most lead from is to rest with x as the value v, and all registers but t as before
pub record Readies (ws : List AVal) (c : Held) (is rest : TSeq) (t : ℕ) (v : AVal) (x : TValue) (n : ℕ) : Type 0 where
  pub moves : List Move
  pub same : is ≡ before moves rest
  pub held : Held
  pub brings : Brings ws c moves held
  pub here : Reads held v x
  pub others : (q : ℕ) → q ≢ t → held q ≡ c q
  pub few : length moves ≤ n

abbrev none : (ws : List AVal) (c : Held) (t : ℕ) (v : AVal) (x : TValue) (rest : TSeq) (n : ℕ) → Reads c v x →
    Readies ws c rest rest t v x n
none ws c t v x rest n s =
    record { moves = []; same = refl; held = c; brings = refl; here = s; others = λ q ne. refl; few = omega arith }

abbrev mov : (ws : List AVal) (c : Held) (t : ℕ) (v : AVal) (x : TValue) (rest : TSeq) → IsPartOf v ws → Reads c v x →
    Readies ws c (Then (T.Mov t x) rest) rest t v (reg t) 1
mov ws c t v x rest part s = record {
  moves = record { to = t; value = x } ∷ [];
  same = refl;
  held = with_reg c t v;
  brings = (v, part, s, refl);
  here = in_register (with_reg c t v) t v (get_same c t v);
  others = λ q ne. get_other c t q v ne;
  few = omega arith;
}

-- one after the other
then_ready : (ws : List AVal) (c : Held) (is next rest : TSeq) (t : ℕ) (v w : AVal) (x y : TValue) (n k : ℕ)
    (a : Readies ws c is next t v x n) → Readies ws a.held next rest t w y k → Readies ws c is rest t w y (n + k)
then_ready ws c is next rest t v w x y n k a b = record {
  moves = a.moves ++ b.moves;
  same = a.same ∙ ap (before a.moves) b.same ∙ sym (before_on a.moves b.moves rest);
  held = b.held;
  brings = brings_on ws a.moves b.moves c a.held b.held a.brings b.brings;
  here = b.here;
  others = λ q ne. b.others q ne ∙ a.others q ne;
  few = (let z = length-append a.moves b.moves in omega (arith, a.few, b.few, z));
}

-- a package comes into a register
box_plain : (t : ℕ) (x : TValue) → IsPlain (inside t x)
box_plain t (T.Plain b us) = tt
box_plain t (T.Pack h v s) = tt

box_is : (ws : List AVal) (x : TValue) (c : Held) (t : ℕ) (v : AVal) (rest : TSeq) → IsPartOf v ws → Reads c v x →
    Readies ws c (boxed t x rest) rest t v (inside t x) 1
box_is ws (T.Plain b us) c t v rest part s = none ws c t v (T.Plain b us) rest 1 s
box_is ws (T.Pack h x b) c t v rest part s = mov ws c t v (T.Pack h x b) rest part s

pub unnest_is : (ws : List AVal) (v : AVal) (c : Held) (m : List ℕ) (b t : ℕ) (rest : TSeq) → AllOf v ws →
    Known c m b (uses v) → Readies ws c (unnest t m v rest) rest t v (small t m v) (packages v)
unnest_is ws (Var n) c m b t rest all a =
    none ws c t (Var n) (reg (place m n)) rest 0 (place m n, refl, (a n (eq-eqb n n refl)).0)
unnest_is ws (Num i) c m b t rest all a = none ws c t (Num i) (T.Plain (T.Int i) []) rest 0 (inr refl)
unnest_is ws (Lab l) c m b t rest all a = none ws c t (Lab l) (T.Plain (T.Label (suc l)) []) rest 0 (inr refl)
unnest_is ws (Data n) c m b t rest all a = none ws c t (Data n) (T.Plain (T.Data n) []) rest 0 (inr refl)
unnest_is ws (Apply v ts) c m b t rest all a =
    let r = unnest_is ws v c m b t rest (λ x i. all x (inr i)) a in
    record {
      moves = r.moves;
      same = r.same;
      held = r.held;
      brings = r.brings;
      here = inr (small t m v, r.here, refl);
      others = r.others;
      few = r.few;
    }
unnest_is ws (Pack h v s) c m b t rest all a =
    let x = small t m v in
    let r = unnest_is ws v c m b t (boxed t x rest) (λ y i. all y (inr i)) a in
    let d = box_is ws x r.held t v rest (all v (inr (whole_part v))) r.here in
    let both = then_ready ws c (unnest t m v (boxed t x rest)) (boxed t x rest) rest t v v x (inside t x) (packages v) 1
    r d in
    record {
      moves = both.moves;
      same = both.same;
      held = both.held;
      brings = both.brings;
      here = inr (inside t x, both.here, box_plain t x, refl);
      others = both.others;
      few = omega (arith, both.few);
    }

-- a value that stands in register r
stands_reg : (r : ℕ) (x : TValue) → stands r x ≡ true → x ≡ reg r
stands_reg r (T.Plain (T.Reg q) []) e = ap reg (sym (eqb-true r q e))
stands_reg r (T.Plain (T.Reg q) (u ∷ us)) e = cc
stands_reg r (T.Plain (T.Int i) us) e = cc
stands_reg r (T.Plain (T.Label l) us) e = cc
stands_reg r (T.Plain (T.Data n) us) e = cc
stands_reg r (T.Pack h v s) e = cc

-- a value put into register r, which keeps what it holds where the value stands there
abbrev pub Moved : List AVal → Held → TSeq → TSeq → ℕ → AVal → TValue → Type 0
Moved ws c is rest r v x = (a : Readies ws c is rest r v (reg r) 1) × (stands r x ≡ true → a.held r ≡ c r)

pub move_is : (ws : List AVal) (r : ℕ) (x : TValue) (v : AVal) (c : Held) (rest : TSeq) → IsPartOf v ws →
    Reads c v x → Moved ws c (move r x rest) rest r v x
move_is ws r x v c rest part s =
    cond_both (stands r x) rest (Then (T.Mov r x) rest) (λ is. Moved ws c is rest r v x)
    (λ e. (none ws c r v (reg r) rest 1 (subst (Reads c v) (stands_reg r x e) s), λ q. refl))
    (λ e. (mov ws c r v x rest part s, λ q. absurd (true_false (sym q ∙ e))))

pub settle_is : (ws : List AVal) (x : TValue) (v : AVal) (c : Held) (t : ℕ) (rest : TSeq) → IsPartOf v ws →
    Reads c v x → Readies ws c (settle t x rest) rest t v (reg (home t x)) 1
settle_is ws (T.Plain (T.Reg r) []) v c t rest part s = none ws c t v (reg r) rest 1 s
settle_is ws (T.Plain (T.Reg r) (u ∷ us)) v c t rest part s = mov ws c t v (T.Plain (T.Reg r) (u ∷ us)) rest part s
settle_is ws (T.Plain (T.Int i) us) v c t rest part s = mov ws c t v (T.Plain (T.Int i) us) rest part s
settle_is ws (T.Plain (T.Label l) us) v c t rest part s = mov ws c t v (T.Plain (T.Label l) us) rest part s
settle_is ws (T.Plain (T.Data n) us) v c t rest part s = mov ws c t v (T.Plain (T.Data n) us) rest part s
settle_is ws (T.Pack h x b) v c t rest part s = mov ws c t v (T.Pack h x b) rest part s

-- a value in place, put into a register where it is in none
pub settled_is : (ws : List AVal) (v : AVal) (c : Held) (m : List ℕ) (b t : ℕ) (rest : TSeq) → AllOf v ws →
    Known c m b (uses v) →
    Readies ws c (unnest t m v (settle t (small t m v) rest)) rest t v (reg (home t (small t m v))) (suc (packages v))
settled_is ws v c m b t rest all a =
    let x = small t m v in
    let r = unnest_is ws v c m b t (settle t x rest) all a in
    let d = settle_is ws x v r.held t rest (all v (whole_part v)) r.here in
    let both = then_ready ws c _ (settle t x rest) rest t v v x (reg (home t x)) (packages v) 1 r d in
    record {
      moves = both.moves;
      same = both.same;
      held = both.held;
      brings = both.brings;
      here = both.here;
      others = both.others;
      few = omega (arith, both.few);
    }

-- a value's register is that of a variable, or the one that is given
pub home_applied : (t : ℕ) (x : TValue) (us : List Ty) → (home t (applied_to x us) ≡ home t x)
    ⊎ (home t (applied_to x us) ≡ t)
home_applied t (T.Plain (T.Reg r) []) [] = inl refl
home_applied t (T.Plain (T.Reg r) []) (u ∷ us) = inr refl
home_applied t (T.Plain (T.Reg r) (x ∷ xs)) us = inr refl
home_applied t (T.Plain (T.Int i) xs) us = inr refl
home_applied t (T.Plain (T.Label l) xs) us = inr refl
home_applied t (T.Plain (T.Data n) xs) us = inr refl
home_applied t (T.Pack p v s) us = inr refl

pub home_low : (v : AVal) (c : Held) (m : List ℕ) (b t : ℕ) → Known c m b (uses v) → b ≤ t → home t (small t m v) ≤ t
home_low (Var n) c m b t a le = let x = a n (eq-eqb n n refl) in omega (arith, x.1)
home_low (Num i) c m b t a le = omega arith
home_low (Lab l) c m b t a le = omega arith
home_low (Data l) c m b t a le = omega arith
home_low (Apply v ts) c m b t a le =
    let r = home_low v c m b t a le in
    ⊎_elim (λ e. omega (arith, e, r)) (λ e. omega (arith, e)) (home_applied t (small t m v) (tys ts))
home_low (Pack p v s) c m b t a le = omega arith

-- a value in the register that is its new name's, where the variables that u tells stay
pub record Named (ws : List AVal) (c : Held) (is rest : TSeq) (m : List ℕ) (u : ℕ → Bool) (r : ℕ) (v : AVal)
    (n : ℕ) : Type 0 where
  pub moves : List Move
  pub same : is ≡ before moves rest
  pub held : Held
  pub brings : Brings ws c moves held
  pub here : Reads held v (reg r)
  pub stays : (n : ℕ) → u n ≡ true → held (place m n) ≡ c (place m n)
  pub few : length moves ≤ n

-- to put a variable into its own register changes none
owner_kept : (v : AVal) (c d : Held) (m : List ℕ) (b : ℕ) (u : ℕ → Bool) (e : ATm) → Known c m b (uses v) →
    Reads d v (reg (owner m v u e)) → ((q : ℕ) → q ≢ owner m v u e → d q ≡ c q) →
    (i : ℕ) → u i ≡ true → d (place m i) ≡ c (place m i)
owner_kept (Var n) c d m b u e a here o =
    cond_both (used e (suc n) && used e 0) (free m u e) (place m n)
    (λ r. Reads d (Var n) (reg r) → ((q : ℕ) → q ≢ r → d q ≡ c q) → (i : ℕ) → u i ≡ true →
    d (place m i) ≡ c (place m i))
    (λ z at_r o2 i y. o2 (place m i) (λ q. absurd (free_apart m u e i y q)))
    (λ z at_r o2 i y.
    let own = a n (eq-eqb n n refl) in
    let there = ap d (same_reg at_r.1) ∙ at_r.2 in
    ⊎_elim (λ q. ap d q ∙ there ∙ sym own.0 ∙ ap c (sym q)) (λ ne. o2 (place m i) ne)
    (cases_eq (place m i) (place m n)))
    here o
owner_kept (Num i) c d m b u e a x o = λ i y. o (place m i) (λ z. absurd (free_apart m u e i y z))
owner_kept (Lab l) c d m b u e a x o = λ i y. o (place m i) (λ z. absurd (free_apart m u e i y z))
owner_kept (Data l) c d m b u e a x o = λ i y. o (place m i) (λ z. absurd (free_apart m u e i y z))
owner_kept (Apply v ts) c d m b u e a x o = λ i y. o (place m i) (λ z. absurd (free_apart m u e i y z))
owner_kept (Pack p v s) c d m b u e a x o = λ i y. o (place m i) (λ z. absurd (free_apart m u e i y z))

pub named_is : (ws : List AVal) (v : AVal) (c : Held) (m : List ℕ) (b t : ℕ) (u : ℕ → Bool) (e : ATm)
    (rest : TSeq) → AllOf v ws → b ≤ t → ((n : ℕ) → u n ≡ true → place m n < b) → Known c m b (uses v) →
    Named ws c (unnest t m v (move (owner m v u e) (small t m v) rest)) rest m u (owner m v u e) v (suc (packages v))
named_is ws v c m b t u e rest all le far a =
    let r = owner m v u e in
    let x = small t m v in
    let p = unnest_is ws v c m b t (move r x rest) all a in
    let q = (move_is ws r x v p.held rest (all v (whole_part v)) p.here).0 in
    let same : (i : ℕ) → i < b → p.held i ≡ c i = λ i l. p.others i (λ z. absurd (omega (arith, z, l, le))) in
    let k = owner_kept v p.held q.held m b u e (known_kept c p.held m b (uses v) same a) q.here q.others in
    record {
      moves = p.moves ++ q.moves;
      same = p.same ∙ ap (before p.moves) q.same ∙ sym (before_on p.moves q.moves rest);
      held = q.held;
      brings = brings_on ws p.moves q.moves c p.held q.held p.brings q.brings;
      here = q.here;
      stays = λ n y. k n y ∙ same (place m n) (far n y);
      few = (let z = length-append p.moves q.moves in omega (arith, z, p.few, q.few));
    }

-- the variable in a register that is read
reads_holds : (v : AVal) (r : ℕ) (c : Held) (m : List ℕ) (b : ℕ) → Known c m b (uses v) → reads r m v ≡ true →
    (n : ℕ) × (c r ≡ Some (Var n)) × IsPart (Var n) v
reads_holds (Var n) r c m b a e = (n, ap c (sym (eqb-true (place m n) r e)) ∙ (a n (eq-eqb n n refl)).0, refl)
reads_holds (Num i) r c m b a e = cc
reads_holds (Lab l) r c m b a e = cc
reads_holds (Data l) r c m b a e = cc
reads_holds (Apply v ts) r c m b a e = let x = reads_holds v r c m b a e in (x.0, x.1, inr x.2)
reads_holds (Pack p v s) r c m b a e = let x = reads_holds v r c m b a e in (x.0, x.1, inr x.2)

-- the variables of the code, and of the arguments
abbrev pub wants : AVal → List AVal → ℕ → Bool
wants c vs n = uses c n || uses_any vs n

pub of_code : (c : AVal) (vs : List AVal) (n : ℕ) → uses c n ≡ true → wants c vs n ≡ true
of_code c vs n e = or_left (uses c n) (uses_any vs n) e

pub of_first : (c v : AVal) (vs : List AVal) (n : ℕ) → uses v n ≡ true → wants c (v ∷ vs) n ≡ true
of_first c v vs n e = or_right (uses c n) (uses_any (v ∷ vs) n) (or_left (uses v n) (uses_any vs n) e)

pub of_rest : (c v : AVal) (vs : List AVal) (n : ℕ) → wants c vs n ≡ true → wants c (v ∷ vs) n ≡ true
of_rest c v vs n e =
    ⊎_elim (λ x. or_left (uses c n) (uses_any (v ∷ vs) n) x)
    (λ x. or_right (uses c n) (uses_any (v ∷ vs) n) (or_right (uses v n) (uses_any vs n) x))
    (or_cases (uses c n) (uses_any vs n) e)

-- parts of fewer arguments
one_later : (x f v : AVal) (vs : List AVal) → IsPartOf x (f ∷ vs) → IsPartOf x (f ∷ v ∷ vs)
one_later x f v vs (inl i) = inl i
one_later x f v vs (inr i) = inr (inr i)

later_holds : (vs : List AVal) (f : AVal) (r : ℕ) (c : Held) (m : List ℕ) (b : ℕ) → Known c m b (wants f vs) →
    later r m vs f ≡ true → (n : ℕ) × (c r ≡ Some (Var n)) × IsPartOf (Var n) (f ∷ vs)
later_holds [] f r c m b a e =
    let x = reads_holds f r c m b (known_fewer c m b (wants f []) (uses f) (of_code f []) a) e in
    (x.0, x.1, inl x.2)
later_holds (v ∷ vs) f r c m b a e = ⊎_elim
    (λ z.
    let x = reads_holds v r c m b (known_fewer c m b (wants f (v ∷ vs)) (uses v) (of_first f v vs) a) z in
    (x.0, x.1, inr (inl x.2)))
    (λ z.
    let x = later_holds vs f r c m b (known_fewer c m b (wants f (v ∷ vs)) (wants f vs) (of_rest f v vs) a) z in
    (x.0, x.1, one_later (Var x.0) f v vs x.2))
    (or_cases (reads r m v) (later r m vs f) e)

-- what is not read is another register
reads_none : (v : AVal) (r : ℕ) (m : List ℕ) (n : ℕ) → reads r m v ≡ false → uses v n ≡ true → place m n ≡ r → ⊥
reads_none (Var i) r m n e x z = clash (sym (eq-eqb (place m i) r (ap (place m) (eqb-true i n x) ∙ z)) ∙ e)
  where
    clash : true ≡ false → ⊥
    clash y = cc
reads_none (Num i) r m n e x z = cc
reads_none (Lab l) r m n e x z = cc
reads_none (Data l) r m n e x z = cc
reads_none (Apply v ts) r m n e x z = reads_none v r m n e x z
reads_none (Pack p v s) r m n e x z = reads_none v r m n e x z

pub later_none : (vs : List AVal) (c : AVal) (r : ℕ) (m : List ℕ) (n : ℕ) → later r m vs c ≡ false →
    wants c vs n ≡ true → place m n ≡ r → ⊥
later_none [] c r m n e x z = ⊎_elim (λ y. reads_none c r m n e y z) (λ y. cc) (or_cases (uses c n) false x)
later_none (v ∷ vs) c r m n e x z =
    let p = or_parts (reads r m v) (later r m vs c) e in
    ⊎_elim
    (λ y. later_none vs c r m n p.1 (of_code c vs n y) z)
    (λ y. ⊎_elim (λ q. reads_none v r m n p.0 q z)
    (λ q. later_none vs c r m n p.1 (or_right (uses c n) (uses_any vs n) q) z)
    (or_cases (uses v n) (uses_any vs n) y))
    (or_cases (uses c n) (uses_any (v ∷ vs) n) x)

-- a variable in a register stands there
pub owns_stands : (v : AVal) (r b : ℕ) (m : List ℕ) → owns r m v ≡ true → stands r (small b m v) ≡ true
owns_stands (Var n) r b m e = eq-eqb r (place m n) (sym (eqb-true (place m n) r e))
owns_stands (Num i) r b m e = cc
owns_stands (Lab l) r b m e = cc
owns_stands (Data n) r b m e = cc
owns_stands (Apply v ts) r b m e = cc
owns_stands (Pack p v s) r b m e = cc

-- the registers after one was saved
pub place_instead : (m : List ℕ) (b j n : ℕ) → 1 ≤ j → place (map (instead b j) m) n ≡ instead b j (place m n)
place_instead [] b j n l = sym (ap (λ c. cond c b 0) (ne_eqb 0 j (λ z. absurd (omega arith))))
place_instead (r ∷ m) b j zero l = refl
place_instead (r ∷ m) b j (suc n) l = place_instead m b j n l

pub instead_not : (b j q : ℕ) → j < b → q < b → (instead b j q ≡ j → ⊥) × (instead b j q < suc b)
instead_not b j q lj lq =
    cond_both (q == j) b q (λ r. (r ≡ j → ⊥) × (r < suc b)) (λ e. ((λ z. absurd (omega arith)), omega arith))
    (λ e. ((λ z. clash (sym (eq-eqb q j z) ∙ e)), omega arith))
  where
    clash : true ≡ false → ⊥
    clash y = cc

-- as many moves as a call may need
abbrev pub most : List AVal → AVal → ℕ
most vs f = (length vs + length vs) + (packages f + all_packages vs)

-- what a call comes to: the moves before its jump, and the code
pub record Calls (ws : List AVal) (c : Held) (is : TSeq) (j : ℕ) (vs : List AVal) (f : AVal) (ts : ATys)
    (n : ℕ) : Type 0 where
  pub moves : List Move
  pub code : TValue
  pub same : is ≡ before moves (Ends (T.Jmp code))
  pub held : Held
  pub brings : Brings ws c moves held
  pub goes : Reads held (Apply f ts) code
  pub order : InOrder held j vs
  pub below : (q : ℕ) → q < j → held q ≡ c q
  pub few : length moves ≤ n

module _ (ws : List AVal) (f : AVal) (ts : ATys) where
  -- the variables that are still wanted, after an argument was put into register j
  still : (vs : List AVal) (c d : Held) (m : List ℕ) (b j : ℕ) → Known c m b (wants f vs) →
      ((q : ℕ) → q < b → q ≢ j → d q ≡ c q) →
      ((n : ℕ) → wants f vs n ≡ true → place m n ≡ j → d j ≡ c j) → Known d m b (wants f vs)
  still vs c d m b j a o k = λ n y.
      let s = a n y in (
        ⊎_elim (λ e. ap d e ∙ k n y e ∙ ap c (sym e) ∙ s.0) (λ ne. o (place m n) s.1 ne ∙ s.0)
            (cases_eq (place m n) j),
        s.1,
      )

  -- what a call comes to, where its arguments after this one, and its code, are still to come
  abbrev Rest-comes : List AVal → ℕ → Type 0
  Rest-comes vs j =
      (b : ℕ) (m : List ℕ) (c : Held) → j + length vs ≤ b → Known c m b (wants f vs) →
      Calls ws c (call_code j b m vs f (tys ts)) j vs f ts (most vs f)

  module _ (v : AVal) (vs : List AVal) (j : ℕ) (parts : EachOf (f ∷ v ∷ vs) ws) (rec : Rest-comes vs (suc j)) where
    argument_comes : (b : ℕ) (m : List ℕ) (c : Held) → j + length (v ∷ vs) ≤ b → Known c m b (wants f (v ∷ vs)) →
        ((n : ℕ) → wants f vs n ≡ true → place m n ≡ j → stands j (small b m v) ≡ true) →
        Calls ws c (unnest b m v (move j (small b m v) (call_code (suc j) b m vs f (tys ts)))) j (v ∷ vs) f ts
        (suc (packages v) + most vs f)
    argument_comes b m c le k read =
        let rest = call_code (suc j) b m vs f (tys ts) in
        let x = small b m v in
        let first = known_fewer c m b (wants f (v ∷ vs)) (uses v) (of_first f v vs) k in
        let d = unnest_is ws v c m b b (move j x rest) (λ y i. parts y (inr (inl i))) first in
        let both = move_is ws j x v d.held rest (parts v (inr (inl (whole_part v)))) d.here in
        let e = both.0 in
        let few = known_fewer c m b (wants f (v ∷ vs)) (wants f vs) (of_rest f v vs) k in
        let kept = known_kept c d.held m b (wants f vs) (λ q lt. d.others q (λ z. absurd (omega (arith, z, lt)))) few in
        let k2 = still vs d.held e.held m b j kept (λ q lt ne. e.others q ne) (λ n q p. both.1 (read n q p)) in
        let g = rec b m e.held (omega (arith, le)) k2 in
        let ms = e.moves ++ g.moves in
        let here = reads_same e.held g.held v (reg j) (λ q z. g.below q (let y = base_reg z in omega (arith, y)))
        e.here in
        record {
          moves = d.moves ++ ms;
          code = g.code;
          same = d.same ∙ ap (before d.moves) (e.same ∙ ap (before e.moves) g.same
              ∙ sym (before_on e.moves g.moves (Ends (T.Jmp g.code))))
              ∙ sym (before_on d.moves ms (Ends (T.Jmp g.code)));
          held = g.held;
          brings = brings_on ws d.moves ms c d.held g.held d.brings
              (brings_on ws e.moves g.moves d.held e.held g.held e.brings g.brings);
          goes = g.goes;
          order = (here, g.order);
          below = λ q lt.
              (g.below q (omega (arith, lt))
              ∙ e.others q (λ z. absurd (omega (arith, lt, z)))
              ∙ d.others q (λ z. absurd (omega (arith, lt, le, z))));
          few = (let l1 = length-append d.moves ms in
              let l2 = length-append e.moves g.moves in
              omega (arith, l1, l2, d.few, e.few, g.few));
        }

    saved_comes : (b : ℕ) (m : List ℕ) (c : Held) → 1 ≤ j → j + length (v ∷ vs) ≤ b → Known c m b (wants f (v ∷ vs)) →
        (lost : Bool) → (not (owns j m v) && later j m vs f) ≡ lost →
        Calls ws c (saved lost b j (unnest (above_saved lost b) (places_saved lost b j m) v
        (move j (small (above_saved lost b) (places_saved lost b j m) v)
        (call_code (suc j) (above_saved lost b) (places_saved lost b j m) vs f (tys ts))))) j (v ∷ vs) f ts
        (most (v ∷ vs) f)
    saved_comes b m c l le a false e = more_moves (argument_comes b m c le a
        (λ n q p. ⊎_elim (λ z. stood z) (λ z. absurd (later_none vs f j m n z q p))
        (and_cases (not (owns j m v)) (later j m vs f) e)))
      where
        stood : not (owns j m v) ≡ false → stands j (small b m v) ≡ true
        stood e = owns_stands v j b m (true_from_not (owns j m v) e)

        more_moves :
            Calls ws c (unnest b m v (move j (small b m v) (call_code (suc j) b m vs f (tys ts)))) j (v ∷ vs) f ts
            (suc (packages v) + most vs f) →
            Calls ws c (unnest b m v (move j (small b m v) (call_code (suc j) b m vs f (tys ts)))) j (v ∷ vs) f ts
            (most (v ∷ vs) f)
        more_moves g = record {
          moves = g.moves;
          code = g.code;
          same = g.same;
          held = g.held;
          brings = g.brings;
          goes = g.goes;
          order = g.order;
          below = g.below;
          few = omega (arith, g.few);
        }
    saved_comes b m c l le a true e =
        let p = and_parts (not (owns j m v)) (later j m vs f) e in
        let few = known_fewer c m b (wants f (v ∷ vs)) (wants f vs) (of_rest f v vs) a in
        let k = later_holds vs f j c m b few p.1 in
        let l2 = map (instead b j) m in
        let rest = unnest (suc b) l2 v (move j (small (suc b) l2 v) (call_code (suc j) (suc b) l2 vs f (tys ts))) in
        let part = parts (Var k.0) (one_later (Var k.0) f v vs k.2) in
        let d = mov ws c b (Var k.0) (reg j) rest part (in_register c j (Var k.0) k.1) in
        let at_b : d.held b ≡ Some (Var k.0) = get_same c b (Var k.0) in
        let known : Known d.held l2 (suc b) (wants f (v ∷ vs)) = λ n r.
        (let own = a n r in
        let pl = place_instead m b j n l in
        let apart = instead_not b j (place m n) (omega (arith, le)) own.1 in
        let held : d.held (instead b j (place m n)) ≡ c (place m n) =
        cond_both (place m n == j) b (place m n) (λ x. d.held x ≡ c (place m n))
        (λ q. at_b ∙ sym k.1 ∙ ap c (sym (eqb-true (place m n) j q)))
        (λ q. d.others (place m n) (λ z. absurd (omega (arith, own.1, z)))) in
        (ap d.held pl ∙ held ∙ own.0, omega (arith, pl, apart.1))) in
        let g = argument_comes (suc b) l2 d.held (omega (arith, le)) known (λ n q r.
        let own = a n (of_rest f v vs n q) in
        absurd ((instead_not b j (place m n) (omega (arith, le)) own.1).0 (sym (place_instead m b j n l) ∙ r))) in
        record {
          moves = d.moves ++ g.moves;
          code = g.code;
          same = ap (before d.moves) g.same;
          held = g.held;
          brings = brings_on ws d.moves g.moves c d.held g.held d.brings g.brings;
          goes = g.goes;
          order = g.order;
          below = λ q lt. g.below q lt ∙ d.others q (λ z. absurd (omega (arith, lt, le, z)));
          few = (let z = length-append d.moves g.moves in omega (arith, z, g.few));
        }

  pub call_comes : (vs : List AVal) (j b : ℕ) (m : List ℕ) (c : Held) → EachOf (f ∷ vs) ws → 1 ≤ j →
      j + length vs ≤ b → Known c m b (wants f vs) →
      Calls ws c (call_code j b m vs f (tys ts)) j vs f ts (most vs f)
  call_comes [] j b m c parts l le a =
      let x = applied_to (small b m f) (tys ts) in
      let code = known_fewer c m b (wants f []) (uses f) (of_code f []) a in
      let d = unnest_is ws f c m b b (Ends (T.Jmp x)) (λ y i. parts y (inl i)) code in
      record {
        moves = d.moves;
        code = x;
        same = d.same;
        held = d.held;
        brings = d.brings;
        goes = inr (small b m f, d.here, refl);
        order = tt;
        below = λ q lt. d.others q (λ z. absurd (omega (arith, lt, le, z)));
        few = omega (arith, d.few);
      }
  call_comes (v ∷ vs) j b m c parts l le a =
      saved_comes v vs j parts (λ b2 m2 c2 le2 a2. call_comes vs (suc j) b2 m2 c2
      (λ x i. parts x (one_later x f v vs i)) (omega arith) le2 a2) b m c l le a
      (not (owns j m v) && later j m vs f) refl
