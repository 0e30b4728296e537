-- Values of the source and words of the calculus that stand for them.
use Rattle.std.proofs.Common.{◌≡◌, ℕ, zero, suc, ◌+◌, ◌<◌, ◌⊎◌, inl, inr, List, [], ◌∷◌, Some, None, refl, sym, ap}
use Rattle.std.proofs.Common.{◌∙◌, subst, arith}
use Rattle.f_terms.specs.Ty.{Ty, Tys}
use Rattle.f_terms.specs.Eval.{Val, VInt, VTup, VFun, VSus, VCell, Vals, Empty, And, value_at, cells}
use Rattle.f_terms.specs.Eval as E
use Rattle.k_terms.specs.K.{KTy, NoKTys, MoreKTys, KVal, KVals, KTm, kv_next}
use Rattle.calc_core.specs.Words.{WInt, WTuple, WCode, WCell, NoWords, MoreWords, at, size, field, held, hold}
use Rattle.calc_core.specs.Words.{one_more}
use Rattle.k_terms.specs.Meaning.{KCodeAt, KWord, KWords, kv_value, kvs_value}
use Rattle.k_laws.specs.Cps.{Atom, Level, Literal}
use Rattle.k_laws.specs.Translates.{Thing, Plain, Made, Things, NoThings, MoreThings, stands, named, stand, tuple_of}
use Rattle.k_laws.specs.Translates.{Pass, atom_of, cps, scope}
use Rattle.f_terms.specs.OneType.{some_is}

-- the name of this level stands for that word
abbrev pub Has : KWords → ℕ → KWord → Type 0
Has NoWords l w = ⊥
Has (MoreWords v vs) l w = ((l ≡ size vs) × (v ≡ w)) ⊎ Has vs l w

abbrev mutual
  pub Rel : Val → KWord → Type 0
  Rel (VInt n) w = w ≡ WInt n
  Rel (VTup vs) w = (ws : KWords) × (w ≡ WTuple ws) × RelAll vs ws
  Rel (VFun env body) w =
      (c : ℕ) × (kenv : KWords) × (names : List Atom) × (m : KTm) × (n : ℕ) × (tl : List ℕ) × (td : ℕ) × (g : Tys)
      × (t : Ty) × (a1 a2 : KTy) × (w ≡ WCode (KCodeAt c 0 (MoreKTys a1 (MoreKTys a2 NoKTys)) m) kenv)
      × RelEnv env names kenv
      × cps body (scope n tl g (Level (suc (size kenv)) ∷ Level (size kenv) ∷ names)) t td (suc (suc (suc (size kenv))))
      (Pass (suc (suc (size kenv)))) m
  Rel (VSus env body) w =
      (c : ℕ) × (kenv : KWords) × (names : List Atom) × (m : KTm) × (n : ℕ) × (tl : List ℕ) × (td : ℕ) × (g : Tys)
      × (t : Ty) × (a1 : KTy) × (w ≡ WCode (KCodeAt c 1 (MoreKTys a1 NoKTys) m) kenv) × RelEnv env names kenv
      × cps body (scope n tl g names) t td (suc (suc (size kenv))) (Pass (suc (size kenv))) m
  Rel (VCell a) w = w ≡ WCell a

  pub RelAll : Vals → KWords → Type 0
  RelAll Empty ws = ws ≡ NoWords
  RelAll (And v vs) ws = (w : KWord) × (ws' : KWords) × (ws ≡ MoreWords w ws') × Rel v w × RelAll vs ws'

  pub RelEnv : Vals → List Atom → KWords → Type 0
  RelEnv Empty [] kenv = Unit {0}
  RelEnv Empty (a ∷ names) kenv = ⊥
  RelEnv (And v vs) [] kenv = ⊥
  RelEnv (And v vs) (Level l ∷ names) kenv = ((w : KWord) × Has kenv l w × Rel v w) × RelEnv vs names kenv
  RelEnv (And v vs) (Literal n ∷ names) kenv = Rel v (WInt n) × RelEnv vs names kenv

-- what stands for a value
abbrev pub DenAtom : Atom → KWords → Val → Type 0
DenAtom (Level l) kenv v = (w : KWord) × Has kenv l w × Rel v w
DenAtom (Literal n) kenv v = Rel v (WInt n)

pub rel_cons : (a : Atom) (v : Val) (vs : Vals) (names : List Atom) (kenv : KWords) → DenAtom a kenv v →
    RelEnv vs names kenv → RelEnv (And v vs) (a ∷ names) kenv
rel_cons (Level l) v vs names kenv d r = (d, r)
rel_cons (Literal n) v vs names kenv d r = (d, r)

-- the one keeps all names of the other
pub record Ext (big small : KWords) : Type 0 where
  pub keeps : (l : ℕ) (w : KWord) → Has small l w → Has big l w

pub ext_same : (k : KWords) → Ext k k
ext_same k = record { keeps = λ l w h. h }

pub ext_more : (w : KWord) (big small : KWords) → Ext big small → Ext (MoreWords w big) small
ext_more w big small e = record { keeps = λ l v h. inr (e.keeps l v h) }

pub ext_trans : (a b c : KWords) → Ext a b → Ext b c → Ext a c
ext_trans a b c e f = record { keeps = λ l w h. e.keeps l w (f.keeps l w h) }

atom_more : (a : Atom) (v : Val) (big small : KWords) → Ext big small → DenAtom a small v → DenAtom a big v
atom_more (Level l) v big small e d = (d.0, e.keeps l d.0 d.1, d.2)
atom_more (Literal n) v big small e d = d

pub rel_env_more : (env : Vals) (names : List Atom) (big small : KWords) → Ext big small → RelEnv env names small →
    RelEnv env names big
rel_env_more Empty [] big small e r = tt
rel_env_more Empty (a ∷ names) big small e r = r
rel_env_more (And v vs) [] big small e r = r
rel_env_more (And v vs) (Level l ∷ names) big small e r =
    (atom_more (Level l) v big small e r.0, rel_env_more vs names big small e r.1)
rel_env_more (And v vs) (Literal n ∷ names) big small e r = (r.0, rel_env_more vs names big small e r.1)

pub has_below : (k : KWords) (l : ℕ) (w : KWord) → Has k l w → l < size k
has_below NoWords l w h = elim h [ ]
has_below (MoreWords v vs) l w (inl h) = omega (arith, h.0)
has_below (MoreWords v vs) l w (inr h) = omega (arith, has_below vs l w h)

pub has_at : (k : KWords) (l i : ℕ) (w : KWord) → Has k l w → i + suc l ≡ size k → at k i ≡ w
has_at NoWords l i w h e = elim h [ ]
has_at (MoreWords v vs) l zero w (inl h) e = h.1
has_at (MoreWords v vs) l (suc i) w (inl h) e = absurd (omega (arith, h.0, e))
has_at (MoreWords v vs) l zero w (inr h) e = absurd (omega (arith, has_below vs l w h, e))
has_at (MoreWords v vs) l (suc i) w (inr h) e = has_at vs l i w h (omega (arith, e))

-- what is made in place stands for the source's value, here and wherever there are more names
pub record DenMade (x : ℕ → ℕ → KVal → Type 0) (kenv : KWords) (v : Val) : Type 0 where
  pub gives : (td : ℕ) (big : KWords) → Ext big kenv → (b : ℕ) (k : KVal) → x td (size big) k → Rel v (kv_value b k big)

abbrev pub Den : Thing → KWords → Val → Type 0
Den (Plain a) kenv v = DenAtom a kenv v
Den (Made x) kenv v = DenMade x kenv v

pub den_more : (x : Thing) (big small : KWords) (v : Val) → Ext big small → Den x small v → Den x big v
den_more (Plain a) big small v e d = atom_more a v big small e d
den_more (Made x) big small v e d =
    record { gives = λ td more e' b k h. d.gives td more (ext_trans more big small e' e) b k h }

pub gives : (x : Thing) (kenv : KWords) (v : Val) → Den x kenv v → (td : ℕ) (big : KWords) → Ext big kenv →
    (b : ℕ) (k : KVal) → stands x td (size big) k → Rel v (kv_value b k big)
gives (Plain (Level l)) kenv v d td big e b k n =
    subst (λ k. Rel v (kv_value b k big)) (sym n.1)
    (subst (Rel v) (sym (has_at big l n.0 d.0 (e.keeps l d.0 d.1) n.2)) d.2)
gives (Plain (Literal i)) kenv v d td big e b k is = subst (λ k. Rel v (kv_value b k big)) (sym is) d
gives (Made x) kenv v d td big e b k h = d.gives td big e b k h

pub den_top : (kenv : KWords) (v : Val) (w : KWord) → Rel v w → Den (named (size kenv)) (MoreWords w kenv) v
den_top kenv v w r = (w, inl (refl, refl), r)

-- what stands for a source variable
pub den_var : (env : Vals) (names : List Atom) (kenv : KWords) (i : ℕ) (a : Atom) → RelEnv env names kenv →
    atom_of names i a → (v : Val) × (value_at env i ≡ Some v) × DenAtom a kenv v
den_var Empty [] kenv i a r h = elim h [ ]
den_var Empty (k ∷ names) kenv i a r h = elim r [ ]
den_var (And v vs) [] kenv i a r h = elim r [ ]
den_var (And v vs) (Level l ∷ names) kenv zero a r h = (v, refl, subst (λ a. DenAtom a kenv v) h r.0)
den_var (And v vs) (Literal n ∷ names) kenv zero a r h = (v, refl, subst (λ a. DenAtom a kenv v) h r.0)
den_var (And v vs) (Level l ∷ names) kenv (suc i) a r h = den_var vs names kenv i a r.1 h
den_var (And v vs) (Literal n ∷ names) kenv (suc i) a r h = den_var vs names kenv i a r.1 h

-- stores
pub rel_count : (st : Vals) (kst : KWords) → RelAll st kst → size kst ≡ cells st
rel_count Empty kst r = subst (λ k. size k ≡ 0) (sym r) refl
rel_count (And v vs) kst r = subst (λ k. size k ≡ suc (cells vs)) (sym r.2) (ap suc (rel_count vs r.1 r.4))

pub rel_last : (st : Vals) (kst : KWords) (v : Val) (w : KWord) → RelAll st kst → Rel v w →
    RelAll (E.one_more st v) (one_more kst w)
rel_last Empty kst v w r h = (w, NoWords, ap (λ k. one_more k w) r, h, refl)
rel_last (And u us) kst v w r h = (r.0, one_more r.1 w, ap (λ k. one_more k w) r.2, r.3, rel_last us r.1 v w r.4 h)

pub rel_hold : (st : Vals) (kst : KWords) (i : ℕ) (v : Val) (w : KWord) → RelAll st kst → Rel v w →
    RelAll (E.hold i v st) (hold i w kst)
rel_hold Empty kst i v w r h = ap (hold i w) r
rel_hold (And u us) kst zero v w r h = (w, r.1, ap (hold 0 w) r.2, h, r.4)
rel_hold (And u us) kst (suc i) v w r h = (r.0, hold i w r.1, ap (hold (suc i) w) r.2, r.3, rel_hold us r.1 i v w r.4 h)

pub held_of : (st : Vals) (kst : KWords) (i : ℕ) (v : Val) → RelAll st kst → value_at st i ≡ Some v →
    (w : KWord) × (held i kst ≡ Some w) × Rel v w
held_of Empty kst i v r h = absurd (none v h)
  where
    none : (v : Val) → None ≡ Some v → ⊥
    none v e = cc
held_of (And u us) kst zero v r h = (r.0, ap (held 0) r.2, subst (λ u. Rel u r.0) (some_is h) r.3)
held_of (And u us) kst (suc i) v r h =
    let f = held_of us r.1 i v r.4 h in
    (f.0, ap (held (suc i)) r.2 ∙ f.1, f.2)

-- things that stand for the fields of a tuple
abbrev pub Dens : Things → KWords → Vals → Type 0
Dens NoThings kenv Empty = Unit {0}
Dens NoThings kenv (And v vs) = ⊥
Dens (MoreThings x xs) kenv Empty = ⊥
Dens (MoreThings x xs) kenv (And v vs) = Den x kenv v × Dens xs kenv vs

dens_words : (xs : Things) (kenv : KWords) (vs : Vals) → Dens xs kenv vs → (td : ℕ) (big : KWords) → Ext big kenv →
    (b : ℕ) (ks : KVals) → stand xs td (size big) ks → RelAll vs (kvs_value b ks big)
dens_words NoThings kenv Empty d td big e b ks st = subst (λ ks. RelAll Empty (kvs_value b ks big)) (sym st) refl
dens_words NoThings kenv (And v vs) d td big e b ks st = elim d [ ]
dens_words (MoreThings x xs) kenv Empty d td big e b ks st = elim d [ ]
dens_words (MoreThings x xs) kenv (And v vs) d td big e b ks (k, ks', eq, hx, st) =
    let w = gives x kenv v d.0 td big e b k hx in
    let ws = dens_words xs kenv vs d.1 td big e (kv_next b k) ks' st in
    subst (λ ks. RelAll (And v vs) (kvs_value b ks big)) (sym eq)
    (kv_value b k big, kvs_value (kv_next b k) ks' big, refl, w, ws)

pub den_tuple : (xs : Things) (kenv : KWords) (vs : Vals) → Dens xs kenv vs → Den (tuple_of xs) kenv (VTup vs)
den_tuple xs kenv vs d =
    record {
      gives = λ td big e b k h. subst (λ k. Rel (VTup vs) (kv_value b k big)) (sym h.1)
          (kvs_value b h.0 big, refl, dens_words xs kenv vs d td big e b h.0 h.2);
    }

-- the fields
pub field_of : (vs : Vals) (ws : KWords) (i : ℕ) (v : Val) → RelAll vs ws → value_at vs i ≡ Some v →
    (w : KWord) × (field (suc i) ws ≡ Some w) × Rel v w
field_of Empty ws i v r h = absurd (none_is_no_some v h)
  where
    none_is_no_some : (v : Val) → None ≡ Some v → ⊥
    none_is_no_some v e = cc
field_of (And u vs) ws zero v r h =
    (r.0, subst (λ ws. field 1 ws ≡ Some r.0) (sym r.2) refl, subst (λ u. Rel u r.0) (some_is h) r.3)
field_of (And u vs) ws (suc i) v r h =
    let f = field_of vs r.1 i v r.4 h in
    (f.0, subst (λ ws. field (suc (suc i)) ws ≡ Some f.0) (sym r.2) f.1, f.2)
