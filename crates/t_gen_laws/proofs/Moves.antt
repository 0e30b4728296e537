-- Words that are moved into registers: the code is typed, and has the property, where what follows does.
use Rattle.std.proofs.Common.{◌≡◌, ℕ, [], ◌∷◌, Some, refl, ap, ◌∙◌}
use Rattle.std.specs.Prelude.{◌≢◌, true}
use Rattle.std.proofs.lemmas.Bool.{eqb-true, cond_both}
use Rattle.t_types.specs.Tree.{Ty}
use Rattle.t_types.specs.Fits.{RegTypes}
use Rattle.t_terms.specs.Tree as T
use Rattle.t_terms.specs.Tree.{TValue, TSeq, Then, TProg}
use Rattle.t_terms.specs.Registers.{with_reg}
use Rattle.t_rules.specs.Rules as R
use Rattle.t_gen_rules.specs.Gen.{reg, inside, boxed, stands, move, home, settle}
use Rattle.t_gen_laws.specs.TypesEach.{TProp, HasEach, SeqEach}
use Rattle.t_gen_laws.proofs.Covers.{look_same, look_other}

module _ (Q : TProp) (P : TProg) where
  pub each_has : (k : ℕ) (f : RegTypes) (x : TValue) (u : Ty) → HasEach Q P k f x u → R.Has P k f x u
  each_has k f (T.Plain b us) u h = h.0
  each_has k f (T.Pack hid v s) u h = h.0

  pub reg_each : (k : ℕ) (f : RegTypes) (r : ℕ) (u : Ty) → f r ≡ Some u → Q k u → HasEach Q P k f (reg r) u
  reg_each k f r u e q = (e, (u, e, q, q, tt))

  pub mov_each : (k : ℕ) (f : RegTypes) (r : ℕ) (x : TValue) (u : Ty) (rest : TSeq) → HasEach Q P k f x u →
      ((h : RegTypes) → h r ≡ Some u → ((q : ℕ) → q ≢ r → h q ≡ f q) → SeqEach Q P k h rest) →
      SeqEach Q P k f (Then (T.Mov r x) rest)
  mov_each k f r x u rest h go = (
    with_reg f r u,
    (u, each_has k f x u h, refl),
    (u, h),
    go (with_reg f r u) (look_same f r u) (λ q ne. look_other f r q u ne),
  )

  pub box_each : (k : ℕ) (f : RegTypes) (s : ℕ) (x : TValue) (u : Ty) (rest : TSeq) → HasEach Q P k f x u → Q k u →
      ((h : RegTypes) → HasEach Q P k h (inside s x) u → ((q : ℕ) → q ≢ s → h q ≡ f q) → SeqEach Q P k h rest) →
      SeqEach Q P k f (boxed s x rest)
  box_each k f s (T.Plain b us) u rest h q go = go f h (λ q ne. refl)
  box_each k f s (T.Pack y v w) u rest h q go =
      mov_each k f s (T.Pack y v w) u rest h (λ f2 e o. go f2 (reg_each k f2 s u e q) o)

  pub stands_type : (k : ℕ) (f : RegTypes) (r : ℕ) (x : TValue) (u : Ty) → stands r x ≡ true → HasEach Q P k f x u →
      f r ≡ Some u
  stands_type k f r (T.Plain (T.Reg q) []) u e h = ap f (eqb-true r q e) ∙ h.0
  stands_type k f r (T.Plain (T.Reg q) (t ∷ ts)) u e h = cc
  stands_type k f r (T.Plain (T.Int i) us) u e h = cc
  stands_type k f r (T.Plain (T.Label l) us) u e h = cc
  stands_type k f r (T.Plain (T.Data n) us) u e h = cc
  stands_type k f r (T.Pack y v w) u e h = cc

  pub move_each : (k : ℕ) (f : RegTypes) (r : ℕ) (x : TValue) (u : Ty) (rest : TSeq) → HasEach Q P k f x u →
      ((h : RegTypes) → h r ≡ Some u → ((q : ℕ) → q ≢ r → h q ≡ f q) → SeqEach Q P k h rest) →
      SeqEach Q P k f (move r x rest)
  move_each k f r x u rest h go =
      cond_both (stands r x) rest (Then (T.Mov r x) rest) (SeqEach Q P k f)
      (λ c. go f (stands_type k f r x u c h) (λ q ne. refl))
      (λ c. mov_each k f r x u rest h go)

  pub settle_each : (k : ℕ) (f : RegTypes) (s : ℕ) (x : TValue) (u : Ty) (rest : TSeq) → HasEach Q P k f x u →
      ((h : RegTypes) → h (home s x) ≡ Some u → ((q : ℕ) → q ≢ s → h q ≡ f q) → SeqEach Q P k h rest) →
      SeqEach Q P k f (settle s x rest)
  settle_each k f s (T.Plain (T.Reg r) []) u rest h go = go f h.0 (λ q ne. refl)
  settle_each k f s (T.Plain (T.Reg r) (t ∷ ts)) u rest h go =
      mov_each k f s (T.Plain (T.Reg r) (t ∷ ts)) u rest h go
  settle_each k f s (T.Plain (T.Int i) us) u rest h go = mov_each k f s (T.Plain (T.Int i) us) u rest h go
  settle_each k f s (T.Plain (T.Label l) us) u rest h go = mov_each k f s (T.Plain (T.Label l) us) u rest h go
  settle_each k f s (T.Plain (T.Data n) us) u rest h go = mov_each k f s (T.Plain (T.Data n) us) u rest h go
  settle_each k f s (T.Pack y v w) u rest h go = mov_each k f s (T.Pack y v w) u rest h go
