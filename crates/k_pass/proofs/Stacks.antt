-- Stacks in vectors, and what a state is still to write.
use Rattle.std.proofs.Common.{◌≡◌, ℕ, suc, ◌+◌, ◌-◌, ◌<◌, ◌≤◌, List, [], ◌∷◌, ◌++◌, map, length, get_or, refl, sym, ap}
use Rattle.std.proofs.Common.{◌∙◌, arith, sum_by, Vec, Global, ◌⊎◌, inl, inr}
use Rattle.std.proofs.lemmas.Bool.{cases_lt}
use Rattle.std.proofs.lemmas.List.Sums.{sum_by-cons, sum_by-append}
use Rattle.f_terms.specs.Noted.{Noted}
use Rattle.k_laws.specs.Cps.{Level, type_level, atom_at}
use Rattle.k_pass.specs.Emit.{Scope, deliver}
use Rattle.k_pass.specs.Machine.{Nodes, atom, folded, levels, atoms, at, Rests, top, below, through, rests, Todo, todo}
use Rattle.k_pass.specs.Machine.{says, stream, written, frame_steps, control_steps, owed, Begins, Steps, after}
use Rattle.k_pass.specs.Machine.{rest_of}
use Rattle.k_pass.specs.declared.work.Atom.{Atom}
use Rattle.k_pass.specs.declared.work.Atom.TheVariants as A
use Rattle.k_pass.specs.declared.work.Frame.{Frame}
use Rattle.k_pass.specs.declared.work.Control.{Control}
use Rattle.k_pass.specs.declared.work.Control.TheVariants as C
use Rattle.k_pass.specs.declared.work.Work.{Work}

module _ {A B : Type 0} (f : A → B → B) where
  pub folded_push : (b : B) (xs ys : List A) (x : A) → ys ≡ xs ++ x ∷ [] → folded f b ys ≡ f x (folded f b xs)
  folded_push b xs ys x e = ap (folded f b) e ∙ go b xs
    where
      go : (b : B) (xs : List A) → folded f b (xs ++ x ∷ []) ≡ f x (folded f b xs)
      go b [] = refl
      go b (y ∷ xs) = go (f y b) xs

module _ {A : Type 0} (f : A → ℕ) where
  pub sum_push : (xs ys : List A) (x : A) → ys ≡ xs ++ x ∷ [] → sum_by f ys ≡ sum_by f xs + f x
  sum_push xs ys x e = omega (arith, ap (sum_by f) e, sum_by-append f xs (x ∷ []), sum_by-cons f x [])

module _ {A B : Type 0} (f : A → B) where
  pub map_push : (xs ys : List A) (x : A) → ys ≡ xs ++ x ∷ [] → map f ys ≡ map f xs ++ f x ∷ []
  map_push xs ys x e = ap (map f) e ∙ go xs
    where
      go : (xs : List A) → map f (xs ++ x ∷ []) ≡ map f xs ++ f x ∷ []
      go [] = refl
      go (y ∷ xs) = ap (λ zs. f y ∷ zs) (go xs)

-- a state whose stacks are known
pub arrives : (t : ℕ → Noted) (w : Work) (c : Control) (ks : Rests) (td : Todo) (tv : ℕ) (q : Scope) →
    rests t w.frames.items ≡ ks → todo t w.pending.items ≡ td → w.types ≡ tv → at w ≡ q →
    stream t w c ≡ says t ks td tv q c
arrives t w c ks td tv q e f v g =
    ap (λ (k : Rests). says t k (todo t w.pending.items) w.types (at w) c) e
    ∙ ap (λ (d : Todo). says t ks d w.types (at w) c) f
    ∙ ap (λ (n : ℕ). says t ks td n (at w) c) v
    ∙ ap (λ (p : Scope). says t ks td tv p c) g

-- nodes are written first
pub wrote : (t : ℕ → Noted) (w w1 w' : Work) (c' : Control) (n : ℕ) (ns ms : Nodes) →
    written w1 ++ ns ≡ written w ++ ms → owed t w1 ≡ owed t w → Begins t w1 ns n w' c' → Begins t w ms n w' c'
wrote t w w1 w' c' n ns ms e o (b, l) = (sym e ∙ b, omega (arith, o, l))

-- a frame is taken first
pub popped : (t : ℕ → Noted) (w : Work) (v : Vec Frame Global) (f : Frame) (a : Atom) (d : ℕ) (w' : Work)
    (c' : Control) →
    w.frames.items ≡ v.items ++ f ∷ [] →
    Begins t (record w { frames = v })
    (deliver (top (through t f (rests t v.items)) (at w)) w.types d (atom a)
    (todo t w.pending.items (at w) (below (through t f (rests t v.items))))) (1 + frame_steps t f) w' c' →
    Steps t w (C.Give a d) w' c'
popped t w v f a d w' c' e (b, l) = (
  ap (λ (ks : Rests). written w ++ says t ks (todo t w.pending.items) w.types (at w) (C.Give a d))
      (folded_push (through t) [] _ _ f e) ∙ b,
  omega (arith, l, sum_push (frame_steps t) _ _ f e),
)

-- a frame is put last
pub pushed : (t : ℕ → Noted) (w : Work) (v : Vec Frame Global) (f : Frame) (ms : Nodes) (n : ℕ) (c : Control) →
    v.items ≡ w.frames.items ++ f ∷ [] →
    ms ≡ says t (through t f (rests t w.frames.items)) (todo t w.pending.items) w.types (at w) c →
    control_steps t c + frame_steps t f < n →
    Begins t w ms n (record w { frames = v }) c
pushed t w v f ms n c e same less = (
  ap (λ (x : Nodes). written w ++ x)
      (same ∙ ap (λ (ks : Rests). says t ks (todo t w.pending.items) w.types (at w) c)
      (sym (folded_push (through t) [] _ _ f e))),
  omega (arith, less, sum_push (frame_steps t) _ _ f e),
)

-- the name of a level is given where there is one name more
pub given_next : (t : ℕ → Noted) (w : Work) (l d inside n : ℕ) → inside ≡ d → 1 < n →
    Begins t w (deliver (rest_of t w) w.types d (Level l) (after t w)) n w (C.Give (A.Level l) inside)
given_next t w l d inside n e less = (
  ap (λ (x : ℕ). written w ++ deliver (rest_of t w) w.types x (Level l) (after t w)) (sym e),
  omega arith,
)

-- what stands at a place of a stack
module _ {A B : Type 0} (f : A → B) (z : A) (pick : List B → ℕ → B)
    (first : (x : B) (xs : List B) → pick (x ∷ xs) 0 ≡ x)
    (next : (x : B) (xs : List B) (i : ℕ) → pick (x ∷ xs) (suc i) ≡ pick xs i) where
  abbrev stack : List B → List A → List B
  stack ls xs = folded (λ x ns. f x ∷ ns) ls xs

  pub past : (ls : List B) (xs : List A) (i : ℕ) → length xs ≤ i → pick (stack ls xs) i ≡ pick ls (i - length xs)
  past ls [] i le = ap (pick ls) (omega arith)
  past ls (x ∷ xs) i le =
      past (f x ∷ ls) xs i (omega arith)
      ∙ ap (pick (f x ∷ ls)) (let e : i - length xs ≡ suc (i - suc (length xs)) = omega arith in e)
      ∙ next (f x) ls (i - suc (length xs))

  pub within : (ls : List B) (xs : List A) (i : ℕ) → i < length xs →
      pick (stack ls xs) i ≡ f (get_or xs (length xs - 1 - i) z)
  within ls [] i lt = absurd (omega (arith, lt))
  within ls (x ∷ xs) i lt = pick_one (within (f x ∷ ls) xs i) (cases_lt i (length xs))
    where
      pick_one : (i < length xs → pick (stack (f x ∷ ls) xs) i ≡ f (get_or xs (length xs - 1 - i) z)) →
          (i < length xs) ⊎ (length xs ≤ i) →
          pick (stack (f x ∷ ls) xs) i ≡ f (get_or (x ∷ xs) (suc (length xs) - 1 - i) z)
      pick_one more (inl h) =
          more h ∙ ap (λ (k : ℕ). f (get_or (x ∷ xs) k z))
          (let e : suc (length xs - 1 - i) ≡ suc (length xs) - 1 - i = omega (arith, h) in e)
      pick_one more (inr h) =
          past (f x ∷ ls) xs i h
          ∙ ap (pick (f x ∷ ls)) (let e : i - length xs ≡ 0 = omega (arith, lt) in e)
          ∙ first (f x) ls
          ∙ ap (λ (k : ℕ). f (get_or (x ∷ xs) k z)) (let e : 0 ≡ suc (length xs) - 1 - i = omega (arith, h, lt) in e)

pub level_in : (xs : List ℕ) (i : ℕ) → i < length xs → type_level (levels xs) i ≡ get_or xs (length xs - 1 - i) 0
level_in xs i lt = within (λ (x : ℕ). x) 0 type_level (λ x xs. refl) (λ x xs i. refl) [] xs i lt

pub level_past : (xs : List ℕ) (i : ℕ) → length xs ≤ i → type_level (levels xs) i ≡ 0
level_past xs i le = past (λ (x : ℕ). x) 0 type_level (λ x xs. refl) (λ x xs i. refl) [] xs i le

pub atom_in : (xs : List Atom) (z : Atom) (i : ℕ) → i < length xs →
    atom_at (atoms xs) i ≡ atom (get_or xs (length xs - 1 - i) z)
atom_in xs z i lt = within atom z atom_at (λ x xs. refl) (λ x xs i. refl) [] xs i lt

pub atom_past : (xs : List Atom) (i : ℕ) → length xs ≤ i → atom_at (atoms xs) i ≡ Level 0
atom_past xs i le = past atom (A.Level 0) atom_at (λ x xs. refl) (λ x xs i. refl) [] xs i le
