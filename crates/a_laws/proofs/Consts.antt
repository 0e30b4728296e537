-- The numbers of data.
use Rattle.std.proofs.Common.{◌≡◌, ℕ, suc, ◌+◌, List, [], ◌∷◌, ◌++◌, length, Some, sym, ap, ◌∙◌, arith}
use Rattle.std.proofs.Common.{length-append}
use Rattle.std.specs.Prelude.{Bool, true, false, slice_get}
use Rattle.a_laws.specs.Allocate.{Known, are_const, arg_depth, arg_levels, atypes, d_next, d_types, data_all}
use Rattle.a_laws.specs.Allocate.{data_block, data_d, data_t, data_v, data_vs, datum_of, known_of, n_all, n_block, n_d}
use Rattle.a_laws.specs.Allocate.{n_t, n_v, n_vs, one_more, v_next}
use Rattle.a_terms.specs.Meaning.{pick}
use Rattle.a_terms.specs.Tree.{AConsts, ATy}
use Rattle.a_terms.specs.Typing.{types_of}
use Rattle.h_terms.specs.H.{HApply, HArith, HBlk, HBlks, HCall, HCell, HDecl, HGet, HHalt, HIf, HInt, HLabel, HLet}
use Rattle.h_terms.specs.H.{HName, HPack, HProj, HSet, HTm, HTuple, HUnpack, HVal, HVals, HVar, MoreHVals, NoHVals}
use Rattle.idx_core.proofs.Lists.{get_front as nth_more}

-- xs stand in D from number b on
abbrev pub Within : {A : Type 0} → List A → ℕ → List A → Type 0
Within {A} D b xs = (i : ℕ) (x : A) → slice_get xs i ≡ Some x → slice_get D (b + i) ≡ Some x

nth_back : {A : Type 0} (xs ys : List A) (i : ℕ) → slice_get (xs ++ ys) (length xs + i) ≡ slice_get ys i
nth_back [] ys i = let e : 0 + i ≡ i = omega arith in ap (slice_get ys) e
nth_back (x ∷ xs) ys i =
    let e : suc (length xs) + i ≡ suc (length xs + i) = omega arith in
    ap (slice_get (x ∷ (xs ++ ys))) e ∙ nth_back xs ys i

pub front : {A : Type 0} (D : List A) (b : ℕ) (xs ys : List A) → Within D b (xs ++ ys) → Within D b xs
front D b xs ys w i x e = w i x (nth_more xs ys i x e)

pub back : {A : Type 0} (D : List A) (b c : ℕ) (xs ys : List A) → c ≡ b + length xs → Within D b (xs ++ ys) →
    Within D c ys
back D b c xs ys q w i x e =
    let z : b + (length xs + i) ≡ c + i = omega (arith, q) in
    ap (slice_get D) (sym z) ∙ w (length xs + i) x (nth_back xs ys i ∙ e)

pub whole : {A : Type 0} (D : List A) → Within D 0 D
whole D i x e = let z : 0 + i ≡ i = omega arith in ap (slice_get D) z ∙ e

-- a number after a tree is that before it and the count of the tree's data
pub more_len : {A : Type 0} (b n : ℕ) (xs ys : List A) → n ≡ b + length xs → (c : ℕ) → c ≡ n + length ys →
    c ≡ b + length (xs ++ ys)
more_len b n xs ys e c f = omega (arith, e, f, length-append xs ys)

one_len : (c : Bool) (n : ℕ) (x : AConsts) → one_more c n ≡ n + length (pick c (x ∷ []) [])
one_len true n x = omega arith
one_len false n x = omega arith

module _ (ks : HBlks) (g : List ATy) (ls : List Known) where
  mutual
    pub len_v : (v : HVal) (b : ℕ) → n_v ls b v ≡ b + length (data_v ks g ls b v)
    len_v (HVar i) b = omega arith
    len_v (HInt n) b = omega arith
    len_v (HLabel l) b = omega arith
    len_v (HTuple vs) b =
        let x = datum_of ks g ls b vs in
        more_len b (n_vs ls b vs) (data_vs ks g ls b vs) (pick (are_const ls vs) (x ∷ []) []) (len_vs vs b)
        (one_more (are_const ls vs) (n_vs ls b vs)) (one_len (are_const ls vs) (n_vs ls b vs) x)
    len_v (HApply v ts) b = len_v v b
    len_v (HPack h v s) b = len_v v b

    pub len_vs : (vs : HVals) (b : ℕ) → n_vs ls b vs ≡ b + length (data_vs ks g ls b vs)
    len_vs NoHVals b = omega arith
    len_vs (MoreHVals v vs) b =
        more_len b (n_v ls b v) (data_v ks g ls b v) (data_vs ks g ls (n_v ls b v) vs) (len_v v b)
        (n_vs ls (n_v ls b v) vs) (len_vs vs (n_v ls b v))

  two_len : (v w : HVal) (b : ℕ) →
      n_v ls (n_v ls b v) w ≡ b + length (data_v ks g ls b v ++ data_v ks g ls (n_v ls b v) w)
  two_len v w b =
      more_len b (n_v ls b v) (data_v ks g ls b v) (data_v ks g ls (n_v ls b v) w) (len_v v b) (n_v ls (n_v ls b v) w)
      (len_v w (n_v ls b v))

  pub len_d : (e : HDecl) (b : ℕ) → n_d ls b e ≡ b + length (data_d ks g ls b e)
  len_d (HName v) b = len_v v b
  len_d (HProj i v) b = len_v v b
  len_d (HArith op v w) b = two_len v w b
  len_d (HUnpack v) b = len_v v b
  len_d (HCell v) b = len_v v b
  len_d (HGet v) b = len_v v b
  len_d (HSet v w) b = two_len v w b

pub len_t : (ks : HBlks) (t : HTm) (g : List ATy) (ls : List Known) (b d : ℕ) →
    n_t ls b d t ≡ b + length (data_t ks g ls b d t)
len_t ks (HLet e t) g ls b d =
    more_len b (n_d ls b e) (data_d ks g ls b e)
    (data_t ks (d_types ks g e) (known_of ls b d e ∷ ls) (n_d ls b e) (suc (d_next ls d e)) t)
    (len_d ks g ls e b) _ (len_t ks t (d_types ks g e) (known_of ls b d e ∷ ls) (n_d ls b e) (suc (d_next ls d e)))
len_t ks (HCall f ts vs) g ls b d =
    more_len b (n_v ls b f) (data_v ks g ls b f) (data_vs ks g ls (n_v ls b f) vs) (len_v ks g ls f b) _
    (len_vs ks g ls vs (n_v ls b f))
len_t ks (HIf v t u) g ls b d =
    let b1 = n_v ls b v in
    let d1 = v_next ls d v in
    let b2 = n_t ls b1 d1 t in
    let x = data_t ks g ls b1 d1 t in
    let y = data_t ks g ls b2 d1 u in
    more_len b b1 (data_v ks g ls b v) (x ++ y) (len_v ks g ls v b) (n_t ls b2 d1 u)
    (more_len b1 b2 x y (len_t ks t g ls b1 d1) (n_t ls b2 d1 u) (len_t ks u g ls b2 d1))
len_t ks (HHalt v) g ls b d = len_v ks g ls v b

pub len_block : (ks : HBlks) (k : HBlk) (b : ℕ) → n_block b k ≡ b + length (data_block ks b k)
len_block ks k b = len_t ks k.body (types_of (atypes k.args) []) (arg_levels 0 [] k.args) b (arg_depth 0 k.args)

pub len_all : (ks xs : HBlks) (b : ℕ) → n_all b xs ≡ b + length (data_all ks b xs)
len_all ks [] b = omega arith
len_all ks (x ∷ xs) b =
    more_len b (n_block b x) (data_block ks b x) (data_all ks (n_block b x) xs) (len_block ks x b)
    (n_all (n_block b x) xs) (len_all ks xs (n_block b x))

-- the data tuple of a tuple of constants is there
pub datum_there : (D : List AConsts) (ks : HBlks) (g : List ATy) (ls : List Known) (b : ℕ) (vs : HVals) →
    Within D b (data_v ks g ls b (HTuple vs)) → are_const ls vs ≡ true →
    slice_get D (n_vs ls b vs) ≡ Some (datum_of ks g ls b vs)
datum_there D ks g ls b vs w e =
    let x = datum_of ks g ls b vs in
    let n = n_vs ls b vs in
    let r = back D b n (data_vs ks g ls b vs) (pick (are_const ls vs) (x ∷ []) []) (len_vs ks g ls vs b) w in
    let z : n + 0 ≡ n = omega arith in
    ap (slice_get D) (sym z) ∙ r 0 x (ap (λ q. slice_get (pick q (x ∷ []) []) 0) e)
