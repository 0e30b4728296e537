-- How the blocks lie in the code, and which registers have places.
use Rattle.std.proofs.Common.{◌≡◌, ℕ, zero, suc, ◌+◌, ◌<◌, ◌≤◌, false, List, [], ◌∷◌, ◌++◌, length, refl, sym, ap}
use Rattle.std.proofs.Common.{◌∙◌, arith, inl, inr, ⊎_elim, Some, length-append}
use Rattle.std.proofs.lemmas.Bool.{cases_lt}
use Rattle.std.specs.BTreeMap.{is_at}
use Rattle.std.specs.Ordering.{nat_cmp, is_eq}
use Rattle.std.specs.Cmp.{nat_cmp_is}
use Rattle.std.specs.declared.cmp.Ordering.TheVariants.{Less, Greater}
use Rattle.t_terms.specs.Tree.{TEnd, Jmp, Halt}
use Rattle.t_terms.specs.Spanned.{seq_of}
use Rattle.t_terms.specs.Read.{body}
use Rattle.t_terms.specs.declared.instr.Instr.{Instr}
use Rattle.idx_core.specs.declared.span.Span.{Span}
use Rattle.t_rules.specs.Erase.{ESeq, erase_end, erase_seq}
use Rattle.t_machine.specs.Places.{PlaceList, register_place}
use Rattle.t_machine.specs.Laid.{size, sizes, begins, Within, PlacesAreReadBack, InBlock, InBlocks, HasPlace, Adds}

-- one block more
pub sizes_snoc : (cs : List ESeq) (c : ESeq) → sizes (cs ++ c ∷ []) ≡ sizes cs + size c
sizes_snoc [] c = omega arith
sizes_snoc (d ∷ cs) c = omega (arith, sizes_snoc cs c)

begins_snoc : (n : ℕ) (cs : List ESeq) (c : ESeq) → begins n (cs ++ c ∷ []) ≡ begins n cs ++ (n + sizes cs) ∷ []
begins_snoc n [] c = let none : n ≡ n + 0 = omega arith in ap (λ k. k ∷ []) none
begins_snoc n (d ∷ cs) c =
    let more : n + size d + sizes cs ≡ n + (size d + sizes cs) = omega arith in
    ap (λ ks. n ∷ ks) (begins_snoc (n + size d) cs c ∙ ap (λ k. begins (n + size d) cs ++ k ∷ []) more)

pub begins_more : (ks : List ℕ) (n : ℕ) (cs : List ESeq) (c : ESeq) → ks ≡ begins 0 cs → n ≡ sizes cs →
    ks ++ n ∷ [] ≡ begins 0 (cs ++ c ∷ [])
begins_more ks n cs c is count =
    let all : n ≡ 0 + sizes cs = omega (arith, count) in
    ap (λ xs. xs ++ n ∷ []) is ∙ ap (λ k. begins 0 cs ++ k ∷ []) all ∙ sym (begins_snoc 0 cs c)

pub sizes_more : {T : Type 0} (os done now : List T) (cs : List ESeq) (c : ESeq) → now ≡ os ++ done →
    length os ≡ sizes cs → size c ≡ length done → length now ≡ sizes (cs ++ c ∷ [])
sizes_more os done now cs c is count one = omega (arith, ap length is, length-append os done, sizes_snoc cs c)

pub size_of_end : (e : TEnd) → size (erase_end e) ≡ 1
size_of_end (Jmp v) = refl
size_of_end Halt = refl

-- a block of some instructions has its end too
pub size_of_body : (xs : List (Instr × Span)) (e : TEnd) → size (erase_seq (seq_of (body xs) e)) ≡ length xs + 1
size_of_body [] e = size_of_end e
size_of_body (x ∷ xs) e = omega (arith, size_of_body xs e)

-- places are read back
before : (n : ℕ) (cs : List ESeq) (b i at : ℕ) → Within n cs b i at → at < n → ⊥
before n [] b i at w lt = w
before n (c ∷ cs) zero i at w lt = omega (arith, w.1)
before n (c ∷ cs) (suc b) i at w lt = before (n + size c) cs b i at w (omega arith)

read_from : (n : ℕ) (cs : List ESeq) (b c i j at : ℕ) → Within n cs b i at → Within n cs c j at → (b ≡ c) × (i ≡ j)
read_from n [] b c i j at v w = absurd v
read_from n (d ∷ cs) zero zero i j at v w = (refl, omega (arith, v.1, w.1))
read_from n (d ∷ cs) zero (suc c) i j at v w = absurd (before (n + size d) cs c j at w (omega (arith, v.0, v.1)))
read_from n (d ∷ cs) (suc b) zero i j at v w = absurd (before (n + size d) cs b i at v (omega (arith, w.0, w.1)))
read_from n (d ∷ cs) (suc b) (suc c) i j at v w =
    let e = read_from (n + size d) cs b c i j at v w in
    (ap suc e.0, e.1)

pub read_back : PlacesAreReadBack
read_back cs b c i j at v w = read_from 0 cs b c i j at v w

-- registers with a place
pub adds_none : (m : PlaceList) (Q : ℕ → Type 0) → Adds m m Q
adds_none m Q r k h = inl (k, h)

pub adds_both : (m n p : PlaceList) (Q R S : ℕ → Type 0) → Adds m n Q → Adds n p R → ((r : ℕ) → Q r → S r) →
    ((r : ℕ) → R r → S r) → Adds m p S
adds_both m n p Q R S a b f g r k h =
    ⊎_elim
    (λ (x : HasPlace n r).
    ⊎_elim (λ (y : HasPlace m r). inl y) (λ (y : Q r). inr (f r y)) (a r x.0 x.1))
    (λ (x : R r). inr (g r x))
    (b r k h)

in_more : (cs : List ESeq) (c : ESeq) (r : ℕ) → InBlocks cs r → InBlocks (cs ++ c ∷ []) r
in_more [] c r h = absurd h
in_more (d ∷ cs) c r h = ⊎_elim (λ (x : InBlock d r). inl x) (λ (x : InBlocks cs r). inr (in_more cs c r x)) h

in_last : (cs : List ESeq) (c : ESeq) (r : ℕ) → InBlock c r → InBlocks (cs ++ c ∷ []) r
in_last [] c r h = inl h
in_last (d ∷ cs) c r h = inr (in_last cs c r h)

pub named_more : (m n : PlaceList) (cs : List ESeq) (c : ESeq) →
    ((r k : ℕ) → register_place m r ≡ Some k → InBlocks cs r) → Adds m n (InBlock c) → (r k : ℕ) →
    register_place n r ≡ Some k → InBlocks (cs ++ c ∷ []) r
named_more m n cs c named adds r k h =
    ⊎_elim (λ (x : HasPlace m r). in_more cs c r (named r x.0 x.1)) (λ (x : InBlock c r). in_last cs c r x) (adds r k h)

-- a register that gets a place
pub one_added : (old new : PlaceList) (register : ℕ) →
    ((q : ℕ) → is_at (nat_cmp register) q ≡ false → register_place new q ≡ register_place old q) → Adds old new (λ r.
    r ≡ register)
one_added old new register keeps r k h =
    ⊎_elim
    (λ (lt : r < register). let other : is_at (nat_cmp register) r ≡ false =
    ap is_eq (sym (nat_cmp_is register r Greater lt)) in inl (k, sym (keeps r other) ∙ h))
    (λ (ge : register ≤ r). ⊎_elim
    (λ (gt : register < r). let other : is_at (nat_cmp register) r ≡ false =
    ap is_eq (sym (nat_cmp_is register r Less gt)) in inl (k, sym (keeps r other) ∙ h))
    (λ (le : r ≤ register). inr (omega arith))
    (cases_lt register r))
    (cases_lt r register)
