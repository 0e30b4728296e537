-- What the general laws of shift, put and below ask of a block with its places.
use Rattle.std.proofs.Common.{◌≡◌, ℕ, ◌+◌, ◌↔◌, suc, refl, ap, ap₂, List, [], ◌∷◌}
use Rattle.idx_core.specs.Over.{At, IsOver, shifted, BelowAt, AnyDepth}
use Rattle.idx_core.specs.declared.span.Span.{Span}
use Rattle.t_types.specs.Tree.{Ty, TFile, VarTy, over, over_file}
use Rattle.t_types.specs.TreeLaws.{file_over, file_is_below, keeps_more, after_more}
use Rattle.t_terms.specs.Tree.{TInstr, Arith, Bnz, Ld, Malloc, Mov, St, Unpack, TEnd, TSeq, Then, TBlock, names_after}
use Rattle.t_terms.specs.Tree.{over_instr, over_end, over_block, over_seq, shift_instr}
use Rattle.t_terms.specs.TreeLaws.{ap₃, instr_over, end_over, instr_is_below, end_is_below, Keeps, Makes}
use Rattle.t_terms.specs.Spanned.{SBlock, over_body, over_spanned, each_body, each_spanned, body_depth, plain, seq_of}

-- one entry, and the rest
abbrev entry : TInstr → Span → List (TInstr × Span) → List (TInstr × Span)
entry i s xs = (i, s) ∷ xs

abbrev Body : Type 0
Body = List (TInstr × Span)

keeps_body : (f : At Ty) (a : ℕ) → Keeps f a → (xs : Body) → over_body f a xs ≡ xs
keeps_body f a h [] = refl
keeps_body f a h ((Arith op rd rs v, s) ∷ xs) =
    ap₂ (λ i ys. entry i s ys) (instr_over.keeps f a h (Arith op rd rs v)) (keeps_body f a h xs)
keeps_body f a h ((Bnz r v, s) ∷ xs) =
    ap₂ (λ i ys. entry i s ys) (instr_over.keeps f a h (Bnz r v)) (keeps_body f a h xs)
keeps_body f a h ((Ld rd rs j, s) ∷ xs) =
    ap₂ (λ i ys. entry i s ys) (instr_over.keeps f a h (Ld rd rs j)) (keeps_body f a h xs)
keeps_body f a h ((Malloc rd ts, s) ∷ xs) =
    ap₂ (λ i ys. entry i s ys) (instr_over.keeps f a h (Malloc rd ts)) (keeps_body f a h xs)
keeps_body f a h ((Mov rd v, s) ∷ xs) =
    ap₂ (λ i ys. entry i s ys) (instr_over.keeps f a h (Mov rd v)) (keeps_body f a h xs)
keeps_body f a h ((St rd j rs, s) ∷ xs) =
    ap₂ (λ i ys. entry i s ys) (instr_over.keeps f a h (St rd j rs)) (keeps_body f a h xs)
keeps_body f a h ((Unpack rd v, s) ∷ xs) =
    ap₂ (λ i ys. entry i s ys) (instr_over.keeps f a h (Unpack rd v)) (keeps_body f (a + 1) (λ e. h (suc e)) xs)

keeps_last : (f : At Ty) (a : ℕ) → Keeps f a → (xs : Body) (e : TEnd) → over_end f (body_depth xs a) e ≡ e
keeps_last f a h [] e = end_over.keeps f a h e
keeps_last f a h ((Arith op rd rs v, s) ∷ xs) e = keeps_last f a h xs e
keeps_last f a h ((Bnz r v, s) ∷ xs) e = keeps_last f a h xs e
keeps_last f a h ((Ld rd rs j, s) ∷ xs) e = keeps_last f a h xs e
keeps_last f a h ((Malloc rd ts, s) ∷ xs) e = keeps_last f a h xs e
keeps_last f a h ((Mov rd v, s) ∷ xs) e = keeps_last f a h xs e
keeps_last f a h ((St rd j rs, s) ∷ xs) e = keeps_last f a h xs e
keeps_last f a h ((Unpack rd v, s) ∷ xs) e = keeps_last f (a + 1) (λ e. h (suc e)) xs e

after_body : (f g h : At Ty) (a b c : ℕ) → Makes f g h a b c → (xs : Body) →
    over_body g b (over_body f a xs) ≡ over_body h c xs
after_body f g h a b c k [] = refl
after_body f g h a b c k ((Arith op rd rs v, s) ∷ xs) =
    ap₂ (λ i ys. entry i s ys) (instr_over.after f g h a b c k (Arith op rd rs v)) (after_body f g h a b c k xs)
after_body f g h a b c k ((Bnz r v, s) ∷ xs) =
    ap₂ (λ i ys. entry i s ys) (instr_over.after f g h a b c k (Bnz r v)) (after_body f g h a b c k xs)
after_body f g h a b c k ((Ld rd rs j, s) ∷ xs) =
    ap₂ (λ i ys. entry i s ys) (instr_over.after f g h a b c k (Ld rd rs j)) (after_body f g h a b c k xs)
after_body f g h a b c k ((Malloc rd ts, s) ∷ xs) =
    ap₂ (λ i ys. entry i s ys) (instr_over.after f g h a b c k (Malloc rd ts)) (after_body f g h a b c k xs)
after_body f g h a b c k ((Mov rd v, s) ∷ xs) =
    ap₂ (λ i ys. entry i s ys) (instr_over.after f g h a b c k (Mov rd v)) (after_body f g h a b c k xs)
after_body f g h a b c k ((St rd j rs, s) ∷ xs) =
    ap₂ (λ i ys. entry i s ys) (instr_over.after f g h a b c k (St rd j rs)) (after_body f g h a b c k xs)
after_body f g h a b c k ((Unpack rd v, s) ∷ xs) =
    ap₂ (λ i ys. entry i s ys) (instr_over.after f g h a b c k (Unpack rd v))
    (after_body f g h (a + 1) (b + 1) (c + 1) (λ e. k (suc e)) xs)

after_last : (f g h : At Ty) (a b c : ℕ) → Makes f g h a b c → (xs : Body) (e : TEnd) →
    over_end g (body_depth (over_body f a xs) b) (over_end f (body_depth xs a) e) ≡ over_end h (body_depth xs c) e
after_last f g h a b c k [] e = end_over.after f g h a b c k e
after_last f g h a b c k ((Arith op rd rs v, s) ∷ xs) e = after_last f g h a b c k xs e
after_last f g h a b c k ((Bnz r v, s) ∷ xs) e = after_last f g h a b c k xs e
after_last f g h a b c k ((Ld rd rs j, s) ∷ xs) e = after_last f g h a b c k xs e
after_last f g h a b c k ((Malloc rd ts, s) ∷ xs) e = after_last f g h a b c k xs e
after_last f g h a b c k ((Mov rd v, s) ∷ xs) e = after_last f g h a b c k xs e
after_last f g h a b c k ((St rd j rs, s) ∷ xs) e = after_last f g h a b c k xs e
after_last f g h a b c k ((Unpack rd v, s) ∷ xs) e = after_last f g h (a + 1) (b + 1) (c + 1) (λ e. k (suc e)) xs e

-- the places aside, it is the walk of a sequence
plain_body : (f : At Ty) (a : ℕ) (xs : Body) (e : TEnd) →
    seq_of (over_body f a xs) (over_end f (body_depth xs a) e) ≡ over_seq f a (seq_of xs e)
plain_body f a [] e = refl
plain_body f a ((Arith op rd rs v, s) ∷ xs) e = ap (Then (over_instr f a (Arith op rd rs v))) (plain_body f a xs e)
plain_body f a ((Bnz r v, s) ∷ xs) e = ap (Then (over_instr f a (Bnz r v))) (plain_body f a xs e)
plain_body f a ((Ld rd rs j, s) ∷ xs) e = ap (Then (over_instr f a (Ld rd rs j))) (plain_body f a xs e)
plain_body f a ((Malloc rd ts, s) ∷ xs) e = ap (Then (over_instr f a (Malloc rd ts))) (plain_body f a xs e)
plain_body f a ((Mov rd v, s) ∷ xs) e = ap (Then (over_instr f a (Mov rd v))) (plain_body f a xs e)
plain_body f a ((St rd j rs, s) ∷ xs) e = ap (Then (over_instr f a (St rd j rs))) (plain_body f a xs e)
plain_body f a ((Unpack rd v, s) ∷ xs) e = ap (Then (over_instr f a (Unpack rd v))) (plain_body f (a + 1) xs e)

abbrev spanned_of : SBlock → TFile → Body → TEnd → SBlock
spanned_of b file xs e =
    record { name = b.name; owes = b.owes; file = file; body = xs; last = e; last_span = b.last_span }

keeps_spanned : (f : At Ty) (a : ℕ) → Keeps f a → (b : SBlock) → over_spanned f a b ≡ b
keeps_spanned f a h b =
    let more = keeps_more f a b.owes h in
    ap₃ (spanned_of b) (file_over.keeps f (a + b.owes) more b.file) (keeps_body f (a + b.owes) more b.body)
    (keeps_last f (a + b.owes) more b.body b.last)

after_spanned : (f g h : At Ty) (a b c : ℕ) → Makes f g h a b c → (x : SBlock) →
    over_spanned g b (over_spanned f a x) ≡ over_spanned h c x
after_spanned f g h a b c k x =
    let more = after_more f g h a b c x.owes k in
    ap₃ (spanned_of x) (file_over.after f g h (a + x.owes) (b + x.owes) (c + x.owes) more x.file)
    (after_body f g h (a + x.owes) (b + x.owes) (c + x.owes) more x.body)
    (after_last f g h (a + x.owes) (b + x.owes) (c + x.owes) more x.body x.last)

pub spanned_over : IsOver Ty SBlock VarTy over over_spanned
spanned_over = record { keeps = keeps_spanned; after = after_spanned }

-- a shift leaves a body as it is exactly where no type index is free from its cut on
moved_body : (n : ℕ) (xs : Body) → each_body BelowAt AnyDepth n xs → over_body (shifted VarTy 1) n xs ≡ xs
moved_body n [] u = refl
moved_body n ((i, s) ∷ xs) u =
    ap₂ (λ j ys. entry j s ys) ((instr_is_below n i).0 u.0) (moved_body (names_after i n) xs u.2)

still_body : (n : ℕ) (xs : Body) → over_body (shifted VarTy 1) n xs ≡ xs → each_body BelowAt AnyDepth n xs
still_body n [] e = tt
still_body n (x ∷ xs) e =
    let first : Path (TInstr × Span) (shift_instr 1 n x.0, x.1) x = cc in
    ((instr_is_below n x.0).1 (ap (λ (y : TInstr × Span). y.0) first), tt, still_body (names_after x.0 n) xs (cc))

moved_spanned : (n : ℕ) (b : SBlock) → each_spanned BelowAt AnyDepth n b → over_spanned (shifted VarTy 1) n b ≡ b
moved_spanned n b u =
    ap₃ (spanned_of b) ((file_is_below (n + b.owes) b.file).0 u.1) (moved_body (n + b.owes) b.body u.2)
    ((end_is_below (body_depth b.body (n + b.owes)) b.last).0 u.3)

still_spanned : (n : ℕ) (b : SBlock) → over_spanned (shifted VarTy 1) n b ≡ b → each_spanned BelowAt AnyDepth n b
still_spanned n b e = (
  tt,
  (file_is_below (n + b.owes) b.file).1 (ap (λ (x : SBlock). x.file) e),
  still_body (n + b.owes) b.body (ap (λ (x : SBlock). x.body) e),
  (end_is_below (body_depth b.body (n + b.owes)) b.last).1 (ap (λ (x : SBlock). x.last) e),
)

pub spanned_is_below : (n : ℕ) (b : SBlock) →
    each_spanned BelowAt AnyDepth n b ↔ (over_spanned (shifted VarTy 1) n b ≡ b)
spanned_is_below n b = (moved_spanned n b, still_spanned n b)

abbrev block_of : ℕ → TFile → TSeq → TBlock
block_of n file c = record { owes = n; file = file; code = c }

pub plain_over : (f : At Ty) (a : ℕ) (b : SBlock) → plain (over_spanned f a b) ≡ over_block f a (plain b)
plain_over f a b = ap (block_of b.owes (over_file f (a + b.owes) b.file)) (plain_body f (a + b.owes) b.body b.last)
