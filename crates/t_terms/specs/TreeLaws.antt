-- What the general laws of shift, put and below ask of values, instructions, sequences and blocks: one case for each
-- constructor.
use Rattle.std.proofs.Common.{◌≡◌, ℕ, ◌+◌, ◌↔◌, suc, refl, ap, ap₂, ◌∙◌}
use Rattle.idx_core.specs.Over.{deep, At, IsOver, IsEach, shifted, BelowAt, AnyDepth}
use Rattle.idx_core.specs.Laws as laws
use Rattle.t_types.specs.Tree.{Ty, TFile, VarTy, over, each}
use Rattle.t_types.specs.TreeLaws.{types_part, types_over, types_each, type_is_below, list_is_below, file_over}
use Rattle.t_types.specs.TreeLaws.{list_over, list_each, keeps_more, after_more}
use Rattle.t_terms.specs.Tree.{TValue, Plain, Pack, TInstr, Arith, Bnz, Ld, Malloc, Mov, St, Unpack, TEnd, Jmp, Halt}
use Rattle.t_terms.specs.Tree.{TSeq, Then, Ends, TBlock, over_value, over_instr, over_end, over_seq, over_block}
use Rattle.t_terms.specs.Tree.{each_value, each_instr, each_end, shift_value, shift_instr}

pub ap₃ : {X Y Z W : Type 0} (f : X → Y → Z → W) {x x' : X} {y y' : Y} {z z' : Z} → x ≡ x' → y ≡ y' → z ≡ z' →
    f x y z ≡ f x' y' z'
ap₃ f {x' = x'} {y' = y'} {z = z} p q r = ap₂ (λ x y. f x y z) p q ∙ ap (f x' y') r

-- what a walk is given: at each variable it keeps it; two walks make a third; two agree; what it makes has W
abbrev pub Keeps : At Ty → ℕ → Type 0
Keeps f a = (e i : ℕ) → f (deep a e) i ≡ VarTy i

abbrev pub Makes : At Ty → At Ty → At Ty → ℕ → ℕ → ℕ → Type 0
Makes f g h a b c = (e i : ℕ) → over g (deep b e) (f (deep a e) i) ≡ h (deep c e) i

abbrev pub Agrees : (ℕ → ℕ → Type 0) → At Ty → At Ty → ℕ → ℕ → ℕ → Type 0
Agrees V f g a b m = (e i : ℕ) → V (deep m e) i → f (deep a e) i ≡ g (deep b e) i

abbrev pub Gives : (ℕ → ℕ → Type 0) → (ℕ → ℕ → Type 0) → (ℕ → Type 0) → At Ty → ℕ → ℕ → ℕ → Type 0
Gives V W D f a n m = (e i : ℕ) → V (deep n e) i → each W D (deep m e) (f (deep a e) i)

abbrev pub Deepens : (ℕ → Type 0) → (ℕ → Type 0) → ℕ → ℕ → Type 0
Deepens B D n m = (e : ℕ) → B (deep n e) → D (deep m e)

-- values
keeps_value : (f : At Ty) (a : ℕ) → Keeps f a → (v : TValue) → over_value f a v ≡ v
keeps_value f a h (Plain b ts) = ap (Plain b) (list_over.keeps f a h ts)
keeps_value f a h (Pack t v s) = ap₃ Pack (types_over.keeps f a h t) (keeps_value f a h v) (types_over.keeps f a h s)

after_value : (f g h : At Ty) (a b c : ℕ) → Makes f g h a b c → (v : TValue) →
    over_value g b (over_value f a v) ≡ over_value h c v
after_value f g h a b c k (Plain x ts) = ap (Plain x) (list_over.after f g h a b c k ts)
after_value f g h a b c k (Pack t v s) =
    ap₃ Pack (types_over.after f g h a b c k t) (after_value f g h a b c k v) (types_over.after f g h a b c k s)

agree_value : (V : ℕ → ℕ → Type 0) (B : ℕ → Type 0) (f g : At Ty) (a b m : ℕ) → Agrees V f g a b m → (v : TValue) →
    each_value V B m v → over_value f a v ≡ over_value g b v
agree_value V B f g a b m k (Plain x ts) u = ap (Plain x) (list_each.agree V B f g a b m k ts u)
agree_value V B f g a b m k (Pack t v s) u =
    ap₃ Pack (types_each.has.agree V B f g a b m k t u.0) (agree_value V B f g a b m k v u.1)
    (types_each.has.agree V B f g a b m k s u.2)

made_value : (V W : ℕ → ℕ → Type 0) (B D : ℕ → Type 0) (f : At Ty) (a n m : ℕ) → Gives V W D f a n m → Deepens B D n m →
    (v : TValue) → each_value V B n v → each_value W D m (over_value f a v)
made_value V W B D f a n m k l (Plain x ts) u = list_each.made V W B D f a n m k l ts u
made_value V W B D f a n m k l (Pack t v s) u = (
  types_each.has.made V W B D f a n m k l t u.0,
  made_value V W B D f a n m k l v u.1,
  types_each.has.made V W B D f a n m k l s u.2,
)

-- instructions
keeps_instr : (f : At Ty) (a : ℕ) → Keeps f a → (i : TInstr) → over_instr f a i ≡ i
keeps_instr f a h (Arith op rd rs v) = ap (Arith op rd rs) (keeps_value f a h v)
keeps_instr f a h (Bnz r v) = ap (Bnz r) (keeps_value f a h v)
keeps_instr f a h (Ld rd rs i) = refl
keeps_instr f a h (Malloc rd ts) = ap (Malloc rd) (list_over.keeps f a h ts)
keeps_instr f a h (Mov rd v) = ap (Mov rd) (keeps_value f a h v)
keeps_instr f a h (St rd i rs) = refl
keeps_instr f a h (Unpack rd v) = ap (Unpack rd) (keeps_value f a h v)

after_instr : (f g h : At Ty) (a b c : ℕ) → Makes f g h a b c → (i : TInstr) →
    over_instr g b (over_instr f a i) ≡ over_instr h c i
after_instr f g h a b c k (Arith op rd rs v) = ap (Arith op rd rs) (after_value f g h a b c k v)
after_instr f g h a b c k (Bnz r v) = ap (Bnz r) (after_value f g h a b c k v)
after_instr f g h a b c k (Ld rd rs i) = refl
after_instr f g h a b c k (Malloc rd ts) = ap (Malloc rd) (list_over.after f g h a b c k ts)
after_instr f g h a b c k (Mov rd v) = ap (Mov rd) (after_value f g h a b c k v)
after_instr f g h a b c k (St rd i rs) = refl
after_instr f g h a b c k (Unpack rd v) = ap (Unpack rd) (after_value f g h a b c k v)

agree_instr : (V : ℕ → ℕ → Type 0) (B : ℕ → Type 0) (f g : At Ty) (a b m : ℕ) → Agrees V f g a b m → (i : TInstr) →
    each_instr V B m i → over_instr f a i ≡ over_instr g b i
agree_instr V B f g a b m k (Arith op rd rs v) u = ap (Arith op rd rs) (agree_value V B f g a b m k v u)
agree_instr V B f g a b m k (Bnz r v) u = ap (Bnz r) (agree_value V B f g a b m k v u)
agree_instr V B f g a b m k (Ld rd rs i) u = refl
agree_instr V B f g a b m k (Malloc rd ts) u = ap (Malloc rd) (list_each.agree V B f g a b m k ts u)
agree_instr V B f g a b m k (Mov rd v) u = ap (Mov rd) (agree_value V B f g a b m k v u)
agree_instr V B f g a b m k (St rd i rs) u = refl
agree_instr V B f g a b m k (Unpack rd v) u = ap (Unpack rd) (agree_value V B f g a b m k v u)

made_instr : (V W : ℕ → ℕ → Type 0) (B D : ℕ → Type 0) (f : At Ty) (a n m : ℕ) → Gives V W D f a n m → Deepens B D n m →
    (i : TInstr) → each_instr V B n i → each_instr W D m (over_instr f a i)
made_instr V W B D f a n m k l (Arith op rd rs v) u = made_value V W B D f a n m k l v u
made_instr V W B D f a n m k l (Bnz r v) u = made_value V W B D f a n m k l v u
made_instr V W B D f a n m k l (Ld rd rs i) u = tt
made_instr V W B D f a n m k l (Malloc rd ts) u = list_each.made V W B D f a n m k l ts u
made_instr V W B D f a n m k l (Mov rd v) u = made_value V W B D f a n m k l v u
made_instr V W B D f a n m k l (St rd i rs) u = tt
made_instr V W B D f a n m k l (Unpack rd v) u = made_value V W B D f a n m k l v u

-- ends
keeps_end : (f : At Ty) (a : ℕ) → Keeps f a → (e : TEnd) → over_end f a e ≡ e
keeps_end f a h (Jmp v) = ap Jmp (keeps_value f a h v)
keeps_end f a h Halt = refl

after_end : (f g h : At Ty) (a b c : ℕ) → Makes f g h a b c → (e : TEnd) →
    over_end g b (over_end f a e) ≡ over_end h c e
after_end f g h a b c k (Jmp v) = ap Jmp (after_value f g h a b c k v)
after_end f g h a b c k Halt = refl

agree_end : (V : ℕ → ℕ → Type 0) (B : ℕ → Type 0) (f g : At Ty) (a b m : ℕ) → Agrees V f g a b m → (e : TEnd) →
    each_end V B m e → over_end f a e ≡ over_end g b e
agree_end V B f g a b m k (Jmp v) u = ap Jmp (agree_value V B f g a b m k v u)
agree_end V B f g a b m k Halt u = refl

made_end : (V W : ℕ → ℕ → Type 0) (B D : ℕ → Type 0) (f : At Ty) (a n m : ℕ) → Gives V W D f a n m → Deepens B D n m →
    (e : TEnd) → each_end V B n e → each_end W D m (over_end f a e)
made_end V W B D f a n m k l (Jmp v) u = made_value V W B D f a n m k l v u
made_end V W B D f a n m k l Halt u = tt

-- sequences: an unpack deepens the rest
keeps_seq : (f : At Ty) (a : ℕ) → Keeps f a → (c : TSeq) → over_seq f a c ≡ c
keeps_seq f a h (Then (Arith op rd rs v) c) = ap₂ Then (keeps_instr f a h (Arith op rd rs v)) (keeps_seq f a h c)
keeps_seq f a h (Then (Bnz r v) c) = ap₂ Then (keeps_instr f a h (Bnz r v)) (keeps_seq f a h c)
keeps_seq f a h (Then (Ld rd rs j) c) = ap₂ Then (keeps_instr f a h (Ld rd rs j)) (keeps_seq f a h c)
keeps_seq f a h (Then (Malloc rd ts) c) = ap₂ Then (keeps_instr f a h (Malloc rd ts)) (keeps_seq f a h c)
keeps_seq f a h (Then (Mov rd v) c) = ap₂ Then (keeps_instr f a h (Mov rd v)) (keeps_seq f a h c)
keeps_seq f a h (Then (St rd j rs) c) = ap₂ Then (keeps_instr f a h (St rd j rs)) (keeps_seq f a h c)
keeps_seq f a h (Then (Unpack rd v) c) =
    ap₂ Then (keeps_instr f a h (Unpack rd v)) (keeps_seq f (a + 1) (λ e. h (suc e)) c)
keeps_seq f a h (Ends e) = ap Ends (keeps_end f a h e)

after_seq : (f g h : At Ty) (a b c : ℕ) → Makes f g h a b c → (s : TSeq) →
    over_seq g b (over_seq f a s) ≡ over_seq h c s
after_seq f g h a b c k (Then (Arith op rd rs v) s) =
    ap₂ Then (after_instr f g h a b c k (Arith op rd rs v)) (after_seq f g h a b c k s)
after_seq f g h a b c k (Then (Bnz r v) s) = ap₂ Then (after_instr f g h a b c k (Bnz r v)) (after_seq f g h a b c k s)
after_seq f g h a b c k (Then (Ld rd rs j) s) =
    ap₂ Then (after_instr f g h a b c k (Ld rd rs j)) (after_seq f g h a b c k s)
after_seq f g h a b c k (Then (Malloc rd ts) s) =
    ap₂ Then (after_instr f g h a b c k (Malloc rd ts)) (after_seq f g h a b c k s)
after_seq f g h a b c k (Then (Mov rd v) s) =
    ap₂ Then (after_instr f g h a b c k (Mov rd v)) (after_seq f g h a b c k s)
after_seq f g h a b c k (Then (St rd j rs) s) =
    ap₂ Then (after_instr f g h a b c k (St rd j rs)) (after_seq f g h a b c k s)
after_seq f g h a b c k (Then (Unpack rd v) s) =
    ap₂ Then (after_instr f g h a b c k (Unpack rd v)) (after_seq f g h (a + 1) (b + 1) (c + 1) (λ e. k (suc e)) s)
after_seq f g h a b c k (Ends e) = ap Ends (after_end f g h a b c k e)

-- blocks
abbrev block_of : ℕ → TFile → TSeq → TBlock
block_of n file c = record { owes = n; file = file; code = c }

keeps_block : (f : At Ty) (a : ℕ) → Keeps f a → (b : TBlock) → over_block f a b ≡ b
keeps_block f a h b = ap₂ (block_of b.owes) (file_over.keeps f (a + b.owes) (keeps_more f a b.owes h) b.file)
    (keeps_seq f (a + b.owes) (keeps_more f a b.owes h) b.code)

after_block : (f g h : At Ty) (a b c : ℕ) → Makes f g h a b c → (x : TBlock) →
    over_block g b (over_block f a x) ≡ over_block h c x
after_block f g h a b c k x =
    let more = after_more f g h a b c x.owes k in
    ap₂ (block_of x.owes) (file_over.after f g h (a + x.owes) (b + x.owes) (c + x.owes) more x.file)
    (after_seq f g h (a + x.owes) (b + x.owes) (c + x.owes) more x.code)

pub value_over : IsOver Ty TValue VarTy over over_value
value_over = record { keeps = keeps_value; after = after_value }

pub value_each : IsEach Ty TValue each over_value each_value
value_each = record { agree = agree_value; made = made_value }

pub instr_over : IsOver Ty TInstr VarTy over over_instr
instr_over = record { keeps = keeps_instr; after = after_instr }

pub instr_each : IsEach Ty TInstr each over_instr each_instr
instr_each = record { agree = agree_instr; made = made_instr }

pub end_over : IsOver Ty TEnd VarTy over over_end
end_over = record { keeps = keeps_end; after = after_end }

pub end_each : IsEach Ty TEnd each over_end each_end
end_each = record { agree = agree_end; made = made_end }

pub seq_over : IsOver Ty TSeq VarTy over over_seq
seq_over = record { keeps = keeps_seq; after = after_seq }

pub block_over : IsOver Ty TBlock VarTy over over_block
block_over = record { keeps = keeps_block; after = after_block }

-- what a shift leaves as it is has no free type index from its cut on
still_value : (n : ℕ) (v : TValue) → shift_value 1 n v ≡ v → each_value BelowAt AnyDepth n v
still_value n (Plain b ts) e = (list_is_below n ts).1 (cc)
still_value n (Pack t v s) e = ((type_is_below n t).1 (cc), still_value n v (cc), (type_is_below n s).1 (cc))

still_instr : (n : ℕ) (i : TInstr) → shift_instr 1 n i ≡ i → each_instr BelowAt AnyDepth n i
still_instr n (Arith op rd rs v) e = still_value n v (cc)
still_instr n (Bnz r v) e = still_value n v (cc)
still_instr n (Ld rd rs i) e = tt
still_instr n (Malloc rd ts) e = (list_is_below n ts).1 (cc)
still_instr n (Mov rd v) e = still_value n v (cc)
still_instr n (St rd i rs) e = tt
still_instr n (Unpack rd v) e = still_value n v (cc)

still_end : (n : ℕ) (x : TEnd) → over_end (shifted VarTy 1) n x ≡ x → each_end BelowAt AnyDepth n x
still_end n (Jmp v) e = still_value n v (cc)
still_end n Halt e = tt

pub value_is_below : (n : ℕ) (v : TValue) → each_value BelowAt AnyDepth n v ↔ (shift_value 1 n v ≡ v)
value_is_below n v = laws.below_is types_part types_each value_over value_each still_value n v

pub instr_is_below : (n : ℕ) (i : TInstr) → each_instr BelowAt AnyDepth n i ↔ (shift_instr 1 n i ≡ i)
instr_is_below n i = laws.below_is types_part types_each instr_over instr_each still_instr n i

pub end_is_below : (n : ℕ) (x : TEnd) → each_end BelowAt AnyDepth n x ↔ (over_end (shifted VarTy 1) n x ≡ x)
end_is_below n x = laws.below_is types_part types_each end_over end_each still_end n x
