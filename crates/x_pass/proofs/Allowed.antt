-- Blocks that have code, and what comes of it.
use Rattle.std.proofs.Common.{◌≡◌, ◌<◌, ℕ, zero, suc, List, [], ◌∷◌, map, length, drop, get_or}
use Rattle.std.proofs.Common.{Some, slice_get, subst, drop-cons, arith}
use Rattle.x_laws.specs.Going.{IsSeq, IsInstr, IsExit}
use Rattle.w_terms.specs.Tree.{WSeq, WExit}
use Rattle.w_terms.specs.Read.{instr, seq, block, end_of}
use Rattle.w_terms.specs.declared.instr.WInstr.{WInstr as Instr}
use Rattle.w_terms.specs.declared.instr.WInstr.TheVariants as I
use Rattle.w_terms.specs.declared.instr.WEnd.{WEnd}
use Rattle.w_terms.specs.declared.program.WBlock.{WBlock}
use Rattle.x_pass.specs.Short.{AreShort, HasStatus, AreFine, AreSeqs}
use Rattle.x_pass.specs.Layout.{AreAllShort}

-- offsets are short
pub short_of : (n : ℕ) (items : List Instr) (end : WEnd) → IsSeq n (seq items end) → AreShort items
short_of n [] end f = tt
short_of n (I.Const rd k ∷ is) end f = (tt, short_of n is end f.1)
short_of n (I.Move rd rs ∷ is) end f = (tt, short_of n is end f.1)
short_of n (I.Place rd l ∷ is) end f = (tt, short_of n is end f.1)
short_of n (I.Arith o rd rs x ∷ is) end f = (tt, short_of n is end f.1)
short_of n (I.Load rd ra off ∷ is) end f = (f.0.2, short_of n is end f.1)
short_of n (I.Store ra off rs ∷ is) end f = (f.0.1, short_of n is end f.1)
short_of n (I.Branch t rs x l ∷ is) end f = (tt, short_of n is end f.1)
short_of n (I.Write to ra rn ∷ is) end f = (tt, short_of n is end f.1)

pub all_short_of : (n : ℕ) (blocks : List WBlock) → AreFine n blocks → AreAllShort blocks
all_short_of n [] f = tt
all_short_of n (b ∷ bs) f = (short_of n b.body.items b.end f.0, all_short_of n bs f.2)

pub seqs_of : (n : ℕ) (blocks : List WBlock) → AreFine n blocks → AreSeqs n (map block blocks)
seqs_of n [] f = tt
seqs_of n (b ∷ bs) f = (f.0, seqs_of n bs f.2)

-- the status of an exit behind a body
status_of : (items : List Instr) (end : WEnd) → HasStatus (end_of end) → HasStatus (seq items end)
status_of [] end f = f
status_of (i ∷ is) end f = status_of is end f

-- each block by its number
pub each_fine : (n : ℕ) (blocks : List WBlock) → AreFine n blocks → (l : ℕ) (c : WSeq) →
    slice_get (map block blocks) l ≡ Some c → IsSeq n c × HasStatus c
each_fine n [] f l c e = absurd (cc)
each_fine n (b ∷ bs) f zero c e =
    let is : block b ≡ c = cc in
    subst (λ x. IsSeq n x × HasStatus x) is (f.0, status_of b.body.items b.end f.1)
each_fine n (b ∷ bs) f (suc l) c e = each_fine n bs f.2 l c e

-- what stands in front of a rest is allowed in front of an exit
alone : (n : ℕ) (i : Instr) (c : WSeq) → IsInstr n (instr i) c → IsInstr n (instr i) (WExit 0)
alone n (I.Const rd k) c f = f
alone n (I.Move rd rs) c f = f
alone n (I.Place rd l) c f = f
alone n (I.Arith o rd rs x) c f = f
alone n (I.Load rd ra off) c f = f
alone n (I.Store ra off rs) c f = f
alone n (I.Branch t rs x l) c f = f
alone n (I.Write to ra rn) c f = (f.0, f.1, f.2, tt)

pub next_alone : (n i : ℕ) (items : List Instr) (end : WEnd) (d : Instr) → i < length items →
    IsSeq n (seq (drop i items) end) → IsInstr n (instr (get_or items i d)) (WExit 0)
next_alone n i items end d lt f =
    let rest : WSeq = seq (drop (suc i) items) end in
    alone n (get_or items i d) rest (subst (λ xs. IsSeq n (seq xs end)) (drop-cons items i d lt) f).0

-- no exit stands where an instruction does
pub no_exit : (i : ℕ) (items : List Instr) (end : WEnd) → i < length items → IsExit (seq (drop i items) end) → ⊥
no_exit i [] end lt f = omega (arith, lt)
no_exit zero (x ∷ xs) end lt f = f
no_exit (suc i) (x ∷ xs) end lt f = no_exit i xs end (omega (arith, lt)) f
