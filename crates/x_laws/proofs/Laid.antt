-- Blocks one after the other stand each at its place.
use Rattle.std.proofs.Common.{◌≡◌, ℕ, zero, suc, ◌+◌, ◌-◌, ◌<◌, ◌≤◌, ◌^◌, List, [], ◌∷◌, ◌++◌, length, drop}
use Rattle.std.proofs.Common.{Some}
use Rattle.std.proofs.Common.{refl, ap, sym, ◌∙◌, subst, arith, length-append, append_assoc, slice_get}
use Rattle.std.proofs.lemmas.List.{append-nil}
use Rattle.std.proofs.Common.{Bool, true, false, ltb, ltb-true, ltb-false}
use Rattle.x_terms.specs.Machine.{Image}
use Rattle.x_terms.specs.declared.register.Register.TheVariants.{Rax}
use Rattle.x_terms.specs.declared.instr.Instr.{Instr}
use Rattle.x_terms.specs.declared.instr.Instr.TheVariants.{Jcc, JmpReg}
use Rattle.x_laws.specs.Core.{bytes_all}
use Rattle.x_laws.specs.Homes.{Home}
use Rattle.x_laws.specs.Straight.{fetch}
use Rattle.x_code.specs.Bytes.{bytes_of}
use Rattle.x_laws.specs.Code.{far, condition, both, compare, instr_code, seq_code}
use Rattle.x_laws.specs.Going.{Standing, AllFit, IsSeq, IsLaid}
use Rattle.x_laws.specs.Layout.{size, place_from, code_from, program_code}
use Rattle.x_laws.proofs.Running.{further}
use Rattle.x_laws.proofs.Flow.{bytes_both}
use Rattle.w_terms.specs.Tree.{WInstr, WConst, WMove, WPlace, WArith, WLoad, WStore, WBranch, WWrite, WSeq}
use Rattle.w_terms.specs.Tree.{WThen, WJump, WGoto, WExit, WProg}
use Rattle.w_terms.specs.Machine.{Places}

-- an instruction takes as many bytes at any address, whatever the places are
same_instr : (homes : ℕ → Home) (p q : ℕ → ℕ) (a b : ℕ) (i : WInstr) →
    length (bytes_all (instr_code homes p a i)) ≡ length (bytes_all (instr_code homes q b i))
same_instr homes p q a b (WBranch t rs v l) =
    let xs : List Instr = both homes rs v in
    let cmp : Instr = compare homes rs v in
    let k : ℕ = length (bytes_all xs) in
    let i : Instr = Jcc (condition t) (far (a + k + length (bytes_of cmp) + 6) (p l)) in
    let j : Instr = Jcc (condition t) (far (b + k + length (bytes_of cmp) + 6) (q l)) in
    let ys : List Instr = cmp ∷ i ∷ [] in
    let zs : List Instr = cmp ∷ j ∷ [] in
    let tails : length (bytes_all ys) ≡ length (bytes_all zs) =
    length-append (bytes_of cmp) (bytes_of i ++ []) ∙ sym (length-append (bytes_of cmp) (bytes_of j ++ [])) in
    ap length (bytes_both xs ys) ∙ length-append (bytes_all xs) (bytes_all ys) ∙ ap (λ n. k + n) tails
    ∙ sym (ap length (bytes_both xs zs) ∙ length-append (bytes_all xs) (bytes_all zs))
same_instr homes p q a b (WConst rd k) = refl
same_instr homes p q a b (WMove rd rs) = refl
same_instr homes p q a b (WPlace rd l) = refl
same_instr homes p q a b (WArith o rd rs v) = refl
same_instr homes p q a b (WLoad rd ra off) = refl
same_instr homes p q a b (WStore ra off rs) = refl
same_instr homes p q a b (WWrite to ra rn) = refl

pub length_both : (xs ys : List Instr) → length (bytes_all (xs ++ ys)) ≡ length (bytes_all xs) + length (bytes_all ys)
length_both xs ys = ap length (bytes_both xs ys) ∙ length-append (bytes_all xs) (bytes_all ys)

pub same_size : (homes : ℕ → Home) (p q : ℕ → ℕ) (a b : ℕ) (c : WSeq) →
    length (bytes_all (seq_code homes p a c)) ≡ length (bytes_all (seq_code homes q b c))
same_size homes p q a b (WThen i c) =
    let xs : List Instr = instr_code homes p a i in
    let ys : List Instr = instr_code homes q b i in
    let first : length (bytes_all xs) ≡ length (bytes_all ys) = same_instr homes p q a b i in
    let rest = same_size homes p q (a + length (bytes_all xs)) (b + length (bytes_all ys)) c in
    length_both xs (seq_code homes p (a + length (bytes_all xs)) c)
    ∙ ap (λ k. k + length (bytes_all (seq_code homes p (a + length (bytes_all xs)) c))) first
    ∙ ap (λ k. length (bytes_all ys) + k) rest
    ∙ sym (length_both ys (seq_code homes q (b + length (bytes_all ys)) c))
same_size homes p q a b (WJump l) = refl
same_size homes p q a b (WGoto r) = refl
same_size homes p q a b (WExit status) = refl

first_stands : (m : Image) (a : ℕ) (xs ys : List ℕ) → Standing m a (xs ++ ys) → Standing m a xs
first_stands m a xs ys h = record {
  behind = h.behind;
  rest = ys ++ h.rest;
  is = h.is ∙ append_assoc xs ys h.rest;
}

some_seq : (b c : WSeq) → Some b ≡ Some c → b ≡ c
some_seq b c e = cc

pub stands_from : (m : Image) (homes : ℕ → Home) (place : ℕ → ℕ) (a : ℕ) (blocks : List WSeq) (l : ℕ) (c : WSeq) →
    slice_get blocks l ≡ Some c → Standing m a (code_from homes place a blocks) →
    Standing m (place_from homes a blocks l) (bytes_all (seq_code homes place (place_from homes a blocks l) c))
stands_from m homes place a [] l c e h = absurd (cc)
stands_from m homes place a (b ∷ bs) zero c e h =
    subst (λ x. Standing m a (bytes_all (seq_code homes place a x))) (some_seq b c e)
    (first_stands m a (bytes_all (seq_code homes place a b)) (code_from homes place (a + size homes b) bs) h)
stands_from m homes place a (b ∷ bs) (suc l) c e h =
    let xs : List ℕ = bytes_all (seq_code homes place a b) in
    let next : a + length xs ≡ a + size homes b = ap (λ k. a + k) (same_size homes place (λ j. 0) a 0 b) in
    stands_from m homes place (a + size homes b) bs l c e
    (subst (λ k. Standing m k (code_from homes place (a + size homes b) bs)) next
    (further m a xs (code_from homes place (a + size homes b) bs) h))

place_within : (homes : ℕ → Home) (place : ℕ → ℕ) (a : ℕ) (blocks : List WSeq) (l : ℕ) →
    place_from homes a blocks l ≤ a + length (code_from homes place a blocks)
place_within homes place a [] l = omega arith
place_within homes place a (b ∷ bs) zero = omega arith
place_within homes place a (b ∷ bs) (suc l) =
    let xs : List ℕ = bytes_all (seq_code homes place a b) in
    let ys : List ℕ = code_from homes place (a + size homes b) bs in
    let n : length xs ≡ size homes b = same_size homes place (λ j. 0) a 0 b in
    let rest : place_from homes (a + size homes b) bs l ≤ a + size homes b + length ys =
    place_within homes place (a + size homes b) bs l in
    omega (arith, length-append xs ys)

-- The code of a program stands: its jumps and its numbers fit, and its instructions are of registers below n.
pub is_laid : (m : Image) (n : ℕ) (homes : ℕ → Home) (blocks : List WSeq) →
    m.code ≡ program_code homes m.code_at blocks → m.code_at + length m.code < 2 ^ 64 → m.data_end < 2 ^ 64 →
    ((l : ℕ) (c : WSeq) → slice_get blocks l ≡ Some c →
    AllFit (seq_code homes (place_from homes m.code_at blocks) (place_from homes m.code_at blocks l) c)) →
    ((l : ℕ) (c : WSeq) → slice_get blocks l ≡ Some c → IsSeq n c) →
    IsLaid m n homes (place_from homes m.code_at blocks) blocks
is_laid m n homes blocks is small low fit fine =
    let place : ℕ → ℕ = place_from homes m.code_at blocks in
    let whole : Standing m m.code_at (code_from homes place m.code_at blocks) = record {
      behind = omega arith;
      rest = [];
      is =
          ap (λ k. drop k m.code) (none m.code_at) ∙ is
          ∙ sym (append-nil (code_from homes place m.code_at blocks));
    } in
    let all : length m.code ≡ length (code_from homes place m.code_at blocks) = ap length is in
    record {
      small = small;
      low = low;
      below = λ l c e.
          let within : place l ≤ m.code_at + length (code_from homes place m.code_at blocks) =
          place_within homes place m.code_at blocks l in
          omega arith;
      standing = λ l c e. stands_from m homes place m.code_at blocks l c e whole;
      fits = fit;
      fine = fine;
    }
  where
    none : (k : ℕ) → k - k ≡ 0
    none k = omega arith

-- ---- no two blocks stand at one place

some_bytes : (homes : ℕ → Home) (p : ℕ → ℕ) (a : ℕ) (c : WSeq) → 0 < length (bytes_all (seq_code homes p a c))
some_bytes homes p a (WThen i c) =
    let xs : List Instr = instr_code homes p a i in
    let ys : List Instr = seq_code homes p (a + length (bytes_all xs)) c in
    let some : 0 < length (bytes_all ys) = some_bytes homes p (a + length (bytes_all xs)) c in
    omega (arith, length_both xs ys)
some_bytes homes p a (WJump l) = omega arith
some_bytes homes p a (WGoto r) =
    let ys : List Instr = JmpReg Rax ∷ [] in
    omega (arith, length_both (fetch Rax (homes r)) ys)
some_bytes homes p a (WExit status) = omega arith

place_above : (homes : ℕ → Home) (a : ℕ) (blocks : List WSeq) (l : ℕ) → a ≤ place_from homes a blocks l
place_above homes a [] l = omega arith
place_above homes a (b ∷ bs) zero = omega arith
place_above homes a (b ∷ bs) (suc l) =
    let rest : a + size homes b ≤ place_from homes (a + size homes b) bs l =
    place_above homes (a + size homes b) bs l in
    omega arith

place_grows : (homes : ℕ → Home) (a : ℕ) (blocks : List WSeq) (l k : ℕ) → l < k → k < length blocks →
    place_from homes a blocks l < place_from homes a blocks k
place_grows homes a [] l k h f = absurd (omega arith)
place_grows homes a (b ∷ bs) l zero h f = absurd (omega arith)
place_grows homes a (b ∷ bs) zero (suc k) h f =
    let some : 0 < size homes b = some_bytes homes (λ j. 0) 0 b in
    let rest : a + size homes b ≤ place_from homes (a + size homes b) bs k =
    place_above homes (a + size homes b) bs k in
    omega arith
place_grows homes a (b ∷ bs) (suc l) (suc k) h f =
    place_grows homes (a + size homes b) bs l k (omega arith) (omega arith)

same_label : (homes : ℕ → Home) (a : ℕ) (blocks : List WSeq) (l k : ℕ) → l < length blocks → k < length blocks →
    place_from homes a blocks l ≡ place_from homes a blocks k → (b d : Bool) → ltb l k ≡ b → ltb k l ≡ d → l ≡ k
same_label homes a blocks l k fl fk e true d p q =
    let less : l < k = ltb-true l k p in
    let apart : place_from homes a blocks l < place_from homes a blocks k = place_grows homes a blocks l k less fk in
    absurd (omega arith)
same_label homes a blocks l k fl fk e false true p q =
    let less : k < l = ltb-true k l q in
    let apart : place_from homes a blocks k < place_from homes a blocks l = place_grows homes a blocks k l less fl in
    absurd (omega arith)
same_label homes a blocks l k fl fk e false false p q =
    let one : k ≤ l = ltb-false l k p in
    let two : l ≤ k = ltb-false k l q in
    omega arith

-- the places are those that word code asks for
pub are_places : (m : Image) (homes : ℕ → Home) (p : WProg) → m.code ≡ program_code homes m.code_at p.blocks →
    m.code_at + length m.code < 2 ^ 64 → Places (place_from homes m.code_at p.blocks) p
are_places m homes p is small =
    let place : ℕ → ℕ = place_from homes m.code_at p.blocks in
    let all : length m.code ≡ length (code_from homes place m.code_at p.blocks) = ap length is in (
      (λ l f.
          let within : place l ≤ m.code_at + length (code_from homes place m.code_at p.blocks) =
          place_within homes place m.code_at p.blocks l in
          omega arith),
      (λ l k fl fk e. same_label homes m.code_at p.blocks l k fl fk e (ltb l k) (ltb k l) refl refl),
    )
