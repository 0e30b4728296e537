-- The places of a program as a walk comes to them: their instructions, and what is known there as a file.
use Rattle.std.proofs.Common.{◌≡◌, ℕ, zero, suc, ◌+◌, ◌<◌, ◌≤◌, nat_eq, Bool, true, false, cond, List, [], ◌∷◌}
use Rattle.std.proofs.Common.{◌++◌, length, map, drop, get_or, Option, Some, None, refl, sym, ap, ◌∙◌, subst}
use Rattle.std.proofs.Common.{arith, slice_get, option_and_then, All, inl, inr, ◌⊎◌, Bor, MatchOption}
use Rattle.std.specs.Prelude.{option_map}
use Rattle.std.specs.Map.{lookup as found_in}
use Rattle.std.specs.BTreeMap.{is_at}
use Rattle.std.specs.Ordering.{nat_cmp, is_eq}
use Rattle.std.specs.Cmp.{nat_cmp_is}
use Rattle.std.specs.declared.cmp.Ordering.TheVariants.{Less, Equal, Greater}
use Rattle.std.specs.List.{AllByRecursion}
use Rattle.std.specs.List.Sorted.{IsStrictlySortedBy}
use Rattle.std.proofs.lemmas.List.Elements.{All-nil, All-cons, All-head, All-tail}
use Rattle.std.proofs.Math.Path.{fun_ext}
use Rattle.std.proofs.Math.Logic.{∥∥₁_map}
use Rattle.std.proofs.lemmas.Bool.{cases_order}
use Rattle.std.proofs.lemmas.Bool.Decides.{nat_tests}
use Rattle.std.proofs.lemmas.List.{append-nil}
use Rattle.t_types.specs.Read.{tree, reg}
use Rattle.t_types.specs.declared.types.TType.{TType}
use Rattle.idx_core.specs.declared.span.Span.{Span}
use Rattle.t_types.specs.Tree.{Ty, IntTy, VarTy, CodeTy, ExistsTy, TupleTy, Below, BelowFile, regs}
use Rattle.t_types.specs.Fits.{RegTypes, lookup}
use Rattle.t_types.specs.WellFormed.{max_names}
use Rattle.t_terms.specs.Tree.{TEnd, TSeq, Then, Ends, TBlock, TProg, names_after}
use Rattle.t_terms.specs.Spanned.{seq_of}
use Rattle.t_terms.specs.Read.{instr, end_of, body, block}
use Rattle.t_terms.specs.ReadProgram.{program}
use Rattle.t_terms.specs.Whole.{WellFormedInstr, WellFormedSeq}
use Rattle.t_terms.specs.declared.block.Block.{Block}
use Rattle.t_terms.specs.declared.instr.Instr.{Instr}
use Rattle.t_terms.specs.declared.program.TProgram.{TProgram}
use Rattle.t_rules.specs.Known.{KnownFrom, KnownAt, seq_from, code_at}
use Rattle.t_rules.specs.Rules.{Typed, Accepted}
use Rattle.t_rules.specs.LawsSound.{PlacesAreTyped}
use Rattle.idx_core.specs.Over.{BelowAt, AnyDepth}
use Rattle.t_types.specs.Bounds.{ShallowAt, ShallowBelow, Shallow, OwedAt, OwedBelow, Bounded}
use Rattle.t_known.specs.Fitted.{RisesFrom, Rises}
use Rattle.t_known.specs.Known.{seen, entry_of, known, IsEntry, IsSound}
use Rattle.t_known.specs.Labels.{AreLabels}
use Rattle.t_check.specs.Walks.{IsFileOf, IsStand, IsWalk}
use Rattle.t_known.specs.declared.labels.Labels.{Labels}
use Rattle.t_check.specs.declared.walk.Stand.{Stand}
use Rattle.t_check.specs.declared.walk.Walk.{Walk}
use Rattle.t_intern.specs.Grown.{Grown}
use Rattle.t_known.proofs.Noting.{known_grown, sound_grown}
use Rattle.t_known.proofs.Numbering.{labels_grown}
use Rattle.t_known.specs.declared.registers.Entry.{Entry}
use Rattle.t_known.specs.declared.registers.Registers.{Registers}
use Rattle.t_check.proofs.Blocks.{formed_at}
use Rattle.t_rules.proofs.Depth.{weaker, weaker_file}
use Rattle.t_check.proofs.Typing.{entry_bounded}
use Rattle.idx_core.proofs.Numbers.{before as less_key}
use Rattle.t_terms.proofs.Items.{block_at}

abbrev pub Steps : Type 0
Steps = List (Instr × Span)

-- an instruction of a block, and the rest of it
at_body : (xs : Steps) (last : TEnd) (i : ℕ) (y : Instr × Span) → i < length xs → y ≡ get_or xs i y →
    seq_from i (seq_of (body xs) last) ≡ Some (Then (instr y.0) (seq_of (body (drop (suc i) xs)) last))
at_body [] last i y lt is = absurd (omega (arith, lt))
at_body (x ∷ xs) last zero y lt is = ap (λ (z : Instr × Span). Some (Then (instr z.0) (seq_of (body xs) last))) (sym is)
at_body (x ∷ xs) last (suc i) y lt is = at_body xs last i y (omega (arith, lt)) is

in_body : (xs : Steps) (last : TEnd) (k : ℕ) (c : TSeq) → seq_from k (seq_of (body xs) last) ≡ Some c → k ≤ length xs
in_body xs last zero c e = omega arith
in_body [] last (suc k) c e = cc
in_body (x ∷ xs) last (suc k) c e = let le = in_body xs last k c e in omega (arith, le)

-- the rest of a block is well formed under the names that are in scope there
formed_from : (P : TProg) (p q : ℕ) (c : TSeq) (k n m : ℕ) (g h : RegTypes) (rest : TSeq) → KnownFrom P n g c k m h →
    seq_from k c ≡ Some rest → WellFormedSeq p q n c → WellFormedSeq p q m rest
formed_from P p q c zero n m g h rest known e formed =
    let same : c ≡ rest = cc in
    subst (WellFormedSeq p q m) same (subst (λ j. WellFormedSeq p q j c) (sym known.0) formed)
formed_from P p q (Then i c) (suc k) n m g h rest known e formed =
    formed_from P p q c k (names_after i n) m known.0 h rest known.2 e formed.2
formed_from P p q (Ends x) (suc k) n m g h rest known e formed = cc

module _ (p : TProgram) (b : ℕ) (x : Block) (lt : b < length p.blocks.items) (is : x ≡ get_or p.blocks.items b x) where
  there : slice_get (program p).blocks b ≡ Some (block x)
  there = block_at p.blocks.items b x lt is

  code_is : (i : ℕ) → code_at (program p) b i ≡ seq_from i (block x).code
  code_is i = ap (option_and_then (λ (y : TBlock). seq_from i y.code)) there

  -- a place is in the block, or at its end
  pub inside : (k : ℕ) (c : TSeq) → code_at (program p) b k ≡ Some c → k ≤ length x.body.items
  inside k c e = in_body x.body.items (end_of x.«end») k c (sym (code_is k) ∙ e)

  -- what is known at the start
  pub known_first : (n : ℕ) (g : RegTypes) → n ≡ (block x).owes → g ≡ lookup (block x).file →
      KnownAt (program p) b 0 n g
  known_first n g e f = (block x, there, (e, f))

  module _ (i : ℕ) (y : Instr × Span) (less : i < length x.body.items) (at : y ≡ get_or x.body.items i y) where
    abbrev rest : TSeq
    rest = seq_of (body (drop (suc i) x.body.items)) (end_of x.«end»)

    step_at : seq_from i (block x).code ≡ Some (Then (instr y.0) rest)
    step_at = at_body x.body.items (end_of x.«end») i y less at

    pub code_here : code_at (program p) b i ≡ Some (Then (instr y.0) rest)
    code_here = code_is i ∙ step_at

    module _ (n : ℕ) (g : RegTypes) (known : KnownAt (program p) b i n g) where
      same : known.0 ≡ block x
      same = let a = known.1 in let e = there in cc

      formed : WellFormedSeq (length p.blocks.items) (length p.heap.items) n (Then (instr y.0) rest)
      formed =
          let from = subst (λ (z : TBlock). KnownFrom (program p) z.owes (lookup z.file) z.code i n g) same known.2 in
          formed_from (program p) (length p.blocks.items) (length p.heap.items) (block x).code i (block x).owes n
          (lookup (block x).file) g _ from step_at (formed_at p b x lt is p.whole.0).2

      pub formed_here : WellFormedInstr (length p.blocks.items) (length p.heap.items) n (instr y.0)
      formed_here = formed.0

      pub few_here : names_after (instr y.0) n ≤ max_names
      few_here = formed.1

      pub typed_here : PlacesAreTyped → ∥ Accepted (program p) ∥₁ →
          ∥ ((h : RegTypes) × Typed (program p) n g (instr y.0) h) ∥₁
      typed_here law some = ∥∥₁_map some (λ acc. law (program p) acc b i n g (instr y.0) rest known code_here)

-- the block of a place is there
pub block_there : (p : TProgram) (b k : ℕ) (c : TSeq) → code_at (program p) b k ≡ Some c → b < length p.blocks.items
block_there p b k c e = go p.blocks.items b e
  where
    go : (bs : List Block) (l : ℕ) →
        option_and_then (λ (y : TBlock). seq_from k y.code) (slice_get (Rattle.t_terms.specs.Read.blocks_of bs) l)
        ≡ Some c → l < length bs
    go [] l h = cc
    go (x ∷ bs) zero h = omega arith
    go (x ∷ bs) (suc l) h = let lt = go bs l h in omega (arith, lt)

-- the registers, each with the type that is known of it
abbrev pub Entries : Type 0
Entries = List (ℕ × Entry)

abbrev pub shown : List Ty → ℕ → Entries → List (ℕ × Ty)
shown ts n es = map (λ (e : ℕ × Entry). (e.0, seen ts n e.1)) es

same_key : (r q : ℕ) → is_eq (nat_cmp r q) ≡ nat_eq q r
same_key r q = by_order (cases_order r q)
  where
    by_order : (r ≡ q) ⊎ ((r < q) ⊎ (q < r)) → is_eq (nat_cmp r q) ≡ nat_eq q r
    by_order (inl e) =
        let yes : nat_eq q r ≡ true = grind (arith, nat_tests, e) in ap is_eq (sym (nat_cmp_is r q Equal e)) ∙ sym yes
    by_order (inr (inl l)) =
        let no : nat_eq q r ≡ false = grind (arith, nat_tests, l) in ap is_eq (sym (nat_cmp_is r q Less l)) ∙ sym no
    by_order (inr (inr l)) =
        let no : nat_eq q r ≡ false = grind (arith, nat_tests, l) in ap is_eq (sym (nat_cmp_is r q Greater l)) ∙ sym no

shown_at : (ts : List Ty) (n : ℕ) (es : Entries) (r : ℕ) →
    lookup (regs (shown ts n es)) r ≡ option_map (seen ts n) (found_in (is_at (nat_cmp r)) es)
shown_at ts n [] r = refl
shown_at ts n (e ∷ es) r = pick (nat_eq e.0 r) (is_eq (nat_cmp r e.0)) (same_key r e.0) (shown_at ts n es r)
  where
    pick : (a b : Bool) → b ≡ a →
        lookup (regs (shown ts n es)) r ≡ option_map (seen ts n) (found_in (is_at (nat_cmp r)) es) →
        cond a (Some (seen ts n e.1)) (lookup (regs (shown ts n es)) r)
        ≡ option_map (seen ts n) (cond b (Some e.1) (found_in (is_at (nat_cmp r)) es))
    pick true true same h = refl
    pick false false same h = h
    pick true false same h = cc
    pick false true same h = cc

pub shown_known : (ts : List Ty) (k : Registers) → lookup (regs (shown ts k.names k.entries.entries)) ≡ known ts k
shown_known ts k = fun_ext (λ r. shown_at ts k.names k.entries.entries r)

-- they rise
above : (r : ℕ) (ks : List ℕ) → AllByRecursion (λ y. nat_cmp r y ≡ Less) ks → AllByRecursion (λ y. r + 1 ≤ y) ks
above r [] h = h
above r (k ∷ ks) h = (let l = less_key r k h.0 in omega arith, above r ks h.1)

rises_from : (ts : List Ty) (n low : ℕ) (es : Entries) →
    AllByRecursion (λ y. low ≤ y) (map (λ (e : ℕ × Entry). e.0) es) →
    IsStrictlySortedBy nat_cmp (map (λ (e : ℕ × Entry). e.0) es) → RisesFrom low (regs (shown ts n es))
unfolding IsStrictlySortedBy
rises_from ts n low [] a s = tt
rises_from ts n low (e ∷ es) a s =
    (a.0, rises_from ts n (e.0 + 1) es (above e.0 (map (λ (x : ℕ × Entry). x.0) es) s.0) s.1)

from_zero : (ks : List ℕ) → AllByRecursion (λ y. 0 ≤ y) ks
from_zero [] = tt
from_zero (k ∷ ks) = (omega arith, from_zero ks)

pub shown_rises : (ts : List Ty) (n : ℕ) (es : Entries) →
    IsStrictlySortedBy nat_cmp (map (λ (e : ℕ × Entry). e.0) es) → Rises (regs (shown ts n es))
shown_rises ts n es s = rises_from ts n 0 es (from_zero (map (λ (e : ℕ × Entry). e.0) es)) s

-- and their types are in scope
shallow_below : (n : ℕ) (t : Ty) → Shallow n t → Below n t
shallow_below n t h =
    weaker (ShallowAt n) BelowAt ShallowBelow AnyDepth 0 n (λ e i x. let lt = x.0 in omega arith) (λ e x. tt) t h

bounded_below : (n : ℕ) (t : Ty) → Bounded n t → Below n t
bounded_below n IntTy h = tt
bounded_below n (VarTy i) h = shallow_below n (VarTy i) h
bounded_below n (CodeTy k file) h = (
  tt,
  weaker_file (OwedAt n k) BelowAt OwedBelow AnyDepth (0 + k) (n + k) (λ e i x. let lt = x.0 in omega arith)
      (λ e x. tt) file h.1,
)
bounded_below n (ExistsTy t) h = shallow_below n (ExistsTy t) h
bounded_below n (TupleTy fs) h = shallow_below n (TupleTy fs) h

abbrev pub AreEntries : List Ty → ℕ → Entries → Type 0
AreEntries ts n es = All (λ (e : ℕ × Entry). IsEntry ts n e.1) es

pub shown_below : (ts : List Ty) (n : ℕ) (es : Entries) → AreEntries ts n es → BelowFile n (regs (shown ts n es))
shown_below ts n [] h = tt
shown_below ts n (e ∷ es) h =
    let P : ℕ × Entry → Type 0 = λ x. IsEntry ts n x.1 in (
      bounded_below n (seen ts n e.1) (entry_bounded ts n e.1 (seen ts n e.1) (All-head P e es h) refl),
      shown_below ts n es (All-tail P e es h),
    )

pub are_entries : (ts : List Ty) (k : Registers) → IsSound ts k → (es : Entries) →
    All (λ (e : ℕ × Entry). entry_of k e.0 ≡ Some e.1) es → AreEntries ts k.names es
are_entries ts k s [] h = All-nil _
are_entries ts k s (e ∷ es) h =
    let P : ℕ × Entry → Type 0 = λ x. entry_of k x.0 ≡ Some x.1 in
    All-cons (λ (x : ℕ × Entry). IsEntry ts k.names x.1) e es (s.entries e.0 e.1 (All-head P e es h))
    (are_entries ts k s es (All-tail P e es h))

-- the file of what is known
pub file_is : (ts : List Ty) (k : Registers) (xs : List (ℕ × Ty)) → IsSound ts k →
    All (λ (e : ℕ × Entry). entry_of k e.0 ≡ Some e.1) k.entries.entries →
    IsStrictlySortedBy nat_cmp (map (λ (e : ℕ × Entry). e.0) k.entries.entries) →
    xs ≡ shown ts k.names k.entries.entries → IsFileOf (known ts k) k.names (regs xs)
file_is ts k xs s all sorted e =
    subst (λ (ys : List (ℕ × Ty)). IsFileOf (known ts k) k.names (regs ys)) (sym e) (
      shown_known ts k,
      shown_rises ts k.names k.entries.entries sorted,
      shown_below ts k.names k.entries.entries (are_entries ts k s k.entries.entries all),
    )

-- a walk after a part of its way, where it stands nowhere, and where it stands again
pub still_walks : (w v : Walk) → IsWalk w → v.program ≡ w.program → v.labels ≡ w.labels → Grown w.types v.types →
    v.stand ≡ None → IsWalk v
still_walks w v is program_is labels_are grown none = record {
  accepted = subst (λ (p : Bor TProgram). ∥ Accepted (program p.now) ∥₁) (sym program_is) is.accepted;
  labels =
      subst (λ (l : Labels). AreLabels v.types v.program.now l) (sym labels_are)
      (subst (λ (p : Bor TProgram). AreLabels v.types p.now w.labels) (sym program_is)
      (labels_grown w.types v.types w.program.now w.labels grown is.labels));
  stands = subst (λ (o : Option Stand). MatchOption o (Unit {0}) (λ s. IsStand v.types v.program.now s)) (sym none) tt;
}

pub stands_again : (w v : Walk) (s : Stand) → IsWalk w → v.program ≡ w.program → v.labels ≡ w.labels →
    Grown w.types v.types → v.stand ≡ Some s → IsStand v.types v.program.now s → IsWalk v
stands_again w v s is program_is labels_are grown here stands = record {
  accepted = subst (λ (p : Bor TProgram). ∥ Accepted (program p.now) ∥₁) (sym program_is) is.accepted;
  labels =
      subst (λ (l : Labels). AreLabels v.types v.program.now l) (sym labels_are)
      (subst (λ (p : Bor TProgram). AreLabels v.types p.now w.labels) (sym program_is)
      (labels_grown w.types v.types w.program.now w.labels grown is.labels));
  stands =
      subst (λ (o : Option Stand). MatchOption o (Unit {0}) (λ z. IsStand v.types v.program.now z)) (sym here) stands;
}

-- what stands there when the types have grown
pub stand_grown : (ts us : List Ty) (p : TProgram) (s : Stand) → Grown ts us → IsStand ts p s → IsStand us p s
stand_grown ts us p s g is = record {
  sound = sound_grown ts us g s.registers is.sound;
  known = subst (KnownAt (program p) s.block s.index s.registers.names)
      (sym (known_grown ts us g s.registers is.sound)) is.known;
}

-- one entry more
pub next_entry : (ts : List Ty) (n : ℕ) (it rest : Entries) (e : ℕ × Entry) → it ≡ e ∷ rest → AreEntries ts n it →
    IsEntry ts n e.1 × AreEntries ts n rest
next_entry ts n it rest e is h =
    let P : ℕ × Entry → Type 0 = λ x. IsEntry ts n x.1 in
    let both : AreEntries ts n (e ∷ rest) = subst (AreEntries ts n) is h in
    (All-head P e rest both, All-tail P e rest both)

regs_snoc : (xs : List (ℕ × TType)) (x : ℕ × TType) (ys : List (ℕ × Ty)) →
    map reg (xs ++ x ∷ []) ++ ys ≡ map reg xs ++ (reg x ∷ ys)
regs_snoc [] x ys = refl
regs_snoc (y ∷ xs) x ys = ap (λ (zs : List (ℕ × Ty)). reg y ∷ zs) (regs_snoc xs x ys)

pub entry_made : (ts : List Ty) (n : ℕ) (old new : List (ℕ × TType)) (it rest : Entries) (e : ℕ × Entry) (t : TType)
    (whole : List (ℕ × Ty)) → it ≡ e ∷ rest → new ≡ old ++ (e.0, t) ∷ [] → tree t ≡ seen ts n e.1 →
    map reg old ++ shown ts n it ≡ whole → map reg new ++ shown ts n rest ≡ whole
entry_made ts n old new it rest e t whole is more same made =
    ap (λ (xs : List (ℕ × TType)). map reg xs ++ shown ts n rest) more
    ∙ regs_snoc old (e.0, t) (shown ts n rest)
    ∙ ap (λ (u : Ty). map reg old ++ ((e.0, u) ∷ shown ts n rest)) same
    ∙ sym (ap (λ (es : Entries). map reg old ++ shown ts n es) is)
    ∙ made

pub all_made : (ts : List Ty) (n : ℕ) (xs : List (ℕ × TType)) (it : Entries) (whole : List (ℕ × Ty)) → it ≡ [] →
    map reg xs ++ shown ts n it ≡ whole → map reg xs ≡ whole
all_made ts n xs it whole none made =
    sym (append-nil (map reg xs)) ∙ sym (ap (λ (es : Entries). map reg xs ++ shown ts n es) none) ∙ made
