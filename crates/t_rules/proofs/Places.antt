-- What is known at a place: it is one thing, it is there where the program is accepted, and it goes on with the state.
use Rattle.std.proofs.Common.{◌≡◌, ℕ, zero, suc, ◌+◌, ◌-◌, List, [], ◌∷◌, ◌++◌, length, Option, Some, None, refl, sym}
use Rattle.std.proofs.Common.{ap, ap₂, ◌∙◌, subst, arith, slice_get, length-append, add-one, option_and_then}
use Rattle.std.specs.Prelude.{option_map}
use Rattle.std.proofs.Math.Path.{fun_ext}
use Rattle.idx_core.specs.Over.{putted}
use Rattle.idx_core.specs.Laws.{shift_add_law}
use Rattle.t_types.specs.Tree.{Ty, VarTy, over, shift, put_from, BelowTypes}
use Rattle.t_types.specs.TreeLaws.{types_part, types_over}
use Rattle.t_types.proofs.PutLaws.{put_below_is}
use Rattle.t_types.specs.Fits.{RegTypes, lookup}
use Rattle.t_terms.specs.Tree.{TInstr, TSeq, Then, Ends, TEnd, TBlock, TProg, over_instr, over_end, over_seq}
use Rattle.t_terms.specs.Tree.{names_after}
use Rattle.t_terms.specs.TreeLaws.{seq_over}
use Rattle.t_terms.specs.Registers.{inst_seq, inst_known}
use Rattle.t_rules.specs.Rules.{Typed, SeqAccepted, BlockAccepted}
use Rattle.t_rules.specs.Known.{KnownFrom, KnownAt, seq_from, code_at}
use Rattle.t_rules.specs.Machine.{RegWords}
use Rattle.t_rules.specs.HeapTypes.{HeapTypes, RegsHave, InPlace}
use Rattle.t_rules.proofs.OneType.{typed_one}
use Rattle.t_rules.proofs.Puts.{ClosedLabels, ClosedData, put_known, names_more, names_over, inst_instr, inst_under}
use Rattle.t_rules.proofs.Puts.{inst_rest, seq_inst, typed_inst}
use Rattle.t_rules.proofs.Safe.{Onward, Entered}

-- A put below k binders more, as a put for a variable that has k more below it.
put_later : (c k : ℕ) (t u : Ty) → put_from c (shift c 0 t) (c + k) u ≡ put_from (c + k) (shift (c + k) 0 t) (c + k) u
put_later c k t u =
    let e : c + k - c ≡ k = omega arith in
    put_below_is types_over c (c + k) (c + k) (shift c 0 t) u (omega arith) (omega arith)
    ∙ ap (λ z. put_from (c + k) z (c + k) u)
    (ap (λ m. shift m 0 (shift c 0 t)) e ∙ shift_add_law types_part types_over c k 0 t)

seq_later : (c k : ℕ) (t : Ty) (code : TSeq) → over_seq (putted VarTy over c (shift c 0 t)) (c + k) code
    ≡ over_seq (putted VarTy over (c + k) (shift (c + k) 0 t)) (c + k) code
seq_later c k t code =
    let e : c + k - c ≡ k = omega arith in
    put_below_is seq_over c (c + k) (c + k) (shift c 0 t) code (omega arith) (omega arith)
    ∙ ap (λ z. over_seq (putted VarTy over (c + k) z) (c + k) code)
    (ap (λ m. shift m 0 (shift c 0 t)) e ∙ shift_add_law types_part types_over c k 0 t)

known_later : (c k : ℕ) (t : Ty) (g : RegTypes) →
    put_known c (shift c 0 t) (c + k) g ≡ put_known (c + k) (shift (c + k) 0 t) (c + k) g
known_later c k t g = fun_ext (λ q. at (g q))
  where
    at : (o : Option Ty) →
        option_map (put_from c (shift c 0 t) (c + k)) o ≡ option_map (put_from (c + k) (shift (c + k) 0 t) (c + k)) o
    at None = refl
    at (Some u) = ap Some (put_later c k t u)

-- types of a place, and then those of what an instruction binds there
known_join : (ts us : List Ty) (n k : ℕ) (g : RegTypes) → length ts ≡ n →
    inst_known us k (inst_under ts n k g) ≡ inst_known (ts ++ us) (n + k) g
known_join [] us n k g len = let e : k ≡ n + k = omega (arith, len) in ap (λ m. inst_known us m g) e
known_join (t ∷ ts) us n k g len =
    let e : n - 1 + k ≡ n + k - 1 = omega (arith, len) in
    known_join ts us (n - 1) k (put_known (n - 1) (shift (n - 1) 0 t) (n - 1 + k) g) (omega (arith, len))
    ∙ ap (inst_known (ts ++ us) (n - 1 + k)) (known_later (n - 1) k t g)
    ∙ ap (λ m. inst_known (ts ++ us) m (put_known m (shift m 0 t) m g)) e

seq_join : (ts us : List Ty) (n k : ℕ) (c : TSeq) → length ts ≡ n →
    inst_seq us k (inst_rest ts n k c) ≡ inst_seq (ts ++ us) (n + k) c
seq_join [] us n k c len = let e : k ≡ n + k = omega (arith, len) in ap (λ m. inst_seq us m c) e
seq_join (t ∷ ts) us n k c len =
    let e : n - 1 + k ≡ n + k - 1 = omega (arith, len) in
    seq_join ts us (n - 1) k (over_seq (putted VarTy over (n - 1) (shift (n - 1) 0 t)) (n - 1 + k) c)
    (omega (arith, len))
    ∙ ap (inst_seq (ts ++ us) (n - 1 + k)) (seq_later (n - 1) k t c)
    ∙ ap (λ m. inst_seq (ts ++ us) m (over_seq (putted VarTy over m (shift m 0 t)) m c)) e

-- the types in the next instruction, and in the rest
pub seq_head : (ts : List Ty) (n : ℕ) (i : TInstr) (rest : TSeq) →
    inst_seq ts n (Then i rest) ≡ Then (inst_instr ts n i) (inst_rest ts n (names_after i 0) rest)
seq_head [] n i rest = refl
seq_head (t ∷ ts) n i rest =
    let f = putted VarTy over (n - 1) (shift (n - 1) 0 t) in
    seq_head ts (n - 1) (over_instr f (n - 1) i) (over_seq f (names_after i (n - 1)) rest)
    ∙ ap₂ (λ k m. Then (inst_instr (t ∷ ts) n i) (inst_rest ts (n - 1) k (over_seq f m rest)))
    (names_over f i 0 (n - 1)) (names_more i (n - 1))

abbrev pub inst_end : List Ty → ℕ → TEnd → TEnd
inst_end [] n e = e
inst_end (t ∷ ts) n e = inst_end ts (n - 1) (over_end (putted VarTy over (n - 1) (shift (n - 1) 0 t)) (n - 1) e)

pub seq_end : (ts : List Ty) (n : ℕ) (e : TEnd) → inst_seq ts n (Ends e) ≡ Ends (inst_end ts n e)
seq_end [] n e = refl
seq_end (t ∷ ts) n e = seq_end ts (n - 1) _

names_inst : (ts : List Ty) (n : ℕ) (i : TInstr) → names_after (inst_instr ts n i) 0 ≡ names_after i 0
names_inst [] n i = refl
names_inst (t ∷ ts) n i =
    names_inst ts (n - 1) _ ∙ names_over (putted VarTy over (n - 1) (shift (n - 1) 0 t)) i 0 (n - 1)

below_append : (ts us : List Ty) → BelowTypes 0 ts → BelowTypes 0 us → BelowTypes 0 (ts ++ us)
below_append [] us h k = k
below_append (t ∷ ts) us h k = (h.0, below_append ts us h.1 k)

module _ (P : TProg) where
  -- one thing at most is known at a place
  from_one : (c : TSeq) (i a n m : ℕ) (f g h : RegTypes) → KnownFrom P a f c i n g → KnownFrom P a f c i m h →
      (n ≡ m) × (g ≡ h)
  from_one c zero a n m f g h x y = (x.0 ∙ sym y.0, x.1 ∙ sym y.1)
  from_one (Then i rest) (suc k) a n m f g h x y =
      from_one rest k (names_after i a) n m x.0 g h x.2
      (subst (λ z. KnownFrom P (names_after i a) z rest k m h) (typed_one P a f i y.0 x.0 y.1 x.1) y.2)
  from_one (Ends e) (suc k) a n m f g h x y = absurd x

  pub known_one : (b i n m : ℕ) (g h : RegTypes) → KnownAt P b i n g → KnownAt P b i m h → (n ≡ m) × (g ≡ h)
  known_one b i n m g h x y =
      let e1 = x.1 in let e2 = y.1 in
      let same : y.0 ≡ x.0 = cc in
      from_one x.0.code i x.0.owes n m (lookup x.0.file) g h x.2
      (subst (λ z. KnownFrom P z.owes (lookup z.file) z.code i m h) same y.2)

  -- something is known at each place of accepted code
  pub known_from : (c : TSeq) (i a : ℕ) (f : RegTypes) (body : TSeq) → SeqAccepted P a f c → seq_from i c ≡ Some body →
      (n : ℕ) × (g : RegTypes) × KnownFrom P a f c i n g × SeqAccepted P n g body
  known_from c zero a f body h e = let e1 : c ≡ body = cc in (a, f, (refl, refl), subst (SeqAccepted P a f) e1 h)
  known_from (Then i rest) (suc k) a f body h e =
      let x = known_from rest k (names_after i a) h.0 body h.2 e in (x.0, x.1, (h.0, h.1, x.2), x.3)
  known_from (Ends x) (suc k) a f body h e = cc

  -- after one instruction more
  from_next : (c : TSeq) (i a n : ℕ) (f g h : RegTypes) (j : TInstr) (rest : TSeq) → KnownFrom P a f c i n g →
      seq_from i c ≡ Some (Then j rest) → Typed P n g j h →
      KnownFrom P a f c (suc i) (names_after j n) h × (seq_from (suc i) c ≡ Some rest)
  from_next (Then x c) zero a n f g h j rest k e t =
      let e1 : j ≡ x = cc in
      let e2 : c ≡ rest = cc in (
        (
          h,
          subst (λ y. Typed P a f y h) e1 (subst (λ y. Typed P a y j h) k.1 (subst (λ m. Typed P m g j h) k.0 t)),
          (ap₂ (λ y m. names_after y m) e1 k.0, refl),
        ),
        ap Some e2,
      )
  from_next (Ends x) zero a n f g h j rest k e t = cc
  from_next (Then x c) (suc i) a n f g h j rest k e t =
      let y = from_next c i (names_after x a) n k.0 g h j rest k.2 e t in ((k.0, k.1, y.0), y.1)
  from_next (Ends x) (suc i) a n f g h j rest k e t = absurd k

  code_in : (b i : ℕ) (x : TBlock) (body : TSeq) → slice_get P.blocks b ≡ Some x → code_at P b i ≡ Some body →
      seq_from i x.code ≡ Some body
  code_in b i x body e h = sym (ap (option_and_then (λ y. seq_from i y.code)) e) ∙ h

  code_of : (b i : ℕ) (x : TBlock) → slice_get P.blocks b ≡ Some x → code_at P b i ≡ seq_from i x.code
  code_of b i x e = ap (option_and_then (λ y. seq_from i y.code)) e

  -- what a typed instruction leaves known is known behind it
  pub known_after : (b i n : ℕ) (g h : RegTypes) (j : TInstr) (rest : TSeq) → KnownAt P b i n g →
      code_at P b i ≡ Some (Then j rest) → Typed P n g j h → KnownAt P b (suc i) (names_after j n) h
  known_after b i n g h j rest k e typed =
      (k.0, k.1, (from_next k.0.code i k.0.owes n (lookup k.0.file) g h j rest k.2 (code_in b i k.0 _ k.1 e) typed).0)

  module _ (blocks : (l : ℕ) (b : TBlock) → slice_get P.blocks l ≡ Some b → BlockAccepted P b) where
    -- the code at a place is accepted with what is known there
    pub accepted_at : (b i n : ℕ) (g : RegTypes) (body : TSeq) → KnownAt P b i n g → code_at P b i ≡ Some body →
        SeqAccepted P n g body
    accepted_at b i n g body k e =
        let x =
        known_from k.0.code i k.0.owes (lookup k.0.file) body (blocks b k.0 k.1).1 (code_in b i k.0 body k.1 e) in
        let same = from_one k.0.code i k.0.owes x.0 n (lookup k.0.file) x.1 g x.2 k.2 in
        subst (λ m. SeqAccepted P m g body) same.0 (subst (λ z. SeqAccepted P x.0 z body) same.1 x.3)

    pub known_there : (b i : ℕ) (body : TSeq) → code_at P b i ≡ Some body → (n : ℕ) × (g : RegTypes) × KnownAt P b i n g
    known_there b i body e = in_block (slice_get P.blocks b) refl e
      where
        in_block : (o : Option TBlock) → slice_get P.blocks b ≡ o →
            option_and_then (λ y. seq_from i y.code) o ≡ Some body → (n : ℕ) × (g : RegTypes) × KnownAt P b i n g
        in_block None q h = cc
        in_block (Some x) q h =
            let y = known_from x.code i x.owes (lookup x.file) body (blocks b x q).1 h in (y.0, y.1, (x, q, y.2))

    module _ (closed : ClosedLabels P) (tuples : ClosedData P) where
      -- the instructions to come are accepted with the types put
      pub accepted_in : (p : HeapTypes) (r : RegWords) (c : TSeq) (b i : ℕ) (at : InPlace P p r c b i) →
          SeqAccepted P 0 (inst_known at.types at.names at.known) c
      accepted_in p r c b i at =
          subst (SeqAccepted P 0 (inst_known at.types at.names at.known)) (sym at.code)
          (seq_inst P closed tuples at.types at.names at.known at.body at.count at.closed
          (accepted_at b i at.names at.known at.body at.knows at.at))

      -- a step to the next instruction
      pub next_place : (p q : HeapTypes) (r s : RegWords) (b i : ℕ) (j : TInstr) (rest d : TSeq) (c : TSeq)
          (at : InPlace P p r c b i) → at.body ≡ Then j rest →
          Onward P q (inst_known at.types at.names at.known) (inst_instr at.types at.names j)
          (inst_rest at.types at.names (names_after j 0) rest) s d → InPlace P q s d b (i + 1)
      next_place p q r s b i j rest d c at is on =
          let body : code_at P b i ≡ Some (Then j rest) = at.at ∙ ap Some is in
          let acc = accepted_at b i at.names at.known (Then j rest) at.knows body in
          let x = from_next at.knows.0.code i at.knows.0.owes at.names (lookup at.knows.0.file) at.known acc.0 j rest
          at.knows.2 (code_in b i at.knows.0 _ at.knows.1 body) acc.1 in
          let k : ℕ = names_after j 0 in
          let after : names_after (inst_instr at.types at.names j) 0 ≡ names_after j 0 =
          names_inst at.types at.names j in
          let typed = typed_inst P closed tuples at.types at.names at.known acc.0 j at.count at.closed acc.1 in
          let known : on.known ≡ inst_under at.types at.names (names_after j 0) acc.0 =
          typed_one P 0 _ (inst_instr at.types at.names j) on.known _ on.typed typed in
          let more : at.names + names_after j 0 ≡ names_after j at.names = sym (names_more j at.names) in
          record {
            names = names_after j at.names;
            known = acc.0;
            body = rest;
            types = at.types ++ on.types;
            knows = (
              at.knows.0,
              at.knows.1,
              subst (λ m. KnownFrom P at.knows.0.owes (lookup at.knows.0.file) at.knows.0.code m
                  (names_after j at.names) acc.0) (sym (add-one i)) x.0,
            );
            at = code_of b (i + 1) at.knows.0 at.knows.1 ∙ ap (λ m. seq_from m at.knows.0.code) (add-one i) ∙ x.1;
            count = length-append at.types on.types ∙ omega (arith, at.count, on.count, after, more);
            closed = below_append at.types on.types at.closed on.closed;
            code = on.code ∙ ap (λ m. inst_seq on.types m (inst_rest at.types at.names (names_after j 0) rest)) after
                ∙ seq_join at.types on.types at.names (names_after j 0) rest at.count
                ∙ ap (λ m. inst_seq (at.types ++ on.types) m rest) more;
            words = subst (λ z. RegsHave P q z s)
                (ap₂ (λ m z. inst_known on.types m z) after known
                ∙ known_join at.types on.types at.names (names_after j 0) acc.0 at.count
                ∙ ap (λ m. inst_known (at.types ++ on.types) m acc.0) more) on.words;
          }

      -- and a step into a block
      pub block_place : (q : HeapTypes) (s : RegWords) (l : ℕ) (d : TSeq) → Entered P q l s d → InPlace P q s d l 0
      block_place q s l d on = record {
        names = on.block.owes;
        known = lookup on.block.file;
        body = on.block.code;
        types = on.types;
        knows = (on.block, on.there, (refl, refl));
        at = code_of l 0 on.block on.there;
        count = on.count;
        closed = on.closed;
        code = on.code;
        words = on.words;
      }
