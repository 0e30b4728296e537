-- The runtime's blocks have code: their registers, offsets and counts are below 18, and their numbers below 2 ^ 64.
use Rattle.std.proofs.Common.{ℕ, zero, suc, ◌+◌, ◌<◌, ◌≤◌, ◌^◌, max, List, [], ◌∷◌, ◌++◌, refl, inl, inr, arith, lit<}
use Rattle.w_terms.specs.Tree.{WInstr, WConst, WMove, WPlace, WArith, WLoad, WStore, WBranch, WWrite, WSeq, WThen}
use Rattle.w_terms.specs.Tree.{WJump, WGoto, WExit}
use Rattle.w_terms.specs.declared.instr.WOp.{WOp}
use Rattle.w_terms.specs.declared.instr.WOp.TheVariants as O
use Rattle.w_terms.specs.declared.instr.WOperand.{WOperand}
use Rattle.w_terms.specs.declared.instr.WOperand.TheVariants as V
use Rattle.w_runtime.specs.Blocks.{Layout, Labels}
use Rattle.w_runtime.specs.Blocks as collector
use Rattle.w_print.specs.Blocks.{print_blocks, print_code, lead_code, digit_code, put_code, next_code, last_code}
use Rattle.w_print.specs.Blocks.{negated, text_start}
use Rattle.w_rooms.specs.Numbers.{reg, print_label, slow_label}
use Rattle.w_rooms.specs.Rooms.{saves, room_code, text_code}
use Rattle.w_laws.specs.Built.{runtime_blocks, start_code, collector_blocks, collector_labels, first_use}
use Rattle.x_laws.specs.Straight.{IsPlain, FitsRight}
use Rattle.x_laws.specs.Going.{IsInstr, IsSeq}
use Rattle.x_pass.specs.Short.{AreSeqs}

-- the highest of registers, offsets and counts; 18 where none will do, and at a write, which is seen to apart
abbrev register : WOperand → ℕ
register (V.Reg q) = q
register (V.Num k) = 0

abbrev bits : WOperand → ℕ
bits (V.Reg q) = 18
bits (V.Num k) = k

abbrev count : WOp → WOperand → ℕ
count O.Add v = 0
count O.Sub v = 0
count O.Mul v = 0
count O.And v = 0
count O.Or v = 0
count O.Shl v = bits v
count O.Shr v = bits v

abbrev small : WInstr → ℕ
small (WConst rd k) = rd
small (WMove rd rs) = max rd rs
small (WPlace rd l) = rd
small (WArith o rd rs v) = max (max rd rs) (max (register v) (count o v))
small (WLoad rd ra off) = max (max rd ra) off
small (WStore ra off rs) = max (max ra off) rs
small (WBranch t rs v l) = max rs (register v)
small (WWrite to ra rn) = 18

abbrev smalls : WSeq → ℕ
smalls (WThen i c) = max (small i) (smalls c)
smalls (WJump l) = 0
smalls (WGoto q) = q
smalls (WExit status) = 0

-- that each number is a word, in front of what else is asked
abbrev OperandFirst : WOperand → Type 0 → Type 0
OperandFirst (V.Reg q) T = T
OperandFirst (V.Num k) T = (k < 2 ^ 64) × T

abbrev NumberFirst : WInstr → Type 0 → Type 0
NumberFirst (WConst rd k) T = (k < 2 ^ 64) × T
NumberFirst (WArith o rd rs v) T = OperandFirst v T
NumberFirst (WBranch t rs v l) T = OperandFirst v T
NumberFirst (WMove rd rs) T = T
NumberFirst (WPlace rd l) T = T
NumberFirst (WLoad rd ra off) T = T
NumberFirst (WStore ra off rs) T = T
NumberFirst (WWrite to ra rn) T = T

abbrev Numbers : WSeq → Type 0
Numbers (WThen i c) = NumberFirst i (Numbers c)
Numbers (WJump l) = Unit {0}
Numbers (WGoto q) = Unit {0}
Numbers (WExit status) = Unit {0}

plain : (o : WOp) (v : WOperand) → count o v < 18 → IsPlain o v
plain O.Add v h = tt
plain O.Sub v h = tt
plain O.Mul v h = tt
plain O.And v h = tt
plain O.Or v h = tt
plain O.Shl (V.Num k) h = let g : k < 18 = h in omega (arith, g)
plain O.Shl (V.Reg q) h = let g : 18 < 18 = h in absurd (omega (arith, g))
plain O.Shr (V.Num k) h = let g : k < 18 = h in omega (arith, g)
plain O.Shr (V.Reg q) h = let g : 18 < 18 = h in absurd (omega (arith, g))

-- where all parts of the memory stand: addresses far below 2 ^ 64
pub record Stand (y : Layout) : Type 0 where
  pub roots : y.roots < 2 ^ 62
  pub roots_end : y.roots_end < 2 ^ 62
  pub base : y.base < 2 ^ 62
  pub limit : y.limit < 2 ^ 62
  pub marks : y.marks < 2 ^ 62
  pub queue : y.queue < 2 ^ 62
  pub top : y.top < 2 ^ 62

-- blocks behind others
pub both : (n : ℕ) (xs ys : List WSeq) → AreSeqs n xs → AreSeqs n ys → AreSeqs n (xs ++ ys)
both n [] ys f g = g
both n (x ∷ xs) ys f g = (f.0, both n xs ys f.1 g)

module _ (n : ℕ) (many : 18 ≤ n) where
  fits : (v : WOperand) (T : Type 0) → register v < 18 → OperandFirst v T → FitsRight n v × T
  fits (V.Reg q) T h w = let g : q < 18 = h in (omega (arith, g, many), w)
  fits (V.Num k) T h w = w

  fine : (i : WInstr) (c : WSeq) (T : Type 0) → small i < 18 → NumberFirst i T → IsInstr n i c × T
  fine (WConst rd k) c T h w = let g : rd < 18 = h in ((omega (arith, g, many), w.0), w.1)
  fine (WMove rd rs) c T h w =
      let g : max rd rs < 18 = h in ((omega (arith, g, many), omega (arith, g, many)), w)
  fine (WPlace rd l) c T h w = let g : rd < 18 = h in (omega (arith, g, many), w)
  fine (WArith o rd rs v) c T h w =
      let g : max (max rd rs) (max (register v) (count o v)) < 18 = h in
      let f = fits v T (omega (arith, g)) w in
      ((plain o v (omega (arith, g)), omega (arith, g, many), omega (arith, g, many), f.0), f.1)
  fine (WLoad rd ra off) c T h w =
      let g : max (max rd ra) off < 18 = h in
      ((omega (arith, g, many), omega (arith, g, many), omega (arith, g)), w)
  fine (WStore ra off rs) c T h w =
      let g : max (max ra off) rs < 18 = h in
      ((omega (arith, g, many), omega (arith, g), omega (arith, g, many)), w)
  fine (WBranch t rs v l) c T h w =
      let g : max rs (register v) < 18 = h in
      let f = fits v T (omega (arith, g)) w in ((omega (arith, g, many), f.0), f.1)
  fine (WWrite to ra rn) c T h w = let g : 18 < 18 = h in absurd (omega (arith, g))

  seq : (c : WSeq) → smalls c < 18 → Numbers c → IsSeq n c
  seq (WThen i c) h w =
      let g : max (small i) (smalls c) < 18 = h in
      let k = fine i c (Numbers c) (omega (arith, g)) w in (k.0, seq c (omega (arith, g)) k.1)
  seq (WJump l) h w = tt
  seq (WGoto q) h w = let g : q < 18 = h in omega (arith, g, many)
  seq (WExit status) h w = tt

  start : (a b : ℕ) → a < 2 ^ 64 → b < 2 ^ 64 → IsSeq n (start_code a b)
  start a b f g = seq (start_code a b) (lit< tt) (f, (g, (g, (g, tt))))

  -- the registers of a program are saved
  save : (q k : ℕ) (c : WSeq) → q + k + 16 ≤ n → n < 2 ^ 28 → IsSeq n c → IsSeq n (saves q k c)
  save q zero c f g s = s
  save q (suc k) c f g s =
      ((omega (arith, many), omega (arith, f, g), omega (arith, f)), save (suc q) k c (omega (arith, f)) g s)

  room : (y : Layout) (k slow : ℕ) → y.roots < 2 ^ 64 → k + 16 ≤ n → n < 2 ^ 28 → IsSeq n (room_code y k slow)
  room y k slow r f g = ((omega (arith, many), r), save 0 k (WJump slow) (omega (arith, f)) g tt)

  module _ (a : ℕ) (low : a < 2 ^ 62) where
    print : (l : ℕ) → IsSeq n (print_code a l (reg 1))
    print l =
        let text : text_start a < 2 ^ 64 = omega (arith, low) in
        let power : a + 144 < 2 ^ 64 = omega (arith, low) in
        let minus : Numbers (negated a l) = (lit< tt, (lit< tt, (lit< tt, (lit< tt, tt)))) in
        seq (print_code a l (reg 1)) (lit< tt)
        (lit< tt, (lit< tt, (lit< tt, (text, (power, (lit< tt, (lit< tt, minus)))))))

    lead : (l : ℕ) → IsSeq n (lead_code a l)
    lead l = seq (lead_code a l) (lit< tt) (lit< tt, (lit< tt, tt))

    digit : (l : ℕ) → IsSeq n (digit_code a l)
    digit l = seq (digit_code a l) (lit< tt) (lit< tt, tt)

    put : (l : ℕ) → IsSeq n (put_code a l)
    put l = seq (put_code a l) (lit< tt) (lit< tt, (lit< tt, (lit< tt, (lit< tt, (lit< tt, (lit< tt, tt))))))

    next : (l : ℕ) → IsSeq n (next_code a l)
    next l = seq (next_code a l) (lit< tt) (lit< tt, (lit< tt, (lit< tt, tt)))

    -- the end of an integer's line, which is written
    last : (l : ℕ) → IsSeq n (last_code a l)
    last l =
        let text : text_start a < 2 ^ 64 = omega (arith, low) in
        let four : 4 < n = omega (arith, many) in
        let nine : 9 < n = omega (arith, many) in
        let ten : 10 < n = omega (arith, many) in
        let eleven : 11 < n = omega (arith, many) in
        let twelve : 12 < n = omega (arith, many) in (
          (tt, four, ten, lit< tt),
          (
            (tt, nine, nine, four),
            (
              (eleven, lit< tt, nine),
              (
                (tt, twelve, twelve, lit< tt),
                ((eleven, text), ((inl refl, eleven, twelve, tt), tt)),
              ),
            ),
          ),
        )

    prints : (l : ℕ) → AreSeqs n (print_blocks a l)
    prints l = (lead l, (digit l, (put l, (next l, (last l, tt)))))

    -- the end for want of memory
    full : (k : ℕ) → k < 2 ^ 64 → IsSeq n (text_code a k)
    full k f =
        let two : 2 < n = omega (arith, many) in
        let four : 4 < n = omega (arith, many) in
        ((four, omega (arith, low)), ((two, f), ((inr refl, four, two, tt), tt)))

  module _ (y : Layout) (stand : Stand y) where
    roots : y.roots < 2 ^ 64
    roots = omega (arith, stand.roots)

    roots_end : y.roots_end < 2 ^ 64
    roots_end = omega (arith, stand.roots_end)

    base : y.base < 2 ^ 64
    base = omega (arith, stand.base)

    fields : y.base + 8 < 2 ^ 64
    fields = omega (arith, stand.base)

    limit : y.limit < 2 ^ 64
    limit = omega (arith, stand.limit)

    marks : y.marks < 2 ^ 64
    marks = omega (arith, stand.marks)

    queue : y.queue < 2 ^ 64
    queue = omega (arith, stand.queue)

    top : y.top < 2 ^ 64
    top = omega (arith, stand.top)

    abbrev at : Labels
    at = collector_labels

    slow : IsSeq n (collector.slow_code y at)
    slow = seq (collector.slow_code y at) (lit< tt) (lit< tt, tt)

    sweep : IsSeq n (collector.sweep_code y at)
    sweep = seq (collector.sweep_code y at) (lit< tt) (marks, (lit< tt, (lit< tt, tt)))

    hit : IsSeq n (collector.hit_code y at)
    hit = seq (collector.hit_code y at) (lit< tt) (lit< tt, (marks, (lit< tt, (lit< tt, tt))))

    tail : IsSeq n (collector.tail_code y at)
    tail = seq (collector.tail_code y at) (lit< tt) (lit< tt, tt)

    grow : IsSeq n (collector.grow_code y at)
    grow = seq (collector.grow_code y at) (lit< tt) (limit, (base, (limit, (limit, tt))))

    claim : IsSeq n (collector.claim_code y at)
    claim = seq (collector.claim_code y at) (lit< tt) tt

    begin : IsSeq n (collector.begin_code y at)
    begin =
        seq (collector.begin_code y at) (lit< tt) (roots, (roots_end, (marks, (queue, (lit< tt, (lit< tt, tt))))))

    scan : IsSeq n (collector.scan_code y at)
    scan =
        seq (collector.scan_code y at) (lit< tt) (
          lit< tt,
          (
            fields,
            (
              lit< tt,
              (
                lit< tt,
                (
                  marks,
                  (
                    lit< tt,
                    (
                      lit< tt,
                      (
                        lit< tt,
                        (
                          lit< tt,
                          (
                            top,
                            (marks, (lit< tt, tt)),
                          ),
                        ),
                      ),
                    ),
                  ),
                ),
              ),
            ),
          ),
        )

    take : IsSeq n (collector.take_code y at)
    take = seq (collector.take_code y at) (lit< tt) (lit< tt, (marks, (limit, (limit, tt))))

    marked : IsSeq n (collector.marked_code y at)
    marked =
        seq (collector.marked_code y at) (lit< tt) (base, (base, (lit< tt, (base, (lit< tt, (limit, tt))))))

    collects : (a : ℕ) → a < 2 ^ 62 → AreSeqs n (collector_blocks y a)
    collects a low =
        let wants : IsSeq n (text_code a 14) = full a low 14 (lit< tt) in
        (slow, (sweep, (hit, (tail, (grow, (claim, (begin, (scan, (take, (marked, (wants, tt)))))))))))

    -- all of them, where so many registers of the program are saved
    pub runtime_fine : (a heap k : ℕ) → y.base + first_use heap < 2 ^ 64 → a < 2 ^ 61 → k + 16 ≤ n → n < 2 ^ 28 →
        AreSeqs n (runtime_blocks y a heap k)
    runtime_fine a heap k f g h e =
        let table : a + 64 < 2 ^ 62 = omega (arith, g) in
        let more =
        both n (print_blocks (a + 64) print_label) (collector_blocks y a) (prints (a + 64) table print_label)
        (collects a (omega (arith, g))) in
        let first : IsSeq n (start_code y.base (y.base + first_use heap)) =
        start y.base (y.base + first_use heap) base f in
        (first, (print (a + 64) table print_label, (room y k slow_label roots h e, more)))
