-- The word code of a plan is the program's, with its runtime.
use Rattle.std.proofs.Common.{◌≡◌, ℕ, ◌+◌, ◌-◌, ◌*◌, ◌/◌, ◌%◌, ◌≤◌, ◌<◌, ◌^◌, List, ◌++◌, length, refl, sym}
use Rattle.std.proofs.Common.{ap, ap₂, ◌∙◌, arith, subst, ⊎_elim}
use Rattle.std.specs.Prelude.{slice_index}
use Rattle.t_terms.specs.Tree.{TProg}
use Rattle.t_terms.specs.Whole.{Whole}
use Rattle.t_rules.specs.Erase.{erase_blocks, erase_heap}
use Rattle.w_terms.specs.Tree.{WSeq, WProg}
use Rattle.w_terms.specs.declared.program.WDatum.{WDatum}
use Rattle.w_runtime.specs.Blocks.{Layout}
use Rattle.w_blocks.specs.Read.{layout}
use Rattle.w_rooms.specs.Numbers.{entry}
use Rattle.w_laws.specs.Code.{own_words, data_size, data_words}
use Rattle.w_laws.specs.Translate.{blocks_of, codes_of}
use Rattle.w_laws.specs.Built.{IsBuilt, layout_of, program_layout, runtime_blocks, runtime_words}
use Rattle.w_gen.specs.Data.{addresses_of, generated, word_code}
use Rattle.w_gen.specs.Limits.{IsPlan, IsTooLarge, IsWide, IsBuiltInFull, registers_of, highest_field}
use Rattle.w_gen.specs.declared.memory.Plan.{Plan}
use Rattle.w_gen.proofs.Bounds.{all_small}
use Rattle.w_gen.proofs.Generated.{generated_by_rules}
use Rattle.w_gen.proofs.Rooms.{zeros_length}

own_length : (many : ℕ) → length (runtime_words many) ≡ own_words many
own_length many = let z = zeros_length many in omega (arith, z)

-- the last address
ends : (base heap many words : ℕ) → heap % 4096 ≡ 0 →
    base + 8 * ((base + 248 + 8 * (many + 1 + words) + heap + (8 * (many + 1 + words) + heap) + heap / 2 - base) / 8)
    ≡ base + 248 + 8 * (many + 1 + words) + heap + (8 * (many + 1 + words) + heap) + heap / 2
ends base heap many words h = omega (arith, h)

module _ (P : TProg) (base heap : ℕ) (whole : Whole P) (aligned : base % 8 ≡ 0) (pages : heap % 4096 ≡ 0)
    (some : 0 < heap) where
  abbrev many : ℕ
  many = registers_of P

  abbrev parts : Layout
  parts = program_layout base heap many P

  abbrev code : WProg
  code = generated base ((parts.top - base) / 8) many (runtime_blocks parts base heap many) (runtime_words many) P

  built : highest_field (erase_blocks P) < 2 ^ 28 → parts.top < 2 ^ 47 → IsBuiltInFull P base heap code
  built short fits =
      let start = base + 8 * own_words many in
      let at = slice_index (addresses_of start P.heap) in
      let es = erase_blocks P in
      let o = codes_of at (entry (length es)) es in
      let t = generated_by_rules P whole many (all_small many es (omega arith) (omega (arith, short))) base
      ((parts.top - base) / 8) (runtime_blocks parts base heap many) (runtime_words many) refl (own_length many) in
      let b : IsBuilt P base heap code = record {
        many = many;
        translation = t.0;
        own = t.1;
        rest = o.firsts ++ o.rest;
        blocks = refl;
        begins = refl;
        ends = ends base heap many (data_size (erase_heap P)) pages;
        aligned = aligned;
        pages = pages;
        some = some;
        small = omega (arith, fits);
      } in (b, refl)

  module _ (p : Plan) (h : IsPlan P base heap p) where
    top : p.parts.top ≡ parts.top
    top = ap (λ (y : Layout). y.top) h.parts

    same : generated p.base ((p.parts.top - p.base) / 8) p.many
        (runtime_blocks (layout p.parts) p.base p.heap p.many) (runtime_words p.many) P ≡ code
    same =
        ap₂ (λ b t. generated b ((t - b) / 8) p.many (runtime_blocks (layout p.parts) b p.heap p.many)
        (runtime_words p.many) P) h.begins top
        ∙ ap₂ (λ e n. generated base ((parts.top - base) / 8) n (runtime_blocks (layout p.parts) base e n)
        (runtime_words n) P) h.length h.many
        ∙ ap (λ y. generated base ((parts.top - base) / 8) many (runtime_blocks y base heap many)
        (runtime_words many) P) h.parts

    pub is_built : (W : WProg) → W ≡ generated p.base ((p.parts.top - p.base) / 8) p.many
        (runtime_blocks (layout p.parts) p.base p.heap p.many) (runtime_words p.many) P → IsBuiltInFull P base heap W
    is_built W e =
        let f = h.fits in
        subst (IsBuiltInFull P base heap) (sym (e ∙ same)) (built h.short (subst (λ t. t < 2 ^ 47) top f))

    pub is_code : (W : WProg) → W ≡ generated p.base ((p.parts.top - p.base) / 8) p.many
        (runtime_blocks (layout p.parts) p.base p.heap p.many) (runtime_words p.many) P → W ≡ word_code P base heap
    is_code W e = e ∙ same

pub not_large : (P : TProg) (base heap : ℕ) (p : Plan) → IsPlan P base heap p → IsTooLarge base heap P → ⊥
not_large P base heap p h = ⊎_elim
    (λ (w : IsWide P). let f = h.few in let m = h.many in absurd (omega (arith, w, f, m)))
    (⊎_elim
    (λ (w : 2 ^ 28 ≤ highest_field (erase_blocks P)). let s = h.short in absurd (omega (arith, w, s)))
    (λ (w : 2 ^ 47 ≤ (program_layout base heap (registers_of P) P).top).
    let f = h.fits in
    let t : p.parts.top ≡ (program_layout base heap (registers_of P) P).top = ap (λ (y : Layout). y.top) h.parts in
    absurd (omega (arith, w, f, t))))

pub plan_order : (P : TProg) (base heap : ℕ) (p : Plan) → IsPlan P base heap p → p.base ≤ p.parts.top
plan_order P base heap p h =
    let b = h.begins in
    let t : p.parts.top ≡ (program_layout base heap (registers_of P) P).top = ap (λ (y : Layout). y.top) h.parts in
    omega (arith, b, t)

-- the layout of a plan
pub laid : (P : TProg) (base heap n words : ℕ) (y : Layout) → y ≡ layout_of base heap n words →
    n ≡ registers_of P → words ≡ data_size (erase_heap P) → y ≡ program_layout base heap (registers_of P) P
laid P base heap n words y e m w = e ∙ ap₂ (λ a k. layout_of base heap a k) m w

-- the code in parts
pub joined : (P : TProg) (base size many start : ℕ) (rt bs : List WSeq) (own im : List WDatum) (places : List ℕ) →
    start ≡ base + 8 * (many + 32) → places ≡ addresses_of start P.heap →
    bs ≡ blocks_of (slice_index places) rt (erase_blocks P) →
    im ≡ own ++ data_words (slice_index places) (erase_heap P) →
    record { blocks = bs; base = base; image = im; size = size } ≡ generated base size many rt own P
joined P base size many start rt bs own im places s p b i =
    let from : start ≡ base + 8 * own_words many = omega (arith, s) in
    let q = p ∙ ap (λ n. addresses_of n P.heap) from in
    ap₂ (λ x y. record { blocks = x; base = base; image = y; size = size })
    (b ∙ ap (λ ps. blocks_of (slice_index ps) rt (erase_blocks P)) q)
    (i ∙ ap (λ ps. own ++ data_words (slice_index ps) (erase_heap P)) q)
