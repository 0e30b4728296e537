-- The highest numbers that a program names.
use Rattle.std.proofs.Common.{◌≡◌, ℕ, ◌<◌, ◌^◌, max, List, [], ◌∷◌, refl, sym, ap, ◌∙◌, arith}
use Rattle.idx_core.specs.declared.span.Span.{Span}
use Rattle.t_terms.specs.Tree.{TEnd, Jmp, Halt}
use Rattle.t_terms.specs.Spanned.{seq_of}
use Rattle.t_terms.specs.Read.{instr, body, block as tree}
use Rattle.t_terms.specs.declared.instr.Instr.{Instr}
use Rattle.t_terms.specs.declared.block.Block.{Block}
use Rattle.t_rules.specs.Erase.{EArith, EBnz, ELd, EMalloc, EMov, ESt, ESeq, EThen, EJmp, EHalt}
use Rattle.t_rules.specs.Erase.{erase_instr, erase_end, erase_seq, erase_block}
use Rattle.w_laws.specs.Translate.{Small, AllSmall}
use Rattle.w_gen.specs.Limits.{base_register, instr_register, instr_field, seq_register, seq_field}
use Rattle.w_gen.specs.Limits.{highest_register, highest_field}
use Rattle.w_gen.proofs.Shares.{erased}

most : (old new n rest whole all : ℕ) → max old whole ≡ all → whole ≡ max n rest → new ≡ max old n → max new rest ≡ all
most old new n rest whole all inv e s = omega (arith, inv, e, s)

-- the loop over blocks
pub registers_go : (old new n : ℕ) (ys xs : List Block) (x : Block) (all : ℕ) →
    max old (highest_register (erased ys)) ≡ all → ys ≡ x ∷ xs → n ≡ seq_register (erase_block (tree x)) →
    new ≡ max old n → max new (highest_register (erased xs)) ≡ all
registers_go old new n ys xs x all inv is e s =
    most old new n (highest_register (erased xs)) (highest_register (erased ys)) all inv
    (ap (λ (zs : List Block). highest_register (erased zs)) is
    ∙ ap (λ m. max m (highest_register (erased xs))) (sym e)) s

pub fields_go : (old new n : ℕ) (ys xs : List Block) (x : Block) (all : ℕ) →
    max old (highest_field (erased ys)) ≡ all → ys ≡ x ∷ xs → n ≡ seq_field (erase_block (tree x)) →
    new ≡ max old n → max new (highest_field (erased xs)) ≡ all
fields_go old new n ys xs x all inv is e s =
    most old new n (highest_field (erased xs)) (highest_field (erased ys)) all inv
    (ap (λ (zs : List Block). highest_field (erased zs)) is ∙ ap (λ m. max m (highest_field (erased xs))) (sym e)) s

-- the loop over instructions
abbrev pub left : List (Instr × Span) → TEnd → ESeq
left xs e = erase_seq (seq_of (body xs) e)

pub instr_registers_go : (old new n : ℕ) (ys xs : List (Instr × Span)) (x : Instr × Span) (t : TEnd) (all : ℕ) →
    max old (seq_register (left ys t)) ≡ all → ys ≡ x ∷ xs → n ≡ instr_register (erase_instr (instr x.0)) →
    new ≡ max old n → max new (seq_register (left xs t)) ≡ all
instr_registers_go old new n ys xs x t all inv is e s =
    most old new n (seq_register (left xs t)) (seq_register (left ys t)) all inv
    (ap (λ (zs : List (Instr × Span)). seq_register (left zs t)) is
    ∙ ap (λ m. max m (seq_register (left xs t))) (sym e)) s

pub instr_fields_go : (old new n : ℕ) (ys xs : List (Instr × Span)) (x : Instr × Span) (t : TEnd) (all : ℕ) →
    max old (seq_field (left ys t)) ≡ all → ys ≡ x ∷ xs → n ≡ instr_field (erase_instr (instr x.0)) →
    new ≡ max old n → max new (seq_field (left xs t)) ≡ all
instr_fields_go old new n ys xs x t all inv is e s =
    most old new n (seq_field (left xs t)) (seq_field (left ys t)) all inv
    (ap (λ (zs : List (Instr × Span)). seq_field (left zs t)) is ∙ ap (λ m. max m (seq_field (left xs t))) (sym e)) s

pub end_field : (t : TEnd) → seq_field (erase_end t) ≡ 0
end_field (Jmp v) = refl
end_field Halt = refl

-- where they are in bounds, the program can be translated
small : (many : ℕ) (e : ESeq) → seq_register e < many → seq_field e < 2 ^ 31 → Small many e
small many (EThen (EArith op rd rs b) e) h f =
    let g : max (max (max rd rs) (base_register b)) (seq_register e) < many = h in
    let k : max 0 (seq_field e) < 2 ^ 31 = f in
    (omega (arith, g), small many e (omega (arith, g)) (omega (arith, k)))
small many (EThen (EBnz q b) e) h f =
    let g : max (max q (base_register b)) (seq_register e) < many = h in
    let k : max 0 (seq_field e) < 2 ^ 31 = f in
    small many e (omega (arith, g)) (omega (arith, k))
small many (EThen (ELd rd rs i) e) h f =
    let g : max (max rd rs) (seq_register e) < many = h in
    let k : max i (seq_field e) < 2 ^ 31 = f in
    (omega (arith, g), small many e (omega (arith, g)) (omega (arith, k)))
small many (EThen (EMalloc rd n) e) h f =
    let g : max rd (seq_register e) < many = h in
    let k : max n (seq_field e) < 2 ^ 31 = f in
    (omega (arith, g), omega (arith, k), small many e (omega (arith, g)) (omega (arith, k)))
small many (EThen (EMov rd b) e) h f =
    let g : max (max rd (base_register b)) (seq_register e) < many = h in
    let k : max 0 (seq_field e) < 2 ^ 31 = f in
    (omega (arith, g), small many e (omega (arith, g)) (omega (arith, k)))
small many (EThen (ESt rd i rs) e) h f =
    let g : max (max rd rs) (seq_register e) < many = h in
    let k : max i (seq_field e) < 2 ^ 31 = f in
    small many e (omega (arith, g)) (omega (arith, k))
small many (EJmp b) h f = tt
small many EHalt h f = tt

pub all_small : (many : ℕ) (es : List ESeq) → highest_register es < many → highest_field es < 2 ^ 31 → AllSmall many es
all_small many [] h f = tt
all_small many (e ∷ es) h f =
    let g : max (seq_register e) (highest_register es) < many = h in
    let k : max (seq_field e) (highest_field es) < 2 ^ 31 = f in
    (small many e (omega (arith, g)) (omega (arith, k)), all_small many es (omega (arith, g)) (omega (arith, k)))
