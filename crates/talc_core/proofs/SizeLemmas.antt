-- The number of instructions and jumps of a program is at most that of its instructions and blocks.
use Rattle.std.proofs.Common.{◌≡◌, ◌≤◌, ◌<◌, ℕ, ◌+◌, List, [], ◌∷◌, length, get_or, drop, sym, ◌∙◌, ap, subst, arith}
use Rattle.std.proofs.lemmas.List.{drop_more, drop_all}
use Rattle.idx_core.specs.declared.span.Span.{Span}
use Rattle.t_terms.specs.Tree.{TEnd, Jmp, Halt}
use Rattle.t_terms.specs.Spanned.{seq_of, plain_blocks}
use Rattle.t_terms.specs.Read.{body, end_of, spanned_blocks}
use Rattle.t_terms.specs.declared.instr.Instr.{Instr}
use Rattle.t_terms.specs.declared.block.Block.{Block}
use Rattle.t_rules.specs.Times.{seq_size, blocks_size}

abbrev pub code_size : List Block → ℕ
code_size bs = blocks_size (plain_blocks (spanned_blocks bs))

short_end : (e : TEnd) → seq_size (seq_of [] e) ≤ 1
short_end (Jmp v) = omega arith
short_end Halt = omega arith

short : (xs : List (Instr × Span)) (e : TEnd) → seq_size (seq_of (body xs) e) ≤ length xs + 1
short [] e = let h = short_end e in omega arith
short (x ∷ xs) e = let h = short xs e in omega arith

-- one more block is counted
pub counted : (all size i : ℕ) (bs : List Block) (b : Block) → i < length bs → b ≡ get_or bs i b →
    all ≤ size + code_size (drop i bs) → all ≤ size + (length b.body.items + 1) + code_size (drop (i + 1) bs)
counted all size i bs b low is h =
    let parts : drop i bs ≡ b ∷ drop (i + 1) bs =
    drop_more bs i b low ∙ ap (λ (x : Block). x ∷ drop (i + 1) bs) (sym is) in
    let now : all ≤ size + code_size (b ∷ drop (i + 1) bs) =
    subst (λ (xs : List Block). all ≤ size + code_size xs) parts h in
    let small = short b.body.items (end_of b.end) in
    omega arith

-- all are
pub whole : (all size i : ℕ) (bs : List Block) → length bs ≤ i → all ≤ size + code_size (drop i bs) → all ≤ size
whole all size i bs past h =
    let none : code_size (drop i bs) ≡ 0 = ap (λ (xs : List Block). code_size xs) (drop_all i bs past) in omega arith
