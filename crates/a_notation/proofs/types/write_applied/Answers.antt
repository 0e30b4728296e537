use Rattle.std.proofs.Common.{◌≡◌, ◌++◌, List, ℕ, codes, append_assoc}
use Rattle.a_terms.specs.Tree.{ATys}
use Rattle.a_terms.specs.Read.{atrees}
use Rattle.a_notation.specs.Types.{applied_text, types_text}
use Rattle.a_notation.proofs.TypeTexts.{applied_is}
use Rattle.a_notation.proofs.types.write_applied.Goals as goal
use Rattle.idx_core.proofs.Numbers.{not_empty}

applied_done : (d : ℕ) (ts : ATys) (t0 t1 t2 t3 : List ℕ) → t1 ≡ t0 ++ codes "[" → t2 ≡ t1 ++ types_text 0 d ts →
    t3 ≡ t2 ++ codes "]" → applied_text d ts ≡ codes "[" ++ (types_text 0 d ts ++ codes "]") →
    t3 ≡ t0 ++ applied_text d ts
applied_done d ts t0 t1 t2 t3 e1 e2 e3 is = rw (e3, e2, e1, is) (simp append_assoc)

pub returns : goal.returns
returns c =
    applied_done c.args.depth (atrees c.args.ts.now) _ _ _ _ c.in_ok-extend_from_slice.ensures.items
    c.in_ok-write_types.ensures c.in_ok-extend_from_slice-2.ensures.items
    (applied_is c.args.depth c.args.ts.now (not_empty _ c.is_empty.result c.is_empty.ensures c.if-is_empty.false))
