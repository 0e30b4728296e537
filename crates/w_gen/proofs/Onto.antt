-- Pieces of code that grow.
use Rattle.std.proofs.Common.{◌≡◌, List, [], ◌∷◌, ◌++◌, map, refl, ap}
use Rattle.w_terms.specs.Tree.{WSeq, WThen}
use Rattle.w_terms.specs.Read.{instr, seq, block, end_of}
use Rattle.w_terms.specs.declared.instr.WInstr.{WInstr}
use Rattle.w_terms.specs.declared.instr.WEnd.{WEnd}
use Rattle.w_terms.specs.declared.program.WBlock.{WBlock}
use Rattle.w_gen.specs.Emit.{prefixed}

pub prefixed_push : (is : List WInstr) (i : WInstr) (c : WSeq) →
    prefixed (is ++ i ∷ []) c ≡ prefixed is (WThen (instr i) c)
prefixed_push [] i c = refl
prefixed_push (j ∷ is) i c = ap (WThen (instr j)) (prefixed_push is i c)

pub prefixed_end : (is : List WInstr) (e : WEnd) → seq is e ≡ prefixed is (end_of e)
prefixed_end [] e = refl
prefixed_end (i ∷ is) e = ap (WThen (instr i)) (prefixed_end is e)

pub finished : (ps : List WBlock) (b : WBlock) (rest : List WSeq) →
    map block (ps ++ b ∷ []) ++ rest ≡ map block ps ++ (block b ∷ rest)
finished [] b rest = refl
finished (p ∷ ps) b rest = ap (λ z. block p ∷ z) (finished ps b rest)

pub closed : (ps : List WBlock) (b : WBlock) → map block (ps ++ b ∷ []) ≡ map block ps ++ (block b ∷ [])
closed [] b = refl
closed (p ∷ ps) b = ap (λ z. block p ∷ z) (closed ps b)
