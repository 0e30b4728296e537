-- The blocks and the data together.
use Rattle.std.proofs.Common.{◌≡◌, List, sym, ap, ap₂, ◌∙◌, subst}
use Rattle.std.proofs.Math.Logic.{∥∥₁_elim}
use Rattle.t_terms.specs.Tree.{TBlock, TData, TProg}
use Rattle.t_terms.specs.Whole.{WellFormedProgram, program_prop}
use Rattle.t_terms.specs.Read.{parts, blocks_of, data_of}
use Rattle.t_terms.specs.declared.block.Block.{Block}
use Rattle.t_terms.specs.declared.data.Data.{Data}
use Rattle.a_terms.specs.Tree.{ATm, AConsts, AProg}
use Rattle.a_terms.specs.Bound.{ABound}
use Rattle.t_gen_rules.specs.Gen.{generated_blocks, generated_heap, generated}
use Rattle.t_gen_laws.specs.Laws.{InvariantKept}

pub both : (p : AProg) (main tree : ATm) (xs : List AConsts) (bs : List Block) (ds : List Data) →
    blocks_of bs ≡ generated_blocks p tree → tree ≡ main → data_of ds ≡ generated_heap xs → xs ≡ p.tuples →
    parts bs ds ≡ generated p main
both p main tree xs bs ds b same d all =
    ap₂ (λ (x : List TBlock) (y : List TData). record { blocks = x; heap = y }) (b ∙ ap (generated_blocks p) same)
    (d ∙ ap generated_heap all)

pub in_range : (p : AProg) (main : ATm) (P : TProg) → InvariantKept → P ≡ generated p main → ∥ ABound p main ∥₁ →
    WellFormedProgram P
in_range p main P kept same bound = ∥∥₁_elim bound (program_prop P) (λ b. subst WellFormedProgram (sym same)
    (kept p main b.0.0 b.1))
