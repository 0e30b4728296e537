use Rattle.std.proofs.Common.{◌≡◌, ℕ, ◌+◌, ◌-◌, ◌∙◌, ap, arith}
use Rattle.idx_core.specs.Over.{putted}
use Rattle.idx_core.specs.Steps.{put_step}
use Rattle.f_terms.specs.Ty.{Ty, TVar, TAll, over, put, shift}
use Rattle.f_terms.specs.TyLaws.{types_part, types_over}
use Rattle.f_terms.proofs.laws.put_under_a_binder.Goals as goal

under : (c : ℕ) (s t : Ty) → over (putted TVar over c s) (c + 1) t ≡ put (c + 1) (shift 1 0 s) t
under c s t =
    let one : c + 1 - c ≡ 1 = omega arith in
    put_step types_part types_over c (c + 1) (c + 1) s t (omega arith) (omega arith)
    ∙ ap (λ k. put (c + 1) (shift k 0 s) t) one

pub returns : goal.returns
returns c = λ i s t. ap TAll (under i s t)
