use Rattle.std.proofs.Common.{ap, ◌≡◌, ◌+◌, ◌-◌, ◌≤◌, arith, ◌∙◌}
use Rattle.idx_core.specs.Steps.{put_step}
use Rattle.t_types.specs.Tree.{CodeTy, ExistsTy, shift, put, put_file}
use Rattle.t_types.specs.TreeLaws.{types_part, types_over, file_over}
use Rattle.t_types.proofs.laws.puts_under.Goals as goal

pub returns : goal.returns
returns c = record {
  exists = λ at s t.
      let le : at ≤ at + 1 = omega arith in
      let by : at + 1 - at ≡ 1 = omega arith in
      ap ExistsTy (put_step types_part types_over at (at + 1) (at + 1) s t le (omega arith)
      ∙ ap (λ n. put (at + 1) (shift n 0 s) t) by);
  code = λ at n s file.
      let le : at ≤ at + n = omega arith in
      let by : at + n - at ≡ n = omega arith in
      ap (CodeTy n) (put_step types_part file_over at (at + n) (at + n) s file le (omega arith)
      ∙ ap (λ m. put_file (at + n) (shift m 0 s) file) by);
}
