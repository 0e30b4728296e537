use Rattle.std.proofs.Common.{ap, ap₂, ◌≡◌, ◌+◌, ◌-◌, ◌≤◌, arith, ◌∙◌}
use Rattle.idx_core.specs.Steps.{put_step}
use Rattle.t_types.specs.Tree.{TFile, shift, put_file}
use Rattle.t_types.specs.TreeLaws.{types_part, file_over}
use Rattle.t_terms.specs.Tree.{TSeq, Unpack, Then, put_value, put_seq}
use Rattle.t_terms.specs.TreeLaws.{seq_over}
use Rattle.t_terms.proofs.laws.puts_under.Goals as goal

pub returns : goal.returns
returns c = record {
  unpack = λ at rd s v rest.
      let le : at ≤ at + 1 = omega arith in
      let by : at + 1 - at ≡ 1 = omega arith in
      ap (Then (Unpack rd (put_value at s v)))
      (put_step types_part seq_over at (at + 1) (at + 1) s rest le (omega arith)
      ∙ ap (λ n. put_seq (at + 1) (shift n 0 s) rest) by);
  block = λ at s b.
      let n = b.owes in
      let le : at ≤ at + n = omega arith in
      let by : at + n - at ≡ n = omega arith in
      ap₂ (λ (file : TFile) (code : TSeq). record { owes = n; file = file; code = code })
      (put_step types_part file_over at (at + n) (at + n) s b.file le (omega arith)
      ∙ ap (λ m. put_file (at + n) (shift m 0 s) b.file) by)
      (put_step types_part seq_over at (at + n) (at + n) s b.code le (omega arith)
      ∙ ap (λ m. put_seq (at + n) (shift m 0 s) b.code) by);
}
