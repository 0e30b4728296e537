-- An instruction by its word and what follows on it.
use Rattle.std.proofs.Common.{◌≡◌, ℕ, ◌+◌, List, [], ◌∷◌, slice_get, Result, Ok, Err, Some, arith}
use Rattle.std.specs.Result.{MatchResult}
use Rattle.text_core.specs.Table.{Nt, marks}
use Rattle.t_text.specs.declared.token.Token.{Token}
use Rattle.t_text.specs.GrammarTable.{table, Stack, LI, OfToken, OfStep, instr_after}
use Rattle.t_text.specs.Text.{most_open}
use Rattle.t_shapes.specs.declared.cursor.Stopped.{Stopped}
use Rattle.t_shapes.specs.ReadsTypes.{Reads, Fails}
use Rattle.t_shapes.proofs.Stepping.{begins, after_moves}
use Rattle.text_core.proofs.Going as step
use Rattle.t_shapes.specs.Raw.{raw_step}
use Rattle.t_shapes.specs.Reads.{ReadsStep}
use Rattle.t_shapes.specs.declared.steps.FoundStep.{FoundStep}

pub as_step : (ts : List Token) (i : ℕ) (word : Token) (left : Stack) (r : Result FoundStep Stopped) →
    slice_get ts i ≡ Some word → instr_after word.kind ≡ Some left → marks table left ≡ 0 →
    MatchResult r (λ f. ReadsStep left ts (i + 1) word f) (λ e. Fails ts 0 (i + 1) left (OfToken word ∷ []) e) →
    MatchResult r (λ f. Reads LI ts 0 i f.next (OfStep (raw_step f.step) ∷ [])) (λ e. Fails ts 0 i (Nt LI ∷ []) [] e)
as_step ts i word left (Ok f) e a m r = record {
  forward = omega (arith, r.forward);
  in_range = r.in_range;
  same = step.then_goes table most_open ts 0 (begins ts 0 i word LI left e a (omega (arith, m))) r.same;
}
as_step ts i word left (Err s) e a m f = after_moves s (begins ts 0 i word LI left e a (omega (arith, m))) f
