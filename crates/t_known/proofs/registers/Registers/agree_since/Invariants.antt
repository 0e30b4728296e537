use Rattle.std.proofs.Common.{◌≡◌, ◌<◌, ◌≤◌, ℕ, get_or}
use Rattle.t_types.specs.Tree.{TFile, CodeTy}
use Rattle.t_intern.specs.Grown.{Grown}
use Rattle.t_intern.specs.Nodes.{at}
use Rattle.t_known.specs.Fitted.{AgreesAt}
use Rattle.t_known.specs.Known.{known}
use Rattle.t_known.proofs.registers.Registers.agree_since.Given as goal

abbrev pub invariant-loop-i : goal.invariant-loop-i
invariant-loop-i l = record {
  grown : Grown l.fn.types l.types;
  fit : (f : TFile) → at l.fn.types l.code ≡ CodeTy 0 f → (j : ℕ) → l.from ≤ j → j < l.i →
      AgreesAt (known l.fn.types l.self) f (get_or l.self.changed.items j 0);
}
