use Rattle.std.proofs.Common.{ℕ, List, ◌-◌}
use Rattle.page_core.specs.Pieces.{Keeps, HasText}
use Rattle.kc_notation.specs.Standing.{IsPage}
use Rattle.kc_notation.specs.ClosedWalk.{Sheet, gathered, past}
use Rattle.kc_notation.proofs.Pages.{Gathering}
use Rattle.kc_notation.proofs.page.Page.gather.Given as goal

abbrev pub invariant-loop-i : goal.invariant-loop-i
invariant-loop-i l = record {
  keeps : Keeps l.initial.self.pieces l.self.pieces;
  gathers : (p : Sheet) (s : List ℕ) → IsPage l.initial.self p → HasText l.initial.self.pieces l.end s →
      Gathering l.self l.whole (l.count - l.i) l.i p (gathered l.count 0 p.body.values s) (past l.count p.body.values);
}
