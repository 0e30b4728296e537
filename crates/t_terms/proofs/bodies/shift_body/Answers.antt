use Rattle.std.proofs.Common.{◌≡◌, ◌+◌, ℕ, sym, subst, refl}
use Rattle.idx_core.specs.Over.{IsWord, ShiftFitsAt, shifted}
use Rattle.t_types.specs.Tree.{VarTy}
use Rattle.t_terms.specs.Tree.{names_after}
use Rattle.t_terms.specs.Read.{instr}
use Rattle.t_terms.proofs.BodyWalks.{Walk, DepthAt, RestHas, walk_on, depth_on, here_and_rest}
use Rattle.t_terms.proofs.bodies.shift_body.Goals as goal

pub loop-entry-preserved : goal.loop-entry-preserved
loop-entry-preserved c =
    let xs = c.args.entries.now in
    let i = c.loop-entry.entry-index in
    let x = c.entry-item.result in
    let n = c.names_after-depth.result in
    let rest = here_and_rest (ShiftFitsAt c.args.by) IsWord xs i c.loop-entry.depth x c.entry-item.is
    c.loop-entry-test.true c.loop-entry.invariant.fits in
    let e : names_after (instr x.0) c.loop-entry.depth ≡ n = sym c.names_after-depth.ensures in
    let walked =
    walk_on (shifted VarTy c.args.by) c.args.cut xs c.loop-entry.made.items i c.loop-entry.depth x _ c.entry-item.is
    c.loop-entry-test.true c.in_ok-i.ensures refl c.loop-entry.invariant.walk in
    record {
      small = subst IsWord e rest.1;
      fits = subst (λ (m : ℕ). RestHas (ShiftFitsAt c.args.by) IsWord xs (i + 1) m) e rest.2;
      walk = subst (λ (m : ℕ). Walk (shifted VarTy c.args.by) c.args.cut xs c.push.new.self.items (i + 1) m) e
          (subst (λ ys. Walk (shifted VarTy c.args.by) c.args.cut xs ys (i + 1)
          (names_after (instr x.0) c.loop-entry.depth)) (sym c.in_ok-push.ensures.items) walked);
      deep = subst (λ (m : ℕ). DepthAt c.args.cut xs (i + 1) m) e
          (depth_on c.args.cut xs i c.loop-entry.depth x c.entry-item.is c.loop-entry-test.true
          c.loop-entry.invariant.deep);
    }
