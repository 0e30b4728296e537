use Rattle.std.proofs.Common.{◌≡◌, ◌≤◌, ◌+◌, ℕ, sym, subst, refl, arith}
use Rattle.idx_core.specs.Over.{IsWord, PutFitsAt, putted}
use Rattle.t_types.specs.Tree.{VarTy, over, each}
use Rattle.t_types.specs.Read.{tree}
use Rattle.t_terms.specs.Tree.{names_after}
use Rattle.t_terms.specs.Read.{instr}
use Rattle.t_terms.proofs.BodyWalks.{Walk, DepthAt, RestHas, walk_on, depth_on, here_and_rest, names_grow}
use Rattle.t_terms.proofs.bodies.put_body.Goals as goal

pub loop-entry-preserved : goal.loop-entry-preserved
loop-entry-preserved c =
    let xs = c.args.entries.now in
    let i = c.loop-entry.entry-index in
    let x = c.entry-item.result in
    let n = c.names_after-depth.result in
    let what = tree c.args.what.now in
    let rest = here_and_rest (PutFitsAt each c.args.at what) IsWord xs i c.loop-entry.depth x c.entry-item.is
    c.loop-entry-test.true c.loop-entry.invariant.fits in
    let e : names_after (instr x.0) c.loop-entry.depth ≡ n = sym c.names_after-depth.ensures in
    let more : c.loop-entry.depth ≤ names_after (instr x.0) c.loop-entry.depth =
    names_grow (instr x.0) c.loop-entry.depth in
    let walked =
    walk_on (putted VarTy over c.args.at what) c.args.start xs c.loop-entry.made.items i c.loop-entry.depth x _
    c.entry-item.is c.loop-entry-test.true c.in_ok-i.ensures refl c.loop-entry.invariant.walk in
    record {
      below = omega arith;
      small = subst IsWord e rest.1;
      fits = subst (λ (m : ℕ). RestHas (PutFitsAt each c.args.at what) IsWord xs (i + 1) m) e rest.2;
      walk =
          subst (λ (m : ℕ). Walk (putted VarTy over c.args.at what) c.args.start xs c.push.new.self.items (i + 1) m) e
          (subst (λ ys. Walk (putted VarTy over c.args.at what) c.args.start xs ys (i + 1)
          (names_after (instr x.0) c.loop-entry.depth)) (sym c.in_ok-push.ensures.items) walked);
      deep = subst (λ (m : ℕ). DepthAt c.args.start xs (i + 1) m) e
          (depth_on c.args.start xs i c.loop-entry.depth x c.entry-item.is c.loop-entry-test.true
          c.loop-entry.invariant.deep);
    }
