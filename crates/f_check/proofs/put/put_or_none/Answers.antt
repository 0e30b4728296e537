use Rattle.std.proofs.Common.{arith}
use Rattle.f_terms.specs.Read.{tree}
use Rattle.f_check.proofs.Puts.{depth_made, size_made}
use Rattle.f_check.proofs.put.put_or_none.Goals as goal

pub returns-then-put_depth-gt-DEPTH : goal.returns-then-put_depth-gt-DEPTH
returns-then-put_depth-gt-DEPTH c = λ h.
    let e = depth_made (tree c.args.what.now) (tree c.args.body.now) c.depth.result c.put_depth.result c.depth.ensures
    (omega (arith, c.depth.ensures, c.requires.kept.0)) c.put_depth.ensures in
    omega (arith, e, h.0, c.if-put_depth-gt-DEPTH.true)

pub returns-then-put_size-gt-SIZE : goal.returns-then-put_size-gt-SIZE
returns-then-put_size-gt-SIZE c = λ h.
    let e = size_made (tree c.args.what.now) (tree c.args.body.now) c.size.result c.put_size.result c.size.ensures
    (omega (arith, c.size.ensures, c.requires.kept.1)) c.put_size.ensures in
    omega (arith, e, h.1, c.if-put_size-gt-SIZE.true)

pub returns : goal.returns
returns c =
    let d = depth_made (tree c.args.what.now) (tree c.args.body.now) c.depth.result c.put_depth.result c.depth.ensures
    (omega (arith, c.depth.ensures, c.requires.kept.0)) c.put_depth.ensures in
    let w = size_made (tree c.args.what.now) (tree c.args.body.now) c.size.result c.put_size.result c.size.ensures
    (omega (arith, c.size.ensures, c.requires.kept.1)) c.put_size.ensures in (
      c.in_ok-made.ensures,
      (omega (arith, d, c.if-put_depth-gt-DEPTH.false), omega (arith, w, c.if-put_size-gt-SIZE.false)),
    )
