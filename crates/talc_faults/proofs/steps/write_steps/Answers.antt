use Rattle.std.proofs.Common.{◌≡◌, suc, ◌-◌, ◌<◌, ◌≤◌, ◌++◌, length, take, codes, ap, ap₂, ◌∙◌, arith, rules}
use Rattle.type_path.specs.Paths.{path_of}
use Rattle.talc_faults.specs.Apart.{steps_text}
use Rattle.talc_faults.proofs.PathLemmas.{told_on, left_out}
use Rattle.talc_faults.proofs.steps.write_steps.Goals as goal

pub returns-then-len-room : goal.returns-then-len-room
returns-then-len-room c =
    let l = c.loop-at in
    let n = l.at in
    let e : n ≡ suc (n - 1) = let t = c.loop-at-test.true in omega arith in
    let there : n - 1 < length c.args.path.now = let t = c.loop-at-test.true in omega (arith, l.invariant.0) in
    let piece = c.in_ok-piece.piece in
    let long : l.room < length piece.items = omega (arith, c.if-len-room.true, c.len.ensures, piece.ok.0) in
    left_out l.text.items l.room l.before.now c.args.path.now n (n - 1) _ e there piece.items c.in_ok-piece.ensures
    c.write_dots.new.text.items _ long c.in_ok-write_dots.ensures l.invariant.1

pub loop-at-preserved : goal.loop-at-preserved
loop-at-preserved c =
    let l = c.loop-at in
    let n = l.at in
    let e : n ≡ suc (n - 1) = let t = c.loop-at-test.true in omega arith in
    let there : n - 1 < length c.args.path.now = let t = c.loop-at-test.true in omega (arith, l.invariant.0) in
    let piece = c.in_ok-piece.piece in
    let short : length piece.items ≤ l.room = omega (arith, c.if-len-room.false, c.len.ensures, piece.ok.0) in
    let same : c.len-room.result ≡ length piece.items = omega (arith, c.len-room.ensures, piece.ok.0) in
    let words : c.as_slice-before-in-loop-at.result.now ≡ codes ", then " =
    search (rules, c.as_slice-before-in-loop-at.ensures) in
    let new = c.extend_from_slice.new.self.items in
    let added : new ≡ l.text.items ++ piece.items =
    c.in_ok-extend_from_slice.ensures.items ∙ ap (λ x. l.text.items ++ x) c.deref.ensures.value in (
      omega (arith, l.invariant.0),
      ap₂ (λ k b. new ++ steps_text (l.room - k) b (path_of (take (n - 1) c.args.path.now))) same words
          ∙ told_on l.text.items l.room l.before.now c.args.path.now n (n - 1) _ e there piece.items
          c.in_ok-piece.ensures new _ short added l.invariant.1,
    )
