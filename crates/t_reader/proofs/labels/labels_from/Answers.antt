use Rattle.std.proofs.Common.{◌∙◌}
use Rattle.t_reader.proofs.Labelled.{named_in_map}
use Rattle.t_reader.proofs.Numbering.{labels_start, next_block, next_data, all_labels}
use Rattle.t_reader.proofs.labels.labels_from.Goals.{in-Block+in_ok-keep_first-in-Block}
use Rattle.t_reader.proofs.labels.labels_from.Goals.{in-Data+in_ok-keep_first-in-Data}
use Rattle.t_reader.proofs.labels.labels_from.Goals as goal

pub loop-head-init : goal.loop-head-init
loop-head-init c =
    labels_start c.args.text.now c.args.heads.now _ c.by_spelling-targets.ensures

pub loop-head-preserved : goal.loop-head-preserved
loop-head-preserved c =
    let l = c.loop-head in
    let text = c.args.text.now in
    let heads = c.args.heads.now in
    elim c.match-head.branch [
      | in-Block+in_ok-keep_first-in-Block w ↦
          rw (w.targets-is, w.blocks-is, w.tuples-is) (next_block text heads l.head-index l.blocks l.tuples l.targets
          _ c.loop-head-test.true l.invariant _ w.in-Block.name w.in-Block.is
          (rw w.spelling.ensures at (w.in_ok-keep_first-in-Block.ensures _ l.invariant.firsts)))
      | in-Data+in_ok-keep_first-in-Data w ↦
          rw (w.targets-is, w.blocks-is, w.tuples-is) (next_data text heads l.head-index l.blocks l.tuples l.targets
          _ c.loop-head-test.true l.invariant _ w.in-Data.name w.in-Data.is
          (rw w.spelling-in-Data.ensures at (w.in_ok-keep_first-in-Data.ensures _ l.invariant.firsts)))
    ]

pub returns : goal.returns
returns c =
    let l = c.loop-head in
    let heads = c.args.heads.now in
    λ x. named_in_map x l.targets ∙
    all_labels c.args.text.now heads l.head-index l.blocks l.tuples l.targets c.loop-head-test.false l.invariant x
