use Rattle.std.proofs.Common.{sym, refl}
use Rattle.a_pass.proofs.Stepping.{steps_for}
use Rattle.a_pass.proofs.nodes.form.Goals as goal

pub returns-in_ok-name-in-Name : goal.returns-in_ok-name-in-Name
returns-in_ok-name-in-Name c = steps_for _ _ _ c.args.run c.args.progress.now _ (sym c.in-Name.is)
    c.in_ok-name-in-Name.ensures

pub returns-in_ok-project-in-Proj : goal.returns-in_ok-project-in-Proj
returns-in_ok-project-in-Proj c =
    steps_for _ _ _ c.args.run c.args.progress.now _ (sym c.in-Proj.is) c.in_ok-project-in-Proj.ensures.field

pub returns-in_ok-operate-in-Arith : goal.returns-in_ok-operate-in-Arith
returns-in_ok-operate-in-Arith c =
    steps_for _ _ _ c.args.run c.args.progress.now _ (sym c.in-Arith.is) c.in_ok-operate-in-Arith.ensures

pub returns-in_ok-unpack-in-Unpack : goal.returns-in_ok-unpack-in-Unpack
returns-in_ok-unpack-in-Unpack c =
    steps_for _ _ _ c.args.run c.args.progress.now _ (sym c.in-Unpack.is) c.in_ok-unpack-in-Unpack.ensures

pub returns-in_ok-cell-in-Cell : goal.returns-in_ok-cell-in-Cell
returns-in_ok-cell-in-Cell c = steps_for _ _ _ c.args.run c.args.progress.now _ (sym c.in-Cell.is)
    c.in_ok-cell-in-Cell.ensures

pub returns-in_ok-project-in-Get : goal.returns-in_ok-project-in-Get
returns-in_ok-project-in-Get c =
    steps_for _ _ _ c.args.run c.args.progress.now _ (sym c.in-Get.is) (c.in_ok-project-in-Get.ensures.cell refl)

pub returns-in_ok-set-in-Set : goal.returns-in_ok-set-in-Set
returns-in_ok-set-in-Set c = steps_for _ _ _ c.args.run c.args.progress.now _ (sym c.in-Set.is)
    c.in_ok-set-in-Set.ensures

pub returns-in_ok-call-in-Call : goal.returns-in_ok-call-in-Call
returns-in_ok-call-in-Call c = steps_for _ _ _ c.args.run c.args.progress.now _ (sym c.in-Call.is)
    c.in_ok-call-in-Call.ensures

pub returns-in_ok-choose-in-If0 : goal.returns-in_ok-choose-in-If0
returns-in_ok-choose-in-If0 c = steps_for _ _ _ c.args.run c.args.progress.now _ (sym c.in-If0.is)
    c.in_ok-choose-in-If0.ensures

pub returns-in_ok-halt-in-Halt : goal.returns-in_ok-halt-in-Halt
returns-in_ok-halt-in-Halt c = steps_for _ _ _ c.args.run c.args.progress.now _ (sym c.in-Halt.is)
    c.in_ok-halt-in-Halt.ensures
