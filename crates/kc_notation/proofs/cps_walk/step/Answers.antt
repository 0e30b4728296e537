use Rattle.std.proofs.Common.{◌≡◌, ap, sym, ◌∙◌, rules, to_z, of_z, w64}
use Rattle.k_terms.specs.Stream.{NInt, NCode, NCall}
use Rattle.k_terms.specs.Read.{knode, ktys}
use Rattle.kc_notation.proofs.CpsStepping.{as_step}
use Rattle.kc_notation.proofs.cps_walk.step.Goals as goal

pub returns-in-Var : goal.returns-in-Var
returns-in-Var c = as_step c.args.typed c.variable.result _ _ c.args.page.now c.variable.new.self
    (ap knode c.in-Var.is) c.variable.ensures

pub returns-in-Int : goal.returns-in-Int
returns-in-Int c =
    let same : to_z w64 (of_z w64 c.in-Int.n) ≡ c.in-Int.n = search rules in
    as_step c.args.typed c.integer.result _ (NInt (to_z w64 (of_z w64 c.in-Int.n))) c.args.page.now c.integer.new.self
    (ap knode c.in-Int.is ∙ ap NInt (sym same)) c.integer.ensures

pub returns-in-Tuple : goal.returns-in-Tuple
returns-in-Tuple c = as_step c.args.typed c.tuple.result _ _ c.args.page.now c.tuple.new.self
    (ap knode c.in-Tuple.is) c.tuple.ensures

pub returns-in-Code : goal.returns-in-Code
returns-in-Code c =
    as_step c.args.typed c.enter.result _ _ c.args.page.now c.enter.new.page
    (ap knode c.in-Code.is
    ∙ ap (λ ts. NCode c.in-Code.level c.in-Code.depth c.in-Code.owes (ktys ts)) (sym c.deref.ensures.value))
    c.enter.ensures

pub returns-in-End : goal.returns-in-End
returns-in-End c = as_step c.args.typed c.leave.result _ _ c.args.page.now c.leave.new.self (ap knode c.in-End.is)
    c.leave.ensures

pub returns-in-Name : goal.returns-in-Name
returns-in-Name c = as_step c.args.typed c.declare.result _ _ c.args.page.now c.declare.new.page
    (ap knode c.in-Name.is) c.declare.ensures

pub returns-in-Proj : goal.returns-in-Proj
returns-in-Proj c = as_step c.args.typed c.project.result _ _ c.args.page.now c.project.new.page
    (ap knode c.in-Proj.is) c.project.ensures

pub returns-in-Arith : goal.returns-in-Arith
returns-in-Arith c = as_step c.args.typed c.arith.result _ _ c.args.page.now c.arith.new.page
    (ap knode c.in-Arith.is) c.arith.ensures

pub returns-in-Pack : goal.returns-in-Pack
returns-in-Pack c = as_step c.args.typed c.pack.result _ _ c.args.page.now c.pack.new.page (ap knode c.in-Pack.is)
    c.pack.ensures

pub returns-in-Unpack : goal.returns-in-Unpack
returns-in-Unpack c = as_step c.args.typed c.unpack.result _ _ c.args.page.now c.unpack.new.page
    (ap knode c.in-Unpack.is) c.unpack.ensures

pub returns-in-Cell : goal.returns-in-Cell
returns-in-Cell c = as_step c.args.typed c.declare-in-Cell.result _ _ c.args.page.now c.declare-in-Cell.new.page
    (ap knode c.in-Cell.is) c.declare-in-Cell.ensures

pub returns-in-Get : goal.returns-in-Get
returns-in-Get c = as_step c.args.typed c.declare-in-Get.result _ _ c.args.page.now c.declare-in-Get.new.page
    (ap knode c.in-Get.is) c.declare-in-Get.ensures

pub returns-in-Set : goal.returns-in-Set
returns-in-Set c = as_step c.args.typed c.set.result _ _ c.args.page.now c.set.new.page (ap knode c.in-Set.is)
    c.set.ensures

pub returns-in-Call : goal.returns-in-Call
returns-in-Call c =
    as_step c.args.typed c.call.result _ _ c.args.page.now c.call.new.page
    (ap knode c.in-Call.is
    ∙ ap (λ ts. NCall c.in-Call.level c.in-Call.depth (ktys ts) c.in-Call.count) (sym c.deref-in-Call.ensures.value))
    c.call.ensures

pub returns-in-If0 : goal.returns-in-If0
returns-in-If0 c = as_step c.args.typed c.choose.result _ _ c.args.page.now c.choose.new.self (ap knode c.in-If0.is)
    c.choose.ensures

pub returns-in-Else : goal.returns-in-Else
returns-in-Else c = as_step c.args.typed c.turn.result _ _ c.args.page.now c.turn.new.self (ap knode c.in-Else.is)
    c.turn.ensures

pub returns-in-Halt : goal.returns-in-Halt
returns-in-Halt c = as_step c.args.typed c.value_line.result _ _ c.args.page.now c.value_line.new.self
    (ap knode c.in-Halt.is) c.value_line.ensures
