use Rattle.std.proofs.Common.{◌≡◌, ap, sym, ◌∙◌, rules, to_z, of_z, w64}
use Rattle.c_terms.specs.Stream.{MInt, MCode, MApply, MCall}
use Rattle.c_terms.specs.Read.{cnode, ctys}
use Rattle.kc_notation.proofs.ClosedStepping.{as_step}
use Rattle.kc_notation.proofs.page.Page.step.Goals as goal

pub returns-in-Var : goal.returns-in-Var
returns-in-Var c =
    as_step c.variable.result c.args.note.now _ _ c.args.self.now c.variable.new.self (ap cnode c.in-Var.is)
    c.variable.ensures

pub returns-in-Int : goal.returns-in-Int
returns-in-Int c =
    let same : to_z w64 (of_z w64 c.in-Int.n) ≡ c.in-Int.n = search rules in
    as_step c.integer.result c.args.note.now _ (MInt (to_z w64 (of_z w64 c.in-Int.n))) c.args.self.now
    c.integer.new.self
    (ap cnode c.in-Int.is ∙ ap MInt (sym same)) c.integer.ensures

pub returns-in-Tuple : goal.returns-in-Tuple
returns-in-Tuple c =
    as_step c.tuple.result c.args.note.now _ _ c.args.self.now c.tuple.new.self (ap cnode c.in-Tuple.is)
    c.tuple.ensures

pub returns-in-Code : goal.returns-in-Code
returns-in-Code c =
    as_step c.enter.result c.args.note.now _ _ c.args.self.now c.enter.new.self
    (ap cnode c.in-Code.is ∙ ap (λ ts. MCode c.in-Code.owes (ctys ts)) (sym c.deref.ensures.value)) c.enter.ensures

pub returns-in-End : goal.returns-in-End
returns-in-End c =
    as_step c.leave.result c.args.note.now _ _ c.args.self.now c.leave.new.self (ap cnode c.in-End.is) c.leave.ensures

pub returns-in-Apply : goal.returns-in-Apply
returns-in-Apply c =
    as_step c.apply.result c.args.note.now _ _ c.args.self.now c.apply.new.self
    (ap cnode c.in-Apply.is ∙ ap (λ ts. MApply (ctys ts)) (sym c.deref-in-Apply.ensures.value)) c.apply.ensures

pub returns-in-Pack : goal.returns-in-Pack
returns-in-Pack c =
    as_step c.pack.result c.args.note.now _ _ c.args.self.now c.pack.new.self (ap cnode c.in-Pack.is) c.pack.ensures

pub returns-in-Name : goal.returns-in-Name
returns-in-Name c =
    as_step c.declare.result c.args.note.now _ _ c.args.self.now c.declare.new.self (ap cnode c.in-Name.is)
    c.declare.ensures

pub returns-in-Proj : goal.returns-in-Proj
returns-in-Proj c =
    as_step c.project.result c.args.note.now _ _ c.args.self.now c.project.new.self (ap cnode c.in-Proj.is)
    c.project.ensures

pub returns-in-Arith : goal.returns-in-Arith
returns-in-Arith c =
    as_step c.arith.result c.args.note.now _ _ c.args.self.now c.arith.new.self (ap cnode c.in-Arith.is)
    c.arith.ensures

pub returns-in-Unpack : goal.returns-in-Unpack
returns-in-Unpack c =
    as_step c.unpack.result c.args.note.now _ _ c.args.self.now c.unpack.new.self (ap cnode c.in-Unpack.is)
    c.unpack.ensures

pub returns-in-Cell : goal.returns-in-Cell
returns-in-Cell c =
    as_step c.declare-in-Cell.result c.args.note.now _ _ c.args.self.now c.declare-in-Cell.new.self
    (ap cnode c.in-Cell.is)
    c.declare-in-Cell.ensures

pub returns-in-Get : goal.returns-in-Get
returns-in-Get c =
    as_step c.declare-in-Get.result c.args.note.now _ _ c.args.self.now c.declare-in-Get.new.self (ap cnode c.in-Get.is)
    c.declare-in-Get.ensures

pub returns-in-Set : goal.returns-in-Set
returns-in-Set c =
    as_step c.set.result c.args.note.now _ _ c.args.self.now c.set.new.self (ap cnode c.in-Set.is) c.set.ensures

pub returns-in-Call : goal.returns-in-Call
returns-in-Call c =
    as_step c.call.result c.args.note.now _ _ c.args.self.now c.call.new.self
    (ap cnode c.in-Call.is ∙ ap (λ ts. MCall (ctys ts) c.in-Call.count) (sym c.deref-in-Call.ensures.value))
    c.call.ensures

pub returns-in-If0 : goal.returns-in-If0
returns-in-If0 c =
    as_step c.choose.result c.args.note.now _ _ c.args.self.now c.choose.new.self
    (ap cnode c.in-If0.is) c.choose.ensures

pub returns-in-Else : goal.returns-in-Else
returns-in-Else c =
    as_step c.turn.result c.args.note.now _ _ c.args.self.now c.turn.new.self (ap cnode c.in-Else.is) c.turn.ensures

pub returns-in-Halt : goal.returns-in-Halt
returns-in-Halt c =
    as_step c.value_line.result c.args.note.now _ _ c.args.self.now c.value_line.new.self
    (ap cnode c.in-Halt.is) c.value_line.ensures
