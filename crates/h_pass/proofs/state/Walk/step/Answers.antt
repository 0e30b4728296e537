use Rattle.std.proofs.Common.{◌≡◌, ◌∷◌, refl, ap, sym, subst, ◌∙◌, rules, to_z, of_z, w64}
use Rattle.h_terms.specs.declared.node.HForm.TheVariants as F
use Rattle.h_terms.specs.declared.node.HPart.TheVariants as P
use Rattle.c_terms.specs.Stream as S
use Rattle.h_pass.proofs.state.Walk.step.Goals as goal
use Rattle.c_terms.specs.Read.{cnode}
use Rattle.h_pass.proofs.Stepping.{as_step, decl_step, part_step}
use Rattle.h_pass.specs.Walk.{Walked}

pub returns-in-Var : goal.returns-in-Var
returns-in-Var c =
    as_step c.variable.result _ _ c.args.self.now c.variable.new.self (ap cnode c.in-Var.is) c.variable.ensures

pub returns-in-Code : goal.returns-in-Code
returns-in-Code c = as_step c.begin.result _ _ c.args.self.now c.begin.new.self (ap cnode c.in-Code.is) c.begin.ensures

pub returns-in-End : goal.returns-in-End
returns-in-End c = as_step c.end.result _ _ c.args.self.now c.end.new.self (ap cnode c.in-End.is) c.end.ensures

pub returns-in-Apply : goal.returns-in-Apply
returns-in-Apply c = part_step c.part-in-Apply.result (P.Apply c.in-Apply.types) _ _ c.args.self.now
    c.part-in-Apply.new.self (ap cnode c.in-Apply.is) (λ ns b own ds vs w fs. refl) c.part-in-Apply.ensures

pub returns-in-Pack : goal.returns-in-Pack
returns-in-Pack c = part_step c.part-in-Pack.result (P.Pack c.in-Pack.hidden c.in-Pack.shape) _ _ c.args.self.now
    c.part-in-Pack.new.self (ap cnode c.in-Pack.is) (λ ns b own ds vs w fs. refl) c.part-in-Pack.ensures

pub returns-in-If0 : goal.returns-in-If0
returns-in-If0 c = as_step c.choose.result _ _ c.args.self.now c.choose.new.self (ap cnode c.in-If0.is) c.choose.ensures

pub returns-in-Else : goal.returns-in-Else
returns-in-Else c = as_step c.turn.result _ _ c.args.self.now c.turn.new.self (ap cnode c.in-Else.is) c.turn.ensures

pub returns-in-Halt : goal.returns-in-Halt
returns-in-Halt c = as_step c.halt.result _ _ c.args.self.now c.halt.new.self (ap cnode c.in-Halt.is) c.halt.ensures

pub returns-in-Call : goal.returns-in-Call
returns-in-Call c = λ rest p st. c.call.ensures c.in-Call.count rest p
    (subst (λ n. Walked c.args.self.now (n ∷ rest) p) (ap cnode c.in-Call.is) st)

pub returns-in-Int : goal.returns-in-Int
returns-in-Int c =
    let same : to_z w64 (of_z w64 c.in-Int.n) ≡ c.in-Int.n = search rules in
    part_step c.part.result (P.Int (to_z w64 (of_z w64 c.in-Int.n))) _ (S.MInt (to_z w64 (of_z w64 c.in-Int.n)))
    c.args.self.now c.part.new.self
    (ap cnode c.in-Int.is ∙ ap S.MInt (sym same)) (λ ns b own ds vs w fs. refl) c.part.ensures

pub returns-in-Tuple : goal.returns-in-Tuple
returns-in-Tuple c =
    part_step c.part-in-Tuple.result (P.Tuple c.in-Tuple.count) _ _ c.args.self.now c.part-in-Tuple.new.self
    (ap cnode c.in-Tuple.is) (λ ns b own ds vs w fs. refl) c.part-in-Tuple.ensures

pub returns-in-Name : goal.returns-in-Name
returns-in-Name c =
    decl_step c.declare.result F.Name _ _ c.args.self.now c.declare.new.self (ap cnode c.in-Name.is)
    (refl, λ ns b own ds vs w fs. refl) c.declare.ensures

pub returns-in-Proj : goal.returns-in-Proj
returns-in-Proj c =
    decl_step c.declare-in-Proj.result (F.Proj c.in-Proj.field) _ _ c.args.self.now c.declare-in-Proj.new.self
    (ap cnode c.in-Proj.is) (refl, λ ns b own ds vs w fs. refl) c.declare-in-Proj.ensures

pub returns-in-Arith : goal.returns-in-Arith
returns-in-Arith c =
    decl_step c.declare-in-Arith.result (F.Arith c.in-Arith.op) _ _ c.args.self.now c.declare-in-Arith.new.self
    (ap cnode c.in-Arith.is) (refl, λ ns b own ds vs w fs. refl) c.declare-in-Arith.ensures

pub returns-in-Unpack : goal.returns-in-Unpack
returns-in-Unpack c =
    decl_step c.declare-in-Unpack.result F.Unpack _ _ c.args.self.now c.declare-in-Unpack.new.self
    (ap cnode c.in-Unpack.is) (refl, λ ns b own ds vs w fs. refl) c.declare-in-Unpack.ensures

pub returns-in-Cell : goal.returns-in-Cell
returns-in-Cell c =
    decl_step c.declare-in-Cell.result F.Cell _ _ c.args.self.now c.declare-in-Cell.new.self (ap cnode c.in-Cell.is)
    (refl, λ ns b own ds vs w fs. refl) c.declare-in-Cell.ensures

pub returns-in-Get : goal.returns-in-Get
returns-in-Get c =
    decl_step c.declare-in-Get.result F.Get _ _ c.args.self.now c.declare-in-Get.new.self (ap cnode c.in-Get.is)
    (refl, λ ns b own ds vs w fs. refl) c.declare-in-Get.ensures

pub returns-in-Set : goal.returns-in-Set
returns-in-Set c =
    decl_step c.declare-in-Set.result F.Set _ _ c.args.self.now c.declare-in-Set.new.self (ap cnode c.in-Set.is)
    (refl, λ ns b own ds vs w fs. refl) c.declare-in-Set.ensures
