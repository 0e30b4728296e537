use Rattle.std.proofs.Common.{◌∙◌, ◌∷◌, ap, refl, subst, sym, List}
use Rattle.k_terms.specs.K.{TKTuple}
use Rattle.k_terms.specs.Stream.{NName, NProj, NArith, NCell, NGet, NSet}
use Rattle.k_terms.specs.Read.{knode, ktree, ktys}
use Rattle.calc_core.specs.declared.types.CoreType.{CoreType as KType}
use Rattle.c_pass.specs.Read.{Binds, total}
use Rattle.calc_core.proofs.Trees.{tree_Tuple}
use Rattle.c_pass.proofs.state.Knowledge.step.Goals as goal

pub returns-in_ok-pack-in-Pack : goal.returns-in_ok-pack-in-Pack
returns-in_ok-pack-in-Pack c = λ rest. c.in_ok-pack-in-Pack.ensures rest c.in-Pack.depth
    ∙ ap (λ n. total c.args.self.now (knode n ∷ rest)) (sym c.in-Pack.is)

pub returns-in_ok-unpack-in-Unpack : goal.returns-in_ok-unpack-in-Unpack
returns-in_ok-unpack-in-Unpack c = λ rest. c.in_ok-unpack-in-Unpack.ensures rest c.in-Unpack.depth
    ∙ ap (λ n. total c.args.self.now (knode n ∷ rest)) (sym c.in-Unpack.is)

pub returns-in_ok-bind-in-Name : goal.returns-in_ok-bind-in-Name
returns-in_ok-bind-in-Name c =
    λ rest. c.in_ok-bind-in-Name.ensures rest (NName c.in-Name.level (ktree c.in-Name.ty)) (λ ns xs f fs cs. refl)
    ∙ ap (λ n. total c.args.self.now (knode n ∷ rest)) (sym c.in-Name.is)

pub returns-in_ok-bind-in-Proj : goal.returns-in_ok-bind-in-Proj
returns-in_ok-bind-in-Proj c =
    λ rest. c.in_ok-bind-in-Proj.ensures rest (NProj c.in-Proj.level c.in-Proj.field (ktree c.in-Proj.ty))
    (λ ns xs f fs cs. refl) ∙ ap (λ n. total c.args.self.now (knode n ∷ rest)) (sym c.in-Proj.is)

pub returns-in_ok-bind-in-Cell : goal.returns-in_ok-bind-in-Cell
returns-in_ok-bind-in-Cell c =
    λ rest. c.in_ok-bind-in-Cell.ensures rest (NCell c.in-Cell.level (ktree c.in-Cell.ty)) (λ ns xs f fs cs. refl)
    ∙ ap (λ n. total c.args.self.now (knode n ∷ rest)) (sym c.in-Cell.is)

pub returns-in_ok-bind-in-Get : goal.returns-in_ok-bind-in-Get
returns-in_ok-bind-in-Get c =
    λ rest. c.in_ok-bind-in-Get.ensures rest (NGet c.in-Get.level (ktree c.in-Get.ty)) (λ ns xs f fs cs. refl)
    ∙ ap (λ n. total c.args.self.now (knode n ∷ rest)) (sym c.in-Get.is)

pub returns-in_ok-bind_made-in-Arith : goal.returns-in_ok-bind_made-in-Arith
returns-in_ok-bind_made-in-Arith c =
    λ rest. c.in_ok-bind_made-in-Arith.ensures rest (NArith c.in-Arith.level c.in-Arith.op) (λ ns xs f fs cs. refl)
    ∙ ap (λ n. total c.args.self.now (knode n ∷ rest)) (sym c.in-Arith.is)

pub returns-in_ok-bind_made-in-Set : goal.returns-in_ok-bind_made-in-Set
returns-in_ok-bind_made-in-Set c = λ rest.
    let none = tree_Tuple c.new.result ∙ ap (λ (ts : List KType). TKTuple (ktys ts)) c.new.ensures.items in
    c.in_ok-bind_made-in-Set.ensures rest (NSet c.in-Set.level)
    (subst (Binds (NSet c.in-Set.level) c.in-Set.level) (sym none) (λ ns xs f fs cs. refl))
    ∙ ap (λ n. total c.args.self.now (knode n ∷ rest)) (sym c.in-Set.is)
