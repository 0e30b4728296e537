use Rattle.std.proofs.Common.{◌≡◌, ap, sym, subst, ◌∙◌}
use Rattle.t_types.specs.Read.{tree}
use Rattle.t_terms.specs.Tree.{Pack, TValue}
use Rattle.t_terms.specs.Read.{value}
use Rattle.t_terms.specs.ReadProgram.{program}
use Rattle.t_intern.specs.Nodes.{at}
use Rattle.t_intern.proofs.Growing.{grown_next}
use Rattle.t_known.specs.Known.{known}
use Rattle.t_check.specs.Verdict.{FormedValue, IsTypeOf}
use Rattle.t_check.proofs.Typing.{pack_is}
use Rattle.t_check.proofs.checker.Checker.+type_of_value.Goals as goal

pub returns-in_ok-found-in-Pack-clause-grown : goal.returns-in_ok-found-in-Pack-clause-grown
returns-in_ok-found-in-Pack-clause-grown t c =
    grown_next _ _ _ c.in_ok-found-in-Pack.ensures.grown c.type_of_package.ensures.grown

pub returns-in_ok-found-in-Pack-clause-typed : goal.returns-in_ok-found-in-Pack-clause-typed
returns-in_ok-found-in-Pack-clause-typed t c =
    let P = program c.args.self.now.program.now in
    let k = c.args.self.now.registers in
    let g = known c.args.types.now k in
    let found = c.in_ok-found-in-Pack.ensures.typed in
    let hidden = tree c.deref-in-Pack-2.result.now in
    let inner = value c.deref-in-Pack.result.now in
    let shape = tree c.deref-in-Pack-3.result.now in
    let kept = Pack (tree c.in-Pack.hidden.value) (value c.in-Pack.inner.value) (tree c.in-Pack.shape.value) in
    let same : kept ≡ Pack hidden inner shape =
    cc (c.deref-in-Pack.ensures, c.deref-in-Pack-2.ensures, c.deref-in-Pack-3.ensures) in
    let is = ap value c.in-Pack.is ∙ same in
    let formed = subst (λ (v : TValue). FormedValue c.args.self.now.program.now k.names v) is c.requires.value in
    subst (λ (v : TValue). IsTypeOf P c.type_of_package.new.types k.names g c.args.span v c.type_of_package.result)
    (sym is)
    (pack_is P k.names g c.args.span c.type_of_package.new.types hidden shape
    (at c.type_of_value.new.types c.in_ok-found-in-Pack.found) inner found.1 formed.0 formed.2 c.type_of_package.result
    c.type_of_package.ensures.packed)
