use Rattle.std.proofs.Common.{◌<◌, List, arith, ap, sym, subst, length}
use Rattle.std.proofs.lemmas.List.{length-map}
use Rattle.t_types.specs.Read.{tree, file, types}
use Rattle.t_types.specs.declared.types.TType.{TType}
use Rattle.t_terms.specs.Read.{base, value}
use Rattle.t_terms.specs.ReadProgram.{program}
use Rattle.t_terms.specs.declared.value.Value.{Value}
use Rattle.t_spill.specs.Ready.{Typable}
use Rattle.t_spill.specs.Applying.{MayApply}
use Rattle.t_spill.proofs.Bounding.{may_apply}
use Rattle.t_spill.proofs.typing.type_of_value.Goals as goal
use Rattle.idx_core.proofs.Numbers.{not_empty}

pub applied-requires : goal.applied-requires
applied-requires c =
    let P = program c.args.program.now in
    let x = file c.args.regs.now in
    let ts = c.in-Plain.types.items in
    let typable = subst (λ (v : Value). Typable P x (value v)) c.in-Plain.is c.requires in
    let n = not_empty _ c.is_empty.result c.is_empty.ensures c.if-is_empty.false in
    let some : 0 < length (types ts) =
    omega (
      arith,
      n,
      length-map ts tree,
      c.deref.ensures.len,
      ap (λ (us : List TType). length us) c.deref.ensures.value,
    ) in
    subst (λ (us : List TType). MayApply (tree c.in_ok-found-in-Plain.found) (types us)) (sym c.deref.ensures.value)
    (may_apply P c.args.program.now.whole.0 x (base c.in-Plain.base) (types ts) (tree c.in_ok-found-in-Plain.found) some
    c.in_ok-found-in-Plain.ensures typable)
