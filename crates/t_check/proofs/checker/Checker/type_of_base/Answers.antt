use Rattle.std.proofs.Common.{◌<◌, ◌∙◌, ap, sym, subst, Some, length}
use Rattle.t_types.specs.Read.{file}
use Rattle.t_terms.specs.Read.{base, block, spanned_data}
use Rattle.t_terms.specs.ReadProgram.{program}
use Rattle.t_terms.specs.Spanned.{plain_fields}
use Rattle.t_terms.specs.declared.value.Base.{Base}
use Rattle.t_rules.specs.Rules.{BaseHas}
use Rattle.t_intern.specs.Nodes.{at}
use Rattle.t_known.specs.Known.{known}
use Rattle.t_types.specs.Bounds.{Bounded}
use Rattle.t_known.specs.Labels.{code_type, tuple_type}
use Rattle.t_check.specs.Verdict.{FormedBase}
use Rattle.t_check.proofs.Blocks.{formed_at, formed_data_at}
use Rattle.t_rules.proofs.Depth.{label_bounded, data_bounded}
use Rattle.t_known.proofs.Numbering.{numbered_at}
use Rattle.t_check.proofs.Places.{item_there}
use Rattle.t_check.proofs.Typing.{entry_bounded}
use Rattle.t_check.proofs.checker.Checker.type_of_base.Goals as goal
use Rattle.t_terms.proofs.Items.{block_at, data_at}

pub returns-in_ok-n-in-Some-clause-typed : goal.returns-in_ok-n-in-Some-clause-typed
returns-in_ok-n-in-Some-clause-typed c =
    let ts = c.args.types.now in
    let k = c.args.self.now.registers in
    let e = c.in-Some.entry in
    let t = at c.shown.new.types c.in_ok-n-in-Some.n in
    let found = c.in-Some.ensures.found ts c.requires.place.sound in
    let number = c.in_ok-n-in-Some.ensures.number in (
      number.0,
      subst (λ (b : Base). BaseHas (program c.args.self.now.program.now) (known ts k) (base b) t) (sym c.in-Reg.is)
          (found.0 ∙ ap Some (sym number.1)),
      entry_bounded ts k.names e t found.1 number.1,
    )

pub returns-in-Label-clause-typed : goal.returns-in-Label-clause-typed
returns-in-Label-clause-typed c =
    let ts = c.args.types.now in
    let k = c.args.self.now.registers in
    let p = c.args.self.now.program.now in
    let bs = p.blocks.items in
    let l = c.in-Label.l in
    let n = c.index.result.now in
    let lt : l < length bs = subst (λ (x : Base). FormedBase p (base x)) c.in-Label.is c.requires.base in
    let there = item_there bs l lt in
    let b = there.0 in
    let number =
    numbered_at ts code_type bs c.args.self.now.labels.now.blocks.items c.requires.place.labels.blocks l b n lt there.1
    c.index.ensures in
    let formed = formed_at p l b lt there.1 p.whole.0 in (
      number.0,
      subst (λ (x : Base). BaseHas (program p) (known ts k) (base x) (at ts n)) (sym c.in-Label.is)
          (block b, block_at bs l b lt there.1, number.1),
      subst (Bounded k.names) (sym number.1) (label_bounded k.names b.owes (file b.regs.regs.items) formed.0 formed.1),
    )

pub returns-in-Data-clause-typed : goal.returns-in-Data-clause-typed
returns-in-Data-clause-typed c =
    let ts = c.args.types.now in
    let k = c.args.self.now.registers in
    let p = c.args.self.now.program.now in
    let xs = p.heap.items in
    let d = c.in-Data.d in
    let n = c.index-in-Data.result.now in
    let lt : d < length xs = subst (λ (b : Base). FormedBase p (base b)) c.in-Data.is c.requires.base in
    let there = item_there xs d lt in
    let x = there.0 in
    let number =
    numbered_at ts tuple_type xs c.args.self.now.labels.now.tuples.items c.requires.place.labels.tuples d x n lt
    there.1 c.index-in-Data.ensures in
    let formed = formed_data_at p d x lt there.1 p.whole.0 in (
      number.0,
      subst (λ (b : Base). BaseHas (program p) (known ts k) (base b) (at ts n)) (sym c.in-Data.is)
          (plain_fields (spanned_data x).fields, data_at xs d x lt there.1, number.1),
      subst (Bounded k.names) (sym number.1)
          (data_bounded k.names (plain_fields (spanned_data x).fields) (length p.blocks.items)
          (length p.heap.items) formed),
    )

pub returns-in-Int-clause-typed : goal.returns-in-Int-clause-typed
returns-in-Int-clause-typed c =
    let ts = c.args.types.now in
    let k = c.args.self.now.registers in
    let n = c.args.self.now.labels.now.int in
    let number = c.requires.place.labels.int in (
      number.0,
      subst (λ (x : Base). BaseHas (program c.args.self.now.program.now) (known ts k) (base x) (at ts n))
          (sym c.in-Int.is) number.1,
      subst (Bounded k.names) (sym number.1) tt,
    )
