use Rattle.std.proofs.Common.{◌≡◌, [], length, sym, ap, ◌∙◌, vec_len, arith}
use Rattle.std.proofs.lemmas.Result.{on_ok_weaker}
use Rattle.t_types.specs.Read.{tree}
use Rattle.type_path.specs.Paths.{read}
use Rattle.talc_faults.proofs.BelowLemmas.{not_none, assembly_written}
use Rattle.talc_faults.proofs.assembly_apart.write_below.Goals as goal

pub returns-in_ok-extend_from_slice-in-Some : goal.returns-in_ok-extend_from_slice-in-Some
returns-in_ok-extend_from_slice-in-Some c =
    let path = c.in-Some.path in
    let some : path.items ≡ [] → ⊥ =
    λ none. not_none (vec_len path) c.if-is_empty.ensures (omega (arith, ap length none, path.ok.0)) in
    let is = ap read (sym c.in-Some.is) ∙ c.in_ok-path.ensures in
    on_ok_weaker c.write_part.result
    (assembly_written c.args.names (tree c.args.wanted.now) (tree c.args.found.now) path.items
    c.deref.result.now c.deref-in-Some.result.now c.deref-in-Some-2.result.now c.args.lines.now.items
    c.write_path.new.text.items c.write_wanted_part.new.text.items c.extend_from_slice.new.self.items
    c.write_part.new.text.items c.deref.ensures.value c.deref-in-Some.ensures.value c.deref-in-Some-2.ensures.value
    some is c.in_ok-write_path-in-Some.ensures c.in_ok-write_wanted_part-in-Some.ensures
    c.in_ok-extend_from_slice-in-Some.ensures.items)
    c.write_part.ensures
