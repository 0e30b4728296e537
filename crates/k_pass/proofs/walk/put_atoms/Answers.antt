use Rattle.std.proofs.Common.{◌∙◌, ap, sym, List, ◌++◌, map}
use Rattle.k_terms.specs.Read.{knode}
use Rattle.k_pass.specs.Emit.{atom_nodes}
use Rattle.k_pass.specs.Machine.{atom}
use Rattle.k_pass.specs.declared.work.Atom.{Atom}
use Rattle.k_pass.proofs.Fields.{drop_next, drop_end}
use Rattle.k_pass.proofs.walk.put_atoms.Goals as goal

pub loop-a-preserved : goal.loop-a-preserved
loop-a-preserved c = λ ns.
    c.in_ok-put_atom.ensures _
    ∙ sym (ap (λ (xs : List Atom). map knode c.loop-a.out.items ++ atom_nodes (map atom xs) ns)
    (drop_next c.args.done.now c.loop-a.a-index _ c.loop-a-test.true))
    ∙ c.loop-a.invariant ns

pub returns : goal.returns
returns c = λ ns.
    ap (λ (xs : List Atom). map knode c.loop-a.out.items ++ atom_nodes (map atom xs) ns)
    (sym (drop_end c.args.done.now c.loop-a.a-index c.loop-a-test.false))
    ∙ c.loop-a.invariant ns
