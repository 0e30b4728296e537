use Rattle.std.proofs.Common.{◌∙◌, ap, ◌∷◌, ◌++◌, map}
use Rattle.k_terms.specs.Read.{knode, ktree}
use Rattle.k_pass.specs.Emit.{atom_nodes}
use Rattle.k_pass.specs.Machine.{atom}
use Rattle.k_terms.specs.Stream.{NTuple, NName}
use Rattle.k_pass.proofs.Fields.{length_map}
use Rattle.k_pass.proofs.walk.put_tuple.Goals as goal

pub returns : goal.returns
returns c = λ ns.
    c.in_ok-put-2.ensures ns
    ∙ c.in_ok-put.ensures _
    ∙ c.in_ok-put_atoms.ensures _
    ∙ ap (λ (n : _). map knode c.args.out.now.items
    ++ atom_nodes (map atom c.args.done.now) (NTuple n ∷ NName c.args.depth (ktree c.args.ty) ∷ ns))
    (length_map c.args.done.now)
