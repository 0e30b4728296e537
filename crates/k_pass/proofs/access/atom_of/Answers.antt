use Rattle.std.proofs.Common.{sym}
use Rattle.k_pass.specs.declared.work.Atom.TheVariants as A
use Rattle.k_pass.proofs.Stacks.{atom_in, atom_past}
use Rattle.k_pass.proofs.access.atom_of.Goals as goal

pub returns-then-i-count : goal.returns-then-i-count
returns-then-i-count c = sym (atom_in c.args.names.now (A.Level 0) c.args.i c.if-i-count.true)

pub returns-else-i-count : goal.returns-else-i-count
returns-else-i-count c = sym (atom_past c.args.names.now c.args.i c.if-i-count.false)
