use Rattle.std.proofs.Common.{◌≡◌, drop}
use Rattle.t_types.specs.Read.{file, types}
use Rattle.t_terms.specs.Registers.{inst_file}
use Rattle.t_spill.specs.Applying.{CanApply}
use Rattle.t_spill.proofs.applied.instantiate.Given as goal

abbrev pub invariant-loop-t : goal.invariant-loop-t
invariant-loop-t l = record {
  same : inst_file (types l.types) l.owes (file l.fn.regs.items) ≡ inst_file (types (drop l.t-index l.types)) l.left
      (file l.made.items);
  can : CanApply l.left (file l.made.items) (types (drop l.t-index l.types));
}
