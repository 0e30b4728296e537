use Rattle.std.proofs.Common.{◌≡◌, ◌*◌, ◌+◌, drop}
use Rattle.t_intern.specs.Nodes.{regs_at, fields_at}
use Rattle.t_rules.specs.Nodes.{file_nodes, fields_nodes}
use Rattle.t_known.proofs.small.+counts.Given as goal

abbrev pub decreases-left_after : goal.decreases-left_after
decreases-left_after l = 2 * l.n + 1

abbrev pub decreases-left_after_regs : goal.decreases-left_after_regs
decreases-left_after_regs l = 2 * l.n

abbrev pub decreases-left_after_fields : goal.decreases-left_after_fields
decreases-left_after_fields l = 2 * l.n

abbrev pub invariant-left_after_regs-loop-reg : goal.invariant-left_after_regs-loop-reg
invariant-left_after_regs-loop-reg l =
    l.left + file_nodes (regs_at l.types l.regs)
    ≡ l.initial.left + file_nodes (regs_at l.types (drop l.reg-index l.regs))

abbrev pub invariant-left_after_fields-loop-field : goal.invariant-left_after_fields-loop-field
invariant-left_after_fields-loop-field l =
    l.left + fields_nodes (fields_at l.types l.fields)
    ≡ l.initial.left + fields_nodes (fields_at l.types (drop l.field-index l.fields))
