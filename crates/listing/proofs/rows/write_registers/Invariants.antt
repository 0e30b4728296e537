use Rattle.std.proofs.Common.{◌≡◌, ◌++◌, drop}
use Rattle.t_types.specs.Read.{file}
use Rattle.listing.specs.Listing.{registers_text}
use Rattle.listing.proofs.rows.write_registers.Given as goal

abbrev pub invariant-loop-i : goal.invariant-loop-i
invariant-loop-i l = l.page.items ++ registers_text l.names l.i (file (drop l.i l.regs)) ≡ l.initial.page.items
    ++ registers_text l.names 0 (file l.regs)
