use Rattle.std.proofs.Common.{◌≡◌, ℕ, Bool, take, map, All}
use Rattle.t_types.specs.declared.types.TType.{TType}
use Rattle.t_types.specs.Tree.{shift, ShiftFits}
use Rattle.t_types.specs.Read.{tree, reg, flag}
use Rattle.t_types.proofs.walks.+shift.Given as goal

abbrev pub invariant-shift_regs-loop-reg : goal.invariant-shift_regs-loop-reg
invariant-shift_regs-loop-reg l = record {
  fits : All (λ (x : ℕ × TType). ShiftFits l.by l.cut (tree x.1)) l.regs;
  made : map reg l.made.items ≡ map (λ (x : ℕ × TType). (x.0, shift l.by l.cut (tree x.1))) (take l.reg-index l.regs);
}

abbrev pub invariant-shift_flagged-loop-field : goal.invariant-shift_flagged-loop-field
invariant-shift_flagged-loop-field l = record {
  fits : All (λ (x : TType × Bool). ShiftFits l.by l.cut (tree x.0)) l.fs;
  made : map flag l.made.items ≡ map (λ (x : TType × Bool). (shift l.by l.cut (tree x.0), x.1))
      (take l.field-index l.fs);
}
