use Rattle.std.proofs.Common.{◌≡◌, ℕ, Bool, take, map, All}
use Rattle.t_types.specs.declared.types.TType.{TType}
use Rattle.t_types.specs.Tree.{put_from, PutFits}
use Rattle.t_types.specs.Read.{tree, reg, flag}
use Rattle.t_types.proofs.walks.+put.Given as goal

abbrev pub invariant-put_regs-loop-reg : goal.invariant-put_regs-loop-reg
invariant-put_regs-loop-reg l = record {
  fits : All (λ (x : ℕ × TType). PutFits l.at (tree l.what) l.depth (tree x.1)) l.regs;
  made : map reg l.made.items ≡ map (λ (x : ℕ × TType). (x.0, put_from l.at (tree l.what) l.depth (tree x.1)))
      (take l.reg-index l.regs);
}

abbrev pub invariant-put_flagged-loop-field : goal.invariant-put_flagged-loop-field
invariant-put_flagged-loop-field l = record {
  fits : All (λ (x : TType × Bool). PutFits l.at (tree l.what) l.depth (tree x.0)) l.fs;
  made : map flag l.made.items ≡ map (λ (x : TType × Bool). (put_from l.at (tree l.what) l.depth (tree x.0), x.1))
      (take l.field-index l.fs);
}
