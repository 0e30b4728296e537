use Rattle.std.proofs.Common.{◌≡◌, take, ◌+◌}
use Rattle.t_types.specs.Read.{file, fields}
use Rattle.t_gen_rules.specs.Gen.{ty_args, ty_fields}
use Rattle.a_terms.specs.Read.{atrees, afields}
use Rattle.t_emit.proofs.types.+writing.Given as goal

abbrev pub invariant-written_args-loop-t : goal.invariant-written_args-loop-t
invariant-written_args-loop-t l = record {
  at : l.r ≡ l.t-index + 1;
  made : file l.made.items ≡ ty_args (atrees (take l.t-index l.ts)) 1;
}

abbrev pub invariant-written_fields-loop-t : goal.invariant-written_fields-loop-t
invariant-written_fields-loop-t l = fields l.made.items ≡ ty_fields (afields (take l.t-index l.ts))
