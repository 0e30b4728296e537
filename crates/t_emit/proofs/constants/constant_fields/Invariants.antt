use Rattle.std.proofs.Common.{◌≡◌, take}
use Rattle.t_terms.specs.Spanned.{plain_fields}
use Rattle.t_terms.specs.Read.{data_fields}
use Rattle.a_terms.specs.NodeTrees.{a_consts}
use Rattle.t_gen_rules.specs.Gen.{data_of}
use Rattle.t_emit.proofs.constants.constant_fields.Given as goal

abbrev pub invariant-loop-c : goal.invariant-loop-c
invariant-loop-c l = plain_fields (data_fields l.fields.items) ≡ data_of (a_consts (take l.c-index l.consts))
