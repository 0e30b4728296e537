use Rattle.std.proofs.Common.{◌≡◌, map, take}
use Rattle.f_terms.specs.Ty.{tys}
use Rattle.f_terms.specs.Read.{tree}
use Rattle.f_grammar.specs.Raw.{raw_tys}
use Rattle.f_grammar.specs.Read.{type_of}
use Rattle.f_grammar.specs.Scope.{TypesOf}
use Rattle.f_parser.proofs.resolve.+type_in_scope.Given as goal

abbrev pub invariant-loop-part : goal.invariant-loop-part
invariant-loop-part l = record {
  kept : l.types ≡ l.initial.types;
  resolved : TypesOf l.text l.initial.types (raw_tys (map type_of (take l.part-index l.part-items)))
      (tys (map tree l.found.items));
}
