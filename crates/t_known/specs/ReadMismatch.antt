-- What is at odds in a fault, as a plain tree.
use Rattle.std.specs.Prelude.{Option, option_map}
use Rattle.t_types.specs.Read.{tree}
use Rattle.t_rules.specs.Mismatch as plain
use Rattle.t_known.specs.declared.mismatch.Mismatch.{Mismatch}
use Rattle.t_known.specs.declared.mismatch.Mismatch.TheVariants.{Types, NoPackage, Register}

abbrev pub mismatch : Mismatch → plain.Mismatch
mismatch (Types wanted found names) = plain.Types (tree wanted) (tree found) names
mismatch (NoPackage found names) = plain.NoPackage (tree found) names
mismatch (Register r wanted found names) = plain.Register r (tree wanted) (option_map tree found) names

abbrev pub mismatch_or_none : Option Mismatch → Option plain.Mismatch
mismatch_or_none m = option_map mismatch m
