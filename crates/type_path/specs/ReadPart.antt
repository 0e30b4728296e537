-- Parts of assembly types, as the code holds them.
use Rattle.std.specs.Prelude.{Bool}
use Rattle.t_types.specs.declared.types.TType.{TType}
use Rattle.t_types.specs.Fields.{TField, AField}
use Rattle.t_types.specs.Read.{tree}
use Rattle.type_path.specs.Assembly as plain
use Rattle.type_path.specs.declared.assembly.Part.{Part}
use Rattle.type_path.specs.declared.assembly.Part.TheVariants.{Ty, Flag}

abbrev pub part_of : Part → plain.Part
part_of (Ty t) = plain.Whole (tree t.now)
part_of (Flag flag) = plain.FlagOf flag

abbrev pub field_of : TType × Bool → TField
field_of x = AField (tree x.0) x.1
