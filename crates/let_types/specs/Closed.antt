-- The types of closed values and of what closed declarations name, where g are those of the names in scope.
use Rattle.std.specs.Prelude.{List}
use Rattle.calc_core.specs.TypeOf as T
use Rattle.calc_core.specs.TypeOf.{untold}
use Rattle.c_terms.specs.C.{CTy, CTys, CVal, CVals, CDecl}
pub use Rattle.calc_core.specs.TypeOf.{types_behind}

abbrev pub value_type : List CTy → CVal → CTy
value_type = T.type_of untold

abbrev pub value_types : List CTy → CVals → CTys
value_types = T.types_of untold

abbrev pub decl_type : List CTy → CDecl → CTy
decl_type = T.decl_type untold

abbrev pub names_behind : List CTy → CDecl → List CTy
names_behind = T.names_behind untold
