-- The type of a value and of what a declaration names, where it has one.
use Rattle.std.specs.Prelude.{List}
use Rattle.k_terms.specs.K.{KTy, KTys, KVal, KVals, KDecl}
use Rattle.calc_core.specs.TypeOf.{untold, type_of, types_of, decl_type}
pub use Rattle.calc_core.specs.TypeOf.{type_at as ktype_at, field_type as kfield, proj_type as kproj_type}
pub use Rattle.calc_core.specs.TypeOf.{open_type as kopen_type, held_type as kheld_type}

abbrev pub kv_type : List KTy → KVal → KTy
kv_type = type_of untold

abbrev pub kvs_type : List KTy → KVals → KTys
kvs_type = types_of untold

abbrev pub kd_type : List KTy → KDecl → KTy
kd_type = decl_type untold
