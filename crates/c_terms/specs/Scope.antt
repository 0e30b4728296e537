-- Terms whose names are in scope, under d names.
pub use Rattle.calc_core.specs.NamesIn.{NamesIn_v as CScoped_v, NamesIn_vs as CScoped_vs, NamesIn_d as CScoped_d}
pub use Rattle.calc_core.specs.NamesIn.{NamesIn as CScoped}
