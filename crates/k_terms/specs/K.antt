-- The calculus in continuation-passing style as plain trees: types, values, declarations and terms.
use Rattle.std.specs.Prelude.{ℕ, List, ◌∷◌}
use Rattle.calc_core.specs.Ends.{lift}
use Rattle.calc_core.specs.Calculus.{Cps, Val, Vals, Decl, Tm}
pub use Rattle.calc_core.specs.Types.{Ty as KTy, Tys as KTys, IntTy as TKInt, VarTy as TKVar, TupleTy as TKTuple}
pub use Rattle.calc_core.specs.Types.{CodeTy as TKCode, ExistsTy as TKExists, RefTy as TKRef, NoTys as NoKTys}
pub use Rattle.calc_core.specs.Types.{MoreTys as MoreKTys, count as kcount}
pub use Rattle.calc_core.specs.Substitution.{renamed as kren, all_renamed as krens, scope_renamed as krens_scope}
pub use Rattle.calc_core.specs.Scope.{args_onto as kargs_onto}
pub use Rattle.calc_core.specs.Calculus.{Var as KVar, Int as KInt, Tuple as KTuple, Code as KCode, NoVals as NoKVals}
pub use Rattle.calc_core.specs.Calculus.{MoreVals as MoreKVals, Name as KName, Proj as KProj, Arith as KArith}
pub use Rattle.calc_core.specs.Calculus.{Packs as KPack, Unpack as KUnpack, Cell as KCell, Get as KGet, Set as KSet}
pub use Rattle.calc_core.specs.Calculus.{Let as KLet, Call as KCall, If as KIf, Halt as KHalt, v_next as kv_next}
pub use Rattle.calc_core.specs.Calculus.{vs_next as kvs_next, d_next as kd_next, t_next as kt_next, opens, scope_more}

abbrev pub KVal : Type 0
KVal = Val Cps

abbrev pub KVals : Type 0
KVals = Vals Cps

abbrev pub KDecl : Type 0
KDecl = Decl Cps

abbrev pub KTm : Type 0
KTm = Tm Cps

-- the scope of a code's body
abbrev pub kbody_scope : ℕ → KTys → List KTy → List KTy
kbody_scope owes args g = kargs_onto args (kren (lift owes) (TKCode owes args) ∷ krens_scope (lift owes) g)
