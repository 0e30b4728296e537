-- The trees of the closed calculus.
use Rattle.calc_core.specs.Calculus.{Closed, Val, Vals, Decl, Tm}
pub use Rattle.calc_core.specs.Types.{Ty as CTy, Tys as CTys, IntTy as TCInt, VarTy as TCVar, TupleTy as TCTuple}
pub use Rattle.calc_core.specs.Types.{CodeTy as TCCode, ExistsTy as TCExists, RefTy as TCRef, NoTys as NoCTys}
pub use Rattle.calc_core.specs.Types.{MoreTys as MoreCTys, count as ccount}
pub use Rattle.calc_core.specs.Calculus.{Var as CVar, Int as CInt, Tuple as CTuple, Code as CCode, NoVals as NoCVals}
pub use Rattle.calc_core.specs.Calculus.{MoreVals as MoreCVals, Apply as CApply, Pack as CPack, Name as CName}
pub use Rattle.calc_core.specs.Calculus.{Proj as CProj, Arith as CArith, Unpack as CUnpack, Cell as CCell, Get as CGet}
pub use Rattle.calc_core.specs.Calculus.{Set as CSet, Let as CLet, Call as CCall, If as CIf, Halt as CHalt}
pub use Rattle.calc_core.specs.Calculus.{v_next as cv_next, vs_next as cvs_next, d_next as cd_next, t_next as ct_next}

abbrev pub CVal : Type 0
CVal = Val Closed

abbrev pub CVals : Type 0
CVals = Vals Closed

abbrev pub CDecl : Type 0
CDecl = Decl Closed

abbrev pub CTm : Type 0
CTm = Tm Closed
