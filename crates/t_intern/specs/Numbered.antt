-- In which order numbering a type adds types: parts before wholes, from left to right.
use Rattle.std.specs.Prelude.{◌≡◌, List}
use Rattle.t_types.specs.Tree.{Ty, IntTy, VarTy, CodeTy, ExistsTy, TupleTy}
use Rattle.t_types.specs.Tree.{TFile, NoRegs, MoreRegs, TFields, NoFields, MoreFields}
use Rattle.t_intern.specs.Grown.{Adds}

abbrev mutual
  pub Numbered : Ty → List Ty → List Ty → Type 0
  Numbered IntTy ts us = Adds IntTy ts us
  Numbered (VarTy i) ts us = Adds (VarTy i) ts us
  Numbered (CodeTy owes file) ts us = (ws : List Ty) × NumberedFile file ts ws × Adds (CodeTy owes file) ws us
  Numbered (ExistsTy t) ts us = (ws : List Ty) × Numbered t ts ws × Adds (ExistsTy t) ws us
  Numbered (TupleTy x) ts us = (ws : List Ty) × NumberedFields x ts ws × Adds (TupleTy x) ws us

  pub NumberedFile : TFile → List Ty → List Ty → Type 0
  NumberedFile NoRegs ts us = us ≡ ts
  NumberedFile (MoreRegs r t file) ts us = (ws : List Ty) × Numbered t ts ws × NumberedFile file ws us

  pub NumberedFields : TFields → List Ty → List Ty → Type 0
  NumberedFields NoFields ts us = us ≡ ts
  NumberedFields (MoreFields t flag x) ts us = (ws : List Ty) × Numbered t ts ws × NumberedFields x ws us
