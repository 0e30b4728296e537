-- A code of types, by which a proof tells lists of them apart: a row of steps that build the type on a stack.
use Rattle.std.specs.Prelude.{◌≡◌, ℕ, zero, suc, true, false, List, [], ◌∷◌}
use Rattle.std.specs.Coded.{Coded, code_by, coded_list, coded×, coded_ℕ}
use mathlib.Core.Path.{refl, ap, ◌∙◌}
use Rattle.t_types.specs.Tree.{Ty, IntTy, VarTy, CodeTy, ExistsTy, TupleTy}
use Rattle.t_types.specs.Tree.{TFile, NoRegs, MoreRegs, TFields, NoFields, MoreFields}

data Item : Type 0 where
  AType : Ty → Item
  AFile : TFile → Item
  AFields : TFields → Item

abbrev step : ℕ × ℕ → List Item → List Item
step (zero, i) st = AType IntTy ∷ st
step (suc zero, i) st = AType (VarTy i) ∷ st
step (suc (suc zero), i) (AFile file ∷ st) = AType (CodeTy i file) ∷ st
step (suc (suc (suc zero)), i) (AType t ∷ st) = AType (ExistsTy t) ∷ st
step (suc (suc (suc (suc zero))), i) (AFields x ∷ st) = AType (TupleTy x) ∷ st
step (suc (suc (suc (suc (suc zero)))), i) st = AFile NoRegs ∷ st
step (suc (suc (suc (suc (suc (suc zero))))), i) (AFile file ∷ AType t ∷ st) = AFile (MoreRegs i t file) ∷ st
step (suc (suc (suc (suc (suc (suc (suc zero)))))), i) st = AFields NoFields ∷ st
step (suc (suc (suc (suc (suc (suc (suc (suc zero))))))), zero) (AFields x ∷ AType t ∷ st) =
    AFields (MoreFields t false x) ∷ st
step (suc (suc (suc (suc (suc (suc (suc (suc zero))))))), suc zero) (AFields x ∷ AType t ∷ st) =
    AFields (MoreFields t true x) ∷ st
step other st = st

abbrev run : List (ℕ × ℕ) → List Item → List Item
run [] st = st
run (x ∷ xs) st = run xs (step x st)

-- the steps of a type, before others
abbrev mutual
  steps : Ty → List (ℕ × ℕ) → List (ℕ × ℕ)
  steps IntTy rest = (0, 0) ∷ rest
  steps (VarTy i) rest = (1, i) ∷ rest
  steps (CodeTy owes file) rest = steps_file file ((2, owes) ∷ rest)
  steps (ExistsTy t) rest = steps t ((3, 0) ∷ rest)
  steps (TupleTy x) rest = steps_fields x ((4, 0) ∷ rest)

  steps_file : TFile → List (ℕ × ℕ) → List (ℕ × ℕ)
  steps_file NoRegs rest = (5, 0) ∷ rest
  steps_file (MoreRegs r t file) rest = steps t (steps_file file ((6, r) ∷ rest))

  steps_fields : TFields → List (ℕ × ℕ) → List (ℕ × ℕ)
  steps_fields NoFields rest = (7, 0) ∷ rest
  steps_fields (MoreFields t false x) rest = steps t (steps_fields x ((8, 0) ∷ rest))
  steps_fields (MoreFields t true x) rest = steps t (steps_fields x ((8, 1) ∷ rest))

mutual
  run_steps : (t : Ty) (rest : List (ℕ × ℕ)) (st : List Item) → run (steps t rest) st ≡ run rest (AType t ∷ st)
  run_steps IntTy rest st = refl
  run_steps (VarTy i) rest st = refl
  run_steps (CodeTy owes file) rest st = run_file file ((2, owes) ∷ rest) st
  run_steps (ExistsTy t) rest st = run_steps t ((3, 0) ∷ rest) st
  run_steps (TupleTy x) rest st = run_fields x ((4, 0) ∷ rest) st

  run_file : (file : TFile) (rest : List (ℕ × ℕ)) (st : List Item) →
      run (steps_file file rest) st ≡ run rest (AFile file ∷ st)
  run_file NoRegs rest st = refl
  run_file (MoreRegs r t file) rest st =
      run_steps t (steps_file file ((6, r) ∷ rest)) st ∙ run_file file ((6, r) ∷ rest) (AType t ∷ st)

  run_fields : (x : TFields) (rest : List (ℕ × ℕ)) (st : List Item) →
      run (steps_fields x rest) st ≡ run rest (AFields x ∷ st)
  run_fields NoFields rest st = refl
  run_fields (MoreFields t false x) rest st =
      run_steps t (steps_fields x ((8, 0) ∷ rest)) st ∙ run_fields x ((8, 0) ∷ rest) (AType t ∷ st)
  run_fields (MoreFields t true x) rest st =
      run_steps t (steps_fields x ((8, 1) ∷ rest)) st ∙ run_fields x ((8, 1) ∷ rest) (AType t ∷ st)

abbrev top : List Item → Ty
top (AType t ∷ st) = t
top other = IntTy

abbrev code : Ty → List (ℕ × ℕ)
code t = steps t []

abbrev decoded : List (ℕ × ℕ) → Ty
decoded xs = top (run xs [])

decoded_code : (t : Ty) → decoded (code t) ≡ t
decoded_code t = ap top (run_steps t [] [])

pub types_code : Coded (List Ty)
types_code = coded_list (code_by (List (ℕ × ℕ)) (coded_list (coded× coded_ℕ coded_ℕ)) code decoded decoded_code)
