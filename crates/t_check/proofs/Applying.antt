-- Code that is applied to types: by the row of the types, by its file, and a type that is no code.
use Rattle.std.proofs.Common.{◌≡◌, ◌≢◌, ℕ, ◌-◌, ◌≤◌, List, length, refl, sym, ◌∙◌, ap}
use Rattle.t_types.specs.Tree.{Ty, IntTy, VarTy, CodeTy, ExistsTy, TupleTy, TFile}
use Rattle.t_intern.specs.Applied.{row, types_in, with_types, applied}
use Rattle.t_intern.proofs.Rows.{row_is}
use Rattle.t_terms.specs.Registers.{inst_file}
use Rattle.t_check.proofs.Turns.{in_one}

pub applied_row : (args : List Ty) (k t : Ty) → k ≡ TupleTy (row args) → applied k t ≡ with_types args t
applied_row args k t e =
    ap (λ (u : Ty). with_types (types_in u) t) e ∙ ap (λ (us : List Ty). with_types us t) (row_is args)

pub with_file : (args : List Ty) (t : Ty) (owes : ℕ) (file : TFile) → t ≡ CodeTy owes file → length args ≤ owes →
    with_types args t ≡ CodeTy (owes - length args) (inst_file args owes file)
with_file args t owes file e le =
    ap (with_types args) e ∙ ap (CodeTy (owes - length args)) (sym (in_one args owes file le))

pub no_code : (args : List Ty) (t : Ty) → ((owes : ℕ) (f : TFile) → t ≢ CodeTy owes f) → with_types args t ≡ t
no_code args IntTy none = refl
no_code args (VarTy i) none = refl
no_code args (CodeTy owes file) none = absurd (none owes file refl)
no_code args (ExistsTy t) none = refl
no_code args (TupleTy fs) none = refl
