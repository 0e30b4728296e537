-- Statements on shift and put of types and register files, beside those that every tree with numbered variables has.
use Rattle.std.specs.Prelude.{◌≡◌, ℕ, ◌+◌, ◌≤◌}
use Rattle.t_types.specs.Tree.{Ty, CodeTy, ExistsTy, TFile, shift, put, put_file}

-- two puts exchange, the one put into the other
abbrev pub PutsExchange : (T : Type 0) → (ℕ → Ty → T → T) → Type 0
PutsExchange T put_in = (i j : ℕ) (u v : Ty) (t : T) → i ≤ j →
    put_in j v (put_in i u t) ≡ put_in i (put j v u) (put_in (j + 1) (shift 1 i v) t)

-- under a binder the index grows by 1, and what is put is shifted by 1; under the n binders of code, by n
abbrev pub PutUnderExists : Type 0
PutUnderExists = (at : ℕ) (s t : Ty) → put at s (ExistsTy t) ≡ ExistsTy (put (at + 1) (shift 1 0 s) t)

abbrev pub PutUnderCode : Type 0
PutUnderCode = (at n : ℕ) (s : Ty) (file : TFile) →
    put at s (CodeTy n file) ≡ CodeTy n (put_file (at + n) (shift n 0 s) file)
