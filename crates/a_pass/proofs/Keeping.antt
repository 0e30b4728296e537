-- The types of names: fields of types that are lent, and how many type names there were.
use Rattle.std.proofs.Common.{◌≡◌, ℕ, zero, suc, ◌<◌, ◌≤◌, List, [], ◌∷◌, length, get_or, true, Some, refl, sym, ap}
use Rattle.std.proofs.Common.{◌∙◌}
use Rattle.std.proofs.Common.{arith, subst}
use Rattle.c_terms.specs.C.{TCTuple}
use Rattle.c_terms.specs.Read.{ctree, ctys}
use Rattle.calc_core.specs.declared.types.CoreType.{CoreType as CType}
use Rattle.a_terms.specs.Tree as a
use Rattle.a_terms.specs.Typing.{field_of}
use Rattle.a_laws.specs.Allocate.{atype}
use Rattle.a_pass.specs.declared.state.Name.{Name}
use Rattle.a_pass.specs.Scope.{Under}

pub field_in : (ts : List CType) (i k : ℕ) (t : CType) → i ≡ suc k → k < length ts → t ≡ get_or ts k t →
    atype (ctree t) ≡ field_of i (Some (atype (TCTuple (ctys ts))))
field_in ts i k t e lt is = go ts k lt is ∙ ap (λ j. field_of j (Some (atype (TCTuple (ctys ts))))) (sym e)
  where
    go : (us : List CType) (k : ℕ) → k < length us → t ≡ get_or us k t →
        atype (ctree t) ≡ field_of (suc k) (Some (atype (TCTuple (ctys us))))
    go [] k lt is = absurd (omega arith)
    go (u ∷ us) zero lt is = ap (λ x. atype (ctree x)) is
    go (u ∷ us) (suc k) lt is = go us k (omega arith) is

pub field_out : (ts : List CType) (i k : ℕ) → i ≡ suc k → length ts ≤ k →
    a.AInt ≡ field_of i (Some (atype (TCTuple (ctys ts))))
field_out ts i k e le = go ts k le ∙ ap (λ j. field_of j (Some (atype (TCTuple (ctys ts))))) (sym e)
  where
    go : (us : List CType) (k : ℕ) → length us ≤ k → a.AInt ≡ field_of (suc k) (Some (atype (TCTuple (ctys us))))
    go [] k le = refl
    go (u ∷ us) zero le = absurd (omega arith)
    go (u ∷ us) (suc k) le = go us k (omega arith)

pub cell_in : (t : a.ATy) (i : ℕ) → i ≡ 1 → t ≡ field_of i (Some (a.ATuple (a.MoreAFields t true a.NoAFields)))
cell_in t i e = ap (λ j. field_of j (Some (a.ATuple (a.MoreAFields t true a.NoAFields)))) (sym e)

pub cell_out : (t : a.ATy) (i : ℕ) → (i ≡ 1 → ⊥) →
    a.AInt ≡ field_of i (Some (a.ATuple (a.MoreAFields t true a.NoAFields)))
cell_out t zero e = refl
cell_out t (suc zero) e = absurd (e refl)
cell_out t (suc (suc i)) e = refl

pub under_at : (ns : List Name) (j : ℕ) (n : Name) → j < length ns → n ≡ get_or ns j n → (b : ℕ) → Under b ns →
    n.under ≤ b
under_at [] j n lt is b u = absurd (omega arith)
under_at (m ∷ ns) zero n lt is b u = subst (λ (x : Name). x.under ≤ b) (sym is) u.0
under_at (m ∷ ns) (suc j) n lt is b u = under_at ns j n (omega arith) is b u.1
