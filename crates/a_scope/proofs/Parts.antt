-- The fields of tuples that stand in the program, and of tuples of types that do.
use Rattle.std.proofs.Common.{◌≡◌, ℕ, zero, suc, ◌<◌, ◌≤◌, List, [], ◌∷◌, length, get_or, Some, refl, sym, ap}
use Rattle.std.proofs.Common.{◌∙◌, arith}
use Rattle.a_terms.specs.Tree as a
use Rattle.a_terms.specs.Typing.{aunset, field_of}
use Rattle.a_terms.specs.Read.{atree, atrees}
use Rattle.a_terms.specs.declared.types.AType.{AType}

pub room_in : (ts : List AType) (i k : ℕ) (t : AType) → i ≡ suc k → k < length ts → t ≡ get_or ts k t →
    atree t ≡ field_of i (Some (a.ATuple (aunset (atrees ts))))
room_in ts i k t e lt is = go ts k lt is ∙ ap (λ j. field_of j (Some (a.ATuple (aunset (atrees ts))))) (sym e)
  where
    go : (us : List AType) (k : ℕ) → k < length us → t ≡ get_or us k t →
        atree t ≡ field_of (suc k) (Some (a.ATuple (aunset (atrees us))))
    go [] k lt is = absurd (omega arith)
    go (u ∷ us) zero lt is = ap atree is
    go (u ∷ us) (suc k) lt is = go us k (omega arith) is

pub room_out : (ts : List AType) (i k : ℕ) → i ≡ suc k → length ts ≤ k →
    a.AInt ≡ field_of i (Some (a.ATuple (aunset (atrees ts))))
room_out ts i k e le = go ts k le ∙ ap (λ j. field_of j (Some (a.ATuple (aunset (atrees ts))))) (sym e)
  where
    go : (us : List AType) (k : ℕ) → length us ≤ k →
        a.AInt ≡ field_of (suc k) (Some (a.ATuple (aunset (atrees us))))
    go [] k le = refl
    go (u ∷ us) zero le = absurd (omega arith)
    go (u ∷ us) (suc k) le = go us k (omega arith)
