-- What a step does to the frames.
use Rattle.std.proofs.Common.{◌≡◌, ℕ, List, [], ◌∷◌, ◌++◌, Result, Err, IfOk, sym, subst}
use Rattle.std.proofs.lemmas.Result.{IfOk-weaker}
use Rattle.f_terms.specs.Ty.{Tys}
use Rattle.f_terms.specs.Shape.{children}
use Rattle.f_terms.specs.declared.node.FShape.{FShape}
use Rattle.f_terms.specs.declared.node.FTerm.{FTerm}
use Rattle.f_check.specs.Scopes.{Bound}
use Rattle.f_check.specs.Walk.{rest_of}
use Rattle.f_check.specs.Notes.{inner, IsOf, Begun, Becomes, Resumed}
use Rattle.f_check.specs.declared.failure.Failure.{Failure}
use Rattle.f_check.specs.declared.frame.Frame.{Frame}
use Rattle.f_check.specs.declared.frame.Control.{Control}
use Rattle.f_check.specs.declared.frame.Control.TheVariants.{Run}

pub gone : (P : Control → Type 0) (r : Result Control Failure) (e : Failure) → r ≡ Err e → IfOk r P
gone P r e is = subst (λ x. IfOk x P) (sym is) tt

abbrev pub Enters : ℕ → Frame → List Frame → List Frame → Control → Type 0
Enters j fr old new c = (c ≡ Run j) × (new ≡ old ++ fr ∷ [])

pub begun : (r : Result Control Failure) (n : FShape) (old new : List Frame) (fr : Frame) (j : ℕ) →
    IfOk r (Enters j fr old new) → IsOf n fr → children n ≡ j ∷ rest_of fr →
    IfOk r (Begun n old new)
begun r n old new fr j h is parts =
    IfOk-weaker r (Enters j fr old new) (Begun n old new)
    (λ c e. subst (Begun n old new) (sym e.0) (fr, e.1, is, parts)) h

pub same_form : (r : Result Control Failure) (n m : FShape) (old new : List Frame) → n ≡ m → IfOk r (Begun m old new) →
    IfOk r (Begun n old new)
same_form r n m old new e h = subst (λ x. IfOk r (Begun x old new)) (sym e) h

pub resumed : (r : Result Control Failure) (fr more : Frame) (bs : List Bound) (old new : List Frame) (j : ℕ) →
    IfOk r (Enters j more old new) → rest_of fr ≡ j ∷ rest_of more → Becomes fr more →
    ((f : FTerm) (n : FShape) (g : Tys) → inner f n fr g ≡ g) → IfOk r (Resumed fr bs old new)
resumed r fr more bs old new j h parts is same =
    IfOk-weaker r (Enters j more old new) (Resumed fr bs old new)
    (λ c e. subst (Resumed fr bs old new) (sym e.0) (more, e.1, parts, is, same)) h
