-- The beginning and the end of a conversion.
use Rattle.std.proofs.Common.{◌≡◌, ℕ, ◌+◌, ◌-◌, ◌<◌, Option, Some, None, subst, List, [], ◌++◌, map, sym, ap, ap₂, ◌∙◌}
use Rattle.k_terms.specs.Read.{knode}
use Rattle.f_terms.specs.Noted.{Noted}
use Rattle.f_terms.specs.NotedTerm.{noted_at, noted_of}
use Rattle.f_terms.specs.ReadTerm.{count}
use Rattle.f_terms.specs.declared.node.FTerm.{FTerm}
use Rattle.f_terms.specs.declared.types.FType.{FType}
use Rattle.k_laws.specs.Cps as s
use Rattle.k_pass.specs.Emit.{emit_of}
use Rattle.k_pass.specs.Machine.{Nodes, levels, atoms, rests, todo, says, stream, written, control_steps, owed, Steps}
use Rattle.k_pass.specs.Machine.{ResumeIs}
use Rattle.k_pass.specs.declared.work.Control.{Control}
use Rattle.k_pass.specs.declared.work.Control.TheVariants as C
use Rattle.k_pass.specs.declared.work.Work.{Work}
use Rattle.k_pass.proofs.Stacks.{arrives}

pub starts : (f : FTerm) (ts : List FType) (w : Work) (i : ℕ) → w.out.items ≡ [] → w.frames.items ≡ [] →
    w.pending.items ≡ [] → w.names.items ≡ [] → w.levels.items ≡ [] → w.types ≡ 0 → i ≡ count f - 1 →
    written w ++ stream (noted_at f ts) w (C.Walk i 0) ≡ emit_of (noted_of f ts)
starts f ts w i o fr p x ls tv e =
    ap (λ (ns : Nodes). ns ++ stream (noted_at f ts) w (C.Walk i 0)) (ap (map knode) o)
    ∙ arrives (noted_at f ts) w (C.Walk i 0) [] (λ q ks. []) 0 ([], []) (ap (rests (noted_at f ts)) fr)
    (ap (todo (noted_at f ts)) p) tv (ap₂ (λ (y : List ℕ) (ns : List s.Atom). (y, ns)) (ap levels ls) (ap atoms x))
    ∙ ap (λ (k : ℕ). says (noted_at f ts) [] (λ q ks. []) 0 ([], []) (C.Walk k 0)) e

-- a step keeps what is written and still to be written
pub kept : (t : ℕ → Noted) (w w' : Work) (c d c' : Control) (ns : Nodes) → c ≡ d → Steps t w d w' c' →
    written w ++ stream t w c ≡ ns → written w' ++ stream t w' c' ≡ ns
kept t w w' c d c' ns is step all = sym step.0 ∙ ap (λ (x : Control). written w ++ stream t w x) (sym is) ∙ all

pub fewer : (t : ℕ → Noted) (w w' : Work) (c d c' : Control) → c ≡ d → Steps t w d w' c' →
    control_steps t c' + owed t w' < control_steps t c + owed t w
fewer t w w' c d c' is step =
    subst (λ (x : Control). control_steps t c' + owed t w' < control_steps t x + owed t w) (sym is) step.1

pub resumed_is : (t : ℕ → Noted) (w w' : Work) (o : Option Control) (c' : Control) → o ≡ Some c' → ResumeIs t w w' o →
    Steps t w C.Ended w' c'
resumed_is t w w' o c' is h = subst (ResumeIs t w w') is h

-- nothing is left to write
pub ended : (t : ℕ → Noted) (w w' : Work) (o : Option Control) (c : Control) (ns : Nodes) → c ≡ C.Ended → o ≡ None →
    ResumeIs t w w' o → written w ++ stream t w c ≡ ns → written w' ≡ ns
ended t w w' o c ns is none h all =
    sym (subst (ResumeIs t w w') none h) ∙ ap (λ (x : Control). written w ++ stream t w x) (sym is) ∙ all
