-- What further variables leave as it is.
use Rattle.std.proofs.Common.{◌≡◌, ℕ, ◌+◌, ◌≤◌, ◌++◌, List, [], ◌∷◌, length, take, drop, refl, sym, ap, ap₂}
use Rattle.std.proofs.Common.{◌∙◌, subst, arith}
use Rattle.std.proofs.lemmas.List.{take-append-le, take_all, take-append-drop, length-take-le}
use Rattle.t_terms.specs.Tree.{TSeq, TBlock}
use Rattle.t_emit.specs.Code.{onto}
use Rattle.t_gen.specs.Filling.{Job, finish, finish_from}
use Rattle.t_gen_rules.specs.Gen.{used, code, extras}
use Rattle.a_terms.specs.Bound.{thirds}
use Rattle.t_emit.specs.Code.{fill}
use Rattle.a_terms.specs.Tree as a
use Rattle.calc_core.specs.Row.{top, others}
use Rattle.a_terms.specs.NodeTrees.{no_term}
use Rattle.a_scope.specs.Scope.{scope, homes, Under}
use Rattle.a_scope.specs.declared.scope.Entry.{Entry}
use Rattle.t_gen.specs.declared.state.Place.{Place}
use Rattle.t_gen.specs.Keeps.{Keeps}
use Rattle.t_gen.specs.Pending.{tops, jobs_at, pend, Fit, KeepsAll}

pub tops_push : (ps : List Place) (p : Place) → tops (ps ++ p ∷ []) ≡ p ∷ tops ps
tops_push [] p = refl
tops_push (q ∷ ps) p = ap (λ qs. qs ++ q ∷ []) (tops_push ps p)

pub jobs_keep : (b m : ℕ) (es ys : List Entry) (ps : List Place) (ts : List a.ATm) → Fit b es m ps → m ≤ length es →
    jobs_at (es ++ ys) ps ts ≡ jobs_at es ps ts
jobs_keep b m es ys [] ts f le = refl
jobs_keep b m es ys (p ∷ ps) ts f le =
    ap₂ (λ g js. record {
      block = p.block;
      names = p.names;
      places = homes g;
      vars = scope p.names g;
      term = top no_term ts;
    } ∷ js) (take-append-le p.vars es ys (omega (arith, f.1)))
    (jobs_keep b p.vars es ys ps (others ts) f.3 (omega (arith, f.1)))

pub fit_keep : (b c m n : ℕ) (es ys : List Entry) (ps : List Place) → Fit b es m ps → m ≤ length es → b ≤ c → m ≤ n →
    Fit c (es ++ ys) n ps
fit_keep b c m n es ys [] f le bc mn = tt
fit_keep b c m n es ys (p ∷ ps) f le bc mn = (
  omega (arith, f.0),
  omega (arith, f.1),
  subst (Under p.names) (sym (take-append-le p.vars es ys (omega (arith, f.1)))) f.2,
  fit_keep b c p.vars p.vars es ys ps f.3 (omega (arith, f.1)) bc (omega arith),
)

fit_back : (b m : ℕ) (es ys : List Entry) (ps : List Place) → Fit b (es ++ ys) m ps → m ≤ length es → Fit b es m ps
fit_back b m es ys [] f le = tt
fit_back b m es ys (p ∷ ps) f le = (
  f.0,
  f.1,
  subst (Under p.names) (take-append-le p.vars es ys (omega (arith, f.1))) f.2,
  fit_back b p.vars es ys ps f.3 (omega (arith, f.1)),
)

-- the same with a bound that is larger
pub fit_more : (b c m n : ℕ) (es : List Entry) (ps : List Place) → Fit b es m ps → b ≤ c → m ≤ n → Fit c es n ps
fit_more b c m n es [] f bc mn = tt
fit_more b c m n es (p ∷ ps) f bc mn =
    (omega (arith, f.0), omega (arith, f.1), f.2, fit_more b c p.vars p.vars es ps f.3 bc (omega arith))

-- the variables of the first place alone
pub fit_cut : (b : ℕ) (es kept : List Entry) (p : Place) (ps : List Place) → kept ≡ take p.vars es →
    Fit b es (length es) (p ∷ ps) → Fit b kept (length kept) (p ∷ ps)
fit_cut b es kept p ps cut f =
    let n : length kept ≡ p.vars = ap length cut ∙ length-take-le p.vars es f.1 in
    let same : es ≡ kept ++ drop p.vars es = sym (take-append-drop p.vars es) ∙ ap (λ xs.
    xs ++ drop p.vars es) (sym cut) in
    let g : Fit b (kept ++ drop p.vars es) p.vars ps = subst (λ xs. Fit b xs p.vars ps) same f.3 in (
      f.0,
      omega (arith, n),
      subst (Under p.names) (sym cut ∙ sym (take_all p.vars kept (omega (arith, n)))) f.2,
      fit_back b p.vars kept (drop p.vars es) ps g (omega (arith, n)),
    )

pub count_cut : (b : ℕ) (es kept : List Entry) (p : Place) (ps : List Place) → kept ≡ take p.vars es →
    Fit b es (length es) (p ∷ ps) → p.vars ≡ length kept
count_cut b es kept p ps cut f = sym (ap length cut ∙ length-take-le p.vars es f.1)

pub pend_cut : (prog : a.AProg) (b : ℕ) (es kept : List Entry) (out : List TBlock) (pre : TSeq → TSeq) (p : Place)
    (ps : List Place) (ts : List a.ATm) → kept ≡ take p.vars es → Fit b es (length es) (p ∷ ps) →
    pend prog kept out pre (p ∷ ps) ts ≡ pend prog es out pre (p ∷ ps) ts
pend_cut prog b es kept out pre p ps ts cut f =
    let n : length kept ≡ p.vars = ap length cut ∙ length-take-le p.vars es f.1 in
    let same : es ≡ kept ++ drop p.vars es = sym (take-append-drop p.vars es) ∙ ap (λ xs.
    xs ++ drop p.vars es) (sym cut) in
    let g = fit_cut b es kept p ps cut f in
    let js : jobs_at kept ps (others ts) ≡ jobs_at es ps (others ts) =
    sym (ap (λ xs. jobs_at xs ps (others ts)) same
    ∙ jobs_keep b p.vars kept (drop p.vars es) ps (others ts) g.3 (omega (arith, n))) in
    ap₂ (λ vs ks. finish_from prog (length out) out pre
    (record {
      block = p.block;
      names = p.names;
      places = homes vs;
      vars = scope p.names vs;
      term = top no_term ts;
    }) ks) (take_all p.vars kept (omega (arith, n)) ∙ cut) js

-- the registers of the variables that are used
pub keeps_keep : (b m : ℕ) (es ys : List Entry) (ps : List Place) (ts : List a.ATm) → Fit b es m ps → m ≤ length es →
    KeepsAll es ps ts → KeepsAll (es ++ ys) ps ts
keeps_keep b m es ys [] ts f le k = tt
keeps_keep b m es ys (p ∷ ps) ts f le k = (
  subst (λ xs. Keeps p.registers (homes xs) (used (top no_term ts)))
      (sym (take-append-le p.vars es ys (omega (arith, f.1)))) k.0,
  keeps_keep b p.vars es ys ps (others ts) f.3 (omega (arith, f.1)) k.1,
)

keeps_back : (b m : ℕ) (es ys : List Entry) (ps : List Place) (ts : List a.ATm) → Fit b es m ps → m ≤ length es →
    KeepsAll (es ++ ys) ps ts → KeepsAll es ps ts
keeps_back b m es ys [] ts f le k = tt
keeps_back b m es ys (p ∷ ps) ts f le k = (
  subst (λ xs. Keeps p.registers (homes xs) (used (top no_term ts))) (take-append-le p.vars es ys (omega (arith, f.1)))
      k.0,
  keeps_back b p.vars es ys ps (others ts) f.3 (omega (arith, f.1)) k.1,
)

pub keeps_cut : (b : ℕ) (es kept : List Entry) (p : Place) (ps : List Place) (ts : List a.ATm) →
    kept ≡ take p.vars es → Fit b es (length es) (p ∷ ps) → KeepsAll es (p ∷ ps) ts → KeepsAll kept (p ∷ ps) ts
keeps_cut b es kept p ps ts cut f k =
    let n : length kept ≡ p.vars = ap length cut ∙ length-take-le p.vars es f.1 in
    let same : es ≡ kept ++ drop p.vars es = sym (take-append-drop p.vars es) ∙ ap (λ xs.
    xs ++ drop p.vars es) (sym cut) in
    let g = fit_cut b es kept p ps cut f in (
      subst (λ xs. Keeps p.registers (homes xs) (used (top no_term ts)))
          (sym cut ∙ sym (take_all p.vars kept (omega (arith, n)))) k.0,
      keeps_back b p.vars kept (drop p.vars es) ps (others ts) g.3 (omega (arith, n))
          (subst (λ xs. KeepsAll xs ps (others ts)) same k.1),
    )

-- code that is the same
pub from_same : (prog : a.AProg) (at : ℕ) (out : List TBlock) (pre pro : TSeq → TSeq) (j : Job) (js : List Job) →
    ((rest : TSeq) → pre rest ≡ pro rest) → finish_from prog at out pre j js ≡ finish_from prog at out pro j js
from_same prog at out pre pro j js h =
    ap (λ c. finish prog (at + thirds j.term) (fill j.block c out ++ extras prog j.names j.places j.vars at j.term) js)
    (h (code j.names j.places at j.term))

-- where no code stands yet
pub pend_finish : (prog : a.AProg) (es : List Entry) (out : List TBlock) (ps : List Place) (ts : List a.ATm) →
    pend prog es out (onto []) ps ts ≡ finish prog (length out) out (jobs_at es ps ts)
pend_finish prog es out [] ts = refl
pend_finish prog es out (p ∷ ps) ts = refl

pub under_push : (k j : ℕ) (es : List Entry) (e : Entry) → Under k es → k ≤ j → e.names ≤ j → Under j (es ++ e ∷ [])
under_push k j [] e u le n = (n, tt)
under_push k j (x ∷ es) e u le n = (omega (arith, u.0), under_push k j es e u.1 le n)
