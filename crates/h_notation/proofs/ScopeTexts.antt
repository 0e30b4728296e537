-- The texts of terms that are still to be written, node by node.
use Rattle.std.proofs.Common.{◌≡◌, ◌≤◌, ◌<◌, ℕ, zero, suc, ◌+◌, ◌-◌, List, [], ◌∷◌, ◌++◌, length, drop, get_or, refl}
use Rattle.std.proofs.Common.{sym, ◌∙◌, ap, ap₂, append_assoc, codes, arith, subst, reverse, take}
use Rattle.std.specs.Prelude.{Bool, true, false}
use Rattle.std.proofs.lemmas.List.{append-nil, reverse-append, length-reverse, length-append, take-append-le, take_all}
use Rattle.std.proofs.lemmas.List.{take-append-drop, length-take-le}
use Rattle.std.proofs.Math.ListN.{drop_of_length-le}
use Rattle.calc_core.specs.Calculus.{opens, scope_more}
use Rattle.calc_core.specs.Ends.{after_one, lift}
use Rattle.c_terms.specs.C.{CTy}
use Rattle.h_terms.specs.H.{HBlks, HCall, HDecl, HHalt, HIf, HLet, HTm, HVal}
use Rattle.h_terms.specs.Nodes.{h_build, h_kids, h_terms, h_tree, no_term, no_value, values, HArity, HRow}
use Rattle.calc_core.specs.Row.{IsOne, IsSome, IsTwo, others, top}
use Rattle.h_terms.specs.declared.node.HForm.{HForm}
use Rattle.h_terms.specs.declared.node.HForm.TheVariants as H
use Rattle.h_terms.specs.declared.node.HNode.{HNode}
use Rattle.let_types.specs.Hoisted.{decl_of, decl_type, is_decl, names_behind, types_behind}
use Rattle.let_types.specs.Names.{scope, shown, Under}
use Rattle.let_types.specs.Parts.{type_at}
use Rattle.let_types.specs.declared.named.Named.{Named}
use Rattle.let_types.proofs.Naming.{name_in}
use Rattle.let_types.proofs.OneMore.{scope_snoc, under_push}
use Rattle.h_notation.specs.declared.scope.Scope.{Scope}
use Rattle.h_notation.specs.Notation.{decl_note, decl_text, if_text, line, note_text, term_text}
use Rattle.h_notation.specs.Scopes.{behind, below, branch, form_text, h_let, least, node_text, opening, terms_text}
use Rattle.h_notation.specs.Scopes.{types_at, Fit, Ready, Stepped}
use Rattle.calc_core.proofs.Lifts.{lift_add as lift_is}
use Rattle.page_core.proofs.Joined.{if_parts}
use Rattle.idx_core.proofs.Lists.{next_item}

-- ---- fronts of the names

-- more names change nothing
texts_keep : (b : Bool) (ks : HBlks) (m : ℕ) (es ys : List Named) (ss : List Scope) (ts : List HTm) → Fit es m ss →
    m ≤ length es → terms_text b ks (es ++ ys) ss ts ≡ terms_text b ks es ss ts
texts_keep b ks m es ys [] ts f le = refl
texts_keep b ks m es ys (s ∷ ss) ts f le =
    ap₂ (λ g r. opening s ++ (term_text b ks (scope s.types g) s.types s.names s.level (top no_term ts) ++ r))
    (take-append-le s.names es ys (omega (arith, f.0)))
    (texts_keep b ks s.names es ys ss (others ts) f.2 (omega (arith, f.0)))

fit_keep : (m n : ℕ) (es ys : List Named) (ss : List Scope) → Fit es m ss → m ≤ length es → m ≤ n →
    Fit (es ++ ys) n ss
fit_keep m n es ys [] f le mn = tt
fit_keep m n es ys (s ∷ ss) f le mn = (
  omega (arith, f.0),
  subst (Under s.types) (sym (take-append-le s.names es ys (omega (arith, f.0)))) f.1,
  fit_keep s.names s.names es ys ss f.2 (omega (arith, f.0)) (omega arith),
)

fit_back : (m : ℕ) (es ys : List Named) (ss : List Scope) → Fit (es ++ ys) m ss → m ≤ length es → Fit es m ss
fit_back m es ys [] f le = tt
fit_back m es ys (s ∷ ss) f le = (
  f.0,
  subst (Under s.types) (take-append-le s.names es ys (omega (arith, f.0))) f.1,
  fit_back s.names es ys ss f.2 (omega (arith, f.0)),
)

-- the names of the first scope alone
module _ (es kept : List Named) (s : Scope) (ss : List Scope) (cut : kept ≡ take s.names es)
    (f : Fit es (length es) (s ∷ ss)) where
  pub cut_all : length kept ≡ s.names
  cut_all = ap length cut ∙ length-take-le s.names es f.0

  cut_same : es ≡ kept ++ drop s.names es
  cut_same = sym (take-append-drop s.names es) ∙ ap (λ (xs : List Named). xs ++ drop s.names es) (sym cut)

  cut_rest : Fit kept s.names ss
  cut_rest = fit_back s.names kept (drop s.names es) ss (subst (λ (xs : List Named). Fit xs s.names ss) cut_same f.2)
      (omega (arith, cut_all))

  pub fit_cut : Fit kept (length kept) (s ∷ ss)
  fit_cut = (
    omega (arith, cut_all),
    subst (Under s.types) (sym cut ∙ sym (take_all s.names kept (omega (arith, cut_all)))) f.1,
    cut_rest,
  )

  pub texts_cut : (b : Bool) (ks : HBlks) (ts : List HTm) →
      terms_text b ks kept (s ∷ ss) ts ≡ terms_text b ks es (s ∷ ss) ts
  texts_cut b ks ts =
      ap₂ (λ g r. opening s ++ (term_text b ks (scope s.types g) s.types s.names s.level (top no_term ts) ++ r))
      (take_all s.names kept (omega (arith, cut_all)) ∙ cut)
      (sym (ap (λ (xs : List Named). terms_text b ks xs ss (others ts)) cut_same
      ∙ texts_keep b ks s.names kept (drop s.names es) ss (others ts) cut_rest (omega (arith, cut_all))))

-- ---- texts without types

bare_text : (ks : HBlks) (g h : List CTy) (n m k : ℕ) (t : HTm) →
    term_text false ks g n m k t ≡ term_text false ks h n m k t
bare_text ks g h n m k (HLet x t) =
    ap (λ (r : List ℕ). line k (decl_text n m [] x) ++ r)
    (bare_text ks (names_behind ks g x) (names_behind ks h x) (types_behind n x) (m + 1) k t)
bare_text ks g h n m k (HCall v ts vs) = refl
bare_text ks g h n m k (HIf v t u) =
    ap₂ (λ (r q : List ℕ). line k (if_text n m v) ++ (r ++ (line k (codes "else") ++ q)))
    (bare_text ks g h n m (k + 1) t) (bare_text ks g h n m (k + 1) u)
bare_text ks g h n m k (HHalt v) = refl

-- where no types are shown, those of the names do not matter
pub same_text : (b : Bool) (ks : HBlks) (g h : List CTy) (n m k : ℕ) (t : HTm) → (b ≡ true → g ≡ h) →
    term_text b ks g n m k t ≡ term_text b ks h n m k t
same_text true ks g h n m k t is = ap (λ (x : List CTy). term_text true ks x n m k t) (is refl)
same_text false ks g h n m k t is = bare_text ks g h n m k t

-- ---- a declaration

-- what a declaration says
decl_line : (n m : ℕ) (note : List ℕ) (f : HForm) (vs : List HVal) → is_decl f ≡ true →
    form_text n m note f vs ≡ decl_text n m note (decl_of f vs)
decl_line n m note H.Name vs is = refl
decl_line n m note (H.Proj i) vs is = refl
decl_line n m note (H.Arith o) vs is = refl
decl_line n m note H.Unpack vs is = refl
decl_line n m note H.Cell vs is = refl
decl_line n m note H.Get vs is = refl
decl_line n m note H.Set vs is = refl
decl_line n m note (H.Call us) vs is = cc
decl_line n m note H.If0 vs is = cc
decl_line n m note H.Halt vs is = cc

pub build_let : (f : HForm) (vs : List HVal) (ts : List HTm) → is_decl f ≡ true →
    h_build f vs ts ≡ h_let (decl_of f vs) ts
build_let H.Name vs ts is = refl
build_let (H.Proj i) vs ts is = refl
build_let (H.Arith o) vs ts is = refl
build_let H.Unpack vs ts is = refl
build_let H.Cell vs ts is = refl
build_let H.Get vs ts is = refl
build_let H.Set vs ts is = refl
build_let (H.Call us) vs ts is = cc
build_let H.If0 vs ts is = cc
build_let H.Halt vs ts is = cc

pub kids_let : (f : HForm) → is_decl f ≡ true → h_kids f ≡ 1
kids_let H.Name is = refl
kids_let (H.Proj i) is = refl
kids_let (H.Arith o) is = refl
kids_let H.Unpack is = refl
kids_let H.Cell is = refl
kids_let H.Get is = refl
kids_let H.Set is = refl
kids_let (H.Call us) is = cc
kids_let H.If0 is = cc
kids_let H.Halt is = cc

let_parts : (t a b r u : List ℕ) → (t ++ (a ++ b)) ++ (r ++ u) ≡ t ++ (a ++ ((b ++ r) ++ u))
let_parts t a b r u = simp append_assoc

-- a stack whose end is its top
pub pushed : (old new : List Scope) (x y : Scope) → new ≡ old ++ x ∷ [] → x ≡ y → reverse new ≡ y ∷ reverse old
pushed old new x y e is = ap reverse e ∙ reverse-append old (x ∷ []) ∙ ap (λ z. z ∷ reverse old) is

more_least : (b : Bool) (n : ℕ) → n ≤ after_one b n
more_least true n = omega arith
more_least false n = omega arith

module _ (b : Bool) (ks : HBlks) (s : Scope) (f : HForm) (vs : List HVal) (es fs : List Named) (e : Named)
    (old new : List Scope) (is : is_decl f ≡ true) (ready : Ready es s old) (after : ℕ)
    (many : after ≡ types_behind s.types (decl_of f vs)) (grown : fs ≡ es ++ e ∷ []) (least_names : e.types ≤ after)
    (typed : b ≡ true → scope after fs ≡ names_behind ks (scope s.types es) (decl_of f vs)) where
  abbrev x : HDecl
  x = decl_of f vs

  abbrev g : List CTy
  g = scope s.types es

  whole_es : take s.names es ≡ es
  whole_es = take_all s.names es (omega (arith, ready.all))

  long : length fs ≡ s.names + 1
  long = omega (arith, ap length grown, length-append es (e ∷ []), ready.all)

  whole_fs : take (s.names + 1) fs ≡ fs
  whole_fs = take_all (s.names + 1) fs (omega (arith, long))

  under_es : Under s.types es
  under_es = subst (Under s.types) whole_es ready.fit.1

  pub let_fit : reverse new ≡ behind after s ∷ reverse old → Fit fs (length fs) (reverse new)
  let_fit now =
      subst (λ (ss : List Scope). Fit fs (length fs) ss) (sym now) (
        omega (arith, long),
        subst (Under after) (sym grown ∙ sym whole_fs)
            (under_push s.types after es e under_es (omega (arith, many, more_least (opens x) s.types)) least_names),
        subst (λ (xs : List Named). Fit xs (s.names + 1) (reverse old)) (sym grown)
            (fit_keep s.names (s.names + 1) es (e ∷ []) (reverse old) ready.fit.2 (omega (arith, ready.all))
            (omega arith)),
      )

  rest_same : (ts : List HTm) → terms_text b ks fs (reverse old) ts ≡ terms_text b ks es (reverse old) ts
  rest_same ts =
      ap (λ (xs : List Named). terms_text b ks xs (reverse old) ts) grown
      ∙ texts_keep b ks s.names es (e ∷ []) (reverse old) ts ready.fit.2 (omega (arith, ready.all))

  -- the term behind it
  more_text : (u : HTm) →
      term_text b ks (types_at fs (behind after s)) after (s.names + 1) s.level u
      ≡ term_text b ks (names_behind ks g x) (types_behind s.types x) (s.names + 1) s.level u
  more_text u =
      same_text b ks (types_at fs (behind after s)) (names_behind ks g x) after (s.names + 1) s.level u
      (λ shows. ap (scope after) whole_fs ∙ typed shows)
      ∙ ap (λ (k : ℕ). term_text b ks (names_behind ks g x) k (s.names + 1) s.level u) many

  pub let_note : (note : List ℕ) →
      ((u : CTy) (h : List CTy) → scope after fs ≡ u ∷ h → note ≡ note_text b after u) →
      note ≡ decl_note b ks g s.types x
  let_note note noted = go b typed noted
    where
      go : (c : Bool) → (c ≡ true → scope after fs ≡ names_behind ks g x) →
          ((u : CTy) (h : List CTy) → scope after fs ≡ u ∷ h → note ≡ note_text c after u) →
          note ≡ decl_note c ks g s.types x
      go true shows said =
          said (decl_type ks g x) (scope_more (opens x) g) (shows refl)
          ∙ ap (λ (k : ℕ). note_text true k (decl_type ks g x)) many
      go false shows said = said (shown after e) (scope after es) (ap (scope after) grown ∙ scope_snoc after es e)

  pub let_written : (note t0 t1 : List ℕ) → note ≡ decl_note b ks g s.types x → t1 ≡ t0 ++ node_text s note f vs →
      reverse new ≡ behind after s ∷ reverse old → (ts : List HTm) →
      t1 ++ terms_text b ks fs (reverse new) ts ≡ t0 ++ terms_text b ks es (s ∷ reverse old) (h_let x ts)
  let_written note t0 t1 noted wrote now ts =
      let said : line s.level (form_text s.types s.names note f vs)
      ≡ line s.level (decl_text s.types s.names (decl_note b ks g s.types x) x) =
      ap (line s.level) (decl_line s.types s.names note f vs is
      ∙ ap (λ (n : List ℕ). decl_text s.types s.names n x) noted) in
      let a = opening s in
      let c = line s.level (decl_text s.types s.names (decl_note b ks g s.types x) x) in
      let r = term_text b ks (names_behind ks g x) (types_behind s.types x) (s.names + 1) s.level (top no_term ts) in
      let u = terms_text b ks es (reverse old) (others ts) in
      ap₂ (λ (h : List ℕ) (ss : List Scope). h ++ terms_text b ks fs ss ts)
      (wrote ∙ ap (λ (l : List ℕ). t0 ++ (a ++ l)) said) now
      ∙ ap₂ (λ (v w : List ℕ). (t0 ++ (a ++ c)) ++ (v ++ w)) (more_text (top no_term ts)) (rest_same (others ts))
      ∙ let_parts t0 a c r u
      ∙ ap (λ (h : List CTy). t0 ++ (a ++ (term_text b ks h s.types s.names s.level (HLet x (top no_term ts)) ++ u)))
      (sym (ap (scope s.types) whole_es))

-- ---- a node that declares nothing

-- a choice, and its branches
one_less : (k : ℕ) → k ≡ k + 1 - 1
one_less k = omega arith

if_step : (b : Bool) (ks : HBlks) (es : List Named) (s : Scope) (vs : List HVal) (ss : List Scope) (ts : List HTm) →
    terms_text b ks es (s ∷ ss) (h_build H.If0 vs ts)
    ≡ node_text s [] H.If0 vs ++ terms_text b ks es (branch false s ∷ (branch true s ∷ ss)) ts
if_step b ks es s vs ss ts =
    let g = types_at es s in
    if_parts (opening s) (line s.level (if_text s.types s.names (top no_value vs)))
    (term_text b ks g s.types s.names (s.level + 1) (top no_term ts)) (line s.level (codes "else"))
    (line (s.level + 1 - 1) (codes "else"))
    (term_text b ks g s.types s.names (s.level + 1) (top no_term (others ts)))
    (terms_text b ks es ss (others (others ts))) (ap (λ k. line k (codes "else")) (one_less s.level))

other_text : (b : Bool) (ks : HBlks) (es : List Named) (s : Scope) (f : HForm) (vs : List HVal) (ss : List Scope)
    (ts : List HTm) → is_decl f ≡ false →
    terms_text b ks es (s ∷ ss) (h_build f vs ts) ≡ node_text s [] f vs ++ terms_text b ks es (below f s ++ ss) ts
other_text b ks es s H.Name vs ss ts is = cc
other_text b ks es s (H.Proj i) vs ss ts is = cc
other_text b ks es s (H.Arith o) vs ss ts is = cc
other_text b ks es s H.Unpack vs ss ts is = cc
other_text b ks es s H.Cell vs ss ts is = cc
other_text b ks es s H.Get vs ss ts is = cc
other_text b ks es s H.Set vs ss ts is = cc
other_text b ks es s (H.Call us) vs ss ts is =
    let said = line s.level (form_text s.types s.names [] (H.Call us) vs) in
    sym (append_assoc (opening s) said (terms_text b ks es ss ts))
other_text b ks es s H.If0 vs ss ts is = if_step b ks es s vs ss ts
other_text b ks es s H.Halt vs ss ts is =
    sym (append_assoc (opening s) (line s.level (form_text s.types s.names [] H.Halt vs)) (terms_text b ks es ss ts))

other_count : (f : HForm) (s : Scope) → is_decl f ≡ false → length (below f s) ≡ h_kids f
other_count H.Name s is = cc
other_count (H.Proj i) s is = cc
other_count (H.Arith o) s is = cc
other_count H.Unpack s is = cc
other_count H.Cell s is = cc
other_count H.Get s is = cc
other_count H.Set s is = cc
other_count (H.Call us) s is = refl
other_count H.If0 s is = refl
other_count H.Halt s is = refl

fit_more : (es : List Named) (m n : ℕ) (ss : List Scope) → m ≤ n → Fit es m ss → Fit es n ss
fit_more es m n [] le h = tt
fit_more es m n (s ∷ ss) le h = (omega (arith, h.0), h.1, h.2)

other_fit : (es : List Named) (f : HForm) (s : Scope) (ss : List Scope) → is_decl f ≡ false → s.names ≤ length es →
    Under s.types (take s.names es) → Fit es s.names ss → Fit es (length es) (below f s ++ ss)
other_fit es H.Name s ss is le u h = cc
other_fit es (H.Proj i) s ss is le u h = cc
other_fit es (H.Arith o) s ss is le u h = cc
other_fit es H.Unpack s ss is le u h = cc
other_fit es H.Cell s ss is le u h = cc
other_fit es H.Get s ss is le u h = cc
other_fit es H.Set s ss is le u h = cc
other_fit es (H.Call us) s ss is le u h = fit_more es s.names (length es) ss le h
other_fit es H.If0 s ss is le u h = (le, u, (omega arith, u, h))
other_fit es H.Halt s ss is le u h = fit_more es s.names (length es) ss le h

pub other_done : (b : Bool) (ks : HBlks) (es : List Named) (old new : List Scope) (s : Scope) (f : HForm)
    (vs : List HVal) (t0 t1 : List ℕ) → is_decl f ≡ false → Ready es s old → t1 ≡ t0 ++ node_text s [] f vs →
    reverse new ≡ below f s ++ reverse old →
    Stepped b ks s (h_build f vs) (h_kids f) es es old new t0 t1
other_done b ks es old new s f vs t0 t1 is ready wrote now = record {
  written = λ ts.
      ap (λ (h : List ℕ). h ++ terms_text b ks es (reverse new) ts) wrote
      ∙ ap (λ (ss : List Scope). (t0 ++ node_text s [] f vs) ++ terms_text b ks es ss ts) now
      ∙ append_assoc t0 (node_text s [] f vs) (terms_text b ks es (below f s ++ reverse old) ts)
      ∙ ap (λ (h : List ℕ). t0 ++ h) (sym (other_text b ks es s f vs (reverse old) ts is));
  fit = subst (λ (ss : List Scope). Fit es (length es) ss) (sym now)
      (other_fit es f s (reverse old) is ready.fit.0 ready.fit.1 ready.fit.2);
  count =
      let a = ap length now ∙ length-append (below f s) (reverse old) in
      let c = length-reverse new in
      let d = length-reverse old in
      let k = other_count f s is in omega (arith, a, c, d, k);
}

-- ---- a node

module _ (es kept : List Named) (old mid : List Scope) (s : Scope) (top_is : old ≡ mid ++ s ∷ [])
    (cut : kept ≡ take s.names es) (f : Fit es (length es) (reverse old)) where
  turned : reverse old ≡ s ∷ reverse mid
  turned = pushed mid old s s top_is refl

  front : Fit es (length es) (s ∷ reverse mid)
  front = subst (λ (ss : List Scope). Fit es (length es) ss) turned f

  pub ready_now : Ready kept s mid
  ready_now = record {
    all = cut_all es kept s (reverse mid) cut front;
    fit = fit_cut es kept s (reverse mid) cut front;
  }

  pub step_written : (b : Bool) (ks : HBlks) (build : List HTm → List HTm) (kids : ℕ) (fs : List Named)
      (new : List Scope) (t0 t1 : List ℕ) → Stepped b ks s build kids kept fs mid new t0 t1 → (ts : List HTm) →
      t1 ++ terms_text b ks fs (reverse new) ts ≡ t0 ++ terms_text b ks es (reverse old) (build ts)
  step_written b ks build kids fs new t0 t1 did ts =
      did.written ts ∙ ap (λ (h : List ℕ). t0 ++ h) (texts_cut es kept s (reverse mid) cut front b ks (build ts))
      ∙ ap (λ (ss : List Scope). t0 ++ terms_text b ks es ss (build ts)) (sym turned)

pub step_count : (old mid : List Scope) (s : Scope) (n kids : ℕ) → old ≡ mid ++ s ∷ [] → n ≡ kids + length mid →
    n + 1 ≡ kids + length old
step_count old mid s n kids top_is count = omega (arith, count, ap length top_is, length-append mid (s ∷ []))

-- the last name
pub shown_last : (k : ℕ) (es : List Named) (e : Named) (n : ℕ) (u : CTy) (h : List CTy) → n ≡ length es - 1 →
    0 < length es → e ≡ get_or es n e → scope k es ≡ u ∷ h → shown k e ≡ u
shown_last k es e n u h at some is typed =
    name_in k es 0 n e (omega (arith, at, some)) is ∙ ap (λ (g : List CTy). type_at g 0) typed

pub let_built : (b : Bool) (ks : HBlks) (s : Scope) (f : HForm) (vs : List HVal) (es fs : List Named)
    (old new : List Scope) (t0 t1 : List ℕ) → is_decl f ≡ true →
    Stepped b ks s (h_let (decl_of f vs)) 1 es fs old new t0 t1 →
    Stepped b ks s (h_build f vs) (h_kids f) es fs old new t0 t1
let_built b ks s f vs es fs old new t0 t1 is did = record {
  written = λ ts. did.written ts
      ∙ ap (λ (us : List HTm). t0 ++ terms_text b ks es (s ∷ reverse old) us) (sym (build_let f vs ts is));
  fit = did.fit;
  count = did.count ∙ ap (λ (k : ℕ). k + length old) (sym (kids_let f is));
}

-- a node has its values
one_least : (vs : List HVal) → IsOne vs → 1 ≤ length vs
one_least [] h = absurd h
one_least (v ∷ vs) h = omega arith

some_least : (vs : List HVal) → IsSome vs → 1 ≤ length vs
some_least [] h = absurd h
some_least (v ∷ vs) h = omega arith

two_least : (vs : List HVal) → IsTwo vs → 2 ≤ length vs
two_least [] h = absurd h
two_least (v ∷ vs) h = let k = one_least vs h in omega (arith, k)

pub least_there : (f : HForm) (vs : List HVal) → HArity f vs → least f ≤ length vs
least_there H.Name vs h = one_least vs h
least_there (H.Proj i) vs h = one_least vs h
least_there (H.Arith o) vs h = two_least vs h
least_there H.Unpack vs h = one_least vs h
least_there H.Cell vs h = one_least vs h
least_there H.Get vs h = one_least vs h
least_there H.Set vs h = two_least vs h
least_there (H.Call us) vs h = some_least vs h
least_there H.If0 vs h = one_least vs h
least_there H.Halt vs h = one_least vs h

-- what is known of a node and of those behind it
row_some : (x : HNode) (xs : List HNode) (n : ℕ) → HRow (x ∷ xs) n → 0 < n
row_some x xs zero h = absurd h
row_some x xs (suc n) h = omega arith

row_arity : (x : HNode) (xs : List HNode) (n : ℕ) → HRow (x ∷ xs) n → HArity x.form (values x)
row_arity x xs zero h = absurd h
row_arity x xs (suc n) h = h.0

row_more : (x : HNode) (xs : List HNode) (n k : ℕ) → HRow (x ∷ xs) n → k + 1 ≡ h_kids x.form + n → HRow xs k
row_more x xs zero k h e = absurd h
row_more x xs (suc n) k h e =
    let l = lift_is (h_kids x.form) n in
    let is : lift (h_kids x.form) n ≡ k = omega (arith, e, l) in subst (HRow xs) is h.1

-- what the loop over the nodes of a term keeps
pub record Writing (b : Bool) (ks : HBlks) (nodes : List HNode) (i : ℕ) (es : List Named) (scopes : List Scope)
    (text whole : List ℕ) : Type 0 where
  pub row : HRow (drop i nodes) (length scopes)
  pub fit : Fit es (length es) (reverse scopes)
  pub written : text ++ terms_text b ks es (reverse scopes) (h_terms (drop i nodes)) ≡ whole

pub writing_start : (b : Bool) (ks : HBlks) (nodes : List HNode) (types names : ℕ) (es : List Named)
    (none scopes : List Scope) (text : List ℕ) → HRow nodes 1 → Under types es → names ≡ length es → none ≡ [] →
    scopes ≡ none ++ record { types = types; names = names; level = 1; second = false } ∷ [] →
    Writing b ks nodes 0 es scopes text (text ++ term_text b ks (scope types es) types (length es) 1 (h_tree nodes))
writing_start b ks nodes types names es none scopes text row under long empty more = record {
  row = subst (λ (ss : List Scope). HRow nodes (length ss)) (sym is) row;
  fit = subst (λ (ss : List Scope). Fit es (length es) (reverse ss)) (sym is)
      (omega (arith, long), subst (Under types) (sym all) under, tt);
  written = ap (λ (ss : List Scope). text ++ terms_text b ks es (reverse ss) (h_terms nodes)) is
      ∙ ap (λ (s : List ℕ). text ++ s) (append-nil (term_text b ks (scope types (take names es)) types names 1
      (h_tree nodes)))
      ∙ ap₂ (λ (xs : List Named) (n : ℕ). text ++ term_text b ks (scope types xs) types n 1 (h_tree nodes)) all long;
}
  where
    is : scopes ≡ record { types = types; names = names; level = 1; second = false } ∷ []
    is = rw empty at more

    all : take names es ≡ es
    all = take_all names es (omega (arith, long))

module _ (b : Bool) (ks : HBlks) (nodes : List HNode) (i : ℕ) (es : List Named) (scopes : List Scope)
    (text whole : List ℕ) (h : Writing b ks nodes i es scopes text whole) where
  module _ (x : HNode) (is : x ≡ get_or nodes i x) (lt : i < length nodes) where
    next : drop i nodes ≡ x ∷ drop (i + 1) nodes
    next = next_item nodes i x is lt

    row_here : HRow (x ∷ drop (i + 1) nodes) (length scopes)
    row_here = subst (λ (xs : List HNode). HRow xs (length scopes)) next h.row

    pub writing_some : 0 < length scopes
    writing_some = row_some x (drop (i + 1) nodes) (length scopes) row_here

    pub writing_arity : HArity x.form (values x)
    writing_arity = row_arity x (drop (i + 1) nodes) (length scopes) row_here

    pub writing_more : (fs : List Named) (after : List Scope) (t : List ℕ) →
        ((ts : List HTm) → t ++ terms_text b ks fs (reverse after) ts
        ≡ text ++ terms_text b ks es (reverse scopes) (h_build x.form (values x) ts)) →
        Fit fs (length fs) (reverse after) → length after + 1 ≡ h_kids x.form + length scopes →
        Writing b ks nodes (i + 1) fs after t whole
    writing_more fs after t step fit count = record {
      row = row_more x (drop (i + 1) nodes) (length scopes) (length after) row_here count;
      fit = fit;
      written = step (h_terms (drop (i + 1) nodes))
          ∙ ap (λ (xs : List HNode). text ++ terms_text b ks es (reverse scopes) (h_terms xs)) (sym next)
          ∙ h.written;
    }

  none_left : (ss : List Scope) → length ss ≡ 0 → (ts : List HTm) → terms_text b ks es (reverse ss) ts ≡ []
  none_left [] e ts = refl
  none_left (s ∷ ss) e ts = absurd (omega (arith, e))

  pub writing_end : length nodes ≤ i → text ≡ whole
  writing_end le =
      let all = drop_of_length-le nodes le in
      let empty : length scopes ≡ 0 = subst (λ (xs : List HNode). HRow xs (length scopes)) all h.row in
      sym (append-nil text)
      ∙ ap (λ (s : List ℕ). text ++ s) (sym (none_left scopes empty (h_terms (drop i nodes)))) ∙ h.written
