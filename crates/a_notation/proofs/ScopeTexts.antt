-- The texts of terms that are still to be written, node by node.
use Rattle.std.proofs.Common.{◌≡◌, ◌≤◌, ◌<◌, ℕ, zero, suc, ◌+◌, ◌-◌, List, [], ◌∷◌, ◌++◌, length, drop, get_or, refl}
use Rattle.std.proofs.Common.{sym, ◌∙◌, ap, ap₂, append_assoc, codes, arith, subst, reverse, take}
use Rattle.std.specs.Prelude.{Bool, true, false, map, slice_get}
use Rattle.std.proofs.lemmas.List.{append-nil, reverse-append, length-reverse, length-append, take-append-le, take_all}
use Rattle.std.proofs.lemmas.List.{take-append-drop, length-take-le}
use Rattle.std.proofs.Math.ListN.{drop_of_length-le}
use Rattle.calc_core.specs.Ends.{lift}
use Rattle.a_terms.specs.Arity.{AArity, ARow, a_kids}
use Rattle.a_terms.specs.NodeTrees.{a_build, a_decl, a_let, a_onto, a_tree, a_values, is_decl, no_term, no_value}
use Rattle.calc_core.specs.Row.{IsOne, IsSome, IsTwo, others, top}
use Rattle.a_terms.specs.Tree as t
use Rattle.a_terms.specs.Tree.{ADecl, AProg, ATm, ATy, AVal, ashift}
use Rattle.a_terms.specs.Typing.{declared, more_vars, or_int}
use Rattle.a_terms.specs.declared.nodes.AForm.{AForm}
use Rattle.a_terms.specs.declared.nodes.AForm.TheVariants.{Value, Proj, Arith, Unpack, Malloc, Init, Call, If0, Halt}
use Rattle.a_terms.specs.declared.nodes.ANode.{ANode}
use Rattle.a_terms.specs.declared.nodes.AValue.{AValue}
use Rattle.a_scope.specs.Scope.{decl_ty, scope, shown, Under}
use Rattle.a_scope.specs.declared.scope.Entry.{Entry}
use Rattle.a_scope.proofs.Scopes.{var_in}
use Rattle.a_notation.specs.declared.scope.Scope.{Scope}
use Rattle.a_notation.specs.Notation.{decl_note, decl_text, if_text, line, note_text, term_text, types_after}
use Rattle.a_notation.specs.Scopes.{behind, below, branch, form_text, least, node_text, opening, terms_text, types_at}
use Rattle.a_notation.specs.Scopes.{Fit, Ready, Stepped}
use Rattle.calc_core.proofs.Lifts.{lift_add as lift_is}
use Rattle.page_core.proofs.Joined.{if_parts}
use Rattle.idx_core.proofs.Lists.{next_item}

-- ---- fronts of the variables

-- more variables change nothing
texts_keep : (b : Bool) (p : AProg) (m : ℕ) (es ys : List Entry) (ss : List Scope) (ts : List ATm) → Fit es m ss →
    m ≤ length es → terms_text b p (es ++ ys) ss ts ≡ terms_text b p es ss ts
texts_keep b p m es ys [] ts f le = refl
texts_keep b p m es ys (s ∷ ss) ts f le =
    ap₂ (λ g r. opening s ++ (term_text b p (scope s.types g) s.types s.names s.level (top no_term ts) ++ r))
    (take-append-le s.names es ys (omega (arith, f.0)))
    (texts_keep b p s.names es ys ss (others ts) f.2 (omega (arith, f.0)))

fit_keep : (m n : ℕ) (es ys : List Entry) (ss : List Scope) → Fit es m ss → m ≤ length es → m ≤ n →
    Fit (es ++ ys) n ss
fit_keep m n es ys [] f le mn = tt
fit_keep m n es ys (s ∷ ss) f le mn = (
  omega (arith, f.0),
  subst (Under s.types) (sym (take-append-le s.names es ys (omega (arith, f.0)))) f.1,
  fit_keep s.names s.names es ys ss f.2 (omega (arith, f.0)) (omega arith),
)

fit_back : (m : ℕ) (es ys : List Entry) (ss : List Scope) → Fit (es ++ ys) m ss → m ≤ length es → Fit es m ss
fit_back m es ys [] f le = tt
fit_back m es ys (s ∷ ss) f le = (
  f.0,
  subst (Under s.types) (take-append-le s.names es ys (omega (arith, f.0))) f.1,
  fit_back s.names es ys ss f.2 (omega (arith, f.0)),
)

-- the variables of the first scope alone
module _ (es kept : List Entry) (s : Scope) (ss : List Scope) (cut : kept ≡ take s.names es)
    (f : Fit es (length es) (s ∷ ss)) where
  pub cut_all : length kept ≡ s.names
  cut_all = ap length cut ∙ length-take-le s.names es f.0

  cut_same : es ≡ kept ++ drop s.names es
  cut_same = sym (take-append-drop s.names es) ∙ ap (λ (xs : List Entry). xs ++ drop s.names es) (sym cut)

  cut_rest : Fit kept s.names ss
  cut_rest = fit_back s.names kept (drop s.names es) ss (subst (λ (xs : List Entry). Fit xs s.names ss) cut_same f.2)
      (omega (arith, cut_all))

  pub fit_cut : Fit kept (length kept) (s ∷ ss)
  fit_cut = (
    omega (arith, cut_all),
    subst (Under s.types) (sym cut ∙ sym (take_all s.names kept (omega (arith, cut_all)))) f.1,
    cut_rest,
  )

  pub texts_cut : (b : Bool) (p : AProg) (ts : List ATm) →
      terms_text b p kept (s ∷ ss) ts ≡ terms_text b p es (s ∷ ss) ts
  texts_cut b p ts =
      ap₂ (λ g r. opening s ++ (term_text b p (scope s.types g) s.types s.names s.level (top no_term ts) ++ r))
      (take_all s.names kept (omega (arith, cut_all)) ∙ cut)
      (sym (ap (λ (xs : List Entry). terms_text b p xs ss (others ts)) cut_same
      ∙ texts_keep b p s.names kept (drop s.names es) ss (others ts) cut_rest (omega (arith, cut_all))))

-- ---- a declaration

declared_head : (p : AProg) (g : List ATy) (x : ADecl) → (h : List ATy) × (declared p g x ≡ decl_ty p g x ∷ h)
declared_head p g (t.Value v) = (g, refl)
declared_head p g (t.Proj i v) = (g, refl)
declared_head p g (t.Arith o v w) = (g, refl)
declared_head p g (t.Unpack v) = (map (ashift 1 0) g, refl)
declared_head p g (t.Malloc ts) = (g, refl)
declared_head p g (t.Init v i w) = (g, refl)

more_after : (x : ADecl) (n : ℕ) → more_vars x n ≡ types_after x n
more_after (t.Value v) n = refl
more_after (t.Proj i v) n = refl
more_after (t.Arith o v w) n = refl
more_after (t.Unpack v) n = omega arith
more_after (t.Malloc ts) n = refl
more_after (t.Init v i w) n = refl

-- what a declaration says
decl_line : (n m : ℕ) (note : List ℕ) (f : AForm) (vs : List AVal) → is_decl f ≡ true →
    form_text n m note f vs ≡ decl_text n m note (a_decl f vs)
decl_line n m note Value vs is = refl
decl_line n m note (Proj i) vs is = refl
decl_line n m note (Arith o) vs is = refl
decl_line n m note Unpack vs is = refl
decl_line n m note (Malloc us) vs is = refl
decl_line n m note (Init i) vs is = refl
decl_line n m note (Call us) vs is = cc
decl_line n m note If0 vs is = cc
decl_line n m note Halt vs is = cc

pub build_let : (f : AForm) (vs : List AVal) (ts : List ATm) → is_decl f ≡ true →
    a_build f vs ts ≡ a_let (a_decl f vs) ts
build_let Value vs ts is = refl
build_let (Proj i) vs ts is = refl
build_let (Arith o) vs ts is = refl
build_let Unpack vs ts is = refl
build_let (Malloc us) vs ts is = refl
build_let (Init i) vs ts is = refl
build_let (Call us) vs ts is = cc
build_let If0 vs ts is = cc
build_let Halt vs ts is = cc

pub kids_let : (f : AForm) → is_decl f ≡ true → a_kids f ≡ 1
kids_let Value is = refl
kids_let (Proj i) is = refl
kids_let (Arith o) is = refl
kids_let Unpack is = refl
kids_let (Malloc us) is = refl
kids_let (Init i) is = refl
kids_let (Call us) is = cc
kids_let If0 is = cc
kids_let Halt is = cc

let_parts : (t a b r u : List ℕ) → (t ++ (a ++ b)) ++ (r ++ u) ≡ t ++ (a ++ ((b ++ r) ++ u))
let_parts t a b r u = simp append_assoc

-- a stack whose end is its top
pub pushed : (old new : List Scope) (x y : Scope) → new ≡ old ++ x ∷ [] → x ≡ y → reverse new ≡ y ∷ reverse old
pushed old new x y e is = ap reverse e ∙ reverse-append old (x ∷ []) ∙ ap (λ z. z ∷ reverse old) is

pub under_push : (k j : ℕ) (es : List Entry) (e : Entry) → Under k es → k ≤ j → e.names ≤ j → Under j (es ++ e ∷ [])
under_push k j [] e u le n = (n, tt)
under_push k j (x ∷ es) e u le n = (omega (arith, u.0), under_push k j es e u.1 le n)

more_least : (x : ADecl) (n : ℕ) → n ≤ more_vars x n
more_least (t.Value v) n = omega arith
more_least (t.Proj i v) n = omega arith
more_least (t.Arith o v w) n = omega arith
more_least (t.Unpack v) n = omega arith
more_least (t.Malloc ts) n = omega arith
more_least (t.Init v i w) n = omega arith

module _ (b : Bool) (p : AProg) (s : Scope) (f : AForm) (vs : List AVal) (es fs : List Entry) (e : Entry)
    (old new : List Scope) (is : is_decl f ≡ true) (ready : Ready es s old) (after : ℕ)
    (many : after ≡ more_vars (a_decl f vs) s.types) (grown : fs ≡ es ++ e ∷ []) (least_names : e.names ≤ after)
    (typed : scope after fs ≡ declared p (scope s.types es) (a_decl f vs)) where
  abbrev x : ADecl
  x = a_decl f vs

  abbrev g : List ATy
  g = scope s.types es

  whole_es : take s.names es ≡ es
  whole_es = take_all s.names es (omega (arith, ready.all))

  long : length fs ≡ s.names + 1
  long = omega (arith, ap length grown, length-append es (e ∷ []), ready.all)

  whole_fs : take (s.names + 1) fs ≡ fs
  whole_fs = take_all (s.names + 1) fs (omega (arith, long))

  after_is : after ≡ types_after x s.types
  after_is = many ∙ more_after x s.types

  under_es : Under s.types es
  under_es = subst (Under s.types) whole_es ready.fit.1

  pub let_fit : reverse new ≡ behind after s ∷ reverse old → Fit fs (length fs) (reverse new)
  let_fit now =
      subst (λ (ss : List Scope). Fit fs (length fs) ss) (sym now) (
        omega (arith, long),
        subst (Under after) (sym grown ∙ sym whole_fs)
            (under_push s.types after es e under_es (omega (arith, many, more_least x s.types)) least_names),
        subst (λ (xs : List Entry). Fit xs (s.names + 1) (reverse old)) (sym grown)
            (fit_keep s.names (s.names + 1) es (e ∷ []) (reverse old) ready.fit.2 (omega (arith, ready.all))
            (omega arith)),
      )

  rest_same : (ts : List ATm) → terms_text b p fs (reverse old) ts ≡ terms_text b p es (reverse old) ts
  rest_same ts =
      ap (λ (xs : List Entry). terms_text b p xs (reverse old) ts) grown
      ∙ texts_keep b p s.names es (e ∷ []) (reverse old) ts ready.fit.2 (omega (arith, ready.all))

  -- the term behind it
  more_text : (u : ATm) →
      term_text b p (types_at fs (behind after s)) after (s.names + 1) s.level u
      ≡ term_text b p (declared p g x) (types_after x s.types) (s.names + 1) s.level u
  more_text u =
      ap (λ (h : List ATy). term_text b p h after (s.names + 1) s.level u) (ap (scope after) whole_fs ∙ typed)
      ∙ ap (λ (k : ℕ). term_text b p (declared p g x) k (s.names + 1) s.level u) after_is

  pub let_note : (note : List ℕ) →
      ((u : ATy) (h : List ATy) → scope after fs ≡ u ∷ h → note ≡ note_text b after u) →
      note ≡ decl_note b p g s.types x
  let_note note noted =
      let head = declared_head p g x in
      noted (decl_ty p g x) head.0 (typed ∙ head.1) ∙ ap (λ (k : ℕ). note_text b k (decl_ty p g x)) after_is

  pub let_written : (note t0 t1 : List ℕ) → note ≡ decl_note b p g s.types x → t1 ≡ t0 ++ node_text s note f vs →
      reverse new ≡ behind after s ∷ reverse old → (ts : List ATm) →
      t1 ++ terms_text b p fs (reverse new) ts ≡ t0 ++ terms_text b p es (s ∷ reverse old) (a_let x ts)
  let_written note t0 t1 noted wrote now ts =
      let said : line s.level (form_text s.types s.names note f vs)
      ≡ line s.level (decl_text s.types s.names (decl_note b p g s.types x) x) =
      ap (line s.level) (decl_line s.types s.names note f vs is
      ∙ ap (λ (n : List ℕ). decl_text s.types s.names n x) noted) in
      let a = opening s in
      let c = line s.level (decl_text s.types s.names (decl_note b p g s.types x) x) in
      let r = term_text b p (declared p g x) (types_after x s.types) (s.names + 1) s.level (top no_term ts) in
      let u = terms_text b p es (reverse old) (others ts) in
      ap₂ (λ (h : List ℕ) (ss : List Scope). h ++ terms_text b p fs ss ts)
      (wrote ∙ ap (λ (l : List ℕ). t0 ++ (a ++ l)) said) now
      ∙ ap₂ (λ (v w : List ℕ). (t0 ++ (a ++ c)) ++ (v ++ w)) (more_text (top no_term ts)) (rest_same (others ts))
      ∙ let_parts t0 a c r u
      ∙ ap (λ (h : List ATy). t0 ++ (a ++ (term_text b p h s.types s.names s.level (t.Let x (top no_term ts)) ++ u)))
      (sym (ap (scope s.types) whole_es))

-- ---- a node that declares nothing

-- a choice, and its branches
one_less : (k : ℕ) → k ≡ k + 1 - 1
one_less k = omega arith

if_step : (b : Bool) (p : AProg) (es : List Entry) (s : Scope) (vs : List AVal) (ss : List Scope) (ts : List ATm) →
    terms_text b p es (s ∷ ss) (a_build If0 vs ts)
    ≡ node_text s [] If0 vs ++ terms_text b p es (branch false s ∷ (branch true s ∷ ss)) ts
if_step b p es s vs ss ts =
    let g = types_at es s in
    if_parts (opening s) (line s.level (if_text s.types s.names (top no_value vs)))
    (term_text b p g s.types s.names (s.level + 1) (top no_term ts)) (line s.level (codes "else"))
    (line (s.level + 1 - 1) (codes "else"))
    (term_text b p g s.types s.names (s.level + 1) (top no_term (others ts)))
    (terms_text b p es ss (others (others ts))) (ap (λ k. line k (codes "else")) (one_less s.level))

other_text : (b : Bool) (p : AProg) (es : List Entry) (s : Scope) (f : AForm) (vs : List AVal) (ss : List Scope)
    (ts : List ATm) → is_decl f ≡ false →
    terms_text b p es (s ∷ ss) (a_build f vs ts) ≡ node_text s [] f vs ++ terms_text b p es (below f s ++ ss) ts
other_text b p es s Value vs ss ts is = cc
other_text b p es s (Proj i) vs ss ts is = cc
other_text b p es s (Arith o) vs ss ts is = cc
other_text b p es s Unpack vs ss ts is = cc
other_text b p es s (Malloc us) vs ss ts is = cc
other_text b p es s (Init i) vs ss ts is = cc
other_text b p es s (Call us) vs ss ts is =
    sym (append_assoc (opening s) (line s.level (form_text s.types s.names [] (Call us) vs)) (terms_text b p es ss ts))
other_text b p es s If0 vs ss ts is = if_step b p es s vs ss ts
other_text b p es s Halt vs ss ts is =
    sym (append_assoc (opening s) (line s.level (form_text s.types s.names [] Halt vs)) (terms_text b p es ss ts))

other_count : (f : AForm) (s : Scope) → is_decl f ≡ false → length (below f s) ≡ a_kids f
other_count Value s is = cc
other_count (Proj i) s is = cc
other_count (Arith o) s is = cc
other_count Unpack s is = cc
other_count (Malloc us) s is = cc
other_count (Init i) s is = cc
other_count (Call us) s is = refl
other_count If0 s is = refl
other_count Halt s is = refl

fit_more : (es : List Entry) (m n : ℕ) (ss : List Scope) → m ≤ n → Fit es m ss → Fit es n ss
fit_more es m n [] le h = tt
fit_more es m n (s ∷ ss) le h = (omega (arith, h.0), h.1, h.2)

other_fit : (es : List Entry) (f : AForm) (s : Scope) (ss : List Scope) → is_decl f ≡ false → s.names ≤ length es →
    Under s.types (take s.names es) → Fit es s.names ss → Fit es (length es) (below f s ++ ss)
other_fit es Value s ss is le u h = cc
other_fit es (Proj i) s ss is le u h = cc
other_fit es (Arith o) s ss is le u h = cc
other_fit es Unpack s ss is le u h = cc
other_fit es (Malloc us) s ss is le u h = cc
other_fit es (Init i) s ss is le u h = cc
other_fit es (Call us) s ss is le u h = fit_more es s.names (length es) ss le h
other_fit es If0 s ss is le u h = (le, u, (omega arith, u, h))
other_fit es Halt s ss is le u h = fit_more es s.names (length es) ss le h

pub other_done : (b : Bool) (p : AProg) (es : List Entry) (old new : List Scope) (s : Scope) (f : AForm)
    (vs : List AVal) (t0 t1 : List ℕ) → is_decl f ≡ false → Ready es s old → t1 ≡ t0 ++ node_text s [] f vs →
    reverse new ≡ below f s ++ reverse old →
    Stepped b p s (a_build f vs) (a_kids f) es es old new t0 t1
other_done b p es old new s f vs t0 t1 is ready wrote now = record {
  written = λ ts.
      ap (λ (h : List ℕ). h ++ terms_text b p es (reverse new) ts) wrote
      ∙ ap (λ (ss : List Scope). (t0 ++ node_text s [] f vs) ++ terms_text b p es ss ts) now
      ∙ append_assoc t0 (node_text s [] f vs) (terms_text b p es (below f s ++ reverse old) ts)
      ∙ ap (λ (h : List ℕ). t0 ++ h) (sym (other_text b p es s f vs (reverse old) ts is));
  fit = subst (λ (ss : List Scope). Fit es (length es) ss) (sym now)
      (other_fit es f s (reverse old) is ready.fit.0 ready.fit.1 ready.fit.2);
  count =
      let a = ap length now ∙ length-append (below f s) (reverse old) in
      let c = length-reverse new in
      let d = length-reverse old in
      let k = other_count f s is in omega (arith, a, c, d, k);
}

-- ---- a node

module _ (es kept : List Entry) (old mid : List Scope) (s : Scope) (top_is : old ≡ mid ++ s ∷ [])
    (cut : kept ≡ take s.names es) (f : Fit es (length es) (reverse old)) where
  turned : reverse old ≡ s ∷ reverse mid
  turned = pushed mid old s s top_is refl

  front : Fit es (length es) (s ∷ reverse mid)
  front = subst (λ (ss : List Scope). Fit es (length es) ss) turned f

  pub ready_now : Ready kept s mid
  ready_now = record {
    all = cut_all es kept s (reverse mid) cut front;
    fit = fit_cut es kept s (reverse mid) cut front;
  }

  pub step_written : (b : Bool) (p : AProg) (build : List ATm → List ATm) (kids : ℕ) (fs : List Entry)
      (new : List Scope) (t0 t1 : List ℕ) → Stepped b p s build kids kept fs mid new t0 t1 → (ts : List ATm) →
      t1 ++ terms_text b p fs (reverse new) ts ≡ t0 ++ terms_text b p es (reverse old) (build ts)
  step_written b p build kids fs new t0 t1 did ts =
      did.written ts ∙ ap (λ (h : List ℕ). t0 ++ h) (texts_cut es kept s (reverse mid) cut front b p (build ts))
      ∙ ap (λ (ss : List Scope). t0 ++ terms_text b p es ss (build ts)) (sym turned)

pub step_count : (old mid : List Scope) (s : Scope) (n kids : ℕ) → old ≡ mid ++ s ∷ [] → n ≡ kids + length mid →
    n + 1 ≡ kids + length old
step_count old mid s n kids top_is count = omega (arith, count, ap length top_is, length-append mid (s ∷ []))

-- the last variable
pub shown_last : (k : ℕ) (es : List Entry) (e : Entry) (n : ℕ) (u : ATy) (h : List ATy) → n ≡ length es - 1 →
    0 < length es → e ≡ get_or es n e → scope k es ≡ u ∷ h → shown k e ≡ u
shown_last k es e n u h at some is typed =
    ap or_int (var_in k es 0 n e (omega (arith, at, some)) is
    ∙ ap (λ (g : List ATy). slice_get g 0) typed)

pub let_built : (b : Bool) (p : AProg) (s : Scope) (f : AForm) (vs : List AVal) (es fs : List Entry)
    (old new : List Scope) (t0 t1 : List ℕ) → is_decl f ≡ true →
    Stepped b p s (a_let (a_decl f vs)) 1 es fs old new t0 t1 →
    Stepped b p s (a_build f vs) (a_kids f) es fs old new t0 t1
let_built b p s f vs es fs old new t0 t1 is did = record {
  written = λ ts. did.written ts
      ∙ ap (λ (us : List ATm). t0 ++ terms_text b p es (s ∷ reverse old) us) (sym (build_let f vs ts is));
  fit = did.fit;
  count = did.count ∙ ap (λ (k : ℕ). k + length old) (sym (kids_let f is));
}

-- a node has its values
one_least : (vs : List AValue) → IsOne (a_values vs) → 1 ≤ length vs
one_least [] h = absurd h
one_least (v ∷ vs) h = omega arith

some_least : (vs : List AValue) → IsSome (a_values vs) → 1 ≤ length vs
some_least [] h = absurd h
some_least (v ∷ vs) h = omega arith

two_least : (vs : List AValue) → IsTwo (a_values vs) → 2 ≤ length vs
two_least [] h = absurd h
two_least (v ∷ vs) h = let k = one_least vs h in omega (arith, k)

pub least_there : (f : AForm) (vs : List AValue) → AArity f (a_values vs) → least f ≤ length vs
least_there Value vs h = one_least vs h
least_there (Proj i) vs h = one_least vs h
least_there (Arith o) vs h = two_least vs h
least_there Unpack vs h = one_least vs h
least_there (Malloc us) vs h = omega arith
least_there (Init i) vs h = two_least vs h
least_there (Call us) vs h = some_least vs h
least_there If0 vs h = one_least vs h
least_there Halt vs h = one_least vs h

-- what is known of a node and of those behind it
row_some : (x : ANode) (xs : List ANode) (n : ℕ) → ARow (x ∷ xs) n → 0 < n
row_some x xs zero h = absurd h
row_some x xs (suc n) h = omega arith

row_arity : (x : ANode) (xs : List ANode) (n : ℕ) → ARow (x ∷ xs) n → AArity x.form (a_values x.values.items)
row_arity x xs zero h = absurd h
row_arity x xs (suc n) h = h.0

row_more : (x : ANode) (xs : List ANode) (n k : ℕ) → ARow (x ∷ xs) n → k + 1 ≡ a_kids x.form + n → ARow xs k
row_more x xs zero k h e = absurd h
row_more x xs (suc n) k h e =
    let l = lift_is (a_kids x.form) n in
    let is : lift (a_kids x.form) n ≡ k = omega (arith, e, l) in subst (ARow xs) is h.1

-- what the loop over the nodes of a term keeps
pub record Writing (b : Bool) (p : AProg) (nodes : List ANode) (i : ℕ) (es : List Entry) (scopes : List Scope)
    (text whole : List ℕ) : Type 0 where
  pub row : ARow (drop i nodes) (length scopes)
  pub fit : Fit es (length es) (reverse scopes)
  pub written : text ++ terms_text b p es (reverse scopes) (a_onto (drop i nodes) []) ≡ whole

pub writing_start : (b : Bool) (p : AProg) (nodes : List ANode) (types names : ℕ) (es : List Entry)
    (none scopes : List Scope) (text : List ℕ) → ARow nodes 1 → Under types es → names ≡ length es → none ≡ [] →
    scopes ≡ none ++ record { types = types; names = names; level = 1; second = false } ∷ [] →
    Writing b p nodes 0 es scopes text (text ++ term_text b p (scope types es) types (length es) 1 (a_tree nodes))
writing_start b p nodes types names es none scopes text row under long empty more = record {
  row = subst (λ (ss : List Scope). ARow nodes (length ss)) (sym is) row;
  fit = subst (λ (ss : List Scope). Fit es (length es) (reverse ss)) (sym is)
      (omega (arith, long), subst (Under types) (sym all) under, tt);
  written = ap (λ (ss : List Scope). text ++ terms_text b p es (reverse ss) (a_onto nodes [])) is
      ∙ ap (λ (s : List ℕ). text ++ s) (append-nil (term_text b p (scope types (take names es)) types names 1
      (a_tree nodes)))
      ∙ ap₂ (λ (xs : List Entry) (n : ℕ). text ++ term_text b p (scope types xs) types n 1 (a_tree nodes)) all long;
}
  where
    is : scopes ≡ record { types = types; names = names; level = 1; second = false } ∷ []
    is = rw empty at more

    all : take names es ≡ es
    all = take_all names es (omega (arith, long))

module _ (b : Bool) (p : AProg) (nodes : List ANode) (i : ℕ) (es : List Entry) (scopes : List Scope)
    (text whole : List ℕ) (h : Writing b p nodes i es scopes text whole) where
  module _ (x : ANode) (is : x ≡ get_or nodes i x) (lt : i < length nodes) where
    next : drop i nodes ≡ x ∷ drop (i + 1) nodes
    next = next_item nodes i x is lt

    row_here : ARow (x ∷ drop (i + 1) nodes) (length scopes)
    row_here = subst (λ (xs : List ANode). ARow xs (length scopes)) next h.row

    pub writing_some : 0 < length scopes
    writing_some = row_some x (drop (i + 1) nodes) (length scopes) row_here

    pub writing_arity : AArity x.form (a_values x.values.items)
    writing_arity = row_arity x (drop (i + 1) nodes) (length scopes) row_here

    pub writing_more : (fs : List Entry) (after : List Scope) (t : List ℕ) →
        ((ts : List ATm) → t ++ terms_text b p fs (reverse after) ts
        ≡ text ++ terms_text b p es (reverse scopes) (a_build x.form (a_values x.values.items) ts)) →
        Fit fs (length fs) (reverse after) → length after + 1 ≡ a_kids x.form + length scopes →
        Writing b p nodes (i + 1) fs after t whole
    writing_more fs after t step fit count = record {
      row = row_more x (drop (i + 1) nodes) (length scopes) (length after) row_here count;
      fit = fit;
      written = step (a_onto (drop (i + 1) nodes) [])
          ∙ ap (λ (xs : List ANode). text ++ terms_text b p es (reverse scopes) (a_onto xs [])) (sym next)
          ∙ h.written;
    }

  none_left : (ss : List Scope) → length ss ≡ 0 → (ts : List ATm) → terms_text b p es (reverse ss) ts ≡ []
  none_left [] e ts = refl
  none_left (s ∷ ss) e ts = absurd (omega (arith, e))

  pub writing_end : length nodes ≤ i → text ≡ whole
  writing_end le =
      let all = drop_of_length-le nodes le in
      let empty : length scopes ≡ 0 = subst (λ (xs : List ANode). ARow xs (length scopes)) all h.row in
      sym (append-nil text)
      ∙ ap (λ (s : List ℕ). text ++ s) (sym (none_left scopes empty (a_onto (drop i nodes) []))) ∙ h.written
