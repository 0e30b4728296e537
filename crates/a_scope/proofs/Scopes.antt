-- Variables in scope, and types of values.
use Rattle.std.proofs.Common.{◌≡◌, ℕ, zero, suc, ◌+◌, ◌-◌, ◌<◌, ◌≤◌, ◌++◌, List, [], ◌∷◌, length, map, take, get_or}
use Rattle.std.proofs.Common.{slice_get, Option, Some, None, refl, sym, ap, ap₂, ◌∙◌, subst, arith, length-append}
use Rattle.std.proofs.lemmas.List.{take_more, take_all, map_push}
use Rattle.idx_core.specs.Laws.{shift_zero_law, shift_add_law}
use Rattle.a_terms.specs.Tree as a
use Rattle.a_terms.specs.Tree.{ashift}
use Rattle.a_terms.specs.TreeLaws.{a_part, a_over}
use Rattle.a_terms.specs.Typing.{type_of, code_type, data_fields, data_type, or_int, field_of, body_of, filled_of}
use Rattle.a_terms.specs.Typing.{declared, more_vars}
use Rattle.a_terms.specs.Read.{atree, atrees}
use Rattle.a_terms.specs.NodeTrees.{wrap, wrapped, a_blocks, a_consts, a_data}
use Rattle.a_terms.specs.declared.types.AType.{AType}
use Rattle.a_terms.specs.declared.nodes.AWrap.{AWrap}
use Rattle.a_terms.specs.declared.nodes.AData.{AData}
use Rattle.a_terms.specs.declared.nodes.AWrap.TheVariants.{Apply, Pack}
use Rattle.a_terms.specs.declared.nodes.ABlock.{ABlock}
use Rattle.a_terms.specs.TypeLaws.{field_shift}
use Rattle.a_scope.proofs.Filling.{filled_shift, field_filled_to}
use Rattle.a_scope.specs.Scope.{filled_to, noted, noted_type, shown, scope, homes, Under, EntryOf, Held, bare}
use Rattle.a_scope.specs.Scope.{wrap_type, decl_ty}
use Rattle.a_scope.specs.declared.scope.Entry.{Entry}
use Rattle.std.proofs.lemmas.Option.{slice_get_past as get_out, none-some, same_Some}
use Rattle.a_terms.proofs.Lists.{length_data, wrapped_snoc}

-- places in lists
get_front : {T : Type 0} (xs ys : List T) (n : ℕ) → n < length xs → slice_get (xs ++ ys) n ≡ slice_get xs n
get_front [] ys n lt = absurd (omega arith)
get_front (x ∷ xs) ys zero lt = refl
get_front (x ∷ xs) ys (suc n) lt = get_front xs ys n (omega arith)

get_last : {T : Type 0} (xs : List T) (y : T) (n : ℕ) → n ≡ length xs → slice_get (xs ++ y ∷ []) n ≡ Some y
get_last [] y zero e = refl
get_last [] y (suc n) e = absurd (omega arith)
get_last (x ∷ xs) y zero e = absurd (omega arith)
get_last (x ∷ xs) y (suc n) e = get_last xs y n (omega arith)

pub length_scope : (k : ℕ) (es : List Entry) → length (scope k es) ≡ length es
length_scope k [] = refl
length_scope k (e ∷ es) = omega (arith, length-append (scope k es) (shown k e ∷ []), length_scope k es)

pub var_in : (k : ℕ) (es : List Entry) (n j : ℕ) (e : Entry) → j + suc n ≡ length es → e ≡ get_or es j e →
    Some (shown k e) ≡ slice_get (scope k es) n
var_in k [] n j e s is = absurd (omega arith)
var_in k (x ∷ es) n zero e s is = ap (λ (y : Entry). Some (shown k y)) is
    ∙ sym (get_last (scope k es) (shown k x) n (omega (arith, length_scope k es)))
var_in k (x ∷ es) n (suc j) e s is = var_in k es n j e (omega arith) is
    ∙ sym (get_front (scope k es) (shown k x ∷ []) n (omega (arith, length_scope k es)))

pub var_out : (k : ℕ) (es : List Entry) (n : ℕ) → length es ≤ n → None ≡ slice_get (scope k es) n
var_out k es n le = sym (get_out (scope k es) n (omega (arith, length_scope k es)))

pub length_blocks : (ks : List ABlock) → length (a_blocks ks) ≡ length ks
length_blocks [] = refl
length_blocks (k ∷ ks) = ap suc (length_blocks ks)

pub block_in : (ks : List ABlock) (l : ℕ) (b : ABlock) → l < length ks → b ≡ get_or ks l b →
    Some (a.ACode b.owes (atrees b.args.items)) ≡ code_type (slice_get (a_blocks ks) l)
block_in [] l b lt is = absurd (omega arith)
block_in (k ∷ ks) zero b lt is = ap (λ (x : ABlock). Some (a.ACode x.owes (atrees x.args.items))) is
block_in (k ∷ ks) (suc l) b lt is = block_in ks l b (omega arith) is

pub block_out : (ks : List ABlock) (l : ℕ) → length ks ≤ l → None ≡ code_type (slice_get (a_blocks ks) l)
block_out ks l le = ap code_type (sym (get_out (a_blocks ks) l (omega (arith, length_blocks ks))))

-- data tuples
pub datum_in : (ds : List AData) (n : ℕ) (d : AData) → n < length ds → d ≡ get_or ds n d →
    Some (a.ATuple (data_fields (a_consts d.fields.items))) ≡ data_type (slice_get (a_data ds) n)
datum_in [] n d lt is = absurd (omega arith)
datum_in (x ∷ ds) zero d lt is = ap (λ (y : AData). Some (a.ATuple (data_fields (a_consts y.fields.items)))) is
datum_in (x ∷ ds) (suc n) d lt is = datum_in ds n d (omega arith) is

pub datum_out : (ds : List AData) (n : ℕ) → length ds ≤ n → None ≡ data_type (slice_get (a_data ds) n)
datum_out ds n le = ap data_type (sym (get_out (a_data ds) n (omega (arith, length_data ds))))

-- what is put round a value
pub wrapped_more : (v : a.AVal) (ws : List AWrap) (i : ℕ) (w : AWrap) → i < length ws → w ≡ get_or ws i w →
    wrapped v (take (i + 1) ws) ≡ wrap w (wrapped v (take i ws))
wrapped_more v ws i w lt is = ap (wrapped v) (take_more ws i w lt ∙ ap (λ y. take i ws ++ y ∷ []) (sym is))
    ∙ wrapped_snoc v (take i ws) w

type_wrap : (p : a.AProg) (g : List a.ATy) (w : AWrap) (v : a.AVal) →
    type_of p g (wrap w v) ≡ wrap_type w (type_of p g v)
type_wrap p g (Apply ts) v = refl
type_wrap p g (Pack h s) v = refl

pub type_more : (p : a.AProg) (g : List a.ATy) (v : a.AVal) (ws : List AWrap) (i : ℕ) (w : AWrap)
    (o q : Option a.ATy) → i < length ws → w ≡ get_or ws i w → q ≡ wrap_type w o →
    o ≡ type_of p g (wrapped v (take i ws)) → q ≡ type_of p g (wrapped v (take (i + 1) ws))
type_more p g v ws i w o q lt is e h =
    e ∙ ap (wrap_type w) h ∙ sym (type_wrap p g w (wrapped v (take i ws)))
    ∙ ap (type_of p g) (sym (wrapped_more v ws i w lt is))

-- the same over a slice of it
pub type_more_of : (p : a.AProg) (g : List a.ATy) (v : a.AVal) (ws xs : List AWrap) → xs ≡ ws →
    (i : ℕ) (w : AWrap) (o q : Option a.ATy) → i < length xs → w ≡ get_or xs i w → q ≡ wrap_type w o →
    o ≡ type_of p g (wrapped v (take i ws)) → q ≡ type_of p g (wrapped v (take (i + 1) ws))
type_more_of p g v ws xs same i w o q lt is e h =
    type_more p g v ws i w o q (subst (λ ys. i < length ys) same lt) (is ∙ ap (λ ys. get_or ys i w) same) e h

pub taken : {T : Type 0} (ws xs : List T) → xs ≡ ws → (i : ℕ) → length xs ≤ i → take i ws ≡ ws
taken ws xs same i le = take_all i ws (subst (λ ys. length ys ≤ i) same le)

-- one more variable
pub scope_snoc : (k : ℕ) (es : List Entry) (e : Entry) → scope k (es ++ e ∷ []) ≡ shown k e ∷ scope k es
scope_snoc k [] e = refl
scope_snoc k (x ∷ es) e = ap (λ g. g ++ shown k x ∷ []) (scope_snoc k es e)

pub shown_own : (k : ℕ) (e : Entry) → e.names ≡ k → shown k e ≡ noted e
shown_own k e same =
    let z : k - e.names ≡ 0 = omega (arith, same) in
    ap (λ n. ashift n 0 (noted e)) z ∙ shift_zero_law a_over 0 (noted e)

shown_more : (k : ℕ) (e : Entry) → e.names ≤ k → shown (suc k) e ≡ ashift 1 0 (shown k e)
shown_more k e le =
    let s : suc k - e.names ≡ k - e.names + 1 = omega (arith, le) in
    ap (λ n. ashift n 0 (noted e)) s ∙ sym (shift_add_law a_part a_over (k - e.names) 1 0 (noted e))

pub scope_more : (k : ℕ) (es : List Entry) → Under k es → scope (suc k) es ≡ map (ashift 1 0) (scope k es)
scope_more k [] u = refl
scope_more k (e ∷ es) u = ap₂ (λ g t. g ++ t ∷ []) (scope_more k es u.1) (shown_more k e u.0)
    ∙ sym (map_push (ashift 1 0) (scope k es) (shown k e))

one_more : (k : ℕ) (es : List Entry) (e : Entry) (t : a.ATy) → shown k e ≡ t → scope k (es ++ e ∷ []) ≡ t ∷ scope k es
one_more k es e t is = scope_snoc k es e ∙ ap (λ u. u ∷ scope k es) is

pub declared_is : (p : a.AProg) (x : a.ADecl) (k : ℕ) (es new : List Entry) (e : Entry) → new ≡ es ++ e ∷ [] →
    Under k es → shown (more_vars x k) e ≡ decl_ty p (scope k es) x →
    scope (more_vars x k) new ≡ declared p (scope k es) x
declared_is p x k es new e is u t = ap (scope (more_vars x k)) is ∙ go x t
  where
    go : (y : a.ADecl) → shown (more_vars y k) e ≡ decl_ty p (scope k es) y →
        scope (more_vars y k) (es ++ e ∷ []) ≡ declared p (scope k es) y
    go (a.Value v) t = one_more k es e _ t
    go (a.Proj i v) t = one_more k es e _ t
    go (a.Arith o v w) t = one_more k es e _ t
    go (a.Unpack v) t = one_more (suc k) es e _ t
        ∙ ap (λ g. decl_ty p (scope k es) (a.Unpack v) ∷ g) (scope_more k es u)
    go (a.Malloc ts) t = one_more k es e _ t
    go (a.Init v i w) t = one_more k es e _ t

-- the variable at a place
under_at : (k : ℕ) (es : List Entry) (j : ℕ) (e : Entry) → j < length es → e ≡ get_or es j e → Under k es → e.names ≤ k
under_at k [] j e lt is u = absurd (omega arith)
under_at k (x ∷ es) zero e lt is u = subst (λ (y : Entry). y.names ≤ k) (sym is) u.0
under_at k (x ∷ es) (suc j) e lt is u = under_at k es j e (omega arith) is u.1

-- a value with something around it is no variable
pub wrapped_bare : (v : a.AVal) (ws : List AWrap) → 0 < length ws → bare (wrapped v ws) ≡ None
wrapped_bare v [] lt = absurd (omega (arith, lt))
wrapped_bare v (Apply ts ∷ []) lt = refl
wrapped_bare v (Pack h s ∷ []) lt = refl
wrapped_bare v (w ∷ x ∷ ws) lt = wrapped_bare (wrap w v) (x ∷ ws) (omega arith)

bare_is : (v : a.AVal) (n : ℕ) → bare v ≡ Some n → v ≡ a.Var n
bare_is (a.Var m) n e = ap a.Var (same_Some m n e)
bare_is v n e = absurd (none-some n e)

pub held : (es : List Entry) (v : a.AVal) (n j : ℕ) (e : Entry) → Some n ≡ bare v → j + suc n ≡ length es →
    e ≡ get_or es j e → (p : a.AProg) (k : ℕ) → Held p k es v e
held es v n j e is s at p k = (
  var_in k es n j e s at ∙ ap (type_of p (scope k es)) (sym (bare_is v n (sym is))),
  λ u. under_at k es j e (omega (arith, s)) at u,
  (n, sym is, omega (arith, s)),
)

-- a variable that shares the type of one in scope
same_names : (k : ℕ) (e f : Entry) (t : a.ATy) → noted f ≡ t → f.names ≡ e.names → shown k f ≡ ashift (k - e.names) 0 t
same_names k e f t is n = ap₂ (λ m u. ashift (k - m) 0 u) n is

pub same_stands : (p : a.AProg) (k : ℕ) (es : List Entry) (v : a.AVal) (e f : Entry) → Held p k es v e →
    Under k es → noted f ≡ noted e → f.names ≡ e.names → EntryOf k (or_int (type_of p (scope k es) v)) f
same_stands p k es v e f h u t n =
    (same_names k e f (noted e) t n ∙ ap or_int h.0, subst (λ m. m ≤ k) (sym n) (h.1 u))

pub filled_stands : (p : a.AProg) (k : ℕ) (es : List Entry) (v : a.AVal) (e f : Entry) (i m : ℕ) →
    Held p k es v e → Under k es → ((t : a.ATy) → filled_to m t ≡ filled_of i (Some (filled_to e.filled t))) →
    noted f ≡ filled_to m (noted_type e.ty) → f.names ≡ e.names → EntryOf k (filled_of i (type_of p (scope k es) v)) f
filled_stands p k es v e f i m h u step t n = (
  same_names k e f (filled_to m (noted_type e.ty)) t n ∙ ap (ashift (k - e.names) 0) (step (noted_type e.ty))
      ∙ sym (filled_shift (k - e.names) i (noted e)) ∙ ap (filled_of i) h.0,
  subst (λ m. m ≤ k) (sym n) (h.1 u),
)

-- parts of a variable's type
pub entry_field : (k i : ℕ) (e : Entry) →
    ashift (k - e.names) 0 (field_of i (Some (noted_type e.ty))) ≡ field_of i (Some (shown k e))
entry_field k i e = ap (ashift (k - e.names) 0) (sym (field_filled_to i e.filled (noted_type e.ty)))
    ∙ sym (field_shift (k - e.names) i (noted e))

-- variables for the parts of a variable's type: those of a type that is lent, and those that are made
pub field_stands : (k i : ℕ) (e f : Entry) → noted f ≡ field_of i (Some (noted_type e.ty)) → f.names ≡ e.names →
    e.names ≤ k → EntryOf k (field_of i (Some (shown k e))) f
field_stands k i e f t n le = (
  same_names k e f (field_of i (Some (noted_type e.ty))) t n ∙ entry_field k i e,
  subst (λ m. m ≤ k) (sym n) le,
)

pub field_made : (k i b : ℕ) (e f : Entry) (t : a.ATy) → b ≡ k - e.names → t ≡ noted_type e.ty →
    EntryOf k (ashift b 0 (field_of i (Some t))) f → EntryOf k (field_of i (Some (shown k e))) f
field_made k i b e f t is same h =
    (h.0 ∙ ap₂ (λ n u. ashift n 0 (field_of i (Some u))) is same ∙ entry_field k i e, h.1)

pub body_none : (b : ℕ) (t : a.ATy) → b ≡ 0 → body_of (Some t) ≡ ashift b 1 (body_of (Some t))
body_none b t none = sym (ap (λ n. ashift n 1 (body_of (Some t))) none ∙ shift_zero_law a_over 1 (body_of (Some t)))

-- a variable whose type was noted where as many names are in scope
pub own_stands : (k : ℕ) (e : Entry) (t : a.ATy) → noted e ≡ t → e.names ≡ k → EntryOf k t e
own_stands k e t is n = (shown_own k e n ∙ is, omega (arith, n))

-- a package, from the last that is put round it
packed_last : (p : a.AProg) (g : List a.ATy) (v : a.AVal) (ws : List AWrap) (i : ℕ) (x : AWrap) (h s : AType) →
    i + 1 ≡ length ws → x ≡ get_or ws i x → x ≡ Pack h s → Some (atree s) ≡ type_of p g (wrapped v ws)
packed_last p g v ws i x h s n is e =
    sym (
    ap (λ ys. type_of p g (wrapped v ys)) (sym (take_all (i + 1) ws (omega (arith, n))))
    ∙ ap (type_of p g) (wrapped_more v ws i x (omega (arith, n)) is)
    ∙ ap (λ (y : AWrap). type_of p g (wrap y (wrapped v (take i ws)))) e
    )

pub packed_of : (p : a.AProg) (g : List a.ATy) (v : a.AVal) (ws xs : List AWrap) → xs ≡ ws →
    (i : ℕ) (x : AWrap) (h s : AType) → i + 1 ≡ length xs → x ≡ get_or xs i x → x ≡ Pack h s →
    Some (atree s) ≡ type_of p g (wrapped v ws)
packed_of p g v ws xs same i x h s n is e =
    packed_last p g v xs i x h s n is e ∙ ap (λ ys. type_of p g (wrapped v ys)) same

pub homes_snoc : (es : List Entry) (e : Entry) → homes (es ++ e ∷ []) ≡ e.register ∷ homes es
homes_snoc [] e = refl
homes_snoc (x ∷ es) e = ap (λ xs. xs ++ x.register ∷ []) (homes_snoc es e)

pub length_homes : (es : List Entry) → length (homes es) ≡ length es
length_homes [] = refl
length_homes (e ∷ es) = omega (arith, length-append (homes es) (e.register ∷ []), length_homes es)
