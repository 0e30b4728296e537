-- Instructions of values.
use Rattle.std.proofs.Common.{◌≡◌, ℕ, zero, suc, ◌+◌, ◌<◌, ◌≤◌, ◌++◌, List, [], ◌∷◌, length, map, drop, take, get_or}
use Rattle.std.proofs.Common.{Some, None, refl, sym, ap, ◌∙◌, subst, arith}
use Rattle.std.specs.Prelude.{Bool, ◌||◌, cond}
use Rattle.t_types.specs.Tree.{Ty}
use Rattle.std.proofs.lemmas.List.{drop_more}
use Rattle.t_terms.specs.Tree.{TValue, TSeq}
use Rattle.t_gen_rules.specs.Gen.{place, small, unnest, instead, free, owner, reads, later}
use Rattle.t_gen_rules.specs.Gen.{call_code, constant}
use Rattle.a_terms.specs.Tree as a
use Rattle.a_terms.specs.NodeTrees.{wrap, wrapped, a_value, a_values}
use Rattle.calc_core.specs.Row.{others}
use Rattle.a_terms.specs.declared.nodes.AValue.{AValue}
use Rattle.a_terms.specs.declared.nodes.AWrap.{AWrap}
use Rattle.a_terms.specs.declared.nodes.AWrap.TheVariants.{Apply, Pack}
use Rattle.a_scope.specs.Scope.{homes}
use Rattle.a_scope.specs.declared.scope.Entry.{Entry}
use Rattle.a_scope.proofs.Scopes.{wrapped_more, length_homes}
use Rattle.t_emit.specs.Code.{bare_var, both_used, wrap_small, wrap_boxed, wrap_constant, seen, after_saves}
use Rattle.t_emit.specs.Code.{places}

-- registers of variables
seen_moved : (xs : List (ℕ × ℕ)) (m : List ℕ) (n : ℕ) → n < length m → seen xs (place m n) ≡ place (after_saves xs m) n
seen_moved [] m n lt = refl
seen_moved (s ∷ xs) m n lt =
    ap (seen xs) (sym (place_map m n lt)) ∙ seen_moved xs (map (instead s.1 s.0) m) n (omega (arith, lt, long m))
  where
    place_map : (m : List ℕ) (n : ℕ) → n < length m → place (map (instead s.1 s.0) m) n ≡ instead s.1 s.0 (place m n)
    place_map [] n lt = absurd (omega arith)
    place_map (r ∷ m) zero lt = refl
    place_map (r ∷ m) (suc n) lt = place_map m n (omega arith)

    long : (m : List ℕ) → length (map (instead s.1 s.0) m) ≡ length m
    long [] = refl
    long (r ∷ m) = ap suc (long m)

place_out : (m : List ℕ) (n : ℕ) → length m ≤ n → 0 ≡ place m n
place_out [] n le = refl
place_out (r ∷ m) zero le = absurd (omega arith)
place_out (r ∷ m) (suc n) le = place_out m n (omega arith)

long_saves : (xs : List (ℕ × ℕ)) (m : List ℕ) → length (after_saves xs m) ≡ length m
long_saves [] m = refl
long_saves (s ∷ xs) m = long_saves xs (map (instead s.1 s.0) m) ∙ long m
  where
    long : (m : List ℕ) → length (map (instead s.1 s.0) m) ≡ length m
    long [] = refl
    long (r ∷ m) = ap suc (long m)

place_front : (m l : List ℕ) (n : ℕ) → n < length m → place (m ++ l) n ≡ place m n
place_front [] l n lt = absurd (omega arith)
place_front (r ∷ m) l zero lt = refl
place_front (r ∷ m) l (suc n) lt = place_front m l n (omega arith)

place_last : (m : List ℕ) (r n : ℕ) → n ≡ length m → place (m ++ r ∷ []) n ≡ r
place_last [] r zero e = refl
place_last [] r (suc n) e = absurd (omega arith)
place_last (q ∷ m) r zero e = absurd (omega arith)
place_last (q ∷ m) r (suc n) e = place_last m r n (omega arith)

pub home_in : (es : List Entry) (n j : ℕ) (e : Entry) → j + suc n ≡ length es → e ≡ get_or es j e →
    e.register ≡ place (homes es) n
home_in [] n j e s is = absurd (omega arith)
home_in (x ∷ es) n zero e s is =
    ap (λ (y : Entry). y.register) is ∙ sym (place_last (homes es) x.register n (omega (arith, length_homes es)))
home_in (x ∷ es) n (suc j) e s is = home_in es n j e (omega arith) is
    ∙ sym (place_front (homes es) (x.register ∷ []) n (omega (arith, length_homes es)))

pub register_in : (es : List Entry) (xs : List (ℕ × ℕ)) (n j : ℕ) (e : Entry) → j + suc n ≡ length es →
    e ≡ get_or es j e → seen xs e.register ≡ place (places es xs) n
register_in es xs n j e s is =
    ap (seen xs) (home_in es n j e s is) ∙ seen_moved xs (homes es) n (omega (arith, length_homes es))

pub register_out : (es : List Entry) (xs : List (ℕ × ℕ)) (n : ℕ) → length es ≤ n → 0 ≡ place (places es xs) n
register_out es xs n le = place_out (places es xs) n (omega (arith, long_saves xs (homes es), length_homes es))

pub seen_next : (xs : List (ℕ × ℕ)) (i : ℕ) (d : ℕ × ℕ) (r : ℕ) → i < length xs →
    seen (take (i + 1) xs) r ≡ instead (get_or xs i d).1 (get_or xs i d).0 (seen (take i xs) r)
seen_next [] i d r lt = absurd (omega arith)
seen_next (x ∷ xs) zero d r lt = refl
seen_next (x ∷ xs) (suc i) d r lt =
    let more : suc i + 1 ≡ suc (i + 1) = omega arith in
    ap (λ k. seen (take k (x ∷ xs)) r) more ∙ seen_next xs i d (instead x.1 x.0 r) (omega arith)

-- what is put round a value in place
wrap_value : (t : ℕ) (m : List ℕ) (w : AWrap) (v : a.AVal) → small t m (wrap w v) ≡ wrap_small t w (small t m v)
wrap_value t m (Apply ts) v = refl
wrap_value t m (Pack h s) v = refl

wrap_code : (t : ℕ) (m : List ℕ) (w : AWrap) (v : a.AVal) (rest : TSeq) →
    unnest t m (wrap w v) rest ≡ unnest t m v (wrap_boxed t w (small t m v) rest)
wrap_code t m (Apply ts) v rest = refl
wrap_code t m (Pack h s) v rest = refl

pub small_next : (t : ℕ) (m : List ℕ) (v : a.AVal) (ws xs : List AWrap) → xs ≡ ws →
    (i : ℕ) (w : AWrap) (x y : TValue) → i < length xs → w ≡ get_or xs i w → x ≡ small t m (wrapped v (take i ws)) →
    y ≡ wrap_small t w x → y ≡ small t m (wrapped v (take (i + 1) ws))
small_next t m v ws xs same i w x y lt is h e =
    e ∙ ap (wrap_small t w) h
    ∙ sym (ap (small t m)
    (wrapped_more v ws i w (subst (λ ys. i < length ys) same lt) (is ∙ ap (λ ys. get_or ys i w) same))
    ∙ wrap_value t m w (wrapped v (take i ws)))

pub unnest_next : (t : ℕ) (m : List ℕ) (v : a.AVal) (ws xs : List AWrap) → xs ≡ ws →
    (i : ℕ) (w : AWrap) (x : TValue) (rest : TSeq) → i < length xs → w ≡ get_or xs i w →
    x ≡ small t m (wrapped v (take i ws)) → unnest t m (wrapped v (take i ws)) (wrap_boxed t w x rest)
    ≡ unnest t m (wrapped v (take (i + 1) ws)) rest
unnest_next t m v ws xs same i w x rest lt is h =
    ap (λ y. unnest t m (wrapped v (take i ws)) (wrap_boxed t w y rest)) h
    ∙ sym (ap (λ u. unnest t m u rest)
    (wrapped_more v ws i w (subst (λ ys. i < length ys) same lt) (is ∙ ap (λ ys. get_or ys i w) same))
    ∙ wrap_code t m w (wrapped v (take i ws)) rest)

-- a variable with nothing around it
pub bare_wrapped : (v : a.AVal) (w : AWrap) (ws : List AWrap) → None ≡ bare_var (wrapped v (w ∷ ws))
bare_wrapped v (Apply ts) [] = refl
bare_wrapped v (Pack h s) [] = refl
bare_wrapped v w (x ∷ ws) = bare_wrapped (wrap w v) x ws

pub bare_some_wraps : (v : a.AVal) (ws : List AWrap) → 0 < length ws → None ≡ bare_var (wrapped v ws)
bare_some_wraps v [] lt = absurd (omega arith)
bare_some_wraps v (w ∷ ws) lt = bare_wrapped v w ws

pub owner_none : (m : List ℕ) (v : a.AVal) (u : ℕ → Bool) (e : a.ATm) → None ≡ bare_var v → free m u e ≡ owner m v u e
owner_none m (a.Var n) u e x = cc
owner_none m (a.Num i) u e x = refl
owner_none m (a.Lab i) u e x = refl
owner_none m (a.Data i) u e x = refl
owner_none m (a.Apply v ts) u e x = refl
owner_none m (a.Pack h v s) u e x = refl

pub owner_var : (m : List ℕ) (n : ℕ) (v : a.AVal) (u : ℕ → Bool) (e : a.ATm) (both : Bool) → Some n ≡ bare_var v →
    both ≡ both_used v e → cond both (free m u e) (place m n) ≡ owner m v u e
owner_var m n (a.Var i) u e both x y =
    let z : n ≡ i = cc in ap (λ j. cond both (free m u e) (place m j)) z ∙ ap (λ b. cond b (free m u e) (place m i)) y
owner_var m n (a.Num i) u e both x y = cc
owner_var m n (a.Lab i) u e both x y = cc
owner_var m n (a.Data i) u e both x y = cc
owner_var m n (a.Apply v ts) u e both x y = cc
owner_var m n (a.Pack h v s) u e both x y = cc

-- what a value reads is what it begins with
reads_wrap : (r : ℕ) (m : List ℕ) (w : AWrap) (v : a.AVal) → reads r m (wrap w v) ≡ reads r m v
reads_wrap r m (Apply ts) v = refl
reads_wrap r m (Pack h s) v = refl

pub reads_base : (r : ℕ) (m : List ℕ) (v : a.AVal) (ws : List AWrap) → reads r m v ≡ reads r m (wrapped v ws)
reads_base r m v [] = refl
reads_base r m v (w ∷ ws) = sym (reads_wrap r m w v) ∙ reads_base r m (wrap w v) ws

-- what is read later
pub later_next : (r : ℕ) (m : List ℕ) (vs : List AValue) (c : a.AVal) (i : ℕ) (v : AValue) → i < length vs →
    v ≡ get_or vs i v →
    later r m (a_values (drop i vs)) c ≡ (reads r m (a_value v) || later r m (a_values (drop (i + 1) vs)) c)
later_next r m vs c i v lt is =
    ap (λ xs. later r m (a_values xs) c) (drop_more vs i v lt)
    ∙ ap (λ y. reads r m (a_value y) || later r m (a_values (drop (i + 1) vs)) c) (sym is)

pub later_end : (r : ℕ) (m : List ℕ) (vs : List AValue) (c : a.AVal) (i : ℕ) → length vs ≤ i →
    reads r m c ≡ later r m (a_values (drop i vs)) c
later_end r m [] c zero le = refl
later_end r m [] c (suc i) le = refl
later_end r m (v ∷ vs) c zero le = absurd (omega arith)
later_end r m (v ∷ vs) c (suc i) le = later_end r m vs c i (omega arith)

pub call_end : (j b : ℕ) (m : List ℕ) (vs : List AValue) (c : a.AVal) (ts : List Ty) (i : ℕ) → length vs ≤ i →
    call_code j b m [] c ts ≡ call_code j b m (a_values (drop i vs)) c ts
call_end j b m [] c ts zero le = refl
call_end j b m [] c ts (suc i) le = refl
call_end j b m (v ∷ vs) c ts zero le = absurd (omega arith)
call_end j b m (v ∷ vs) c ts (suc i) le = call_end j b m vs c ts i (omega arith)

pub call_first : (j b : ℕ) (m : List ℕ) (vs : List AValue) (c : a.AVal) (ts : List Ty) →
    call_code j b m (a_values (drop 1 vs)) c ts ≡ call_code j b m (others (a_values vs)) c ts
call_first j b m [] c ts = refl
call_first j b m (v ∷ vs) c ts = refl

-- one more register saved
pub saves_push : (xs : List (ℕ × ℕ)) (s : ℕ × ℕ) (m : List ℕ) →
    after_saves (xs ++ s ∷ []) m ≡ map (instead s.1 s.0) (after_saves xs m)
saves_push [] s m = refl
saves_push (x ∷ xs) s m = saves_push xs s (map (instead x.1 x.0) m)

-- what is put round the value of a data field
wrap_const : (w : AWrap) (v : a.AVal) → constant (wrap w v) ≡ wrap_constant w (constant v)
wrap_const (Apply ts) v = refl
wrap_const (Pack h s) v = refl

pub const_next_of : (v : a.AVal) (ws xs : List AWrap) → xs ≡ ws → (i : ℕ) (w : AWrap) (u r : TValue) → i < length xs →
    w ≡ get_or xs i w → u ≡ constant (wrapped v (take i ws)) → r ≡ wrap_constant w u →
    r ≡ constant (wrapped v (take (i + 1) ws))
const_next_of v ws xs same i w u r lt is h e =
    e ∙ ap (wrap_constant w) h
    ∙ sym (ap constant
    (wrapped_more v ws i w (subst (λ ys. i < length ys) same lt) (is ∙ ap (λ ys. get_or ys i w) same))
    ∙ wrap_const w (wrapped v (take i ws)))
