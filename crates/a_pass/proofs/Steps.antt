-- One more part of a value, on the side of the trees.
use Rattle.std.proofs.Common.{◌≡◌, ◌⊎◌, inl, inr, ℕ, zero, suc, ◌+◌, ◌-◌, List, [], ◌∷◌, ◌++◌, Option, Some}
use Rattle.std.proofs.Common.{None, Bool, true, false, refl, sym, ap, ap₂, ◌∙◌, subst, append_assoc, length, arith}
use Rattle.std.proofs.Common.{map, take, drop}
use Rattle.std.specs.Prelude.{◌&&◌, not, slice_get}
use Rattle.std.proofs.lemmas.List.{take-map, drop-map, length-append, take-append-drop, append-nil, length-map}
use Rattle.std.proofs.lemmas.List.{map_push, same_from_push}
use Rattle.h_terms.specs.H.{HVal, HVar, HInt, HLabel, HTuple, HApply, HPack, HBlks}
use Rattle.a_terms.specs.Meaning.{pick}
use Rattle.a_terms.specs.Tree as a
use Rattle.a_laws.specs.Allocate.{Known, all_closed, are_const, atype, atypes, closed, const_of, data_v, data_vs}
use Rattle.a_laws.specs.Allocate.{datum_of, fill, final, is_const, is_label, is_pack, is_some, level_of, n_v, n_vs}
use Rattle.a_laws.specs.Allocate.{named, one_more, or_zero, packs, pre_v, pre_vs, v_next, v_type, v_types, val, vals}
use Rattle.a_laws.specs.Allocate.{var_of, vs_next}
use Rattle.a_laws.proofs.Data.{label_const}
use Rattle.h_terms.specs.Nodes.{tied, at_last, tupled, more}
use Rattle.h_terms.specs.declared.node.HPart.{HPart}
use Rattle.c_terms.specs.C.{CTy, CTys}
use Rattle.a_terms.specs.NodeTrees.{a_consts, a_data}
use Rattle.a_terms.specs.declared.nodes.AValue.{AValue}
use Rattle.a_terms.specs.declared.nodes.AData.{AData}
use Rattle.a_terms.specs.declared.nodes.ANode.{ANode}
use Rattle.a_terms.specs.Typing.{aset, data_fields}
use Rattle.a_pass.specs.declared.state.Seen.{Seen}
use Rattle.a_pass.specs.Scope.{all_constants, constant, constant_in, constants, field_at, is_bare, of_apply, of_pack}
use Rattle.a_pass.specs.Scope.{type_in, types_in, value_at}
use Rattle.a_pass.specs.Emits.{Emits, Keeps, inits, Made, Reads}
use Rattle.a_pass.proofs.Emitting.{emits_then, emits_same}
use Rattle.std.proofs.lemmas.Bool.{and_parts as both_true}
use Rattle.h_terms.proofs.Parts.{at_last_push}

-- what comes after some values
next_more : (ls : List Known) (d : ℕ) (us ws : List HVal) →
    vs_next ls d (tied (us ++ ws)) ≡ vs_next ls (vs_next ls d (tied us)) (tied ws)
next_more ls d [] ws = refl
next_more ls d (u ∷ us) ws = next_more ls (v_next ls d u) us ws

n_more : (ls : List Known) (b : ℕ) (us ws : List HVal) →
    n_vs ls b (tied (us ++ ws)) ≡ n_vs ls (n_vs ls b (tied us)) (tied ws)
n_more ls b [] ws = refl
n_more ls b (u ∷ us) ws = n_more ls (n_v ls b u) us ws

vals_more : (ls : List Known) (b d e : ℕ) (us ws : List HVal) →
    vals ls b d e (tied (us ++ ws)) ≡ vals ls b d e (tied us)
    ++ vals ls (n_vs ls b (tied us)) (vs_next ls d (tied us)) e (tied ws)
vals_more ls b d e [] ws = refl
vals_more ls b d e (u ∷ us) ws = ap (λ xs. val ls b d e u ∷ xs) (vals_more ls (n_v ls b u) (v_next ls d u) e us ws)

consts_more : (ls : List Known) (b : ℕ) (us ws : List HVal) →
    constants ls b (us ++ ws) ≡ constants ls b us ++ constants ls (n_vs ls b (tied us)) ws
consts_more ls b [] ws = refl
consts_more ls b (u ∷ us) ws = ap (λ xs. constant ls b u ∷ xs) (consts_more ls (n_v ls b u) us ws)

pre_more : (ks : HBlks) (g : List a.ATy) (ls : List Known) (b d : ℕ) (us ws : List HVal) (r : a.ATm) →
    pre_vs ks g ls b d (tied (us ++ ws)) r
    ≡ pre_vs ks g ls b d (tied us) (pre_vs ks g ls (n_vs ls b (tied us)) (vs_next ls d (tied us)) (tied ws) r)
pre_more ks g ls b d [] ws r = refl
pre_more ks g ls b d (u ∷ us) ws r = ap (pre_v ks g ls b d u) (pre_more ks g ls (n_v ls b u) (v_next ls d u) us ws r)

data_more : (ks : HBlks) (g : List a.ATy) (ls : List Known) (b : ℕ) (us ws : List HVal) →
    data_vs ks g ls b (tied (us ++ ws)) ≡ data_vs ks g ls b (tied us)
    ++ data_vs ks g ls (n_vs ls b (tied us)) (tied ws)
data_more ks g ls b [] ws = refl
data_more ks g ls b (u ∷ us) ws =
    ap (λ xs. data_v ks g ls b u ++ xs) (data_more ks g ls (n_v ls b u) us ws)
    ∙ sym (append_assoc (data_v ks g ls b u) (data_vs ks g ls (n_v ls b u) (tied us))
    (data_vs ks g ls (n_vs ls (n_v ls b u) (tied us)) (tied ws)))

pub made_leaf : (ks : HBlks) (g : List a.ATy) (ls : List Known) (v : HVal) (vs : List AValue) (ts : List Seen) (m : ℕ)
    (now : List ANode) (tuples : List AData) (x : AValue) (t : Seen) →
    ((d : ℕ) → v_next ls d v ≡ d) → ((b : ℕ) → n_v ls b v ≡ b) → ((b : ℕ) → data_v ks g ls b v ≡ []) →
    ((b d : ℕ) (r : a.ATm) → pre_v ks g ls b d v r ≡ r) →
    ((b d e : ℕ) → value_at e x ≡ val ls b d e v) → type_in g t ≡ v_type ks g v →
    ((b : ℕ) → constant_in ls t ≡ constant ls b v) →
    Reads ks g ls (λ us. us ++ v ∷ []) vs ts m now tuples (vs ++ x ∷ []) (ts ++ t ∷ []) m now tuples
made_leaf ks g ls v vs ts m now tuples x t same number nothing none value ty const b d us begin kept made =
    let b1 = n_vs ls b (tied us) in
    let d1 = vs_next ls d (tied us) in
    record {
      values = λ e. map_push (value_at e) vs x ∙ ap₂ (λ ys y. ys ++ y ∷ []) (made.values e) (value b1 d1 e)
          ∙ sym (vals_more ls b d e us (v ∷ []));
      types = map_push (type_in g) ts t ∙ ap₂ (λ ys y. ys ++ y ∷ []) made.types ty ∙ sym (map_push (v_type ks g) us v);
      consts = map_push (constant_in ls) ts t ∙ ap₂ (λ ys y. ys ++ y ∷ []) made.consts (const b1)
          ∙ sym (consts_more ls b us (v ∷ []));
      depth = made.depth ∙ sym (next_more ls d us (v ∷ []) ∙ same d1);
      number = made.number ∙ sym (n_more ls b us (v ∷ []) ∙ number b1);
      emits = emits_same begin now _ _
          (λ r. sym (pre_more ks g ls b d us (v ∷ []) r ∙ ap (pre_vs ks g ls b d (tied us)) (none b1 d1 r)))
          made.emits;
      keeps = made.keeps
          ∙ ap (λ zs. a_data kept ++ zs)
          (sym (data_more ks g ls b us (v ∷ []) ∙ ap (λ zs. data_vs ks g ls b (tied us) ++ (zs ++ [])) (nothing b1)
          ∙ append-nil (data_vs ks g ls b (tied us))));
    }

-- the last one, if there is one
last_or : {X : Type 0} (xs : List X) → (xs ≡ []) ⊎ ((ys : List X) × (y : X) × (xs ≡ ys ++ y ∷ []))
last_or [] = inl refl
last_or (x ∷ xs) =
    elim (last_or xs) [ inl e ↦ inr ([], x, ap (λ ys. x ∷ ys) e) | inr h ↦ inr (x ∷ h.0, h.1, ap (λ ys. x ∷ ys) h.2) ]

nonempty : {X : Type 0} (xs : List X) (x : X) → xs ++ x ∷ [] ≡ [] → ⊥
nonempty xs x h = omega (arith, ap length h, length-append xs (x ∷ []))

-- the newest value is changed
module _ (ks : HBlks) (g : List a.ATy) (ls : List Known) (h : HVal → HVal) (W : a.AVal → a.AVal) (T : a.ATy → a.ATy)
    (K : a.AVal → Option a.AVal → Option a.AVal)
    (next : (d : ℕ) (v : HVal) → v_next ls d (h v) ≡ v_next ls d v)
    (number : (b : ℕ) (v : HVal) → n_v ls b (h v) ≡ n_v ls b v)
    (keep : (b : ℕ) (v : HVal) → data_v ks g ls b (h v) ≡ data_v ks g ls b v)
    (pre : (b d : ℕ) (v : HVal) (r : a.ATm) → pre_v ks g ls b d (h v) r ≡ pre_v ks g ls b d v r)
    (value : (b d e : ℕ) (v : HVal) → val ls b d e (h v) ≡ W (val ls b d e v))
    (type : (v : HVal) → v_type ks g (h v) ≡ T (v_type ks g v))
    (const : (b d : ℕ) (v : HVal) → constant ls b (h v) ≡ K (val ls b d 0 v) (constant ls b v)) where
  wrap_last : (vs : List AValue) (ts : List Seen) (m : ℕ) (now : List ANode) (tuples : List AData) (x y : AValue)
      (t u : Seen) →
      ((e : ℕ) → value_at e y ≡ W (value_at e x)) → type_in g u ≡ T (type_in g t) →
      constant_in ls u ≡ K (value_at 0 x) (constant_in ls t) →
      (b d : ℕ) (us : List HVal) (v : HVal) (begin : List ANode) (kept : List AData) →
      Made ks g ls b d (us ++ v ∷ []) begin kept (vs ++ x ∷ []) (ts ++ t ∷ []) m now tuples →
      Made ks g ls b d (us ++ h v ∷ []) begin kept (vs ++ y ∷ []) (ts ++ u ∷ []) m now tuples
  wrap_last vs ts m now tuples x y t u vy tu cu b d us v begin kept made =
      let b1 = n_vs ls b (tied us) in
      let d1 = vs_next ls d (tied us) in
      let seen : (e : ℕ) → (map (value_at e) vs ≡ vals ls b d e (tied us)) × (value_at e x ≡ val ls b1 d1 e v) =
      λ e. same_from_push _ _ _ _ (sym (map_push (value_at e) vs x) ∙ made.values e ∙ vals_more ls b d e us (v ∷ [])) in
      record {
        values = λ e. map_push (value_at e) vs y
            ∙ ap₂ (λ ys z. ys ++ z ∷ []) (seen e).0 (vy e ∙ ap W (seen e).1 ∙ sym (value b1 d1 e v))
            ∙ sym (vals_more ls b d e us (h v ∷ []));
        types =
            let both =
            same_from_push _ _ _ _ (sym (map_push (type_in g) ts t) ∙ made.types ∙ map_push (v_type ks g) us v) in
            map_push (type_in g) ts u ∙ ap₂ (λ ys z. ys ++ z ∷ []) both.0 (tu ∙ ap T both.1 ∙ sym (type v))
            ∙ sym (map_push (v_type ks g) us (h v));
        consts =
            let both = same_from_push _ _ _ _ (sym (map_push (constant_in ls) ts t) ∙ made.consts ∙ consts_more ls b us
            (v ∷ [])) in
            map_push (constant_in ls) ts u
            ∙ ap₂ (λ ys z. ys ++ z ∷ []) both.0 (cu ∙ ap₂ K (seen 0).1 both.1 ∙ sym (const b1 d1 v))
            ∙ sym (consts_more ls b us (h v ∷ []));
        depth = made.depth ∙ next_more ls d us (v ∷ []) ∙ sym (next d1 v) ∙ sym (next_more ls d us (h v ∷ []));
        number = made.number ∙ n_more ls b us (v ∷ []) ∙ sym (number b1 v) ∙ sym (n_more ls b us (h v ∷ []));
        emits = emits_same begin now _ _
            (λ r. pre_more ks g ls b d us (v ∷ []) r ∙ ap (pre_vs ks g ls b d (tied us)) (sym (pre b1 d1 v r))
            ∙ sym (pre_more ks g ls b d us (h v ∷ []) r)) made.emits;
        keeps = made.keeps
            ∙ ap (λ zs. a_data kept ++ zs)
            (data_more ks g ls b us (v ∷ []) ∙ ap (λ zs. data_vs ks g ls b (tied us) ++ (zs ++ [])) (sym (keep b1 v))
            ∙ sym (data_more ks g ls b us (h v ∷ [])));
      }

  made_wrap : (vs : List AValue) (ts : List Seen) (m : ℕ) (now : List ANode) (tuples : List AData) (x y : AValue)
      (t u : Seen) →
      ((e : ℕ) → value_at e y ≡ W (value_at e x)) → type_in g u ≡ T (type_in g t) →
      constant_in ls u ≡ K (value_at 0 x) (constant_in ls t) →
      Reads ks g ls (at_last h) (vs ++ x ∷ []) (ts ++ t ∷ []) m now tuples (vs ++ y ∷ []) (ts ++ u ∷ []) m now tuples
  made_wrap vs ts m now tuples x y t u vy tu cu b d us begin kept made =
      elim (last_or us) [
        | inl e ↦ absurd
            (nonempty (map (value_at 0) vs) (value_at 0 x)
            (sym (map_push (value_at 0) vs x) ∙ made.values 0 ∙ ap (λ xs. vals ls b d 0 (tied xs)) e))
        | inr k ↦ subst (λ xs. Made ks g ls b d xs begin kept (vs ++ y ∷ []) (ts ++ u ∷ []) m now tuples)
            (sym (ap (at_last h) k.2 ∙ at_last_push h k.0 k.1))
            (wrap_last vs ts m now tuples x y t u vy tu cu b d k.0 k.1 begin kept
            (subst (λ xs. Made ks g ls b d xs begin kept (vs ++ x ∷ []) (ts ++ t ∷ []) m now tuples) k.2 made))
      ]

  pub reads_wrap : (old new vs : List AValue) (told tnew ts : List Seen) (m : ℕ) (now : List ANode)
      (tuples : List AData) (x y : AValue) (t u : Seen) →
      old ≡ vs ++ x ∷ [] → new ≡ vs ++ y ∷ [] → told ≡ ts ++ t ∷ [] → tnew ≡ ts ++ u ∷ [] →
      ((e : ℕ) → value_at e y ≡ W (value_at e x)) → type_in g u ≡ T (type_in g t) →
      constant_in ls u ≡ K (value_at 0 x) (constant_in ls t) →
      Reads ks g ls (at_last h) old told m now tuples new tnew m now tuples
  reads_wrap old new vs told tnew ts m now tuples x y t u o n to tn vy tu cu b d us begin kept made =
      subst (λ ws. Made ks g ls b d (at_last h us) begin kept ws tnew m now tuples) (sym n)
      (subst (λ us2. Made ks g ls b d (at_last h us) begin kept (vs ++ y ∷ []) us2 m now tuples) (sym tn)
      (made_wrap vs ts m now tuples x y t u vy tu cu b d us begin kept
      (subst (λ ws. Made ks g ls b d us begin kept ws (ts ++ t ∷ []) m now tuples) o
      (subst (λ us2. Made ks g ls b d us begin kept old us2 m now tuples) to made))))

-- which values are constants once they are applied or packed
bare_var : (d : ℕ) (o : Option ℕ) → is_bare (var_of d o) ≡ false
bare_var d None = refl
bare_var d (Some l) = refl

bare_tuple : (q : Bool) (n m : ℕ) → is_bare (pick q (a.Data n) (a.Var m)) ≡ false
bare_tuple true n m = refl
bare_tuple false n m = refl

label_is : (ls : List Known) (b d e : ℕ) (v : HVal) → is_bare (val ls b d e v) ≡ is_label v
label_is ls b d e (HVar i) = bare_var e (level_of (slice_get ls i))
label_is ls b d e (HInt n) = refl
label_is ls b d e (HLabel l) = refl
label_is ls b d e (HTuple vs) = bare_tuple (are_const ls vs) (n_vs ls b vs) (e - suc (final (vs_next ls d vs) vs))
label_is ls b d e (HApply v ts) = refl
label_is ls b d e (HPack h v s) = refl

pick_same : (q : Bool) (x y : a.AVal) → (q ≡ true → x ≡ y) → pick q (Some x) None ≡ pick q (Some y) None
pick_same true x y f = ap Some (f refl)
pick_same false x y f = refl

first_true : (p q : Bool) → p && q ≡ true → p ≡ true
first_true true q e = refl
first_true false q e = e

label_value : (ls : List Known) (b d : ℕ) (v : HVal) → is_label v ≡ true → const_of ls b v ≡ val ls b d 0 v
label_value ls b d (HVar i) e = cc
label_value ls b d (HInt n) e = cc
label_value ls b d (HLabel l) e = refl
label_value ls b d (HTuple vs) e = cc
label_value ls b d (HApply v ts) e = cc
label_value ls b d (HPack h v s) e = cc

pub apply_const : (ls : List Known) (ts : CTys) (b d : ℕ) (v : HVal) →
    constant ls b (HApply v ts) ≡ of_apply (atypes ts) (val ls b d 0 v)
apply_const ls ts b d v =
    pick_same (is_label v && all_closed 0 (atypes ts)) (a.Apply (const_of ls b v) (atypes ts))
    (a.Apply (val ls b d 0 v) (atypes ts))
    (λ e. ap (λ x. a.Apply x (atypes ts)) (label_value ls b d v (first_true (is_label v) (all_closed 0 (atypes ts)) e)))
    ∙ ap (λ q. pick (q && all_closed 0 (atypes ts)) (Some (a.Apply (val ls b d 0 v) (atypes ts))) None)
    (sym (label_is ls b d 0 v))

packs_is : (ls : List Known) (b : ℕ) (v : HVal) → is_const ls v ≡ true → packs ls v ≡ is_pack (const_of ls b v)
packs_is ls b (HVar i) c = refl
packs_is ls b (HInt n) c = refl
packs_is ls b (HLabel l) c = refl
packs_is ls b (HTuple vs) c = refl
packs_is ls b (HApply v ts) c = sym (ap is_pack (label_value ls b 0 v l) ∙ go v l)
  where
    l : is_label v ≡ true
    l = first_true (is_label v) (all_closed 0 (atypes ts)) c

    go : (w : HVal) → is_label w ≡ true → is_pack (val ls b 0 0 w) ≡ false
    go (HVar i) e = cc
    go (HInt n) e = cc
    go (HLabel k) e = refl
    go (HTuple vs) e = cc
    go (HApply x us) e = cc
    go (HPack h x s) e = cc
packs_is ls b (HPack h v s) c = refl

pub pack_const : (ls : List Known) (h s : CTy) (b : ℕ) (v : HVal) →
    constant ls b (HPack h v s) ≡ of_pack (atype h) (atype s) (constant ls b v)
pack_const ls h s b v = go (is_const ls v) refl
  where
    tests : Bool
    tests = closed 0 (atype h) && closed 0 (atype s)

    go : (q : Bool) → is_const ls v ≡ q → constant ls b (HPack h v s) ≡ of_pack (atype h) (atype s) (constant ls b v)
    go true e =
        ap (λ q. pick (q && (not (packs ls v) && (closed 0 (atype h) && closed 0 (atype s))))
        (Some (a.Pack (atype h) (const_of ls b v) (atype s))) None) e
        ∙ ap (λ q. pick (not q && (closed 0 (atype h) && closed 0 (atype s)))
        (Some (a.Pack (atype h) (const_of ls b v) (atype s))) None) (packs_is ls b v e)
        ∙ sym (ap (λ q. of_pack (atype h) (atype s) (pick q (Some (const_of ls b v)) None)) e)
    go false e =
        ap (λ q. pick (q && (not (packs ls v) && (closed 0 (atype h) && closed 0 (atype s))))
        (Some (a.Pack (atype h) (const_of ls b v) (atype s))) None) e
        ∙ sym (ap (λ q. of_pack (atype h) (atype s) (pick q (Some (const_of ls b v)) None)) e)

known_or : (o : Option a.AVal) → o ≡ pick (is_some o) (Some (or_zero o)) None
known_or None = refl
known_or (Some c) = refl

pub var_const : (ls : List Known) (i b : ℕ) → named (slice_get ls i) ≡ constant ls b (HVar i)
var_const ls i b = known_or (named (slice_get ls i))

-- the newest values become a tuple
len_vals : (ls : List Known) (b d e : ℕ) (us : List HVal) → length (vals ls b d e (tied us)) ≡ length us
len_vals ls b d e [] = refl
len_vals ls b d e (u ∷ us) = ap suc (len_vals ls (n_v ls b u) (v_next ls d u) e us)

vals_take : (ls : List Known) (b d e : ℕ) (k : ℕ) (us : List HVal) →
    take k (vals ls b d e (tied us)) ≡ vals ls b d e (tied (take k us))
vals_take ls b d e zero us = refl
vals_take ls b d e (suc k) [] = refl
vals_take ls b d e (suc k) (u ∷ us) = ap (λ xs. val ls b d e u ∷ xs) (vals_take ls (n_v ls b u) (v_next ls d u) e k us)

vals_drop : (ls : List Known) (b d e : ℕ) (k : ℕ) (us : List HVal) →
    drop k (vals ls b d e (tied us)) ≡ vals ls (n_vs ls b (tied (take k us))) (vs_next ls d (tied (take k us))) e
    (tied (drop k us))
vals_drop ls b d e zero us = refl
vals_drop ls b d e (suc k) [] = refl
vals_drop ls b d e (suc k) (u ∷ us) = vals_drop ls (n_v ls b u) (v_next ls d u) e k us

consts_take : (ls : List Known) (b : ℕ) (k : ℕ) (us : List HVal) →
    take k (constants ls b us) ≡ constants ls b (take k us)
consts_take ls b zero us = refl
consts_take ls b (suc k) [] = refl
consts_take ls b (suc k) (u ∷ us) = ap (λ xs. constant ls b u ∷ xs) (consts_take ls (n_v ls b u) k us)

consts_drop : (ls : List Known) (b : ℕ) (k : ℕ) (us : List HVal) →
    drop k (constants ls b us) ≡ constants ls (n_vs ls b (tied (take k us))) (drop k us)
consts_drop ls b zero us = refl
consts_drop ls b (suc k) [] = refl
consts_drop ls b (suc k) (u ∷ us) = consts_drop ls (n_v ls b u) k us

final_is : (l : ℕ) (us : List HVal) → final l (tied us) ≡ l + length us
final_is l [] = omega arith
final_is l (u ∷ us) = final_is (suc l) us ∙ omega arith

types_are : (ks : HBlks) (g : List a.ATy) (ts : List Seen) (us : List HVal) →
    map (type_in g) ts ≡ map (v_type ks g) us → types_in g ts ≡ v_types ks g (tied us)
types_are ks g [] [] h = refl
types_are ks g [] (u ∷ us) h = absurd (omega (arith, ap length h))
types_are ks g (t ∷ ts) [] h = absurd (omega (arith, ap length h))
types_are ks g (t ∷ ts) (u ∷ us) h = ap₂ a.MoreATys (cc h) (types_are ks g ts us (cc h))

fill_is : (ls : List Known) (b d l i : ℕ) (vs : List AValue) (us : List HVal) (r : a.ATm) →
    ((e : ℕ) → map (value_at e) vs ≡ vals ls b d e (tied us)) → inits l i vs r ≡ fill ls b d l i (tied us) r
fill_is ls b d l i [] [] r h = refl
fill_is ls b d l i [] (u ∷ us) r h = absurd (omega (arith, ap length (h 0)))
fill_is ls b d l i (v ∷ vs) [] r h = absurd (omega (arith, ap length (h 0)))
fill_is ls b d l i (v ∷ vs) (u ∷ us) r h =
    let one : value_at (suc l) v ≡ val ls b d (suc l) u = let e = h (suc l) in cc e in
    let rest : (e : ℕ) → map (value_at e) vs ≡ vals ls (n_v ls b u) (v_next ls d u) e (tied us) =
    λ e. let q = h e in cc q in
    ap₂ (λ x y. a.Let (a.Init (a.Var 0) i x) y) one
    (fill_is ls (n_v ls b u) (v_next ls d u) (suc l) (suc i) vs us r rest)

some_pick : (q : Bool) (x : a.AVal) → is_some (pick q (Some x) None) ≡ q
some_pick true x = refl
some_pick false x = refl

all_are : (ls : List Known) (b : ℕ) (ts : List Seen) (us : List HVal) → map (constant_in ls) ts ≡ constants ls b us →
    all_constants ls ts ≡ are_const ls (tied us)
all_are ls b [] [] h = refl
all_are ls b [] (u ∷ us) h = absurd (omega (arith, ap length h))
all_are ls b (t ∷ ts) [] h = absurd (omega (arith, ap length h))
all_are ls b (t ∷ ts) (u ∷ us) h =
    let one : constant_in ls t ≡ constant ls b u = cc h in
    ap₂ (λ p q. p && q) (ap is_some one ∙ some_pick (is_const ls u) (const_of ls b u))
    (all_are ls (n_v ls b u) ts us (cc h))

fields_are : (ks : HBlks) (g : List a.ATy) (ls : List Known) (b : ℕ) (ts : List Seen) (us : List HVal) →
    map (type_in g) ts ≡ map (v_type ks g) us → map (constant_in ls) ts ≡ constants ls b us →
    are_const ls (tied us) ≡ true →
    map (field_at g ls) ts ≡ datum_of ks g ls b (tied us)
fields_are ks g ls b [] [] h k c = refl
fields_are ks g ls b [] (u ∷ us) h k c = absurd (omega (arith, ap length h))
fields_are ks g ls b (t ∷ ts) [] h k c = absurd (omega (arith, ap length h))
fields_are ks g ls b (t ∷ ts) (u ∷ us) h k c =
    let c2 = both_true (is_const ls u) (are_const ls (tied us)) c in
    let one : constant_in ls t ≡ constant ls b u = cc k in
    let kind : type_in g t ≡ v_type ks g u = cc h in
    let value : or_zero (constant_in ls t) ≡ const_of ls b u =
    ap or_zero one ∙ ap (λ q. or_zero (pick q (Some (const_of ls b u)) None)) c2.0 in
    ap₂ (λ x xs. x ∷ xs) (ap₂ (λ x y. (let q : a.AConst = record { value = x; kind = y } in q)) value kind)
    (fields_are ks g ls (n_v ls b u) ts us (cc h) (cc k) c2.1)

data_set : (ks : HBlks) (g : List a.ATy) (ls : List Known) (b : ℕ) (us : List HVal) →
    data_fields (datum_of ks g ls b (tied us)) ≡ aset (v_types ks g (tied us))
data_set ks g ls b [] = refl
data_set ks g ls b (u ∷ us) = ap (a.MoreAFields (v_type ks g u) true) (data_set ks g ls (n_v ls b u) us)

-- constants are made of data alone
mutual
  const_next : (ls : List Known) (v : HVal) (d : ℕ) → is_const ls v ≡ true → v_next ls d v ≡ d
  const_next ls (HVar i) d c = refl
  const_next ls (HInt n) d c = refl
  const_next ls (HLabel l) d c = refl
  const_next ls (HTuple vs) d c = ap (λ q. pick q d (suc (final (vs_next ls d vs) vs))) c
  const_next ls (HApply v ts) d c =
      const_next ls v d (label_const ls v (first_true (is_label v) (all_closed 0 (atypes ts)) c))
  const_next ls (HPack h v s) d c =
      const_next ls v d (first_true (is_const ls v) (not (packs ls v) && (closed 0 (atype h) && closed 0 (atype s))) c)

const_pre : (ks : HBlks) (g : List a.ATy) (ls : List Known) (v : HVal) (b d : ℕ) (r : a.ATm) → is_const ls v ≡ true →
    pre_v ks g ls b d v r ≡ r
const_pre ks g ls (HVar i) b d r c = refl
const_pre ks g ls (HInt n) b d r c = refl
const_pre ks g ls (HLabel l) b d r c = refl
const_pre ks g ls (HTuple vs) b d r c =
    ap (λ q. pick q r
    (pre_vs ks g ls b d vs (a.Let (a.Malloc (v_types ks g vs)) (fill ls b d (vs_next ls d vs) 1 vs r)))) c
const_pre ks g ls (HApply v ts) b d r c =
    const_pre ks g ls v b d r (label_const ls v (first_true (is_label v) (all_closed 0 (atypes ts)) c))
const_pre ks g ls (HPack h v s) b d r c =
    const_pre ks g ls v b d r
    (first_true (is_const ls v) (not (packs ls v) && (closed 0 (atype h) && closed 0 (atype s))) c)

consts_next : (ls : List Known) (us : List HVal) (d : ℕ) → are_const ls (tied us) ≡ true → vs_next ls d (tied us) ≡ d
consts_next ls [] d c = refl
consts_next ls (u ∷ us) d c =
    let c2 = both_true (is_const ls u) (are_const ls (tied us)) c in
    ap (λ n. vs_next ls n (tied us)) (const_next ls u d c2.0) ∙ consts_next ls us d c2.1

consts_pre : (ks : HBlks) (g : List a.ATy) (ls : List Known) (us : List HVal) (b d : ℕ) (r : a.ATm) →
    are_const ls (tied us) ≡ true → pre_vs ks g ls b d (tied us) r ≡ r
consts_pre ks g ls [] b d r c = refl
consts_pre ks g ls (u ∷ us) b d r c =
    let c2 = both_true (is_const ls u) (are_const ls (tied us)) c in
    const_pre ks g ls u b d (pre_vs ks g ls (n_v ls b u) (v_next ls d u) (tied us) r) c2.0
    ∙ consts_pre ks g ls us (n_v ls b u) (v_next ls d u) r c2.1

data_push : (xs : List AData) (x : AData) → a_data (xs ++ x ∷ []) ≡ a_data xs ++ a_consts x.fields.items ∷ []
data_push [] x = refl
data_push (y ∷ xs) x = ap (λ zs. a_consts y.fields.items ∷ zs) (data_push xs x)

pub even : (ks : HBlks) (g : List a.ATy) (ls : List Known) (b d : ℕ) (us : List HVal) (begin : List ANode)
    (kept : List AData) (vs : List AValue) (ts : List Seen) (m : ℕ) (now : List ANode) (tuples : List AData) →
    Made ks g ls b d us begin kept vs ts m now tuples → length vs ≡ length us
even ks g ls b d us begin kept vs ts m now tuples made =
    sym (length-map vs (value_at 0)) ∙ ap length (made.values 0) ∙ len_vals ls b d 0 us

module _ (ks : HBlks) (g : List a.ATy) (ls : List Known) where
  -- the parts that a tuple takes, and what stands before it
  module _ (k : ℕ) (vs : List AValue) (ts : List Seen) (m : ℕ) (now : List ANode) (tuples : List AData) (b d : ℕ)
      (us : List HVal) (begin : List ANode) (kept : List AData)
      (made : Made ks g ls b d us begin kept vs ts m now tuples) where
    abbrev start : List HVal
    start = take k us

    abbrev inside : List HVal
    inside = drop k us

    abbrev b0 : ℕ
    b0 = n_vs ls b (tied start)

    abbrev d0 : ℕ
    d0 = vs_next ls d (tied start)

    both : start ++ inside ≡ us
    both = take-append-drop k us

    inner : (e : ℕ) → map (value_at e) (drop k vs) ≡ vals ls b0 d0 e (tied inside)
    inner e = sym (drop-map (value_at e) k vs) ∙ ap (drop k) (made.values e) ∙ vals_drop ls b d e k us

    fronts : (e : ℕ) → map (value_at e) (take k vs) ≡ vals ls b d e (tied start)
    fronts e = sym (take-map (value_at e) k vs) ∙ ap (take k) (made.values e) ∙ vals_take ls b d e k us

    kinds : map (type_in g) (drop k ts) ≡ map (v_type ks g) inside
    kinds = sym (drop-map (type_in g) k ts) ∙ ap (drop k) made.types ∙ drop-map (v_type ks g) k us

    front_kinds : map (type_in g) (take k ts) ≡ map (v_type ks g) start
    front_kinds = sym (take-map (type_in g) k ts) ∙ ap (take k) made.types ∙ take-map (v_type ks g) k us

    consts : map (constant_in ls) (drop k ts) ≡ constants ls b0 inside
    consts = sym (drop-map (constant_in ls) k ts) ∙ ap (drop k) made.consts ∙ consts_drop ls b k us

    front_consts : map (constant_in ls) (take k ts) ≡ constants ls b start
    front_consts = sym (take-map (constant_in ls) k ts) ∙ ap (take k) made.consts ∙ consts_take ls b k us

    m_is : m ≡ vs_next ls d0 (tied inside)
    m_is = made.depth ∙ ap (λ xs. vs_next ls d (tied xs)) (sym both) ∙ next_more ls d start inside

    number_is : length tuples ≡ n_vs ls b0 (tied inside)
    number_is = made.number ∙ ap (λ xs. n_vs ls b (tied xs)) (sym both) ∙ n_more ls b start inside

    keeps_is : a_data tuples ≡ a_data kept ++ (data_vs ks g ls b (tied start) ++ data_vs ks g ls b0 (tied inside))
    keeps_is = made.keeps
        ∙ ap (λ zs. a_data kept ++ zs)
        (ap (λ xs. data_vs ks g ls b (tied xs)) (sym both) ∙ data_more ks g ls b start inside)

    all_is : all_constants ls (drop k ts) ≡ are_const ls (tied inside)
    all_is = all_are ls b0 (drop k ts) inside consts

    -- a tuple of constants
    pub constant_at : (new : List AData) (x : AValue) (t : Seen) → all_constants ls (drop k ts) ≡ true →
        Keeps g ls (drop k ts) tuples new → ((e : ℕ) → value_at e x ≡ a.Data (length tuples)) →
        constant_in ls t ≡ Some (a.Data (length tuples)) →
        type_in g t ≡ a.ATuple (data_fields (map (field_at g ls) (drop k ts))) →
        Made ks g ls b d (start ++ HTuple (tied inside) ∷ []) begin kept (take k vs ++ x ∷ []) (take k ts ++ t ∷ []) m
        now new
    constant_at new x t sure keeps value const type =
        let c : are_const ls (tied inside) ≡ true = sym all_is ∙ sure in
        let fields = fields_are ks g ls b0 (drop k ts) inside kinds consts c in
        let whole = HTuple (tied inside) in
        record {
          values = λ e. map_push (value_at e) (take k vs) x
              ∙ ap₂ (λ ys y. ys ++ y ∷ []) (fronts e)
              (value e ∙ ap a.Data number_is
              ∙ sym (ap (λ q. pick q (a.Data (n_vs ls b0 (tied inside)))
              (a.Var (e - suc (final (vs_next ls d0 (tied inside)) (tied inside))))) c))
              ∙ sym (vals_more ls b d e start (whole ∷ []));
          types = map_push (type_in g) (take k ts) t
              ∙ ap₂ (λ ys y. ys ++ y ∷ []) front_kinds
              (type ∙ ap a.ATuple (ap data_fields fields ∙ data_set ks g ls b0 inside))
              ∙ sym (map_push (v_type ks g) start whole);
          consts = map_push (constant_in ls) (take k ts) t
              ∙ ap₂ (λ ys y. ys ++ y ∷ []) front_consts
              (const ∙ ap (λ n. Some (a.Data n)) number_is
              ∙ sym (ap (λ q. pick q (Some (a.Data (n_vs ls b0 (tied inside)))) None) c))
              ∙ sym (consts_more ls b start (whole ∷ []));
          depth = m_is ∙ consts_next ls inside d0 c
              ∙ sym (next_more ls d start (whole ∷ [])
              ∙ ap (λ q. pick q d0 (suc (final (vs_next ls d0 (tied inside)) (tied inside)))) c);
          number = (let more = length-append tuples (keeps.tuple ∷ []) in
              let long : length new ≡ suc (n_vs ls b0 (tied inside)) =
              ap length keeps.is ∙ omega (arith, more, number_is) in
              long ∙ sym (n_more ls b start (whole ∷ []) ∙ ap (λ q. one_more q (n_vs ls b0 (tied inside))) c));
          emits = emits_same begin now _ _
              (λ r. ap (λ xs. pre_vs ks g ls b d (tied xs) r) (sym both) ∙ pre_more ks g ls b d start inside r
              ∙ ap (pre_vs ks g ls b d (tied start))
              (consts_pre ks g ls inside b0 d0 r c ∙ sym (const_pre ks g ls whole b0 d0 r c))
              ∙ sym (pre_more ks g ls b d start (whole ∷ []) r))
              made.emits;
          keeps =
              let front = data_vs ks g ls b (tied start) in
              let mid = data_vs ks g ls b0 (tied inside) in
              let one = datum_of ks g ls b0 (tied inside) in
              ap a_data keeps.is ∙ data_push tuples keeps.tuple
              ∙ ap₂ (λ xs x. xs ++ x ∷ []) keeps_is (keeps.values ∙ fields)
              ∙ append_assoc (a_data kept) (front ++ mid) (one ∷ [])
              ∙ ap (λ zs. a_data kept ++ zs) (append_assoc front mid (one ∷ [])
              ∙ ap (λ zs. front ++ zs)
              (ap (λ q. mid ++ pick q (one ∷ []) []) (sym c)
              ∙ sym (append-nil (mid ++ pick (are_const ls (tied inside)) (one ∷ []) [])))
              ∙ sym (data_more ks g ls b start (whole ∷ [])));
        }

    -- any other
    pub made_at : (new : List ANode) (x : AValue) (t : Seen) (f : ℕ) → all_constants ls (drop k ts) ≡ false →
        Emits now new (λ r. a.Let (a.Malloc (types_in g (drop k ts))) (inits m 1 (drop k vs) r)) →
        f ≡ m + length (drop k vs) →
        ((e : ℕ) → value_at e x ≡ a.Var (e - suc f)) → constant_in ls t ≡ None →
        type_in g t ≡ a.ATuple (aset (types_in g (drop k ts))) →
        Made ks g ls b d (start ++ HTuple (tied inside) ∷ []) begin kept (take k vs ++ x ∷ []) (take k ts ++ t ∷ [])
        (suc f) new tuples
    made_at new x t f unsure emits last value const type =
        let c : are_const ls (tied inside) ≡ false = sym all_is ∙ unsure in
        let whole = HTuple (tied inside) in
        let stop = vs_next ls d0 (tied inside) in
        let f_is : f ≡ final stop (tied inside) =
        last ∙ ap₂ (λ p q. p + q) m_is
        (sym (length-map (drop k vs) (value_at 0)) ∙ ap length (inner 0) ∙ len_vals ls b0 d0 0 inside)
        ∙ sym (final_is stop inside) in
        let types = types_are ks g (drop k ts) inside kinds in
        record {
          values = λ e. map_push (value_at e) (take k vs) x
              ∙ ap₂ (λ ys y. ys ++ y ∷ []) (fronts e)
              (value e ∙ ap (λ n. a.Var (e - suc n)) f_is
              ∙ sym (ap (λ q. pick q (a.Data (n_vs ls b0 (tied inside)))
              (a.Var (e - suc (final stop (tied inside))))) c))
              ∙ sym (vals_more ls b d e start (whole ∷ []));
          types = map_push (type_in g) (take k ts) t
              ∙ ap₂ (λ ys y. ys ++ y ∷ []) front_kinds (type ∙ ap (λ xs. a.ATuple (aset xs)) types)
              ∙ sym (map_push (v_type ks g) start whole);
          consts = map_push (constant_in ls) (take k ts) t
              ∙ ap₂ (λ ys y. ys ++ y ∷ []) front_consts
              (const ∙ sym (ap (λ q. pick q (Some (a.Data (n_vs ls b0 (tied inside)))) None) c))
              ∙ sym (consts_more ls b start (whole ∷ []));
          depth = ap suc f_is
              ∙ sym (next_more ls d start (whole ∷ []) ∙ ap (λ q. pick q d0 (suc (final stop (tied inside)))) c);
          number = number_is ∙ sym (n_more ls b start (whole ∷ []) ∙ ap (λ q. one_more q (n_vs ls b0 (tied inside))) c);
          emits =
              emits_same begin new _ _
              (λ r. ap (λ xs. pre_vs ks g ls b d (tied xs)
              (a.Let (a.Malloc (types_in g (drop k ts))) (inits m 1 (drop k vs) r))) (sym both)
              ∙ pre_more ks g ls b d start inside (a.Let (a.Malloc (types_in g (drop k ts))) (inits m 1 (drop k vs) r))
              ∙ ap (λ y. pre_vs ks g ls b d (tied start) (pre_vs ks g ls b0 d0 (tied inside) y))
              (ap₂ (λ p y. a.Let (a.Malloc p) y) types
              (ap (λ n. inits n 1 (drop k vs) r) m_is ∙ fill_is ls b0 d0 stop 1 (drop k vs) inside r inner))
              ∙ ap (λ q. pre_vs ks g ls b d (tied start)
              (pick q r (pre_vs ks g ls b0 d0 (tied inside)
              (a.Let (a.Malloc (v_types ks g (tied inside))) (fill ls b0 d0 stop 1 (tied inside) r))))) (sym c)
              ∙ sym (pre_more ks g ls b d start (whole ∷ []) r))
              (emits_then begin now new _ _ made.emits emits);
          keeps =
              let front = data_vs ks g ls b (tied start) in
              let mid = data_vs ks g ls b0 (tied inside) in
              let one = datum_of ks g ls b0 (tied inside) in
              keeps_is
              ∙ ap (λ zs. a_data kept ++ zs)
              (ap (λ zs. front ++ zs) (sym (append-nil mid) ∙ ap (λ q. mid ++ pick q (one ∷ []) []) (sym c)
              ∙ sym (append-nil (mid ++ pick (are_const ls (tied inside)) (one ∷ []) [])))
              ∙ sym (data_more ks g ls b start (whole ∷ [])));
        }

  -- the newest n become a tuple
  at_tuple : (n k : ℕ) (vs : List AValue) (us : List HVal) (b d : ℕ) (begin : List ANode) (kept : List AData)
      (wnew : List AValue) (unew : List Seen) (m2 : ℕ) (new : List ANode) (more : List AData) → k ≡ length vs - n →
      length vs ≡ length us →
      Made ks g ls b d (take k us ++ HTuple (tied (drop k us)) ∷ []) begin kept wnew unew m2 new more →
      Made ks g ls b d (tupled n us) begin kept wnew unew m2 new more
  at_tuple n k vs us b d begin kept wnew unew m2 new more k_is long made =
      let at : k ≡ length us - n = k_is ∙ ap (λ y. y - n) long in
      subst (λ y. Made ks g ls b d (take y us ++ HTuple (tied (drop y us)) ∷ []) begin kept wnew unew m2 new more) at
      made

  pub constant_reads : (n k : ℕ) (vs wold wnew : List AValue) (ts rest inner unew : List Seen) (m : ℕ)
      (now : List ANode) (tuples new : List AData) (x : AValue) (t : Seen) →
      k ≡ length vs - n → wold ≡ take k vs → rest ≡ take k ts → inner ≡ drop k ts → all_constants ls inner ≡ true →
      Keeps g ls inner tuples new → ((e : ℕ) → value_at e x ≡ a.Data (length tuples)) →
      constant_in ls t ≡ Some (a.Data (length tuples)) →
      type_in g t ≡ a.ATuple (data_fields (map (field_at g ls) inner)) → wnew ≡ wold ++ x ∷ [] →
      unew ≡ rest ++ t ∷ [] →
      Reads ks g ls (tupled n) vs ts m now tuples wnew unew m now new
  constant_reads n k vs wold wnew ts rest inner unew m now tuples new x t k_is wold_is rest_is inner_is sure keeps
      value const type wnew_is unew_is b d us begin kept made =
      let goes = constant_at k vs ts m now tuples b d us begin kept made new x t
      (ap (all_constants ls) (sym inner_is) ∙ sure) (subst (λ xs. Keeps g ls xs tuples new) inner_is keeps) value
      const (type ∙ ap (λ xs. a.ATuple (data_fields (map (field_at g ls) xs))) inner_is) in
      at_tuple n k vs us b d begin kept wnew unew m now new k_is
      (even ks g ls b d us begin kept vs ts m now tuples made)
      (subst (λ ws. Made ks g ls b d (take k us ++ HTuple (tied (drop k us)) ∷ []) begin kept ws unew m now new)
      (sym (wnew_is ∙ ap (λ ys. ys ++ x ∷ []) wold_is))
      (subst (λ us2. Made ks g ls b d (take k us ++ HTuple (tied (drop k us)) ∷ []) begin kept
      (take k vs ++ x ∷ []) us2 m now new) (sym (unew_is ∙ ap (λ ys. ys ++ t ∷ []) rest_is)) goes))

  pub tuple_reads : (n k : ℕ) (vs wold fields wnew : List AValue) (ts rest inner unew : List Seen) (m : ℕ)
      (now new : List ANode) (tuples : List AData) (x : AValue) (t : Seen) (f m2 : ℕ) →
      k ≡ length vs - n → wold ≡ take k vs → fields ≡ drop k vs → rest ≡ take k ts → inner ≡ drop k ts →
      all_constants ls inner ≡ false →
      Emits now new (λ r. a.Let (a.Malloc (types_in g inner)) (inits m 1 fields r)) → f ≡ m + length fields →
      ((e : ℕ) → value_at e x ≡ a.Var (e - suc f)) →
      constant_in ls t ≡ None → type_in g t ≡ a.ATuple (aset (types_in g inner)) → wnew ≡ wold ++ x ∷ [] →
      unew ≡ rest ++ t ∷ [] → m2 ≡ suc f →
      Reads ks g ls (tupled n) vs ts m now tuples wnew unew m2 new tuples
  tuple_reads n k vs wold fields wnew ts rest inner unew m now new tuples x t f m2 k_is wold_is fields_is rest_is
      inner_is unsure emits last value const type wnew_is unew_is m2_is b d us begin kept made =
      let emits2 =
      subst (λ ys. Emits now new (λ r. a.Let (a.Malloc (types_in g ys)) (inits m 1 (drop k vs) r))) inner_is
      (subst (λ xs. Emits now new (λ r. a.Let (a.Malloc (types_in g inner)) (inits m 1 xs r))) fields_is emits) in
      let goes = made_at k vs ts m now tuples b d us begin kept made new x t f
      (ap (all_constants ls) (sym inner_is) ∙ unsure) emits2
      (last ∙ ap (λ (xs : List AValue). m + length xs) fields_is) value const
      (type ∙ ap (λ xs. a.ATuple (aset (types_in g xs))) inner_is) in
      at_tuple n k vs us b d begin kept wnew unew m2 new tuples k_is
      (even ks g ls b d us begin kept vs ts m now tuples made)
      (subst (λ ws. Made ks g ls b d (take k us ++ HTuple (tied (drop k us)) ∷ []) begin kept ws unew m2 new tuples)
      (sym (wnew_is ∙ ap (λ ys. ys ++ x ∷ []) wold_is))
      (subst (λ us2. Made ks g ls b d (take k us ++ HTuple (tied (drop k us)) ∷ []) begin kept
      (take k vs ++ x ∷ []) us2 m2 new tuples) (sym (unew_is ∙ ap (λ ys. ys ++ t ∷ []) rest_is))
      (subst (λ y. Made ks g ls b d (take k us ++ HTuple (tied (drop k us)) ∷ []) begin kept (take k vs ++ x ∷ [])
      (take k ts ++ t ∷ []) y new tuples) (sym m2_is) goes)))

pub reads_leaf : (ks : HBlks) (g : List a.ATy) (ls : List Known) (v : HVal) (vs wnew : List AValue)
    (ts unew : List Seen) (m : ℕ) (now : List ANode) (tuples : List AData) (x : AValue) (t : Seen) →
    wnew ≡ vs ++ x ∷ [] → unew ≡ ts ++ t ∷ [] →
    ((d : ℕ) → v_next ls d v ≡ d) → ((b : ℕ) → n_v ls b v ≡ b) → ((b : ℕ) → data_v ks g ls b v ≡ []) →
    ((b d : ℕ) (r : a.ATm) → pre_v ks g ls b d v r ≡ r) → ((b d e : ℕ) → value_at e x ≡ val ls b d e v) →
    type_in g t ≡ v_type ks g v → ((b : ℕ) → constant_in ls t ≡ constant ls b v) →
    Reads ks g ls (λ us. us ++ v ∷ []) vs ts m now tuples wnew unew m now tuples
reads_leaf ks g ls v vs wnew ts unew m now tuples x t w u same number nothing none value ty const b d us begin kept
    made =
    subst (λ ws. Made ks g ls b d (us ++ v ∷ []) begin kept ws unew m now tuples) (sym w)
    (subst (λ us2. Made ks g ls b d (us ++ v ∷ []) begin kept (vs ++ x ∷ []) us2 m now tuples) (sym u)
    (made_leaf ks g ls v vs ts m now tuples x t same number nothing none value ty const b d us begin kept made))

pub reads_for : (ks : HBlks) (g : List a.ATy) (ls : List Known) (p q : HPart) (vs wnew : List AValue)
    (ts unew : List Seen) (m k : ℕ) (now new : List ANode) (tuples more2 : List AData) → p ≡ q →
    Reads ks g ls (more p) vs ts m now tuples wnew unew k new more2 →
    Reads ks g ls (more q) vs ts m now tuples wnew unew k new more2
reads_for ks g ls p q vs wnew ts unew m k now new tuples more2 e h =
    subst (λ r. Reads ks g ls (more r) vs ts m now tuples wnew unew k new more2) e h

-- how many variables there are then, said otherwise
pub reads_deep : (ks : HBlks) (g : List a.ATy) (ls : List Known) (f : List HVal → List HVal) (vs ws : List AValue)
    (ts us : List Seen) (m k j : ℕ) (now new : List ANode) (tuples more2 : List AData) → k ≡ j →
    Reads ks g ls f vs ts m now tuples ws us k new more2 → Reads ks g ls f vs ts m now tuples ws us j new more2
reads_deep ks g ls f vs ws ts us m k j now new tuples more2 e h =
    subst (λ i. Reads ks g ls f vs ts m now tuples ws us i new more2) e h
