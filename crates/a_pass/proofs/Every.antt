-- Lists of which every item passes a test, and the constants and types that are tested so.
use Rattle.std.proofs.Common.{◌≡◌, ◌<◌, ◌≤◌, ℕ, zero, suc, ◌+◌, List, [], ◌∷◌, ◌++◌, Bool, true, false, refl, sym, ap}
use Rattle.std.proofs.Common.{ap₂, ◌∙◌, length, take, get_or, arith}
use Rattle.std.specs.Prelude.{◌&&◌, map}
use Rattle.std.proofs.lemmas.Bool.{lt-ltb, and_parts as and_true, and_from as true_both}
use Rattle.std.proofs.lemmas.List.{take_all}
use Rattle.a_terms.specs.ReadLaws.{took}
use Rattle.a_terms.specs.Tree.{ABelow, ABelow-fields, ABelow-types, ACode, AExists, AFields, AInt, ATuple}
use Rattle.a_terms.specs.Tree.{ATy, ATys, AVal, AVar, MoreAFields, MoreATys, NoAFields, NoATys}
use Rattle.a_terms.specs.Tree as a
use Rattle.a_terms.specs.Typing.{data_fields}
use Rattle.a_terms.specs.NodeTrees.{a_consts, a_value, base, wrap, wrapped}
use Rattle.a_terms.specs.Read.{afields, atree, atrees}
use Rattle.a_terms.specs.declared.nodes.ABase.{ABase}
use Rattle.a_terms.specs.declared.nodes.ABase.TheVariants as B
use Rattle.a_terms.specs.declared.nodes.AValue.{AValue}
use Rattle.a_terms.specs.declared.nodes.AWrap.{AWrap}
use Rattle.a_terms.specs.declared.nodes.AWrap.TheVariants as W
use Rattle.a_terms.specs.declared.types.AType.{AType}
use Rattle.a_laws.specs.Allocate.{Known, all_closed, closed, fields_closed, is_pack, is_some}
use Rattle.a_pass.specs.declared.state.Seen.{Seen}
use Rattle.a_pass.specs.Scope.{all_constants, constant_in, is_bare}
use Rattle.a_terms.proofs.Lists.{wrapped_snoc as wrapped_push}
use Rattle.a_laws.proofs.Data.{closed_in}

abbrev pub every : {T : Type 0} → (T → Bool) → List T → Bool
every f [] = true
every f (x ∷ xs) = f x && every f xs

every_push : {T : Type 0} (f : T → Bool) (xs : List T) (x : T) → every f xs ≡ true → f x ≡ true →
    every f (xs ++ x ∷ []) ≡ true
every_push f [] x h e = ap (λ b. b && true) e
every_push f (y ∷ xs) x h e =
    let r = and_true (f y) (every f xs) h in
    ap (λ b. b && every f (xs ++ x ∷ [])) r.0 ∙ every_push f xs x r.1 e

pub every_next : {T : Type 0} (f : T → Bool) (xs : List T) (i : ℕ) (x : T) → i < length xs → x ≡ get_or xs i x →
    every f (take i xs) ≡ true → true ≡ f x → every f (take (i + 1) xs) ≡ true
every_next f xs i x lt is h e = ap (every f) (took xs i x lt is) ∙ every_push f (take i xs) x h (sym e)

pub every_all : {T : Type 0} (f : T → Bool) (xs : List T) (i : ℕ) → length xs ≤ i → every f (take i xs) ≡ true →
    true ≡ every f xs
every_all f xs i le h = sym (sym (ap (every f) (take_all i xs le)) ∙ h)

and_false : (p : Bool) → p && false ≡ false
and_false true = refl
and_false false = refl

pub every_not : {T : Type 0} (f : T → Bool) (xs : List T) (i : ℕ) (x : T) → i < length xs → x ≡ get_or xs i x →
    false ≡ f x → false ≡ every f xs
every_not f [] i x lt is e = absurd (omega (arith, lt))
every_not f (y ∷ xs) zero x lt is e = ap (λ b. b && every f xs) (e ∙ ap f is)
every_not f (y ∷ xs) (suc i) x lt is e =
    sym (ap (λ b. f y && b) (sym (every_not f xs i x (omega (arith, lt)) is e)) ∙ and_false (f y))

pub closed_every : (ts : List AType) → every (λ t. closed 0 (atree t)) ts ≡ all_closed 0 (atrees ts)
closed_every [] = refl
closed_every (t ∷ ts) = ap (λ b. closed 0 (atree t) && b) (closed_every ts)

pub constants_every : (ls : List Known) (ss : List Seen) →
    every (λ s. is_some (constant_in ls s)) ss ≡ all_constants ls ss
constants_every ls [] = refl
constants_every ls (s ∷ ss) = ap (λ b. is_some (constant_in ls s) && b) (constants_every ls ss)

-- closed types
mutual
  in_closed : (t : ATy) (n : ℕ) → ABelow n t → closed n t ≡ true
  in_closed AInt n h = refl
  in_closed (AVar i) n h = lt-ltb i n h
  in_closed (ATuple fs) n h = in_fields fs n h
  in_closed (ACode m ts) n h = in_all ts (n + m) h.1
  in_closed (AExists t) n h = in_closed t (n + 1) h.1

  in_all : (ts : ATys) (n : ℕ) → ABelow-types n ts → all_closed n ts ≡ true
  in_all NoATys n h = refl
  in_all (MoreATys t ts) n h = true_both (closed n t) (all_closed n ts) (in_closed t n h.0) (in_all ts n h.1)

  in_fields : (fs : AFields) (n : ℕ) → ABelow-fields n fs → fields_closed n fs ≡ true
  in_fields NoAFields n h = refl
  in_fields (MoreAFields t f fs) n h =
      true_both (closed n t) (fields_closed n fs) (in_closed t n h.0) (in_fields fs n h.1)

pub closed_is : (b : Bool) (t : ATy) → (b ≡ true → ABelow 0 t) → (ABelow 0 t → b ≡ true) → b ≡ closed 0 t
closed_is true t f g = sym (in_closed t 0 (f refl))
closed_is false t f g = go (closed 0 t) refl
  where
    go : (q : Bool) → closed 0 t ≡ q → false ≡ closed 0 t
    go true e = absurd (clash (g (closed_in t 0 e)))
      where
        clash : false ≡ true → ⊥
        clash x = cc
    go false e = sym e

-- what is put round values
pub wraps_next : (ws made new : List AWrap) (i : ℕ) (w one : AWrap) → i < length ws → w ≡ get_or ws i w →
    new ≡ made ++ one ∷ [] → ((v : AVal) → wrap one v ≡ wrap w v) →
    ((v : AVal) → wrapped v made ≡ wrapped v (take i ws)) → (v : AVal) → wrapped v new ≡ wrapped v (take (i + 1) ws)
wraps_next ws made new i w one lt is n same h v =
    ap (wrapped v) n ∙ wrapped_push v made one ∙ same (wrapped v made) ∙ ap (wrap w) (h v)
    ∙ sym (ap (wrapped v) (took ws i w lt is) ∙ wrapped_push v (take i ws) w)

packs_stay : (ws : List AWrap) (v : AVal) → is_pack v ≡ true → is_pack (wrapped v ws) ≡ true
packs_stay [] v e = e
packs_stay (W.Apply ts ∷ ws) v e = packs_stay ws (wrap (W.Apply ts) v) e
packs_stay (W.Pack h s ∷ ws) v e = packs_stay ws (wrap (W.Pack h s) v) refl

pub packs_at : (ws : List AWrap) (i : ℕ) (w : AWrap) → i < length ws → w ≡ get_or ws i w →
    ((v : AVal) → is_pack (wrap w v) ≡ true) → (v : AVal) → is_pack (wrapped v ws) ≡ true
packs_at [] i w lt is f v = absurd (omega (arith, lt))
packs_at (x ∷ ws) zero w lt is f v = packs_stay ws (wrap x v) (ap (λ y. is_pack (wrap y v)) (sym is) ∙ f v)
packs_at (x ∷ ws) (suc i) w lt is f v = packs_at ws i w (omega (arith, lt)) is f (wrap x v)

pub packs_next : (ws : List AWrap) (i : ℕ) (w : AWrap) → i < length ws → w ≡ get_or ws i w →
    ((v : AVal) → is_pack (wrap w v) ≡ is_pack v) →
    ((v : AVal) → is_pack v ≡ false → is_pack (wrapped v (take i ws)) ≡ false) →
    (v : AVal) → is_pack v ≡ false → is_pack (wrapped v (take (i + 1) ws)) ≡ false
packs_next ws i w lt is f h v e =
    ap (λ xs. is_pack (wrapped v xs)) (took ws i w lt is) ∙ ap is_pack (wrapped_push v (take i ws) w)
    ∙ f (wrapped v (take i ws)) ∙ h v e

pub no_pack : (b : ABase) → is_pack (base b) ≡ false
no_pack (B.Var i) = refl
no_pack (B.Int n) = refl
no_pack (B.Label l) = refl
no_pack (B.Data n) = refl

stays_wrapped : (ws : List AWrap) (v : AVal) → is_bare v ≡ false → is_bare (wrapped v ws) ≡ false
stays_wrapped [] v e = e
stays_wrapped (W.Apply ts ∷ ws) v e = stays_wrapped ws (wrap (W.Apply ts) v) refl
stays_wrapped (W.Pack h s ∷ ws) v e = stays_wrapped ws (wrap (W.Pack h s) v) refl

pub not_bare : (ws : List AWrap) (v : AVal) → 0 < length ws → is_bare (wrapped v ws) ≡ false
not_bare [] v lt = absurd (omega (arith, lt))
not_bare (W.Apply ts ∷ ws) v lt = stays_wrapped ws (wrap (W.Apply ts) v) refl
not_bare (W.Pack h s ∷ ws) v lt = stays_wrapped ws (wrap (W.Pack h s) v) refl

-- fields of data tuples
abbrev pub a_const : AValue × AType → a.AConst
a_const c = record { value = a_value c.0; kind = atree c.1 }

pub consts_map : (cs : List (AValue × AType)) → map a_const cs ≡ a_consts cs
consts_map [] = refl
consts_map (c ∷ cs) = ap (λ xs. a_const c ∷ xs) (consts_map cs)

abbrev data_after : AFields → ATy → AFields
data_after NoAFields t = MoreAFields t true NoAFields
data_after (MoreAFields u f fs) t = MoreAFields u f (data_after fs t)

afields_push : (xs : List (AType × Bool)) (t : AType) →
    afields (xs ++ (t, true) ∷ []) ≡ data_after (afields xs) (atree t)
afields_push [] t = refl
afields_push (x ∷ xs) t = ap (MoreAFields (atree x.0) x.1) (afields_push xs t)

data_push : (cs : List (AValue × AType)) (c : AValue × AType) →
    data_fields (a_consts (cs ++ c ∷ [])) ≡ data_after (data_fields (a_consts cs)) (atree c.1)
data_push [] c = refl
data_push (x ∷ cs) c = ap (MoreAFields (atree x.1) true) (data_push cs c)

pub fields_next : (cs : List (AValue × AType)) (made new : List (AType × Bool)) (i : ℕ) (c : AValue × AType)
    (t : AType) → i < length cs → c ≡ get_or cs i c → new ≡ made ++ (t, true) ∷ [] → atree t ≡ atree c.1 →
    afields made ≡ data_fields (a_consts (take i cs)) → afields new ≡ data_fields (a_consts (take (i + 1) cs))
fields_next cs made new i c t lt is n same h =
    ap afields n ∙ afields_push made t ∙ ap₂ data_after h same
    ∙ sym (ap (λ xs. data_fields (a_consts xs)) (took cs i c lt is) ∙ data_push (take i cs) c)
