-- The nodes that the conversion writes hold the converted tree.
use Rattle.std.proofs.Common.{◌≡◌, ℕ, suc, ◌+◌, List, [], ◌∷◌, ◌++◌, Bool, true, false, length, refl, sym, ap, ap₂}
use Rattle.std.proofs.Common.{◌∙◌, subst, arith, append_assoc, append-nil}
use Rattle.f_terms.specs.Ty.{Ty, TInt, TArrow, TAll, TTuple, TSome, TRef, Tys, NoTys, MoreTys, shift, put, Below}
use Rattle.f_terms.specs.Typing.{raised, in_fix, in_open}
use Rattle.calc_core.specs.Ends.{lift, under}
use Rattle.k_terms.specs.K.{KTy, TKInt, TKTuple, TKCode, TKRef, NoKTys, MoreKTys, KVal, KDecl, KProj, KArith, KUnpack}
use Rattle.k_terms.specs.K.{KCell, KGet, KSet, KTm, KLet, KIf, kbody_scope, kren, krens_scope}
use Rattle.k_terms.specs.Types.{kvs_type, kproj_type, kopen_type, kheld_type}
use Rattle.k_terms.specs.Stream.{KNd, NVar, NTuple, NCode, NEnd, NName, NProj, NUnpack, NCell, NGet, NCall, NIf, NElse}
use Rattle.k_terms.specs.Stream.{NHalt, klin_v, klin_vs, klin_t, kwidth}
use Rattle.f_terms.specs.Noted.{Noted, EVar, ENum, EFix, EApp, EGen, EInst, ETuple, EProj, EArith, EIf, ELet, EPack}
use Rattle.f_terms.specs.Noted.{EOpen, ERef, EDeref, EAssign, Noteds, NoNoteds, MoreNoteds, bare}
use Rattle.k_laws.specs.Cps as s
use Rattle.k_laws.specs.Cps.{Atom, Level, Literal, value, values, atom_at, kty, all_kty, spot, kat, kcat, taking}
use Rattle.k_laws.specs.Cps.{packing, cps_of}
use Rattle.k_pass.specs.Emit as w
use Rattle.k_pass.specs.Emit.{atom_node, atom_nodes, rest_args, fix_args, gen_args, proj_node, pack_node, unpack_node}
use Rattle.k_pass.specs.Emit.{cell_node, get_node, arith_node, set_node, emit_of}
use Rattle.k_laws.specs.Annotated.{Annotated, AllAnnotated}
use Rattle.k_laws.proofs.Below.{Belows, belows_raised, typing_below}
use Rattle.k_laws.proofs.Fits.{has_type}
use Rattle.k_laws.proofs.KTypes.{LevelsIn, levels_later, levels_more, deeper, opened, raised_at}
use Rattle.k_pass.proofs.Scopes.{field_is}
use Rattle.k_pass.proofs.Known.{Known, base, Grows, grows_same, grows_more, one_more, newest, rest_grows, fix_grows}
use Rattle.k_pass.proofs.Known.{fix_own, fix_arg, gen_grows, open_grows, Suits, suits_later, suits_raised, found, Good}
use Rattle.k_pass.proofs.Known.{Steady, good_later, good_same, value_node, value_type, AllGood}
use Rattle.calc_core.proofs.Lifts.{lift_le}

abbrev Nodes : Type 0
Nodes = List KNd

abbrev typ : List ℕ → Ty → ℕ → KTy
typ tl t tv = kat tv tl t

grows_le : (tv d : ℕ) (g : List KTy) (tw e : ℕ) (h : List KTy) → Grows tv d g tw e h → (n : ℕ) (tl : List ℕ) →
    LevelsIn n tl tv → LevelsIn n tl tw
grows_le tv d g tw e h p n tl f = levels_later n tl tv tw (let r = lift_le p.k tv in omega (arith, r, p.is)) f

-- a rest of nodes holds a rest of terms, at every place from here on and for every atom of the type t there
abbrev Fits : ℕ → ℕ → List KTy → w.Rest → (ℕ → KTy) → s.Rest → Type 0
Fits tv d g (w.Bind form) t (s.Bind make) = (tw e : ℕ) (h : List KTy) (a : Atom) (ns : Nodes) → Grows tv d g tw e h →
    Good e h a (t tw) → form tw e a ns ≡ klin_t e tw h (make tw e a) ns
Fits tv d g (w.Bind form) t (s.Pass l) = ⊥
Fits tv d g (w.Pass l) t (s.Bind make) = ⊥
Fits tv d g (w.Pass l) t (s.Pass k) = (k ≡ l) × ((u : KTy) × Known d g l u)

fits_later : (tv d : ℕ) (g : List KTy) (k : w.Rest) (t : ℕ → KTy) (r : s.Rest) (tw e : ℕ) (h : List KTy) →
    Grows tv d g tw e h → Fits tv d g k t r → Fits tw e h k t r
fits_later tv d g (w.Bind form) t (s.Bind make) tw e h p f =
    λ tx e1 h1 a ns q good. f tx e1 h1 a ns (grows_more tv d g tw e h tx e1 h1 p q) good
fits_later tv d g (w.Bind form) t (s.Pass l) tw e h p f = f
fits_later tv d g (w.Pass l) t (s.Bind make) tw e h p f = f
fits_later tv d g (w.Pass l) t (s.Pass k) tw e h p f = (f.0, (kren (lift p.k) f.1.0, p.keeps l f.1.0 f.1.1))

fits_same : (tv d : ℕ) (g : List KTy) (k : w.Rest) (t u : ℕ → KTy) (r : s.Rest) → ((tw : ℕ) → t tw ≡ u tw) →
    Fits tv d g k t r → Fits tv d g k u r
fits_same tv d g (w.Bind form) t u (s.Bind make) same f =
    λ tw e h a ns p good. f tw e h a ns p (good_same a e h (u tw) (t tw) (sym (same tw)) good)
fits_same tv d g (w.Bind form) t u (s.Pass l) same f = f
fits_same tv d g (w.Pass l) t u (s.Bind make) same f = f
fits_same tv d g (w.Pass l) t u (s.Pass k) same f = f

-- an atom is delivered
gives : (tv d : ℕ) (g : List KTy) (k : w.Rest) (t : ℕ → KTy) (r : s.Rest) (a : Atom) (ns : Nodes) → Fits tv d g k t r →
    Good d g a (t tv) → w.deliver k tv d a ns ≡ klin_t d tv g (s.deliver r tv d a) ns
gives tv d g (w.Bind form) t (s.Bind make) a ns f good = f tv d g a ns (grows_same tv d g) good
gives tv d g (w.Bind form) t (s.Pass l) a ns f good = absurd f
gives tv d g (w.Pass l) t (s.Bind make) a ns f good = absurd f
gives tv d g (w.Pass l) t (s.Pass k) a ns f good =
    ap (λ (x : ℕ). NVar x ∷ NCall d tv NoKTys 1 ∷ atom_node a ∷ ns) (sym f.0)
    ∙ ap (λ (ms : Nodes). NVar k ∷ NCall d tv NoKTys 1 ∷ ms) (value_node a (t tv) d tv g ns good)
    ∙ value_node (Level k) f.1.0 d tv g (NCall d tv NoKTys 1 ∷ klin_v d tv g (value a d) ns)
    (subst (λ x. Known d g x f.1.0) (sym f.0) f.1.1)

-- what was declared with the type u is delivered
declared : (tv d : ℕ) (g : List KTy) (k : w.Rest) (t : ℕ → KTy) (u : KTy) (r : s.Rest) (ns : Nodes) →
    Fits tv d g k t r → t tv ≡ u →
    w.deliver k tv (suc d) (Level d) ns ≡ klin_t (suc d) tv (u ∷ g) (s.deliver r tv (suc d) (Level d)) ns
declared tv d g k t u r ns f e =
    gives tv (suc d) (u ∷ g) k t r (Level d) ns (fits_later tv d g k t r tv (suc d) (u ∷ g) (one_more tv d g u) f)
    (subst (λ y. Known (suc d) (u ∷ g) d y) (sym e) (newest d g u))

-- k as a value
as_it : (tv d : ℕ) (g : List KTy) (k : w.Rest) (t : ℕ → KTy) (r : s.Rest) (ns : Nodes) → Fits tv d g k t r →
    w.as_value (t tv) k tv d ns ≡ klin_v d tv g (s.as_value (t tv) r tv d) ns
as_it tv d g (w.Bind form) t (s.Bind make) ns f =
    let u = t tv in
    ap (λ (ms : Nodes). NCode d tv 0 (rest_args u) ∷ ms)
    (f tv (suc (suc d)) (kbody_scope 0 (rest_args u) g) (Level (suc d)) (NEnd ∷ ns) (rest_grows tv d g u)
    (newest (suc d) (base g (TKCode 0 (rest_args u))) u))
as_it tv d g (w.Bind form) t (s.Pass l) ns f = absurd f
as_it tv d g (w.Pass l) t (s.Bind make) ns f = absurd f
as_it tv d g (w.Pass l) t (s.Pass k) ns f = ap (λ (x : ℕ). NVar x ∷ ns) (sym f.0)
    ∙ value_node (Level k) f.1.0 d tv g ns (subst (λ x. Known d g x f.1.0) (sym f.0) f.1.1)

-- a rest isn't in tail place
abbrev InTail : Bool → w.Rest → Type 0
InTail tail (w.Bind form) = tail ≡ false
InTail tail (w.Pass l) = Unit {0}

as_its : (tail : Bool) (tv d : ℕ) (g : List KTy) (k : w.Rest) (tl : List ℕ) (t u : Ty) (r : s.Rest) (ns : Nodes) →
    InTail tail k → (tail ≡ false → u ≡ t) → Fits tv d g k (typ tl t) r →
    w.as_value (kat tv tl u) k tv d ns ≡ klin_v d tv g (s.as_value (kat tv tl u) r tv d) ns
as_its tail tv d g (w.Bind form) tl t u r ns it is f =
    as_it tv d g (w.Bind form) (typ tl u) r ns (subst (λ x. Fits tv d g (w.Bind form) (typ tl x) r) (sym (is it)) f)
as_its tail tv d g (w.Pass l) tl t u (s.Bind make) ns it is f = absurd f
as_its tail tv d g (w.Pass l) tl t u (s.Pass k) ns it is f = as_it tv d g (w.Pass l) (typ tl u) (s.Pass k) ns f

-- the fields of a tuple
nodes_are : (xs : List Atom) (ts : Tys) (tl : List ℕ) (d tv : ℕ) (g : List KTy) (ns : Nodes) →
    AllGood tl tv d g xs ts → atom_nodes xs ns ≡ klin_vs d tv g (values xs d) ns
nodes_are [] ts tl d tv g ns h = refl
nodes_are (a ∷ xs) ts tl d tv g ns h =
    ap (λ (ms : Nodes). atom_node a ∷ ms) (nodes_are xs h.1 tl d tv g ns h.4)
    ∙ value_node a (kat tv tl h.0) d tv g (klin_vs d tv g (values xs d) ns) h.3

types_are : (xs : List Atom) (ts : Tys) (tl : List ℕ) (d tv : ℕ) (g : List KTy) → AllGood tl tv d g xs ts →
    kvs_type g (values xs d) ≡ all_kty (spot tv tl) ts
types_are [] ts tl d tv g h = ap (all_kty (spot tv tl)) (sym h)
types_are (a ∷ xs) ts tl d tv g h =
    ap₂ MoreKTys (value_type a (kat tv tl h.0) d g h.3) (types_are xs h.1 tl d tv g h.4)
    ∙ ap (all_kty (spot tv tl)) (sym h.2)

width_is : (xs : List Atom) (d : ℕ) → length xs ≡ kwidth (values xs d)
width_is [] d = refl
width_is (x ∷ xs) d = ap suc (width_is xs d)

abbrev FitsAll : ℕ → ℕ → List KTy → List Atom → List ℕ → Tys → (ℕ → ℕ → List Atom → Nodes → Nodes) →
    (ℕ → ℕ → List Atom → KTm) → Type 0
FitsAll tv d g done tl ts form make =
    (tw e : ℕ) (h : List KTy) (xs : List Atom) (ns : Nodes) → Grows tv d g tw e h → AllGood tl tw e h xs ts →
    form tw e (done ++ xs) ns ≡ klin_t e tw h (make tw e (done ++ xs)) ns

-- what is to be shown of a term
abbrev HoldsAt : Bool → Noted → Type 0
HoldsAt tail e =
    (n : ℕ) (tl : List ℕ) (g : Tys) (t : Ty) (tv d : ℕ) (kg : List KTy) (names : List Atom) (k : w.Rest) (r : s.Rest)
    (ns : Nodes) →
    InTail tail k → Annotated tail e n g t → Belows n g → LevelsIn n tl tv → Suits tl tv g names d kg →
    Fits tv d kg k (typ tl t) r → w.emit e tv d (tl, names) k ns ≡ klin_t d tv kg (s.cps e tv d tl names r) ns

-- the type of a part goes under more type variables
below_of : (tail : Bool) (e : Noted) (n : ℕ) (g : Tys) (t : Ty) → Annotated tail e n g t → Belows n g → Below n t
below_of tail e n g t h b = typing_below (bare e) n g t b (has_type tail e n g t h)

steady : (n : ℕ) (tl : List ℕ) (tv : ℕ) (t : Ty) → LevelsIn n tl tv → Below n t → Steady tv (typ tl t)
steady n tl tv t f b k = deeper t n tl tv k f b

-- one part and a node for it
one_is : (e : Noted) → HoldsAt false e →
    (node : ℕ → ℕ → KNd) (make : ℕ → KVal → KDecl) (n : ℕ) (tl : List ℕ) (g : Tys) (u : Ty) (t : ℕ → KTy) (tv d : ℕ)
    (kg : List KTy) (names : List Atom) (k : w.Rest) (r : s.Rest) (ns : Nodes) →
    Annotated false e n g u → Belows n g → LevelsIn n tl tv → Suits tl tv g names d kg → Fits tv d kg k t r →
    ((tw e1 : ℕ) (h : List KTy) (a : Atom) (rest : KTm) (ms : Nodes) → Good e1 h a (kat tw tl u) →
    klin_v e1 tw h (value a e1) (node tw e1 ∷ klin_t (suc e1) tw (t tw ∷ h) rest ms)
    ≡ klin_t e1 tw h (KLet (make tw (value a e1)) rest) ms) →
    w.emit e tv d (tl, names) (w.to_one node k) ns ≡ klin_t d tv kg (s.cps e tv d tl names (s.to_one make r)) ns
one_is e he node make n tl g u t tv d kg names k r ns h b lv suits f is =
    he n tl g u tv d kg names (w.to_one node k) (s.to_one make r) ns refl h b lv suits
    (λ tw e1 h1 a ms p good.
    ap (λ (js : Nodes). atom_node a ∷ node tw e1 ∷ js)
    (declared tw e1 h1 k t (t tw) r ms (fits_later tv d kg k t r tw e1 h1 p f) refl)
    ∙ value_node a (kat tw tl u) e1 tw h1
    (node tw e1 ∷ klin_t (suc e1) tw (t tw ∷ h1) (s.deliver r tw (suc e1) (Level e1)) ms) good
    ∙ is tw e1 h1 a (s.deliver r tw (suc e1) (Level e1)) ms good)

-- two parts and a node for them
two_is : (x y : Noted) → HoldsAt false x → HoldsAt false y →
    (node : ℕ → KNd) (make : KVal → KVal → KDecl) (n : ℕ) (tl : List ℕ) (g : Tys) (u v : Ty) (t : ℕ → KTy) (c : KTy)
    (tv d : ℕ) (kg : List KTy) (names : List Atom) (k : w.Rest) (r : s.Rest) (ns : Nodes) →
    Annotated false x n g u → Annotated false y n g v → Belows n g → LevelsIn n tl tv → Suits tl tv g names d kg →
    Fits tv d kg k t r → ((tw : ℕ) → t tw ≡ c) →
    ((tw e1 : ℕ) (h : List KTy) (v1 v2 : KVal) (rest : KTm) (ms : Nodes) →
    klin_v e1 tw h v1 (klin_v e1 tw h v2 (node e1 ∷ klin_t (suc e1) tw (c ∷ h) rest ms))
    ≡ klin_t e1 tw h (KLet (make v1 v2) rest) ms) →
    w.emit x tv d (tl, names) (w.Bind (λ tv1 d1 aa. w.emit y tv1 d1 (tl, names) (w.to_two node aa k))) ns
    ≡ klin_t d tv kg (s.cps x tv d tl names (s.Bind (λ tv1 d1 aa. s.cps y tv1 d1 tl names (s.to_two make aa r)))) ns
two_is x y hx hy node make n tl g u v t c tv d kg names k r ns ha hb b lv suits f same is =
    hx n tl g u tv d kg names (w.Bind (λ tv1 d1 aa. w.emit y tv1 d1 (tl, names) (w.to_two node aa k)))
    (s.Bind (λ tv1 d1 aa. s.cps y tv1 d1 tl names (s.to_two make aa r))) ns refl ha b lv suits
    (λ tw e1 h1 a ms p good.
    let lw = grows_le tv d kg tw e1 h1 p n tl lv in
    hy n tl g v tw e1 h1 names (w.to_two node a k) (s.to_two make a r) ms refl hb b lw
    (suits_later n tl g names tv d kg tw e1 h1 lv b p suits)
    (λ tx e2 h2 z js q good2.
    let D : Nodes = node e2 ∷ klin_t (suc e2) tx (c ∷ h2) (s.deliver r tx (suc e2) (Level e2)) js in
    let st = steady n tl tw u lw (below_of false x n g u ha b) in
    ap (λ (ks : Nodes). atom_node a ∷ atom_node z ∷ node e2 ∷ ks)
    (declared tx e2 h2 k t c r js (fits_later tv d kg k t r tx e2 h2 (grows_more tv d kg tw e1 h1 tx e2 h2 p q) f)
    (same tx))
    ∙ ap (λ (ks : Nodes). atom_node a ∷ ks) (value_node z (kat tx tl v) e2 tx h2 D good2)
    ∙ value_node a (kat tx tl u) e2 tx h2 (klin_v e2 tx h2 (value z e2) D)
    (good_later a (typ tl u) tw e1 h1 tx e2 h2 st q good)
    ∙ is tx e2 h2 (value a e2) (value z e2) (s.deliver r tx (suc e2) (Level e2)) js))

-- the test and both branches, for the name of a level
abbrev nodes_choice : Noted → Noted → List ℕ → List Atom → ℕ → w.Rest
nodes_choice a b tl names l =
    w.Bind (λ tv2 d2 ca ms. atom_node ca ∷ NIf
    ∷ w.emit a tv2 d2 (tl, names) (w.Pass l) (NElse tv2 ∷ w.emit b tv2 d2 (tl, names) (w.Pass l) ms))

abbrev choice : Noted → Noted → List ℕ → List Atom → ℕ → s.Rest
choice a b tl names l =
    s.Bind (λ tv2 d2 ca. KIf (value ca d2) (s.cps a tv2 d2 tl names (s.Pass l)) (s.cps b tv2 d2 tl names (s.Pass l)))

chooses : (c x y : Noted) → HoldsAt false c → HoldsAt true x → HoldsAt true y →
    (n : ℕ) (tl : List ℕ) (g : Tys) (t : Ty) (tv d : ℕ) (kg : List KTy) (names : List Atom) (l : ℕ) (lt : KTy)
    (ns : Nodes) →
    Annotated false c n g TInt → Annotated true x n g t → Annotated true y n g t → Belows n g → LevelsIn n tl tv →
    Suits tl tv g names d kg → Known d kg l lt →
    w.emit c tv d (tl, names) (nodes_choice x y tl names l) ns
    ≡ klin_t d tv kg (s.cps c tv d tl names (choice x y tl names l)) ns
chooses c x y mc mx my n tl g t tv d kg names l lt ns hc hx hy b lv suits known =
    mc n tl g TInt tv d kg names (nodes_choice x y tl names l) (choice x y tl names l) ns refl hc b lv suits
    (λ tw e h a ms p good.
    let lw = grows_le tv d kg tw e h p n tl lv in
    let sw = suits_later n tl g names tv d kg tw e h lv b p suits in
    let kn : (u : KTy) × Known e h l u = (kren (lift p.k) lt, p.keeps l lt known) in
    let B : Nodes = klin_t e tw h (s.cps y tw e tl names (s.Pass l)) ms in
    ap (λ (ks : Nodes). atom_node a ∷ NIf ∷ w.emit x tw e (tl, names) (w.Pass l) (NElse tw ∷ ks))
    (my n tl g t tw e h names (w.Pass l) (s.Pass l) ms tt hy b lw sw (refl, kn))
    ∙ ap (λ (ks : Nodes). atom_node a ∷ NIf ∷ ks)
    (mx n tl g t tw e h names (w.Pass l) (s.Pass l) (NElse tw ∷ B) tt hx b lw sw (refl, kn))
    ∙ value_node a TKInt e tw h (NIf ∷ klin_t e tw h (s.cps x tw e tl names (s.Pass l)) (NElse tw ∷ B)) good)

bounds : (tail : Bool) (c x y : Noted) → HoldsAt false c → HoldsAt true x → HoldsAt true y →
    (n : ℕ) (tl : List ℕ) (g : Tys) (t u : Ty) (tv d : ℕ) (kg : List KTy) (names : List Atom) (k : w.Rest) (r : s.Rest)
    (ns : Nodes) →
    InTail tail k → (tail ≡ false → u ≡ t) → Annotated false c n g TInt → Annotated true x n g t →
    Annotated true y n g t → Belows n g → LevelsIn n tl tv → Suits tl tv g names d kg → Fits tv d kg k (typ tl t) r →
    w.bound_once (kat tv tl u) k tv d (λ d1 l. w.emit c tv d1 (tl, names) (nodes_choice x y tl names l)) ns
    ≡ klin_t d tv kg (s.bound_once (kat tv tl u) r tv d (λ d1 l. s.cps c tv d1 tl names (choice x y tl names l))) ns
bounds tail c x y mc mx my n tl g t u tv d kg names (w.Bind form) (s.Bind make) ns it is hc hx hy b lv suits f =
    let v = taking (kat tv tl u) in
    let R : Nodes = NName d v ∷ klin_t (suc d) tv (v ∷ kg) (s.cps c tv (suc d) tl names (choice x y tl names d)) ns in
    ap (λ (ms : Nodes). NCode d tv 0 (rest_args (kat tv tl u))
    ∷ form tv (suc (suc d)) (Level (suc d)) (NEnd ∷ NName d v ∷ ms))
    (chooses c x y mc mx my n tl g t tv (suc d) (v ∷ kg) names d v ns hc hx hy b lv
    (suits_later n tl g names tv d kg tv (suc d) (v ∷ kg) lv b (one_more tv d kg v) suits) (newest d kg v))
    ∙ as_its tail tv d kg (w.Bind form) tl t u (s.Bind make) R it is f
bounds tail c x y mc mx my n tl g t u tv d kg names (w.Bind form) (s.Pass l) ns it is hc hx hy b lv suits f = absurd f
bounds tail c x y mc mx my n tl g t u tv d kg names (w.Pass l) (s.Bind make) ns it is hc hx hy b lv suits f = absurd f
bounds tail c x y mc mx my n tl g t u tv d kg names (w.Pass l) (s.Pass k) ns it is hc hx hy b lv suits f =
    ap (λ (z : ℕ). w.emit c tv d (tl, names) (nodes_choice x y tl names z) ns) (sym f.0)
    ∙ chooses c x y mc mx my n tl g t tv d kg names k f.1.0 ns hc hx hy b lv suits
    (subst (λ z. Known d kg z f.1.0) (sym f.0) f.1.1)

mutual
  holds : (tail : Bool) (e : Noted) → HoldsAt tail e
  holds tail (EVar i) n tl g t tv d kg names k r ns it h b lv suits f =
      gives tv d kg k (typ tl t) r (atom_at names i) ns f (found tl tv g names d kg i t h suits)
  holds tail (ENum i) n tl g t tv d kg names k r ns it h b lv suits f =
      gives tv d kg k (typ tl t) r (Literal i) ns f (ap (kat tv tl) h)
  holds tail (EFix arg res e) n tl g t tv d kg names k r ns it h b lv suits f =
      let A = fix_args tv tl arg res in
      let S = kbody_scope 0 A kg in
      let u = kat tv tl arg in
      let v = kcat tv tl res in
      ap (λ (ms : Nodes). NCode d tv 0 A ∷ w.emit e tv (suc (suc (suc d))) (tl, Level (suc d) ∷ Level d ∷ names)
      (w.Pass (suc (suc d))) (NEnd ∷ NName d (TKCode 0 A) ∷ ms))
      (declared tv d kg k (typ tl t) (TKCode 0 A) r ns f (ap (kat tv tl) h.0))
      ∙ ap (λ (ms : Nodes). NCode d tv 0 A ∷ ms)
      (holds true e n tl (in_fix arg res g) res tv (suc (suc (suc d))) S (Level (suc d) ∷ Level d ∷ names)
      (w.Pass (suc (suc d))) (s.Pass (suc (suc d)))
      (NEnd ∷ NName d (TKCode 0 A) ∷ klin_t (suc d) tv (TKCode 0 A ∷ kg) (s.deliver r tv (suc d) (Level d)) ns) tt h.3
      (h.1, ((h.1, h.2), b)) lv (
        fix_arg d kg u v,
        (
          fix_own d kg u v,
          suits_later n tl g names tv d kg tv (suc (suc (suc d))) S lv b (fix_grows tv d kg u v) suits,
        ),
      )
      (refl, (v, newest (suc (suc d)) (u ∷ base kg (TKCode 0 A)) v)))
  holds tail (EGen e u) n tl g t tv d kg names k r ns it h b lv suits f =
      let A = gen_args (suc tv) (tv ∷ tl) u in
      let S = kbody_scope 1 A kg in
      let v = kcat (suc tv) (tv ∷ tl) u in
      let bu : Below (n + 1) u = (subst (Below n) h.0 (below_of tail (EGen e u) n g t h b)).1 in
      let c : ℕ → KTy = typ tl t in
      ap (λ (ms : Nodes). NCode d tv 1 A ∷ w.emit e (suc tv) (suc (suc d)) (tv ∷ tl, names) (w.Pass (suc d))
      (NEnd ∷ NName d (TKCode 1 A) ∷ ms))
      (declared tv d kg k (typ tl t) (TKCode 1 A) r ns f
      (ap (kat tv tl) h.0 ∙ ap (λ (x : KTy). TKCode 1 (MoreKTys (taking x) NoKTys)) (opened u n tl tv lv bu)))
      ∙ ap (λ (ms : Nodes). NCode d tv 1 A ∷ ms)
      (holds true e (n + 1) (tv ∷ tl) (raised g) u (suc tv) (suc (suc d)) S names (w.Pass (suc d)) (s.Pass (suc d))
      (NEnd ∷ NName d (TKCode 1 A) ∷ klin_t (suc d) tv (TKCode 1 A ∷ kg) (s.deliver r tv (suc d) (Level d)) ns) tt h.1
      (belows_raised g n b) (levels_more n tl tv lv)
      (suits_raised tl tv g names (suc tv) (suc (suc d)) S
      (suits_later n tl g names tv d kg (suc tv) (suc (suc d)) S lv b (gen_grows tv d kg v) suits))
      (refl, (v, newest (suc d) (kren (lift 1) (TKCode 1 A) ∷ krens_scope (lift 1) kg) v)))
  holds tail (EApp e x u) n tl g t tv d kg names k r ns it h b lv suits f =
      let q = h.1.0 in
      holds false e n tl g (TArrow q t) tv d kg names
      (w.Bind (λ tv1 d1 fa. w.emit x tv1 d1 (tl, names) (w.to_call tl fa u k)))
      (s.Bind (λ tv1 d1 fa. s.cps x tv1 d1 tl names (s.to_call tl fa u r))) ns refl h.1.1 b lv suits
      (λ tw e1 h1 a ms p good.
      let lw = grows_le tv d kg tw e1 h1 p n tl lv in
      let st = steady n tl tw (TArrow q t) lw (below_of false e n g (TArrow q t) h.1.1 b) in
      holds false x n tl g q tw e1 h1 names (w.to_call tl a u k) (s.to_call tl a u r) ms refl h.1.2 b lw
      (suits_later n tl g names tv d kg tw e1 h1 lv b p suits)
      (λ tx e2 h2 z js p2 good2.
      let V : Nodes = klin_v e2 tx h2 (s.as_value (kat tx tl u) r tx e2) js in
      ap (λ (ks : Nodes). atom_node a ∷ NCall e2 tx NoKTys 2 ∷ atom_node z ∷ ks)
      (as_its tail tx e2 h2 k tl t u r js it h.0
      (fits_later tv d kg k (typ tl t) r tx e2 h2 (grows_more tv d kg tw e1 h1 tx e2 h2 p p2) f))
      ∙ ap (λ (ks : Nodes). atom_node a ∷ NCall e2 tx NoKTys 2 ∷ ks) (value_node z (kat tx tl q) e2 tx h2 V good2)
      ∙ value_node a (kat tx tl (TArrow q t)) e2 tx h2 (NCall e2 tx NoKTys 2 ∷ klin_v e2 tx h2 (value z e2) V)
      (good_later a (typ tl (TArrow q t)) tw e1 h1 tx e2 h2 st p2 good)))
  holds tail (EInst e x u) n tl g t tv d kg names k r ns it h b lv suits f =
      let c = h.1.0 in
      holds false e n tl g (TAll c) tv d kg names (w.to_inst tl x u k) (s.to_inst tl x u r) ns refl h.1.3 b lv suits
      (λ tw e1 h1 a ms p good.
      ap (λ (ks : Nodes). atom_node a ∷ NCall e1 tw (rest_args (kat tw tl x)) 1 ∷ ks)
      (as_its tail tw e1 h1 k tl t u r ms it h.0 (fits_later tv d kg k (typ tl t) r tw e1 h1 p f))
      ∙ value_node a (kat tw tl (TAll c)) e1 tw h1
      (NCall e1 tw (rest_args (kat tw tl x)) 1 ∷ klin_v e1 tw h1 (s.as_value (kat tw tl u) r tw e1) ms) good)
  holds tail (ETuple es u) n tl g t tv d kg names k r ns it h b lv suits f =
      let ts = h.1.0 in
      holds_all es n tl g ts tv d kg names [] (w.to_tuple tl u k) (s.to_tuple r) ns h.1.2 b lv suits
      (λ tw e1 h1 xs ms p good.
      let x : KTy = TKTuple (kvs_type h1 (values xs e1)) in
      let same : kat tw tl t ≡ x = ap (kat tw tl) h.1.1 ∙ ap TKTuple (sym (types_are xs ts tl e1 tw h1 good)) in
      let R : Nodes = klin_t (suc e1) tw (x ∷ h1) (s.deliver r tw (suc e1) (Level e1)) ms in
      ap (λ (y : KTy). atom_nodes xs (NTuple (length xs) ∷ w.named y k tw e1 ms)) (ap (kat tw tl) h.0 ∙ same)
      ∙ ap (λ (ks : Nodes). atom_nodes xs (NTuple (length xs) ∷ NName e1 x ∷ ks))
      (declared tw e1 h1 k (typ tl t) x r ms (fits_later tv d kg k (typ tl t) r tw e1 h1 p f) same)
      ∙ ap (λ (z : ℕ). atom_nodes xs (NTuple z ∷ NName e1 x ∷ R)) (width_is xs e1)
      ∙ nodes_are xs ts tl e1 tw h1 (NTuple (kwidth (values xs e1)) ∷ NName e1 x ∷ R) good)
  holds tail (EProj i e u) n tl g t tv d kg names k r ns it h b lv suits f =
      let ts = h.1.0 in
      one_is e (holds false e) (proj_node i tl u) (λ tw v. KProj i v) n tl g (TTuple ts) (typ tl u) tv d kg names k r
      ns h.1.2 b lv suits
      (subst (λ x. Fits tv d kg k (typ tl x) r) (sym h.0) f)
      (λ tw e1 h1 a rest ms good.
      ap (λ (x : KTy). klin_v e1 tw h1 (value a e1) (NProj e1 i x ∷ klin_t (suc e1) tw (x ∷ h1) rest ms))
      (ap (kat tw tl) h.0
      ∙ sym (ap (kproj_type i) (value_type a (kat tw tl (TTuple ts)) e1 h1 good)
      ∙ field_is (spot tw tl) ts i t h.1.1)))
  holds tail (EArith op x y) n tl g t tv d kg names k r ns it h b lv suits f =
      two_is x y (holds false x) (holds false y) (arith_node op) (KArith op) n tl g TInt TInt (typ tl t) TKInt tv d kg
      names k r ns h.1 h.2 b lv suits f (λ tw. ap (kat tw tl) h.0) (λ tw e1 h1 v1 v2 rest ms. refl)
  holds tail (EIf c x y u) n tl g t tv d kg names k r ns it h b lv suits f =
      bounds tail c x y (holds false c) (holds true x) (holds true y) n tl g t u tv d kg names k r ns it h.0 h.1 h.2
      h.3 b lv suits f
  holds tail (ELet x y) n tl g t tv d kg names k r ns it h b lv suits f =
      let q = h.0 in
      let bq = below_of false x n g q h.1 b in
      holds false x n tl g q tv d kg names (w.Bind (λ tv1 d1 a. w.emit y tv1 d1 (tl, a ∷ names) k))
      (s.Bind (λ tv1 d1 a. s.cps y tv1 d1 tl (a ∷ names) r)) ns refl h.1 b lv suits
      (λ tw e1 h1 a ms p good.
      holds tail y n tl (MoreTys q g) t tw e1 h1 (a ∷ names) k r ms it h.2 (bq, b) (grows_le tv d kg tw e1 h1 p n tl lv)
      (good, suits_later n tl g names tv d kg tw e1 h1 lv b p suits) (fits_later tv d kg k (typ tl t) r tw e1 h1 p f))
  holds tail (EPack hid e q) n tl g t tv d kg names k r ns it h b lv suits f =
      one_is e (holds false e) (pack_node tl hid q) (packing tl hid q) n tl g (put 0 hid h.0) (typ tl q) tv d kg names
      k r ns h.5 b lv suits
      (subst (λ x. Fits tv d kg k (typ tl x) r) h.2 f) (λ tw e1 h1 a rest ms good. refl)
  holds tail (EOpen x y u) n tl g t tv d kg names k r ns it h b lv suits f =
      let bu : Below (n + 1) u = (below_of false x n g (TSome u) h.1 b).1 in
      holds false x n tl g (TSome u) tv d kg names
      (w.Bind (λ tv1 d1 a ms. atom_node a ∷ unpack_node tl u tv1 d1
      ∷ w.emit y (suc tv1) (suc d1) (tv1 ∷ tl, Level d1 ∷ names) k ms))
      (s.Bind (λ tv1 d1 a. KLet (KUnpack (value a d1)) (s.cps y (suc tv1) (suc d1) (tv1 ∷ tl) (Level d1 ∷ names) r)))
      ns refl h.1 b lv suits
      (λ tw e1 h1 a ms p good.
      let lw = grows_le tv d kg tw e1 h1 p n tl lv in
      let ku = kty (under 1 (spot tw tl)) u in
      let h2 = ku ∷ krens_scope suc h1 in
      let p2 = grows_more tv d kg tw e1 h1 (suc tw) (suc e1) h2 p (open_grows tw e1 h1 ku) in
      let T : KTm = s.cps y (suc tw) (suc e1) (tw ∷ tl) (Level e1 ∷ names) r in
      ap (λ (js : Nodes). atom_node a ∷ NUnpack e1 tw ku ∷ js)
      (holds tail y (n + 1) (tw ∷ tl) (in_open u g) (shift 1 0 t) (suc tw) (suc e1) h2 (Level e1 ∷ names) k r ms it h.2
      (bu, belows_raised g n b) (levels_more n tl tw lw) (
        subst (Known (suc e1) h2 e1) (opened u n tl tw lw bu) (newest e1 (krens_scope suc h1) ku),
        suits_raised tl tw g names (suc tw) (suc e1) h2
            (suits_later n tl g names tv d kg (suc tw) (suc e1) h2 lv b p2 suits),
      )
      (fits_same (suc tw) (suc e1) h2 k (typ tl t) (typ (tw ∷ tl) (shift 1 0 t)) r (λ z. sym (raised_at t tw z tl))
      (fits_later tv d kg k (typ tl t) r (suc tw) (suc e1) h2 p2 f)))
      ∙ value_node a (kat tw tl (TSome u)) e1 tw h1 (NUnpack e1 tw ku ∷ klin_t (suc e1) (suc tw) h2 T ms) good
      ∙ ap (λ (z : KTy). klin_v e1 tw h1 (value a e1)
      (NUnpack e1 tw z ∷ klin_t (suc e1) (suc tw) (z ∷ krens_scope suc h1) T ms))
      (sym (ap kopen_type (value_type a (kat tw tl (TSome u)) e1 h1 good))))
  holds tail (ERef e u) n tl g t tv d kg names k r ns it h b lv suits f =
      let q = h.1.0 in
      one_is e (holds false e) (cell_node tl u) (λ tw v. KCell v) n tl g q (typ tl u) tv d kg names k r ns h.1.2 b lv
      suits
      (subst (λ x. Fits tv d kg k (typ tl x) r) (sym h.0) f)
      (λ tw e1 h1 a rest ms good.
      ap (λ (x : KTy). klin_v e1 tw h1 (value a e1) (NCell e1 x ∷ klin_t (suc e1) tw (x ∷ h1) rest ms))
      (ap (kat tw tl) (h.0 ∙ h.1.1) ∙ sym (ap TKRef (value_type a (kat tw tl q) e1 h1 good))))
  holds tail (EDeref e u) n tl g t tv d kg names k r ns it h b lv suits f =
      one_is e (holds false e) (get_node tl u) (λ tw v. KGet v) n tl g (TRef t) (typ tl u) tv d kg names k r ns h.1 b
      lv suits
      (subst (λ x. Fits tv d kg k (typ tl x) r) (sym h.0) f)
      (λ tw e1 h1 a rest ms good.
      ap (λ (x : KTy). klin_v e1 tw h1 (value a e1) (NGet e1 x ∷ klin_t (suc e1) tw (x ∷ h1) rest ms))
      (ap (kat tw tl) h.0 ∙ sym (ap kheld_type (value_type a (kat tw tl (TRef t)) e1 h1 good))))
  holds tail (EAssign x y) n tl g t tv d kg names k r ns it h b lv suits f =
      two_is x y (holds false x) (holds false y) set_node KSet n tl g (TRef h.0) h.0 (typ tl t)
      (TKTuple NoKTys) tv d kg names k r ns h.2 h.3 b lv suits f (λ tw. ap (kat tw tl) h.1)
      (λ tw e1 h1 v1 v2 rest ms. refl)

  holds_all : (es : Noteds) (n : ℕ) (tl : List ℕ) (g ts : Tys) (tv d : ℕ) (kg : List KTy) (names done : List Atom)
      (form : ℕ → ℕ → List Atom → Nodes → Nodes) (make : ℕ → ℕ → List Atom → KTm) (ns : Nodes) →
      AllAnnotated es n g ts → Belows n g → LevelsIn n tl tv → Suits tl tv g names d kg →
      FitsAll tv d kg done tl ts form make →
      w.emit_all es tv d (tl, names) done form ns ≡ klin_t d tv kg (s.cps_all es tv d tl names done make) ns
  holds_all NoNoteds n tl g ts tv d kg names done form make ns h b lv suits f =
      subst (λ (xs : List Atom). form tv d xs ns ≡ klin_t d tv kg (make tv d xs) ns) (append-nil done)
      (f tv d kg [] ns (grows_same tv d kg) h)
  holds_all (MoreNoteds e es) n tl g ts tv d kg names done form make ns h b lv suits f =
      holds false e n tl g h.0 tv d kg names
      (w.Bind (λ tv1 d1 a. w.emit_all es tv1 d1 (tl, names) (done ++ a ∷ []) form))
      (s.Bind (λ tv1 d1 a. s.cps_all es tv1 d1 tl names (done ++ a ∷ []) make)) ns refl h.3 b lv suits
      (λ tw e1 h1 a ms p good.
      let lw = grows_le tv d kg tw e1 h1 p n tl lv in
      let st = steady n tl tw h.0 lw (below_of false e n g h.0 h.3 b) in
      holds_all es n tl g h.1 tw e1 h1 names (done ++ a ∷ []) form make ms h.4 b lw
      (suits_later n tl g names tv d kg tw e1 h1 lv b p suits)
      (λ tx e2 h2 xs js p2 good2.
      subst (λ (ys : List Atom). form tx e2 ys js ≡ klin_t e2 tx h2 (make tx e2 ys) js)
      (sym (append_assoc done (a ∷ []) xs))
      (f tx e2 h2 (a ∷ xs) js (grows_more tv d kg tw e1 h1 tx e2 h2 p p2)
      (h.0, h.1, h.2, good_later a (typ tl h.0) tw e1 h1 tx e2 h2 st p2 good, good2))))

pub holds_program : (e : Noted) → Annotated false e 0 NoTys TInt → emit_of e ≡ klin_t 0 0 [] (cps_of e) []
holds_program e h =
    holds false e 0 [] NoTys TInt 0 0 [] [] w.halting s.halting [] refl h tt (λ i l. absurd (omega (arith, l))) tt
    (λ tw e1 h1 a ms p good. value_node a TKInt e1 tw h1 (NHalt ∷ ms) good)
