-- The steps of the walk.
use Rattle.std.proofs.Common.{◌≡◌, ◌<◌, ◌≤◌, ℕ, zero, suc, Bool, true, false, List, [], ◌∷◌, ◌++◌, Option, Some, None}
use Rattle.std.proofs.Common.{refl, sym, ap, ap₂, ◌∙◌, subst, append_assoc, length, get_or, slice_set, arith, Vec}
use Rattle.std.proofs.Common.{Global, Result, OnOk}
use Rattle.std.proofs.lemmas.List.{length-append, append-nil}
use Rattle.std.proofs.lemmas.Result.{on_ok_weaker}
use Rattle.std.proofs.lemmas.Bool.{ltb-true}
use Rattle.c_terms.specs.Stream as S
use Rattle.calc_core.specs.declared.types.CoreType.{CoreType as CType}
use Rattle.c_terms.specs.declared.node.CNode.{CNode}
use Rattle.h_terms.specs.declared.node.HPart.{HPart}
use Rattle.h_terms.specs.declared.node.HForm.{HForm}
use Rattle.h_terms.specs.declared.node.HForm.TheVariants as F
use Rattle.h_terms.specs.declared.node.HNode.{HNode}
use Rattle.h_terms.specs.declared.node.HBlock.{HBlock}
use Rattle.h_pass.specs.declared.state.Open.{Open}
use Rattle.h_pass.specs.declared.state.Walk.{Walk}
use Rattle.calc_core.specs.Ends.{lift}
use Rattle.c_terms.specs.C.{CTys, ccount}
use Rattle.c_terms.specs.Read.{ctys, written}
use Rattle.calc_core.specs.Walks.{put}
use Rattle.h_terms.specs.H.{HBlk, HBlks, HLabel, HTm, HVal}
use Rattle.h_terms.specs.Nodes.{HArity, HRow, HRows, h_block, h_blocks, h_build, h_kids, h_terms, h_tree}
use Rattle.h_terms.specs.Nodes.{no_term, reads, values}
use Rattle.calc_core.specs.Row.{IsOne, IsSome, IsTwo, others, top}
use Rattle.h_pass.proofs.Fusing.{call_ends}
use Rattle.h_pass.proofs.Spots.{deep}
use Rattle.h_pass.specs.Hoist.{Code, Nobody, Own}
use Rattle.h_pass.specs.Stream.{Around, Found, both, code_found, found_in, has_room, hoisted, is_none, is_one, is_some}
use Rattle.h_pass.specs.Stream.{is_two, nothing, out_found}
use Rattle.h_pass.specs.Walk.{Begun, Declares, Ends, Goes, IsPart, Labelled, Makes, Yields, Steps, Walked, arity}
use Rattle.h_pass.specs.Walk.{around, body_with, built, closes, fill_own, filled, h_onto, one_name, own_of, waiting}
use Rattle.calc_core.proofs.Lifts.{lift_add}
use Rattle.calc_core.proofs.Trees.{count_length as count_is}

-- blocks
pub fill_blocks : (bs : List HBlock) (l : ℕ) (k : HBlock) (body : Vec HNode Global) → l < length bs →
    k ≡ get_or bs l k →
    h_blocks (slice_set bs l (record { owes = k.owes; args = k.args; body = body }))
    ≡ filled l (h_tree body.items) (h_blocks bs)
fill_blocks [] l k body lt is = absurd (omega (arith, lt))
fill_blocks (b ∷ bs) zero k body lt is =
    ap (λ (x : HBlock). (let y : HBlk = record { owes = x.owes; args = ctys x.args.items; body = h_tree body.items } in
    y) ∷ h_blocks bs) is
fill_blocks (b ∷ bs) (suc l) k body lt is = ap (λ ks. h_block b ∷ ks) (fill_blocks bs l k body (omega (arith, lt)) is)

pub fill_past : (bs : List HBlock) (l : ℕ) (body : Vec HNode Global) → length bs ≤ l →
    h_blocks bs ≡ filled l (h_tree body.items) (h_blocks bs)
fill_past [] l body le = refl
fill_past (b ∷ bs) zero body le = absurd (omega (arith, le))
fill_past (b ∷ bs) (suc l) body le = ap (λ ks. h_block b ∷ ks) (fill_past bs l body (omega (arith, le)))

pub fill_rows : (bs : List HBlock) (l : ℕ) (k : HBlock) → HRow k.body.items 1 → HRows bs → HRows (slice_set bs l k)
fill_rows [] l k row h = h
fill_rows (b ∷ bs) zero k row h = (row, h.1)
fill_rows (b ∷ bs) (suc l) k row h = (h.0, fill_rows bs l k row h.1)

blocks_push : (bs : List HBlock) (k : HBlock) (ks : HBlks) → h_blocks (bs ++ k ∷ []) ++ ks ≡ h_blocks bs ++ h_block k
    ∷ ks
blocks_push [] k ks = refl
blocks_push (b ∷ bs) k ks = ap (λ xs. h_block b ∷ xs) (blocks_push bs k ks)

rows_push : (bs : List HBlock) (k : HBlock) → HRows bs → HRow k.body.items 1 → HRows (bs ++ k ∷ [])
rows_push [] k h row = (row, tt)
rows_push (b ∷ bs) k h row = (h.0, rows_push bs k h.1 row)

fill_new : (bs : List HBlock) (k : HBlk) (ks : HBlks) (t : HTm) →
    filled (length bs) t (h_blocks bs ++ k ∷ ks) ≡ h_blocks bs ++ record { owes = k.owes; args = k.args; body = t }
    ∷ ks
fill_new [] k ks t = refl
fill_new (b ∷ bs) k ks t = ap (λ xs. h_block b ∷ xs) (fill_new bs k ks t)

fill_old : (l : ℕ) (bs : List HBlock) (ks : HBlks) (t : HTm) → l < length bs →
    filled l t (h_blocks bs ++ ks) ≡ filled l t (h_blocks bs) ++ ks
fill_old l [] ks t lt = absurd (omega (arith, lt))
fill_old zero (b ∷ bs) ks t lt = refl
fill_old (suc l) (b ∷ bs) ks t lt = ap (λ xs. h_block b ∷ xs) (fill_old l bs ks t (omega (arith, lt)))

-- tests
abbrev Off : Bool → Type 0
Off true = ⊥
Off false = Unit {0}

off : false ≡ true → ⊥
off e = subst Off e tt

both_left : (a b : Bool) → both a b ≡ true → a ≡ true
both_left true b h = refl
both_left false b h = h

both_right : (a b : Bool) → both a b ≡ true → b ≡ true
both_right true b h = h
both_right false b h = absurd (off h)

pub none_is : {T : Type 0} (xs : List T) → is_none xs ≡ true → xs ≡ []
none_is [] h = refl
none_is (x ∷ xs) h = absurd (off h)

pub some_of : {T : Type 0} (xs : List T) → is_some xs ≡ true → IsSome xs
some_of [] h = absurd (off h)
some_of (x ∷ xs) h = tt

pub one_of : {T : Type 0} (xs : List T) → is_one xs ≡ true → IsOne xs
one_of [] h = absurd (off h)
one_of (x ∷ []) h = tt
one_of (x ∷ y ∷ xs) h = absurd (off h)

pub two_of : {T : Type 0} (xs : List T) → is_two xs ≡ true → IsTwo xs
two_of [] h = absurd (off h)
two_of (x ∷ xs) h = one_of xs h

pub some_long : {T : Type 0} (xs : List T) → is_some xs ≡ true → length xs ≡ suc (length (others xs))
some_long [] h = absurd (off h)
some_long (x ∷ xs) h = refl

-- nodes
onto_append : (xs ys : List HNode) (ts : List HTm) → h_onto (xs ++ ys) ts ≡ h_onto xs (h_onto ys ts)
onto_append [] ys ts = refl
onto_append (x ∷ xs) ys ts = ap (h_build x.form (values x)) (onto_append xs ys ts)

onto_nil : (xs : List HNode) → h_onto xs [] ≡ h_terms xs
onto_nil [] = refl
onto_nil (x ∷ xs) = ap (h_build x.form (values x)) (onto_nil xs)

pub quiet : (r s : Found) (bs : List HBlock) (own : Option ℕ) (ns : List HNode) (ds : List ℕ) (fs : List Open)
    (p : HBlks × HTm) → s ≡ r → Yields r bs own ns ds fs p → Yields s bs own ns ds fs p
quiet r s bs own ns ds fs p e st = subst (λ x. Yields x bs own ns ds fs p) (sym e) st

pub arity_of : (form : HForm) (vs : List HVal) → arity form vs ≡ true → HArity form vs
arity_of F.Name vs h = one_of vs h
arity_of (F.Proj i) vs h = one_of vs h
arity_of (F.Arith o) vs h = two_of vs h
arity_of F.Unpack vs h = one_of vs h
arity_of F.Cell vs h = one_of vs h
arity_of F.Get vs h = one_of vs h
arity_of F.Set vs h = two_of vs h
arity_of (F.Call us) vs h = some_of vs h
arity_of F.If0 vs h = one_of vs h
arity_of F.Halt vs h = one_of vs h

emitted : (form : HForm) (room : List ℕ → Bool) (parts : Vec HPart Global) (r : Found) (bs : List HBlock)
    (own : Option ℕ) (ns new : List HNode) (ds after : List ℕ) (fs : List Open) (p : HBlks × HTm) →
    new ≡ ns ++ record { form = form; values = parts } ∷ [] → ((xs : List ℕ) → room xs ≡ true → is_some xs ≡ true) →
    (is_some ds ≡ true → length after ≡ lift (h_kids form) (length (others ds))) →
    Yields (built form (reads [] parts.items) (both (room ds) (arity form (reads [] parts.items))) r) bs own ns ds fs
    p → Yields r bs own new after fs p
emitted form room parts r bs own ns new ds after fs p is due kids st =
    let node : HNode = record { form = form; values = parts } in
    let ok = arity form (reads [] parts.items) in
    let tests = both_left (both (room ds) ok) r.fine st.fine in
    let some = due ds (both_left (room ds) ok tests) in
    record {
      fine = both_right (both (room ds) ok) r.fine st.fine;
      same = ap (λ t. closes own (top no_term t) fs r.outer (h_blocks bs ++ r.blocks))
          (ap (λ xs. h_onto xs r.terms) is ∙ onto_append ns (node ∷ []) r.terms) ∙ st.same;
      rows = st.rows;
      begun = λ rest h.
          subst (λ xs. HRow xs 1) (sym (ap (λ xs. xs ++ rest) is ∙ append_assoc ns (node ∷ []) rest))
          (st.begun (node ∷ rest)
          (subst (HRow (node ∷ rest)) (sym (some_long ds some)) (
            arity_of form (reads [] parts.items) (both_right (room ds) ok tests),
            subst (HRow rest) (kids some) h,
          )));
      all = st.all;
      labelled = st.labelled;
    }

-- a code begins
labelled_more : (n m : ℕ) (own : Option ℕ) (fs : List Open) → n ≤ m → Labelled n own fs → Labelled m own fs
labelled_more n m own [] le h = tt
labelled_more n m None (f ∷ fs) le h = absurd h
labelled_more n m (Some l) (f ∷ fs) le h = (omega (arith, le, h.0), labelled_more n m f.own fs le h.1)

pub begins : (k : HBlock) (r : Found) (bs new : List HBlock) (b e : ℕ) (cur : Open) (ns : List HNode)
    (ds after : List ℕ) (fs : List Open) (p : HBlks × HTm) →
    new ≡ bs ++ k ∷ [] → b ≡ length bs → HRow k.body.items 1 → length cur.depths.items ≡ length ds → ns ≡ [] →
    after ≡ e ∷ [] →
    Yields (code_found k.owes (ctys k.args.items) r) bs cur.own cur.nodes.items ds fs p →
    Yields r new (Some b) ns after (cur ∷ fs) p
begins k r bs new b e cur ns ds after fs p is at row long ns_is after_is st = record {
  fine = st.fine;
  same =
      ap (λ (t : HTm). closes cur.own (body_with cur.nodes.items (top [] r.outer)) fs (others r.outer)
      (filled b t (h_blocks new ++ r.blocks))) (ap (λ xs. body_with xs r.terms) ns_is)
      ∙ ap (closes cur.own (body_with cur.nodes.items (top [] r.outer)) fs (others r.outer))
      (ap₂ (λ l xs. filled l (top no_term r.terms) (h_blocks xs ++ r.blocks)) at is
      ∙ ap (filled (length bs) (top no_term r.terms)) (blocks_push bs k r.blocks)
      ∙ fill_new bs (h_block k) r.blocks (top no_term r.terms))
      ∙ st.same;
  rows = subst HRows (sym is) (rows_push bs k st.rows row);
  begun = λ rest h. subst (λ xs. HRow (xs ++ rest) 1) (sym ns_is) (subst (λ xs. HRow rest (length xs)) after_is h);
  all = (λ rest h. st.begun rest (subst (HRow rest) long h), st.all);
  labelled = (
    omega (arith, at, ap length is, length-append bs (k ∷ [])),
    labelled_more (length bs) (length new) cur.own fs (omega (arith, ap length is, length-append bs (k ∷ [])))
        st.labelled,
  );
}

-- a code ends
whole_row : (ns : List HNode) (ds : List ℕ) → ds ≡ [] → Begun ns (length ds) → HRow ns 1
whole_row ns ds e begun = subst (λ xs. HRow xs 1) (append-nil ns) (begun [] (ap length e))

pub ends : (l : ℕ) (r : Found) (bs new : List HBlock) (ns : List HNode) (ds : List ℕ) (f : Open) (fs : List Open)
    (p : HBlks × HTm) →
    l < length bs → length new ≡ length bs → h_blocks new ≡ filled l (h_tree ns) (h_blocks bs) →
    (HRow ns 1 → HRows bs → HRows new) →
    Yields (out_found (is_none ds) r) bs (Some l) ns ds (f ∷ fs) p →
    Yields r new f.own f.nodes.items f.depths.items fs p
ends l r bs new ns ds f fs p lt count made rows st =
    let none = none_is ds (both_left (is_none ds) r.fine st.fine) in
    record {
      fine = both_right (is_none ds) r.fine st.fine;
      same =
          ap (λ ks. closes f.own (body_with f.nodes.items r.terms) fs r.outer (ks ++ r.blocks))
          (made ∙ ap (λ t. filled l (top no_term t) (h_blocks bs)) (sym (onto_nil ns)))
          ∙ ap (closes f.own (body_with f.nodes.items r.terms) fs r.outer)
          (sym (fill_old l bs r.blocks (body_with ns []) lt))
          ∙ st.same;
      rows = rows (whole_row ns ds none st.begun) st.rows;
      begun = st.all.0;
      all = st.all.1;
      labelled = subst (λ n. Labelled n f.own fs) (sym count) st.labelled.1;
    }

-- the whole
pub starts : (rest : List S.CNd) (bs : List HBlock) (ns : List HNode) (ds : List ℕ) (ps : List HPart)
    (fs : List Open) → bs ≡ [] → ns ≡ [] → ds ≡ 0 ∷ [] → ps ≡ [] → fs ≡ [] → (hoisted rest).fine ≡ true →
    Yields (found_in rest (length bs) Nobody ds (reads [] ps) None (around fs)) bs None ns ds fs
    ((hoisted rest).blocks, top no_term (hoisted rest).terms)
starts rest bs ns ds ps fs e1 e2 e3 e4 e5 fine =
    subst (λ x. Yields (found_in rest (length x) Nobody ds (reads [] ps) None (around fs)) x None ns ds fs
    ((hoisted rest).blocks, top no_term (hoisted rest).terms)) (sym e1)
    (subst (λ x. Yields (found_in rest 0 Nobody ds (reads [] ps) None (around fs)) [] None x ds fs
    ((hoisted rest).blocks, top no_term (hoisted rest).terms)) (sym e2)
    (subst (λ x. Yields (found_in rest 0 Nobody x (reads [] ps) None (around fs)) [] None [] x fs
    ((hoisted rest).blocks, top no_term (hoisted rest).terms)) (sym e3)
    (subst (λ x. Yields (found_in rest 0 Nobody (0 ∷ []) (reads [] x) None (around fs)) [] None [] (0 ∷ []) fs
    ((hoisted rest).blocks, top no_term (hoisted rest).terms)) (sym e4)
    (subst (λ x. Yields (found_in rest 0 Nobody (0 ∷ []) [] None (around x)) [] None [] (0 ∷ []) x
    ((hoisted rest).blocks, top no_term (hoisted rest).terms)) (sym e5)
    (record { fine = fine; same = refl; rows = tt; begun = λ more h. h; all = tt; labelled = tt })))))

no_outer : (fs : List Open) → is_none (around fs) ≡ true → fs ≡ []
no_outer [] h = refl
no_outer (f ∷ fs) h = absurd (off h)

pub record Whole (bs : List HBlock) (ns : List HNode) (p : HBlks × HTm) : Type 0 where
  pub blocks : h_blocks bs ≡ p.0
  pub main : h_tree ns ≡ p.1
  pub rows : HRows bs
  pub row : HRow ns 1

pub finished : (bs : List HBlock) (own : Option ℕ) (ns : List HNode) (ds : List ℕ) (fs : List Open) (p : HBlks × HTm) →
    Yields (nothing (both (is_none ds) (is_none (around fs)))) bs own ns ds fs p → Whole bs ns p
finished bs own ns ds fs p st =
    let none = none_is ds (both_left (is_none ds) (is_none (around fs)) st.fine) in
    let alone = no_outer fs (both_right (is_none ds) (is_none (around fs)) st.fine) in
    let same : (h_blocks bs ++ [], body_with ns []) ≡ p =
    sym (ap (λ (xs : List Open). closes own (body_with ns []) xs [] (h_blocks bs ++ [])) alone) ∙ st.same in
    record {
      blocks = sym (append-nil (h_blocks bs)) ∙ ap (λ (q : HBlks × HTm). q.0) same;
      main = ap (top no_term) (sym (onto_nil ns)) ∙ ap (λ (q : HBlks × HTm). q.1) same;
      rows = st.rows;
      row = whole_row ns ds none st.begun;
    }

pub emits : (form : HForm) (room : List ℕ → Bool) (parts : Vec HPart Global) (n : S.CNd) (after : List ℕ → List ℕ)
    (rest : List S.CNd) (b : ℕ) (o : Own) (ds ds2 : List ℕ) (c : Option CTys) (fs : List Around)
    (bs : List HBlock) (own : Option ℕ) (ns new : List HNode) (left : List HPart) (gs : List Open) (p : HBlks × HTm) →
    new ≡ ns ++ record { form = form; values = parts } ∷ [] → left ≡ [] → ds2 ≡ after ds →
    ((xs : List ℕ) → room xs ≡ true → is_some xs ≡ true) →
    (is_some ds ≡ true → length (after ds) ≡ lift (h_kids form) (length (others ds))) → Makes form room after n →
    Yields (found_in (n ∷ rest) b o ds (reads [] parts.items) c fs) bs own ns ds gs p →
    Yields (found_in rest b o ds2 (reads [] left) c fs) bs own new ds2 gs p
emits form room parts n after rest b o ds ds2 c fs bs own ns new left gs p made none deep due kids makes st =
    let r = found_in rest b o (after ds) [] c fs in
    let vs = reads [] parts.items in
    let old : Yields (built form vs (both (room ds) (arity form vs)) r) bs own ns ds gs p =
    subst (λ x. Yields x bs own ns ds gs p) (makes rest b o ds vs c fs) st in
    subst (λ xs. Yields (found_in rest b o xs (reads [] left) c fs) bs own new xs gs p) (sym deep)
    (subst (λ (xs : List HPart). Yields (found_in rest b o (after ds) (reads [] xs) c fs) bs own new (after ds) gs p)
    (sym none)
    (emitted form room parts r bs own ns new ds (after ds) gs p made due kids old))

pub due : (ds : List ℕ) → is_some ds ≡ true → is_some ds ≡ true
due ds h = h

pub room_due : (ds : List ℕ) → has_room ds ≡ true → is_some ds ≡ true
room_due [] h = absurd (off h)
room_due (d ∷ ds) h = refl

-- where a declaration's node is fine, one more name is a number
pub room_of : (form : HForm) (n : S.CNd) (rest : List S.CNd) (b : ℕ) (o : Own) (ds : List ℕ) (vs : List HVal)
    (c : Option CTys) (fs : List Around) (bs : List HBlock) (own : Option ℕ) (ns : List HNode) (gs : List Open)
    (p : HBlks × HTm) →
    Makes form has_room one_name n → Yields (found_in (n ∷ rest) b o ds vs c fs) bs own ns ds gs p →
    top 0 ds < 18446744073709551615
room_of form n rest b o ds vs c fs bs own ns gs p makes st =
    let r = found_in rest b o (one_name ds) [] c fs in
    let fine : both (both (has_room ds) (arity form vs)) r.fine ≡ true =
    sym (ap (λ (x : Found). x.fine) (makes rest b o ds vs c fs)) ∙ st.fine in
    is_room ds (both_left (has_room ds) (arity form vs) (both_left (both (has_room ds) (arity form vs)) r.fine fine))
  where
    is_room : (xs : List ℕ) → has_room xs ≡ true → top 0 xs < 18446744073709551615
    is_room [] h = absurd (off h)
    is_room (x ∷ xs) h = ltb-true x 18446744073709551615 h

pub declared : (form : HForm) (ds : List ℕ) → h_kids form ≡ 1 → is_some ds ≡ true →
    length (one_name ds) ≡ lift (h_kids form) (length (others ds))
declared form ds one s = sym (ap (λ k. lift k (length (others ds))) one)

pub halted : (ds : List ℕ) → is_some ds ≡ true → length (others ds) ≡ lift 0 (length (others ds))
halted ds s = refl

pub calls : (types : Vec CType Global) (parts : Vec HPart Global) (rest : List S.CNd) (b : ℕ) (o : Own)
    (ds ds2 : List ℕ) (old now : Option (Vec CType Global)) (fs : List Around)
    (bs : List HBlock) (own : Option ℕ) (ns new : List HNode) (left : List HPart) (gs : List Open) (p : HBlks × HTm) →
    Ends rest → old ≡ Some types → now ≡ None → new ≡ ns ++ record { form = F.Call types; values = parts } ∷ [] →
    left ≡ [] → ds2 ≡ others ds →
    Yields (found_in rest b o ds (reads [] parts.items) (waiting old) fs) bs own ns ds gs p →
    Yields (found_in rest b o ds2 (reads [] left) (waiting now) fs) bs own new ds2 gs p
calls types parts rest b o ds ds2 old now fs bs own ns new left gs p ends e1 e2 made none deep st =
    let r = found_in rest b o (others ds) [] None fs in
    let vs = reads [] parts.items in
    let before : Yields (built (F.Call types) vs (both (is_some ds) (is_some vs)) r) bs own ns ds gs p =
    quiet (found_in rest b o ds vs (waiting old) fs) (built (F.Call types) vs (both (is_some ds) (is_some vs)) r) bs
    own ns ds gs p
    (sym (ap (λ (x : Option (Vec CType Global)). found_in rest b o ds vs (waiting x) fs) e1
    ∙ call_ends rest b o ds vs (ctys types.items) fs ends)) st in
    subst (λ (x : Option (Vec CType Global)). Yields (found_in rest b o ds2 (reads [] left) (waiting x) fs) bs own new
    ds2 gs p) (sym e2)
    (subst (λ xs. Yields (found_in rest b o xs (reads [] left) None fs) bs own new xs gs p) (sym deep)
    (subst (λ (xs : List HPart). Yields (found_in rest b o (others ds) (reads [] xs) None fs) bs own new
    (others ds) gs p) (sym none)
    (emitted (F.Call types) is_some parts r bs own ns new ds (others ds) gs p made (λ xs h. h) (λ s. refl) before)))

pub else_goes : (rest : List S.CNd) (b : ℕ) (o : Own) (ds : List ℕ) (vs : List HVal) (call : Option (Vec CType Global))
    (fs : List Around) (bs : List HBlock) (own : Option ℕ) (ns : List HNode) (gs : List Open) (p : HBlks × HTm) →
    call ≡ None → Yields (found_in (S.MElse ∷ rest) b o ds vs (waiting call) fs) bs own ns ds gs p →
    Yields (found_in rest b o ds vs (waiting call) fs) bs own ns ds gs p
else_goes rest b o ds vs call fs bs own ns gs p e st =
    subst (λ (x : Option (Vec CType Global)). Yields (found_in rest b o ds vs (waiting x) fs) bs own ns ds gs p)
    (sym e) (subst
    (λ (x : Option (Vec CType Global)). Yields (found_in (S.MElse ∷ rest) b o ds vs (waiting x) fs) bs own ns ds gs
    p) e st)

abbrev at_open : List S.CNd → ℕ → Open → List Open → Found
at_open rest b f fs =
    found_in rest b (own_of f.own) f.depths.items (reads [] f.parts.items) (waiting f.call) (around fs)

-- no code is open
pub close_none : (rest : List S.CNd) (w : Walk) (p : HBlks × HTm) → w.current.call ≡ None → w.outer.items ≡ [] →
    Walked w (S.MEnd ∷ rest) p → ⊥
close_none rest w p call out st =
    let bs = w.blocks.items in
    let ds = w.current.depths.items in
    let vs = reads [] w.current.parts.items in
    let one : (found_in (S.MEnd ∷ rest) (length bs) (own_of w.current.own) ds vs None (around w.outer.items)).fine
    ≡ true =
    subst (λ (x : Option (Vec CType Global)).
    (found_in (S.MEnd ∷ rest) (length bs) (own_of w.current.own) ds vs (waiting x) (around w.outer.items)).fine
    ≡ true) call st.fine in
    off (subst (λ (x : List Open).
    (found_in (S.MEnd ∷ rest) (length bs) (own_of w.current.own) ds vs None (around x)).fine ≡ true) out one)

-- the label of the code that closes
pub its_label : {P : Type 0} (n : ℕ) (own : Option ℕ) (f : Open) (fs : List Open) → Labelled n own (f ∷ fs) →
    ((l : ℕ) → own ≡ Some l → l < n → P) → P
its_label n None f fs h go = absurd h
its_label n (Some l) f fs h go = go l refl h.0

pub end_goes : (rest : List S.CNd) (w : Walk) (f cur inner : Open) (gs outer : List Open) (l : ℕ) (new : List HBlock)
    (p : HBlks × HTm) →
    w.current.call ≡ None → w.outer.items ≡ f ∷ gs → inner ≡ w.current → cur ≡ f → outer ≡ gs → w.current.own ≡ Some l →
    l < length w.blocks.items → length new ≡ length w.blocks.items →
    h_blocks new ≡ fill_own inner.own (h_tree inner.nodes.items) (h_blocks w.blocks.items) →
    (HRow inner.nodes.items 1 → HRows w.blocks.items → HRows new) →
    Walked w (S.MEnd ∷ rest) p →
    Yields (at_open rest (length new) cur outer) new cur.own cur.nodes.items cur.depths.items outer p
end_goes rest w f cur inner gs outer l new p call out is cur_is outer_is mine lt count made rows st =
    let bs = w.blocks.items in
    let ns = w.current.nodes.items in
    let ds = w.current.depths.items in
    let vs = reads [] w.current.parts.items in
    let nodes : inner.nodes.items ≡ ns = ap (λ (x : Open). x.nodes.items) is in
    let now : h_blocks new ≡ filled l (h_tree ns) (h_blocks bs) =
    made ∙ ap (λ (x : Open). fill_own x.own (h_tree x.nodes.items) (h_blocks bs)) is
    ∙ ap (λ (x : Option ℕ). fill_own x (h_tree ns) (h_blocks bs)) mine in
    let s1 : Yields (found_in (S.MEnd ∷ rest) (length bs) (own_of w.current.own) ds vs None (around w.outer.items)) bs
    w.current.own ns ds w.outer.items p =
    subst (λ (x : Option (Vec CType Global)).
    Yields (found_in (S.MEnd ∷ rest) (length bs) (own_of w.current.own) ds vs (waiting x) (around w.outer.items))
    bs w.current.own ns ds w.outer.items p) call st in
    let s2 : Yields (out_found (is_none ds) (at_open rest (length bs) f gs)) bs w.current.own ns ds (f ∷ gs) p =
    subst (λ (x : List Open).
    Yields (found_in (S.MEnd ∷ rest) (length bs) (own_of w.current.own) ds vs None (around x)) bs w.current.own ns
    ds x p) out s1 in
    let s3 : Yields (out_found (is_none ds) (at_open rest (length bs) f gs)) bs (Some l) ns ds (f ∷ gs) p =
    subst (λ (x : Option ℕ). Yields (out_found (is_none ds) (at_open rest (length bs) f gs)) bs x ns ds (f ∷ gs) p)
    mine s2 in
    let s4 : Yields (at_open rest (length bs) f gs) new f.own f.nodes.items f.depths.items gs p =
    ends l (at_open rest (length bs) f gs) bs new ns ds f gs p lt count now
    (λ h. rows (subst (λ (x : List HNode). HRow x 1) (sym nodes) h)) s3 in
    subst (λ (x : Open). Yields (at_open rest (length new) x outer) new x.own x.nodes.items x.depths.items outer p)
    (sym cur_is)
    (subst (λ (x : List Open). Yields (at_open rest (length new) f x) new f.own f.nodes.items f.depths.items x p)
    (sym outer_is)
    (subst (λ n. Yields (at_open rest n f gs) new f.own f.nodes.items f.depths.items gs p) (sym count) s4))

pub close_goes : (rest : List S.CNd) (w : Walk) (f cur inner : Open) (gs outer : List Open) (new : List HBlock)
    (p : HBlks × HTm) →
    w.current.call ≡ None → w.outer.items ≡ f ∷ gs → inner ≡ w.current → cur ≡ f → outer ≡ gs →
    length new ≡ length w.blocks.items →
    h_blocks new ≡ fill_own inner.own (h_tree inner.nodes.items) (h_blocks w.blocks.items) →
    (HRow inner.nodes.items 1 → HRows w.blocks.items → HRows new) →
    Walked w (S.MEnd ∷ rest) p →
    Yields (at_open rest (length new) cur outer) new cur.own cur.nodes.items cur.depths.items outer p
close_goes rest w f cur inner gs outer new p call out is cur_is outer_is count made rows st =
    its_label (length w.blocks.items) w.current.own f gs
    (subst (Labelled (length w.blocks.items) w.current.own) out st.labelled)
    (λ l mine lt. end_goes rest w f cur inner gs outer l new p call out is cur_is outer_is mine lt count made rows st)

pub begin_goes : (rest : List S.CNd) (w : Walk) (owes : ℕ) (args : Vec CType Global) (body : Vec HNode Global)
    (parts : Vec HPart Global) (inner cur : Open) (outer : List Open) (label count : ℕ) (new : List HBlock)
    (p : HBlks × HTm) →
    new ≡ w.blocks.items ++ record { owes = owes; args = args; body = body } ∷ [] → HRow body.items 1 →
    label ≡ length w.blocks.items → count ≡ suc (length args.items) →
    reads [] parts.items ≡ reads [] w.current.parts.items ++ HLabel label ∷ [] →
    cur ≡ record {
      own = w.current.own;
      nodes = w.current.nodes;
      parts = parts;
      call = w.current.call;
      depths = w.current.depths;
    } → outer ≡ cur ∷ w.outer.items →
    inner.own ≡ Some label → inner.nodes.items ≡ [] → inner.parts.items ≡ [] → inner.call ≡ None →
    inner.depths.items ≡ count ∷ [] →
    Walked w (S.MCode owes (ctys args.items) ∷ rest) p →
    Yields (at_open rest (length new) inner outer) new inner.own inner.nodes.items inner.depths.items outer p
begin_goes rest w owes args body parts inner cur outer label count new p is row at number put cur_is outer_is own nodes
    none call depths st =
    let bs = w.blocks.items in
    let b = length bs in
    let k : HBlock = record { owes = owes; args = args; body = body } in
    let g : Open =
    record {
      own = w.current.own;
      nodes = w.current.nodes;
      parts = parts;
      call = w.current.call;
      depths = w.current.depths;
    } in
    let a : Around =
    record {
      own = own_of w.current.own;
      depths = w.current.depths.items;
      values = reads [] w.current.parts.items ++ HLabel b ∷ [];
      call = waiting w.current.call;
    } in
    let fs = around w.outer.items in
    let e = lift (ccount (ctys args.items)) 1 in
    let r = found_in rest (suc b) (Code b) (e ∷ []) [] None (a ∷ fs) in
    let deep : inner.depths.items ≡ e ∷ [] =
    depths ∙ ap (λ n. n ∷ [])
    (let q : count ≡ e = omega (arith, number, count_is args.items, lift_add (ccount (ctys args.items)) 1) in q) in
    let mine : inner.own ≡ Some b = own ∙ ap Some at in
    let outs : outer ≡ g ∷ w.outer.items = outer_is ∙ ap (λ (x : Open). x ∷ w.outer.items) cur_is in
    let long : length new ≡ suc b = ap length is ∙ length-append bs (k ∷ []) ∙ omega arith in
    let same : at_open rest (length new) inner outer ≡ r =
    ap (λ n. at_open rest n inner outer) long
    ∙ ap (λ (x : Option ℕ). found_in rest (suc b) (own_of x) inner.depths.items (reads [] inner.parts.items)
    (waiting inner.call) (around outer)) mine
    ∙ ap (λ x. found_in rest (suc b) (Code b) x (reads [] inner.parts.items) (waiting inner.call) (around outer)) deep
    ∙ ap (λ (x : List HPart). found_in rest (suc b) (Code b) (e ∷ []) (reads [] x) (waiting inner.call) (around outer))
    none
    ∙ ap (λ (x : Option (Vec CType Global)). found_in rest (suc b) (Code b) (e ∷ []) [] (waiting x) (around outer)) call
    ∙ ap (λ (x : List Open). found_in rest (suc b) (Code b) (e ∷ []) [] None (around x)) outs
    ∙ ap (λ (x : List HVal). found_in rest (suc b) (Code b) (e ∷ []) [] None
    ((let y : Around = record {
      own = own_of w.current.own;
      depths = w.current.depths.items;
      values = x;
      call = waiting w.current.call;
    } in y) ∷ fs))
    (put ∙ ap (λ l. reads [] w.current.parts.items ++ HLabel l ∷ []) at) in
    let s1 : Yields r new (Some b) inner.nodes.items inner.depths.items (g ∷ w.outer.items) p =
    begins k r bs new b e g inner.nodes.items w.current.depths.items inner.depths.items w.outer.items p is refl row
    refl nodes deep st in
    let s2 : Yields r new inner.own inner.nodes.items inner.depths.items (g ∷ w.outer.items) p =
    subst (λ (x : Option ℕ). Yields r new x inner.nodes.items inner.depths.items (g ∷ w.outer.items) p)
    (sym mine) s1 in
    let s3 : Yields r new inner.own inner.nodes.items inner.depths.items outer p =
    subst (λ (x : List Open). Yields r new inner.own inner.nodes.items inner.depths.items x p) (sym outs) s2 in
    quiet r (at_open rest (length new) inner outer) new inner.own inner.nodes.items inner.depths.items outer p same s3

pub moved_on : (w : Walk) (ns ms : List S.CNd) (p : HBlks × HTm) → ns ≡ ms → Walked w ns p → Walked w ms p
moved_on w ns ms p e st = subst (λ x. Walked w x p) e st

pub whole_of : (w : Walk) (p : HBlks × HTm) → w.current.call ≡ None → Walked w [] p →
    Whole w.blocks.items w.current.nodes.items p
whole_of w p e st =
    finished w.blocks.items w.current.own w.current.nodes.items w.current.depths.items w.outer.items p
    (subst (λ (x : Option (Vec CType Global)).
    Yields (found_in [] (length w.blocks.items) (own_of w.current.own) w.current.depths.items
    (reads [] w.current.parts.items) (waiting x) (around w.outer.items)) w.blocks.items w.current.own
    w.current.nodes.items w.current.depths.items w.outer.items p) e st)

pub at_end : (w v : Walk) (left : List CNode) (p : HBlks × HTm) → left ≡ [] → Walked w (written left []) p →
    v.current.call ≡ None → ((rest : List S.CNd) → Ends rest → Goes w rest v rest) →
    Whole v.blocks.items v.current.nodes.items p
at_end w v left p none st call goes =
    whole_of v p call
    (goes [] tt p (moved_on w (written left []) [] p (ap (λ (xs : List CNode). written xs []) none) st))

-- the step of a node
pub as_step : {T E : Type 0} (r : Result T E) (n k : S.CNd) (w v : Walk) → n ≡ k → OnOk r (Steps w k v) →
    OnOk r (Steps w n v)
as_step r n k w v e = subst (λ x. OnOk r (Steps w x v)) (sym e)

pub part_step : {T E : Type 0} (r : Result T E) (part : HPart) (n k : S.CNd) (w v : Walk) → n ≡ k → IsPart part k →
    OnOk r ((m : S.CNd) → IsPart part m → Steps w m v) → OnOk r (Steps w n v)
part_step r part n k w v e is h = as_step r n k w v e (on_ok_weaker r (λ f. f k is) h)

pub decl_step : {T E : Type 0} (r : Result T E) (form : HForm) (n k : S.CNd) (w v : Walk) → n ≡ k → Declares form k →
    OnOk r ((m : S.CNd) → Declares form m → Steps w m v) → OnOk r (Steps w n v)
decl_step r form n k w v e is h = as_step r n k w v e (on_ok_weaker r (λ f. f k is) h)
