-- Nodes that are written.
use Rattle.std.proofs.Common.{◌≡◌, ℕ, suc, ◌+◌, ◌-◌, ◌<◌, List, [], ◌∷◌, ◌++◌, length, drop, refl, ap, ◌∙◌, sym, arith}
use Rattle.std.proofs.Common.{get_or, zero, map}
use Rattle.std.specs.Prelude.{Bool, true, false}
use Rattle.calc_core.specs.Ends.{after_one, lift}
use Rattle.k_terms.specs.K.{KTys, kcount}
use Rattle.k_terms.specs.Stream as N
use Rattle.k_terms.specs.Read.{knode}
use Rattle.k_terms.specs.declared.node.KNode.{KNode}
use Rattle.c_terms.specs.C.{CTy, CTys}
use Rattle.c_terms.specs.Stream as S
use Rattle.c_terms.specs.Read.{cnode, written}
use Rattle.c_terms.specs.declared.node.CNode.{CNode}
use Rattle.c_rules.specs.Emit as E
use Rattle.calc_core.proofs.Lifts.{lift_add}

pub written_push : (xs : List CNode) (x : CNode) (rest : List S.CNd) →
    written (xs ++ x ∷ []) rest ≡ written xs (cnode x ∷ rest)
written_push [] x rest = refl
written_push (y ∷ xs) x rest = ap (λ ns. cnode y ∷ ns) (written_push xs x rest)

pub called_is : (at code env n m : ℕ) (ts : CTys) (rest : List S.CNd) → code ≡ at + 1 → env ≡ at + 2 → m ≡ n + 1 →
    (let list : List S.CNd = S.MUnpack at ∷ S.MVar at ∷ S.MProj code 1 ∷ S.MVar at ∷ S.MProj env 2 ∷ S.MVar code
    ∷ S.MCall ts m ∷ S.MVar env ∷ rest in list) ≡ E.called at ts n rest
called_is at code env n m ts rest e1 e2 e3 =
    let f1 : code ≡ suc at = omega (arith, e1) in
    let f2 : env ≡ suc (suc at) = omega (arith, e2) in
    let f3 : m ≡ suc n = omega (arith, e3) in
    rw (f1, f2, f3) refl

pub fields_step : (k i l m : ℕ) (rest : List S.CNd) → i < k → m ≡ l + 1 →
    E.fields (k - i) l (i + 1) rest ≡ S.MVar 1 ∷ S.MProj l (i + 1) ∷ E.fields (k - (i + 1)) m (i + 1 + 1) rest
fields_step k i l m rest h e =
    let f1 : k - i ≡ suc (k - (i + 1)) = omega arith in
    let f2 : suc l ≡ m = omega (arith, e) in
    let f3 : suc (i + 1) ≡ i + 1 + 1 = omega arith in
    ap (λ q. E.fields q l (i + 1) rest) f1
    ∙ ap (λ q. S.MVar 1 ∷ S.MProj l (i + 1) ∷ E.fields (k - (i + 1)) q (suc (i + 1)) rest) f2
    ∙ ap (λ q. S.MVar 1 ∷ S.MProj l (i + 1) ∷ E.fields (k - (i + 1)) m q rest) f3

abbrev pub framed : E.Info → ℕ → ℕ → ℕ → ℕ → E.Frame
framed i level split first start =
    record {
      level = level;
      split = split;
      first = first;
      start = start;
      kept = i.kept;
      apply = i.apply;
      hidden = i.hidden;
      shape = i.shape;
    }

pub frame_is : (i : E.Info) (d n s1 split first last start : ℕ) → s1 ≡ n + d → split ≡ s1 + 1 → first ≡ n + 2 →
    last ≡ first + length i.kept → start ≡ after_one i.own last → framed i d split first start ≡ E.frame_of i d n
frame_is i d n s1 split first last start e1 e2 e3 e4 e5 =
    let f1 : split ≡ lift n (suc d) = omega (arith, e1, e2, lift_add n (suc d)) in
    let f2 : first ≡ lift n 2 = omega (arith, e3, lift_add n 2) in
    let f3 : last ≡ lift n 2 + length i.kept = omega (arith, e4, f2) in
    ap (λ x. framed i d x first start) f1 ∙ ap (λ x. framed i d (lift n (suc d)) x start) f2
    ∙ ap (framed i d (lift n (suc d)) (lift n 2)) (e5 ∙ ap (after_one i.own) f3)

pub after_true : (b : Bool) (x y : ℕ) → b ≡ true → y ≡ x + 1 → y ≡ after_one b x
after_true b x y e h = let f : y ≡ suc x = omega (arith, h) in f ∙ sym (ap (λ q. after_one q x) e)

pub after_false : (b : Bool) (x : ℕ) → b ≡ false → x ≡ after_one b x
after_false b x e = sym (ap (λ q. after_one q x) e)

pub opened_is : (i : E.Info) (n first last k : ℕ) (rest : List S.CNd) → first ≡ n + 2 → last ≡ first + length i.kept →
    k ≡ length i.kept →
    (let list : List S.CNd = S.MCode i.owes i.args ∷ E.fields k first 1 (E.own_closure i.own last i rest) in list)
    ≡ E.opened i n rest
opened_is i n first last k rest e1 e2 e3 =
    let f1 : first ≡ lift n 2 = omega (arith, e1, lift_add n 2) in
    let f2 : last ≡ lift n 2 + length i.kept = omega (arith, e2, f1) in
    ap (λ q. S.MCode i.owes i.args ∷ E.fields q first 1 (E.own_closure i.own last i rest)) e3
    ∙ ap (λ q. S.MCode i.owes i.args ∷ E.fields (length i.kept) q 1 (E.own_closure i.own last i rest)) f1
    ∙ ap (λ q. S.MCode i.owes i.args ∷ E.fields (length i.kept) (lift n 2) 1 (E.own_closure i.own q i rest)) f2

pub own_is : (i : E.Info) (own : Bool) (apply : CTys) (hidden shape : CTy) (level : ℕ) (rest : List S.CNd) →
    own ≡ true → i.apply_in ≡ apply → i.hidden_in ≡ hidden → i.shape_in ≡ shape →
    (let list : List S.CNd = S.MVar 0 ∷ S.MApply apply ∷ S.MVar 1 ∷ S.MTuple 2 ∷ S.MPack hidden shape ∷ S.MName level
    ∷ rest in list) ≡ E.own_closure own level i rest
own_is i own apply hidden shape level rest e1 e2 e3 e4 =
    ap (λ ts. S.MVar 0 ∷ S.MApply ts ∷ S.MVar 1 ∷ S.MTuple 2 ∷ S.MPack hidden shape ∷ S.MName level ∷ rest) (sym e2)
    ∙ ap (λ h. S.MVar 0 ∷ S.MApply i.apply_in ∷ S.MVar 1 ∷ S.MTuple 2 ∷ S.MPack h shape ∷ S.MName level ∷ rest) (sym e3)
    ∙ ap (λ s. S.MVar 0 ∷ S.MApply i.apply_in ∷ S.MVar 1 ∷ S.MTuple 2 ∷ S.MPack i.hidden_in s ∷ S.MName level ∷ rest)
    (sym e4)
    ∙ sym (ap (λ b. E.own_closure b level i rest) e1)

pub code_step : (out0 out1 : List CNode) (f0 f1 : E.Frame) (fs0 fs1 : List E.Frame) (is0 is1 : List E.Info)
    (cs : List E.Note) (i : E.Info) (d td owes : ℕ) (args : KTys) (n : ℕ) (rest : List N.KNd) →
    is0 ≡ i ∷ is1 → fs1 ≡ f0 ∷ fs0 → f1 ≡ E.frame_of i d n → n ≡ kcount args →
    ((r : List S.CNd) → written out1 r ≡ written out0 (E.opened i n r)) →
    written out1 (E.emit rest f1 fs1 is1 cs) ≡ written out0 (E.emit (N.NCode d td owes args ∷ rest) f0 fs0 is0 cs)
code_step out0 out1 f0 f1 fs0 fs1 is0 is1 cs i d td owes args n rest e1 e2 e3 e4 w =
    w (E.emit rest f1 fs1 is1 cs)
    ∙ ap (λ f. written out0 (E.opened i n (E.emit rest f fs1 is1 cs))) e3
    ∙ ap (λ (fs : List E.Frame). written out0 (E.opened i n (E.emit rest (E.frame_of i d n) fs is1 cs))) e2
    ∙ ap (λ m. written out0 (E.opened i m (E.emit rest (E.frame_of i d m) (f0 ∷ fs0) is1 cs))) e4
    ∙ ap (λ (is : List E.Info). written out0 (E.emit (N.NCode d td owes args ∷ rest) f0 fs0 is cs)) (sym e1)

pub read_drop : (ns : List KNode) (i : ℕ) (n : KNode) → i < length ns → n ≡ get_or ns i n →
    map knode (drop i ns) ≡ knode n ∷ map knode (drop (i + 1) ns)
read_drop [] i n h e = absurd (omega arith)
read_drop (m ∷ ns) zero n h e = ap (λ x. knode x ∷ map knode ns) (sym e)
read_drop (m ∷ ns) (suc i) n h e = read_drop ns i n (omega arith) e
    ∙ ap (λ j. knode n ∷ map knode (drop j (m ∷ ns))) (let q : suc (i + 1) ≡ suc i + 1 = omega arith in q)
