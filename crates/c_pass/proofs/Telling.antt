-- The last walk looks at the types of a code's closure inside it only where the code's own name is used.
use Rattle.std.proofs.Common.{◌≡◌, ◌+◌, ℕ, Bool, true, false, List, [], ◌∷◌, length, refl, ap, ◌∙◌}
use Rattle.calc_core.specs.Ends.{lift}
use Rattle.k_terms.specs.K.{kcount}
use Rattle.k_terms.specs.Stream as N
use Rattle.c_terms.specs.Stream as S
use Rattle.c_rules.specs.Emit as E
use Rattle.c_pass.specs.Read.{all_told, told, told_by}

own_same : (b : Bool) (i : E.Info) (l : ℕ) (rest : List S.CNd) →
    E.own_closure b l (told_by b i) rest ≡ E.own_closure b l i rest
own_same true i l rest = refl
own_same false i l rest = refl

opened_same : (i : E.Info) (n : ℕ) (rest : List S.CNd) → E.opened (told i) n rest ≡ E.opened i n rest
opened_same i n rest =
    ap (λ r. S.MCode i.owes i.args ∷ E.fields (length i.kept) (lift n 2) 1 r)
    (own_same i.own i (lift n 2 + length i.kept) rest)

pub emitted : (ns : List N.KNd) (f : E.Frame) (fs : List E.Frame) (is : List E.Info) (cs : List E.Note) →
    E.emit ns f fs (all_told is) cs ≡ E.emit ns f fs is cs
emitted [] f fs is cs = refl
emitted (N.NVar l ∷ ns) f fs is cs = ap (λ r. S.MVar (E.spot f l) ∷ r) (emitted ns f fs is cs)
emitted (N.NInt n ∷ ns) f fs is cs = ap (λ r. S.MInt n ∷ r) (emitted ns f fs is cs)
emitted (N.NTuple n ∷ ns) f fs is cs = ap (λ r. S.MTuple n ∷ r) (emitted ns f fs is cs)
emitted (N.NCode d td owes args ∷ ns) f fs [] cs = emitted ns f fs [] cs
emitted (N.NCode d td owes args ∷ ns) f fs (i ∷ is) cs =
    ap (E.opened (told i) (kcount args)) (emitted ns (E.frame_of i d (kcount args)) (f ∷ fs) is cs)
    ∙ opened_same i (kcount args) (E.emit ns (E.frame_of i d (kcount args)) (f ∷ fs) is cs)
emitted (N.NEnd ∷ ns) f [] is cs = emitted ns f [] is cs
emitted (N.NEnd ∷ ns) f (g ∷ fs) is cs = ap (E.closed f g) (emitted ns g fs is cs)
emitted (N.NName d t ∷ ns) f fs is cs = ap (λ r. S.MName (E.spot f d) ∷ r) (emitted ns f fs is cs)
emitted (N.NProj d i t ∷ ns) f fs is cs = ap (λ r. S.MProj (E.spot f d) i ∷ r) (emitted ns f fs is cs)
emitted (N.NArith d op ∷ ns) f fs is cs = ap (λ r. S.MArith (E.spot f d) op ∷ r) (emitted ns f fs is cs)
emitted (N.NCall d td ts n ∷ ns) f fs is [] = emitted ns f fs is []
emitted (N.NCall d td ts n ∷ ns) f fs is (E.Calls us ∷ cs) = ap (E.called (E.spot f d) us n) (emitted ns f fs is cs)
emitted (N.NCall d td ts n ∷ ns) f fs is (E.Packs h s ∷ cs) = emitted ns f fs is cs
emitted (N.NPack d td x y ∷ ns) f fs is [] = emitted ns f fs is []
emitted (N.NPack d td x y ∷ ns) f fs is (E.Calls us ∷ cs) = emitted ns f fs is cs
emitted (N.NPack d td x y ∷ ns) f fs is (E.Packs h s ∷ cs) =
    ap (λ r. S.MPack h s ∷ S.MName (E.spot f d) ∷ r) (emitted ns f fs is cs)
emitted (N.NUnpack d td t ∷ ns) f fs is cs = ap (λ r. S.MUnpack (E.spot f d) ∷ r) (emitted ns f fs is cs)
emitted (N.NCell d t ∷ ns) f fs is cs = ap (λ r. S.MCell (E.spot f d) ∷ r) (emitted ns f fs is cs)
emitted (N.NGet d t ∷ ns) f fs is cs = ap (λ r. S.MGet (E.spot f d) ∷ r) (emitted ns f fs is cs)
emitted (N.NSet d ∷ ns) f fs is cs = ap (λ r. S.MSet (E.spot f d) ∷ r) (emitted ns f fs is cs)
emitted (N.NIf ∷ ns) f fs is cs = ap (λ r. S.MIf ∷ r) (emitted ns f fs is cs)
emitted (N.NElse td ∷ ns) f fs is cs = ap (λ r. S.MElse ∷ r) (emitted ns f fs is cs)
emitted (N.NHalt ∷ ns) f fs is cs = ap (λ r. S.MHalt ∷ r) (emitted ns f fs is cs)
