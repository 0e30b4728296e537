-- Types that are made one by one.
use Rattle.std.proofs.Common.{◌≡◌, ℕ, List, [], ◌∷◌, refl, ap, ap₂, ◌∙◌, sym, Bool, true, ◌++◌, ◌<◌}
use Rattle.std.proofs.Common.{length, take, get_or, ◌+◌}
use Rattle.calc_core.specs.declared.types.CoreType.{CoreType as CType}
use Rattle.c_terms.specs.Read.{ctree, ctys}
use Rattle.idx_core.specs.Over.{At}
use Rattle.a_terms.specs.ReadLaws.{took, asnoc, fsnoc, atrees_snoc, afields_snoc}
use Rattle.a_terms.specs.Tree as a
use Rattle.a_terms.specs.Tree.{over, over_types, over_fields}
use Rattle.a_terms.specs.Read.{atree, atrees, afields}
use Rattle.a_terms.specs.declared.types.AType.{AType}
use Rattle.a_terms.specs.Typing.{aset}
use Rattle.a_laws.specs.Allocate.{atype, atypes}

types_snoc : (f : At a.ATy) (d : ℕ) (ts : List CType) (t : CType) →
    over_types f d (atypes (ctys (ts ++ t ∷ [])))
    ≡ asnoc (over_types f d (atypes (ctys ts))) (over f d (atype (ctree t)))
types_snoc f d [] t = refl
types_snoc f d (u ∷ ts) t = ap (a.MoreATys (over f d (atype (ctree u)))) (types_snoc f d ts t)

fields_snoc : (f : At a.ATy) (d : ℕ) (ts : List CType) (t : CType) →
    over_fields f d (aset (atypes (ctys (ts ++ t ∷ []))))
    ≡ fsnoc (over_fields f d (aset (atypes (ctys ts)))) (over f d (atype (ctree t))) true
fields_snoc f d [] t = refl
fields_snoc f d (u ∷ ts) t = ap (a.MoreAFields (over f d (atype (ctree u))) true) (fields_snoc f d ts t)

pub atrees_push : (f : At a.ATy) (d : ℕ) (xs : List AType) (x : AType) (ts : List CType) (i : ℕ) (t : CType)
    (new : List AType) → i < length ts → t ≡ get_or ts i t → new ≡ xs ++ x ∷ [] →
    atree x ≡ over f d (atype (ctree t)) → atrees xs ≡ over_types f d (atypes (ctys (take i ts))) →
    atrees new ≡ over_types f d (atypes (ctys (take (i + 1) ts)))
atrees_push f d xs x ts i t new lt is n same h =
    ap atrees n ∙ atrees_snoc xs x ∙ ap₂ asnoc h same
    ∙ sym (ap (λ ys. over_types f d (atypes (ctys ys))) (took ts i t lt is) ∙ types_snoc f d (take i ts) t)

pub afields_push : (f : At a.ATy) (d : ℕ) (xs : List (AType × Bool)) (x : AType) (ts : List CType) (i : ℕ) (t : CType)
    (new : List (AType × Bool)) → i < length ts → t ≡ get_or ts i t → new ≡ xs ++ (x, true) ∷ [] →
    atree x ≡ over f d (atype (ctree t)) → afields xs ≡ over_fields f d (aset (atypes (ctys (take i ts)))) →
    afields new ≡ over_fields f d (aset (atypes (ctys (take (i + 1) ts))))
afields_push f d xs x ts i t new lt is n same h =
    ap afields n ∙ afields_snoc xs (x, true) ∙ ap₂ (λ us u. fsnoc us u true) h same
    ∙ sym (ap (λ ys. over_fields f d (aset (atypes (ctys ys)))) (took ts i t lt is) ∙ fields_snoc f d (take i ts) t)
