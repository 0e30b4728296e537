-- The fields of data tuples.
use Rattle.std.proofs.Common.{◌≡◌, ℕ, ◌+◌, ◌<◌, ◌++◌, List, [], ◌∷◌, length, take, get_or, Bool, true, refl, sym, ap}
use Rattle.std.proofs.Common.{ap₂, ◌∙◌}
use Rattle.a_terms.specs.Tree as a
use Rattle.a_terms.specs.Typing.{data_fields}
use Rattle.a_terms.specs.Read.{atree, afields}
use Rattle.a_terms.specs.NodeTrees.{a_consts}
use Rattle.a_terms.specs.declared.types.AType.{AType}
use Rattle.a_terms.specs.declared.nodes.AValue.{AValue}
use Rattle.a_terms.specs.ReadLaws.{fsnoc, afields_snoc, took}

full_snoc : (cs : List (AValue × AType)) (c : AValue × AType) →
    data_fields (a_consts (cs ++ c ∷ [])) ≡ fsnoc (data_fields (a_consts cs)) (atree c.1) true
full_snoc [] c = refl
full_snoc (x ∷ cs) c = ap (a.MoreAFields (atree x.1) true) (full_snoc cs c)

pub full_push : (xs : List (AType × Bool)) (x : AType) (cs : List (AValue × AType)) (i : ℕ) (c : AValue × AType)
    (new : List (AType × Bool)) → i < length cs → c ≡ get_or cs i c → new ≡ xs ++ (x, true) ∷ [] →
    atree x ≡ atree c.1 → afields xs ≡ data_fields (a_consts (take i cs)) →
    afields new ≡ data_fields (a_consts (take (i + 1) cs))
full_push xs x cs i c new lt is n same h =
    ap afields n ∙ afields_snoc xs (x, true) ∙ ap₂ (λ us u. fsnoc us u true) h same
    ∙ sym (ap (λ ds. data_fields (a_consts ds)) (took cs i c lt is) ∙ full_snoc (take i cs) c)
