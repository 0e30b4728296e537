-- The codes of a term are its code nodes.
use Rattle.std.proofs.Common.{◌≡◌, ℕ, suc, ◌+◌, ◌≤◌, List, [], ◌∷◌, map, take, length, count_by, cond, refl, ap, ap₂}
use Rattle.std.proofs.Common.{◌∙◌, arith}
use Rattle.std.proofs.lemmas.List.{take_all}
use Rattle.std.proofs.lemmas.List.Sums.{sum_by-cons}
use Rattle.calc_core.specs.Ends.{lift, after_one}
use Rattle.k_terms.specs.K.{KTy, KVal, KVar, KInt, KTuple, KCode, KVals, NoKVals, MoreKVals, KDecl, KName, KProj}
use Rattle.k_terms.specs.K.{KArith, KPack, KUnpack, KCell, KGet, KSet, KTm, KLet, KCall, KIf, KHalt, kcount}
use Rattle.k_terms.specs.K.{kbody_scope, opens, scope_more}
use Rattle.k_terms.specs.Types.{kd_type}
use Rattle.k_terms.specs.Stream.{KNd, NTuple, NCode, NEnd, NName, NProj, NArith, NPack, NUnpack, NCell, NGet, NSet}
use Rattle.k_terms.specs.Stream.{NCall, NIf, NElse, NHalt, kwidth, klin_v, klin_vs, klin_d, klin_t}
use Rattle.k_terms.specs.Size.{codes_v, codes_vs, codes_d, codes_t}
use Rattle.k_terms.specs.Read.{knode}
use Rattle.k_terms.specs.Counts.{code_node}
use Rattle.k_terms.specs.declared.node.KNode.{KNode}
use Rattle.k_terms.specs.declared.node.KNode.TheVariants as N

abbrev own : KNd → ℕ
own (NCode level depth owes args) = 1
own _ = 0

abbrev coded : List KNd → ℕ
coded [] = 0
coded (n ∷ ns) = own n + coded ns

mutual
  coded_v : (d td : ℕ) (g : List KTy) (v : KVal) (ns : List KNd) → coded (klin_v d td g v ns) ≡ codes_v v + coded ns
  coded_v d td g (KVar i) ns = refl
  coded_v d td g (KInt n) ns = refl
  coded_v d td g (KTuple vs) ns = omega (arith, coded_vs d td g vs (NTuple (kwidth vs) ∷ ns))
  coded_v d td g (KCode owes args body) ns =
      omega (arith, coded_t (lift (kcount args) (suc d)) (lift owes td) (kbody_scope owes args g) body (NEnd ∷ ns))

  coded_vs : (d td : ℕ) (g : List KTy) (vs : KVals) (ns : List KNd) →
      coded (klin_vs d td g vs ns) ≡ codes_vs vs + coded ns
  coded_vs d td g NoKVals ns = omega arith
  coded_vs d td g (MoreKVals v vs) ns = omega (arith, coded_v d td g v (klin_vs d td g vs ns), coded_vs d td g vs ns)

  coded_d : (d td : ℕ) (g : List KTy) (x : KDecl) (ns : List KNd) → coded (klin_d d td g x ns) ≡ codes_d x + coded ns
  coded_d d td g (KName v) ns = omega (arith, coded_v d td g v (NName d (kd_type g (KName v)) ∷ ns))
  coded_d d td g (KProj i v) ns = omega (arith, coded_v d td g v (NProj d i (kd_type g (KProj i v)) ∷ ns))
  coded_d d td g (KArith op v w) ns =
      omega (arith, coded_v d td g v (klin_v d td g w (NArith d op ∷ ns)), coded_v d td g w (NArith d op ∷ ns))
  coded_d d td g (KPack h v s) ns = omega (arith, coded_v d td g v (NPack d td h s ∷ ns))
  coded_d d td g (KUnpack v) ns = omega (arith, coded_v d td g v (NUnpack d td (kd_type g (KUnpack v)) ∷ ns))
  coded_d d td g (KCell v) ns = omega (arith, coded_v d td g v (NCell d (kd_type g (KCell v)) ∷ ns))
  coded_d d td g (KGet v) ns = omega (arith, coded_v d td g v (NGet d (kd_type g (KGet v)) ∷ ns))
  coded_d d td g (KSet v w) ns =
      omega (arith, coded_v d td g v (klin_v d td g w (NSet d ∷ ns)), coded_v d td g w (NSet d ∷ ns))

  pub coded_t : (d td : ℕ) (g : List KTy) (t : KTm) (ns : List KNd) → coded (klin_t d td g t ns) ≡ codes_t t + coded ns
  coded_t d td g (KLet x t) ns =
      let rest : List KNd = klin_t (suc d) (after_one (opens x) td) (kd_type g x ∷ scope_more (opens x) g) t ns in
      omega (
        arith,
        coded_d d td g x rest,
        coded_t (suc d) (after_one (opens x) td) (kd_type g x ∷ scope_more (opens x) g) t ns,
      )
  coded_t d td g (KCall f ts vs) ns =
      omega (arith, coded_v d td g f (NCall d td ts (kwidth vs) ∷ klin_vs d td g vs ns), coded_vs d td g vs ns)
  coded_t d td g (KIf v t u) ns =
      omega (
        arith,
        coded_v d td g v (NIf ∷ klin_t d td g t (NElse td ∷ klin_t d td g u ns)),
        coded_t d td g t (NElse td ∷ klin_t d td g u ns),
        coded_t d td g u ns,
      )
  coded_t d td g (KHalt v) ns = omega (arith, coded_v d td g v (NHalt ∷ ns))

own_is : (x : KNode) → cond (code_node x) 1 0 ≡ own (knode x)
own_is (N.Var i) = refl
own_is (N.Int n) = refl
own_is (N.Tuple count) = refl
own_is (N.Code d td owes args) = refl
own_is N.End = refl
own_is (N.Name d t) = refl
own_is (N.Proj d i t) = refl
own_is (N.Arith d op) = refl
own_is (N.Pack d td h s) = refl
own_is (N.Unpack d td t) = refl
own_is (N.Cell d t) = refl
own_is (N.Get d t) = refl
own_is (N.Set d) = refl
own_is (N.Call d td types count) = refl
own_is N.If0 = refl
own_is (N.Else td) = refl
own_is N.Halt = refl

counted : (xs : List KNode) → count_by code_node xs ≡ coded (map knode xs)
counted [] = refl
counted (x ∷ xs) =
    sum_by-cons (λ (y : KNode). cond (code_node y) 1 0) x xs ∙ ap₂ (λ (m n : ℕ). m + n) (own_is x) (counted xs)

pub codes_are : (xs : List KNode) (n : ℕ) (t : KTm) → map knode xs ≡ klin_t 0 0 [] t [] → length xs ≤ n →
    count_by code_node (take n xs) ≡ codes_t t
codes_are xs n t whole all =
    ap (count_by code_node) (take_all n xs all) ∙ counted xs ∙ ap coded whole ∙ omega (arith, coded_t 0 0 [] t [])
