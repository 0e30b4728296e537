-- The values of one node.
use Rattle.std.proofs.Common.{◌≡◌, ◌<◌, ◌≤◌, ℕ, ◌+◌, List, [], ◌∷◌, ◌++◌, refl, sym, ap, ◌∙◌, subst}
use Rattle.std.proofs.Common.{length, map, take, get_or}
use Rattle.std.proofs.lemmas.List.{take_more, take_all, append-nil}
use Rattle.h_terms.specs.H.{HBlks}
use Rattle.a_terms.specs.Tree as a
use Rattle.a_pass.specs.declared.state.Seen.{Seen}
use Rattle.h_terms.specs.Nodes.{more, reads}
use Rattle.a_terms.specs.NodeTrees.{a_data}
use Rattle.h_terms.specs.declared.node.HPart.{HPart}
use Rattle.a_terms.specs.declared.nodes.AValue.{AValue}
use Rattle.a_terms.specs.declared.nodes.AData.{AData}
use Rattle.a_terms.specs.declared.nodes.ANode.{ANode}
use Rattle.a_laws.specs.Allocate.{Known}
use Rattle.a_pass.specs.Scope.{value_at}
use Rattle.a_pass.specs.Emits.{Made, Reads}
use Rattle.a_pass.proofs.Emitting.{emits_none}
use Rattle.h_terms.proofs.Parts.{reads_push}

pub made_none : (ks : HBlks) (g : List a.ATy) (ls : List Known) (d m : ℕ) (vs : List AValue) (ts : List Seen)
    (now : List ANode) (tuples : List AData) → vs ≡ [] → ts ≡ [] → m ≡ d →
    Made ks g ls (length tuples) d [] now tuples vs ts m now tuples
made_none ks g ls d m vs ts now tuples v t deep = record {
  values = λ e. ap (map (value_at e)) v;
  types = ap (map _) t;
  consts = ap (map _) t;
  depth = deep;
  number = refl;
  emits = emits_none now;
  keeps = sym (append-nil (a_data tuples));
}

pub made_next : (ks : HBlks) (g : List a.ATy) (ls : List Known) (b d : ℕ) (ps : List HPart) (i : ℕ) (p : HPart)
    (begin : List ANode) (kept : List AData) (vs ws : List AValue) (ts us : List Seen) (m k : ℕ) (now new : List ANode)
    (tuples more2 : List AData) → i < length ps → p ≡ get_or ps i p →
    Made ks g ls b d (reads [] (take i ps)) begin kept vs ts m now tuples →
    Reads ks g ls (more p) vs ts m now tuples ws us k new more2 →
    Made ks g ls b d (reads [] (take (i + 1) ps)) begin kept ws us k new more2
made_next ks g ls b d ps i p begin kept vs ws ts us m k now new tuples more2 lt is made step =
    subst (λ xs. Made ks g ls b d xs begin kept ws us k new more2)
    (sym (ap (reads []) (take_more ps i p lt ∙ ap (λ q. take i ps ++ q ∷ []) (sym is))
    ∙ reads_push [] (take i ps) p)) (step b d (reads [] (take i ps)) begin kept made)

pub made_all : (ks : HBlks) (g : List a.ATy) (ls : List Known) (b d : ℕ) (ps : List HPart) (i : ℕ) (begin : List ANode)
    (kept : List AData) (vs : List AValue) (ts : List Seen) (m : ℕ) (now : List ANode) (tuples : List AData) →
    length ps ≤ i →
    Made ks g ls b d (reads [] (take i ps)) begin kept vs ts m now tuples →
    Made ks g ls b d (reads [] ps) begin kept vs ts m now tuples
made_all ks g ls b d ps i begin kept vs ts m now tuples le made =
    subst (λ xs. Made ks g ls b d (reads [] xs) begin kept vs ts m now tuples) (take_all i ps le) made

-- a list that is made one by one of the items of another
pub mapped_step : {X Y Z : Type 0} (f : Y → Z) (h : X → Z) (made new : List Y) (y : Y) (rest xs : List X) (x : X)
    (all : List Z) → rest ≡ x ∷ xs → new ≡ made ++ y ∷ [] → f y ≡ h x →
    map f made ++ map h rest ≡ all → map f new ++ map h xs ≡ all
mapped_step {Y = Y} f h made new y rest xs x all r n same is =
    ap (λ ys. map f ys ++ map h xs) n ∙ pushed made ∙ ap (λ z. map f made ++ (z ∷ map h xs)) same
    ∙ ap (λ ys. map f made ++ map h ys) (sym r) ∙ is
  where
    pushed : (ys : List Y) → map f (ys ++ y ∷ []) ++ map h xs ≡ map f ys ++ (f y ∷ map h xs)
    pushed [] = refl
    pushed (z ∷ ys) = ap (λ zs. f z ∷ zs) (pushed ys)

pub mapped_end : {X Y Z : Type 0} (f : Y → Z) (h : X → Z) (made : List Y) (rest : List X) (all : List Z) → rest ≡ [] →
    map f made ++ map h rest ≡ all → map f made ≡ all
mapped_end f h made rest all r is = sym (append-nil (map f made)) ∙ ap (λ ys. map f made ++ map h ys) (sym r) ∙ is
