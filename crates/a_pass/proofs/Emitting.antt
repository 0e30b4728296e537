-- What is added to nodes, piece by piece.
use Rattle.std.proofs.Common.{◌≡◌, ℕ, suc, List, [], ◌∷◌, ◌++◌, refl, sym, ap, ◌∙◌, subst, append_assoc, ap₂}
use Rattle.std.proofs.lemmas.List.{append-nil}
use Rattle.a_terms.specs.Tree as a
use Rattle.a_terms.specs.NodeTrees.{a_build, a_values, a_onto}
use Rattle.calc_core.specs.Ends.{lift}
use Rattle.calc_core.specs.Row as r
use Rattle.a_terms.specs.Arity.{ARow, AArity, a_kids}
use Rattle.a_terms.specs.declared.nodes.AForm.TheVariants as A
use Rattle.a_terms.specs.declared.nodes.ANode.{ANode}
use Rattle.a_terms.specs.declared.nodes.AValue.{AValue}
use Rattle.a_pass.specs.Scope.{value_at}
use Rattle.a_pass.specs.Emits.{Emits, inits}

pub onto_append : (xs ys : List ANode) (ts : List a.ATm) → a_onto (xs ++ ys) ts ≡ a_onto xs (a_onto ys ts)
onto_append [] ys ts = refl
onto_append (x ∷ xs) ys ts = ap (a_build x.form (a_values x.values.items)) (onto_append xs ys ts)

pub emits_none : (now : List ANode) → Emits now now (λ r. r)
emits_none now = record {
  nodes = [];
  is = sym (append-nil now);
  terms = λ r rs. refl;
  row = λ rest n h. h;
}

pub emits_then : (old mid new : List ANode) (p q : a.ATm → a.ATm) → Emits old mid p → Emits mid new q →
    Emits old new (λ r. p (q r))
emits_then old mid new p q e f = record {
  nodes = e.nodes ++ f.nodes;
  is = f.is ∙ ap (λ (xs : List ANode). xs ++ f.nodes) e.is ∙ append_assoc old e.nodes f.nodes;
  terms = λ r rs. onto_append e.nodes f.nodes (r ∷ rs) ∙ ap (a_onto e.nodes) (f.terms r rs) ∙ e.terms (q r) rs;
  row = λ rest n h. subst (λ (xs : List ANode). ARow xs (suc n)) (sym (append_assoc e.nodes f.nodes rest))
      (e.row (f.nodes ++ rest) n (f.row rest n h));
}

pub emits_same : (old new : List ANode) (p q : a.ATm → a.ATm) → ((r : a.ATm) → p r ≡ q r) → Emits old new p →
    Emits old new q
emits_same old new p q same e = record {
  nodes = e.nodes;
  is = e.is;
  terms = λ r rs. e.terms r rs ∙ ap (λ (x : a.ATm). x ∷ rs) (same r);
  row = e.row;
}

pub fill_step : (old mid end : List ANode) (l i k j : ℕ) (v : AValue) (vs ws : List AValue) → ws ≡ v ∷ vs → k ≡ suc l →
    j ≡ suc i → Emits old mid (λ r. a.Let (a.Init (a.Var 0) i (value_at k v)) r) → Emits mid end (inits k j vs) →
    Emits old end (inits l i ws)
fill_step old mid end l i k j v vs ws is kl ji e f =
    let h : Emits old end (λ r. a.Let (a.Init (a.Var 0) i (value_at k v)) (inits k j vs r)) =
    emits_then old mid end _ _ e f in
    emits_same old end _ _ (λ r. ap₂ (λ x y. a.Let (a.Init (a.Var 0) i (value_at x v)) (inits x y vs r)) kl ji
    ∙ ap (λ xs. inits l i xs r) (sym is)) h

-- one node that initialises field 1
pub emits_init : (old new : List ANode) (node : ANode) (v w : a.AVal) → new ≡ old ++ node ∷ [] → node.form ≡ A.Init 1 →
    a_values node.values.items ≡ v ∷ w ∷ [] → Emits old new (λ r. a.Let (a.Init v 1 w) r)
emits_init old new node v w is form vals = record {
  nodes = node ∷ [];
  is = is;
  terms = λ r rs. ap₂ (λ f ws. a_build f ws (r ∷ rs)) form vals;
  row = λ rest n h. (
    subst (λ f. AArity f (a_values node.values.items)) (sym form) (subst r.IsTwo (sym vals) tt),
    subst (λ f. ARow rest (lift (a_kids f) n)) (sym form) h,
  );
}
