-- The tasks of the binding of names, one after the other.
use Rattle.std.specs.Prelude.{Result, Ok, Err, MatchResult}
use Rattle.std.proofs.Common.{◌≡◌, ℕ, zero, suc, ◌+◌, ◌-◌, ◌*◌, ◌≤◌, List, [], ◌∷◌, ◌++◌, length, map, take, drop}
use Rattle.std.proofs.Common.{refl, ap, ap₂, ◌∙◌, sym, subst, append_assoc, arith}
use Rattle.std.proofs.lemmas.List.{length_push, length-append}
use Rattle.std.proofs.Math.Seq.{take-append_seam, drop-append_seam}
use Rattle.idx_core.specs.declared.span.Span.{Span}
use Rattle.idx_core.specs.declared.arith.Op.{Op}
use Rattle.idx_core.specs.Names.{Name}
use Rattle.f_terms.specs.Tm.{Tm, Spn, SFix, SApp, SGen, SInst, STuple, SProj, SArith, SIf0, SLet, SPack, SOpen, SRef}
use Rattle.f_terms.specs.Tm.{SDeref, SAssign, tms}
use Rattle.f_terms.specs.Read.{tree, place}
use Rattle.f_terms.specs.Stacked.{arity, step_tree, stacked}
use Rattle.f_terms.specs.declared.types.FType.{FType}
use Rattle.f_terms.specs.declared.stack.FStep.{FStep}
use Rattle.f_terms.specs.declared.stack.FStep.TheVariants as form
use Rattle.f_grammar.specs.Raw.{RawTy, RawTm, RVar, RNum, RFix, RGen, RApp, RInst, RFields, RProj, RArith, RIf0, RLet}
use Rattle.f_grammar.specs.Raw.{RPack, ROpen, RCell, RDeref, RAssign, RawTms, NoRawTms, MoreRawTms, nodes, nodes_all}
use Rattle.f_grammar.specs.Scope.{spelled, TypeOf, TermOf, of_fix, of_gen, of_app, of_inst, of_fields, of_proj}
use Rattle.f_grammar.specs.Scope.{of_arith, of_if0, of_let, of_pack, of_open, of_cell, of_deref, of_assign, TermsOf}
use Rattle.f_grammar.specs.Scope.{of_no_terms, of_more_terms, Use, type_uses, uses, all_uses}
use Rattle.f_parser.specs.Resolve.{StopsAt}
use Rattle.f_parser.specs.Binding.{Todo, Bind, BindAll, NameIt, NameBoth, UseAt, PackAt, Put, todo, todos_before}
use Rattle.f_parser.specs.Binding.{todos, Stand, stand, outer_values, outer_types, values_left, types_left, uses_left}
use Rattle.f_parser.specs.Binding.{count, Enough, field_steps, Follows, Steps}
use Rattle.f_parser.specs.declared.resolve.Unresolved.{Unresolved}
use Rattle.f_parser.specs.declared.resolve.Unresolved.TheVariants.{Memory}
use Rattle.f_parser.specs.declared.task.Leaves.{Leaves}
use Rattle.f_parser.specs.declared.task.Leaves.TheVariants.{Nothing, Function, Abstraction, Binding, Opening}
use Rattle.f_parser.specs.declared.task.Task.{Task}
use Rattle.f_grammar.specs.Raw.{raw_tms}
use Rattle.f_grammar.proofs.Bound.{type_bound, term_bound}
use Rattle.f_parser.proofs.Resolving.{stops_left, stops_right}

-- a task more is the next one
pub todos_push : (tds : List Todo) (ts : List Task) (t : Task) →
    todos_before tds (ts ++ t ∷ []) ≡ todo t ∷ todos_before tds ts
todos_push tds [] t = refl
todos_push tds (x ∷ ts) t = todos_push (todo x ∷ tds) ts t

-- a form takes the terms that were made last
take_front : (ts us : List Tm) (k : ℕ) → k ≡ length ts → take k (ts ++ us) ≡ ts
take_front ts us k e = ap (λ n. take n (ts ++ us)) e ∙ take-append_seam ts us

drop_front : (ts us : List Tm) (k : ℕ) → k ≡ length ts → drop k (ts ++ us) ≡ us
drop_front ts us k e = ap (λ n. drop n (ts ++ us)) e ∙ drop-append_seam ts us

pub stacked_last : (s : Spn) (step : FStep) (ts us : List Tm) → length us ≡ arity step →
    stacked s step (ts ++ us) ≡ ts ++ step_tree s step us ∷ []
stacked_last s step ts us e =
    let k : length (ts ++ us) - arity step ≡ length ts = omega (arith, e, length-append ts us) in
    ap₂ (λ (xs ys : List Tm). xs ++ step_tree s step ys ∷ []) (take_front ts us (length (ts ++ us) - arity step) k)
    (drop_front ts us (length (ts ++ us) - arity step) k)

append_nil : (ts : List Tm) → ts ++ [] ≡ ts
append_nil [] = refl
append_nil (t ∷ ts) = ap (λ (us : List Tm). t ∷ us) (append_nil ts)

pub stacked_leaf : (s : Spn) (step : FStep) (ts : List Tm) → arity step ≡ 0 →
    stacked s step ts ≡ ts ++ step_tree s step [] ∷ []
stacked_leaf s step ts e = ap (stacked s step) (sym (append_nil ts)) ∙ stacked_last s step ts [] (sym e)

-- how many there are then
pub stacked_length : (s : Spn) (step : FStep) (ts : List Tm) → length (stacked s step ts) ≡ length ts - arity step + 1
stacked_length s step ts =
    length_push (take (length ts - arity step) ts) (step_tree s step (drop (length ts - arity step) ts))
    ∙ go (length ts - arity step) ts (omega arith)
  where
    go : (k : ℕ) (xs : List Tm) → k ≤ length xs → length (take k xs) + 1 ≡ k + 1
    go zero xs le = refl
    go (suc k) [] le = absurd (omega (arith, le))
    go (suc k) (x ∷ xs) le = omega (arith, go k xs (omega (arith, le)))

two : (ts : List Tm) (a b : Tm) → (ts ++ a ∷ []) ++ b ∷ [] ≡ ts ++ a ∷ b ∷ []
two ts a b = append_assoc ts (a ∷ []) (b ∷ [])

three : (ts : List Tm) (a b c : Tm) → ((ts ++ a ∷ []) ++ b ∷ []) ++ c ∷ [] ≡ ts ++ a ∷ b ∷ c ∷ []
three ts a b c = ap (λ (xs : List Tm). xs ++ c ∷ []) (two ts a b) ∙ append_assoc ts (a ∷ b ∷ []) (c ∷ [])

some_nodes : (e : RawTm) → 1 ≤ nodes e
some_nodes (RVar s) = omega arith
some_nodes (RNum s z) = omega arith
some_nodes (RFix s f x t r e) = omega arith
some_nodes (RGen s n e) = omega arith
some_nodes (RApp s a b) = omega arith
some_nodes (RInst s e t) = omega arith
some_nodes (RFields s es) = omega arith
some_nodes (RProj s n e) = omega arith
some_nodes (RArith s op a b) = omega arith
some_nodes (RIf0 s a b c) = omega arith
some_nodes (RLet s x a b) = omega arith
some_nodes (RPack s t e r) = omega arith
some_nodes (ROpen s n x a b) = omega arith
some_nodes (RCell s e) = omega arith
some_nodes (RDeref s e) = omega arith
some_nodes (RAssign s a b) = omega arith

field_steps_are : (es : RawTms) → field_steps es ≡ 1 + 4 * nodes_all es
field_steps_are NoRawTms = omega arith
field_steps_are (MoreRawTms e es) = omega (arith, field_steps_are es)

same_count : {text : List ℕ} {v a : List Name} (es : RawTms) (ds : List Tm) → TermsOf text v a es (tms ds) →
    length ds ≡ count es
same_count NoRawTms [] h = refl
same_count NoRawTms (d ∷ ds) h = absurd (elim h [ ])
same_count (MoreRawTms e es) [] h = absurd (elim h [ ])
same_count (MoreRawTms e es) (d ∷ ds) (of_more_terms p q) = omega (arith, same_count es ds q)

module _ (text : List ℕ) (tds : List Todo) (v a : List Name) (ts : List Tm) where
  fewer : (n m : ℕ) → n ≡ m → Enough tds n → Enough tds m
  fewer n m e h = subst (Enough tds) e h

  -- a part stops where the whole does
  among : (xs ys : List Use) (x : Unresolved) → xs ≡ ys → StopsAt text xs x → StopsAt text ys x
  among xs ys x e h = subst (λ us. StopsAt text us x) e h

  -- a term with no parts is bound
  pub leaf : (e : RawTm) (d : Tm) → TermOf text v a e d → (us : List Tm) → us ≡ ts ++ d ∷ [] →
      Steps text (stand (Bind e ∷ tds) v a ts) (stand tds v a us)
  leaf e d of us eu = (
    record {
      comes = λ ws h. (us, (d, of, eu), h);
      stops = λ x h. stops_right text (uses text v a e) (uses_left text tds v a) x (term_bound of) h;
      enough = fewer (length ts + 1) (length us) (sym (length_push ts d) ∙ ap length (sym eu));
    },
    omega (arith, some_nodes e),
  )

  -- the fields of a tuple, one after the other
  pub no_fields : Steps text (stand (BindAll NoRawTms ∷ tds) v a ts) (stand tds v a ts)
  no_fields = (
    record {
      comes = λ ws h. (ts, ([], of_no_terms, sym (append_nil ts)), h);
      stops = λ x h. h;
      enough = fewer (length ts + 0) (length ts) (omega arith);
    },
    omega arith,
  )

  pub more_fields : (e : RawTm) (es : RawTms) →
      Steps text (stand (BindAll (MoreRawTms e es) ∷ tds) v a ts) (stand (Bind e ∷ BindAll es ∷ tds) v a ts)
  more_fields e es = (
    record {
      comes = λ ws h. (
        h.2.0,
        (
          h.1.0 ∷ h.2.1.0,
          of_more_terms h.1.1 h.2.1.1,
          h.2.1.2 ∙ ap (λ (xs : List Tm). xs ++ h.2.1.0) h.1.2
              ∙ append_assoc ts (h.1.0 ∷ []) h.2.1.0,
        ),
        h.2.2,
      );
      stops =
          λ x h. among _ _ x (sym (append_assoc (uses text v a e) (all_uses text v a es) (uses_left text tds v a))) h;
      enough = fewer (length ts + (1 + count es)) (length ts + 1 + count es) (omega arith);
    },
    omega (arith, some_nodes e),
  )

  -- the last term is used at a type
  pub used_at : (s : Span) (t : RawTy) (ty : FType) → TypeOf text a t (tree ty) → (us : List Tm) →
      us ≡ stacked (place s) (form.Inst ty) ts → Steps text (stand (UseAt s t ∷ tds) v a ts) (stand tds v a us)
  used_at s t ty of us eu = (
    record {
      comes = λ ws h. (us, (ty, of, eu), h);
      stops = λ x h. stops_right text (type_uses text a t) (uses_left text tds v a) x (type_bound of) h;
      enough = λ h. let few = h.0 in
          fewer (length ts) (length us) (omega (arith, few, ap length eu, stacked_length (place s) (form.Inst ty) ts))
          h.1;
    },
    omega arith,
  )

  -- the last term is packed
  pub packed_at : (s : Span) (h : FType) (t : RawTy) (ty : FType) → TypeOf text a t (tree ty) → (us : List Tm) →
      us ≡ stacked (place s) (form.Pack h ty) ts → Steps text (stand (PackAt s h t ∷ tds) v a ts) (stand tds v a us)
  packed_at s h t ty of us eu = (
    record {
      comes = λ ws g. (us, (ty, of, eu), g);
      stops = λ x g. stops_right text (type_uses text a t) (uses_left text tds v a) x (type_bound of) g;
      enough = λ g. let few = g.0 in
          fewer (length ts) (length us)
          (omega (arith, few, ap length eu, stacked_length (place s) (form.Pack h ty) ts)) g.1;
    },
    omega arith,
  )

  -- names come into scope
  pub named : (n : Span) → Steps text (stand (NameIt n ∷ tds) v a ts) (stand tds (spelled text n ∷ v) a ts)
  named n = (record { comes = λ ws h. (ts, refl, h); stops = λ x h. h; enough = λ h. h }, omega arith)

  pub named_both : (t n : Span) →
      Steps text (stand (NameBoth t n ∷ tds) v a ts) (stand tds (spelled text n ∷ v) (spelled text t ∷ a) ts)
  named_both t n = (record { comes = λ ws h. (ts, refl, h); stops = λ x h. h; enough = λ h. h }, omega arith)

  -- a form is put, and its names are left
  pub put : (s : Span) (step : FStep) (names : Leaves) (us : List Tm) → us ≡ stacked (place s) step ts →
      Steps text (stand (Put s step names ∷ tds) v a ts)
      (stand tds (values_left text (Put s step names) v) (types_left text (Put s step names) a) us)
  put s step names us eu = (
    record {
      comes = λ ws h. (us, eu, h);
      stops = λ x h. h;
      enough = λ h. fewer (length ts - arity step + 1) (length us)
          (sym (stacked_length (place s) step ts) ∙ ap length (sym eu)) h.1;
    },
    omega arith,
  )

  -- the parts of a form are to be bound
  pub fix : (s f x : Span) (t r : RawTy) (arg res : FType) (e : RawTm) → TypeOf text a t (tree arg) →
      TypeOf text a r (tree res) →
      Steps text (stand (Bind (RFix s f x t r e) ∷ tds) v a ts)
      (stand (Bind e ∷ Put s (form.Fix arg res) Function ∷ tds) (spelled text x ∷ (spelled text f ∷ v)) a ts)
  fix s f x t r arg res e p q = (
    record {
      comes = λ ws h. (
        h.2.0,
        (
          SFix (place s) (tree arg) (tree res) h.1.0,
          of_fix s f x p q h.1.1,
          h.2.1
              ∙ ap (stacked (place s) (form.Fix arg res)) h.1.2
              ∙ stacked_last (place s) (form.Fix arg res) ts (h.1.0 ∷ []) refl,
        ),
        h.2.2,
      );
      stops = λ y h.
          let body = uses text (spelled text x ∷ (spelled text f ∷ v)) a e in
          let over = uses_left text tds v a in
          among _ _ y (sym
          (append_assoc (type_uses text a t) (type_uses text a r ++ body) over
          ∙ ap (λ us. type_uses text a t ++ us) (append_assoc (type_uses text a r) body over)))
          (stops_right text (type_uses text a t) (type_uses text a r ++ (body ++ over)) y (type_bound p)
          (stops_right text (type_uses text a r) (body ++ over) y (type_bound q) h));
      enough = λ h. (omega arith, fewer (length ts + 1) (length ts + 1 - 1 + 1) (omega arith) h);
    },
    omega (arith, some_nodes e),
  )

  pub gen : (s n : Span) (e : RawTm) →
      Steps text (stand (Bind (RGen s n e) ∷ tds) v a ts)
      (stand (Bind e ∷ Put s form.Gen Abstraction ∷ tds) v (spelled text n ∷ a) ts)
  gen s n e = (
    record {
      comes = λ ws h. (
        h.2.0,
        (
          SGen (place s) h.1.0,
          of_gen s n h.1.1,
          h.2.1 ∙ ap (stacked (place s) form.Gen) h.1.2
              ∙ stacked_last (place s) form.Gen ts (h.1.0 ∷ []) refl,
        ),
        h.2.2,
      );
      stops = λ y h. h;
      enough = λ h. (omega arith, fewer (length ts + 1) (length ts + 1 - 1 + 1) (omega arith) h);
    },
    omega (arith, some_nodes e),
  )

  pub inst : (s : Span) (e : RawTm) (t : RawTy) →
      Steps text (stand (Bind (RInst s e t) ∷ tds) v a ts) (stand (Bind e ∷ UseAt s t ∷ tds) v a ts)
  inst s e t = (
    record {
      comes = λ ws h. (
        h.2.0,
        (
          SInst (place s) h.1.0 (tree h.2.1.0),
          of_inst s h.1.1 h.2.1.1,
          h.2.1.2
              ∙ ap (stacked (place s) (form.Inst h.2.1.0)) h.1.2
              ∙ stacked_last (place s) (form.Inst h.2.1.0) ts (h.1.0 ∷ []) refl,
        ),
        h.2.2,
      );
      stops = λ y h. among _ _ y (sym (append_assoc (uses text v a e) (type_uses text a t) (uses_left text tds v a))) h;
      enough = λ h. (omega arith, h);
    },
    omega (arith, some_nodes e),
  )

  pub proj : (s : Span) (n : ℕ) (e : RawTm) →
      Steps text (stand (Bind (RProj s n e) ∷ tds) v a ts) (stand (Bind e ∷ Put s (form.Proj n) Nothing ∷ tds) v a ts)
  proj s n e = (
    record {
      comes = λ ws h. (
        h.2.0,
        (
          SProj (place s) n h.1.0,
          of_proj s n h.1.1,
          h.2.1 ∙ ap (stacked (place s) (form.Proj n)) h.1.2
              ∙ stacked_last (place s) (form.Proj n) ts (h.1.0 ∷ []) refl,
        ),
        h.2.2,
      );
      stops = λ y h. h;
      enough = λ h. (omega arith, fewer (length ts + 1) (length ts + 1 - 1 + 1) (omega arith) h);
    },
    omega (arith, some_nodes e),
  )

  pub ref : (s : Span) (e : RawTm) →
      Steps text (stand (Bind (RCell s e) ∷ tds) v a ts) (stand (Bind e ∷ Put s form.Ref Nothing ∷ tds) v a ts)
  ref s e = (
    record {
      comes = λ ws h. (
        h.2.0,
        (
          SRef (place s) h.1.0,
          of_cell s h.1.1,
          h.2.1 ∙ ap (stacked (place s) form.Ref) h.1.2
              ∙ stacked_last (place s) form.Ref ts (h.1.0 ∷ []) refl,
        ),
        h.2.2,
      );
      stops = λ y h. h;
      enough = λ h. (omega arith, fewer (length ts + 1) (length ts + 1 - 1 + 1) (omega arith) h);
    },
    omega (arith, some_nodes e),
  )

  pub deref : (s : Span) (e : RawTm) →
      Steps text (stand (Bind (RDeref s e) ∷ tds) v a ts) (stand (Bind e ∷ Put s form.Deref Nothing ∷ tds) v a ts)
  deref s e = (
    record {
      comes = λ ws h. (
        h.2.0,
        (
          SDeref (place s) h.1.0,
          of_deref s h.1.1,
          h.2.1 ∙ ap (stacked (place s) form.Deref) h.1.2
              ∙ stacked_last (place s) form.Deref ts (h.1.0 ∷ []) refl,
        ),
        h.2.2,
      );
      stops = λ y h. h;
      enough = λ h. (omega arith, fewer (length ts + 1) (length ts + 1 - 1 + 1) (omega arith) h);
    },
    omega (arith, some_nodes e),
  )

  pub pack : (s : Span) (t : RawTy) (e : RawTm) (r : RawTy) (hidden : FType) → TypeOf text a t (tree hidden) →
      Steps text (stand (Bind (RPack s t e r) ∷ tds) v a ts) (stand (Bind e ∷ PackAt s hidden r ∷ tds) v a ts)
  pack s t e r hidden p = (
    record {
      comes = λ ws h. (
        h.2.0,
        (
          SPack (place s) (tree hidden) h.1.0 (tree h.2.1.0),
          of_pack s p h.1.1 h.2.1.1,
          h.2.1.2
              ∙ ap (stacked (place s) (form.Pack hidden h.2.1.0)) h.1.2
              ∙ stacked_last (place s) (form.Pack hidden h.2.1.0) ts (h.1.0 ∷ []) refl,
        ),
        h.2.2,
      );
      stops = λ y h.
          let part = uses text v a e in
          let shape = type_uses text a r in
          let over = uses_left text tds v a in
          among _ _ y (sym
          (append_assoc (type_uses text a t) (part ++ shape) over
          ∙ ap (λ us. type_uses text a t ++ us) (append_assoc part shape over)))
          (stops_right text (type_uses text a t) (part ++ (shape ++ over)) y (type_bound p) h);
      enough = λ h. (omega arith, h);
    },
    omega (arith, some_nodes e),
  )

  -- a name is bound in the second part
  pub let_form : (s x : Span) (d e : RawTm) →
      Steps text (stand (Bind (RLet s x d e) ∷ tds) v a ts)
      (stand (Bind d ∷ NameIt x ∷ Bind e ∷ Put s form.Let Binding ∷ tds) v a ts)
  let_form s x d e = (
    record {
      comes = λ ws h.
          let p = h.1.0 in
          let q = h.2.2.1.0 in
          let made = h.2.2.1.2 ∙ ap (λ (xs : List Tm). xs ++ q ∷ []) (h.2.1 ∙ h.1.2) ∙ two ts p q in (
            h.2.2.2.0,
            (
              SLet (place s) p q,
              of_let s x h.1.1 h.2.2.1.1,
              h.2.2.2.1 ∙ ap (stacked (place s) form.Let) made
                  ∙ stacked_last (place s) form.Let ts (p ∷ q ∷ []) refl,
            ),
            h.2.2.2.2,
          );
      stops = λ z h.
          among _ _ z (sym
          (append_assoc (uses text v a d) (uses text (spelled text x ∷ v) a e) (uses_left text tds v a))) h;
      enough = λ h. (omega arith, fewer (length ts + 1) (length ts + 1 + 1 - 2 + 1) (omega arith) h);
    },
    omega (arith, some_nodes d, some_nodes e),
  )

  pub open_form : (s n x : Span) (d e : RawTm) →
      Steps text (stand (Bind (ROpen s n x d e) ∷ tds) v a ts)
      (stand (Bind d ∷ NameBoth n x ∷ Bind e ∷ Put s form.Open Opening ∷ tds) v a ts)
  open_form s n x d e = (
    record {
      comes = λ ws h.
          let p = h.1.0 in
          let q = h.2.2.1.0 in
          let made = h.2.2.1.2 ∙ ap (λ (xs : List Tm). xs ++ q ∷ []) (h.2.1 ∙ h.1.2) ∙ two ts p q in (
            h.2.2.2.0,
            (
              SOpen (place s) p q,
              of_open s n x h.1.1 h.2.2.1.1,
              h.2.2.2.1
                  ∙ ap (stacked (place s) form.Open) made ∙ stacked_last (place s) form.Open ts (p ∷ q ∷ []) refl,
            ),
            h.2.2.2.2,
          );
      stops = λ z h.
          among _ _ z (sym
          (append_assoc (uses text v a d) (uses text (spelled text x ∷ v) (spelled text n ∷ a) e)
          (uses_left text tds v a))) h;
      enough = λ h. (omega arith, fewer (length ts + 1) (length ts + 1 + 1 - 2 + 1) (omega arith) h);
    },
    omega (arith, some_nodes d, some_nodes e),
  )

  pub fields : (s : Span) (es : RawTms) (n : ℕ) → n ≡ count es →
      Steps text (stand (Bind (RFields s es) ∷ tds) v a ts)
      (stand (BindAll es ∷ Put s (form.Tuple n) Nothing ∷ tds) v a ts)
  fields s es n en = (
    record {
      comes = λ ws h. (
        h.2.0,
        (
          STuple (place s) (tms h.1.0),
          of_fields s h.1.1,
          h.2.1 ∙ ap (stacked (place s) (form.Tuple n)) h.1.2
              ∙ stacked_last (place s) (form.Tuple n) ts h.1.0 (same_count es h.1.0 h.1.1 ∙ sym en),
        ),
        h.2.2,
      );
      stops = λ y h. h;
      enough = λ h. (omega (arith, en), fewer (length ts + 1) (length ts + count es - n + 1) (omega (arith, en)) h);
    },
    omega (arith, field_steps_are es),
  )

  -- forms of two parts
  pair : (s : Span) (step : FStep) (raw d e : RawTm) (C : Tm → Tm → Tm) → arity step ≡ 2 →
      ((x y : Tm) → TermOf text v a d x → TermOf text v a e y → TermOf text v a raw (C x y)) →
      ((x y : Tm) → step_tree (place s) step (x ∷ y ∷ []) ≡ C x y) →
      uses text v a raw ≡ uses text v a d ++ uses text v a e → nodes raw ≡ 1 + nodes d + nodes e →
      Steps text (stand (Bind raw ∷ tds) v a ts) (stand (Bind d ∷ Bind e ∷ Put s step Nothing ∷ tds) v a ts)
  pair s step raw d e C ar of tree us ns = (
    record {
      comes = λ ws h.
          let x = h.1.0 in
          let y = h.2.1.0 in
          let made = h.2.1.2 ∙ ap (λ (xs : List Tm). xs ++ y ∷ []) h.1.2 ∙ two ts x y in
          let put = h.2.2.1 ∙ ap (stacked (place s) step) made ∙ stacked_last (place s) step ts (x ∷ y ∷ []) (sym ar)
          ∙ ap (λ (t : Tm). ts ++ t ∷ []) (tree x y) in
          (h.2.2.0, (C x y, of x y h.1.1 h.2.1.1, put), h.2.2.2);
      stops = λ z h.
          among _ _ z (sym
          (ap (λ xs. xs ++ uses_left text tds v a) us
          ∙ append_assoc (uses text v a d) (uses text v a e) (uses_left text tds v a))) h;
      enough =
          λ h. (omega (arith, ar), fewer (length ts + 1) (length ts + 1 + 1 - arity step + 1) (omega (arith, ar)) h);
    },
    omega (arith, ns, some_nodes d, some_nodes e),
  )

  pub app : (s : Span) (d e : RawTm) →
      Steps text (stand (Bind (RApp s d e) ∷ tds) v a ts)
      (stand (Bind d ∷ Bind e ∷ Put s form.App Nothing ∷ tds) v a ts)
  app s d e = pair s form.App (RApp s d e) d e (SApp (place s)) refl (λ x y p q. of_app s p q) (λ x y. refl) refl refl

  pub assign : (s : Span) (d e : RawTm) →
      Steps text (stand (Bind (RAssign s d e) ∷ tds) v a ts)
      (stand (Bind d ∷ Bind e ∷ Put s form.Assign Nothing ∷ tds) v a ts)
  assign s d e =
      pair s form.Assign (RAssign s d e) d e (SAssign (place s)) refl (λ x y p q. of_assign s p q)
      (λ x y. refl) refl refl

  pub arith_form : (s : Span) (op : Op) (d e : RawTm) →
      Steps text (stand (Bind (RArith s op d e) ∷ tds) v a ts)
      (stand (Bind d ∷ Bind e ∷ Put s (form.Arith op) Nothing ∷ tds) v a ts)
  arith_form s op d e =
      pair s (form.Arith op) (RArith s op d e) d e (SArith (place s) op) refl (λ x y p q. of_arith s op p q)
      (λ x y. refl) refl refl

  pub if0 : (s : Span) (c d e : RawTm) →
      Steps text (stand (Bind (RIf0 s c d e) ∷ tds) v a ts)
      (stand (Bind c ∷ Bind d ∷ Bind e ∷ Put s form.If0 Nothing ∷ tds) v a ts)
  if0 s c d e = (
    record {
      comes = λ ws h.
          let x = h.1.0 in
          let y = h.2.1.0 in
          let z = h.2.2.1.0 in
          let made = h.2.2.1.2 ∙ ap (λ (xs : List Tm). xs ++ z ∷ []) h.2.1.2
          ∙ ap (λ (xs : List Tm). (xs ++ y ∷ []) ++ z ∷ []) h.1.2 ∙ three ts x y z in (
            h.2.2.2.0,
            (
              SIf0 (place s) x y z,
              of_if0 s h.1.1 h.2.1.1 h.2.2.1.1,
              h.2.2.2.1
                  ∙ ap (stacked (place s) form.If0) made ∙ stacked_last (place s) form.If0 ts (x ∷ y ∷ z ∷ []) refl,
            ),
            h.2.2.2.2,
          );
      stops = λ y h.
          let over = uses_left text tds v a in
          among _ _ y
          (sym (append_assoc (uses text v a c) (uses text v a d ++ uses text v a e) over
          ∙ ap (λ us. uses text v a c ++ us) (append_assoc (uses text v a d) (uses text v a e) over))) h;
      enough = λ h. (omega arith, fewer (length ts + 1) (length ts + 1 + 1 + 1 - 3 + 1) (omega arith) h);
    },
    omega (arith, some_nodes c, some_nodes d, some_nodes e),
  )

-- one step after the other
pub then : (text : List ℕ) (x y z : Stand) → Follows text x y → Follows text y z → Follows text x z
then text x y z f g = record {
  comes = λ us h. f.comes us (g.comes us h);
  stops = λ e h. f.stops e (g.stops e h);
  enough = λ h. g.enough (f.enough h);
}

pub count_is : (f : ℕ → RawTm) (ks : List ℕ) → count (raw_tms (map f ks)) ≡ length ks
count_is f [] = refl
count_is f (k ∷ ks) = omega (arith, count_is f ks)

-- the parts of a form wait in its place
pub by_parts : (text : List ℕ) (old new ps : List Todo) (raw form : RawTm) (v a v' a' : List Name) (ts : List Tm) →
    raw ≡ form → new ≡ ps →
    Steps text (stand (Bind form ∷ old) v a ts) (stand ps v' a' ts) →
    Steps text (stand (Bind raw ∷ old) v a ts) (stand new v' a' ts)
by_parts text old new ps raw form v a v' a' ts er ep h =
    subst (λ x. Steps text (stand (Bind x ∷ old) v a ts) (stand new v' a' ts)) (sym er)
    (subst (λ tds. Steps text (stand (Bind form ∷ old) v a ts) (stand tds v' a' ts)) (sym ep) h)

pub next : (text : List ℕ) (tds mid new : List Todo) (es rest : RawTms) (e : RawTm) (v a : List Name) (ts : List Tm) →
    es ≡ MoreRawTms e rest → mid ≡ BindAll rest ∷ tds → new ≡ Bind e ∷ mid →
    Steps text (stand (BindAll es ∷ tds) v a ts) (stand new v a ts)
next text tds mid new es rest e v a ts ex em en =
    subst (λ ys. Steps text (stand (BindAll ys ∷ tds) v a ts) (stand new v a ts)) (sym ex)
    (subst (λ zs. Steps text (stand (BindAll (MoreRawTms e rest) ∷ tds) v a ts) (stand zs v a ts))
    (sym (en ∙ ap (λ (zs : List Todo). Bind e ∷ zs) em))
    (more_fields text tds v a ts e rest))

pub none_next : (text : List ℕ) (tds : List Todo) (es : RawTms) (v a : List Name) (ts : List Tm) → es ≡ NoRawTms →
    Steps text (stand (BindAll es ∷ tds) v a ts) (stand tds v a ts)
none_next text tds es v a ts e =
    subst (λ ys. Steps text (stand (BindAll ys ∷ tds) v a ts) (stand tds v a ts)) (sym e) (no_fields text tds v a ts)

pub nothing_left : (ts : List Task) → length ts ≡ 0 → todos ts ≡ []
nothing_left [] e = refl
nothing_left (t ∷ ts) e = absurd (omega (arith, e))

-- at the start
pub same : (text : List ℕ) (x : Stand) → Follows text x x
same text x = record { comes = λ us h. h; stops = λ e h. h; enough = λ h. h }

-- what follows where there was memory
pub opened : {U : Type 0} (x : Result U Unresolved) (A B : Type 0) → (A → B) →
    MatchResult x (λ u. A) (λ e. e ≡ Memory) → MatchResult x (λ u. B) (λ e. e ≡ Memory)
opened (Ok u) A B f h = f h
opened (Err e) A B f h = h

pub stopped : {U : Type 0} (text : List ℕ) (us : List Use) (x : Result U Unresolved) (A B : U → Type 0) →
    ((u : U) → A u → B u) → MatchResult x A (λ e. e ≡ Memory) → MatchResult x B (λ e. StopsAt text us e)
stopped text us (Ok u) A B f h = f u h
stopped text us (Err e) A B f h = rw h tt

-- at the end there is one term
pub ended : (text : List ℕ) (raw : RawTm) (v a : List Name) (ts : List Tm) (t : Tm) →
    Follows text (stand (Bind raw ∷ []) [] [] []) (stand [] v a ts) → ts ≡ t ∷ [] → TermOf text [] [] raw t
ended text raw v a ts t f e =
    let h = f.comes ts refl in subst (TermOf text [] [] raw) (head_is h.1.0 t (sym h.1.2 ∙ h.2 ∙ e)) h.1.1
  where
    head_is : (x y : Tm) → x ∷ [] ≡ y ∷ [] → x ≡ y
    head_is x y q = cc

-- a stop is one of the whole
pub stop_of_whole : (text : List ℕ) (raw : RawTm) (y : Stand) (us more : List Use) (e : Unresolved) →
    Follows text (stand (Bind raw ∷ []) [] [] []) y → uses_left text y.todo y.values y.types ≡ us ++ more →
    StopsAt text us e → StopsAt text (uses text [] [] raw) e
stop_of_whole text raw y us more e f is h =
    subst (λ xs. StopsAt text xs e) (append_nil (uses text [] [] raw))
    (f.stops e (subst (λ xs. StopsAt text xs e) (sym is) (stops_left text us more e h)))
  where
    append_nil : (xs : List Use) → xs ++ [] ≡ xs
    append_nil [] = refl
    append_nil (x ∷ xs) = ap (λ (ys : List Use). x ∷ ys) (append_nil xs)

-- the same steps, where the names in scope are known to be these
pub used_in : (text : List ℕ) (tds : List Todo) (v a w b : List Name) (ts : List Tm) (s : Span) (t : RawTy)
    (ty : FType) → TypeOf text a t (tree ty) → (us : List Tm) → us ≡ stacked (place s) (form.Inst ty) ts → w ≡ v →
    b ≡ a →
    Steps text (stand (UseAt s t ∷ tds) v a ts) (stand tds w b us)
used_in text tds v a w b ts s t ty of us eu ew eb =
    subst (λ x. Steps text (stand (UseAt s t ∷ tds) v a ts) (stand tds x b us)) (sym ew)
    (subst (λ x. Steps text (stand (UseAt s t ∷ tds) v a ts) (stand tds v x us)) (sym eb)
    (used_at text tds v a ts s t ty of us eu))

pub packed_in : (text : List ℕ) (tds : List Todo) (v a w b : List Name) (ts : List Tm) (s : Span) (h : FType)
    (t : RawTy) (ty : FType) → TypeOf text a t (tree ty) → (us : List Tm) →
    us ≡ stacked (place s) (form.Pack h ty) ts → w ≡ v → b ≡ a →
    Steps text (stand (PackAt s h t ∷ tds) v a ts) (stand tds w b us)
packed_in text tds v a w b ts s h t ty of us eu ew eb =
    subst (λ x. Steps text (stand (PackAt s h t ∷ tds) v a ts) (stand tds x b us)) (sym ew)
    (subst (λ x. Steps text (stand (PackAt s h t ∷ tds) v a ts) (stand tds v x us)) (sym eb)
    (packed_at text tds v a ts s h t ty of us eu))

pub named_in : (text : List ℕ) (tds : List Todo) (v a w : List Name) (ts : List Tm) (n : Span) →
    w ≡ spelled text n ∷ v → Steps text (stand (NameIt n ∷ tds) v a ts) (stand tds w a ts)
named_in text tds v a w ts n e =
    subst (λ x. Steps text (stand (NameIt n ∷ tds) v a ts) (stand tds x a ts)) (sym e) (named text tds v a ts n)

pub named_both_in : (text : List ℕ) (tds : List Todo) (v a w b : List Name) (ts : List Tm) (t n : Span) →
    w ≡ spelled text n ∷ v → b ≡ spelled text t ∷ a → Steps text (stand (NameBoth t n ∷ tds) v a ts) (stand tds w b ts)
named_both_in text tds v a w b ts t n e f =
    subst (λ x. Steps text (stand (NameBoth t n ∷ tds) v a ts) (stand tds x b ts)) (sym e)
    (subst (λ x. Steps text (stand (NameBoth t n ∷ tds) v a ts) (stand tds (spelled text n ∷ v) x ts)) (sym f)
    (named_both text tds v a ts t n))

pub put_in : (text : List ℕ) (tds : List Todo) (v a w b : List Name) (ts : List Tm) (s : Span) (step : FStep)
    (names : Leaves) (us : List Tm) → us ≡ stacked (place s) step ts → w ≡ outer_values names v →
    b ≡ outer_types names a →
    Steps text (stand (Put s step names ∷ tds) v a ts) (stand tds w b us)
put_in text tds v a w b ts s step names us eu ew eb =
    subst (λ x. Steps text (stand (Put s step names ∷ tds) v a ts) (stand tds x b us)) (sym ew)
    (subst (λ x. Steps text (stand (Put s step names ∷ tds) v a ts) (stand tds (outer_values names v) x us)) (sym eb)
    (put text tds v a ts s step names us eu))
