-- The nodes of a term make its text.
use Rattle.std.proofs.Common.{◌≡◌, ℕ, suc, ◌+◌, Bool, List, [], ◌∷◌, ◌++◌, length, refl, ap, ap₂, ◌∙◌, arith}
use Rattle.std.proofs.Common.{codes, decimal, false}
use Rattle.calc_core.specs.Ends.{lift}
use Rattle.calc_core.specs.TypeOf.{types_behind}
use Rattle.calc_core.proofs.Lifts.{lift_is}
use Rattle.page_core.specs.Names.{margin, op_sign, type_name, value_name}
use Rattle.k_terms.specs.K.{KTy, KVal, KVar, KInt, KTuple, KCode, KVals, NoKVals, MoreKVals, KDecl, KName, KProj}
use Rattle.k_terms.specs.K.{KArith, KPack, KUnpack, KCell, KGet, KSet, KTm, KLet, KCall, KIf, KHalt, kcount}
use Rattle.k_terms.specs.K.{kbody_scope, opens, scope_more}
use Rattle.k_terms.specs.Stream.{KNd, NTuple, NEnd, NName, NProj, NArith, NPack, NUnpack, NCell, NGet, NSet, NCall}
use Rattle.k_terms.specs.Stream.{NIf, NElse, NHalt, klin_v, klin_vs, klin_d, klin_t, kwidth}
use Rattle.k_terms.specs.Types.{kd_type}
use Rattle.kc_notation.specs.declared.page.Scope.{Scope}
use Rattle.kc_notation.specs.ClosedWalk.{Lines, Sheet, blank, push, scope_of, shut, with_text, with_values}
use Rattle.kc_notation.proofs.Sheets.{level_is, past_some, sheet, stack, stack_length, turn_is}
use Rattle.kc_notation.specs.CpsNotation.{note_text, type_text, types_text}
use Rattle.kc_notation.specs.Heads.{code_line}
use Rattle.kc_notation.specs.Notation.{bound_text, decl_note, declared_text, k_text, term_text, value_text}
use Rattle.kc_notation.specs.Notation.{values_after}
use Rattle.kc_notation.proofs.Texts.{call_text, gather_all, halt_text, if_text, let_text, line_text, pack_parts}
use Rattle.kc_notation.proofs.Texts.{pair_text, proj_text, texts, tuple_text, unpack_line}
use Rattle.kc_notation.specs.CpsWalk.{step, walk}

module _ (b : Bool) where
  width_is : (g : List KTy) (n m k : ℕ) (vs : KVals) → kwidth vs ≡ length (texts b g n m k vs)
  width_is g n m k NoKVals = refl
  width_is g n m k (MoreKVals v vs) = ap suc (width_is g n m k vs)

  -- nodes lead to a body that ends with this text, with the same second branches to come
  record Makes (nodes : List KNd → List KNd) (p : Sheet) (text : List ℕ) : Type 0 where
    body : Lines
    goes : (rest : List KNd) → walk b (nodes rest) p ≡ walk b rest (record { body = body; around = p.around })
    ends : shut body ≡ text
    branches : body.branches ≡ p.body.branches

  mutual
    of_value : (v : KVal) (m td : ℕ) (g : List KTy) (rest : List KNd) (p : Sheet) → walk b (klin_v m td g v rest) p
        ≡ walk b rest (push p (value_text b g p.body.scope.types m p.body.scope.indent v))
    of_value (KVar i) m td g rest p = ap (λ l. walk b rest (push p (value_name l))) (level_is m i)
    of_value (KInt z) m td g rest p = refl
    of_value (KTuple vs) m td g rest p =
        let n = p.body.scope.types in
        let k = p.body.scope.indent in
        let ss = texts b g n m k vs in
        of_values vs m td g (NTuple (kwidth vs) ∷ rest) p
        ∙ ap₂ (λ (t : List ℕ) us. walk b rest (with_values p ((codes "<" ++ t) ∷ us)))
        (gather_all b g n m k (kwidth vs) vs p.body.values (codes ">") (width_is g n m k vs))
        (past_some ss 0 (kwidth vs) p.body.values (let h = width_is g n m k vs in omega (arith, h)))
    of_value (KCode owes args body) m td g rest p =
        let n = p.body.scope.types in
        let k = p.body.scope.indent in
        let head = code_line false n m owes args in
        let around = kbody_scope owes args g in
        let inside = lift (kcount args) (suc m) in
        let same : n + owes ≡ lift owes n = let l = lift_is owes n in omega (arith, l) in
        let h = of_term body inside (lift owes td) around (n + owes) (k + 1) head [] (p.body ∷ p.around) in
        h.goes (NEnd ∷ rest)
        ∙ ap (λ (t : List ℕ). walk b rest (push p (t ++ (margin k ++ codes "}"))))
        (h.ends ∙ ap (λ j. head ++ term_text b around j inside (k + 1) body) same)
        ∙ ap (λ t. walk b rest (push p t))
        (tuple_text (head ++ term_text b around (lift owes n) inside (k + 1) body) (margin k) (codes "}"))

    of_values : (vs : KVals) (m td : ℕ) (g : List KTy) (rest : List KNd) (p : Sheet) →
        walk b (klin_vs m td g vs rest) p
        ≡ walk b rest (with_values p (stack (texts b g p.body.scope.types m p.body.scope.indent vs) p.body.values))
    of_values NoKVals m td g rest p = refl
    of_values (MoreKVals v vs) m td g rest p =
        of_value v m td g (klin_vs m td g vs rest) p
        ∙ of_values vs m td g rest (push p (value_text b g p.body.scope.types m p.body.scope.indent v))

    of_decl : (d : KDecl) (m td : ℕ) (g : List KTy) (n k : ℕ) (text : List ℕ) (bs : List Scope) (ls : List Lines)
        (rest : List KNd) → walk b (klin_d m td g d rest) (sheet text n k bs ls)
        ≡ walk b rest (sheet (text ++ (margin k ++ codes "let " ++ bound_text n m (decl_note b g n d) d ++ codes " = "
        ++ declared_text b g n m k d ++ codes "\n")) (types_behind n d) k bs ls)
    of_decl (KName v) m td g n k text bs ls rest =
        of_value v m td g (NName m (kd_type g (KName v)) ∷ rest) (sheet text n k bs ls)
        ∙ ap (λ t. walk b rest (sheet t n k bs ls)) (line_text text (margin k) (codes "let ") (value_name m)
        (decl_note b g n (KName v)) (codes " = ") [] (value_text b g n m k v) (codes "\n"))
    of_decl (KProj i v) m td g n k text bs ls rest =
        of_value v m td g (NProj m i (kd_type g (KProj i v)) ∷ rest) (sheet text n k bs ls)
        ∙ ap (λ t. walk b rest (sheet t n k bs ls)) (proj_text text (margin k) (codes "let ") (value_name m)
        (decl_note b g n (KProj i v)) (codes " = ") (codes "#") (decimal i) (codes " ") (value_text b g n m k v)
        (codes "\n"))
    of_decl (KArith op v w) m td g n k text bs ls rest =
        of_value v m td g (klin_v m td g w (NArith m op ∷ rest)) (sheet text n k bs ls)
        ∙ of_value w m td g (NArith m op ∷ rest) (push (sheet text n k bs ls) (value_text b g n m k v))
        ∙ ap (λ t. walk b rest (sheet t n k bs ls)) (pair_text text (margin k) (codes "let ") (value_name m)
        (decl_note b g n (KArith op v w)) (codes " = ") (value_text b g n m k v) (op_sign op) (value_text b g n m k w)
        (codes "\n"))
    of_decl (KPack h v s) m td g n k text bs ls rest =
        let w = value_text b g n m k v in
        let note = decl_note b g n (KPack h v s) in
        of_value v m td g (NPack m td h s ∷ rest) (sheet text n k bs ls)
        ∙ ap (λ t. walk b rest (sheet t n k bs ls)) (line_text text (margin k) (codes "let ") (value_name m) note
        (codes " = ") [] ((codes "pack [" ++ (type_text n h ++ codes ", ")) ++ (w ++ (codes "] as " ++ type_text n s)))
        (codes "\n")
        ∙ ap (λ (x : List ℕ). text ++ (margin k ++ codes "let " ++ (value_name m ++ note) ++ codes " = " ++ x
        ++ codes "\n"))
        (pack_parts (codes "pack [") (type_text n h) (codes ", ") w (codes "] as ") (type_text n s)))
    of_decl (KUnpack v) m td g n k text bs ls rest =
        let more : n + 1 ≡ suc n = omega arith in
        let w = value_text b g n m k v in
        let t = kd_type g (KUnpack v) in
        of_value v m td g (NUnpack m td t ∷ rest) (sheet text n k bs ls)
        ∙ ap (λ x. walk b rest (sheet x (n + 1) k bs ls)) (unpack_line text (margin k) (codes "let ") (codes "[")
        (type_name n) (codes ", ") (value_name m) (note_text b (n + 1) t) (codes "]") (codes " = ") (codes "unpack ")
        w (codes "\n"))
        ∙ ap (λ j. walk b rest (sheet (text ++ (margin k ++ codes "let " ++ bound_text n m (note_text b j t) (KUnpack v)
        ++ codes " = " ++ declared_text b g n m k (KUnpack v) ++ codes "\n")) j k bs ls)) more
    of_decl (KCell v) m td g n k text bs ls rest =
        of_value v m td g (NCell m (kd_type g (KCell v)) ∷ rest) (sheet text n k bs ls)
        ∙ ap (λ t. walk b rest (sheet t n k bs ls)) (line_text text (margin k) (codes "let ") (value_name m)
        (decl_note b g n (KCell v)) (codes " = ") (codes "ref ") (value_text b g n m k v) (codes "\n"))
    of_decl (KGet v) m td g n k text bs ls rest =
        of_value v m td g (NGet m (kd_type g (KGet v)) ∷ rest) (sheet text n k bs ls)
        ∙ ap (λ t. walk b rest (sheet t n k bs ls)) (line_text text (margin k) (codes "let ") (value_name m)
        (decl_note b g n (KGet v)) (codes " = ") (codes "!") (value_text b g n m k v) (codes "\n"))
    of_decl (KSet v w) m td g n k text bs ls rest =
        of_value v m td g (klin_v m td g w (NSet m ∷ rest)) (sheet text n k bs ls)
        ∙ of_value w m td g (NSet m ∷ rest) (push (sheet text n k bs ls) (value_text b g n m k v))
        ∙ ap (λ t. walk b rest (sheet t n k bs ls)) (pair_text text (margin k) (codes "let ") (value_name m)
        (decl_note b g n (KSet v w)) (codes " = ") (value_text b g n m k v) (codes " := ") (value_text b g n m k w)
        (codes "\n"))

    of_term : (t : KTm) (m td : ℕ) (g : List KTy) (n k : ℕ) (text : List ℕ) (bs : List Scope) (ls : List Lines) →
        Makes (klin_t m td g t) (sheet text n k bs ls) (text ++ term_text b g n m k t)
    of_term (KLet d t) m td g n k text bs ls =
        let bound = bound_text n m (decl_note b g n d) d in
        let line = margin k ++ codes "let " ++ bound ++ codes " = " ++ declared_text b g n m k d ++ codes "\n" in
        let around = kd_type g d ∷ scope_more (opens d) g in
        let h = of_term t (suc m) (types_behind td d) around (types_behind n d) k (text ++ line) bs ls in
        record {
          body = h.body;
          goes = λ rest.
              of_decl d m td g n k text bs ls (klin_t (suc m) (types_behind td d) around t rest) ∙ h.goes rest;
          ends = h.ends ∙ let_text text (margin k) (codes "let ") bound (codes " = ") (declared_text b g n m k d)
              (codes "\n") (term_text b around (types_behind n d) (suc m) k t);
          branches = h.branches;
        }
    of_term (KCall f ts vs) m td g n k text bs ls =
        let ss = texts b g n m k vs in
        let called = step b (NCall m td ts (kwidth vs)) (push (sheet text n k bs ls) (value_text b g n m k f)) in
        record {
          body = with_text called.body called.body.text (stack ss []);
          goes = λ rest.
              of_value f m td g (NCall m td ts (kwidth vs) ∷ klin_vs m td g vs rest) (sheet text n k bs ls)
              ∙ of_values vs m td g rest called;
          ends =
              ap (λ (t : List ℕ). called.body.text ++ t)
              (gather_all b g n m k (length (stack ss [])) vs [] (codes ")\n")
              (let h = stack_length ss [] in omega (arith, h)))
              ∙ call_text text (margin k) (value_text b g n m k f) (codes "[") (types_text n ts) (codes "](")
              (values_after b g 0 n m k vs) (codes ")\n");
          branches = refl;
        }
    of_term (KIf v t u) m td g n k text bs ls =
        let first = text ++ ((margin k ++ codes "if0 ") ++ (value_text b g n m k v ++ codes " then\n")) in
        let h = of_term t m td g n (k + 1) first (scope_of n k ∷ bs) ls in
        let second = first ++ term_text b g n m (k + 1) t ++ (margin k ++ codes "else\n") in
        let r = of_term u m td g n (k + 1) second bs ls in
        record {
          body = r.body;
          goes = λ rest.
              of_value v m td g (NIf ∷ klin_t m td g t (NElse td ∷ klin_t m td g u rest)) (sheet text n k bs ls)
              ∙ h.goes (NElse td ∷ klin_t m td g u rest)
              ∙ ap (walk b (klin_t m td g u rest)) (turn_is (record { body = h.body; around = ls }) (scope_of n k) bs
              (first ++ term_text b g n m (k + 1) t) h.branches h.ends)
              ∙ r.goes rest;
          ends = r.ends ∙ if_text text (margin k) (codes "if0 ") (value_text b g n m k v) (codes " then\n")
              (term_text b g n m (k + 1) t) (codes "else\n") (term_text b g n m (k + 1) u);
          branches = r.branches;
        }
    of_term (KHalt v) m td g n k text bs ls = record {
      body = (step b NHalt (push (sheet text n k bs ls) (value_text b g n m k v))).body;
      goes = λ rest. of_value v m td g (NHalt ∷ rest) (sheet text n k bs ls);
      ends = halt_text text (margin k) (codes "halt ") (value_text b g n m k v) (codes "\n");
      branches = refl;
    }

  pub nodes_make : (t : KTm) → shut (walk b (klin_t 0 0 [] t []) blank).body ≡ k_text b t
  nodes_make t = let h = of_term t 0 0 [] 0 0 [] [] [] in ap (λ (p : Sheet). shut p.body) (h.goes []) ∙ h.ends
