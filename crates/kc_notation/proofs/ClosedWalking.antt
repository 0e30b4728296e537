-- The nodes of a term make its text.
use Rattle.std.proofs.Common.{◌≡◌, ◌≤◌, ℕ, suc, ◌+◌, List, [], ◌∷◌, ◌++◌, Bool, length, refl, sym}
use Rattle.std.proofs.Common.{ap, ap₂, ◌∙◌, arith, append_assoc, codes, decimal, true}
use Rattle.std.proofs.lemmas.List.{append-nil}
use Rattle.calc_core.specs.Ends.{lift}
use Rattle.calc_core.specs.Levels.{level_of}
use Rattle.page_core.specs.Names.{margin, op_sign, type_name, value_name}
use Rattle.c_terms.specs.C.{CTy, NoCTys, TCCode, TCInt, TCRef, TCTuple, CVal, CVar, CInt, CTuple, CCode, CApply}
use Rattle.c_terms.specs.C.{CPack, CVals, NoCVals, MoreCVals, CDecl}
use Rattle.c_terms.specs.C.{CName, CProj, CArith, CUnpack, CCell, CGet, CSet, CTm, CLet, CCall, CIf, CHalt, ccount}
use Rattle.c_terms.specs.Stream.{CNd, MTuple, MEnd, MApply, MPack, MName, MProj, MArith, MUnpack, MCell, MGet, MSet}
use Rattle.c_terms.specs.Stream.{MCall, MIf, MElse, MHalt, cwidth, clin_v, clin_vs, clin_d, clin_t}
use Rattle.c_terms.specs.Scope.{CScoped, CScoped_d, CScoped_v, CScoped_vs}
use Rattle.c_terms.specs.Typing.{cargs_onto}
use Rattle.let_types.specs.Closed.{decl_type, names_behind, types_behind, value_type, value_types}
use Rattle.let_types.specs.Known.{Frame, Known, declare, enter, entry_of, last_type, named, nothing, own, put}
use Rattle.let_types.specs.Parts.{applied_type, field_type, held_type, opened_type}
use Rattle.let_types.proofs.Knowing.{but_last_snoc, with_frames, with_names}
use Rattle.kc_notation.specs.declared.page.Scope.{Scope}
use Rattle.let_types.specs.TypeTexts.{applied_text, note_text, type_text, types_text}
use Rattle.kc_notation.specs.Heads.{code_line}
use Rattle.kc_notation.specs.Notation.{bound_text, c_text, decl_note, declared_text, term_text, value_text}
use Rattle.kc_notation.specs.Notation.{values_after}
use Rattle.kc_notation.specs.ClosedWalk.{Lines, Sheet, scope_of, with_text, with_values, push, gathered, past, shut}
use Rattle.kc_notation.specs.ClosedWalk.{blank, name_note, step, walk}
use Rattle.kc_notation.proofs.Sheets.{level_is, past_some, sheet, stack, stack_length, turn_is}
use Rattle.kc_notation.proofs.Texts.{call_text, gather_all, halt_text, if_text, let_text, line_text, pack_parts}
use Rattle.kc_notation.proofs.Texts.{pair_text, proj_text, texts, tuple_text, unpack_line}
use Rattle.kc_notation.proofs.Holding.{Holds, Kept, holds_behind, holds_code, holds_none, kept_behind, kept_holds}
use Rattle.kc_notation.proofs.Holding.{kept_same, kept_twice, last_is, note_new, seen, seens, tuple_is}

width_is : (b : Bool) (g : List CTy) (n m k : ℕ) (vs : CVals) → cwidth vs ≡ length (texts b g n m k vs)
width_is b g n m k NoCVals = refl
width_is b g n m k (MoreCVals v vs) = ap suc (width_is b g n m k vs)

seens_width : (m n : ℕ) (g : List CTy) (vs : CVals) → cwidth vs ≡ length (seens m n g vs)
seens_width m n g NoCVals = refl
seens_width m n g (MoreCVals v vs) = let h = seens_width m n g vs in omega (arith, h)

module _ (b : Bool) where
  -- nodes lead to a body that ends with this text, with the same second branches to come, and of whose first m names
  -- the same is known
  record Makes (nodes : List CNd → List CNd) (m : ℕ) (κ : Known) (p : Sheet) (text : List ℕ) : Type 0 where
    body : Lines
    frame : Frame
    goes : (rest : List CNd) →
        walk b (nodes rest) κ p
        ≡ walk b rest (with_frames frame κ.around) (record { body = body; around = p.around })
    ends : shut body ≡ text
    branches : body.branches ≡ p.body.branches
    kept : Kept m κ.body.names frame.names

  -- a name is declared, of this type
  named_as : (nd : CNd) (κ : Known) (p : Sheet) (rest : List CNd) (m n : ℕ) (t u : CTy) → m ≤ length κ.body.names →
      t ≡ u →
      walk b rest (declare m n t κ) (step (name_note b (declare m n t κ).body.names m) nd p)
      ≡ walk b rest (declare m n u κ) (step (note_text b n u) nd p)
  named_as nd κ p rest m n t u long e =
      ap (λ v. walk b rest (declare m n v κ) (step (name_note b (declare m n v κ).body.names m) nd p)) e
      ∙ ap (λ note. walk b rest (declare m n u κ) (step note nd p)) (note_new b m κ.body.names (entry_of u n) long)

  mutual
    of_value : (v : CVal) (m : ℕ) (g : List CTy) (rest : List CNd) (κ : Known) (p : Sheet) → CScoped_v m v →
        Holds κ.body.names m p.body.scope.types g →
        walk b (clin_v m v rest) κ p
        ≡ walk b rest (put κ (seen m p.body.scope.types g v)) (push p (value_text b g p.body.scope.types m
        p.body.scope.indent v))
    of_value (CVar i) m g rest κ p s h =
        ap (λ l. walk b rest (put κ (named (level_of m i))) (push p (value_name l))) (level_is m i)
    of_value (CInt z) m g rest κ p s h = refl
    of_value (CTuple vs) m g rest κ p s h =
        let n = p.body.scope.types in
        let k = p.body.scope.indent in
        let ss = texts b g n m k vs in
        let known = put κ (own n (TCTuple (value_types g vs))) in
        of_values vs m g (MTuple (cwidth vs) ∷ rest) κ p s h
        ∙ ap (λ x. walk b rest x (with_values p ((codes "<" ++ gathered (cwidth vs) 0 (stack ss p.body.values) (codes
        ">")) ∷ past (cwidth vs) (stack ss p.body.values))))
        (tuple_is κ.body.names m n g h κ.body.values vs (cwidth vs) κ.around s (seens_width m n g vs))
        ∙ ap₂ (λ (t : List ℕ) us. walk b rest known (with_values p ((codes "<" ++ t) ∷ us)))
        (gather_all b g n m k (cwidth vs) vs p.body.values (codes ">") (width_is b g n m k vs))
        (past_some ss 0 (cwidth vs) p.body.values (let w = width_is b g n m k vs in omega (arith, w)))
    of_value (CCode owes args body) m g rest κ p s h =
        let n = p.body.scope.types in
        let k = p.body.scope.indent in
        let inner = cargs_onto args (TCCode owes args ∷ []) in
        let known = put κ (own n (TCCode owes args)) in
        let head = code_line true 0 0 owes args in
        let r = of_term body (lift (ccount args) 1) owes (k + 1) inner head [] (p.body ∷ p.around)
        (enter n owes args κ) s (holds_code owes args) in
        r.goes (MEnd ∷ rest)
        ∙ ap (λ (t : List ℕ). walk b rest known (push p (t ++ (margin k ++ codes "}"))))
        r.ends
        ∙ ap (λ t. walk b rest known (push p t)) (tuple_text (head
        ++ term_text b inner owes (lift (ccount args) 1) (k + 1) body) (margin k) (codes "}"))
    of_value (CApply v ts) m g rest κ p s h =
        let n = p.body.scope.types in
        let k = p.body.scope.indent in
        let x = seen m n g v in
        of_value v m g (MApply ts ∷ rest) κ p s h
        ∙ ap₂ (λ ss t. walk b rest (with_names κ.body.names (ss ++ own n (applied_type t ts) ∷ []) κ.around)
        (push p (value_text b g n m k v ++ applied_text n ts)))
        (but_last_snoc κ.body.values x) (last_is κ.body.names m n g h κ.body.values v s)
    of_value (CPack a v t) m g rest κ p s h =
        let n = p.body.scope.types in
        let k = p.body.scope.indent in
        let x = seen m n g v in
        of_value v m g (MPack a t ∷ rest) κ p s h
        ∙ ap₂ (λ ss w. walk b rest (with_names κ.body.names (ss ++ own n t ∷ []) κ.around) (push p w))
        (but_last_snoc κ.body.values x)
        (pack_parts (codes "pack [") (type_text n a) (codes ", ") (value_text b g n m k v) (codes "] as ")
        (type_text n t))

    of_values : (vs : CVals) (m : ℕ) (g : List CTy) (rest : List CNd) (κ : Known) (p : Sheet) → CScoped_vs m vs →
        Holds κ.body.names m p.body.scope.types g →
        walk b (clin_vs m vs rest) κ p
        ≡ walk b rest (with_names κ.body.names (κ.body.values ++ seens m p.body.scope.types g vs) κ.around)
        (with_values p (stack (texts b g p.body.scope.types m p.body.scope.indent vs) p.body.values))
    of_values NoCVals m g rest κ p s h =
        ap (λ ss. walk b rest (with_names κ.body.names ss κ.around) p) (sym (append-nil κ.body.values))
    of_values (MoreCVals v vs) m g rest κ p s h =
        let n = p.body.scope.types in
        let x = seen m n g v in
        let w = value_text b g n m p.body.scope.indent v in
        of_value v m g (clin_vs m vs rest) κ p s.0 h
        ∙ of_values vs m g rest (put κ x) (push p w) s.1 h
        ∙ ap (λ ss. walk b rest (with_names κ.body.names ss κ.around)
        (with_values p (stack (texts b g n m p.body.scope.indent vs) (w ∷ p.body.values))))
        (append_assoc κ.body.values (x ∷ []) (seens m n g vs))

    of_decl : (d : CDecl) (m n k : ℕ) (g : List CTy) (text : List ℕ) (bs : List Scope) (ls : List Lines)
        (rest : List CNd) (κ : Known) → CScoped_d m d → Holds κ.body.names m n g →
        walk b (clin_d m d rest) κ (sheet text n k bs ls)
        ≡ walk b rest (declare m (types_behind n d) (decl_type g d) κ) (sheet (text ++ (margin k ++ codes "let "
        ++ bound_text n m (decl_note b g n d) d ++ codes " = " ++ declared_text b g n m k d ++ codes "\n"))
        (types_behind n d) k bs ls)
    of_decl (CName v) m n k g text bs ls rest κ s h =
        let p = sheet text n k bs ls in
        let w = value_text b g n m k v in
        let t = value_type g v in
        of_value v m g (MName m ∷ rest) κ p s h
        ∙ named_as (MName m) κ (push p w) rest m n (last_type n (put κ (seen m n g v))) t h.long
        (last_is κ.body.names m n g h κ.body.values v s)
        ∙ ap (λ x. walk b rest (declare m n t κ) (sheet x n k bs ls)) (line_text text (margin k) (codes "let ")
        (value_name m) (note_text b n t) (codes " = ") [] w (codes "\n"))
    of_decl (CProj i v) m n k g text bs ls rest κ s h =
        let p = sheet text n k bs ls in
        let w = value_text b g n m k v in
        let t = field_type i (value_type g v) in
        of_value v m g (MProj m i ∷ rest) κ p s h
        ∙ named_as (MProj m i) κ (push p w) rest m n (field_type i (last_type n (put κ (seen m n g v)))) t h.long
        (ap (field_type i) (last_is κ.body.names m n g h κ.body.values v s))
        ∙ ap (λ x. walk b rest (declare m n t κ) (sheet x n k bs ls)) (proj_text text (margin k) (codes "let ")
        (value_name m) (note_text b n t) (codes " = ") (codes "#") (decimal i) (codes " ") w (codes "\n"))
    of_decl (CArith op v w) m n k g text bs ls rest κ s h =
        let p = sheet text n k bs ls in
        let x = value_text b g n m k v in
        let y = value_text b g n m k w in
        of_value v m g (clin_v m w (MArith m op ∷ rest)) κ p s.0 h
        ∙ of_value w m g (MArith m op ∷ rest) (put κ (seen m n g v)) (push p x) s.1 h
        ∙ named_as (MArith m op) κ (push (push p x) y) rest m n TCInt TCInt h.long refl
        ∙ ap (λ t. walk b rest (declare m n TCInt κ) (sheet t n k bs ls)) (pair_text text (margin k) (codes "let ")
        (value_name m) (note_text b n TCInt) (codes " = ") x (op_sign op) y (codes "\n"))
    of_decl (CUnpack v) m n k g text bs ls rest κ s h =
        let p = sheet text n k bs ls in
        let w = value_text b g n m k v in
        let t = opened_type (value_type g v) in
        let more : n + 1 ≡ suc n = omega arith in
        of_value v m g (MUnpack m ∷ rest) κ p s h
        ∙ named_as (MUnpack m) κ (push p w) rest m (n + 1) (opened_type (last_type n (put κ (seen m n g v)))) t h.long
        (ap opened_type (last_is κ.body.names m n g h κ.body.values v s))
        ∙ ap (λ x. walk b rest (declare m (n + 1) t κ) (sheet x (n + 1) k bs ls)) (unpack_line text (margin k)
        (codes "let ") (codes "[") (type_name n) (codes ", ") (value_name m) (note_text b (n + 1) t) (codes "]")
        (codes " = ") (codes "unpack ") w (codes "\n"))
        ∙ ap (λ j. walk b rest (declare m j t κ) (sheet (text ++ (margin k ++ codes "let "
        ++ bound_text n m (note_text b j t) (CUnpack v) ++ codes " = " ++ declared_text b g n m k (CUnpack v)
        ++ codes "\n")) j k bs ls)) more
    of_decl (CCell v) m n k g text bs ls rest κ s h =
        let p = sheet text n k bs ls in
        let w = value_text b g n m k v in
        let t = TCRef (value_type g v) in
        of_value v m g (MCell m ∷ rest) κ p s h
        ∙ named_as (MCell m) κ (push p w) rest m n (TCRef (last_type n (put κ (seen m n g v)))) t h.long
        (ap TCRef (last_is κ.body.names m n g h κ.body.values v s))
        ∙ ap (λ x. walk b rest (declare m n t κ) (sheet x n k bs ls)) (line_text text (margin k) (codes "let ")
        (value_name m) (note_text b n t) (codes " = ") (codes "ref ") w (codes "\n"))
    of_decl (CGet v) m n k g text bs ls rest κ s h =
        let p = sheet text n k bs ls in
        let w = value_text b g n m k v in
        let t = held_type (value_type g v) in
        of_value v m g (MGet m ∷ rest) κ p s h
        ∙ named_as (MGet m) κ (push p w) rest m n (held_type (last_type n (put κ (seen m n g v)))) t h.long
        (ap held_type (last_is κ.body.names m n g h κ.body.values v s))
        ∙ ap (λ x. walk b rest (declare m n t κ) (sheet x n k bs ls)) (line_text text (margin k) (codes "let ")
        (value_name m) (note_text b n t) (codes " = ") (codes "!") w (codes "\n"))
    of_decl (CSet v w) m n k g text bs ls rest κ s h =
        let p = sheet text n k bs ls in
        let x = value_text b g n m k v in
        let y = value_text b g n m k w in
        let t = TCTuple NoCTys in
        of_value v m g (clin_v m w (MSet m ∷ rest)) κ p s.0 h
        ∙ of_value w m g (MSet m ∷ rest) (put κ (seen m n g v)) (push p x) s.1 h
        ∙ named_as (MSet m) κ (push (push p x) y) rest m n t t h.long refl
        ∙ ap (λ z. walk b rest (declare m n t κ) (sheet z n k bs ls)) (pair_text text (margin k) (codes "let ")
        (value_name m) (note_text b n t) (codes " = ") x (codes " := ") y (codes "\n"))

    of_term : (t : CTm) (m n k : ℕ) (g : List CTy) (text : List ℕ) (bs : List Scope) (ls : List Lines) (κ : Known) →
        CScoped m t → Holds κ.body.names m n g →
        Makes (clin_t m t) m κ (sheet text n k bs ls) (text ++ term_text b g n m k t)
    of_term (CLet d t) m n k g text bs ls κ s h =
        let bound = bound_text n m (decl_note b g n d) d in
        let line = margin k ++ codes "let " ++ bound ++ codes " = " ++ declared_text b g n m k d ++ codes "\n" in
        let behind = names_behind g d in
        let r = of_term t (suc m) (types_behind n d) k behind (text ++ line) bs ls
        (declare m (types_behind n d) (decl_type g d) κ) s.1 (holds_behind κ.body.names m n g d h) in
        record {
          body = r.body;
          frame = r.frame;
          goes = λ rest. of_decl d m n k g text bs ls (clin_t (suc m) t rest) κ s.0 h ∙ r.goes rest;
          ends = r.ends ∙ let_text text (margin k) (codes "let ") bound (codes " = ") (declared_text b g n m k d)
              (codes "\n") (term_text b behind (types_behind n d) (suc m) k t);
          branches = r.branches;
          kept = kept_behind κ.body.names r.frame.names m (entry_of (decl_type g d) (types_behind n d)) h.long r.kept;
        }
    of_term (CCall f ts vs) m n k g text bs ls κ s h =
        let ss = texts b g n m k vs in
        let called = step [] (MCall ts (cwidth vs)) (push (sheet text n k bs ls) (value_text b g n m k f)) in
        record {
          body = with_text called.body called.body.text (stack ss []);
          frame = (with_names κ.body.names (seens m n g vs) κ.around).body;
          goes = λ rest.
              of_value f m g (MCall ts (cwidth vs) ∷ clin_vs m vs rest) κ (sheet text n k bs ls) s.0 h
              ∙ of_values vs m g rest (with_names κ.body.names [] κ.around) called s.1 h;
          ends =
              ap (λ (t : List ℕ). called.body.text ++ t)
              (gather_all b g n m k (length (stack ss [])) vs [] (codes ")\n")
              (let w = stack_length ss [] in omega (arith, w)))
              ∙ call_text text (margin k) (value_text b g n m k f) (codes "[") (types_text n ts) (codes "](")
              (values_after b g 0 n m k vs) (codes ")\n");
          branches = refl;
          kept = kept_same κ.body.names m n g h;
        }
    of_term (CIf v t u) m n k g text bs ls κ s h =
        let w = value_text b g n m k v in
        let first = text ++ ((margin k ++ codes "if0 ") ++ (w ++ codes " then\n")) in
        let zero_part = term_text b g n m (k + 1) t in
        let r = of_term t m n (k + 1) g first (scope_of n k ∷ bs) ls (with_names κ.body.names [] κ.around) s.1 h in
        let second = first ++ zero_part ++ (margin k ++ codes "else\n") in
        let known = with_names r.frame.names [] κ.around in
        let q = of_term u m n (k + 1) g second bs ls known s.2
        (kept_holds κ.body.names r.frame.names m n g r.kept h) in
        record {
          body = q.body;
          frame = q.frame;
          goes = λ rest.
              of_value v m g (MIf ∷ clin_t m t (MElse ∷ clin_t m u rest)) κ (sheet text n k bs ls) s.0 h
              ∙ r.goes (MElse ∷ clin_t m u rest)
              ∙ ap (walk b (clin_t m u rest) known) (turn_is (record { body = r.body; around = ls }) (scope_of n k) bs
              (first ++ zero_part) r.branches r.ends)
              ∙ q.goes rest;
          ends = q.ends ∙ if_text text (margin k) (codes "if0 ") w (codes " then\n") zero_part (codes "else\n")
              (term_text b g n m (k + 1) u);
          branches = q.branches;
          kept = kept_twice κ.body.names r.frame.names q.frame.names m r.kept q.kept;
        }
    of_term (CHalt v) m n k g text bs ls κ s h = record {
      body = (step [] MHalt (push (sheet text n k bs ls) (value_text b g n m k v))).body;
      frame = (with_names κ.body.names [] κ.around).body;
      goes = λ rest. of_value v m g (MHalt ∷ rest) κ (sheet text n k bs ls) s h;
      ends = halt_text text (margin k) (codes "halt ") (value_text b g n m k v) (codes "\n");
      branches = refl;
      kept = kept_same κ.body.names m n g h;
    }

  pub nodes_make : (t : CTm) → CScoped 0 t → shut (walk b (clin_t 0 t []) nothing blank).body ≡ c_text b t
  nodes_make t s =
      let r = of_term t 0 0 0 [] [] [] [] nothing s (holds_none [] 0) in
      ap (λ (p : Sheet). shut p.body) (r.goes []) ∙ r.ends
