-- The text of a term as tokens and the white space between them.
use Rattle.std.proofs.Common.{◌≡◌, ℕ, suc, ◌+◌, ◌-◌, ℤ, pos, negsuc, List, [], ◌∷◌, ◌++◌, Bool, true, false, codes}
use Rattle.std.proofs.Common.{decimal, refl, sym, ap, ap₂, ◌∙◌, append_assoc, add-one, if◌then◌else◌}
use Rattle.std.proofs.lemmas.List.{append-nil}
use Rattle.idx_core.specs.declared.arith.Op.{Op}
use Rattle.idx_core.specs.declared.arith.Op.TheVariants.{Add, Sub, Mul}
use Rattle.f_terms.specs.Ty.{Ty, TInt, TVar, TArrow, TAll, TTuple, TSome, TRef, Tys, NoTys, MoreTys}
use Rattle.f_terms.specs.Text.{name_text, is_grouped, text_at, texts_at}
use Rattle.f_terms.specs.Tm.{Term, MVar, MNum, MFix, MApp, MGen, MInst, MTuple, MProj, MArith, MIf0, MLet, MPack}
use Rattle.f_terms.specs.Tm.{MOpen, MRef, MDeref, MAssign, Terms, NoTerms, MoreTerms}
use Rattle.f_lexer.specs.declared.kind.Kind.{Kind}
use Rattle.f_lexer.specs.declared.kind.Kind.TheVariants as k
use Rattle.f_writer.specs.declared.line.Line.TheVariants.{Sum, Call, Primary}
use Rattle.f_writer.specs.Lines.{is_loose, op_line, right_line, line_of}
use Rattle.f_writer.specs.Notation.{value_text, integer_text, op_text, wrapped, written, fields_written, more_written}

pub data Lexeme : Type 0 where
  -- a reserved word, and the names of a value and of a type by their levels
  Reserved : List ℕ → Kind → Lexeme
  ValueName : ℕ → Lexeme
  TypeName : ℕ → Lexeme
  Number : ℤ → Lexeme
  -- a sign of one byte, of two, and one of one byte with a space after it
  Sign : ℕ → Kind → Lexeme
  Pair : ℕ → ℕ → Kind → Lexeme
  Spaced : ℕ → Kind → Lexeme
  -- a space or a line end
  Blank : ℕ → Lexeme

abbrev pub bytes : Lexeme → List ℕ
bytes (Reserved u kind) = u
bytes (ValueName n) = 120 ∷ decimal n
bytes (TypeName n) = 116 ∷ decimal n
bytes (Number z) = integer_text z
bytes (Sign b kind) = b ∷ []
bytes (Pair a b kind) = a ∷ (b ∷ [])
bytes (Spaced b kind) = b ∷ (32 ∷ [])
bytes (Blank b) = b ∷ []

abbrev pub render : List Lexeme → List ℕ
render [] = []
render (l ∷ ls) = bytes l ++ render ls

abbrev pub space : Lexeme
space = Blank 32

abbrev pub comma : Lexeme
comma = Spaced 44 k.Comma

abbrev pub open_paren : Lexeme
open_paren = Sign 40 k.LeftParen

abbrev pub close_paren : Lexeme
close_paren = Sign 41 k.RightParen

abbrev pub inside : Bool → List Lexeme → List Lexeme
inside true ls = open_paren ∷ (ls ++ close_paren ∷ [])
inside false ls = ls

-- a type inside d type names
abbrev mutual
  pub type_lexed : ℕ → Ty → List Lexeme
  type_lexed d TInt = Reserved (codes "int") k.Int ∷ []
  type_lexed d (TVar i) = TypeName (d - 1 - i) ∷ []
  type_lexed d (TArrow a b) = inside (is_grouped a) (type_lexed d a) ++
      (space ∷ (Pair 45 62 k.Arrow ∷ (space ∷ type_lexed d b)))
  type_lexed d (TAll t) = Reserved (codes "all") k.All ∷
      (space ∷ (TypeName d ∷ (Spaced 46 k.Dot ∷ type_lexed (d + 1) t)))
  type_lexed d (TTuple ts) = Sign 60 k.LeftAngle ∷ (types_lexed d ts ++ Sign 62 k.RightAngle ∷ [])
  type_lexed d (TSome t) = Reserved (codes "some") k.Some ∷
      (space ∷ (TypeName d ∷ (Spaced 46 k.Dot ∷ type_lexed (d + 1) t)))
  type_lexed d (TRef t) = Reserved (codes "ref") k.Ref ∷ (space ∷ inside (is_grouped t) (type_lexed d t))

  pub types_lexed : ℕ → Tys → List Lexeme
  types_lexed d NoTys = []
  types_lexed d (MoreTys t ts) = type_lexed d t ++ more_types_lexed d ts

  pub more_types_lexed : ℕ → Tys → List Lexeme
  more_types_lexed d NoTys = []
  more_types_lexed d (MoreTys t ts) = comma ∷ (type_lexed d t ++ more_types_lexed d ts)

abbrev pub op_lexeme : Op → Lexeme
op_lexeme Add = Spaced 43 k.Plus
op_lexeme Sub = Spaced 45 k.Minus
op_lexeme Mul = Spaced 42 k.Star

-- a term inside n type names and m value names
abbrev mutual
  pub lexed : ℕ → ℕ → Term → List Lexeme
  lexed n m (MVar i) = ValueName (m - 1 - i) ∷ []
  lexed n m (MNum z) = Number z ∷ []
  lexed n m (MFix arg res e) =
      Reserved (codes "fix") k.Fix ∷ (space ∷ (ValueName m ∷ (open_paren ∷ (ValueName (m + 1) ∷ (Spaced 58 k.Colon ∷
      (type_lexed n arg ++ (close_paren ∷ (Spaced 58 k.Colon ∷
      (type_lexed n res ++ (Spaced 46 k.Dot ∷ lexed n (m + 2) e))))))))))
  lexed n m (MApp f x) = inside (is_loose (line_of f) Call) (lexed n m f) ++
      (space ∷ inside (is_loose (line_of x) Primary) (lexed n m x))
  lexed n m (MGen e) = Reserved (codes "gen") k.Gen ∷ (space ∷ (TypeName n ∷ (Spaced 46 k.Dot ∷ lexed (n + 1) m e)))
  lexed n m (MInst e t) = inside (is_loose (line_of e) Call) (lexed n m e) ++
      (Sign 91 k.LeftBracket ∷ (type_lexed n t ++ Sign 93 k.RightBracket ∷ []))
  lexed n m (MTuple es) = Sign 60 k.LeftAngle ∷ (fields_lexed n m es ++ Sign 62 k.RightAngle ∷ [])
  lexed n m (MProj i e) = Sign 35 k.Hash ∷ (Number (pos i) ∷
      (space ∷ inside (is_loose (line_of e) Primary) (lexed n m e)))
  lexed n m (MArith op a b) = inside (is_loose (line_of a) (op_line op)) (lexed n m a) ++
      (space ∷ (op_lexeme op ∷ inside (is_loose (line_of b) (right_line op)) (lexed n m b)))
  lexed n m (MIf0 c a b) =
      Reserved (codes "if0") k.If0 ∷ (open_paren ∷ (lexed n m c ++
      (comma ∷ (lexed n m a ++ (comma ∷ (lexed n m b ++ close_paren ∷ []))))))
  lexed n m (MLet a b) =
      Reserved (codes "let") k.Let ∷ (space ∷ (ValueName m ∷ (space ∷ (Spaced 61 k.Equals ∷
      (lexed n m a ++ (space ∷ (Reserved (codes "in") k.In ∷ (Blank 10 ∷ lexed n (m + 1) b))))))))
  lexed n m (MPack h e t) =
      Reserved (codes "pack") k.Pack ∷ (Sign 91 k.LeftBracket ∷ (type_lexed n h ++ (comma ∷
      (lexed n m e ++ (Sign 93 k.RightBracket ∷ (space ∷ (Reserved (codes "as") k.As ∷ (space ∷ type_lexed n t))))))))
  lexed n m (MOpen a b) =
      Reserved (codes "open") k.Open ∷ (space ∷ (Sign 91 k.LeftBracket ∷
      (TypeName n ∷ (comma ∷ (ValueName m ∷ (Sign 93 k.RightBracket ∷ (space ∷ (Spaced 61 k.Equals ∷
      (lexed n m a ++ (space ∷ (Reserved (codes "in") k.In ∷ (Blank 10 ∷ lexed (n + 1) (m + 1) b))))))))))))
  lexed n m (MRef e) = Reserved (codes "ref") k.Ref ∷ (space ∷ inside (is_loose (line_of e) Primary) (lexed n m e))
  lexed n m (MDeref e) = Sign 33 k.Bang ∷ inside (is_loose (line_of e) Primary) (lexed n m e)
  lexed n m (MAssign a b) =
      inside (is_loose (line_of a) Sum) (lexed n m a) ++
      (space ∷ (Pair 58 61 k.Assign ∷ (space ∷ inside (is_loose (line_of b) Sum) (lexed n m b))))

  pub fields_lexed : ℕ → ℕ → Terms → List Lexeme
  fields_lexed n m NoTerms = []
  fields_lexed n m (MoreTerms e es) = lexed n m e ++ more_lexed n m es

  pub more_lexed : ℕ → ℕ → Terms → List Lexeme
  more_lexed n m NoTerms = []
  more_lexed n m (MoreTerms e es) = comma ∷ (lexed n m e ++ more_lexed n m es)

-- the bytes of lexemes

pub render_append : (a b : List Lexeme) → render (a ++ b) ≡ render a ++ render b
render_append [] b = refl
render_append (l ∷ a) b = ap (λ (s : List ℕ). bytes l ++ s) (render_append a b) ∙ sym
    (append_assoc (bytes l) (render a) (render b))

render_inside : (b : Bool) (ls : List Lexeme) (s : List ℕ) → render ls ≡ s → render (inside b ls) ≡ wrapped b s
render_inside true ls s e = ap (λ (u : List ℕ). 40 ∷ u)
    (render_append ls (close_paren ∷ []) ∙ ap (λ (u : List ℕ). u ++ 41 ∷ []) e)
render_inside false ls s e = e

-- the same by the form of the text of a type
if_grouped : (b : Bool) (s : List ℕ) → wrapped b s ≡ (if b then codes "(" else []) ++ s ++
    (if b then codes ")" else [])
if_grouped true s = refl
if_grouped false s = sym (append-nil s)

join_three : (a b c : List ℕ) → a ++ (b ++ c) ≡ a ++ b ++ c
join_three a b c = simp append_assoc

mutual
  pub type_rendered : (d : ℕ) (t : Ty) → render (type_lexed d t) ≡ text_at d t
  type_rendered d TInt = refl
  type_rendered d (TVar i) = append-nil (116 ∷ decimal (d - 1 - i))
  type_rendered d (TArrow a b) =
      let g = render_inside (is_grouped a) (type_lexed d a) (text_at d a) (type_rendered d a) ∙ if_grouped
      (is_grouped a) (text_at d a) in
      render_append (inside (is_grouped a) (type_lexed d a)) (space ∷ (Pair 45 62 k.Arrow ∷ (space ∷ type_lexed d b)))
      ∙ ap₂ (λ (u v : List ℕ). u ++ (codes " -> " ++ v)) g (type_rendered d b)
      ∙ join_three ((if is_grouped a then codes "(" else []) ++ text_at d a ++
      (if is_grouped a then codes ")" else [])) (codes " -> ") (text_at d b)
  type_rendered d (TAll t) = ap (λ (u : List ℕ). codes "all t" ++ (decimal d ++ (codes ". " ++ u)))
      (type_rendered (d + 1) t) ∙ simp append_assoc
  type_rendered d (TTuple ts) = ap (λ (u : List ℕ). codes "<" ++ u)
      (render_append (types_lexed d ts) (Sign 62 k.RightAngle ∷ []) ∙ ap (λ (u : List ℕ). u ++ codes ">")
      (types_rendered d ts))
  type_rendered d (TSome t) = ap (λ (u : List ℕ). codes "some t" ++ (decimal d ++ (codes ". " ++ u)))
      (type_rendered (d + 1) t) ∙ simp append_assoc
  type_rendered d (TRef t) =
      ap (λ (u : List ℕ). codes "ref " ++ u) (render_inside (is_grouped t) (type_lexed d t) (text_at d t)
      (type_rendered d t) ∙ if_grouped (is_grouped t) (text_at d t))
      ∙ simp append_assoc

  types_rendered : (d : ℕ) (ts : Tys) → render (types_lexed d ts) ≡ texts_at d 0 ts
  types_rendered d NoTys = refl
  types_rendered d (MoreTys t ts) = render_append (type_lexed d t) (more_types_lexed d ts) ∙ ap₂
      (λ (u v : List ℕ). u ++ v) (type_rendered d t) (more_types_rendered d 0 ts)

  more_types_rendered : (d i : ℕ) (ts : Tys) → render (more_types_lexed d ts) ≡ texts_at d (suc i) ts
  more_types_rendered d i NoTys = refl
  more_types_rendered d i (MoreTys t ts) =
      ap (λ (u : List ℕ). codes ", " ++ u) (render_append (type_lexed d t) (more_types_lexed d ts) ∙ ap₂
      (λ (u v : List ℕ). u ++ v) (type_rendered d t) (more_types_rendered d (suc i) ts))
      ∙ ap (λ (j : ℕ). codes ", " ++ text_at d t ++ texts_at d j ts) (sym (add-one (suc i)))

-- pieces joined
join_four : (a b c d : List ℕ) → a ++ (b ++ (c ++ d)) ≡ a ++ b ++ c ++ d
join_four a b c d = simp append_assoc

join_six : (a b c d e f : List ℕ) → a ++ (b ++ (c ++ (d ++ (e ++ f)))) ≡ a ++ b ++ c ++ d ++ e ++ f
join_six a b c d e f = simp append_assoc

join_seven : (a b c d e f g : List ℕ) → a ++ (b ++ (c ++ (d ++ (e ++ (f ++ g))))) ≡ a ++ b ++ c ++ d ++ e ++ f ++ g
join_seven a b c d e f g = simp append_assoc

join_eight : (a b c d e f g h : List ℕ) → a ++ (b ++ (c ++ (d ++ (e ++ (f ++ (g ++ h)))))) ≡ a ++ b ++ c ++ d ++ e ++
    f ++ g ++ h
join_eight a b c d e f g h = simp append_assoc

join_ten : (a b c d e f g h i j : List ℕ) → a ++ (b ++ (c ++ (d ++ (e ++ (f ++ (g ++ (h ++ (i ++ j)))))))) ≡ a ++ b ++
    c ++ d ++ e ++ f ++ g ++ h ++ i ++ j
join_ten a b c d e f g h i j = simp append_assoc

mutual
  pub term_rendered : (n m : ℕ) (e : Term) → render (lexed n m e) ≡ written n m e
  term_rendered n m (MVar i) = append-nil (120 ∷ decimal (m - 1 - i))
  term_rendered n m (MNum (pos i)) = append-nil (decimal i)
  term_rendered n m (MNum (negsuc i)) = append-nil (126 ∷ decimal (suc i))
  term_rendered n m (MFix arg res e) =
      simp (render_append, type_rendered n arg, type_rendered n res, term_rendered n (m + 2) e)
      (join_ten (codes "fix ") (value_text m) (codes "(") (value_text (m + 1)) (codes ": ") (text_at n arg)
      (codes "): ") (text_at n res) (codes ". ") (written n (m + 2) e))
  term_rendered n m (MApp f x) =
      simp (
        render_append,
        render_inside (is_loose (line_of f) Call) (lexed n m f) (written n m f)
            (term_rendered n m f),
        render_inside (is_loose (line_of x) Primary) (lexed n m x) (written n m x)
            (term_rendered n m x),
      )
      (join_three (wrapped (is_loose (line_of f) Call) (written n m f)) (codes " ")
      (wrapped (is_loose (line_of x) Primary) (written n m x)))
  term_rendered n m (MGen e) = simp (term_rendered (n + 1) m e)
      (join_four (codes "gen ") (name_text n) (codes ". ") (written (n + 1) m e))
  term_rendered n m (MInst e t) =
      simp (
        render_append,
        render_inside (is_loose (line_of e) Call) (lexed n m e) (written n m e)
            (term_rendered n m e),
        type_rendered n t,
      )
      (join_four (wrapped (is_loose (line_of e) Call) (written n m e)) (codes "[") (text_at n t) (codes "]"))
  term_rendered n m (MTuple es) = simp (render_append, fields_rendered n m es)
      (join_three (codes "<") (fields_written n m es) (codes ">"))
  term_rendered n m (MProj i e) =
      simp (render_inside (is_loose (line_of e) Primary) (lexed n m e) (written n m e) (term_rendered n m e))
      (join_four (codes "#") (decimal i) (codes " ") (wrapped (is_loose (line_of e) Primary) (written n m e)))
  term_rendered n m (MArith Add a b) =
      simp (
        render_append,
        render_inside (is_loose (line_of a) (op_line Add)) (lexed n m a) (written n m a)
            (term_rendered n m a),
        render_inside (is_loose (line_of b) (right_line Add)) (lexed n m b) (written n m b)
            (term_rendered n m b),
      )
      (join_three (wrapped (is_loose (line_of a) (op_line Add)) (written n m a)) (op_text Add)
      (wrapped (is_loose (line_of b) (right_line Add)) (written n m b)))
  term_rendered n m (MArith Sub a b) =
      simp (
        render_append,
        render_inside (is_loose (line_of a) (op_line Sub)) (lexed n m a) (written n m a)
            (term_rendered n m a),
        render_inside (is_loose (line_of b) (right_line Sub)) (lexed n m b) (written n m b)
            (term_rendered n m b),
      )
      (join_three (wrapped (is_loose (line_of a) (op_line Sub)) (written n m a)) (op_text Sub)
      (wrapped (is_loose (line_of b) (right_line Sub)) (written n m b)))
  term_rendered n m (MArith Mul a b) =
      simp (
        render_append,
        render_inside (is_loose (line_of a) (op_line Mul)) (lexed n m a) (written n m a)
            (term_rendered n m a),
        render_inside (is_loose (line_of b) (right_line Mul)) (lexed n m b) (written n m b)
            (term_rendered n m b),
      )
      (join_three (wrapped (is_loose (line_of a) (op_line Mul)) (written n m a)) (op_text Mul)
      (wrapped (is_loose (line_of b) (right_line Mul)) (written n m b)))
  term_rendered n m (MIf0 c a b) =
      simp (render_append, term_rendered n m c, term_rendered n m a, term_rendered n m b)
      (join_seven (codes "if0(") (written n m c) (codes ", ") (written n m a) (codes ", ") (written n m b)
      (codes ")"))
  term_rendered n m (MLet a b) =
      simp (render_append, term_rendered n m a, term_rendered n (m + 1) b)
      (join_six (codes "let ") (value_text m) (codes " = ") (written n m a) (codes " in\n") (written n (m + 1) b))
  term_rendered n m (MPack h e t) =
      simp (render_append, type_rendered n h, term_rendered n m e, type_rendered n t)
      (join_six (codes "pack[") (text_at n h) (codes ", ") (written n m e) (codes "] as ") (text_at n t))
  term_rendered n m (MOpen a b) =
      simp (render_append, term_rendered n m a, term_rendered (n + 1) (m + 1) b)
      (join_eight (codes "open [") (name_text n) (codes ", ") (value_text m) (codes "] = ") (written n m a)
      (codes " in\n") (written (n + 1) (m + 1) b))
  term_rendered n m (MRef e) = ap (λ (s : List ℕ). codes "ref " ++ s)
      (render_inside (is_loose (line_of e) Primary) (lexed n m e) (written n m e) (term_rendered n m e))
  term_rendered n m (MDeref e) = ap (λ (s : List ℕ). codes "!" ++ s)
      (render_inside (is_loose (line_of e) Primary) (lexed n m e) (written n m e) (term_rendered n m e))
  term_rendered n m (MAssign a b) =
      simp (
        render_append,
        render_inside (is_loose (line_of a) Sum) (lexed n m a) (written n m a)
            (term_rendered n m a),
        render_inside (is_loose (line_of b) Sum) (lexed n m b) (written n m b)
            (term_rendered n m b),
      )
      (join_three (wrapped (is_loose (line_of a) Sum) (written n m a)) (codes " := ")
      (wrapped (is_loose (line_of b) Sum) (written n m b)))

  fields_rendered : (n m : ℕ) (es : Terms) → render (fields_lexed n m es) ≡ fields_written n m es
  fields_rendered n m NoTerms = refl
  fields_rendered n m (MoreTerms e es) = simp (render_append, term_rendered n m e, more_rendered n m es)

  more_rendered : (n m : ℕ) (es : Terms) → render (more_lexed n m es) ≡ more_written n m es
  more_rendered n m NoTerms = refl
  more_rendered n m (MoreTerms e es) = simp (render_append, term_rendered n m e, more_rendered n m es)
      (join_three (codes ", ") (written n m e) (more_written n m es))
