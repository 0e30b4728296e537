-- The bytes of lists of lexemes, and of lists that a loop writes item by item.
use Rattle.std.proofs.Common.{Bool, ◌≡◌, ◌≤◌, ◌<◌, ℕ, suc, ◌+◌, ◌-◌, List, [], ◌∷◌, ◌++◌, length, drop, get_or, refl}
use Rattle.std.proofs.Common.{sym, ◌∙◌, ap, subst, arith, append_assoc, add-one, drop-cons, codes, decimal}
use Rattle.std.specs.Prelude.{All}
use Rattle.std.proofs.lemmas.List.{append-nil}
use Rattle.std.proofs.lemmas.List.Elements.{All-nil, All-cons}
use Rattle.std.proofs.Math.ListN.{drop_of_length-le}
use Rattle.t_types.specs.declared.types.TType.{TType}
use Rattle.t_types.specs.Tree.{Ty, CodeTy, TupleTy, TFile, TFields}
use Rattle.t_types.specs.Read.{tree, file, fields, types}
use Rattle.t_types.specs.WellFormed.{WellFormed, RegsAbove, WellFormedFields, WellFormedTypes}
use Rattle.t_terms.specs.Tree.{TValue, Pack}
use Rattle.t_writer.specs.Lexeme.{Lexeme, TypeName, Register, bytes, render}
use Rattle.t_writer.specs.Lexeme.{caret, colon, right_angle, right_brace, right_bracket}
use Rattle.t_writer.specs.Written.{separator, names_written, binds_written, flag_written, type_written, regs_written}
use Rattle.t_writer.specs.Written.{fields_written, file_written, types_written, list_written, value_written}

pub render_append : (a b : List Lexeme) → render (a ++ b) ≡ render a ++ render b
render_append [] b = refl
render_append (l ∷ a) b =
    ap (λ (s : List ℕ). bytes l ++ s) (render_append a b) ∙ sym (append_assoc (bytes l) (render a) (render b))

-- items with separators, with i before them
abbrev pub listed : {A : Type 0} → (A → List Lexeme) → ℕ → List A → List Lexeme
listed item i [] = []
listed item i (x ∷ xs) = separator i ++ (item x ++ listed item (suc i) xs)

abbrev pub reg_item : ℕ → ℕ × TType → List Lexeme
reg_item d x = Register x.0 ∷ (colon ∷ type_written d (tree x.1))

abbrev pub field_item : ℕ → TType × Bool → List Lexeme
field_item d x = type_written d (tree x.0) ++ (caret ∷ (flag_written x.1 ∷ []))

pub regs_listed : (i d : ℕ) (xs : List (ℕ × TType)) → regs_written i d (file xs) ≡ listed (reg_item d) i xs
regs_listed i d [] = refl
regs_listed i d (x ∷ xs) =
    ap (λ (ls : List Lexeme). separator i ++ (Register x.0 ∷ (colon ∷ (type_written d (tree x.1) ++ ls))))
    (regs_listed (suc i) d xs)

pub fields_listed : (i d : ℕ) (xs : List (TType × Bool)) → fields_written i d (fields xs) ≡ listed (field_item d) i xs
fields_listed i d [] = refl
fields_listed i d (x ∷ xs) =
    ap (λ (ls : List Lexeme). separator i
    ++ (type_written d (tree x.0) ++ (caret ∷ (flag_written x.1 ∷ ls)))) (fields_listed (suc i) d xs)
    ∙ ap (λ (ls : List Lexeme). separator i ++ ls)
    (sym (append_assoc (type_written d (tree x.0)) (caret ∷ (flag_written x.1 ∷ []))
    (listed (field_item d) (suc i) xs)))

pub types_listed : (i d : ℕ) (xs : List TType) →
    types_written i d (types xs) ≡ listed (λ (t : TType). type_written d (tree t)) i xs
types_listed i d [] = refl
types_listed i d (x ∷ xs) =
    ap (λ (ls : List Lexeme). separator i ++ (type_written d (tree x) ++ ls)) (types_listed (suc i) d xs)

-- what a loop keeps: the text so far, with what is left, is the whole
abbrev pub Left : {A : Type 0} → (A → List Lexeme) → List ℕ → ℕ → List A → List ℕ → Type 0
Left item text i xs whole = text ++ render (listed item i (drop i xs)) ≡ whole

pub left_more : {A : Type 0} (item : A → List Lexeme) (text next : List ℕ) (i : ℕ) (xs : List A) (x : A)
    (whole : List ℕ) → x ≡ get_or xs i x → i < length xs →
    Left item text i xs whole → next ≡ text ++ (render (separator i) ++ render (item x)) →
    Left item next (i + 1) xs whole
left_more item text next i xs x whole is lt h e =
    let d : drop i xs ≡ x ∷ drop (suc i) xs = drop-cons xs i x lt ∙ ap (λ (y : _). y ∷ drop (suc i) xs) (sym is) in
    let w : text ++ render (listed item i (x ∷ drop (suc i) xs)) ≡ whole =
    subst (λ ys. text ++ render (listed item i ys) ≡ whole) d h in
    let j : text ++ (render (separator i) ++ (render (item x) ++ render (listed item (suc i) (drop (suc i) xs))))
    ≡ whole =
    ap (λ (s : List ℕ). text ++ s)
    (sym (render_append (separator i) (item x ++ listed item (suc i) (drop (suc i) xs))
    ∙ ap (λ (s : List ℕ). render (separator i) ++ s)
    (render_append (item x) (listed item (suc i) (drop (suc i) xs))))) ∙ w in
    rw (add-one i, e) (simp append_assoc j)

pub left_none : {A : Type 0} (item : A → List Lexeme) (text : List ℕ) (i : ℕ) (xs : List A) (whole : List ℕ) →
    Left item text i xs whole → length xs ≤ i → text ≡ whole
left_none item text i xs whole h le =
    sym (append-nil text) ∙ subst (λ ys. text ++ render (listed item i ys) ≡ whole) (drop_of_length-le xs le) h

-- the same of the names of a binder
pub names_more : (text mid next : List ℕ) (i d n : ℕ) (whole : List ℕ) → i < n →
    text ++ render (names_written i (d + i) (n - i)) ≡ whole → mid ≡ text ++ render (separator i) →
    next ≡ mid ++ 84 ∷ decimal (d + i) →
    next ++ render (names_written (i + 1) (d + (i + 1)) (n - (i + 1))) ≡ whole
names_more text mid next i d n whole lt h e f =
    let m : n - i ≡ suc (n - suc i) = omega arith in
    let a : d + (i + 1) ≡ d + i + 1 = omega arith in
    let w : text ++ render (separator i ++ (TypeName (d + i) ∷ names_written (suc i) (d + i + 1) (n - suc i)))
    ≡ whole = subst (λ c. text ++ render (names_written i (d + i) c) ≡ whole) m h in
    let j = rw (render_append (separator i) (TypeName (d + i) ∷ names_written (suc i) (d + i + 1) (n - suc i))) at w in
    rw (a, add-one i, f, e) (simp append_assoc j)

pub names_none : (text : List ℕ) (i d n : ℕ) (whole : List ℕ) → n ≤ i →
    text ++ render (names_written i (d + i) (n - i)) ≡ whole → text ≡ whole
names_none text i d n whole le h =
    let m : n - i ≡ 0 = omega arith in
    sym (append-nil text) ∙ subst (λ c. text ++ render (names_written i (d + i) c) ≡ whole) m h

-- [ names ]
pub binds_done : (old first last new : List ℕ) (d n : ℕ) → first ≡ old ++ 91 ∷ [] →
    last ≡ first ++ render (names_written 0 d n) → new ≡ last ++ 93 ∷ [] → new ≡ old ++ render (binds_written d n)
binds_done old first last new d n e f g =
    rw (g, f, e, render_append (names_written 0 d n) (right_bracket ∷ [])) (simp append_assoc)

-- the parts of what is well formed
pub regs_fit : (low d : ℕ) (xs : List (ℕ × TType)) → RegsAbove low d (file xs) →
    All (λ (x : ℕ × TType). WellFormed d (tree x.1)) xs
regs_fit low d [] h = All-nil _
regs_fit low d (x ∷ xs) h = All-cons (λ (x : ℕ × TType). WellFormed d (tree x.1)) x xs h.2 (regs_fit x.0 d xs h.3)

pub fields_fit : (d : ℕ) (xs : List (TType × Bool)) → WellFormedFields d (fields xs) →
    All (λ (x : TType × Bool). WellFormed d (tree x.0)) xs
fields_fit d [] h = All-nil _
fields_fit d (x ∷ xs) h = All-cons (λ (x : TType × Bool). WellFormed d (tree x.0)) x xs h.0 (fields_fit d xs h.1)

pub types_fit : (d : ℕ) (xs : List TType) → WellFormedTypes d (types xs) → All (λ (x : TType). WellFormed d (tree x)) xs
types_fit d [] h = All-nil _
types_fit d (x ∷ xs) h = All-cons (λ (x : TType). WellFormed d (tree x)) x xs h.0 (types_fit d xs h.1)

-- one item more, and the end of a list, in the words of the loops
pub reg_more : (d : ℕ) (t0 t1 t2 t3 t4 : List ℕ) (i : ℕ) (xs : List (ℕ × TType)) (x : ℕ × TType) (whole : List ℕ) →
    x ≡ get_or xs i x → i < length xs → Left (reg_item d) t0 i xs whole →
    t1 ≡ t0 ++ render (separator i) → t2 ≡ t1 ++ 114 ∷ decimal x.0 → t3 ≡ t2 ++ 58 ∷ [] →
    t4 ≡ t3 ++ render (type_written d (tree x.1)) → Left (reg_item d) t4 (i + 1) xs whole
reg_more d t0 t1 t2 t3 t4 i xs x whole is lt h e f g k =
    left_more (reg_item d) t0 t4 i xs x whole is lt h (rw (k, g, f, e) (simp append_assoc))

pub field_more : (d : ℕ) (t0 t1 t2 t3 : List ℕ) (i : ℕ) (xs : List (TType × Bool)) (x : TType × Bool)
    (whole : List ℕ) → x ≡ get_or xs i x → i < length xs → Left (field_item d) t0 i xs whole →
    t1 ≡ t0 ++ render (separator i) → t2 ≡ t1 ++ render (type_written d (tree x.0)) →
    t3 ≡ t2 ++ 94 ∷ bytes (flag_written x.1) → Left (field_item d) t3 (i + 1) xs whole
field_more d t0 t1 t2 t3 i xs x whole is lt h e f g =
    left_more (field_item d) t0 t3 i xs x whole is lt h
    (rw (
      g,
      f,
      e,
      render_append (type_written d (tree x.0)) (caret ∷ (flag_written x.1 ∷ [])),
      append-nil (bytes (flag_written x.1)),
    ) (simp append_assoc))

pub type_more : (d : ℕ) (t0 t1 t2 : List ℕ) (i : ℕ) (xs : List TType) (x : TType) (whole : List ℕ) →
    x ≡ get_or xs i x → i < length xs → Left (λ (t : TType). type_written d (tree t)) t0 i xs whole →
    t1 ≡ t0 ++ render (separator i) → t2 ≡ t1 ++ render (type_written d (tree x)) →
    Left (λ (t : TType). type_written d (tree t)) t2 (i + 1) xs whole
type_more d t0 t1 t2 i xs x whole is lt h e f =
    left_more (λ (t : TType). type_written d (tree t)) t0 t2 i xs x whole is lt h (rw (f, e) (simp append_assoc))

-- { .. }, < .. > and [ .. ]
pub file_done : (d : ℕ) (xs : List (ℕ × TType)) (old first last new : List ℕ) (i : ℕ) → first ≡ old ++ 123 ∷ [] →
    Left (reg_item d) last i xs (first ++ render (listed (reg_item d) 0 xs)) → length xs ≤ i →
    new ≡ last ++ 125 ∷ [] → new ≡ old ++ render (file_written d (file xs))
file_done d xs old first last new i e h le g =
    rw (
      g,
      left_none (reg_item d) last i xs _ h le,
      e,
      regs_listed 0 d xs,
      render_append (listed (reg_item d) 0 xs) (right_brace ∷ []),
    ) (simp append_assoc)

pub list_done : (d : ℕ) (xs : List TType) (old first last new : List ℕ) (i : ℕ) → first ≡ old ++ 91 ∷ [] →
    Left (λ (t : TType). type_written d (tree t)) last i xs
    (first ++ render (listed (λ (t : TType). type_written d (tree t)) 0 xs)) →
    length xs ≤ i → new ≡ last ++ 93 ∷ [] → new ≡ old ++ render (list_written d (types xs))
list_done d xs old first last new i e h le g =
    rw (
      g,
      left_none (λ (t : TType). type_written d (tree t)) last i xs _ h le,
      e,
      types_listed 0 d xs,
      render_append (listed (λ (t : TType). type_written d (tree t)) 0 xs) (right_bracket ∷ []),
    )
    (simp append_assoc)

pub fields_done : (d : ℕ) (xs : List (TType × Bool)) (old new : List ℕ) (i : ℕ) →
    Left (field_item d) new i xs (old ++ render (listed (field_item d) 0 xs)) → length xs ≤ i →
    new ≡ old ++ render (fields_written 0 d (fields xs))
fields_done d xs old new i h le =
    left_none (field_item d) new i xs _ h le ∙ ap (λ (ls : List Lexeme). old ++ render ls) (sym (fields_listed 0 d xs))

pub tuple_done : (d : ℕ) (fs : TFields) (old first last new : List ℕ) → first ≡ old ++ 60 ∷ [] →
    last ≡ first ++ render (fields_written 0 d fs) → new ≡ last ++ 62 ∷ [] →
    new ≡ old ++ render (type_written d (TupleTy fs))
tuple_done d fs old first last new e f g =
    rw (g, f, e, render_append (fields_written 0 d fs) (right_angle ∷ [])) (simp append_assoc)

pub code_done : (d owes : ℕ) (f : TFile) (old first second new : List ℕ) → first ≡ old ++ codes "all" →
    second ≡ first ++ render (binds_written d owes) → new ≡ second ++ render (file_written (d + owes) f) →
    new ≡ old ++ render (type_written d (CodeTy owes f))
code_done d owes f old first second new e g h =
    rw (h, g, e, render_append (binds_written d owes) (file_written (d + owes) f)) (simp append_assoc)

-- pack [ T , V ] as T
pub pack_done : (d : ℕ) (t s : Ty) (v : TValue) (t0 t1 t2 t3 t4 t5 t6 : List ℕ) → t1 ≡ t0 ++ codes "pack[" →
    t2 ≡ t1 ++ render (type_written d t) → t3 ≡ t2 ++ codes ", " → t4 ≡ t3 ++ render (value_written d v) →
    t5 ≡ t4 ++ codes "] as " → t6 ≡ t5 ++ render (type_written d s) → t6 ≡ t0 ++ render (value_written d (Pack t v s))
pack_done d t s v t0 t1 t2 t3 t4 t5 t6 e1 e2 e3 e4 e5 e6 =
    rw (e6, e5, e4, e3, e2, e1) (simp (render_append, append_assoc))
