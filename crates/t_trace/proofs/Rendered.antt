-- Lists that a loop writes item by item, and the texts of types by their parts.
use Rattle.std.proofs.Common.{Bool, ◌≡◌, ◌≤◌, ◌<◌, ℕ, suc, ◌+◌, ◌-◌, List, [], ◌∷◌, ◌++◌, length, drop, get_or}
use Rattle.std.proofs.Common.{refl, sym, ◌∙◌, ap, subst, arith, append_assoc, add-one, drop-cons, codes, decimal}
use Rattle.std.proofs.lemmas.List.{append-nil, length-append}
use Rattle.std.proofs.Math.ListN.{drop_of_length-le}
use Rattle.t_types.specs.declared.types.TType.{TType}
use Rattle.t_types.specs.Tree.{CodeTy, TupleTy, TFile, TFields}
use Rattle.t_types.specs.Read.{tree, file, fields}
use Rattle.t_terms.specs.declared.shown.Shown.{Shown}
use Rattle.idx_core.specs.Separator.{separator}
use Rattle.t_trace.specs.Line.{names_text, flag_text, text_at, regs_text, fields_text, word_text}
use Rattle.t_trace.specs.Line.{words_text, line_text, AreWordsOf}
use Rattle.idx_core.proofs.Lists.{item}

-- items with separators, with i before them
abbrev pub listed : {A : Type 0} → (A → List ℕ) → ℕ → List A → List ℕ
listed item i [] = []
listed item i (x ∷ xs) = separator i ++ (item x ++ listed item (suc i) xs)

abbrev pub reg_item : ℕ → ℕ → ℕ × TType → List ℕ
reg_item n d x = codes "r" ++ (decimal x.0 ++ (codes ":" ++ text_at n d (tree x.1)))

abbrev pub field_item : ℕ → ℕ → TType × Bool → List ℕ
field_item n d x = text_at n d (tree x.0) ++ flag_text x.1

pub regs_listed : (n d i : ℕ) (xs : List (ℕ × TType)) → regs_text n d i (file xs) ≡ listed (reg_item n d) i xs
regs_listed n d i [] = refl
regs_listed n d i (x ∷ xs) = rw (regs_listed n d (suc i) xs) (simp append_assoc)

pub fields_listed : (n d i : ℕ) (xs : List (TType × Bool)) →
    fields_text n d i (fields xs) ≡ listed (field_item n d) i xs
fields_listed n d i [] = refl
fields_listed n d i (x ∷ xs) = rw (fields_listed n d (suc i) xs) (simp append_assoc)

-- what a loop keeps: the text so far, with what is left, is the whole
abbrev pub Left : {A : Type 0} → (A → List ℕ) → List ℕ → ℕ → List A → List ℕ → Type 0
Left item text i xs whole = text ++ listed item i (drop i xs) ≡ whole

pub left_more : {A : Type 0} (item : A → List ℕ) (text next : List ℕ) (i : ℕ) (xs : List A) (x : A) (whole : List ℕ) →
    x ≡ get_or xs i x → i < length xs →
    Left item text i xs whole → next ≡ text ++ (separator i ++ item x) → Left item next (i + 1) xs whole
left_more item text next i xs x whole is lt h e =
    let d : drop i xs ≡ x ∷ drop (suc i) xs = drop-cons xs i x lt ∙ ap (λ (y : _). y ∷ drop (suc i) xs) (sym is) in
    let w : text ++ listed item i (x ∷ drop (suc i) xs) ≡ whole = subst (λ ys. text ++ listed item i ys ≡ whole) d h in
    rw (add-one i, e) (simp append_assoc w)

pub left_none : {A : Type 0} (item : A → List ℕ) (text : List ℕ) (i : ℕ) (xs : List A) (whole : List ℕ) →
    Left item text i xs whole → length xs ≤ i → text ≡ whole
left_none item text i xs whole h le =
    sym (append-nil text) ∙ subst (λ ys. text ++ listed item i ys ≡ whole) (drop_of_length-le xs le) h

-- a text grows
pub grown : (d : ℕ) (before more after : List ℕ) → d ≤ length before → after ≡ before ++ more → d ≤ length after
grown d before more after le e = omega (arith, ap length e, length-append before more)

pub grown_by : (d k : ℕ) (before more after : List ℕ) → d ≤ length before → k ≤ length more → after ≡ before ++ more →
    d + k ≤ length after
grown_by d k before more after le many e = omega (arith, ap length e, length-append before more)

-- the names of code
pub names_more : (text mid next : List ℕ) (i d n : ℕ) (whole : List ℕ) → i < n →
    text ++ names_text i (d + i) (n - i) ≡ whole → mid ≡ text ++ separator i →
    next ≡ mid ++ (codes "t" ++ decimal (d + i)) →
    next ++ names_text (i + 1) (d + (i + 1)) (n - (i + 1)) ≡ whole
names_more text mid next i d n whole lt h e f =
    let m : n - i ≡ suc (n - suc i) = omega arith in
    let a : d + (i + 1) ≡ d + i + 1 = omega arith in
    let w : text ++ (separator i ++ (codes "t" ++ (decimal (d + i) ++ names_text (suc i) (d + i + 1) (n - suc i))))
    ≡ whole = subst (λ c. text ++ names_text i (d + i) c ≡ whole) m h in
    rw (a, add-one i, f, e) (simp append_assoc w)

pub names_none : (text : List ℕ) (i d n : ℕ) (whole : List ℕ) → n ≤ i → text ++ names_text i (d + i) (n - i) ≡ whole →
    text ≡ whole
names_none text i d n whole le h =
    let m : n - i ≡ 0 = omega arith in sym (append-nil text) ∙ subst (λ c. text ++ names_text i (d + i) c ≡ whole) m h

-- one item more, and the end of a list, in the words of the loops
pub reg_more : (n d : ℕ) (t0 t1 t2 t3 t4 : List ℕ) (i : ℕ) (xs : List (ℕ × TType)) (x : ℕ × TType) (whole : List ℕ) →
    x ≡ get_or xs i x → i < length xs → Left (reg_item n d) t0 i xs whole →
    t1 ≡ t0 ++ separator i → t2 ≡ t1 ++ (codes "r" ++ decimal x.0) → t3 ≡ t2 ++ codes ":" →
    t4 ≡ t3 ++ text_at n d (tree x.1) → Left (reg_item n d) t4 (i + 1) xs whole
reg_more n d t0 t1 t2 t3 t4 i xs x whole is lt h e f g k =
    left_more (reg_item n d) t0 t4 i xs x whole is lt h (rw (k, g, f, e) (simp append_assoc))

pub field_more : (n d : ℕ) (t0 t1 t2 t3 : List ℕ) (i : ℕ) (xs : List (TType × Bool)) (x : TType × Bool)
    (whole : List ℕ) → x ≡ get_or xs i x → i < length xs → Left (field_item n d) t0 i xs whole →
    t1 ≡ t0 ++ separator i → t2 ≡ t1 ++ text_at n d (tree x.0) → t3 ≡ t2 ++ flag_text x.1 →
    Left (field_item n d) t3 (i + 1) xs whole
field_more n d t0 t1 t2 t3 i xs x whole is lt h e f g =
    left_more (field_item n d) t0 t3 i xs x whole is lt h (rw (g, f, e) (simp append_assoc))

pub regs_done : (n d : ℕ) (xs : List (ℕ × TType)) (old new : List ℕ) (i : ℕ) →
    Left (reg_item n d) new i xs (old ++ listed (reg_item n d) 0 xs) → length xs ≤ i →
    new ≡ old ++ regs_text n d 0 (file xs)
regs_done n d xs old new i h le =
    left_none (reg_item n d) new i xs _ h le ∙ ap (λ (s : List ℕ). old ++ s) (sym (regs_listed n d 0 xs))

pub fields_done : (n d : ℕ) (xs : List (TType × Bool)) (old new : List ℕ) (i : ℕ) →
    Left (field_item n d) new i xs (old ++ listed (field_item n d) 0 xs) → length xs ≤ i →
    new ≡ old ++ fields_text n d 0 (fields xs)
fields_done n d xs old new i h le =
    left_none (field_item n d) new i xs _ h le ∙ ap (λ (s : List ℕ). old ++ s) (sym (fields_listed n d 0 xs))

-- types by their parts
pub code_done : (n d owes : ℕ) (f : TFile) (t0 t1 t2 t3 t4 t5 : List ℕ) → t1 ≡ t0 ++ codes "all[" →
    t2 ≡ t1 ++ names_text 0 d owes → t3 ≡ t2 ++ codes "]{" → t4 ≡ t3 ++ regs_text n (d + owes) 0 f →
    t5 ≡ t4 ++ codes "}" →
    t5 ≡ t0 ++ text_at n d (CodeTy owes f)
code_done n d owes f t0 t1 t2 t3 t4 t5 e1 e2 e3 e4 e5 = rw (e5, e4, e3, e2, e1) (simp append_assoc)

pub tuple_done : (n d : ℕ) (fs : TFields) (t0 t1 t2 t3 : List ℕ) → t1 ≡ t0 ++ codes "<" →
    t2 ≡ t1 ++ fields_text n d 0 fs → t3 ≡ t2 ++ codes ">" → t3 ≡ t0 ++ text_at n d (TupleTy fs)
tuple_done n d fs t0 t1 t2 t3 e1 e2 e3 = rw (e3, e2, e1) (simp append_assoc)

-- an item that is there
-- the words of a file, with i before them
abbrev pub Regs : Type 0
Regs = List (ℕ × TType)

abbrev pub Words : Type 0
Words = List (ℕ × Shown)

pub as_many : (xs : Regs) (ws : Words) → AreWordsOf ws (file xs) → length ws ≡ length xs
as_many [] [] h = refl
as_many (x ∷ xs) (w ∷ ws) h = ap suc (as_many xs ws h.1)
as_many [] (w ∷ ws) h = absurd h
as_many (x ∷ xs) [] h = absurd h

abbrev pub word_item : ℕ → ℕ × TType → ℕ × Shown → List ℕ
word_item n x w = codes "r" ++ (decimal x.0 ++ (codes "=" ++ (word_text w.1 ++ (codes ":" ++ text_at n 0 (tree x.1)))))

abbrev pub WordsLeft : ℕ → List ℕ → ℕ → Regs → Words → List ℕ → Type 0
WordsLeft n text i xs ws whole = text ++ words_text n i (drop i ws) (file (drop i xs)) ≡ whole

pub words_more : (n : ℕ) (text next : List ℕ) (i : ℕ) (xs : Regs) (ws : Words) (x : ℕ × TType) (w : ℕ × Shown)
    (whole : List ℕ) → x ≡ get_or xs i x → i < length xs → w ≡ get_or ws i w → i < length ws →
    WordsLeft n text i xs ws whole → next ≡ text ++ (separator i ++ word_item n x w) →
    WordsLeft n next (i + 1) xs ws whole
words_more n text next i xs ws x w whole is lt at less h e =
    let d : drop i xs ≡ x ∷ drop (suc i) xs =
    drop-cons xs i x lt ∙ ap (λ (y : ℕ × TType). y ∷ drop (suc i) xs) (sym is) in
    let f : drop i ws ≡ w ∷ drop (suc i) ws =
    drop-cons ws i w less ∙ ap (λ (y : ℕ × Shown). y ∷ drop (suc i) ws) (sym at) in
    let k : text ++ words_text n i (w ∷ drop (suc i) ws) (file (x ∷ drop (suc i) xs)) ≡ whole =
    subst (λ ys. text ++ words_text n i (w ∷ drop (suc i) ws) (file ys) ≡ whole) d
    (subst (λ vs. text ++ words_text n i vs (file (drop i xs)) ≡ whole) f h) in
    rw (add-one i, e) (simp append_assoc k)

nothing_left : (n i : ℕ) (ws : Words) → words_text n i ws (file []) ≡ []
nothing_left n i [] = refl
nothing_left n i (w ∷ ws) = refl

pub words_none : (n : ℕ) (text : List ℕ) (i : ℕ) (xs : Regs) (ws : Words) (whole : List ℕ) →
    WordsLeft n text i xs ws whole → length xs ≤ i → text ≡ whole
words_none n text i xs ws whole h le =
    let k : text ++ words_text n i (drop i ws) (file []) ≡ whole =
    subst (λ ys. text ++ words_text n i (drop i ws) (file ys) ≡ whole) (drop_of_length-le xs le) h in
    sym (append-nil text) ∙ subst (λ s. text ++ s ≡ whole) (nothing_left n i (drop i ws)) k

pub word_more : (n : ℕ) (t0 t1 t2 t3 t4 t5 t6 t7 : List ℕ) (i : ℕ) (xs : Regs) (ws : Words) (x : ℕ × TType)
    (w : ℕ × Shown) (whole : List ℕ) → x ≡ get_or xs i x → i < length xs → w ≡ get_or ws i w → i < length ws →
    WordsLeft n t0 i xs ws whole → t1 ≡ t0 ++ separator i → t2 ≡ t1 ++ codes "r" → t3 ≡ t2 ++ decimal x.0 →
    t4 ≡ t3 ++ codes "=" → t5 ≡ t4 ++ word_text w.1 → t6 ≡ t5 ++ codes ":" → t7 ≡ t6 ++ text_at n 0 (tree x.1) →
    WordsLeft n t7 (i + 1) xs ws whole
word_more n t0 t1 t2 t3 t4 t5 t6 t7 i xs ws x w whole is lt at less h e1 e2 e3 e4 e5 e6 e7 =
    words_more n t0 t7 i xs ws x w whole is lt at less h (rw (e7, e6, e5, e4, e3, e2, e1) (simp append_assoc))

pub line_done : (m block index n : ℕ) (ws : Words) (f : TFile) (t0 t1 t2 t3 t4 t5 t6 t7 t8 : List ℕ) →
    t1 ≡ t0 ++ decimal m → t2 ≡ t1 ++ codes " b" → t3 ≡ t2 ++ decimal block → t4 ≡ t3 ++ codes "." →
    t5 ≡ t4 ++ decimal index →
    t6 ≡ t5 ++ codes " {" → t7 ≡ t6 ++ words_text n 0 ws f → t8 ≡ t7 ++ codes "}\n" →
    t8 ≡ t0 ++ line_text m block index n ws f
line_done m block index n ws f t0 t1 t2 t3 t4 t5 t6 t7 t8 e1 e2 e3 e4 e5 e6 e7 e8 =
    rw (e8, e7, e6, e5, e4, e3, e2, e1) (simp append_assoc)
