-- The first lines of codes, argument by argument.
use Rattle.std.proofs.Common.{◌≡◌, ℕ, suc, ◌+◌, ◌<◌, ◌≤◌, List, ◌∷◌, ◌++◌, drop, length, get_or, codes, sym, ap, ◌∙◌}
use Rattle.std.proofs.Common.{ap₂, arith, Bool}
use Rattle.std.proofs.lemmas.List.{append_assoc, append-nil}
use Rattle.std.proofs.Math.Seq.{drop-cons}
use Rattle.std.proofs.Math.ListN.{drop_of_length-le}
use Rattle.calc_core.specs.declared.types.CoreType.{CoreType as KType}
use Rattle.k_terms.specs.Read.{ktree, ktys}
use Rattle.page_core.specs.Names.{separator, type_names, value_name}
use Rattle.k_terms.specs.K.{KTys}
use Rattle.let_types.specs.TypeTexts.{text_of}
use Rattle.kc_notation.specs.Heads.{arguments_text, code_line}

dropped : (xs : List KType) (i : ℕ) (x : KType) → x ≡ get_or xs i x → i < length xs → drop i xs ≡ x ∷ drop (i + 1) xs
dropped xs i x is lt =
    drop-cons xs i x lt ∙ ap (λ (y : KType). y ∷ drop (suc i) xs) (sym is)
    ∙ ap (λ j. x ∷ drop j xs) (let e : suc i ≡ i + 1 = omega arith in e)

four : (a b c d e : List ℕ) → a ++ b ++ c ++ d ++ e ≡ a ++ (b ++ c ++ d ++ e)
four a b c d e = simp append_assoc

pub argument_more : (c : Bool) (n m i : ℕ) (xs : List KType) (x : KType)
    (before separated named signed after whole : List ℕ) (at : ℕ) → x ≡ get_or xs i x → i < length xs → at ≡ m + i →
    before ++ arguments_text c n m i (ktys (drop i xs)) ≡ whole → separated ≡ before ++ separator i →
    named ≡ separated ++ value_name at → signed ≡ named ++ codes ": " →
    after ≡ signed ++ text_of c n (ktree x) → after ++ arguments_text c n m (i + 1) (ktys (drop (i + 1) xs)) ≡ whole
argument_more c n m i xs x before separated named signed after whole at is lt e b s v g a =
    let rest = arguments_text c n m (i + 1) (ktys (drop (i + 1) xs)) in
    let item = separator i ++ value_name (m + i) ++ codes ": " ++ text_of c n (ktree x) in
    let made : after ≡ before ++ item =
    a ∙ ap (λ (w : List ℕ). w ++ text_of c n (ktree x)) (g ∙ ap (λ (w : List ℕ). w ++ codes ": ")
    (v ∙ ap (λ (w : List ℕ). w ++ value_name at) s ∙ ap (λ k. before ++ separator i ++ value_name k) e))
    ∙ four before (separator i) (value_name (m + i)) (codes ": ") (text_of c n (ktree x)) in
    ap (λ (w : List ℕ). w ++ rest) made ∙ append_assoc before item rest
    ∙ ap (λ (ys : List KType). before ++ arguments_text c n m i (ktys ys)) (sym (dropped xs i x is lt)) ∙ b

-- nothing is left
pub arguments_done : (c : Bool) (n m i : ℕ) (xs : List KType) (made whole : List ℕ) → length xs ≤ i →
    made ++ arguments_text c n m i (ktys (drop i xs)) ≡ whole → made ≡ whole
arguments_done c n m i xs made whole le h =
    sym (append-nil made) ∙ ap (λ (ys : List KType). made ++ arguments_text c n m i (ktys ys)) (sym (drop_of_length-le
    xs le))
    ∙ h

pub head_done : (c : Bool) (n m owes inner first : ℕ) (ts : KTys) (t1 t2 t3 : List ℕ) → inner ≡ n + owes →
    first ≡ m + 1 → t1 ≡ codes "code " ++ value_name m ++ type_names n owes ++ codes "(" →
    t2 ≡ t1 ++ arguments_text c inner first 0 ts → t3 ≡ t2 ++ codes ") {\n" → t3 ≡ code_line c n m owes ts
head_done c n m owes inner first ts t1 t2 t3 i f e1 e2 e3 =
    e3 ∙ ap (λ (w : List ℕ). w ++ codes ") {\n") (e2 ∙ ap₂ (λ j k. t1 ++ arguments_text c j k 0 ts) i f
    ∙ ap (λ (w : List ℕ). w ++ arguments_text c (n + owes) (m + 1) 0 ts) e1)
