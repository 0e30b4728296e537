-- The lines of nodes by the texts of their values.
use Rattle.std.proofs.Common.{◌≡◌, ◌≤◌, ◌<◌, ℕ, suc, List, [], ◌∷◌, ◌++◌, length, drop, get_or, map, refl, sym}
use Rattle.std.proofs.Common.{Vec, Global, ◌∙◌, ap, append_assoc, codes, arith}
use Rattle.h_terms.specs.H.{HVal}
use Rattle.h_terms.specs.Nodes.{tied}
use Rattle.calc_core.specs.Row.{others, top}
use Rattle.h_terms.specs.declared.node.HForm.{HForm}
use Rattle.h_terms.specs.declared.node.HForm.TheVariants as H
use Rattle.page_core.specs.Names.{margin, separator}
use Rattle.page_core.proofs.Listed.{Left, left_none, listed}
use Rattle.h_notation.specs.declared.scope.Scope.{Scope}
use Rattle.h_notation.specs.Notation.{value_text, values_text}
use Rattle.h_notation.specs.Values.{form_line, joined_text, texts_of}
use Rattle.h_notation.specs.Scopes.{form_text, least, node_text, opening}

joined_values : (i n m : ℕ) (vs : List HVal) → joined_text i (map (value_text n m) vs) ≡ values_text i n m (tied vs)
joined_values i n m [] = refl
joined_values i n m (v ∷ vs) =
    ap (λ (s : List ℕ). separator i ++ (value_text n m v ++ s)) (joined_values (suc i) n m vs)

form_same : (n m : ℕ) (note : List ℕ) (f : HForm) (vs : List HVal) → least f ≤ length vs →
    form_line n m note f (map (value_text n m) vs) ≡ form_text n m note f vs
form_same n m note H.Name [] le = absurd (omega (arith, le))
form_same n m note H.Name (v ∷ vs) le = refl
form_same n m note (H.Proj i) [] le = absurd (omega (arith, le))
form_same n m note (H.Proj i) (v ∷ vs) le = refl
form_same n m note (H.Arith o) [] le = absurd (omega (arith, le))
form_same n m note (H.Arith o) (v ∷ []) le = absurd (omega (arith, le))
form_same n m note (H.Arith o) (v ∷ w ∷ vs) le = refl
form_same n m note H.Unpack [] le = absurd (omega (arith, le))
form_same n m note H.Unpack (v ∷ vs) le = refl
form_same n m note H.Cell [] le = absurd (omega (arith, le))
form_same n m note H.Cell (v ∷ vs) le = refl
form_same n m note H.Get [] le = absurd (omega (arith, le))
form_same n m note H.Get (v ∷ vs) le = refl
form_same n m note H.Set [] le = absurd (omega (arith, le))
form_same n m note H.Set (v ∷ []) le = absurd (omega (arith, le))
form_same n m note H.Set (v ∷ w ∷ vs) le = refl
form_same n m note (H.Call us) [] le = absurd (omega (arith, le))
form_same n m note (H.Call us) (v ∷ vs) le = rw (joined_values 0 n m vs) refl
form_same n m note H.If0 [] le = absurd (omega (arith, le))
form_same n m note H.If0 (v ∷ vs) le = refl
form_same n m note H.Halt [] le = absurd (omega (arith, le))
form_same n m note H.Halt (v ∷ vs) le = refl

four_parts : (a b c d t0 t1 t2 t3 t4 : List ℕ) → t1 ≡ t0 ++ a → t2 ≡ t1 ++ b → t3 ≡ t2 ++ c → t4 ≡ t3 ++ d →
    t4 ≡ t0 ++ (a ++ (b ++ (c ++ d)))
four_parts a b c d t0 t1 t2 t3 t4 e1 e2 e3 e4 = rw (e4, e3, e2, e1) (simp append_assoc)

pub node_done : (s : Scope) (note : List ℕ) (f : HForm) (vs : List HVal) (ts : List (List ℕ))
    (t0 t1 t2 t3 t4 : List ℕ) → least f ≤ length vs → ts ≡ map (value_text s.types s.names) vs → t1 ≡ t0 ++ opening s →
    t2 ≡ t1 ++ margin s.level →
    t3 ≡ t2 ++ form_line s.types s.names note f ts → t4 ≡ t3 ++ codes "\n" → t4 ≡ t0 ++ node_text s note f vs
node_done s note f vs ts t0 t1 t2 t3 t4 le are e1 e2 e3 e4 =
    four_parts (opening s) (margin s.level) (form_text s.types s.names note f vs) (codes "\n") t0 t1 t2 t3 t4 e1 e2
    (e3 ∙ ap (λ us. t2 ++ form_line s.types s.names note f us) are
    ∙ ap (λ (u : List ℕ). t2 ++ u) (form_same s.types s.names note f vs le)) e4

pub texts_count : (ts : List (Vec ℕ Global)) (f : HVal → List ℕ) (vs : List HVal) → texts_of ts ≡ map f vs →
    length ts ≡ length vs
texts_count ts f vs e = count ts ∙ ap length e ∙ mapped vs
  where
    count : (us : List (Vec ℕ Global)) → length us ≡ length (texts_of us)
    count [] = refl
    count (u ∷ us) = ap suc (count us)

    mapped : (ws : List HVal) → length (map f ws) ≡ length ws
    mapped [] = refl
    mapped (w ∷ ws) = ap suc (mapped ws)

abbrev pub text_item : ℕ → Vec ℕ Global → List ℕ
text_item i t = separator i ++ t.items

joined_listed : (i : ℕ) (ts : List (Vec ℕ Global)) → joined_text i (texts_of ts) ≡ listed text_item i ts
joined_listed i [] = refl
joined_listed i (t ∷ ts) =
    ap (λ (s : List ℕ). separator i ++ (t.items ++ s)) (joined_listed (suc i) ts)
    ∙ sym (append_assoc (separator i) t.items (listed text_item (suc i) ts))

others_are : (ts : List (Vec ℕ Global)) → others (texts_of ts) ≡ texts_of (drop 1 ts)
others_are [] = refl
others_are (t ∷ ts) = refl

pub others_done : (ts : List (Vec ℕ Global)) (old new : List ℕ) (i k : ℕ) →
    Left text_item new i k ts (old ++ listed text_item 0 (drop 1 ts)) → length ts ≤ k →
    new ≡ old ++ joined_text 0 (others (texts_of ts))
others_done ts old new i k h le =
    left_none text_item new i k ts _ h le
    ∙ ap (λ (s : List ℕ). old ++ s) (sym (ap (joined_text 0) (others_are ts) ∙ joined_listed 0 (drop 1 ts)))

-- the first and the second of some texts
pub first_is : (ts : List (Vec ℕ Global)) (t : Vec ℕ Global) → t ≡ get_or ts 0 t → 0 < length ts →
    t.items ≡ top [] (texts_of ts)
first_is [] t is lt = absurd (omega (arith, lt))
first_is (u ∷ us) t is lt = ap (λ (x : Vec ℕ Global). x.items) is

pub second_is : (ts : List (Vec ℕ Global)) (t : Vec ℕ Global) → t ≡ get_or ts 1 t → 1 < length ts →
    t.items ≡ top [] (others (texts_of ts))
second_is [] t is lt = absurd (omega (arith, lt))
second_is (u ∷ []) t is lt = absurd (omega (arith, lt))
second_is (u ∷ v ∷ us) t is lt = ap (λ (x : Vec ℕ Global). x.items) is
