-- Texts of several values, and pieces of text.
use Rattle.std.proofs.Common.{◌≡◌, ℕ, suc, ◌+◌, Bool, List, [], ◌∷◌, ◌++◌, length, refl, sym, ap, ◌∙◌, arith}
use Rattle.std.proofs.Common.{append_assoc, codes}
use Rattle.std.proofs.lemmas.List.{append-nil}
use Rattle.calc_core.specs.Calculus.{Body, Inside, Kinded, Vals, NoVals, MoreVals}
use Rattle.calc_core.specs.Types.{Ty}
use Rattle.page_core.specs.Names.{separator}
use Rattle.kc_notation.specs.ClosedWalk.{gathered}
use Rattle.kc_notation.specs.Notation.{value_text, values_after}
use Rattle.kc_notation.proofs.Sheets.{before, gather_some, stack}

-- several values, the first first, and as they wait, the last first
abbrev pub texts : {c : Body} → Bool → List Ty → (n m k : ℕ) → Vals (Kinded Inside c) → List (List ℕ)
texts b g n m k NoVals = []
texts b g n m k (MoreVals v vs) = value_text b g n m k v ∷ texts b g n m k vs

abbrev joined : ℕ → List (List ℕ) → List ℕ
joined b [] = []
joined b (s ∷ ss) = separator b ++ s ++ joined (suc b) ss

joined_is : {c : Body} (b : Bool) (g : List Ty) (i n m k : ℕ) (vs : Vals (Kinded Inside c)) →
    joined i (texts b g n m k vs) ≡ values_after b g i n m k vs
joined_is b g i n m k NoVals = refl
joined_is b g i n m k (MoreVals v vs) =
    ap (λ (w : List ℕ). separator i ++ value_text b g n m k v ++ w) (joined_is b g (suc i) n m k vs)

assoc₄ : (a b c d : List ℕ) → (a ++ b ++ c) ++ d ≡ a ++ (b ++ (c ++ d))
assoc₄ a b c d = simp append_assoc

joined_before : (b : ℕ) (ss : List (List ℕ)) (text : List ℕ) → joined (suc b) ss ++ text ≡ separator (0 + length ss)
    ++ before 0 ss text
joined_before b [] text = refl
joined_before b (s ∷ ss) text =
    let e : 0 + suc (length ss) ≡ suc (0 + length ss) = omega arith in
    assoc₄ (codes ", ") s (joined (suc (suc b)) ss) text
    ∙ ap (λ (w : List ℕ). codes ", " ++ (s ++ w)) (joined_before (suc b) ss text)
    ∙ ap (λ j. separator j ++ (s ++ (separator (0 + length ss) ++ before 0 ss text))) (sym e)

before_is : (ss : List (List ℕ)) (text : List ℕ) → before 0 ss text ≡ joined 0 ss ++ text
before_is [] text = refl
before_is (s ∷ ss) text =
    ap (λ (w : List ℕ). s ++ w) (sym (joined_before 0 ss text)) ∙ sym (append_assoc s (joined 1 ss) text)

pub gather_all : {c : Body} (b : Bool) (g : List Ty) (n m k i : ℕ) (vs : Vals (Kinded Inside c))
    (more : List (List ℕ)) (text : List ℕ) → i ≡ length (texts b g n m k vs) →
    gathered i 0 (stack (texts b g n m k vs) more) text ≡ values_after b g 0 n m k vs ++ text
gather_all b g n m k i vs more text e =
    gather_some (texts b g n m k vs) 0 0 i more text (omega (arith, e)) ∙ before_is (texts b g n m k vs) text
    ∙ ap (λ (w : List ℕ). w ++ text) (joined_is b g 0 n m k vs)

-- pieces of text
pub tuple_text : (a b c : List ℕ) → a ++ (b ++ c) ≡ a ++ b ++ c
tuple_text a b c = sym (append_assoc a b c)

pub pack_parts : (p h c v a s : List ℕ) → (p ++ (h ++ c)) ++ (v ++ (a ++ s)) ≡ p ++ h ++ c ++ v ++ a ++ s
pack_parts p h c v a s = simp append_assoc

pub line_text : (t m l b o e w v z : List ℕ) → t ++ ((m ++ (l ++ (b ++ (o ++ (e ++ w))))) ++ (v ++ z)) ≡ t ++ (m ++ l
    ++ (b ++ o) ++ e ++ (w ++ v) ++ z)
line_text t m l b o e w v z = simp append_assoc

pub proj_text : (t m l b o e p d g v z : List ℕ) → t ++ ((m ++ (l ++ (b ++ (o ++ (e ++ (p ++ (d ++ g))))))) ++ (v
    ++ z)) ≡ t ++ (m ++ l ++ (b ++ o) ++ e ++ (p ++ d ++ g ++ v) ++ z)
proj_text t m l b o e p d g v z = simp append_assoc

pub pair_text : (t m l b q e v o w z : List ℕ) → t ++ ((m ++ (l ++ (b ++ (q ++ (e ++ []))))) ++ ((v ++ (o ++ w))
    ++ z)) ≡ t ++ (m ++ l ++ (b ++ q) ++ e ++ (v ++ o ++ w) ++ z)
pair_text t m l b q e v o w z = simp (append_assoc, append-nil)

pub unpack_line : (t m l o tn c vn q d e u v z : List ℕ) → t ++ ((m ++ ((l ++ o) ++ (tn ++ (c ++ (vn ++ (q ++ (d ++ (e
    ++ u)))))))) ++ (v ++ z)) ≡ t ++ (m ++ l ++ (o ++ tn ++ c ++ vn ++ q ++ d) ++ e ++ (u ++ v) ++ z)
unpack_line t m l o tn c vn q d e u v z = simp append_assoc

pub let_text : (t m l b e d z r : List ℕ) → (t ++ (m ++ l ++ b ++ e ++ d ++ z)) ++ r ≡ t ++ (m ++ l ++ b ++ e ++ d ++ z
    ++ r)
let_text t m l b e d z r = simp append_assoc

pub call_text : (t m f o ts c vs z : List ℕ) → (t ++ ((m ++ []) ++ (f ++ (o ++ (ts ++ c))))) ++ (vs ++ z) ≡ t ++ (m
    ++ f ++ o ++ ts ++ c ++ vs ++ z)
call_text t m f o ts c vs z = simp (append_assoc, append-nil)

pub if_text : (t m i v h a e b : List ℕ) → ((t ++ ((m ++ i) ++ (v ++ h))) ++ a ++ (m ++ e)) ++ b ≡ t ++ (m ++ i ++ v
    ++ h ++ a ++ m ++ e ++ b)
if_text t m i v h a e b = simp append_assoc

pub halt_text : (t m h v z : List ℕ) → t ++ ((m ++ h) ++ (v ++ z)) ≡ t ++ (m ++ h ++ v ++ z)
halt_text t m h v z = simp append_assoc
