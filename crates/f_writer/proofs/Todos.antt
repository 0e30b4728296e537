-- What is to be written, task by task.
use Rattle.std.proofs.Common.{◌≡◌, ◌<◌, ℕ, ◌+◌, List, [], ◌∷◌, ◌++◌, length}
use Rattle.std.proofs.Common.{false, codes, refl, sym, ap, ap₂, ◌∙◌, subst, arith, append_assoc, All}
use Rattle.f_terms.specs.Ty.{Ty}
use Rattle.f_terms.specs.Tm.{Spn, Term, MFix, MLet}
use Rattle.f_terms.specs.Tm.{MOpen, plain}
use Rattle.f_terms.specs.Read.{place}
use Rattle.f_terms.specs.ReadTerm.{count, node_at}
use Rattle.f_terms.specs.Shape.{children, kids, shape_tree, node_tree}
use Rattle.f_terms.specs.Text.{name_text, text_at}
use Rattle.f_terms.specs.declared.node.FNode.{FNode}
use Rattle.f_terms.specs.declared.node.FShape.{FShape}
use Rattle.f_terms.specs.declared.node.FShape.TheVariants as shape
use Rattle.f_writer.specs.declared.line.Line.{Line}
use Rattle.f_writer.specs.declared.line.Line.TheVariants.{Expression, Sum, Product, Call, Primary}
use Rattle.f_writer.specs.declared.part.Part.{Part}
use Rattle.f_writer.specs.declared.task.Task.{Task}
use Rattle.f_writer.specs.Lines.{is_loose, line_of, shape_line}
use Rattle.f_writer.specs.Notation.{value_text, wrapped, written}
use Rattle.f_writer.specs.Notation.{written_at}
use Rattle.f_writer.specs.Parts.{part_term}
use Rattle.f_writer.specs.Tasks.{Todo, Write, Put, WriteType, todo, todos_before, todos, all_done}
use Rattle.f_writer.specs.Tasks.{weight, steps, Begun, Steps}

-- a task more is the next one
pub todos_push : (tds : List Todo) (ts : List Task) (t : Task) →
    todos_before tds (ts ++ t ∷ []) ≡ todo t ∷ todos_before tds ts
todos_push tds [] t = refl
todos_push tds (x ∷ ts) t = todos_push (todo x ∷ tds) ts t

pub nothing_left : (ts : List Task) → length ts ≡ 0 → todos ts ≡ []
nothing_left [] e = refl
nothing_left (t ∷ ts) e = absurd (omega (arith, e))

-- the form of a part, and its children
pub form_is : (p : Part) (n : FNode) (s : FShape) → node_at p.term.now p.at ≡ node_tree (node_at p.term.now) n →
    n.shape ≡ s → part_term p ≡ plain (shape_tree (node_at p.term.now) (place n.span) s)
form_is p n s t e = ap plain (t ∙ ap (shape_tree (node_at p.term.now) (place n.span)) e)

pub inside : (p : Part) (n : FNode) (s : FShape) → All (λ k. k < count p.term.now) (kids n) → n.shape ≡ s →
    All (λ k. k < count p.term.now) (children s)
inside p n s h e = subst (λ x. All (λ k. k < count p.term.now) (children x)) e h

line_is : (at : ℕ → _) (s : Spn) (x : FShape) → line_of (plain (shape_tree at s x)) ≡ shape_line x
line_is at s (shape.Var i) = refl
line_is at s (shape.Int z) = refl
line_is at s (shape.Fix a r e) = refl
line_is at s (shape.App f x) = refl
line_is at s (shape.Gen e) = refl
line_is at s (shape.Inst e t) = refl
line_is at s (shape.Tuple es) = refl
line_is at s (shape.Proj i e) = refl
line_is at s (shape.Arith op a b) = refl
line_is at s (shape.If0 c a b) = refl
line_is at s (shape.Let a b) = refl
line_is at s (shape.Pack h e t) = refl
line_is at s (shape.Open a b) = refl
line_is at s (shape.Ref e) = refl
line_is at s (shape.Deref e) = refl
line_is at s (shape.Assign a b) = refl

-- no form takes parentheses where an expression is asked for
whole_bare : (l : Line) → is_loose l Expression ≡ false
whole_bare Expression = refl
whole_bare Sum = refl
whole_bare Product = refl
whole_bare Call = refl
whole_bare Primary = refl

pub whole_written : (n m : ℕ) (e : Term) → written_at Expression n m e ≡ written n m e
whole_written n m e = ap (λ b. wrapped b (written n m e)) (whole_bare (line_of e))

join_three : (a b c : List ℕ) → a ++ (b ++ c) ≡ a ++ b ++ c
join_three a b c = simp append_assoc

-- a form that is begun, by its parts: what is before them is written, and they are the next tasks
module _ (n m : ℕ) (before after : List ℕ) (old new : List Todo) (e : Term) where
  -- one part after some bytes
  pub begun_one : (s : List ℕ) (asked : Line) (i j : ℕ) (f x : Term) → e ≡ f →
      written n m f ≡ s ++ written_at asked i j x → weight f ≡ 2 + weight x →
      new ≡ Write asked i j x ∷ old → after ≡ before ++ s → Begun before n m e old after new
  begun_one s asked i j f x is text w next t =
      let we : weight e ≡ 2 + weight x = ap weight is ∙ w in
      let so : steps new ≡ weight x + steps old = ap steps next in
      record {
        same = rw (next, t, is, text) (simp append_assoc);
        less = omega arith;
      }

  -- two parts with bytes between them
  pub begun_two : (s b : List ℕ) (p q : Line) (i j k l : ℕ) (f x y : Term) → e ≡ f →
      written n m f ≡ s ++ (written_at p i j x ++ (b ++ written_at q k l y)) → weight f ≡ 3 + weight x + weight y →
      new ≡ Write p i j x ∷ (Put b ∷ (Write q k l y ∷ old)) → after ≡ before ++ s → Begun before n m e old after new
  begun_two s b p q i j k l f x y is text w next t =
      let we : weight e ≡ 3 + weight x + weight y = ap weight is ∙ w in
      let so : steps new ≡ weight x + (1 + (weight y + steps old)) = ap steps next in
      record {
        same = rw (next, t, is, text) (simp append_assoc);
        less = omega arith;
      }

three_parts : (s a b c : List ℕ) → s ++ a ++ b ++ c ≡ s ++ (a ++ (b ++ c))
three_parts s a b c = simp append_assoc

pub after_three : (t0 t1 t2 t3 a b c : List ℕ) → t1 ≡ t0 ++ a → t2 ≡ t1 ++ b → t3 ≡ t2 ++ c → t3 ≡ t0 ++ (a ++ b ++ c)
after_three t0 t1 t2 t3 a b c e f g = rw (g, f, e) (simp append_assoc)

no_more : (i n : ℕ) → i ≡ n + 0 → i ≡ n
no_more i n e = omega arith

-- forms that bind names
module _ (n m : ℕ) (before after : List ℕ) (old new : List Todo) (e : Term) (i j : ℕ) where
  pub begun_fix : (a r : Ty) (x : Term) → e ≡ MFix a r x → i ≡ n + 0 → j ≡ m + 2 →
      new ≡ Write Expression i j x ∷ old →
      after ≡ before ++ (codes "fix " ++ value_text m ++ codes "(" ++ value_text (m + 1) ++ codes ": " ++ text_at n
      a ++ codes "): " ++ text_at n r ++ codes ". ") → Begun before n m e old after new
  begun_fix a r x is p q next t =
      let s = codes "fix " ++ value_text m ++ codes "(" ++ value_text (m + 1) ++ codes ": " ++ text_at n a ++ codes
      "): " ++ text_at n r ++ codes ". " in
      begun_one n m before after old new e s Expression n (m + 2) (MFix a r x) x is
      (ap (λ (w : List ℕ). s ++ w) (sym (whole_written n (m + 2) x))) refl
      (next ∙ ap₂ (λ (k l : ℕ). Write Expression k l x ∷ old) (no_more i n p) q) t

  pub begun_let : (a b : Term) → e ≡ MLet a b → i ≡ n + 0 → j ≡ m + 1 →
      new ≡ Write Expression n m a ∷ (Put (codes " in\n") ∷ (Write Expression i j b ∷ old)) →
      after ≡ before ++ (codes "let " ++ value_text m ++ codes " = ") → Begun before n m e old after new
  begun_let a b is p q next t =
      let s = codes "let " ++ value_text m ++ codes " = " in
      begun_two n m before after old new e s (codes " in\n") Expression Expression n m n (m + 1) (MLet a b) a b is
      (rw (whole_written n m a, whole_written n (m + 1) b)
      (three_parts s (written n m a) (codes " in\n") (written n (m + 1) b))) refl
      (next ∙ ap₂ (λ (k l : ℕ). Write Expression n m a ∷ (Put (codes " in\n") ∷ (Write Expression k l b ∷ old)))
      (no_more i n p) q) t

  pub begun_open : (a b : Term) → e ≡ MOpen a b → i ≡ n + 1 → j ≡ m + 1 →
      new ≡ Write Expression n m a ∷ (Put (codes " in\n") ∷ (Write Expression i j b ∷ old)) →
      after ≡ before ++ (codes "open [" ++ name_text n ++ codes ", " ++ value_text m ++ codes "] = ") →
      Begun before n m e old after new
  begun_open a b is p q next t =
      let s = codes "open [" ++ name_text n ++ codes ", " ++ value_text m ++ codes "] = " in
      begun_two n m before after old new e s (codes " in\n") Expression Expression n m (n + 1) (m + 1) (MOpen a b) a b
      is
      (rw (whole_written n m a, whole_written (n + 1) (m + 1) b)
      (three_parts s (written n m a) (codes " in\n") (written (n + 1) (m + 1) b))) refl
      (next ∙ ap₂ (λ (k l : ℕ). Write Expression n m a ∷ (Put (codes " in\n") ∷ (Write Expression k l b ∷ old))) p q)
      t

-- a type that is written
pub wrote_type_task : (before after : List ℕ) (old : List Todo) (x : Task) (n : ℕ) (t : Ty) → todo x ≡ WriteType n t →
    after ≡ before ++ text_at n t → Steps before (todo x ∷ old) after old
wrote_type_task before after old x n t e q =
    let goal : Steps before (WriteType n t ∷ old) after old = record
    { same = rw q (append_assoc before (text_at n t) (all_done old)); less = omega arith } in
    subst (λ (y : Todo). Steps before (y ∷ old) after old) (sym e) goal
