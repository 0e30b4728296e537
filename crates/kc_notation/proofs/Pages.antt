-- Pages of which some pieces are new.
use Rattle.std.proofs.Common.{◌≡◌, ◌≤◌, ◌<◌, ℕ, suc, ◌+◌, ◌-◌, List, [], ◌∷◌, ◌++◌, Some, None, refl, sym, ap, ◌∙◌}
use Rattle.std.proofs.Common.{subst}
use Rattle.std.proofs.Common.{subst₂, arith, true, length, codes}
use Rattle.page_core.specs.Names.{separator}
use Rattle.page_core.specs.Pieces.{Keeps, HasText}
use Rattle.page_core.specs.declared.pieces.Pieces.{Pieces}
use Rattle.kc_notation.specs.declared.page.Body.{Body}
use Rattle.kc_notation.specs.declared.page.Page.{Page}
use Rattle.kc_notation.specs.ClosedWalk.{Lines, Sheet, finished, gathered, past, shut, with_text, with_values}
use Rattle.kc_notation.specs.Standing.{HaveTexts, IsBody, AreBodies, IsPage, Taken}

module _ (p q : Pieces) (keeps : Keeps p q) where
  pub keeps_values : (is : List ℕ) (ss : List (List ℕ)) → HaveTexts p is ss → HaveTexts q is ss
  keeps_values [] [] h = tt
  keeps_values [] (s ∷ ss) h = absurd h
  keeps_values (i ∷ is) [] h = absurd h
  keeps_values (i ∷ is) (s ∷ ss) h = (keeps i s h.0, keeps_values is ss h.1)

  pub keeps_body : (b : Body) (l : Lines) → IsBody p b l → IsBody q b l
  keeps_body b l h = record {
    text = keeps b.text l.text h.text;
    values = keeps_values b.values.items l.values h.values;
    called = h.called;
    scope = h.scope;
    branches = h.branches;
  }

  pub keeps_bodies : (bs : List Body) (ls : List Lines) → AreBodies p bs ls → AreBodies q bs ls
  keeps_bodies [] [] h = tt
  keeps_bodies [] (l ∷ ls) h = absurd h
  keeps_bodies (b ∷ bs) [] h = absurd h
  keeps_bodies (b ∷ bs) (l ∷ ls) h = (keeps_body b l h.0, keeps_bodies bs ls h.1)

pub keeps_page : (g : Page) (q : Pieces) (p : Sheet) → Keeps g.pieces q → IsPage g p →
    IsPage (record g { pieces = q }) p
keeps_page g q p keeps h = record {
  empty = keeps g.empty [] h.empty;
  body = keeps_body g.pieces q keeps g.body p.body h.body;
  around = keeps_bodies g.pieces q keeps g.around.items p.around h.around;
}

-- the text of a body is another one
pub text_page : (g : Page) (q : Pieces) (i : ℕ) (p : Sheet) (text : List ℕ) → Keeps g.pieces q → HasText q i text →
    IsPage g p →
    IsPage (record g { pieces = q; body = record g.body { text = i } })
    (record { body = with_text p.body text p.body.values; around = p.around })
text_page g q i p text keeps st h = record {
  empty = keeps g.empty [] h.empty;
  body = record {
    text = st;
    values = keeps_values g.pieces q keeps g.body.values.items p.body.values h.body.values;
    called = h.body.called;
    scope = h.body.scope;
    branches = h.body.branches;
  };
  around = keeps_bodies g.pieces q keeps g.around.items p.around h.around;
}

-- what is gathered so far: with what is still to be gathered it is all, and the rest waits
pub record Gathering (g : Page) (whole count i : ℕ) (p : Sheet) (all : List ℕ) (rest : List (List ℕ)) : Type 0 where
  pub values : List (List ℕ)
  pub text : List ℕ
  pub page : IsPage g (with_values p values)
  pub stands : HasText g.pieces whole text
  pub same : gathered count i values text ≡ all
  pub left : past count values ≡ rest

pub gather_start : (g : Page) (whole count : ℕ) (p : Sheet) (s : List ℕ) → IsPage g p → HasText g.pieces whole s →
    Gathering g whole (count - 0) 0 p (gathered count 0 p.body.values s) (past count p.body.values)
gather_start g whole count p s h st = let e : count - 0 ≡ count = omega arith in record {
  values = p.body.values;
  text = s;
  page = h;
  stands = st;
  same = ap (λ n. gathered n 0 p.body.values s) e;
  left = ap (λ n. past n p.body.values) e;
}

module _ (g h : Page) (whole count i : ℕ) (p : Sheet) (all : List ℕ) (rest : List (List ℕ)) (lt : i < count)
    (same : h.pieces ≡ g.pieces) (w : Gathering g whole (count - i) i p all rest) where
  one_less : count - i ≡ suc (count - (i + 1))
  one_less = omega arith

  pub gather_more : (q : Pieces) (value new : ℕ) → ((r : Sheet) → IsPage g r → Taken h r (Some value)) →
      Keeps h.pieces q → ((s t : List ℕ) → HasText h.pieces value s → HasText h.pieces whole t → HasText q new (s
      ++ (separator i ++ t))) →
      Gathering (record h { pieces = q }) new (count - (i + 1)) (i + 1) p all rest
  gather_more q value new taken keeps joins =
      let t = taken (with_values p w.values) w.page in
      let text = t.0 ++ (separator i ++ w.text) in
      let next : i + 1 ≡ suc i = omega arith in
      record {
        values = t.1;
        text = text;
        page = keeps_page h q (with_values p t.1) keeps t.4;
        stands = joins t.0 w.text t.3 (subst (λ ps. HasText ps whole w.text) (sym same) w.stands);
        same =
            ap (λ j. gathered (count - (i + 1)) j t.1 text) next
            ∙ subst₂ (λ n vs. gathered n i vs w.text ≡ all) one_less t.2 w.same;
        left = subst₂ (λ n vs. past n vs ≡ rest) one_less t.2 w.left;
      }

  pub gather_none : ((r : Sheet) → IsPage g r → Taken h r None) → IsPage h (with_values p rest)
      × HasText h.pieces whole all
  gather_none taken =
      let t = taken (with_values p w.values) w.page in
      let text : w.text ≡ all = subst₂ (λ n vs. gathered n i vs w.text ≡ all) one_less t.0 w.same in
      let none : [] ≡ rest = subst₂ (λ n vs. past n vs ≡ rest) one_less t.0 w.left in (
        subst (λ vs. IsPage h (with_values p vs)) (t.0 ∙ none) t.1,
        subst₂ (λ ps s. HasText ps whole s) (sym same) text w.stands,
      )

pub gather_end : (g : Page) (whole count i : ℕ) (p : Sheet) (all : List ℕ) (rest : List (List ℕ)) → count ≤ i →
    Gathering g whole (count - i) i p all rest → IsPage g (with_values p rest) × HasText g.pieces whole all
gather_end g whole count i p all rest le w =
    let none : count - i ≡ 0 = omega arith in (
      subst (λ vs. IsPage g (with_values p vs)) (subst (λ n. past n w.values ≡ rest) none w.left) w.page,
      subst (HasText g.pieces whole) (subst (λ n. gathered n i w.values w.text ≡ all) none w.same) w.stands,
    )

-- a call that waits has its arguments
pub shut_called : (b : Lines) (n : ℕ) → b.called ≡ true → n ≡ length b.values →
    b.text ++ gathered n 0 b.values (codes ")\n") ≡ shut b
shut_called b n e f =
    ap (λ k. b.text ++ gathered k 0 b.values (codes ")\n")) f ∙ ap (λ c. finished c b.values b.text) (sym e)

pub stand_length : (ps : Pieces) (is : List ℕ) (ss : List (List ℕ)) → HaveTexts ps is ss → length is ≡ length ss
stand_length ps [] [] h = refl
stand_length ps [] (s ∷ ss) h = absurd h
stand_length ps (i ∷ is) [] h = absurd h
stand_length ps (i ∷ is) (s ∷ ss) h = let e = stand_length ps is ss h.1 in omega (arith, e)
