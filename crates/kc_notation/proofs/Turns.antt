-- Pages on which a body begins, ends, or comes to its second branch.
use Rattle.std.proofs.Common.{◌≡◌, ℕ, ◌+◌, List, [], ◌∷◌, ◌++◌, codes, refl, sym, ap, ◌∙◌, subst, false}
use Rattle.page_core.specs.Names.{margin}
use Rattle.page_core.specs.Pieces.{Keeps, HasText}
use Rattle.page_core.specs.declared.pieces.Pieces.{Pieces}
use Rattle.kc_notation.specs.declared.page.Scope.{Scope}
use Rattle.kc_notation.specs.declared.page.Body.{Body}
use Rattle.kc_notation.specs.declared.page.Page.{Page}
use Rattle.kc_notation.specs.Standing.{HaveTexts, IsBody, AreBodies, IsPage, IsShut}
use Rattle.kc_notation.specs.ClosedWalk.{Lines, Sheet, lines, scope_of, push, shut, opened, leave, turn}
use Rattle.kc_notation.proofs.Pages.{keeps_body, keeps_bodies}

pub open_page : (g k : Page) (inner outer : Body) (q : Pieces) (head : List ℕ) (types : ℕ) (p : Sheet) →
    Keeps g.pieces q → outer ≡ g.body → k.around.items ≡ outer ∷ g.around.items →
    IsBody q inner (lines head (scope_of types (p.body.scope.indent + 1)) []) → IsPage g p →
    IsPage (record g { pieces = q; body = inner; around = k.around }) (opened p head types)
open_page g k inner outer q head types p keeps same items new h = record {
  empty = keeps g.empty [] h.empty;
  body = new;
  around =
      subst (λ bs. AreBodies q bs (p.body ∷ p.around)) (sym (items ∙ ap (λ (b : Body). b ∷ g.around.items) same)) (
        keeps_body g.pieces q keeps g.body p.body h.body,
        keeps_bodies g.pieces q keeps g.around.items p.around
            h.around,
      );
}

module _ (g k s new : Page) (outer : Body) (q r : Pieces) (text end code : ℕ) (line : List ℕ) (p : Sheet)
    (items : g.around.items ≡ outer ∷ k.around.items)
    (shuts : (o : Sheet) → IsPage (record g { around = k.around }) o →
    IsShut s o text) (first : Keeps g.pieces s.pieces)
    (is : line ≡ margin outer.scope.indent ++ codes "}") (second : Keeps s.pieces q) (stands : HasText q end line)
    (third : Keeps q r) (joins : (a b : List ℕ) → HasText q text a → HasText q end b → HasText r code (a ++ b))
    (pushes : (o : Sheet) (v : List ℕ) → IsPage (record s { pieces = r; body = outer }) o → HasText r code v →
    IsPage new (push o v))
    (h : IsPage g p) where
  later : Keeps s.pieces r
  later i t st = third i t (second i t st)

  leave_some : (ls : List Lines) → AreBodies g.pieces (outer ∷ k.around.items) ls → IsPage new (leave p ls)
  leave_some [] are = absurd are
  leave_some (b ∷ bs) are =
      let o : Sheet = record { body = p.body; around = bs } in
      let shut_page = shuts o (record { empty = h.empty; body = h.body; around = are.1 }) in
      let margin_is : line ≡ margin b.scope.indent ++ codes "}" =
      is ∙ ap (λ (x : Scope). margin x.indent ++ codes "}") are.0.scope in
      pushes (record { body = b; around = bs }) (shut p.body ++ (margin b.scope.indent ++ codes "}"))
      (record {
        empty = later s.empty [] shut_page.page.empty;
        body = keeps_body g.pieces r (λ i t st. later i t (first i t st)) outer b are.0;
        around = keeps_bodies s.pieces r later s.around.items bs shut_page.page.around;
      })
      (subst (λ (e : List ℕ). HasText r code (shut p.body ++ e)) margin_is
      (joins (shut p.body) line (second text (shut p.body) shut_page.text) stands))

  pub leave_page : IsPage new (leave p p.around)
  leave_page = leave_some p.around (subst (λ bs. AreBodies g.pieces bs p.around) items h.around)

pub turn_page : (g k s e : Page) (scope : Scope) (q r : Pieces) (text end whole indent : ℕ) (line : List ℕ) (p : Sheet)
    →
    g.body.branches.items ≡ scope ∷ k.body.branches.items →
    ((o : Sheet) → IsPage (record g { body = record g.body { branches = k.body.branches } }) o → IsShut s o text) →
    line ≡ margin scope.indent ++ codes "else\n" → indent ≡ scope.indent + 1 → Keeps s.pieces q → HasText q end line →
    Keeps q r → ((a b : List ℕ) → HasText q text a → HasText q end b → HasText r whole (a ++ b)) →
    e.body.values.items ≡ [] → IsPage g p →
    IsPage (record {
      alloc = s.alloc;
      pieces = r;
      empty = s.empty;
      body = record {
        text = whole;
        values = e.body.values;
        called = false;
        scope = scope_of scope.types indent;
        branches = s.body.branches;
      };
      around = s.around;
    }) (turn p p.body.branches)
turn_page g k s e scope q r text end whole indent line p items shuts is deep second stands third joins none h =
    let o : Sheet = record { body = record p.body { branches = k.body.branches.items }; around = p.around } in
    let shut_page = shuts o (record {
      empty = h.empty;
      body = record {
        text = h.body.text;
        values = h.body.values;
        called = h.body.called;
        scope = h.body.scope;
        branches = refl;
      };
      around = h.around;
    }) in
    let later : Keeps s.pieces r = λ i t st. third i t (second i t st) in
    subst
    (λ bs. IsPage (record {
      alloc = s.alloc;
      pieces = r;
      empty = s.empty;
      body = record {
        text = whole;
        values = e.body.values;
        called = false;
        scope = scope_of scope.types indent;
        branches = s.body.branches;
      };
      around = s.around;
    }) (turn p bs)) (sym items ∙ h.body.branches)
    (record {
      empty = later s.empty [] shut_page.page.empty;
      body = record {
        text =
            subst (λ (x : List ℕ). HasText r whole (shut p.body ++ x)) is
            (joins (shut p.body) line (second text (shut p.body) shut_page.text) stands);
        values = subst (λ is. HaveTexts r is []) (sym none) tt;
        called = refl;
        scope = ap (scope_of scope.types) deep;
        branches = shut_page.page.body.branches;
      };
      around = keeps_bodies s.pieces r later s.around.items p.around shut_page.page.around;
    })
