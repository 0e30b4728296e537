-- A text has one page of types at most, and it ends as what `typeof` shows.
use Rattle.std.proofs.Common.{◌≡◌, ◌∙◌, ℕ, List, refl, sym, ap, ap₂, subst}
use Rattle.f_terms.specs.Ty.{Ty, NoTys}
use Rattle.f_terms.specs.Tm.{Tm, plain}
use Rattle.f_lexer.specs.declared.token.Token.{Token}
use Rattle.f_lexer.specs.Source.{OneCut}
use Rattle.types_page.specs.Binders.{Binder, OneBinding}
use Rattle.types_page.specs.Page.{IsPage, lines, page}
use Rattle.talc_core.specs.Binding.{OneTypesPage, TypesEndAsTypeof}
use Rattle.talc_core.specs.FirstFault.{IsChecked}
use Rattle.talc_core.specs.Lines.{type_line}
use Rattle.talc_core.specs.TextLaws.{TextLaws}
use Rattle.talc_core.proofs.FaultLemmas.{same_term}

same_page : OneCut → OneBinding → (text : List ℕ) (e : Tm) (t u : Ty) (a b : List ℕ) → t ≡ u → IsPage text e t a →
    IsPage text e u b → a ≡ b
same_page cut binding text e t u a b types x y =
    let tokens : x.tokens ≡ y.tokens = cut text x.tokens y.tokens x.cut y.cut in
    let binders : x.binders ≡ y.binders = binding e 0 NoTys x.binders y.binders x.binds y.binds in
    x.is ∙ ap₂ (λ (ts : List Token) (bs : List Binder). page text ts bs t) tokens binders
    ∙ ap (page text y.tokens y.binders) types ∙ sym y.is

pub one_types_page : TextLaws → OneCut → OneBinding → OneTypesPage
one_types_page laws cut binding text a b x y =
    let same : x.term ≡ y.term = same_term laws text x.term y.term x.checked.0 y.checked.0 in
    let typed = subst (λ (e : Tm). IsChecked text e x.type) same x.checked in
    let types : x.type ≡ y.type =
    laws.one_type (plain y.term) 0 NoTys x.type y.type typed.1.0 y.checked.1.0 in
    same_page cut binding text y.term x.type y.type a b types
    (subst (λ (e : Tm). IsPage text e x.type a) same x.page) y.page

pub types_end_as_typeof : TypesEndAsTypeof
types_end_as_typeof text made h = (
  lines text h.page.tokens h.page.binders,
  type_line h.type,
  record { term = h.term; type = h.type; checked = h.checked; is = refl },
  h.page.is,
)
