use Rattle.std.proofs.Common.{◌≡◌, arith, subst, sym}
use Rattle.f_terms.specs.Ty.{NoTys}
use Rattle.f_terms.specs.Read.{tree}
use Rattle.f_terms.specs.ReadTerm.{spanned}
use Rattle.f_terms.proofs.Limited.{passes_where_typed}
use Rattle.f_terms.specs.declared.node.FTerm.{FTerm}
use Rattle.f_check.specs.Typed.{typed_term, typed_type}
use Rattle.types_page.specs.Page.{page}
use Rattle.types_page.specs.Walk.{Checked, binders, start}
use Rattle.types_page.proofs.Binding.{binds}
use Rattle.types_page.proofs.page.page_of.Goals as goal

pub binders_of-requires : goal.binders_of-requires
binders_of-requires c =
    let t = c.args.typed.now in
    let term = spanned (typed_term t) in
    let type = tree (typed_type t) in
    let room = t.few in
    let made : Checked term start =
    (type, (passes_where_typed term 0 NoTys type tt).1 t.accepted, omega (arith, room)) in
    subst (λ (f : FTerm). Checked (spanned f) start) (sym c.term.ensures) made

pub returns : goal.returns
returns c =
    let t = c.args.typed.now in
    let term = spanned (typed_term t) in
    let is : c.in_ok-made.made.items
    ≡ page c.args.text.now c.in_ok-tokens.tokens.items (binders term 0 NoTys) (tree (typed_type t)) =
    cc (
      c.in_ok-made.ensures,
      c.in_ok-list.ensures,
      c.deref.ensures.value,
      c.deref-2.ensures.value,
      c.term.ensures,
      c.ty.ensures,
    ) in
    record {
      tokens = c.in_ok-tokens.tokens.items;
      binders = binders term 0 NoTys;
      cut = c.in_ok-tokens.ensures;
      binds = binds term 0 NoTys (tree (typed_type t)) t.accepted.0;
      is = is;
    }
