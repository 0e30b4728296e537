use Rattle.std.proofs.Common.{Some, ◌∙◌, ◌-◌, ap, sym}
use Rattle.a_terms.specs.Tree.{ashift}
use Rattle.a_terms.specs.Typing.{field_of}
use Rattle.a_terms.specs.Read.{atree}
use Rattle.a_scope.specs.Scope.{noted_type}
use Rattle.a_scope.specs.declared.noted.Noted.{Noted}
use Rattle.a_scope.proofs.Scopes.{entry_field, field_stands, field_made, own_stands}
use Rattle.a_scope.proofs.field.field_of_entry.Goals as goal

pub returns-in-Int : goal.returns-in-Int
returns-in-Int c =
    let e = c.args.entry.now in
    let i = c.args.i in
    own_stands c.args.names c.noted_as.result _ (c.noted_as.ensures.ty
    ∙ ap (λ (t : Noted). ashift (c.args.names - e.names) 0 (field_of i (Some (noted_type t)))) (sym c.in-Int.is)
    ∙ entry_field c.args.names i e) c.noted_as.ensures.names

pub returns-in-Lent : goal.returns-in-Lent
returns-in-Lent c =
    let made = c.noted_as-in-Lent in
    field_stands c.args.names c.args.i c.args.entry.now made.result (made.ensures.ty ∙ c.lent_field.ensures
    ∙ ap (λ (t : Noted). field_of c.args.i (Some (noted_type t))) (sym c.in-Lent.is)) made.ensures.names c.requires

pub returns-in-Room : goal.returns-in-Room
returns-in-Room c =
    let made = c.noted_as-in-Room in
    field_stands c.args.names c.args.i c.args.entry.now made.result (made.ensures.ty ∙ c.room_field.ensures
    ∙ ap (λ (t : Noted). field_of c.args.i (Some (noted_type t))) (sym c.in-Room.is)) made.ensures.names c.requires

pub returns-in_ok-made-in-Made : goal.returns-in_ok-made-in-Made
returns-in_ok-made-in-Made c =
    field_made c.args.names c.args.i c.saturating_sub-by.result c.args.entry.now c.in_ok-made-in-Made.made _
    c.saturating_sub-by.ensures (ap atree c.deref.ensures ∙ ap noted_type (sym c.in-Made.is))
    c.in_ok-made-in-Made.ensures
