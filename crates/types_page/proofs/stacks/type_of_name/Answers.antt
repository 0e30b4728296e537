use Rattle.std.proofs.Common.{◌≡◌, ◌∙◌, arith, sym}
use Rattle.std.proofs.lemmas.Result.{IfOk-weaker}
use Rattle.f_terms.specs.Read.{tree}
use Rattle.f_terms.specs.Typing.{ty_at}
use Rattle.f_terms.specs.Noted.{or_int}
use Rattle.types_page.specs.Walk.{back, context, named}
use Rattle.types_page.proofs.Ready.{found_fits}
use Rattle.types_page.proofs.Stacking.{name_is, no_name}
use Rattle.types_page.proofs.stacks.type_of_name.Goals as goal

pub returns-then-name-count : goal.returns-then-name-count
returns-then-name-count c = sym (no_name c.args.around c.args.scope.now c.args.name (omega arith))

pub returns : goal.returns
returns c =
    let x = c.index-scope-place.result in
    IfOk-weaker c.shift.result _
    (λ r. tree r ≡ or_int (ty_at (context c.args.around (back named c.args.scope.now)) c.args.name))
    (λ r e. e ∙ sym (name_is c.args.around _ c.args.scope.now c.args.name _ x (omega arith) c.index-scope-place.is
    (omega arith)))
    c.shift.ensures

pub shift-requires : goal.shift-requires
shift-requires c =
    found_fits c.args.around _ c.args.scope.now _ c.index-scope-place.result (omega arith) c.index-scope-place.is
    (omega arith) c.requires.room c.requires.scope
