use Rattle.std.proofs.Common.{◌≡◌, ◌∙◌, ◌++◌, ◌-◌, ℕ, List, [], ap, arith, codes, length}
use Rattle.let_types.specs.Names.{shown}
use Rattle.let_types.specs.TypeTexts.{type_text}
use Rattle.h_notation.proofs.ScopeTexts.{shown_last}
use Rattle.h_notation.proofs.terms.noted.Goals as goal

behind : (none a b s t : List ℕ) → none ≡ [] → a ≡ none ++ s → b ≡ a ++ t → b ≡ s ++ t
behind none a b s t e f g = g ∙ ap (λ (x : List ℕ). x ++ t) (f ∙ ap (λ (x : List ℕ). x ++ s) e)

pub returns : goal.returns
returns c = λ t g typed.
    let last : shown c.args.types c.index-names-count.result ≡ t =
    shown_last c.args.types c.args.names.now c.index-names-count.result (length c.args.names.now - 1) t g
    (omega arith) c.requires c.index-names-count.is typed in
    behind _ _ _ (codes ": ") (type_text c.args.types t) c.new-note.ensures.items
    c.in_ok-extend_from_slice.ensures.items
    (c.in_ok-write_type.ensures
    ∙ ap (λ u. c.extend_from_slice.new.self.items ++ type_text c.args.types u) (c.in_ok-t.ensures ∙ last))
