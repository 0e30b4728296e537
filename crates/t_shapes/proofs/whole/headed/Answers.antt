use Rattle.std.proofs.Common.{◌≡◌, [], ◌∷◌, slice_get, Some, None, refl, sym, ◌∙◌}
use Rattle.text_core.specs.Table.{Nt}
use Rattle.text_core.specs.Going.{at_the_end, other}
use Rattle.t_text.specs.GrammarTable.{LHeader, header_after}
use Rattle.t_shapes.proofs.Stepping.{start, stop_lacks}
use Rattle.t_shapes.proofs.Itemed.{headed_blocks, headed_items}
use Rattle.t_text.specs.Kept.{tokens_of}
use Rattle.t_shapes.proofs.whole.headed.Goals as goal

pub returns-in-None : goal.returns-in-None
returns-in-None c =
    let ts = tokens_of c.args.tokens.now in
    let i = c.args.at in
    stop_lacks _ LHeader [] [] (start ts 0 i (Nt LHeader ∷ [])) refl (at_the_end (sym c.peek.ensures ∙ c.in-None.is))
    refl

pub returns-in-Some-Blocks : goal.returns-in-Some-Blocks
returns-in-Some-Blocks c =
    headed_blocks (tokens_of c.args.tokens.now) c.args.at c.in-Some.number (sym c.peek.ensures ∙ c.in-Some.is) _
    (sym c.version_of.ensures ∙ rw (c.in-Some-Blocks.is, c.in-Some-Blocks.field-0-is) refl)
    c.blocks-in-Some-Blocks.ensures

pub returns-in-Some-Items : goal.returns-in-Some-Items
returns-in-Some-Items c =
    headed_items (tokens_of c.args.tokens.now) c.args.at c.in-Some.number (sym c.peek.ensures ∙ c.in-Some.is) _
    (sym c.version_of.ensures ∙ rw (c.in-Some-Items.is, c.in-Some-Items.field-0-is) refl) c.items.ensures

pub returns-in-None-version_of : goal.returns-in-None-version_of
returns-in-None-version_of c =
    let ts = tokens_of c.args.tokens.now in
    let i = c.args.at in
    let e : slice_get ts i ≡ Some c.in-Some.number = sym c.peek.ensures ∙ c.in-Some.is in
    let a : header_after c.in-Some.number.kind ≡ None = sym c.version_of.ensures ∙ rw c.in-None-version_of.is refl in
    stop_lacks _ LHeader [] [] (start ts 0 i (Nt LHeader ∷ [])) refl (other c.in-Some.number e a) refl
