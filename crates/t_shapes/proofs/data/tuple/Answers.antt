use Rattle.std.proofs.Common.{◌≡◌, [], ◌∷◌, slice_get, Some, refl, sym, ◌∙◌, arith}
use Rattle.std.proofs.lemmas.Option.{slice_get_within}
use Rattle.text_core.specs.Going.{at_the_end, other}
use Rattle.text_core.specs.Table.{Nt}
use Rattle.t_text.specs.GrammarTable.{LTuple}
use Rattle.t_shapes.proofs.Stepping.{start, stop_lacks}
use Rattle.t_shapes.proofs.Lines.{no_tuple}
use Rattle.t_shapes.proofs.Itemed.{bracket_reads}
use Rattle.t_text.specs.Kept.{tokens_of}
use Rattle.t_shapes.proofs.data.tuple.Goals as goal

pub returns-in-None : goal.returns-in-None
returns-in-None c =
    let ts = tokens_of c.args.tokens.now in
    let i = c.args.at in
    stop_lacks _ LTuple [] [] (start ts 0 i (Nt LTuple ∷ [])) refl (at_the_end (sym c.peek.ensures ∙ c.in-None.is)) refl

pub datums-requires : goal.datums-requires
datums-requires c =
    let e : slice_get (tokens_of c.args.tokens.now) c.args.at ≡ Some c.in-Some.token =
    sym c.peek.ensures ∙ c.in-Some.is in
    let l = slice_get_within (tokens_of c.args.tokens.now) c.args.at c.in-Some.token e in omega (arith, l)

pub returns-in-LeftAngle : goal.returns-in-LeftAngle
returns-in-LeftAngle c =
    bracket_reads (tokens_of c.args.tokens.now) c.args.at c.in-Some.token (sym c.peek.ensures ∙ c.in-Some.is)
    c.in-LeftAngle.is _ c.datums.ensures

pub returns-in_default : goal.returns-in_default
returns-in_default c =
    let ts = tokens_of c.args.tokens.now in
    let i = c.args.at in
    let e : slice_get ts i ≡ Some c.in-Some.token = sym c.peek.ensures ∙ c.in-Some.is in
    stop_lacks _ LTuple [] [] (start ts 0 i (Nt LTuple ∷ [])) refl
    (other c.in-Some.token e (no_tuple c.in-Some.token.kind c.in_default.not-LeftAngle)) refl
