use Rattle.std.proofs.Common.{[], map, take, ap, ◌∙◌, subst}
use Rattle.std.proofs.lemmas.List.{take_all}
use Rattle.page_core.specs.Pieces.{text_at}
use Rattle.h_terms.specs.Nodes.{reads}
use Rattle.h_notation.specs.Notation.{value_text}
use Rattle.h_notation.specs.Values.{HaveValues}
use Rattle.h_notation.proofs.Standing.{reads_more, stand_texts}
use Rattle.h_notation.proofs.parts.texts_of_parts.Goals as goal

pub loop-part-preserved : goal.loop-part-preserved
loop-part-preserved c =
    subst
    (λ vs. HaveValues c.put_part.new.pieces c.args.scope.now.types c.args.scope.now.names c.put_part.new.stack.items vs)
    (reads_more c.args.parts.now c.loop-part.part-index c.part-item.result c.part-item.is c.loop-part-test.true)
    (c.in_ok-put_part.ensures (reads [] (take c.loop-part.part-index c.args.parts.now)) c.loop-part.invariant)

pub returns : goal.returns
returns c =
    c.in_ok-texts.ensures ∙ ap (map (text_at c.loop-part.pieces)) c.deref.ensures.value
    ∙ stand_texts c.loop-part.pieces c.args.scope.now.types c.args.scope.now.names c.loop-part.stack.items _
    c.loop-part.invariant
    ∙ ap (λ ps. map (value_text c.args.scope.now.types c.args.scope.now.names) (reads [] ps))
    (take_all c.loop-part.part-index c.args.parts.now c.loop-part-test.false)
