use Rattle.std.proofs.Common.{ap, ◌∙◌, List, map}
use Rattle.a_terms.specs.Tree as a
use Rattle.a_terms.specs.Typing.{aset}
use Rattle.a_terms.specs.Read.{atrees}
use Rattle.a_terms.specs.NodeTrees.{a_value}
use Rattle.a_terms.specs.declared.types.AType.{AType}
use Rattle.a_pass.proofs.Terms.{shown_now}
use Rattle.a_pass.proofs.Stepping.{set_stepped}
use Rattle.a_pass.proofs.nodes.set.Goals as goal

pub returns : goal.returns
returns c =
    set_stepped c.args.progress.now _ c.args.place c.args.run c.new-empty.result.items c.requires.names
    c.requires.bound _ c.in_ok-next.next c.new-room.result _
    c.in_ok-next.ensures.next
    (ap atrees c.new-room.ensures.items) (shown_now c.args.place.binders _ ∙ c.in_ok-none.ensures ∙
    ap (λ (xs : List AType). a.ATuple (aset (atrees xs))) (c.deref.ensures.value ∙ c.new-room.ensures.items))
    c.in_ok-next.ensures.emits (ap (map a_value) c.new-empty.ensures.items) c.in_ok-declare.ensures
