use Rattle.std.proofs.Common.{rules, refl, ◌≡◌, ap, ◌∙◌, ◌+◌, length}
use Rattle.c_terms.specs.Read.{written}
use Rattle.c_emit.specs.Read.{info}
use Rattle.c_emit.proofs.Writes.{frame_is, opened_is}
use Rattle.c_emit.proofs.put.enter.Goals as goal

pub returns-clause-frame : goal.returns-clause-frame
returns-clause-frame c =
    let k : c.len-length.result ≡ length c.args.known.kept.list.items = search rules in
    frame_is (info c.args.known) c.args.level c.args.count c.in_ok-split.split c.in_ok-split-2.split
    c.in_ok-first.first c.in_ok-last.last c.in_ok-start.start
    c.in_ok-split.ensures c.in_ok-split-2.ensures c.in_ok-first.ensures
    (c.in_ok-last.ensures ∙ ap (λ n. c.in_ok-first.first + n) k) c.in_ok-start.ensures.start

pub returns-clause-nodes : goal.returns-clause-nodes
returns-clause-nodes c = λ rest.
    let i = info c.args.known in
    let k : c.len-length.result ≡ length c.args.known.kept.list.items = search rules in
    c.in_ok-start.ensures.nodes i rest refl refl refl ∙ c.in_ok-put_fields.ensures _ ∙ c.in_ok-put.ensures _
    ∙ ap (written c.args.out.now.items)
    (opened_is i c.args.count c.in_ok-first.first c.in_ok-last.last c.len-length.result rest c.in_ok-first.ensures
    (c.in_ok-last.ensures ∙ ap (λ n. c.in_ok-first.first + n) k) k)
