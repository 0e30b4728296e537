use Rattle.std.proofs.lemmas.Bool.{leb-true}
use Rattle.t_text.specs.Kept.{tokens_of}
use Rattle.t_shapes.proofs.Turned.{all_by}
use Rattle.t_shapes.proofs.turns.is_all.Goals as goal

pub returns-then-so_far : goal.returns-then-so_far
returns-then-so_far c =
    λ l xs h. all_by (tokens_of c.args.tokens.now) c.args.so_far.version c.args.so_far.next xs
    (leb-true _ _ (rw c.len.ensures at l)) (rw c.if-so_far.true at h)
