use Rattle.std.proofs.Common.{refl, arith}
use Rattle.f_grammar.proofs.Steps.{leaf_children}
use Rattle.f_grammar.proofs.Beginning.{leaf_given}
use Rattle.f_grammar.proofs.begin.leaf.Goals as goal

pub put-requires : goal.put-requires
put-requires c = λ f. leaf_children c.args.token.kind c.args.shape _ c.requires.leaf

pub returns : goal.returns
returns c =
    let g = leaf_given c.args.reader.now.tokens.now c.args.token c.requires.token c.requires.stays c.requires.leaf
    c.in_ok-part.ensures in
    (refl, (g.piece, g.stands, g.reached), omega (arith, g.reached.in_range))
