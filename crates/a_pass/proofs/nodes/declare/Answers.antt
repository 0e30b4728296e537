use Rattle.std.proofs.Common.{refl, rules}
use Rattle.a_pass.proofs.nodes.declare.Goals as goal

pub returns : goal.returns
returns c = record {
  name = c.args.name;
  place = record { depth = c.in_ok-next.next; names = c.len-names.result; binders = c.args.binders };
  node = c.args.node;
  names = c.in_ok-push-2.ensures.items;
  places = c.in_ok-push-3.ensures.items;
  nodes = c.in_ok-push.ensures.items;
  level = refl;
  type = refl;
  under = c.requires;
  constant = refl;
  deep = c.in_ok-next.ensures;
  many = search rules;
  bound = refl;
  shape = refl;
  values = refl;
}
