use Rattle.std.proofs.Common.{◌≡◌, ◌∙◌, [], ap, rules}
use Rattle.c_terms.specs.Read.{ctys}
use Rattle.h_terms.specs.H.{HApply}
use Rattle.let_types.specs.Parts.{applied_type}
use Rattle.let_types.proofs.Stacking.{of_changed, of_none}
use Rattle.let_types.proofs.hoisted.apply.Goals as goal

pub returns-in-None : goal.returns-in-None
returns-in-None c = λ ks g vs h.
    let none : c.args.stack.now.items ≡ [] = search rules in
    let gone : c.pop.new.self.items ≡ [] = search rules in
    of_none ks g _ _ vs (λ v. HApply v (ctys c.args.types.now)) none gone h

pub returns-in_ok-push-in-Some : goal.returns-in_ok-push-in-Some
returns-in_ok-push-in-Some c = λ ks g vs h.
    of_changed ks g c.args.stack.now.items c.pop.new.self.items c.push.new.self.items c.in-Some.code
    c.in_ok-made-in-Some.made vs (λ v. HApply v (ctys c.args.types.now)) c.in-Some.ensures.items
    c.in_ok-push-in-Some.ensures.items
    (λ v e. c.in_ok-made-in-Some.ensures ∙ ap (λ t. applied_type t (ctys c.args.types.now)) e) h
