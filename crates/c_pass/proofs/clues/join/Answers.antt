use Rattle.std.proofs.Common.{rules, ◌≡◌, ◌∙◌, ap, ap₂, sym, List, []}
use Rattle.c_rules.specs.TSweep as T
use Rattle.c_emit.specs.declared.free_state.Found.{Found}
use Rattle.c_rules.specs.declared.levels.Levels.{Levels}
use Rattle.c_emit.specs.Swept.{founds, lists}
use Rattle.c_pass.specs.declared.state.Clue.{Clue}
use Rattle.c_pass.specs.Read.{clues_onto}
use Rattle.c_pass.proofs.Joins.{clues_push, clues_all}
use Rattle.c_pass.proofs.clues.join.Goals as goal

pub returns-in-None : goal.returns-in-None
returns-in-None c =
    let e : c.loop-f.types.items ≡ [] = search rules in
    sym (clues_all c.loop-f.made.items)
    ∙ ap (clues_onto c.loop-f.made.items)
    (sym (ap₂ T.zipped (ap (λ (xs : List Found). founds xs) c.in-Some.ensures.items)
    (ap (λ (xs : List Levels). lists xs) e)))
    ∙ c.loop-f.invariant

pub loop-f-preserved : goal.loop-f-preserved
loop-f-preserved c =
    let rest = T.zipped (founds c.pop_front.new.self.items) (lists c.pop_front-in-Some.new.self.items) in
    ap (λ (xs : List Clue). clues_onto xs rest) c.in_ok-push_back-in-Some-pop_front.ensures.items
    ∙ clues_push c.loop-f.made.items _ rest
    ∙ ap (clues_onto c.loop-f.made.items)
    (sym (ap₂ T.zipped (ap (λ (xs : List Found). founds xs) c.in-Some.ensures.items)
    (ap (λ (xs : List Levels). lists xs) c.in-Some-pop_front.ensures.items)))
    ∙ c.loop-f.invariant

pub returns : goal.returns
returns c =
    let e : c.loop-f.found.items ≡ [] = search rules in
    sym (clues_all c.loop-f.made.items)
    ∙ ap (clues_onto c.loop-f.made.items)
    (sym (ap (λ (xs : List Found). T.zipped (founds xs) (lists c.loop-f.types.items)) e))
    ∙ c.loop-f.invariant
